-- The tests mean the rules: nothing is found exactly where rule (d), (e) or (f) holds of the ledger that the memory shows.
-- Assumes nothing.
use mathlib.Core.Path.{◌≡◌, refl, sym, subst}
use mathlib.Core.Logic.{◌↔◌}
use mathlib.Core.Bool.{Bool, true, false, cond, ◌||◌}
use mathlib.Core.List.{List, [], ◌∷◌, map}
use Prim.Native.Nat.{ℕ, zero, suc, ◌+◌, ◌-◌, ◌/◌, ◌%◌, ◌^◌, ◌≤◌, ◌<◌}
use native.Mathlib.Decide.{ℕ_discrete}
use native.Mathlib.Omega.{arith}
use lib.Dec.{eqb, ltb, leb}
use Rattle.std.specs.Prelude.{Option, None, Some}
use Rattle.ledger.specs.Settings.{Settings, row}
use Rattle.ledger.specs.Header.{form, least_length, price}
use Rattle.ledger.specs.Ledger.{owner, Packet, bare, Place, free, ingress, egress, prefetched, place_in, place_of}
use Rattle.ledger.specs.Sound as sound
use Rattle.ledger.specs.Sound.{All, Everywhere, Proper, WellRecorded}
use Rattle.ledger.proofs.Tests.{true≢false, leb_yes, leb_is, ltb_yes, ltb_is, ltb_not, eqb_yes, eqb_is, eqb_not, and_left, and_right}
use Rattle.layout.specs.declared.Table.TheVariants.{Stamp, Transaction}
use Rattle.layout.specs.Tables.{lists}
use Rattle.layout.specs.Picture.{slot, nodes_of, packet_at, node_in, ledger_in}
use Rattle.layout.proofs.Tables.{get_lt}
use Rattle.memory.proofs.Chains.{length_lists, list_at_lem}
use Rattle.fits.specs.declared.NodeRule.{NodeRule}
use Rattle.fits.specs.declared.NodeRule.TheVariants.{OwnPort, OwnQueue, Record}
use Rattle.fits.specs.Fits.{spared, range_test, fields_test, proper_test, rule_test, node_test, first_bad, or_else, list_found, fits_from, fits_found}

-- ---- a node in its place

-- what a rule asks
abbrev pub NodeHolds : NodeRule → Settings → Place → Packet → Type 0
NodeHolds OwnPort S v k = sound.OwnPort v k
NodeHolds OwnQueue S v k = sound.OwnQueue v k
NodeHolds Record S v k = WellRecorded S v k

-- an equation's test
equal : (a b : ℕ) → (eqb a b ≡ true) ↔ (a ≡ b)
equal a b = (eqb_yes a b, eqb_is a b)

-- where a rule says nothing its test is passed
silent : {b : Bool} → b ≡ true → (b ≡ true) ↔ Unit {0}
silent e = (λ t. tt, λ u. e)

-- the fields that no test asks are as small as the bytes that hold them
tested_proper : (S : Settings) (m : List ℕ) (x : ℕ) → proper_test S (packet_at S m x) ≡ true → Proper S (packet_at S m x)
unfolding proper_test fields_test range_test packet_at
tested_proper S m x e =
    let k : Packet = packet_at S m x in
    let len = and_left (range_test S k.len k.queue k.dest k.poisoned) _ e in
    let high = and_right (leb (least_length (form S)) k.len) _ len in
    let queue = and_right (ltb k.len (2 ^ 13)) _ high in
    let dest = and_right (ltb k.queue S.queues) _ queue in
    record {
      len_low = leb_yes (least_length (form S)) k.len (and_left _ _ len);
      len_high = ltb_yes k.len (2 ^ 13) (and_left _ _ high);
      queue_in_range = ltb_yes k.queue S.queues (and_left _ _ queue);
      dest_in = ltb_yes k.dest (2 ^ (form S).port_bits) (and_left _ _ dest);
      stamp_in = get_lt S m Stamp (slot S x);
      poisoned_in = ltb_yes k.poisoned 2 (and_right (ltb k.dest (2 ^ (form S).port_bits)) _ dest);
      transaction_in = get_lt S m Transaction (slot S x);
      price_is = eqb_yes k.price (price S.beat k.queue k.len) (and_right (range_test S k.len k.queue k.dest k.poisoned) _ e);
    }

proper_tested : (S : Settings) (k : Packet) → Proper S k → proper_test S k ≡ true
unfolding proper_test fields_test range_test
proper_tested S k p =
    rw (
      leb_is (least_length (form S)) k.len p.len_low,
      ltb_is k.len (2 ^ 13) p.len_high,
      ltb_is k.queue S.queues p.queue_in_range,
      ltb_is k.dest (2 ^ (form S).port_bits) p.dest_in,
      ltb_is k.poisoned 2 p.poisoned_in,
      eqb_is k.price (price S.beat k.queue k.len) p.price_is,
    )

module _ (S : Settings) (m : List ℕ) (p x : ℕ) where
  abbrev Means : NodeRule → ℕ → Place → Packet → Type 0
  Means rule c v k = ((spared rule c || rule_test rule S p c (packet_at S m x)) ≡ true) ↔ NodeHolds rule S v k

  proper : (proper_test S (packet_at S m x) ≡ true) ↔ Proper S (packet_at S m x)
  proper = (tested_proper S m x, proper_tested S (packet_at S m x))

  -- in the free list, the ingress list, and the others
  in_free : (rule : NodeRule) → Means rule 0 (free p) (bare x)
  unfolding rule_test packet_at
  in_free OwnPort = equal (owner x) p
  in_free OwnQueue = silent refl
  in_free Record = silent refl

  in_ingress : (rule : NodeRule) → Means rule 1 (ingress p) (packet_at S m x)
  unfolding rule_test packet_at
  in_ingress OwnPort = equal (owner x) p
  in_ingress OwnQueue = silent refl
  in_ingress Record = proper

  in_other : (rule : NodeRule) (n : ℕ) (b : Bool) → ltb n S.queues ≡ b
      → Means rule (suc (suc n)) (cond b (egress p n) (prefetched p (n - S.queues))) (packet_at S m x)
  unfolding rule_test
  in_other OwnPort n true e = silent (rw (leb_is 2 (suc (suc n)) (omega arith)))
  in_other OwnPort n false e = silent (rw (leb_is 2 (suc (suc n)) (omega arith)))
  in_other OwnQueue n true e = let d : suc (suc n) - 2 ≡ n = omega arith in rw (ltb_not (suc (suc n)) 2 (omega arith), d, e) (equal _ n)
  in_other OwnQueue n false e = let d : suc (suc n) - 2 ≡ n = omega arith in rw (ltb_not (suc (suc n)) 2 (omega arith), d, e) (equal _ (n - S.queues))
  in_other Record n true e = rw (eqb_not (suc (suc n)) 0 (omega arith)) proper
  in_other Record n false e = rw (eqb_not (suc (suc n)) 0 (omega arith)) proper

  in_column : (rule : NodeRule) (c : ℕ) → Means rule c (place_in S p c) (cond (eqb c 0) (bare x) (packet_at S m x))
  in_column rule zero = in_free rule
  in_column rule (suc zero) = in_ingress rule
  in_column rule (suc (suc n)) = rw (eqb_not (suc (suc n)) 0 (omega arith)) (in_other rule n (ltb n S.queues) refl)

pub node_means : (rule : NodeRule) (S : Settings) (m : List ℕ) (l x : ℕ) → (node_test rule S m l x ≡ true) ↔ NodeHolds rule S (place_of S l) (node_in S m l x)
unfolding place_of node_in
node_means rule S m l x = in_column S m (l / row S) x rule (l % row S)

-- ---- findings: a test that finds nothing, and then another

pub none : (x : ℕ) → Some x ≡ None → ⊥
none x e = let z : ◌≡◌ {A = ℕ} 0 1 = cc in omega arith

first_step : {P R : Type 0} (b : Bool) (F : Option ℕ) (x : ℕ) → (b ≡ true) ↔ P → (F ≡ None) ↔ R → (cond b F (Some x) ≡ None) ↔ (P × R)
first_step true F x f g = (λ e. (f.0 refl, g.0 e), λ a. g.1 a.1)
first_step false F x f g = (λ e. absurd (none x e), λ a. absurd (true≢false (sym (f.1 a.0))))

list_step : {P R : Type 0} (F G : Option ℕ) → (F ≡ None) ↔ P → (G ≡ None) ↔ R → (or_else F G ≡ None) ↔ (P × R)
list_step None G f g = (λ e. (f.0 refl, g.0 e), λ a. g.1 a.1)
list_step (Some x) G f g = (λ e. absurd (none x e), λ a. absurd (none x (f.1 a.0)))

pub first_means : {A : Type 0} (t : ℕ → Bool) (P : A → Type 0) (f : ℕ → A) → ((x : ℕ) → (t x ≡ true) ↔ P (f x)) → (xs : List ℕ)
    → (first_bad t xs ≡ None) ↔ All P (map f xs)
unfolding first_bad
first_means t P f h [] = (λ e. tt, λ a. refl)
first_means t P f h (x ∷ xs) = first_step (t x) (first_bad t xs) x (h x) (first_means t P f h xs)

-- what holds of l and of those after it
from_next : (P : ℕ → Type 0) (l n : ℕ) → (P l × ((i : ℕ) → suc l ≤ i → i < suc l + n → P i)) ↔ ((i : ℕ) → l ≤ i → i < l + suc n → P i)
from_next P l n = (λ a i low high. go a i low high (ℕ_discrete l i), λ f. (f l (omega arith) (omega arith), λ i low high. f i (omega arith) (omega arith)))
  where
    go : P l × ((i : ℕ) → suc l ≤ i → i < suc l + n → P i) → (i : ℕ) → l ≤ i → i < l + suc n → Dec (l ≡ i) → P i
    go a i low high (yes e) = subst P e a.0
    go a i low high (no d) = a.1 i (omega arith) (omega arith)

module _ (rule : NodeRule) (S : Settings) (m : List ℕ) where
  -- the rule, of list l
  abbrev Listed : ℕ → Type 0
  Listed l = All (NodeHolds rule S (place_of S l)) (map (node_in S m l) (nodes_of S m l))

  from_means : (l n : ℕ) → (fits_from rule S m l n ≡ None) ↔ ((i : ℕ) → l ≤ i → i < l + n → Listed i)
  unfolding fits_from
  from_means l zero = (λ e i low high. absurd (omega arith), λ f. refl)
  from_means l (suc n) =
      let s = list_step (list_found rule S m l) (fits_from rule S m (suc l) n)
      (first_means (node_test rule S m l) (NodeHolds rule S (place_of S l)) (node_in S m l) (node_means rule S m l) (nodes_of S m l)) (from_means (suc l) n) in
      let w = from_next Listed l n in
      (λ e. w.0 (s.0 e), λ f. s.1 (w.1 f))

  -- (d), (e) or (f) of the whole ledger
  pub fits_means : (fits_found rule S m ≡ None) ↔ Everywhere (λ l k. NodeHolds rule S (place_of S l) k) (ledger_in S m).lists
  unfolding fits_found
  fits_means =
      let f = from_means 0 (lists S) in (
        λ e. record { holds = λ l h. let b : l < lists S = rw (length_lists S m) at h in rw (list_at_lem S m l b) (f.0 e l (omega arith) (omega arith)) },
        λ w. f.1 (λ l low high. let b : l < lists S = omega arith in rw (list_at_lem S m l b) at (w.holds l (rw (length_lists S m) b))),
      )
