-- What ready and turn come to, with no code. Assumes nothing.
use mathlib.Core.Path.{◌≡◌, refl, sym, ap, ◌∙◌, subst}
use mathlib.Core.Bool.{Bool, true, false, ◌||◌}
use mathlib.Core.List.{List, [], ◌∷◌}
use Prim.Native.Nat.{ℕ, zero, suc, ◌+◌, ◌-◌, ◌*◌, ◌/◌, ◌%◌, ◌^◌, ◌≤◌, ◌<◌}
use native.Mathlib.Nat.{div-div-eq-div-mul, div-mul-le_self, mod-eq_of_lt, mul_assoc, mul_comm, pow-suc, div-le_self, zero-add, mul-le-mul_right}
use native.Mathlib.Omega.{arith}
use lib.Dec.{eqb, leb}
use lib.Pow.{pow_mono}
use Rattle.ledger.specs.Settings.{Settings}
use Rattle.ledger.specs.Header.{price}
use Rattle.ledger.specs.Ledger.{owner, Packet, free, prefetched, place#, Ledger, list_at, arrival_of, outward_of, last_of}
use Rattle.ledger.specs.Ready.{bit, covered, is_ready, word_of, ready_word, masked_above, pick}
use Rattle.ledger.specs.Buckets.{untimed}
use Rattle.ledger.specs.Calls.{Reply, leaves, turn, Side, side_of, is_empty, first_of}
use Rattle.ledger.specs.Sound.{Roomy}
use Rattle.ledger.proofs.Tests.{leb_not, leb_yes, eqb_yes, eqb_not, true≢false}
use Rattle.ledger.proofs.Places.{place#_lt}
use Rattle.std.specs.Int.{from_bool}
use Rattle.ledger.proofs.Lists.{cons_form}
use Rattle.ledger.proofs.Header.{price_free}
use Rattle.ledger.proofs.Keep.{Fits, first_fits}
use Rattle.ledger.proofs.Ready.{word_lt, picked_ready}
use Rattle.ledger.proofs.Rows.{roomy}
use Rattle.layout.specs.declared.Table.TheVariants.{Last, Arrival, Outward, Head, Count}
use Rattle.layout.specs.Tables.{lists, get, put}
use Rattle.layout.specs.Picture.{packet_at, ledger_in, StateOf}
use Rattle.memory.specs.Ends.{pop_mem, push_mem}
use Rattle.memory.specs.Writes.{head_of, move_mem, credit_mem, serve_mem, tick_mem}
use Rattle.memory.specs.Memory.{acted}
use Rattle.memory.proofs.Paint.{empty_is, some_is}
use Rattle.memory.proofs.Chains.{node_from}
use Rattle.memory.proofs.Judging.{first_is_node}
use Rattle.memory.proofs.Square.{first_held, j_is, given_fits}

-- ---- one queue

module _ (S : Settings) (m : List ℕ) (s : StateOf S m) (p q : ℕ) (hp : p < S.ports) (hq : q < S.queues) where
  abbrev L : Ledger
  L = ledger_in S m

  abbrev l : ℕ
  l = place# S (prefetched p q)

  pub l_in : l < lists S
  l_in = place#_lt S (prefetched p q) (hp, hq)

  pub none_ready : get S m Count l ≡ 0 → is_ready S L p q ≡ false
  unfolding is_ready
  none_ready e = go (list_at S L (prefetched p q)) (empty_is S m l l_in e)
    where
      go : (ks : List Packet) → is_empty ks ≡ true → covered q (outward_of S L p q) ks ≡ false
      go [] i = refl
      go (k ∷ ks) i = absurd (true≢false (sym i))

  -- with something in the slots, the oldest decides
  pub some_ready : (get S m Count l ≡ 0 → ⊥) → is_ready S L p q ≡ (eqb q 0 || leb (packet_at S m (get S m Head l)).price (outward_of S L p q))
  unfolding is_ready
  some_ready n =
      let e = some_is S m l l_in n in
      ap (covered q (outward_of S L p q)) (cons_form (list_at S L (prefetched p q)) e)
      ∙ ap (λ (k : Packet). eqb q 0 || leb k.price (outward_of S L p q))
      (first_held S (roomy S s.sound.rows) m s (prefetched p q) (hp, hq) (omega arith) e)

pub ruleset readies = (none_ready, some_ready)

-- ---- the word, a bit at a time from the highest

word_ext : (r t : ℕ → Bool) (n : ℕ) → ((i : ℕ) → r i ≡ t i) → word_of r n ≡ word_of t n
unfolding word_of
word_ext r t zero f = refl
word_ext r t (suc n) f = omega (arith, ap bit (f 0), word_ext (λ i. r (suc i)) (λ i. t (suc i)) n (λ i. f (suc i)))

pub word_down : (r : ℕ → Bool) (n q : ℕ) → 0 < q → q ≤ n → word_of (λ i. r (q + i)) (n - q) * 2 + bit (r (q - 1)) ≡ word_of (λ i. r (q - 1 + i)) (n - (q - 1))
unfolding word_of
word_down r n q h k =
    let e : n - (q - 1) ≡ suc (n - q) = omega arith in
    rw e
    (let f : word_of (λ i. r (q - 1 + suc i)) (n - q) ≡ word_of (λ i. r (q + i)) (n - q) =
    word_ext (λ i. r (q - 1 + suc i)) (λ i. r (q + i)) (n - q) (λ i. ap r (omega arith)) in
    let z : bit (r (q - 1 + 0)) ≡ bit (r (q - 1)) = ap (λ (j : ℕ). bit (r j)) (omega arith) in
    omega arith)

pub word_start : (r : ℕ → Bool) (n : ℕ) → 0 ≡ word_of (λ i. r (n + i)) (n - n)
unfolding word_of
word_start r n = let e : n - n ≡ 0 = omega arith in rw e

pub word_end : (r : ℕ → Bool) (n q : ℕ) → q ≡ 0 → word_of (λ i. r (q + i)) (n - q) ≡ word_of r n
word_end r n q e =
    rw e
    (let z : n - 0 ≡ n = omega arith in
    rw z (word_ext (λ i. r (0 + i)) r n (λ i. ap r (zero-add i))))

-- the word so far leaves room for one bit more
pub word_room : (r : ℕ → Bool) (n q : ℕ) → n ≤ 64 → 0 < q → q ≤ n → word_of (λ i. r (q + i)) (n - q) < 2 ^ 63
word_room r n q few h k =
    let a = word_lt (λ i. r (q + i)) (n - q) in
    let d : n - q ≤ 63 = omega arith in
    let b : 2 ^ (n - q) ≤ 2 ^ 63 = pow_mono d in
    omega arith

-- a bit, as the code makes it of a test
pub bit_is : (b : Bool) → from_bool b ≡ bit b
bit_is true = refl
bit_is false = refl

-- ---- the pick, as the machine shifts

pub masked_is : (w m : ℕ) → w < 2 ^ 64 → m < 64 → w / 2 ^ m / 2 * 2 % 2 ^ 64 * 2 ^ m % 2 ^ 64 ≡ masked_above m w
unfolding masked_above
masked_is w m hw hm =
    let x : ℕ = w / 2 ^ m / 2 in
    let twice : x * 2 ≤ w / 2 ^ m = div-mul-le_self (w / 2 ^ m) 2 in
    let whole : w / 2 ^ m * 2 ^ m ≤ w = div-mul-le_self w (2 ^ m) in
    let part : w / 2 ^ m ≤ w = div-le_self w (2 ^ m) in
    let low : x * 2 < 2 ^ 64 = omega arith in
    let back : x * 2 * 2 ^ m ≤ w / 2 ^ m * 2 ^ m = mul-le-mul_right (2 ^ m) twice in
    let small : x * 2 * 2 ^ m < 2 ^ 64 = omega arith in
    let e₁ : x * 2 % 2 ^ 64 ≡ x * 2 = mod-eq_of_lt low in
    let e₂ : x * 2 * 2 ^ m % 2 ^ 64 ≡ x * 2 * 2 ^ m = mod-eq_of_lt small in
    let e₃ : x ≡ w / 2 ^ suc m = div-div-eq-div-mul w (2 ^ m) 2 ∙ ap (λ (n : ℕ). w / n) (sym (pow-suc 2 m)) in
    let e₄ : x * 2 * 2 ^ m ≡ x * 2 ^ suc m = mul_assoc x 2 (2 ^ m) ∙ ap (λ (n : ℕ). x * n) (mul_comm 2 (2 ^ m) ∙ sym (pow-suc 2 m)) in
    ap (λ (n : ℕ). n * 2 ^ m % 2 ^ 64) e₁ ∙ e₂ ∙ e₄ ∙ ap (λ (n : ℕ). n * 2 ^ suc m) e₃

-- ---- a turn

module _ (S : Settings) (m : List ℕ) (p : ℕ) where
  module _ (hp : p < S.ports) where
    -- what is known of the queue that is picked
    module _ (s : StateOf S m) (n : ready_word S (ledger_in S m) p ≡ 0 → ⊥) where
      abbrev N : Ledger
      N = ledger_in S m

      abbrev pub q : ℕ
      q = pick (last_of N p) (ready_word S N p)

      ok : Roomy S
      ok = roomy S s.sound.rows

      picked : (q < S.queues) × (is_ready S N p q ≡ true)
      unfolding ready_word
      picked = picked_ready (is_ready S N p) (last_of N p) S.queues ok.few_queues (eqb_not (ready_word S N p) 0 n)

      pub q_in : q < S.queues
      q_in = picked.0

      pub q_some : get S m Count (place# S (prefetched p q)) ≡ 0 → ⊥
      q_some e = true≢false (sym picked.1 ∙ none_ready S m s p q hp q_in e)

      -- the packet that leaves
      abbrev pub k : Packet
      k = packet_at S m (head_of S m (prefetched p q))

      full : is_empty (list_at S N (prefetched p q)) ≡ false
      full = some_is S m (place# S (prefetched p q)) (place#_lt S (prefetched p q) (hp, q_in)) q_some

      k_is : first_of S N (prefetched p q) ≡ k
      k_is = first_held S ok m s (prefetched p q) (hp, q_in) (omega arith) full

      pub k_covered : k.price ≤ outward_of S N p q
      k_covered = go (eqb q 0) refl (sym (some_ready S m s p q hp q_in q_some) ∙ picked.1)
        where
          fits : Fits S (prefetched p q) k
          fits = subst (Fits S (prefetched p q)) k_is (first_fits S ok N s.sound.orderly (prefetched p q) (hp, q_in) full)

          go : (b : Bool) → eqb q 0 ≡ b → (b || leb k.price (outward_of S N p q)) ≡ true → k.price ≤ outward_of S N p q
          go true i e =
              let z : k.queue ≡ 0 = fits.1 ∙ eqb_yes q 0 i in
              omega (arith, fits.2.price_is ∙ ap (λ (t : ℕ). price S.beat t k.len) z ∙ price_free S.beat k.len)
          go false i e = leb_yes k.price (outward_of S N p q) e

      pub leaves_is : (leaves k (side_of q), serve_mem S p q k m) ≡ acted S m (turn untimed p)
      unfolding acted tick_mem
      leaves_is = rw (leb_not S.ports p hp, eqb_not (ready_word S N p) 0 n) (ap (λ (j : Packet). (leaves j (side_of q), serve_mem S p q k m)) (sym k_is))

-- ---- what serving writes

-- the home of a list's first node is a port
pub home_in : (S : Settings) (m : List ℕ) (l : ℕ) → StateOf S m → l < lists S → (get S m Count l ≡ 0 → ⊥) → owner (get S m Head l) < S.ports
home_in S m l s h some = (node_from S (get S m Head l) (first_is_node S m l s h some)).home

pub free_in : (S : Settings) → Roomy S → (h : ℕ) → h < S.ports → place# S (free h) < lists S
free_in S ok h hh = place#_lt S (free h) (hh, omega (arith, ok.some_queues))

module _
    (S : Settings) (m : List ℕ) (s : StateOf S m) (p q : ℕ) (hp : p < S.ports) (hq : q < S.queues)
    (some : 0 < get S m Count (place# S (prefetched p q)))
  where
    -- the oldest node, and its packet
    abbrev x : ℕ
    x = head_of S m (prefetched p q)

    abbrev P : Packet
    P = packet_at S m x

    filled : is_empty (list_at S (ledger_in S m) (prefetched p q)) ≡ false
    filled = some_is S m (place# S (prefetched p q)) (place#_lt S (prefetched p q) (hp, hq)) (λ z. omega (arith, z))

    -- the credit that goes back fits
    pub given_small : arrival_of S (ledger_in S m) (owner x) q + P.price < 65536
    unfolding packet_at
    given_small =
        let ok = roomy S s.sound.rows in
        subst (λ (k : Packet). arrival_of S (ledger_in S m) (owner k.node) q + k.price < 65536) (j_is S ok m s p q hp hq filled)
        (given_fits S ok m s p q hp hq filled)

    -- the home, the credits, the shift and the settling make up what serving writes
    pub serve_mem_lem : {m' n : List ℕ} {h g l : ℕ} → h ≡ owner x
        → g ≡ arrival_of S (ledger_in S m) (owner x) q + P.price → l ≡ outward_of S (ledger_in S m) p q - P.price
        → n ≡ push_mem S (place# S (free h)) x (pop_mem S (place# S (prefetched p q)) m)
        → m' ≡ put S Last p q (credit_mem S Outward p q l (credit_mem S Arrival h q g n))
        → m' ≡ serve_mem S p q P m
    unfolding serve_mem move_mem packet_at
    serve_mem_lem eh eg el en e = e ∙ rw (en, eh, eg, el)

pub ruleset departs = (home_in, free_in, given_small, serve_mem_lem)

-- what leaves, as the code has it
pub turn_leaves : (S : Settings) (m : List ℕ) (p : ℕ) (hp : p < S.ports) (s : StateOf S m) (n : ready_word S (ledger_in S m) p ≡ 0 → ⊥)
    → (q' : ℕ) → q' ≡ pick (last_of (ledger_in S m) p) (ready_word S (ledger_in S m) p)
    → (k' : Packet) (side : Side) (m' : List ℕ)
    → k' ≡ packet_at S m (head_of S m (prefetched p q')) → side ≡ side_of q' → m' ≡ serve_mem S p q' (packet_at S m (head_of S m (prefetched p q'))) m
    → ◌≡◌ {A = Reply × List ℕ} (leaves k' side, m') (acted S m (turn untimed p))
turn_leaves S m p hp s n q' eq k' side m' ek es em = rw (ek, es, em, eq) (leaves_is S m p hp s n)
