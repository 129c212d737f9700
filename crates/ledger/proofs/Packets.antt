-- Paper 02, Q-1: what is known of a whole packet that is taken in, and of a part that show answers, each fact by its name: all that lies
-- within its node's slot, and the slot within the memory that is lent. Assumes nothing.
use mathlib.Core.Path.{◌≡◌, sym, ap, ◌∙◌, subst}
use mathlib.Core.Bool.{true, false}
use mathlib.Core.List.{List, [], ◌∷◌, map}
use Prim.Native.Nat.{ℕ, ◌+◌, ◌≤◌, ◌<◌}
use native.Mathlib.Omega.{arith}
use lib.ListN.{length, drop}
use Rattle.ledger.specs.Settings.{Settings, slot_bytes, packet_room, keeps_packets}
use Rattle.ledger.specs.Rules.{Clear}
use Rattle.ledger.specs.Header.{form, fields_of, Load, whole}
use Rattle.ledger.specs.Ledger.{owner, is_node, Packet, free, prefetched, Ledger, list_at, PlaceIn}
use Rattle.ledger.specs.Calls.{arrive, show, entry, part, is_empty, first_of, other_size, other_sizes, rules, step}
use Rattle.ledger.specs.Sound.{All, Orderly, Roomy}
use Rattle.ledger.specs.Order.{ids_at}
use Rattle.ledger.specs.Packets.{slot_at}
use Rattle.ledger.proofs.Tests.{leb_no, not_yes, or_left, or_right}
use Rattle.ledger.proofs.Lists.{cons_form}
use Rattle.ledger.proofs.Header.{fields_in}
use Rattle.ledger.proofs.Places.{Node, node_is}
use Rattle.ledger.proofs.Keep.{some_queue, first_fits, first_node}
use Rattle.ledger.proofs.Passes.{same, whole_counted, Admits, admits}
use Rattle.ledger.proofs.Steps.{stepped}

-- a node's slot lies within its port's packet memory
pub slot_within : (S : Settings) (y : ℕ) → Node S y → slot_at y + slot_bytes ≤ packet_room S
unfolding packet_room
slot_within S y n = omega (arith, n.low)

-- ---- an arrival

-- node x is the oldest in its port's free list
abbrev pub FromPool : Settings → Ledger → ℕ → Type 0
FromPool S L x = (rest : List ℕ) × (ids_at S L (free (owner x)) ≡ x ∷ rest)

-- packet b, for which n bytes are lent at port p, is taken in by node x
pub record KeptWithin (S : Settings) (L : Ledger) (p n : ℕ) (b : List ℕ) (x : ℕ) : Type 0 where
  pub keeps : keeps_packets S ≡ true
  pub room : n ≡ packet_room S
  pub port : p < S.ports
  pub own : owner x ≡ p
  pub node : is_node S x ≡ true
  pub slot : slot_at x + slot_bytes ≤ n
  pub counted : length b ≡ (fields_of (form S) b).len
  pub short : length b < slot_bytes
  pub some : is_empty (list_at S L (free p)) ≡ false
  pub oldest : (first_of S L (free p)).node ≡ x
  pub was_free : FromPool S L x

module _ (S : Settings) (ok : Roomy S) (L : Ledger) (s : Orderly S L) where
  -- whatever arrives is taken in by the oldest free node of its port
  home : (p : ℕ) (h : Load) → Admits S L p h → owner (first_of S L (free p)).node ≡ p
  home p h a = (first_fits S ok L s (free p) (a.port, some_queue S ok L s) a.some).0

  pub from_pool : (p : ℕ) (h : Load) → Admits S L p h → FromPool S L (first_of S L (free p)).node
  from_pool p h a = (
    map (λ (k : Packet). k.node) (drop 1 (list_at S L (free p))),
    ap (λ (o : ℕ). ids_at S L (free o)) (home p h a) ∙ ap (map (λ (k : Packet). k.node)) (cons_form (list_at S L (free p)) a.some),
  )

  within : (p n : ℕ) (b : List ℕ) (x : ℕ) → (first_of S L (free p)).node ≡ x → Clear (rules S L (arrive p (whole n b))) → KeptWithin S L p n b x
  within p n b x e c =
      let a = admits S L p (whole n b) c in
      let v_in : PlaceIn S (free p) = (a.port, some_queue S ok L s) in
      let is : Node S x = rw e at (first_node S ok L s (free p) v_in a.some) in
      let size : n ≡ packet_room S = same n (packet_room S) a.sound.memory in
      let long : length b ≡ (fields_of (form S) b).len = whole_counted (form S) S.queues p n b a.header in
      record {
        keeps = not_yes (keeps_packets S) a.sound.kind;
        room = size;
        port = a.port;
        own = ap owner (sym e) ∙ home p (whole n b) a;
        node = node_is S x is;
        slot = omega (arith, slot_within S x is);
        counted = long;
        short = omega (arith, (fields_in (form S) b).len);
        some = a.some;
        oldest = e;
        was_free = subst (FromPool S L) e (from_pool p (whole n b) a);
      }

  pub kept_within : (p n : ℕ) (b : List ℕ) (x : ℕ) → (step S L (arrive p (whole n b))).0 ≡ entry x → KeptWithin S L p n b x
  kept_within p n b x =
      stepped S L (arrive p (whole n b)) (λ out. out.0 ≡ entry x → KeptWithin S L p n b x)
      (λ r i. absurd (let z : ◌≡◌ {A = ℕ} 0 1 = cc in omega arith))
      (λ c i. within p n b x (cc) c)

-- ---- a show

-- no length is another
none_other : (S : Settings) (ns : List ℕ) → other_sizes S ns ≡ false → All (λ k. k ≡ packet_room S) ns
none_other S [] e = tt
none_other S (n ∷ ns) e = (
  same n (packet_room S) (or_left (other_size S n) (other_sizes S ns) e),
  none_other S ns (or_right (other_size S n) (other_sizes S ns) e),
)

-- with memories of these lengths, n bytes of node x's slot are what port p shows of queue q
pub record PartWithin (S : Settings) (L : Ledger) (ns : List ℕ) (p q x n : ℕ) : Type 0 where
  pub keeps : keeps_packets S ≡ true
  pub rooms : All (λ k. k ≡ packet_room S) ns
  pub slots : PlaceIn S (prefetched p q)
  pub home : owner x < S.ports
  pub node : is_node S x ≡ true
  pub short : n < slot_bytes
  pub fits : slot_at x + n ≤ packet_room S
  pub some : is_empty (list_at S L (prefetched p q)) ≡ false
  pub oldest : (first_of S L (prefetched p q)).node ≡ x
  pub len : (first_of S L (prefetched p q)).len ≡ n

module _ (S : Settings) (ok : Roomy S) (L : Ledger) (s : Orderly S L) where
  shown : (ns : List ℕ) (p q x n : ℕ) → (first_of S L (prefetched p q)).node ≡ x → (first_of S L (prefetched p q)).len ≡ n
      → Clear (rules S L (show ns p q)) → PartWithin S L ns p q x n
  shown ns p q x n e d c =
      let v_in : PlaceIn S (prefetched p q) = (leb_no S.ports p c.1.1.0, leb_no S.queues q c.1.1.1.0) in
      let some : is_empty (list_at S L (prefetched p q)) ≡ false = c.1.1.1.1.0 in
      let home : Node S x = rw e at (first_node S ok L s (prefetched p q) v_in some) in
      let low = (first_fits S ok L s (prefetched p q) v_in some).2.len_high in
      record {
        keeps = not_yes (keeps_packets S) c.0;
        rooms = none_other S ns c.1.0;
        slots = v_in;
        home = home.home;
        node = node_is S x home;
        short = omega arith;
        fits = omega (arith, slot_within S x home);
        some = some;
        oldest = e;
        len = d;
      }

  pub part_within : (ns : List ℕ) (p q x n : ℕ) → (step S L (show ns p q)).0 ≡ part x n → PartWithin S L ns p q x n
  part_within ns p q x n =
      stepped S L (show ns p q) (λ out. out.0 ≡ part x n → PartWithin S L ns p q x n)
      (λ r i. absurd (let z : ◌≡◌ {A = ℕ} 0 1 = cc in omega arith))
      (λ c i. shown ns p q x n (cc) (cc) c)
