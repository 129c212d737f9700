-- Whether a ledger is sound can be decided: refusal 3 has a test. Assumes nothing.
use mathlib.Core.Path.{◌≡◌, ap, ◌∙◌, subst}
use mathlib.Core.Bool.{true, Bool-discrete}
use mathlib.Core.List.{List, [], ◌∷◌}
use Prim.Native.Nat.{ℕ, zero, suc, ◌+◌, ◌*◌, ◌^◌, ◌≤◌, ◌<◌, zero-le, suc-le-suc}
use native.Mathlib.Nat.{le_of_suc-le-suc, not-suc-le-zero, div-add-mod'}
use native.Mathlib.Decide.{map_dec, dec_le, dec_lt, ℕ_discrete}
use native.Mathlib.Omega.{arith}
use lib.ListN.{length, get_or}
use Rattle.ledger.specs.Settings.{Settings, in_rows, row}
use Rattle.ledger.specs.Header.{form, least_length, price}
use Rattle.ledger.specs.Ledger.{owner, index, entry_id, is_node, Packet, Place, free, ingress, egress, prefetched, place_of, Ledger, list_at}
use Rattle.ledger.specs.Ledger.{arrival_of, mark_of, Column, column#, tall, bound}
use Rattle.ledger.specs.Ready.{bit}
use Rattle.ledger.specs.Halt.{is_mark}
use Rattle.ledger.specs.Sound.{All, Everywhere, weigh, Shaped, InRange, one, Once, OwnPort, OwnQueue, Proper, WellRecorded, owed}
use Rattle.ledger.specs.Sound.{Orderly, Marked, Sound, Roomy}
use Rattle.ledger.proofs.Lists.{everywhere_map, counted}
use Rattle.ledger.proofs.Places.{node_of, node_is}
use Rattle.ledger.proofs.Rows.{roomy}
use Rattle.ledger.proofs.Find.{once_by_test}
use Rattle.ledger.proofs.Columns.{column_at_lem, column_at, columns}

-- ---- decisions of parts

pub and_dec : {A B : Type 0} → Dec A → Dec B → Dec (A × B)
and_dec (yes a) (yes b) = yes (a, b)
and_dec (yes a) (no n) = no (λ p. n p.1)
and_dec (no n) d = no (λ p. n p.0)

-- where the premise fails there is nothing to decide
imp_dec : {A B : Type 0} → Dec A → Dec B → Dec (A → B)
imp_dec (yes a) d = map_dec (λ b x. b) (λ f. f a) d
imp_dec (no n) d = yes (λ a. absurd (n a))

pub below_dec : (P : ℕ → Type 0) (n : ℕ) → ((i : ℕ) → Dec (P i)) → Dec ((i : ℕ) → i < n → P i)
below_dec P zero d = yes (λ i h. absurd (not-suc-le-zero h))
below_dec P (suc n) d =
    map_dec (λ p i. (elim i as (λ j. j < suc n → P j) [ zero ↦ λ h. p.0 | suc j ↦ λ h. p.1 j (le_of_suc-le-suc h) ]))
    (λ f. (f 0 (suc-le-suc zero-le), λ i h. f (suc i) (suc-le-suc h)))
    (and_dec (d 0) (below_dec (λ i. P (suc i)) n (λ i. d (suc i))))

all_dec : (P : Packet → Type 0) → ((k : Packet) → Dec (P k)) → (ks : List Packet) → Dec (All P ks)
all_dec P d [] = yes tt
all_dec P d (k ∷ ks) = and_dec (d k) (all_dec P d ks)

everywhere_dec : (P : ℕ → Packet → Type 0) → ((l : ℕ) (k : Packet) → Dec (P l k)) → (ls : List (List Packet)) → Dec (Everywhere P ls)
everywhere_dec P d ls =
    map_dec (λ f. record { holds = f }) (λ e. e.holds) (below_dec (λ l. All (P l) (get_or ls l [])) (length ls) (λ l. all_dec (P l) (d l) (get_or ls l [])))

-- ---- the rules

module _ (S : Settings) where
  -- for each column
  columns_dec : (P : Column → Type 0) → ((c : Column) → Dec (P c)) → Dec ((c : Column) → P c)
  columns_dec P d =
      map_dec (λ f c. subst P (column_at_lem c).1 (f (column# c) (column_at_lem c).0)) (λ f i h. f (column_at i))
      (below_dec (λ i. P (column_at i)) (length columns) (λ i. d (column_at i)))

  shaped_dec : (L : Ledger) → Dec (Shaped S L)
  shaped_dec L =
      map_dec (λ t. record { lists_long = t.0; numbers_long = t.1 }) (λ r. (r.lists_long, r.numbers_long))
      (and_dec (ℕ_discrete (length L.lists) (S.ports * row S))
      (columns_dec (λ c. length (L.numbers c) ≡ tall S c) (λ c. ℕ_discrete (length (L.numbers c)) (tall S c))))

  -- for each port and queue
  both_dec : (P : ℕ → ℕ → Type 0) → ((p q : ℕ) → Dec (P p q)) → Dec ((p q : ℕ) → p < S.ports → q < S.queues → P p q)
  both_dec P d =
      map_dec (λ f p q hp hq. f p hp q hq) (λ f p hp q hq. f p q hp hq)
      (below_dec (λ p. (q : ℕ) → q < S.queues → P p q) S.ports (λ p. below_dec (P p) S.queues (d p)))

  ranges_dec : (L : Ledger) → Dec (InRange S L)
  ranges_dec L =
      map_dec (λ t. record { numbers_in = t.0; slots_in = t.1 }) (λ r. (r.numbers_in, r.slots_in))
      (and_dec (columns_dec (λ c. (i : ℕ) → i < tall S c → get_or (L.numbers c) i 0 < bound S c)
      (λ c. below_dec (λ i. get_or (L.numbers c) i 0 < bound S c) (tall S c) (λ i. dec_lt (get_or (L.numbers c) i 0) (bound S c))))
      (both_dec (λ p q. length (list_at S L (prefetched p q)) ≤ S.slots) (λ p q. dec_le (length (list_at S L (prefetched p q))) S.slots)))

  -- rule (c) speaks of all numbers; it is enough to look at the members of the lists, and at the nodes
  once_dec : S.nodes ≤ 2048 → (ls : List (List Packet)) → Dec (Once S ls)
  once_dec few ls =
      map_dec
      (λ t. once_by_test S ls t.0
      (λ y h.
      let n = node_of S y (omega (arith, ap bit h)) in
      subst (λ (z : ℕ). weigh (one z) ls ≡ 1) (div-add-mod' y 2048) (t.1 (owner y) n.home (index y) n.low)))
      (λ f. (
        everywhere_map ls (λ l k c. node_is S k.node (node_of S k.node (omega (arith, f k.node)))) (counted ls),
        λ p hp i hi. f (entry_id p i) ∙ ap bit (node_is S (entry_id p i) (record { home = omega arith; low = omega arith })),
      ))
      (and_dec (everywhere_dec (λ l k. is_node S k.node ≡ true) (λ l k. Bool-discrete (is_node S k.node) true) ls)
      (below_dec (λ p. (i : ℕ) → i < S.nodes → weigh (one (entry_id p i)) ls ≡ 1) S.ports
      (λ p. below_dec (λ i. weigh (one (entry_id p i)) ls ≡ 1) S.nodes (λ i. ℕ_discrete (weigh (one (entry_id p i)) ls) 1))))

  own_port_dec : (v : Place) (k : Packet) → Dec (OwnPort v k)
  own_port_dec (free p) k = ℕ_discrete (owner k.node) p
  own_port_dec (ingress p) k = ℕ_discrete (owner k.node) p
  own_port_dec (egress p q) k = yes tt
  own_port_dec (prefetched p q) k = yes tt

  own_queue_dec : (v : Place) (k : Packet) → Dec (OwnQueue v k)
  own_queue_dec (free p) k = yes tt
  own_queue_dec (ingress p) k = yes tt
  own_queue_dec (egress p q) k = ℕ_discrete k.queue q
  own_queue_dec (prefetched p q) k = ℕ_discrete k.queue q

  proper_dec : (k : Packet) → Dec (Proper S k)
  proper_dec k =
      map_dec
      (λ t. record {
        len_low = t.0;
        len_high = t.1.0;
        queue_in_range = t.1.1.0;
        dest_in = t.1.1.1.0;
        stamp_in = t.1.1.1.1.0;
        poisoned_in = t.1.1.1.1.1.0;
        transaction_in = t.1.1.1.1.1.1.0;
        price_is = t.1.1.1.1.1.1.1;
      })
      (λ r. (r.len_low, (r.len_high, (r.queue_in_range, (r.dest_in, (r.stamp_in, (r.poisoned_in, (r.transaction_in, r.price_is))))))))
      (and_dec (dec_le (least_length (form S)) k.len)
      (and_dec (dec_lt k.len (2 ^ 13))
      (and_dec (dec_lt k.queue S.queues)
      (and_dec (dec_lt k.dest (2 ^ (form S).port_bits))
      (and_dec (dec_lt k.stamp (2 ^ 32))
      (and_dec (dec_lt k.poisoned 2)
      (and_dec (dec_lt k.transaction 256) (ℕ_discrete k.price (price S.beat k.queue k.len)))))))))

  recorded_dec : (v : Place) (k : Packet) → Dec (WellRecorded S v k)
  recorded_dec (free p) k = yes tt
  recorded_dec (ingress p) k = proper_dec k
  recorded_dec (egress p q) k = proper_dec k
  recorded_dec (prefetched p q) k = proper_dec k

  -- a rule about each node in its place
  placed_dec : (P : Place → Packet → Type 0) → ((v : Place) (k : Packet) → Dec (P v k)) → (ls : List (List Packet))
      → Dec (Everywhere (λ l k. P (place_of S l) k) ls)
  placed_dec P d ls = everywhere_dec (λ l k. P (place_of S l) k) (λ l k. d (place_of S l) k) ls

  paid_dec : (L : Ledger) → Dec ((p q : ℕ) → p < S.ports → 0 < q → q < S.queues → arrival_of S L p q + weigh (owed S p q) L.lists ≡ S.credit)
  paid_dec L =
      map_dec (λ f p q hp h0 hq. f p q hp hq h0) (λ f p q hp hq h0. f p q hp h0 hq)
      (both_dec (λ p q. 0 < q → arrival_of S L p q + weigh (owed S p q) L.lists ≡ S.credit)
      (λ p q. imp_dec (dec_lt 0 q) (ℕ_discrete (arrival_of S L p q + weigh (owed S p q) L.lists) S.credit)))

  pub orderly_dec : Roomy S → (L : Ledger) → Dec (Orderly S L)
  orderly_dec r L =
      map_dec
      (λ t.
      let u = t.1.1 in
      record { shaped = t.0; ranges = t.1.0; once = u.0; owned = u.1.0; queued = u.1.1.0; proper = u.1.1.1.0; paid = u.1.1.1.1 })
      (λ s. (s.shaped, (s.ranges, (s.once, (s.owned, (s.queued, (s.proper, s.paid)))))))
      (and_dec (shaped_dec L)
      (and_dec (ranges_dec L)
      (and_dec (once_dec r.few_nodes L.lists)
      (and_dec (placed_dec OwnPort own_port_dec L.lists)
      (and_dec (placed_dec OwnQueue own_queue_dec L.lists)
      (and_dec (placed_dec (WellRecorded S) recorded_dec L.lists) (paid_dec L)))))))

  marked_dec : (L : Ledger) → Dec (Marked S L)
  marked_dec L = below_dec (λ p. is_mark (mark_of L p) ≡ true) S.ports (λ p. Bool-discrete (is_mark (mark_of L p)) true)

  pub sound_dec : (L : Ledger) → Dec (Sound S L)
  sound_dec L = go (Bool-discrete (in_rows S) true)
    where
      go : Dec (in_rows S ≡ true) → Dec (Sound S L)
      go (no n) = no (λ s. n s.rows)
      go (yes e) =
          map_dec (λ t. record { rows = e; orderly = t.0; marked = t.1 }) (λ s. (s.orderly, s.marked))
          (and_dec (orderly_dec (roomy S e) L) (marked_dec L))
