-- What `push_mem` does to the lists. Assumes nothing.
use mathlib.Core.Path.{◌≡◌, refl, sym, ap, ◌∙◌}
use mathlib.Core.Logic.{◌≢◌}
use mathlib.Core.Bool.{true}
use mathlib.Core.List.{List, [], ◌∷◌, ◌++◌, map}
use Prim.Native.Nat.{ℕ, suc, ◌+◌, ◌-◌, ◌^◌, ◌≤◌, ◌<◌}
use native.Mathlib.Decide.{ℕ_discrete}
use native.Mathlib.Omega.{arith}
use lib.ListN.{length, drop}
use lib.Dec.{eqb}
use Rattle.ledger.specs.Settings.{Settings, size}
use Rattle.ledger.specs.Ledger.{is_node, push}
use Rattle.ledger.specs.Ready.{bit}
use Rattle.ledger.specs.Sound.{All, weigh, one, Roomy}
use Rattle.ledger.proofs.Tests.{eqb_is, eqb_not}
use Rattle.ledger.proofs.Lists.{weigh_push, All-map, All-of, All-both, All-append}
use Rattle.layout.specs.declared.Table.{Table}
use Rattle.layout.specs.declared.Table.TheVariants.{Setting, Head, Tail, Count, Next}
use Rattle.layout.specs.Tables.{turn_of, width, lists, many, get, put}
use Rattle.layout.specs.Picture.{settings_in, slot, chain, nodes_of, packet_at, node_in, ledger_in, last_d, Hangs}
use Rattle.memory.specs.Ends.{link, push_mem, Tidy, with_lists, SameNumbers}
use Rattle.layout.proofs.Tables.{length_put, get_put, get_put_else, settings_put, drop_put}
use Rattle.memory.proofs.Chains as C

last_d_snoc : (xs : List ℕ) (t d : ℕ) → last_d (xs ++ (t ∷ [])) d ≡ t
last_d_snoc [] t d = refl
last_d_snoc (x ∷ xs) t d = last_d_snoc xs t x

map_snoc : {A B : Type 0} (f : A → B) (xs : List A) (x : A) → map f (xs ++ (x ∷ [])) ≡ map f xs ++ (f x ∷ [])
map_snoc f [] x = refl
map_snoc f (y ∷ ys) x = ap (λ (zs : List _). f y ∷ zs) (map_snoc f ys x)

-- ---- the link stands at element i of table r, which is Head or Next

grow : Settings → Table → ℕ → ℕ → ℕ → List ℕ → List ℕ
grow S r i b x m = put S Count b (get S m Count b + 1) (put S Tail b x (put S r i x m))

-- no other list's head is written there, nor the link of a node that stands in one
record Spot (S : Settings) (m : List ℕ) (b x : ℕ) (r : Table) (i : ℕ) : Type 0 where
  fits : i < many S r
  wide : x < 256 ^ width r
  turn : (turn_of Head ≤ turn_of r) × (turn_of r ≤ turn_of Next) × (turn_of r ≢ turn_of Tail) × (turn_of r ≢ turn_of Count)
  heads : (l : ℕ) → l ≢ b → r ≡ Head → i ≡ l → ⊥
  nexts : (l : ℕ) → l < lists S → l ≢ b → All (λ y. r ≡ Next → i ≡ slot S y → ⊥) (nodes_of S m l)

-- a memory in which x is put on at the end of list b
record Grown (S : Settings) (m : List ℕ) (b x : ℕ) (m' : List ℕ) : Type 0 where
  long_is : length m' ≡ length m
  settings_are : settings_in m' ≡ settings_in m
  past : drop (size S) m' ≡ drop (size S) m
  others : (q : Table) (j : ℕ) → turn_of q ≢ turn_of Head → turn_of q ≢ turn_of Tail → turn_of q ≢ turn_of Count → turn_of q ≢ turn_of Next → j < many S q
      → get S m' q j ≡ get S m q j
  tail_is : get S m' Tail b ≡ x
  tails : (l : ℕ) → l < lists S → l ≢ b → get S m' Tail l ≡ get S m Tail l
  nodes_other : (l : ℕ) → l < lists S → l ≢ b → nodes_of S m' l ≡ nodes_of S m l
  nodes_grown : nodes_of S m' b ≡ nodes_of S m b ++ (x ∷ [])

module _ (S : Settings) (m : List ℕ) (b x : ℕ) (R : Roomy S) (P : Tidy S m) (hb : b < lists S) (hx : is_node S x ≡ true) where
  low : x < 65536
  low = C.node_lt S x R hx

  module _ (r : Table) (i : ℕ) (W : Spot S m b x r i) where
    abbrev m' : List ℕ
    m' = grow S r i b x m

    grow_apart : (q : Table) (j : ℕ) → j < many S q → (r ≡ q → i ≡ j → ⊥) → (Tail ≡ q → b ≡ j → ⊥) → (Count ≡ q → b ≡ j → ⊥) → get S m' q j ≡ get S m q j
    unfolding grow
    grow_apart q j h d₁ d₂ d₃ =
        get_put_else S _ Count b _ q j hb h d₃ ∙ get_put_else S _ Tail b x q j hb h d₂ ∙ get_put_else S m r i x q j W.fits h d₁

    grow_link : get S m' r i ≡ x
    unfolding grow
    grow_link =
        get_put_else S _ Count b _ r i hb W.fits (λ e d. omega (arith, ap turn_of e))
        ∙ get_put_else S _ Tail b x r i hb W.fits (λ e d. omega (arith, ap turn_of e))
        ∙ get_put S m r i x P.long W.fits W.wide

    grow_count : get S m' Count b ≡ get S m Count b + 1
    unfolding grow
    grow_count = get_put S _ Count b _ (simp length_put P.long) hb (omega (arith, C.total_bound S m P R b hb))

    grow_tail : get S m' Tail b ≡ x
    unfolding grow
    grow_tail =
        get_put_else S _ Count b _ Tail b hb hb (λ e d. C.differ Count Tail (omega arith) e)
        ∙ get_put S _ Tail b x (simp length_put P.long) hb (omega (arith, low))

    -- another list's elements, and the links
    grow_other : (q : Table) (l : ℕ) → l ≢ b → l < many S q → (r ≡ q → i ≡ l → ⊥) → get S m' q l ≡ get S m q l
    grow_other q l n h d = grow_apart q l h d (λ e f. n (sym f)) (λ e f. n (sym f))

    grow_next : (y : ℕ) → is_node S y ≡ true → (r ≡ Next → i ≡ slot S y → ⊥) → C.SameNext S m m' y
    grow_next y e d =
        grow_apart Next (slot S y) (C.slot_lt S y e) d
        (λ p f. C.differ Tail Next (omega arith) p) (λ p f. C.differ Count Next (omega arith) p)

    grow_nodes : (l : ℕ) → l < lists S → l ≢ b → nodes_of S m' l ≡ nodes_of S m l
    grow_nodes l h n =
        C.nodes_same S m m' l
        (grow_other Head l n h (W.heads l n))
        (grow_other Count l n h (λ e f. omega (arith, ap turn_of e)))
        (All-both (nodes_of S m l) grow_next (C.members S m P l h) (W.nexts l h n))

    grown : nodes_of S m' b ≡ nodes_of S m b ++ (x ∷ []) → Grown S m b x m'
    unfolding grow
    grown g = record {
      long_is = simp length_put;
      past = drop_put S Count b _ _ hb ∙ drop_put S Tail b x _ hb ∙ drop_put S r i x m W.fits;
      settings_are =
          settings_put S _ Count b _ hb (C.differ Count Setting (omega arith))
          ∙ settings_put S _ Tail b x hb (C.differ Tail Setting (omega arith))
          ∙ settings_put S m r i x W.fits (C.differ r Setting (omega arith));
      others = λ q j d₁ d₂ d₃ d₄ h. grow_apart q j h (λ e f. omega (arith, ap turn_of e)) (λ e f. d₂ (sym (ap turn_of e))) (λ e f. d₃ (sym (ap turn_of e)));
      tail_is = grow_tail;
      tails = λ l h n. grow_other Tail l n h (λ e f. omega (arith, ap turn_of e));
      nodes_other = grow_nodes;
      nodes_grown = g;
    }

  -- ---- an empty list: its head is the link

  none_is : get S m Count b ≡ 0 → push_mem S b x m ≡ grow S Head b b x m
  unfolding push_mem link grow
  none_is e = rw (eqb_is (get S m Count b) 0 e)

  none_spot : Spot S m b x Head b
  none_spot = record {
    fits = hb;
    wide = low;
    turn = omega arith;
    heads = λ l n p e. n (sym e);
    nexts = λ l h n. All-of (nodes_of S m l) (λ y p. absurd (C.differ Head Next (omega arith) p));
  }

  none_nodes : get S m Count b ≡ 0 → nodes_of S (grow S Head b b x m) b ≡ nodes_of S m b ++ (x ∷ [])
  unfolding nodes_of chain
  none_nodes e = rw (grow_count Head b none_spot, grow_link Head b none_spot, e)

  -- ---- a list with nodes: the link is its last node's, which stands nowhere else

  some_is : 0 < get S m Count b → push_mem S b x m ≡ grow S Next (slot S (get S m Tail b)) b x m
  unfolding push_mem link grow
  some_is pos = rw (eqb_not (get S m Count b) 0 (omega arith))

  module _ (pos : 0 < get S m Count b) where
    abbrev t : ℕ
    t = get S m Tail b

    abbrev before : List ℕ
    before = chain S m (get S m Count b - 1) (get S m Head b)

    tail_node : is_node S t ≡ true
    tail_node = C.tail_is_node S m P b hb pos

    -- a node other than the tail has another link
    slot_other : (y : ℕ) → is_node S y ≡ true → y ≢ t → Next ≡ Next → slot S t ≡ slot S y → ⊥
    slot_other y e d p q = d (sym (C.slot_inj S t y tail_node e q))

    some_spot : Spot S m b x Next (slot S t)
    some_spot = record {
      fits = C.slot_lt S t tail_node;
      wide = low;
      turn = omega arith;
      heads = λ l d p e. C.differ Next Head (omega arith) p;
      nexts = λ l h d.
          All-both (nodes_of S m l) slot_other (C.members S m P l h)
          (C.not_in t (nodes_of S m l) (omega (arith, C.tail_times S m P b hb pos, C.times_two S m t b l hb h d, C.once_most S m P t)));
    }

    abbrev m'' : List ℕ
    m'' = grow S Next (slot S t) b x m

    links : All (C.SameNext S m m'') before
    links =
        All-both before (λ y e d. grow_next Next (slot S t) some_spot y e (slot_other y e d))
        (C.All-shorter S m (λ y. is_node S y ≡ true) (get S m Count b - 1) (get S m Head b) (rw (C.nodes_full S m b pos) at (C.members S m P b hb)))
        (C.not_in t before (omega (arith, C.tail_times S m P b hb pos, C.times_le S m t b hb, C.once_most S m P t)))

    same_head : get S m'' Head b ≡ get S m Head b
    same_head =
        grow_apart Next (slot S t) some_spot Head b hb
        (λ p f. C.differ Next Head (omega arith) p) (λ p f. C.differ Tail Head (omega arith) p) (λ p f. C.differ Count Head (omega arith) p)

    is_one_more : nodes_of S m'' b ≡ chain S m'' (suc (suc (get S m Count b - 1))) (get S m Head b)
    unfolding nodes_of
    is_one_more =
        let e : get S m Count b + 1 ≡ suc (suc (get S m Count b - 1)) = omega arith in
        rw (grow_count Next (slot S t) some_spot, same_head, e)

    some_nodes : nodes_of S m'' b ≡ nodes_of S m b ++ (x ∷ [])
    some_nodes =
        rw (C.nodes_full S m b pos)
        (is_one_more
        ∙ C.chain_grown S m m'' (get S m Count b - 1) (get S m Head b) t x links (rw (C.nodes_end S m P b hb pos) (grow_link Next (slot S t) some_spot)))

  -- ---- either

  push_grown : Grown S m b x (push_mem S b x m)
  push_grown = by (ℕ_discrete (get S m Count b) 0)
    where
      by : Dec (get S m Count b ≡ 0) → Grown S m b x (push_mem S b x m)
      by (yes e) = rw (none_is e) (grown Head b none_spot (none_nodes e))
      by (no n) =
          let pos : 0 < get S m Count b = omega arith in
          rw (some_is pos) (grown Next (slot S (get S m Tail b)) (some_spot pos) (some_nodes pos))

  pub length_push_mem : length (push_mem S b x m) ≡ length m
  length_push_mem = push_grown.long_is

  pub settings_push : settings_in (push_mem S b x m) ≡ settings_in m
  settings_push = push_grown.settings_are

  -- bytes past the size stay
  pub past_push : drop (size S) (push_mem S b x m) ≡ drop (size S) m
  past_push = push_grown.past

  pub push_get : (r : Table) (j : ℕ) → turn_of r ≢ turn_of Head → turn_of r ≢ turn_of Tail → turn_of r ≢ turn_of Count → turn_of r ≢ turn_of Next → j < many S r
      → get S (push_mem S b x m) r j ≡ get S m r j
  push_get = push_grown.others

  pub push_packet : (y : ℕ) → is_node S y ≡ true → packet_at S (push_mem S b x m) y ≡ packet_at S m y
  push_packet y e =
      C.packet_same S m (push_mem S b x m) y
      (λ t h. push_get t (slot S y) (omega arith) (omega arith) (omega arith) (omega arith) (C.slot_record S y t e h))

  pub push_else : SameNumbers (ledger_in S m) (ledger_in S (push_mem S b x m))
  push_else = C.rest_same S m (push_mem S b x m) (λ t j h k. push_get t j (omega arith) (omega arith) (omega arith) (omega arith) k)

  items : (l : ℕ) (ys : List ℕ) → All (λ y. is_node S y ≡ true) ys → map (node_in S (push_mem S b x m) l) ys ≡ map (node_in S m l) ys
  items l ys n = C.items_same S m (push_mem S b x m) l ys (All-map ys push_packet n)

  push_shown : C.shown S (push_mem S b x m) b ≡ map (node_in S m b) (nodes_of S m b) ++ (node_in S m b x ∷ [])
  push_shown =
      ap (map (node_in S (push_mem S b x m) b)) push_grown.nodes_grown
      ∙ items b (nodes_of S m b ++ (x ∷ [])) (All-append _ (nodes_of S m b) (x ∷ []) (C.members S m P b hb) (hx, tt))
      ∙ map_snoc (node_in S m b) (nodes_of S m b) x

  pub push_lists : (ledger_in S (push_mem S b x m)).lists ≡ push b (node_in S m b x) (ledger_in S m).lists
  unfolding ledger_in push
  push_lists =
      rw (C.list_at_lem S m b hb)
      (C.table_set (C.shown S m) (C.shown S (push_mem S b x m)) (lists S) b _ hb push_shown
      (λ l h n. rw (push_grown.nodes_other l h n) (items l (nodes_of S m l) (C.members S m P l h))))

  pub push_ledger : ledger_in S (push_mem S b x m) ≡ with_lists (push b (node_in S m b x) (ledger_in S m).lists) (ledger_in S m)
  push_ledger = C.with_lists_lem (ledger_in S m) (ledger_in S (push_mem S b x m)) _ push_lists push_else

  push_weigh : (y : ℕ) → weigh (one y) (ledger_in S (push_mem S b x m)).lists ≡ weigh (one y) (ledger_in S m).lists + bit (eqb x y)
  push_weigh y =
      ap (weigh (one y)) push_lists
      ∙ weigh_push (one y) b (node_in S m b x) (ledger_in S m).lists (rw C.length_lists hb)
      ∙ ap (λ (z : ℕ). weigh (one y) (ledger_in S m).lists + bit (eqb z y)) (C.item_node S m b x)

  push_hangs : (l : ℕ) → l < lists S → Dec (l ≡ b) → Hangs S (push_mem S b x m) l
  push_hangs l h (yes e) = rw (e, push_grown.nodes_grown, push_grown.tail_is) (last_d_snoc (nodes_of S m b) x x)
  push_hangs l h (no n) = rw (push_grown.nodes_other l h n, push_grown.tails l h n) (P.hangs l h)

  push_once : weigh (one x) (ledger_in S m).lists ≡ 0 → (y : ℕ) → Dec (x ≡ y) → weigh (one y) (ledger_in S (push_mem S b x m)).lists ≤ bit (is_node S y)
  push_once z y (yes e) = rw (← e) (omega (arith, push_weigh x, C.bit_same x x refl, ap bit hx))
  push_once z y (no n) = omega (arith, push_weigh y, C.bit_other x y n, P.once y)

  pub push_tidy : weigh (one x) (ledger_in S m).lists ≡ 0 → Tidy S (push_mem S b x m)
  push_tidy z = record {
    long = rw length_push_mem P.long;
    hangs = λ l h. push_hangs l h (ℕ_discrete l b);
    once = λ y. push_once z y (ℕ_discrete x y);
  }
