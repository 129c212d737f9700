-- What setup leaves: the settings, the starting ledger and lists that hang together, so that memory is a switch state; and that zero
-- bytes are none. Assumes nothing.
use mathlib.Core.Path.{◌≡◌, refl, sym, ap, ap₂, ◌∙◌, subst}
use mathlib.Core.Bool.{true}
use mathlib.Core.List.{List, [], ◌∷◌, ◌++◌, map}
use Prim.Native.Nat.{ℕ, zero, suc, ◌+◌, ◌-◌, ◌*◌, ◌/◌, ◌%◌, ◌≤◌, ◌<◌}
use native.Mathlib.Nat.{add-zero, zero-add, mod-lt, div-add-mod', div-lt_iff_lt-mul}
use native.Mathlib.Omega.{arith}
use lib.ListN.{length, get_or, drop, replicate, length-append, length-drop, length-replicate, get_or-replicate}
use lib.Seq.{drop_at}
use Rattle.ledger.specs.Settings.{Settings, in_rows, row, size}
use Rattle.ledger.specs.Ledger.{entry_id, Packet, bare, bares, start_lists, start, tall, starting}
use Rattle.ledger.specs.Sound.{Roomy}
use Rattle.ledger.specs.Desk.{none, has}
use Rattle.ledger.proofs.Tests.{eqb_is}
use Rattle.ledger.proofs.Places.{row_div, row_mod}
use Rattle.ledger.proofs.Rows.{roomy}
use Rattle.ledger.proofs.Start.{start_length, start_first, start_empty, start_sound}
use Rattle.layout.specs.declared.Table.TheVariants.{Setting, Next}
use Rattle.layout.specs.Tables.{lists, start_of, get, table_of}
use Rattle.layout.specs.Picture.{settings_in, slot, chain, nodes_of, node_in, tabulate, ledger_in, last_d, Hangs, StateOf, State}
use Rattle.memory.specs.Image.{written, image, setup_mem}
use Rattle.memory.specs.Memory.{picture}
use Rattle.layout.proofs.Tables.{get_append, get_zero, zeros}
use Rattle.memory.proofs.Written.{row_pos, written_length, Fresh, written_append, written_fresh}
use Rattle.memory.proofs.Picture.{picture_none, picture_is}

-- ---- runs of numbers

tabulate_from : {A : Type 0} (d : A) (f : ℕ → A) (k : ℕ) (xs : List A) → ((i : ℕ) → i < length xs → f (k + i) ≡ get_or xs i d) → tabulate f k (length xs) ≡ xs
tabulate_from d f k [] same = refl
tabulate_from d f k (x ∷ xs) same =
    ap₂ ◌∷◌ (ap f (sym (add-zero k)) ∙ same 0 (omega arith))
    (tabulate_from d f (suc k) xs (λ i h. let e : suc k + i ≡ k + suc i = omega arith in ap f e ∙ same (suc i) (omega arith)))

-- a table of what a list holds is that list
pub tabulate_is : {A : Type 0} (d : A) (f : ℕ → A) (n : ℕ) (xs : List A) → length xs ≡ n → ((i : ℕ) → i < n → f i ≡ get_or xs i d) → tabulate f 0 n ≡ xs
tabulate_is d f n xs e same = rw (← e) (tabulate_from d f 0 xs (λ i h. ap f (zero-add i) ∙ same i (omega arith)))

pub tabulate_all : (f : ℕ → ℕ) (n v : ℕ) → ((i : ℕ) → i < n → f i ≡ v) → tabulate f 0 n ≡ replicate n v
tabulate_all f n v same = tabulate_is 0 f n (replicate n v) (length-replicate n v) (λ i h. same i h ∙ sym (get_or-replicate n i v 0 h))

map_run : (f : ℕ → Packet) (x n : ℕ) → ((y : ℕ) → f y ≡ bare y) → map f (tabulate (λ y. y) x n) ≡ bares x n
map_run f x zero e = refl
map_run f x (suc n) e = ap₂ ◌∷◌ (e x) (map_run f (suc x) n e)

last_run : (x n d : ℕ) → 1 ≤ n → last_d (tabulate (λ y. y) x n) d ≡ x + (n - 1)
last_run x zero d h = absurd (omega arith)
last_run x (suc zero) d h = omega arith
last_run x (suc (suc n)) d h = last_run (suc x) (suc n) x (omega arith) ∙ omega arith

-- ---- what a fresh state shows

-- the settings are the elements of their table, whose place does not go by them
pub settings_are : (S : Settings) (m : List ℕ) → settings_in m ≡ record {
  ports = get S m Setting 0;
  queues = get S m Setting 1;
  nodes = get S m Setting 2;
  beat = get S m Setting 3;
  slots = get S m Setting 4;
  credit = get S m Setting 5;
  edition = get S m Setting 6;
  packets = get S m Setting 7;
}
unfolding settings_in get start_of
settings_are S m = refl

-- the lists of a port: the first, and the others
by_row : (S : Settings) (P : ℕ → Type 0) → ((p : ℕ) → p < S.ports → P (p * row S)) → ((p c : ℕ) → p < S.ports → suc c < row S → P (p * row S + suc c))
    → (l : ℕ) → l < lists S → P l
by_row S P first other l h = subst P (div-add-mod' l (row S)) (go (l % row S) (mod-lt l (row_pos S)))
  where
    go : (c : ℕ) → c < row S → P (l / row S * row S + c)
    go zero k = rw add-zero (first (l / row S) ((div-lt_iff_lt-mul (row_pos S)).1 h))
    go (suc c) k = other (l / row S) c ((div-lt_iff_lt-mul (row_pos S)).1 h) k

module _ (S : Settings) (r : Roomy S) (m : List ℕ) (F : Fresh S m) where
  pub fresh_settings : settings_in m ≡ S
  fresh_settings =
      rw (
        settings_are S m,
        F.setting_at_lem 0 (omega arith),
        F.setting_at_lem 1 (omega arith),
        F.setting_at_lem 2 (omega arith),
        F.setting_at_lem 3 (omega arith),
        F.setting_at_lem 4 (omega arith),
        F.setting_at_lem 5 (omega arith),
        F.setting_at_lem 6 (omega arith),
        F.setting_at_lem 7 (omega arith),
      )

  next_of : (p i : ℕ) → p < S.ports → suc i < S.nodes → get S m Next (slot S (entry_id p i)) ≡ entry_id p (suc i)
  unfolding slot
  next_of p i h k = rw (row_div 2048 p i (omega arith), row_mod 2048 p i (omega arith)) (F.next_at p i h k)

  -- the links go from each node of a port to the next
  chain_run : (p i n : ℕ) → p < S.ports → i + n ≤ S.nodes → chain S m n (entry_id p i) ≡ tabulate (λ y. y) (entry_id p i) n
  unfolding chain
  chain_run p i zero h k = refl
  chain_run p i (suc zero) h k = refl
  chain_run p i (suc (suc n)) h k =
      let e : entry_id p (suc i) ≡ suc (entry_id p i) = omega arith in
      ap (λ (ys : List ℕ). entry_id p i ∷ ys)
      (ap (chain S m (suc n)) (next_of p i h (omega arith)) ∙ chain_run p (suc i) (suc n) h (omega arith) ∙ ap (λ (x : ℕ). tabulate (λ y. y) x (suc n)) e)

  first_nodes : (p : ℕ) → p < S.ports → nodes_of S m (p * row S) ≡ tabulate (λ y. y) (entry_id p 0) S.nodes
  unfolding nodes_of
  first_nodes p h = rw (F.count_at p h, F.head_at p h) (chain_run p 0 S.nodes h (omega arith))

  other_nodes : (p c : ℕ) → p < S.ports → suc c < row S → nodes_of S m (p * row S + suc c) ≡ []
  unfolding nodes_of chain
  other_nodes p c h k = rw (F.count_else p c h k)

  bare_in : (p x : ℕ) → node_in S m (p * row S) x ≡ bare x
  unfolding node_in
  bare_in p x = let e : (p * row S) % row S ≡ 0 = rw add-zero at (row_mod (row S) p 0 (row_pos S)) in rw (eqb_is (p * row S % row S) 0 e)

  fresh_list : (l : ℕ) → l < lists S → map (node_in S m l) (nodes_of S m l) ≡ get_or (start_lists S 0 S.ports) l []
  fresh_list =
      by_row S (λ l. map (node_in S m l) (nodes_of S m l) ≡ get_or (start_lists S 0 S.ports) l [])
      (λ p h.
      rw (first_nodes p h)
      (map_run (node_in S m (p * row S)) (entry_id p 0) S.nodes (bare_in p) ∙ sym (rw (add-zero (p * row S)) at (start_first S p h))))
      (λ p c h k. rw (other_nodes p c h k) (sym (start_empty S p c h k)))

  pub fresh_ledger : ledger_in S m ≡ start S
  unfolding ledger_in start
  fresh_ledger = λ i. record {
    lists = tabulate_is [] (λ l. map (node_in S m l) (nodes_of S m l)) (lists S) (start_lists S 0 S.ports) (start_length S 0 S.ports) fresh_list i;
    numbers = λ c. tabulate_all (get S m (table_of c)) (tall S c) (starting S c) (F.number_at c) i;
  }

  pub fresh_hangs : (l : ℕ) → l < lists S → Hangs S m l
  fresh_hangs =
      by_row S (Hangs S m)
      (λ p h. rw (first_nodes p h, F.tail_at p h) (last_run (entry_id p 0) S.nodes (entry_id p (S.nodes - 1)) r.some_nodes ∙ omega arith))
      (λ p c h k. rw (other_nodes p c h k))

-- ---- setup

pub image_length : (S : Settings) → length (image S) ≡ size S
unfolding image
image_length S = written_length S (replicate (size S) 0) ∙ length-replicate (size S) 0

-- bytes from the size on are as they were
pub setup_past : (S : Settings) (m : List ℕ) → drop (size S) (setup_mem S m) ≡ drop (size S) m
unfolding setup_mem
setup_past S m = drop_at (image S) (drop (size S) m) (size S) (image_length S)

pub setup_length : (S : Settings) (m : List ℕ) → size S ≤ length m → length (setup_mem S m) ≡ length m
unfolding setup_mem
setup_length S m long = simp (length-append, image_length, length-drop) (omega arith)

-- of memory of any length: setup may write in place, over zero bytes, and what it then holds
module _ (S : Settings) (r : Roomy S) (m : List ℕ) where
  zeros_long : size S ≤ length (replicate {A = ℕ} (size S) 0)
  zeros_long = omega (arith, length-replicate {A = ℕ} (size S) 0)

  pub setup_is : setup_mem S m ≡ written S (replicate (size S) 0 ++ drop (size S) m)
  unfolding setup_mem image
  setup_is = sym (written_append S r (replicate (size S) 0) zeros_long (drop (size S) m))

  pub setup_fresh : Fresh S (setup_mem S m)
  setup_fresh =
      rw setup_is
      (written_fresh S r (replicate (size S) 0 ++ drop (size S) m) (simp length-append (omega (arith, zeros_long)))
      (λ t j k. get_append S t j (replicate (size S) 0) (drop (size S) m) k zeros_long ∙ get_zero S (replicate (size S) 0) t j (zeros (size S))))

  pub setup_settings : settings_in (setup_mem S m) ≡ S
  setup_settings = fresh_settings S r (setup_mem S m) setup_fresh

  pub setup_ledger : ledger_in S (setup_mem S m) ≡ start S
  setup_ledger = fresh_ledger S r (setup_mem S m) setup_fresh

  pub setup_hangs : (l : ℕ) → l < lists S → Hangs S (setup_mem S m) l
  setup_hangs = fresh_hangs S r (setup_mem S m) setup_fresh

module _ (S : Settings) (h : in_rows S ≡ true) (m : List ℕ) where
  pub setup_state : StateOf S (setup_mem S m)
  setup_state = record {
    long = unfold setup_mem in (simp (length-append, image_length) (omega arith));
    hangs = setup_hangs S (roomy S h) m;
    sound = rw (setup_ledger S (roomy S h) m) (start_sound S h);
  }

  pub setup_picture : picture (setup_mem S m) ≡ has S (start S)
  setup_picture = picture_is S (setup_mem S m) (start S) (setup_settings S (roomy S h) m) setup_state (setup_ledger S (roomy S h) m)

-- ---- zero bytes

pub zero_no_state : (n : ℕ) → State (replicate n 0) → ⊥
zero_no_state n s =
    let m : List ℕ = replicate n 0 in
    let S : Settings = settings_in m in
    let no_ports : S.ports ≡ 0 = ap (λ (T : Settings). T.ports) (settings_are S m) ∙ get_zero S (replicate n 0) Setting 0 (zeros n) in
    omega (arith, (roomy S s.sound.rows).some_ports)

pub zero_picture : (n : ℕ) → picture (replicate n 0) ≡ none
zero_picture n = picture_none (replicate n 0) (zero_no_state n)
