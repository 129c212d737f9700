-- No finding reads a bucket (paper 02, Q-13), of whatever memory: the tables of lists and nodes stand behind the buckets, and of those before
-- them nothing is asked past their ends. Assumes nothing.
use mathlib.Core.Path.{◌≡◌, refl, ap}
use mathlib.Core.Bool.{Bool, true, false, cond, ◌||◌}
use mathlib.Core.List.{List, [], ◌∷◌}
use Prim.Native.Nat.{ℕ, zero, suc, ◌-◌, ◌/◌, ◌%◌, ◌<◌}
use native.Mathlib.Omega.{arith}
use lib.ListN.{replicate}
use lib.Dec.{eqb, ltb, leb}
use Rattle.std.specs.Prelude.{Option, None, Some}
use Rattle.ledger.specs.declared.Broken.{Broken}
use Rattle.ledger.specs.declared.Rule.TheVariants.{B}
use Rattle.ledger.specs.Settings.{Settings, ids, row}
use Rattle.ledger.specs.Buckets.{stop}
use Rattle.ledger.specs.Halt.{is_mark}
use Rattle.ledger.proofs.Tests.{ltb_yes}
use Rattle.ledger.proofs.Lists.{All-of}
use Rattle.ledger.proofs.Rows.{roomy}
use Rattle.layout.specs.declared.Table.{Table}
use Rattle.layout.specs.declared.Table.TheVariants.{Mapped, Last, Halted, Arrival, Buckets, Head, Tail, Count, Next, Queue, Price}
use Rattle.layout.specs.Tables.{turn_of, cells, lists, all, many, get, put}
use Rattle.layout.specs.Picture.{settings_in, opens, slot, nodes_of, packet_at}
use Rattle.layout.proofs.Tables.{length_put, get_put, get_put_else, get_put_behind, settings_put}
use Rattle.memory.proofs.Picture.{opens_means}
use Rattle.memory.proofs.Chains.{nodes_same, packet_same}
use Rattle.ranges.specs.Opening.{out_at}
use Rattle.ranges.specs.Ranges.{prefetch_at, items, fits_at, ranges_found}
use Rattle.ranges.proofs.First.{first_same}
use Rattle.once.specs.Once.{mark_all, ends, right, scan, once_found}
use Rattle.fits.specs.declared.NodeRule.{NodeRule}
use Rattle.fits.specs.declared.NodeRule.TheVariants.{OwnPort, OwnQueue, Record}
use Rattle.fits.specs.Fits.{spared, rule_test, first_bad, or_else, list_found, fits_from, fits_found}
use Rattle.paid.specs.Paid.{add_node, add_all, add_list, add_from, sums_of, settled_at, due_found, paid_found}
use Rattle.halts.specs.Marks.{marks_found}
use Rattle.sound.specs.Sound.{breaks, nodes_broken, open_broken, broken_in}
use Rattle.findings.specs.Findings.{FindingsUnread}

either : {A : Type 0} (b : Bool) {x y u w : A} → (b ≡ true → x ≡ u) → y ≡ w → cond b x y ≡ cond b u w
either true f g = f refl
either false f g = g

module _ (S : Settings) (m : List ℕ) (i v : ℕ) (hi : i < many S Buckets) where
  n : List ℕ
  n = put S Buckets i v m

  -- ---- what is read alike

  behind : (t : Table) → turn_of Buckets < turn_of t → (j : ℕ) → get S n t j ≡ get S m t j
  unfolding n
  behind t h j = get_put_behind S m Buckets i v t j hi h

  before : (t : Table) → turn_of t < turn_of Buckets → (j : ℕ) → j < many S t → get S n t j ≡ get S m t j
  unfolding n
  before t h j hj = get_put_else S m Buckets i v t j hi hj (λ e same. let z : turn_of Buckets ≡ turn_of t = ap turn_of e in omega arith)

  nodes : (l : ℕ) → nodes_of S n l ≡ nodes_of S m l
  nodes l =
      nodes_same S m n l (behind Head (omega arith) l) (behind Count (omega arith) l)
      (All-of (nodes_of S m l) (λ y. behind Next (omega arith) (slot S y)))

  packets : (y : ℕ) → packet_at S n y ≡ packet_at S m y
  packets y = packet_same S m n y (λ t h. behind t (omega arith) (slot S y))

  -- ---- (b) and (i)

  ranges : ranges_found S n ≡ ranges_found S m
  unfolding ranges_found fits_at
  ranges =
      first_same (fits_at S n) (fits_at S m) (items S)
      (λ k h. either (ltb k S.ports) (λ t. ap (λ (x : ℕ). ltb x S.queues) (before Last (omega arith) k (ltb_yes k S.ports t)))
      (either (ltb (k - S.ports) ids) (λ t. ap (λ (x : ℕ). ltb x S.ports) (before Mapped (omega arith) (k - S.ports) (ltb_yes (k - S.ports) ids t)))
      (ap (λ (x : ℕ). leb x S.slots) (behind Count (omega arith) (prefetch_at S (k - S.ports - ids))))))

  marks : marks_found S n ≡ marks_found S m
  unfolding marks_found
  marks = first_same (λ p. is_mark (get S n Halted p)) (λ p. is_mark (get S m Halted p)) S.ports (λ p h. ap is_mark (before Halted (omega arith) p h))

  -- ---- (c)

  scans : (k l : ℕ) (ms : List ℕ) → scan S n ms l k ≡ scan S m ms l k
  unfolding scan right
  scans zero l ms = refl
  scans (suc k) l ms =
      rw (nodes l, behind Tail (omega arith) l)
      (ap (λ (f : Option ℕ). cond (ends S ms (nodes_of S m l) (get S m Tail l) (get S m Tail l)) f (Some l)) (scans k (suc l) (mark_all S ms (nodes_of S m l))))

  once : once_found S n ≡ once_found S m
  unfolding once_found
  once = scans (lists S) 0 (replicate (all S) 0)

  -- ---- (d) to (f)

  in_list : (rule : NodeRule) (l : ℕ) → list_found rule S n l ≡ list_found rule S m l
  in_list rule l =
      λ k. first_bad (λ y. spared rule (l % row S) || rule_test rule S (l / row S) (l % row S) (packets y k)) (nodes l k)

  from_list : (rule : NodeRule) (k l : ℕ) → fits_from rule S n l k ≡ fits_from rule S m l k
  unfolding fits_from
  from_list rule zero l = refl
  from_list rule (suc k) l = λ j. or_else (in_list rule l j) (from_list rule k (suc l) j)

  fits : (rule : NodeRule) → fits_found rule S n ≡ fits_found rule S m
  unfolding fits_found
  fits rule = from_list rule (lists S) 0

  -- ---- (g)

  all_added : (xs sums : List ℕ) → add_all S n sums xs ≡ add_all S m sums xs
  unfolding add_all add_node
  all_added [] sums = refl
  all_added (x ∷ xs) sums =
      rw (behind Queue (omega arith) (slot S x), behind Price (omega arith) (slot S x)) (all_added xs (add_node S m sums x))

  list_added : (sums : List ℕ) (l : ℕ) → add_list S n sums l ≡ add_list S m sums l
  unfolding add_list
  list_added sums l = rw (nodes l, all_added (nodes_of S m l) sums)

  lists_added : (k l : ℕ) (sums : List ℕ) → add_from S n sums l k ≡ add_from S m sums l k
  unfolding add_from
  lists_added zero l sums = refl
  lists_added (suc k) l sums = rw (list_added sums l) (lists_added k (suc l) (add_list S m sums l))

  paid : paid_found S n ≡ paid_found S m
  unfolding due_found settled_at sums_of
  paid =
      rw (lists_added (lists S) 0 (replicate (cells S) 0))
      (first_same _ _ (cells S) (λ c h. rw (before Arrival (omega arith) c h)))

  -- ---- all of them

  opened_alike : open_broken S n ≡ open_broken S m
  unfolding open_broken nodes_broken
  opened_alike = rw (ranges, once, fits OwnPort, fits OwnQueue, fits Record, paid, marks)

pub findings_unread : FindingsUnread broken_in
unfolding FindingsUnread broken_in out_at n
findings_unread m i v hi =
    let S : Settings = settings_in m in
    let same : settings_in (put S Buckets i v m) ≡ S = settings_put S m Buckets i v hi (λ e. let z : ◌≡◌ {A = ℕ} 0 1 = cc in omega arith) in
    rw (same, length_put S Buckets i v m, opened_alike S m i v hi)

-- ---- a finding that tells of a full bucket is none

abbrev pub full : List ℕ → Option Broken
full m = cond (eqb (get (settings_in m) m Buckets 0) stop) (Some (breaks B 0)) None

pub full_told : (m : List ℕ) → opens m ≡ true → FindingsUnread full → ⊥
unfolding FindingsUnread
full_told m o same =
    let S : Settings = settings_in m in
    let a = (opens_means m).0 o in
    let hi : 0 < many S Buckets = omega (arith, (roomy S a.0).some_ports) in
    let kept : (v : ℕ) → settings_in (put S Buckets 0 v m) ≡ S =
    λ v. settings_put S m Buckets 0 v hi (λ e. let z : ◌≡◌ {A = ℕ} 0 1 = cc in omega arith)
    in
    let one : Some (breaks B 0) ≡ full m = rw (kept stop, get_put S m Buckets 0 stop a.1 hi (omega arith)) at (same m 0 stop hi) in
    let other : None ≡ full m = rw (kept 0, get_put S m Buckets 0 0 a.1 hi (omega arith)) at (same m 0 0 hi) in
    let z : ◌≡◌ {A = ℕ} 0 1 = cc in
    omega arith
