-- `whole::port_passes` meets its contract. The loop's invariant: the walk stands at the list of the port's column. Assumes nothing.
use mathlib.Core.Path.{◌≡◌, sym, ap₂, ◌∙◌}
use mathlib.Core.List.{List}
use Prim.Native.Nat.{ℕ, ◌+◌, ◌*◌, ◌/◌, ◌%◌, ◌≤◌, ◌<◌}
use native.Mathlib.Omega.{arith}
use lib.ListN.{length}
use Rattle.ledger.specs.Settings.{row}
use Rattle.layout.specs.declared.Table.TheVariants.{Count}
use Rattle.layout.specs.Tables.{lists, start_of}
use Rattle.layout.specs.Shapes.{settings_of}
use Rattle.layout.proofs.Shapes.{few}
use Rattle.once.specs.Bits.{marks_in}
use Rattle.once.proofs.Bits.{marks_length}
use Rattle.ranges.specs.Ranges.{few_at, few_in}
use Rattle.whole.specs.Walks.{AtList, Empty}
use Rattle.whole.proofs.SetMarks.{set_le}
use Rattle.whole.proofs.Empty.{counts_in, passed_over}
use Rattle.whole.proofs.Lists.{list_in_lem, port_is, column_is, lists_many, lists_no, lists_next}
use Rattle.whole.proofs.port_passes.Goals as goal
use Rattle.whole.proofs.port_passes.Goals.{After-start_of, In-Some, After-few_enough, Else-not-kind_passes}

-- the counts are those of the port
counts : (c : After-start_of)
    → let S = settings_of c.args.s in
    c.start_of.result + c.args.port * c.args.s.row * 4 ≡ start_of S Count + c.args.port * row S * 4
counts c = ap₂ (λ (a r : ℕ). a + c.args.port * r * 4) c.start_of.ensures c.args.s.laid.row_is

-- from column c of it on the lists have no node, up to column d
over : (c : After-start_of) (bs : List ℕ) {sums : List ℕ} {n f d : ℕ}
    → let a = c.args in
    let S = settings_of a.s in
    f ≤ d → d ≤ a.s.row → Empty a.m.now (c.start_of.result + a.port * a.s.row * 4) f d
    → AtList S a.m.now (marks_in S bs) sums (a.port * a.s.row + f) n → AtList S a.m.now (marks_in S bs) sums (a.port * a.s.row + d) n
over c bs from to none at =
    let is = c.args.s.laid.row_is in
    let to' = rw is at to in
    let none' = rw (counts c) at none in
    let at' = rw is at at in
    rw is (passed_over _ _ _ _ _ (marks_length _ _) c.requires.inside from to' none' at')

-- the walk stands at the first list that has a node
stands : (c : In-Some)
    → let a = c.args in
    let d = c.in-Some.column in
    (d < a.s.row) × AtList (settings_of a.s) a.m.now (marks_in (settings_of a.s) c.loop-column.marks) c.loop-column.sums
    (a.port * a.s.row + d) c.loop-column.met
stands c =
    let is = c.args.s.laid.row_is in
    let found = rw c.in-Some.is at c.next_filled.ensures in
    let there = over (goal.at.In-Some c).After-start_of _ found.0 (omega (arith, found.1)) found.3 c.loop-column.invariant.2 in
    (found.1, there)

-- which is this one
inside : (c : In-Some)
    → let S = settings_of c.args.s in
    let l = c.args.port * c.args.s.row + c.in-Some.column in
    (l < lists S) × (c.args.port ≡ l / row S) × (c.in-Some.column ≡ l % row S)
inside c =
    let is = c.args.s.laid.row_is in
    let low = (stands c).0 in
    (list_in_lem _ _ _ is low c.requires.inside, port_is _ c.args.port _ is low, column_is _ c.args.port _ is low)

-- what was answered of its count
answered : (c : After-few_enough)
    → let a = c.args in
    c.few_enough.result ≡ few_in (settings_of a.s) a.m.now (a.port * a.s.row + c.in-Some.column)
answered c =
    let S = settings_of c.args.s in
    c.few_enough.ensures ∙ ap₂ (few_at S) (inside (goal.at.After-few_enough c).In-Some).2 c.get-count.ensures

-- the walk stands at the next list
went : (c : Else-not-kind_passes)
    → let a = c.args in
    let p = c.kind_passes in
    AtList (settings_of a.s) a.m.now (marks_in (settings_of a.s) p.new.marks) p.new.sums
    (a.port * a.s.row + (c.in-Some.column + 1)) (c.loop-column.met + c.get-count.result)
went c =
    lists_next (stands (goal.at.Else-not-kind_passes c).In-Some).1 (inside (goal.at.Else-not-kind_passes c).In-Some).0
    (sym (answered (goal.at.Else-not-kind_passes c).After-few_enough) ∙ c.if-not-few_enough.false)
    (marks_length _ _ ∙ sym (marks_length _ _)) c.kind_passes.ensures c.if-not-kind_passes.false (omega arith) c.get-count.ensures

pub returns-then-not-few_enough : goal.returns-then-not-few_enough
returns-then-not-few_enough c =
    lists_many (stands (goal.at.returns-then-not-few_enough c).In-Some).1 (inside (goal.at.returns-then-not-few_enough c).In-Some).0
    (sym (answered (goal.at.returns-then-not-few_enough c).After-few_enough) ∙ c.if-not-few_enough.true)

pub kind_passes-requires : goal.kind_passes-requires
kind_passes-requires c =
    let p = c.requires in
    let is = inside (goal.at.kind_passes-requires c).In-Some in
    record {
      lent = record {
        marks = record { room = rw c.loop-column.invariant.0 p.marks.room };
        long = p.long;
        held = (stands (goal.at.kind_passes-requires c).In-Some).1.held;
      };
      inside = is.0;
      count_is = c.get-count.ensures;
      port_is = is.1;
      column_is = is.2;
    }

pub returns-then-not-kind_passes : goal.returns-then-not-kind_passes
returns-then-not-kind_passes c =
    lists_no (stands (goal.at.returns-then-not-kind_passes c).In-Some).1 (inside (goal.at.returns-then-not-kind_passes c).In-Some).0
    (c.kind_passes.ensures.answer.no c.if-not-kind_passes.true)

-- no more nodes were met than there are
pub overflow_add-met : goal.overflow_add-met
overflow_add-met c =
    let next = went c in
    omega (arith, set_le (marks_in (settings_of c.args.s) c.kind_passes.new.marks), next.met, next.scan.fits, few _ c.args.s.laid.roomy)

pub loop-column-preserved : goal.loop-column-preserved
loop-column-preserved c =
    let low = (stands (goal.at.loop-column-preserved c).In-Some).0 in
    (c.kind_passes.auto.marks ∙ c.loop-column.invariant.0, omega (arith, low), went (goal.at.loop-column-preserved c).Else-not-kind_passes)

-- no list from where the walk stands has a node
pub returns : goal.returns
returns c =
    let none = rw c.in_default.is at c.next_filled.ensures in
    let v = c.loop-column.invariant in
    let end : c.args.port * c.args.s.row + c.args.s.row ≡ (c.args.port + 1) * c.args.s.row = omega arith in
    rw (← c.args.s.laid.row_is, ← end) (over (goal.at.returns c).After-start_of _ v.1 (omega arith) none v.2)

-- so they lie in the memory
in_memory : (c : After-start_of)
    → let a = c.args in c.start_of.result + a.port * a.s.row * 4 + a.s.row * 4 ≤ length a.m.now
in_memory c =
    let is = c.args.s.laid.row_is in
    rw (counts c, is) (omega (arith, counts_in (settings_of c.args.s) c.args.m.now _ c.requires.inside, c.requires.long))

pub overflow_mul-counts-2 : goal.overflow_mul-counts-2
overflow_mul-counts-2 c = omega (arith, in_memory (goal.at.overflow_mul-counts-2 c).After-start_of)

pub overflow_add-counts : goal.overflow_add-counts
overflow_add-counts c = omega (arith, in_memory (goal.at.overflow_add-counts c).After-start_of)

pub next_filled-requires : goal.next_filled-requires
next_filled-requires c = in_memory (goal.at.next_filled-requires c).After-start_of
