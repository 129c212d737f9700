-- `nodes::packet_passes` meets its contract, by the first test that fails. Assumes nothing.
use mathlib.Core.Path.{◌≡◌, refl, sym, ap, ap₂, ◌∙◌}
use mathlib.Core.Bool.{true, false≢true, ◌||◌}
use Prim.Native.Nat.{ℕ}
use native.Mathlib.Omega.{arith}
use lib.Dec.{eqb, ltb}
use Rattle.layout.specs.declared.Table.TheVariants.{Queue}
use Rattle.layout.specs.Tables.{get}
use Rattle.layout.specs.Shapes.{settings_of}
use Rattle.layout.specs.Picture.{slot}
use Rattle.memory.proofs.Chains.{node_from, slot_lt}
use Rattle.fits.specs.Fits.{queue_at}
use Rattle.fits.specs.Walk.{NoteOf}
use Rattle.paid.specs.Paid.{add_price, add_node}
use Rattle.nodes.specs.Nodes.{packet_fits}
use Rattle.nodes.proofs.Here.{note_fits, queue_not, fits_queue}
use Rattle.nodes.proofs.packet_passes.Goals as goal
use Rattle.nodes.proofs.packet_passes.Goals.{After-queue_fits, After-proper, Else-not-proper}

-- what was answered of its queue
asked : (c : After-queue_fits)
    → let a = c.args in
    let S = settings_of a.s in
    (ltb a.column 2 || eqb (get S a.m.now Queue (slot S a.x.0)) (queue_at S a.column)) ≡ c.queue_fits.result
asked c =
    let S = settings_of c.args.s in
    let at = c.get-queue.ensures ∙ ap (get S c.args.m.now Queue) c.requires.at_is in
    ap (λ (q : ℕ). ltb c.args.column 2 || eqb q (queue_at S c.args.column)) (sym at) ∙ sym c.queue_fits.ensures

-- what was read of its record
read : (c : After-proper) → let a = c.args in NoteOf (settings_of a.s) a.m.now (slot (settings_of a.s) a.x.0) c.read-n.result
read c = rw c.requires.at_is at c.read-n.ensures

-- by what was answered of it
told : (c : After-proper)
    → let a = c.args in c.proper.result ≡ packet_fits (settings_of a.s) a.m.now a.column a.x.0
told c =
    let a = c.args in
    let note = read c in
    let yes = asked (goal.at.After-proper c).After-queue_fits ∙ c.if-not-queue_fits.false in
    let queue = ap (λ (q : ℕ). ltb a.column 2 || eqb q (queue_at (settings_of a.s) a.column)) note.queue_is ∙ yes in
    note_fits _ _ _ _ note true _ queue (sym c.proper.ensures)

pub get-queue-requires : goal.get-queue-requires
get-queue-requires c =
    let p = c.requires in
    record { long = p.long; wide = refl; inside = rw p.at_is (slot_lt _ _ p.node) }

pub returns-then-not-queue_fits : goal.returns-then-not-queue_fits
returns-then-not-queue_fits c =
    let no = asked (goal.at.returns-then-not-queue_fits c).After-queue_fits ∙ c.if-not-queue_fits.true in
    record { answer = queue_not _ _ _ _ no; added = λ e. absurd (false≢true e) }

pub read-n-requires : goal.read-n-requires
read-n-requires c =
    let p = c.requires in
    record { long = p.long; inside = rw p.at_is (slot_lt _ _ p.node) }

pub returns-then-not-proper : goal.returns-then-not-proper
returns-then-not-proper c =
    record { answer = sym c.if-not-proper.true ∙ told (goal.at.returns-then-not-proper c).After-proper; added = λ e. absurd (false≢true e) }

-- the packet fits
fitted : (c : Else-not-proper)
    → let a = c.args in packet_fits (settings_of a.s) a.m.now a.column a.x.0 ≡ true
fitted c = sym (told (goal.at.Else-not-proper c).After-proper) ∙ c.if-not-proper.false

pub add_price-requires : goal.add_price-requires
add_price-requires c =
    let p = c.requires in
    let queue = (read (goal.at.add_price-requires c).After-proper).queue_is in
    record {
      home = (node_from _ c.args.x.0 p.node).home;
      inside = omega (arith, queue, fits_queue _ _ _ _ (fitted (goal.at.add_price-requires c).Else-not-proper));
      held = p.held;
    }

pub returns : goal.returns
unfolding add_node
returns c =
    let a = c.args in
    let note = read (goal.at.returns c).After-proper in
    record {
      answer = sym (fitted (goal.at.returns c).Else-not-proper);
      added = λ e. c.add_price.ensures ∙ ap₂ (add_price (settings_of a.s) a.sums.now a.x.0) note.queue_is note.price_is;
    }
