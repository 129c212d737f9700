-- `shows::show_at` meets its contract: the judge decides, and where it lets the call go the oldest of the slots is read. Assumes nothing.
use mathlib.Core.Path.{◌≡◌, refl, sym, ap, ◌∙◌}
use mathlib.Core.List.{List}
use Prim.Native.Nat.{ℕ}
use Rattle.ledger.specs.Ledger.{Packet, prefetched}
use Rattle.ledger.specs.Calls.{Reply, part}
use Rattle.layout.specs.declared.Table.TheVariants.{Head}
use Rattle.layout.specs.Tables.{get}
use Rattle.layout.specs.Shapes.{settings_of}
use Rattle.layout.specs.Picture.{packet_at}
use Rattle.memory.specs.Writes.{head_of}
use Rattle.memory.proofs.Judged.{handed_on}
use Rattle.shows.proofs.Laws.{Shows, shown}
use Rattle.shows.proofs.show_at.Goals as goal
use Rattle.shows.proofs.show_at.Goals.{After-first-oldest, In_ok-judge_show}

went : (c : In_ok-judge_show) → let a = c.args in
    Shows (settings_of a.s) a.m.now a.sizes a.port a.queue
went c =
    let a = c.args in
    shown (settings_of a.s) a.m.now c.requires.state a.sizes a.port a.queue
    c.in_ok-judge_show.ensures

-- the oldest node
first_is : (c : After-first-oldest) → let a = c.args in
    c.first-oldest.result.0 ≡ head_of (settings_of a.s) a.m.now (prefetched a.port a.queue)
first_is c =
    let a = c.args in
    c.first-oldest.ensures ∙ ap (get (settings_of a.s) a.m.now Head) c.prefetch_list-at.ensures

pub prefetch_list-at-requires : goal.prefetch_list-at-requires
prefetch_list-at-requires c = record { port = (went c).port; queue = (went c).queue }

pub first-oldest-requires : goal.first-oldest-requires
first-oldest-requires c =
    record { long = c.requires.state.long; inside = rw c.prefetch_list-at.ensures (went (goal.at.first-oldest-requires c).In_ok-judge_show).inside }

pub packet-k-requires : goal.packet-k-requires
packet-k-requires c =
    record { long = c.requires.state.long; node = rw (first_is c) (went (goal.at.packet-k-requires c).In_ok-judge_show).node }

pub returns-in_err-judge_show : goal.returns-in_err-judge_show
returns-in_err-judge_show c =
    ap (λ (out : Reply × List ℕ). out.0) (handed_on _ _ c.args.m.now _ _ _ c.from_residual.ensures.1 c.in_err-judge_show.ensures refl)

pub returns : goal.returns
returns c =
    let a = c.args in
    let S = settings_of a.s in
    ap (λ (k : Packet). part c.first-oldest.result.0 k.len) c.packet-k.ensures
    ∙ ap (λ (x : ℕ). part x (packet_at S a.m.now x).len) (first_is (goal.at.returns c).After-first-oldest)
    ∙ sym (went (goal.at.returns c).In_ok-judge_show).outcome
