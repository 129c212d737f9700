-- `moves::stitch` meets its contract: the judge decides, and where it lets the call go the node is taken off and put on, and its
-- record made. Assumes nothing.
use mathlib.Core.Path.{◌≡◌, refl, sym, ap, ◌∙◌}
use mathlib.Core.List.{List}
use Prim.Native.Nat.{ℕ, ◌<◌}
use Rattle.ledger.specs.Settings.{Settings}
use Rattle.ledger.specs.Answers.{sent_of}
use Rattle.ledger.specs.Calls.{stitch}
use Rattle.ledger.specs.Ledger.{Packet, ingress, egress, place#, map_of}
use Rattle.layout.specs.declared.Table.TheVariants.{Head}
use Rattle.layout.specs.Tables.{lists, get}
use Rattle.layout.specs.Shapes.{settings_of}
use Rattle.layout.specs.Picture.{packet_at, ledger_in}
use Rattle.memory.specs.Writes.{head_of}
use Rattle.memory.specs.Judged.{good, judged}
use Rattle.memory.proofs.Chains.{state_tidy}
use Rattle.memory.proofs.Judged.{handed_on}
use Rattle.memory.proofs.Judging.{ingress_in, egress_in}
use Rattle.lists.specs.Ends.{CanShift}
use Rattle.lists.proofs.Laws.{can_take, can_put, shifted}
use Rattle.moves.proofs.Laws.{Stitches, stitched_on}
use Rattle.moves.proofs.stitch.Goals as goal
use Rattle.moves.proofs.stitch.Goals.{After-egress_list-at, After-first, After-ingress_list-from, After-mapped-to, After-packet-k, In_ok-judge_stitch, Start}

-- the settings and the memory at the start, the oldest node and its packet
abbrev S : Start → Settings
S st = settings_of st.args.s

abbrev m : Start → List ℕ
m st = st.args.m.now

abbrev oldest : Start → ℕ
oldest st = head_of (S st) (m st) (ingress st.args.port)

abbrev packet : Start → Packet
packet st = packet_at (S st) (m st) (oldest st)

-- the judge let it go
went : (c : In_ok-judge_stitch) → let k = (goal.at.In_ok-judge_stitch c).Start in
    good ≡ judged (S k) (ledger_in (S k) (m k)) (stitch c.args.port)
went c = c.in_ok-judge_stitch.ensures

-- so what is first in the list is a packet that can be stitched
first_goes : (c : In_ok-judge_stitch)
    → Stitches (S (goal.at.In_ok-judge_stitch c).Start) (m (goal.at.In_ok-judge_stitch c).Start) c.args.port (packet (goal.at.In_ok-judge_stitch c).Start)
    (map_of (ledger_in (S (goal.at.In_ok-judge_stitch c).Start) (m (goal.at.In_ok-judge_stitch c).Start)) (packet (goal.at.In_ok-judge_stitch c).Start).dest)
first_goes c = stitched_on (S (goal.at.In_ok-judge_stitch c).Start) (m (goal.at.In_ok-judge_stitch c).Start) c.requires.state c.args.port (went c) _ refl _ refl

pub ingress_list-from-requires : goal.ingress_list-from-requires
ingress_list-from-requires c = record { port = (first_goes c).port }

from_in : (c : After-ingress_list-from) → c.ingress_list-from.result < lists (S (goal.at.After-ingress_list-from c).Start)
from_in c =
    rw c.ingress_list-from.ensures (ingress_in _ _ c.args.s.laid.roomy (first_goes (goal.at.After-ingress_list-from c).In_ok-judge_stitch).port)

pub first-requires : goal.first-requires
first-requires c =
    record { long = c.requires.state.long; inside = from_in c }

-- the node whose packet is read is the first of the list
node_is : (c : After-first) → c.first.result.0 ≡ oldest (goal.at.After-first c).Start
node_is c = c.first.ensures ∙ ap (get (S (goal.at.After-first c).Start) (m (goal.at.After-first c).Start) Head) c.ingress_list-from.ensures

pub packet-k-requires : goal.packet-k-requires
packet-k-requires c =
    record { long = c.requires.state.long; node = rw (node_is c) (first_goes (goal.at.packet-k-requires c).In_ok-judge_stitch).node }

packet_is : (c : After-packet-k) → sent_of c.packet-k.result ≡ packet (goal.at.After-packet-k c).Start
packet_is c =
    c.packet-k.ensures ∙ ap (packet_at (S (goal.at.After-packet-k c).Start) (m (goal.at.After-packet-k c).Start))
    (node_is (goal.at.After-packet-k c).After-first)

-- all of it together, of the packet and the port as the code holds them
goes : (c : After-mapped-to)
    → Stitches (S (goal.at.After-mapped-to c).Start) (m (goal.at.After-mapped-to c).Start) c.args.port (sent_of c.packet-k.result) c.mapped-to.result
goes c =
    stitched_on (S (goal.at.After-mapped-to c).Start) (m (goal.at.After-mapped-to c).Start) c.requires.state c.args.port
    (went (goal.at.After-mapped-to c).In_ok-judge_stitch) _ (packet_is (goal.at.After-mapped-to c).After-packet-k) _ (rw c.from.ensures at c.mapped-to.ensures)

pub egress_list-at-requires : goal.egress_list-at-requires
egress_list-at-requires c =
    record {
      port = rw c.from-2.ensures (goes (goal.at.egress_list-at-requires c).After-mapped-to).to_in;
      queue = rw c.from-3.ensures (goes (goal.at.egress_list-at-requires c).After-mapped-to).queue_in_range;
    }

-- the oldest ingress node can go to the egress list
can : (c : After-mapped-to)
    → CanShift c.args.s (place# (S (goal.at.After-mapped-to c).Start) (ingress c.args.port))
    (place# (S (goal.at.After-mapped-to c).Start) (egress c.mapped-to.result c.packet-k.result.queue)) (m (goal.at.After-mapped-to c).Start)
can c =
    let g = goes c in
    record {
      take = record {
        tidy = state_tidy (S (goal.at.After-mapped-to c).Start) (m (goal.at.After-mapped-to c).Start) c.requires.state;
        inside = ingress_in _ _ c.args.s.laid.roomy g.port;
        some = g.some;
      };
      target = egress_in _ _ _ g.to_in g.queue_in_range;
    }

-- the list's number, by the port and the queue as the map and the packet have them
at_is : (c : After-egress_list-at) →
    c.egress_list-at.result ≡ place# (S (goal.at.After-egress_list-at c).Start) (egress c.mapped-to.result c.packet-k.result.queue)
at_is c = rw (c.from-2.ensures, c.from-3.ensures) at c.egress_list-at.ensures

pub pop-x-requires : goal.pop-x-requires
pop-x-requires c = can_take c.ingress_list-from.ensures (can (goal.at.pop-x-requires c).After-mapped-to)

pub push-requires : goal.push-requires
push-requires c =
    can_put c.ingress_list-from.ensures (at_is (goal.at.push-requires c).After-egress_list-at) (can (goal.at.push-requires c).After-mapped-to) c.pop-x.ensures

pub returns-in_err-judge_stitch : goal.returns-in_err-judge_stitch
returns-in_err-judge_stitch c = handed_on _ _ _ _ _ _ c.from_residual.ensures.1 c.in_err-judge_stitch.ensures refl

pub returns : goal.returns
returns c =
    let sh = shifted c.ingress_list-from.ensures (at_is (goal.at.returns c).After-egress_list-at) c.pop-x.ensures c.push.ensures in
    rw (c.record_of.ensures, sh.memory) (sym (goes (goal.at.returns c).After-mapped-to).outcome)
