-- `arrivals::admit` meets its contract: each return is a law of what the judgement is there. Assumes nothing.
use mathlib.Core.Path.{◌≡◌, sym, ap, ap₂, ◌∙◌}
use Prim.Native.Nat.{ℕ}
use Rattle.ledger.specs.Ledger.{Packet, recorded, free, place#}
use Rattle.ledger.specs.Calls.{lacks}
use Rattle.ledger.specs.Answers.{sent_of}
use Rattle.header.specs.Parse.{header_of}
use Rattle.layout.specs.declared.Table.TheVariants.{Head, Count}
use Rattle.layout.specs.Tables.{get}
use Rattle.layout.specs.Shapes.{settings_of}
use Rattle.layout.specs.Picture.{ledger_in}
use Rattle.lists.specs.Ends.{InList}
use Rattle.arrivals.specs.Admission.{accepted, packet_for}
use Rattle.arrivals.proofs.Laws as laws
use Rattle.arrivals.proofs.admit.Goals as goal
use Rattle.arrivals.proofs.admit.Goals.{After-count, After-free_list-free, After-packet_of-k, After-wanting}

in_list : (c : After-free_list-free) → let a = c.args in InList a.s c.free_list-free.result a.m.now
in_list c =
    let a = c.args in
    record {
      long = c.requires.long;
      inside = rw c.free_list-free.ensures (laws.lists_in (settings_of a.s) c.args.s.laid.roomy a.p c.requires.port).0;
    }

pub first-requires : goal.first-requires
first-requires c = in_list c

-- the packet is made of the first free node
packet_is : (c : After-packet_of-k) → let a = c.args in
    sent_of c.packet_of-k.result ≡ packet_for (settings_of a.s) a.m.now a.p (header_of a.f)
packet_is c =
    let a = c.args in
    let first = c.first.ensures ∙ ap (get (settings_of a.s) a.m.now Head) c.free_list-free.ensures in
    c.packet_of-k.ensures ∙ ap (λ (x : ℕ). recorded (settings_of a.s) x (header_of a.f)) first

queue_is : (c : After-packet_of-k) → let a = c.args in
    c.packet_of-k.result.queue ≡ (packet_for (settings_of a.s) a.m.now a.p (header_of a.f)).queue
queue_is c = ap (λ (k : Packet). k.queue) (packet_is c)

pub wanting-requires : goal.wanting-requires
wanting-requires c =
    let a = c.args in
    record {
      long = c.requires.long;
      port = c.requires.port;
      queue = rw (c.from.ensures, queue_is (goal.at.wanting-requires c).After-packet_of-k)
          (laws.queue_in_range (settings_of a.s) _ (header_of a.f) c.requires.queue);
    }

-- what is asked is whether the packet's price can be paid
lacks_is : (c : After-wanting) → let a = c.args in
    let S = settings_of a.s in
    let k = packet_for S a.m.now a.p (header_of a.f) in
    c.wanting.result ≡ lacks S (ledger_in S a.m.now) a.p k.queue k.price
lacks_is c =
    let a = c.args in
    let S = settings_of a.s in
    c.wanting.ensures
    ∙ ap₂ (lacks S (ledger_in S a.m.now) a.p) c.from.ensures c.from-2.ensures
    ∙ ap (λ (j : Packet). lacks S (ledger_in S a.m.now) a.p j.queue j.price) (packet_is (goal.at.After-wanting c).After-packet_of-k)

pub returns-then-wanting : goal.returns-then-wanting
returns-then-wanting c =
    let a = c.args in
    laws.no_credit (settings_of a.s) c.args.s.laid.roomy a.p c.requires.port a.m.now (header_of a.f)
    (sym (lacks_is (goal.at.returns-then-wanting c).After-wanting) ∙ c.if-wanting.true)

pub count-requires : goal.count-requires
count-requires c = in_list (goal.at.count-requires c).After-free_list-free

count_is : (c : After-count) → let a = c.args in
    c.count.result ≡ get (settings_of a.s) a.m.now Count (place# (settings_of a.s) (free a.p))
count_is c =
    let a = c.args in
    c.count.ensures ∙ ap (get (settings_of a.s) a.m.now Count) c.free_list-free.ensures

pub returns-then-count-eq0 : goal.returns-then-count-eq0
returns-then-count-eq0 c =
    let a = c.args in
    laws.no_node (settings_of a.s) c.args.s.laid.roomy a.p c.requires.port a.m.now (header_of a.f)
    (sym (lacks_is (goal.at.returns-then-count-eq0 c).After-wanting) ∙ c.if-wanting.false)
    (sym (count_is (goal.at.returns-then-count-eq0 c).After-count) ∙ c.if-count-eq0.true)

pub returns : goal.returns
returns c =
    let a = c.args in
    ap accepted (packet_is (goal.at.returns c).After-packet_of-k)
    ∙ laws.admits (settings_of a.s) c.args.s.laid.roomy a.p c.requires.port a.m.now (header_of a.f)
    (sym (lacks_is (goal.at.returns c).After-wanting) ∙ c.if-wanting.false)
    (λ z. c.if-count-eq0.false (count_is (goal.at.returns c).After-count ∙ z))
