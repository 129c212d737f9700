-- The call that a field's order is, and the header that it is handed. Assumes nothing.
use Rattle.std.specs.Prelude.{List, [], ℕ, ◌+◌, ◌≤◌, ◌<◌, take, drop}
use Rattle.ledger.specs.Settings.{settings}
use Rattle.ledger.specs.Header.{alone}
use Rattle.ledger.specs.Buckets.{untimed}
use Rattle.ledger.specs.Calls as act
use Rattle.ledger.specs.Desk as desk
use Rattle.fields.specs.declared.Order.{Order}
use Rattle.fields.specs.declared.Order.TheVariants.{Setup, Arrive, Stitch, Prefetch, Turn, Credit, Map}
use Rattle.fields.specs.declared.Read.{Read}
use Rattle.fields.specs.declared.Read.TheVariants.{Call, Bad, End}

-- the header that an order's call is handed, from the bytes that the order was read in: an arrival has one
abbrev pub header_in : List ℕ → Order → List ℕ
header_in s (Setup nodes beat slots credit) = []
header_in s (Arrive port at) = take 10 (drop at s)
header_in s (Stitch port) = []
header_in s (Prefetch port queue) = []
header_in s (Turn port) = []
header_in s (Credit port queue amount) = []
header_in s (Map id port) = []

-- the call of an order, h being its header
abbrev pub call_in : Order → List ℕ → desk.Call
call_in (Setup nodes beat slots credit) h = desk.setup (settings nodes beat slots credit)
call_in (Arrive port at) h = desk.act (act.arrive port (alone h))
call_in (Stitch port) h = desk.act (act.stitch port)
call_in (Prefetch port queue) h = desk.act (act.prefetch port queue)
call_in (Turn port) h = desk.act (act.turn untimed port)
call_in (Credit port queue amount) h = desk.act (act.credit port queue amount)
call_in (Map id port) h = desk.act (act.map_to id port)

-- an arrival's header stands within the n bytes
abbrev pub HeaderWithin : ℕ → Order → Type 0
HeaderWithin n (Setup nodes beat slots credit) = Unit
HeaderWithin n (Arrive port h) = h + 10 ≤ n
HeaderWithin n (Stitch port) = Unit
HeaderWithin n (Prefetch port queue) = Unit
HeaderWithin n (Turn port) = Unit
HeaderWithin n (Credit port queue amount) = Unit
HeaderWithin n (Map id port) = Unit

-- a call from place `at` has a field of some bytes, all of them among the n
abbrev pub Keeps : ℕ → ℕ → Read → Type 0
Keeps at n (Call o next) = (at < next) × (next ≤ n) × HeaderWithin n o
Keeps at n Bad = Unit
Keeps at n End = Unit
