-- `codec::front_from` meets its contract: each value that is joined keeps the number as narrow as the fields so far. Assumes nothing.
use Prim.Native.Nat.{ℕ, ◌+◌, ◌-◌, ◌*◌, ◌^◌, ◌<◌}
use native.Mathlib.Omega.{arith}
use lib.Pow.{pow_pos}
use Rattle.numbers.proofs.Parts.{joined_lt, join_word}
use Rattle.forms.specs.Formed.{form_in}
use Rattle.codec.specs.Label.{label_in}
use Rattle.codec.proofs.Labels.{front_packed}
use Rattle.codec.proofs.front_from.Goals as goal
use Rattle.codec.proofs.front_from.Goals.{After-join-flag, After-join-length, After-join-ports, After-join-queue}

-- so many bits the number has by then
narrow_ports : (c : After-join-ports) → c.join-ports.result < 2 ^ (c.args.form.port + c.args.form.port)
narrow_ports c =
    let a = c.args in
    joined_lt a.form.port a.form.port a.v.destination a.v.source c.join-ports.result c.join-ports.ensures
    c.requires.0 c.requires.1.0

narrow_queue : (c : After-join-queue)
    → c.join-queue.result < 2 ^ (c.args.form.port + c.args.form.port + c.args.form.queue)
narrow_queue c =
    let a = c.args in
    joined_lt (a.form.port + a.form.port) a.form.queue c.join-ports.result a.v.queue
    c.join-queue.result c.join-queue.ensures (narrow_ports (goal.at.After-join-queue c).After-join-ports) c.requires.1.1.0

narrow_length : (c : After-join-length)
    → c.join-length.result < 2 ^ (c.args.form.port + c.args.form.port + c.args.form.queue + 13)
narrow_length c =
    let a = c.args in
    joined_lt (a.form.port + a.form.port + a.form.queue) 13 c.join-queue.result a.v.length
    c.join-length.result c.join-length.ensures (narrow_queue (goal.at.After-join-length c).After-join-queue) c.requires.1.1.1.0

narrow_flag : (c : After-join-flag)
    → c.join-flag.result < 2 ^ (c.args.form.port + c.args.form.port + c.args.form.queue + 13 + 1)
narrow_flag c =
    let a = c.args in
    joined_lt (a.form.port + a.form.port + a.form.queue + 13) 1 c.join-length.result a.v.poisoned
    c.join-flag.result c.join-flag.ensures (narrow_length (goal.at.After-join-flag c).After-join-length) c.requires.1.1.1.1.0

pub join-length-requires : goal.join-length-requires
join-length-requires c =
    let a = c.args in (
      omega arith,
      join_word (a.form.port + a.form.port + a.form.queue) 13 c.join-queue.result a.v.length
          (narrow_queue c) c.requires.1.1.1.0 (omega arith),
    )

pub join-flag-requires : goal.join-flag-requires
join-flag-requires c =
    let a = c.args in (
      omega arith,
      join_word (a.form.port + a.form.port + a.form.queue + 13) 1 c.join-length.result
          a.v.poisoned (narrow_length c) c.requires.1.1.1.1.0 (omega arith),
    )

pub join-requires : goal.join-requires
join-requires c =
    let a = c.args in
    let zeros : ℕ = a.form.spare + 8 * (4 - a.form.front) in (
      omega arith,
      join_word (a.form.port + a.form.port + a.form.queue + 13 + 1) zeros c.join-flag.result 0
          (narrow_flag (goal.at.join-requires c).After-join-flag) (pow_pos zeros) (omega arith),
    )

pub returns : goal.returns
returns c =
    let a = c.args in
    front_packed (form_in a.form) (label_in a.v) c.requires c.join-ports.result c.join-queue.result c.join-length.result c.join-flag.result
    c.join.result a.form.spare (8 * (4 - a.form.front))
    c.join-ports.ensures
    c.join-queue.ensures
    c.join-length.ensures
    c.join-flag.ensures
    a.form.formed.spare_is
    c.join.ensures
