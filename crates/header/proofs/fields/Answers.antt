-- `header::fields` meets its contract: each field from its part of the bytes. Assumes nothing.
use mathlib.Core.Path.{◌≡◌, ap, ◌∙◌}
use Prim.Native.Nat.{ℕ, ◌+◌, ◌-◌}
use native.Mathlib.Omega.{arith}
use Rattle.numbers.specs.Bytes.{number}
use Rattle.numbers.specs.Fields.{unpack}
use Rattle.ledger.specs.Header.{front_bytes, body_size}
use Rattle.forms.specs.Formed.{form_in}
use Rattle.header.specs.Front.{front_widths, front_of}
use Rattle.header.proofs.Reading.{fields_found}
use Rattle.header.proofs.fields.Goals as goal

pub returns : goal.returns
unfolding body_size
returns c =
    let f = c.args.form in
    let F = form_in f in
    let h = c.args.h.now in
    let front = f.formed.front_is in
    let fourth : f.front + 4 ≡ front_bytes F + 4 = omega arith in
    let last : f.size - 2 ≡ front_bytes F + 4 + f.offer = omega arith in
    let after : f.size - 2 + 1 ≡ body_size F = omega arith in
    fields_found F h (front_of c.front_fields-front.result) c.read-stamp.result c.offered_at-offered.result c.read-transaction.result c.read-check.result
    (c.front_fields-front.ensures ∙ ap (unpack (front_widths F)) (c.front_word-w.ensures ∙ ap (λ (k : ℕ). number k h 0) front))
    (c.read-stamp.ensures ∙ ap (number 4 h) front)
    (c.offered_at-offered.ensures ∙ ap (number f.offer h) fourth)
    (c.read-transaction.ensures ∙ ap (number 1 h) last)
    (c.read-check.ensures ∙ ap (number 1 h) after)
