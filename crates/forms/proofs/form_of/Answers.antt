-- `forms::form_of` meets its contract: each number is its definition's. Assumes nothing.
use mathlib.Core.Path.{◌≡◌, refl, sym, subst}
use native.Mathlib.Omega.{arith}
use Rattle.ledger.specs.Header.{Form, Narrow, form_of, front_bits, front_bytes, spare, body_size, header_size}
use Rattle.ledger.proofs.Header.{narrow, fronted}
use Rattle.forms.specs.Numbers.{form_by}
use Rattle.forms.specs.Formed.{form_in, Forms}
use Rattle.forms.specs.declared.form.HeaderForm.{HeaderForm}
use Rattle.forms.proofs.form_of.Goals as goal
use Rattle.forms.proofs.form_of.Goals.{After-offer_of-offer}

form_is : (c : After-offer_of-offer) → let a = c.args in
    form_by c.width_of-port.result c.width_of-queue.result c.offer_of-offer.result ≡ form_of a.edition a.ports a.queues
unfolding form_of
form_is c = rw (c.width_of-port.ensures.0, c.width_of-queue.ensures.0, c.offer_of-offer.ensures.0)

pub invariant_of-result : goal.invariant_of-result
unfolding front_bits front_bytes spare body_size header_size
invariant_of-result c =
    let a = c.args in
    let given = c.requires in
    let n = subst (λ (F : Form). Narrow F) (sym (form_is (goal.at.invariant_of-result c).After-offer_of-offer))
    (narrow a.edition a.ports a.queues given.0 given.1 given.2 given.3) in
    let f = fronted (form_by c.width_of-port.result c.width_of-queue.result c.offer_of-offer.result) n in
    record {
      formed = record { narrow = n; front_is = refl; spare_is = refl; size_is = omega arith };
      small = record { three = f.three; four = f.four; few_spare = f.few_spare; filled = f.spared; whole = refl };
    }

of_form : (F : Form) (f : HeaderForm) → form_in f ≡ F → Forms F f
of_form F f e = record { formed = f.formed; form_is = e }

pub returns : goal.returns
returns c = of_form _ _ (form_is (goal.at.returns c).After-offer_of-offer)
