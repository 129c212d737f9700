-- `codec::write` meets its contract: the counts, then what the label may be, then its bytes. Assumes nothing.
use mathlib.Core.Path.{◌≡◌, sym, ◌∙◌, subst}
use mathlib.Core.List.{List}
use Prim.Native.Nat.{ℕ}
use Rattle.std.specs.Prelude.{Ok}
use Rattle.forms.specs.Formed.{form_in}
use Rattle.codec.specs.Label.{label_in, Answer, gives}
use Rattle.codec.specs.Writer.{IsHeader, Answers}
use Rattle.codec.specs.declared.written.Written.{Written}
use Rattle.codec.proofs.Labels.{holds_means, written, length_header}
use Rattle.codec.proofs.write.Goals as goal

tells : (w : Written) (b : List ℕ) (a : Answer (List ℕ)) → gives b ≡ a → IsHeader w b → Answers (Ok w) a
tells w b a is k = subst (λ (x : Answer (List ℕ)). Answers (Ok w) x) is k

pub seal-requires : goal.seal-requires
seal-requires c = (holds_means (form_in c.in_ok-form.form) c.args.queues (label_in c.args.label) (sym c.if-not-can_say.ensures)).fit

pub returns : goal.returns
returns c =
    let a = c.args in
    let f = c.in_ok-form.form in
    let F = form_in f in
    tells _ _ _
    (written a.edition a.ports a.queues (label_in a.label) c.in_ok-form.ensures.0 F c.in_ok-form.ensures.1 (sym c.if-not-can_say.ensures))
    (record { size = f.formed.size_is ∙ sym (length_header F (label_in a.label)); bytes = c.seal.ensures })
