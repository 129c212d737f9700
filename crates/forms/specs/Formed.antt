-- What the numbers of a form are. Assumes nothing.
use Rattle.std.specs.Prelude.{◌≡◌, cond, ℕ, eqb}
use Rattle.ledger.specs.Settings.{ten_bytes}
use Rattle.ledger.specs.Header.{Form}
use Rattle.forms.specs.Numbers.{form_by, IsForm}
use Rattle.forms.specs.declared.form.HeaderForm.{HeaderForm}

abbrev pub offer_of : ℕ → ℕ
offer_of e = cond (eqb e ten_bytes) 1 2

-- the form that the code's numbers were made from
abbrev pub form_in : HeaderForm → Form
form_in f = form_by f.port f.queue f.offer

-- they hold what it says, and it is a switch's
abbrev pub Formed : HeaderForm → Type 0
Formed f = IsForm f.port f.queue f.offer f.front f.spare f.size

-- numbers of the form F
pub record Forms (F : Form) (f : HeaderForm) : Type 0 where
  pub formed : Formed f
  pub form_is : form_in f ≡ F
