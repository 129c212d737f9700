-- Repair's two answers, by what the memory is opened as. Assumes nothing.
use mathlib.Core.Path.{◌≡◌, sym, ap, ◌∙◌}
use mathlib.Core.List.{List}
use Prim.Native.Nat.{ℕ}
use Rattle.ledger.specs.Settings.{Settings}
use Rattle.ledger.specs.Calls.{Reply, refused, done}
use Rattle.layout.specs.declared.shape.Shape.{Shape}
use Rattle.layout.specs.Shapes.{settings_of}
use Rattle.std.specs.Prelude.{Err}
use Rattle.ranges.specs.Opening.{opened, Open}
use Rattle.ranges.proofs.Opening.{opened_wrong, open_opens}
use Rattle.memory.specs.Repair.{repair_mem, repaired}
use Rattle.memory.proofs.Repair.{repair_refused, repair_done}
use Rattle.fills.specs.Fills.{Room}

pub of_wrong : {m : List ℕ} {i : ℕ} → opened m ≡ Err i → ◌≡◌ {A = Reply × List ℕ} (refused 3, m) (repaired m)
of_wrong {m} {i} e = sym (repair_refused m (opened_wrong m i e).0)

module _ {m : List ℕ} {s : Shape} (o : Open m s) where
  pub open_room : Room s m
  open_room = record { long = rw o.settings_are o.long }

  pub of_fine : ◌≡◌ {A = Reply × List ℕ} (done, repair_mem (settings_of s) m) (repaired m)
  of_fine = ap (λ (S : Settings). (done, repair_mem S m)) o.settings_are ∙ sym (repair_done m (open_opens o))
