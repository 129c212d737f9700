-- A refused arrival writes at most one byte. Assumes nothing.
use mathlib.Core.Path.{◌≡◌, refl, sym, subst}
use mathlib.Core.Bool.{Bool, true, false, cond}
use mathlib.Core.List.{List}
use Prim.Native.Nat.{ℕ}
use Rattle.ledger.specs.Settings.{Settings}
use Rattle.ledger.specs.Header.{Load}
use Rattle.ledger.specs.Halt.{marks}
use Rattle.ledger.specs.Calls.{arrive, refused}
use Rattle.ledger.specs.Desk.{act}
use Rattle.ledger.proofs.Halt.{halts_low, marks_halts}
use Rattle.layout.specs.declared.Table.TheVariants.{Halted}
use Rattle.layout.specs.Tables.{get, put}
use Rattle.layout.proofs.Tables.{put_byte}
use Rattle.layout.specs.Picture.{settings_in}
use Rattle.memory.specs.Writes.{mark_mem}
use Rattle.memory.specs.Memory.{M}
use Rattle.memory.specs.Marks.{ButTheMark, as_it_was, marked}
use Rattle.memory.proofs.Square.{refusal_marks_bytes}

pub mark_leaves : (S : Settings) (p n : ℕ) (m : List ℕ) → ButTheMark S p n m (mark_mem S p n m)
unfolding mark_mem
mark_leaves S p n m = go (marks S p (get S m Halted p) n) refl
  where
    go : (b : Bool) → marks S p (get S m Halted p) n ≡ b → ButTheMark S p n m (cond b (put S Halted p n m) m)
    go true e = subst (ButTheMark S p n m) (sym (put_byte S Halted p n m refl (halts_low n (marks_halts S p (get S m Halted p) n e)))) (marked e)
    go false e = as_it_was e

-- on any memory, whatever bytes arrive
pub refusal_but_the_mark : (p : ℕ) (h : Load) (m : List ℕ) (n : ℕ) → (M (act (arrive p h)) m).0 ≡ refused n
    → ButTheMark (settings_in m) p n m (M (act (arrive p h)) m).1
refusal_but_the_mark p h m n e = rw (refusal_marks_bytes p h m n e) (mark_leaves (settings_in m) p n m)
