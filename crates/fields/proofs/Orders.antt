-- The laws of the call at a place: its field and an arrival's header stand within the bytes. Assumes nothing.
use mathlib.Core.Path.{◌≡◌, refl, subst}
use mathlib.Core.Bool.{Bool, true, false, cond}
use mathlib.Core.List.{List}
use Prim.Native.Nat.{ℕ, zero, suc, ◌+◌, ◌<◌, ◌≤◌}
use native.Mathlib.Omega.{arith}
use lib.Dec.{eqb}
use lib.ListN.{length}
use borrow.Author.Tests.{eqb-true}
use Rattle.fields.specs.Field.{field_at}
use Rattle.fields.specs.Calls.{size_of, call_of, whole_told, told_by, order_at}
use Rattle.fields.specs.Orders.{Keeps}
use Rattle.fields.specs.declared.Field.{Field}
use Rattle.fields.specs.declared.Field.TheVariants as field
use Rattle.fields.specs.declared.Order.{Order}
use Rattle.fields.specs.declared.Order.TheVariants.{Arrive}
use Rattle.fields.specs.declared.Read.TheVariants.{Call, Bad}
use Rattle.fields.proofs.Fields.{Inside, whole_inside}

call_keeps : (s : List ℕ) (at n tag v next : ℕ) → at < next → next ≤ n → v + size_of tag ≤ n → Keeps at n (call_of s tag v next)
unfolding size_of call_of
call_keeps s at n zero v next low high fits = tt
call_keeps s at n (suc zero) v next low high fits = (low, high, tt)
call_keeps s at n (suc (suc zero)) v next low high fits = (low, high, omega arith)
call_keeps s at n (suc (suc (suc zero))) v next low high fits = (low, high, tt)
call_keeps s at n (suc (suc (suc (suc zero)))) v next low high fits = (low, high, tt)
call_keeps s at n (suc (suc (suc (suc (suc zero))))) v next low high fits = (low, high, tt)
call_keeps s at n (suc (suc (suc (suc (suc (suc zero)))))) v next low high fits = (low, high, tt)
call_keeps s at n (suc (suc (suc (suc (suc (suc (suc zero))))))) v next low high fits = (low, high, tt)
call_keeps s at n (suc (suc (suc (suc (suc (suc (suc (suc tag)))))))) v next low high fits = tt

pub whole_keeps : (s : List ℕ) (at tag v len next : ℕ) → Inside s at v len next → Keeps at (length s) (whole_told s tag v len next)
whole_keeps s at tag v len next i = by (eqb len (size_of tag)) refl
  where
    by : (t : Bool) → eqb len (size_of tag) ≡ t → Keeps at (length s) (cond t (call_of s tag v next) Bad)
    by true t =
        let right = eqb-true len (size_of tag) t in
        call_keeps s at (length s) tag v next (omega (arith, i.starts, i.ends)) i.within (omega (arith, i.ends, i.within))
    by false t = tt

keeps : (s : List ℕ) (at : ℕ) → Keeps at (length s) (order_at s at)
keeps s at = go (field_at s at) refl
  where
    go : (f : Field) → field_at s at ≡ f → Keeps at (length s) (told_by s f)
    go (field.Whole tag v len next) e = whole_keeps s at tag v len next (whole_inside s at tag v len next e)
    go field.Cut e = tt
    go field.End e = tt

-- a loop over the fields ends
pub next_larger : (s : List ℕ) (at : ℕ) (o : Order) (next : ℕ) → order_at s at ≡ Call o next → (at < next) × (next ≤ length s)
next_larger s at o next e = let k = subst (Keeps at (length s)) e (keeps s at) in (k.0, k.1)

pub header_within : (s : List ℕ) (at port h next : ℕ) → order_at s at ≡ Call (Arrive port h) next → h + 10 ≤ length s
header_within s at port h next e = (subst (Keeps at (length s)) e (keeps s at)).2
