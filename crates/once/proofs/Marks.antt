-- A node that is met for the first time, and its mark. Assumes nothing.
use mathlib.Core.Path.{◌≡◌, ap, ◌∙◌}
use mathlib.Core.Bool.{Bool, true}
use mathlib.Core.List.{List}
use Prim.Native.Nat.{ℕ, ◌*◌, ◌≤◌}
use lib.ListN.{length, get_or, length-set}
use lib.Dec.{eqb}
use Rattle.ledger.specs.Settings.{Settings}
use Rattle.ledger.specs.Ledger.{is_node}
use Rattle.ledger.proofs.Tests.{eqb_yes, eqb_is, and_left, and_right}
use Rattle.layout.specs.Tables.{all}
use Rattle.layout.specs.Picture.{slot}
use Rattle.memory.proofs.Chains.{slot_lt}
use Rattle.once.specs.Bits.{mark_at, set_mark, marks_in}
use Rattle.once.specs.Once.{is_new, mark}
use Rattle.once.specs.Walks.{Fresh}
use Rattle.once.proofs.Bits.{marks_at, marks_set}

pub record New (S : Settings) (ms : List ℕ) (x : ℕ) : Type 0 where
  pub node : is_node S x ≡ true
  pub clear : get_or ms (slot S x) 0 ≡ 0

module _ (S : Settings) (ms : List ℕ) (x : ℕ) where
  pub new : is_new S ms x ≡ true → New S ms x
  unfolding is_new
  new e = record { node = and_left (is_node S x) _ e; clear = eqb_yes (get_or ms (slot S x) 0) 0 (and_right (is_node S x) _ e) }

  pub new_is : New S ms x → is_new S ms x ≡ true
  unfolding is_new
  new_is n = rw (n.node, eqb_is (get_or ms (slot S x) 0) 0 n.clear)

  pub length_mark : length (mark S ms x) ≡ length ms
  unfolding mark
  length_mark = length-set ms (slot S x) 1

-- a node whose element's mark was clear is new
pub fresh_new : (S : Settings) {bs bs' : List ℕ} {i : ℕ} {r : Bool} (x : ℕ) → all S ≤ 8 * length bs → is_node S x ≡ true → i ≡ slot S x
    → Fresh bs i bs' r → (r ≡ is_new S (marks_in S bs) x) × (r ≡ true → marks_in S bs' ≡ mark S (marks_in S bs) x)
unfolding is_new mark
fresh_new S {bs} {bs'} {i} {r} x room n e f =
    let low = slot_lt S x n in
    let clear : r ≡ eqb (mark_at bs (slot S x)) 0 = f.answer ∙ rw e in (
      clear ∙ rw (n, marks_at S bs (slot S x) low),
      λ y. ap (marks_in S) (f.after y ∙ ap (set_mark bs) e) ∙ marks_set S bs (slot S x) room low,
    )
