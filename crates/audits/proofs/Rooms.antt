-- What eight bytes put into a room leave. Assumes nothing.
use mathlib.Core.Path.{◌≡◌, sym, ap, ◌∙◌}
use mathlib.Core.Logic.{◌≢◌}
use mathlib.Core.List.{List, ◌++◌, append_assoc}
use Prim.Native.Nat.{ℕ, ◌+◌, ◌-◌, ◌*◌, ◌≤◌, ◌<◌}
use native.Mathlib.Decide.{dec_lt}
use native.Mathlib.Omega.{arith}
use lib.ListN.{length, take, drop, length-append, length-drop, take-append-drop}
use lib.Seq.{length-take-le, take_at, drop_at, take-append-le, drop-append-le, drop-append-add, drop-drop}
use Rattle.memory.specs.Audit.{block}
use Rattle.audits.specs.Told.{put_eight}

-- eight bytes that a first part of a list has
early : (n : ℕ) (xs ys : List ℕ) → n + 8 ≤ length xs → take 8 (drop n (xs ++ ys)) ≡ take 8 (drop n xs)
early n xs ys h =
    ap (λ (l : List ℕ). take 8 l) (drop-append-le n xs ys (omega arith)) ∙ take-append-le 8 (drop n xs) ys (rw length-drop (omega arith))

module _ (at : ℕ) (bs room : List ℕ) (e : length bs ≡ 8) (h : at + 8 ≤ length room) where
  before : length (take at room) ≡ at
  before = length-take-le at room (omega arith)

  upto : length (take at room ++ bs) ≡ at + 8
  upto = length-append (take at room) bs ∙ omega (arith, before)

  pub put_length : length (put_eight at bs room) ≡ length room
  unfolding put_eight
  put_length = length-append (take at room ++ bs) (drop (at + 8) room) ∙ omega (arith, upto, length-drop (at + 8) room)

  pub put_past : (n : ℕ) → at + 8 ≤ n → drop n (put_eight at bs room) ≡ drop n room
  unfolding put_eight
  put_past n k =
      let d : ℕ = n - (at + 8) in
      let i : n ≡ length (take at room ++ bs) + d = omega (arith, upto) in
      let j : at + 8 + d ≡ n = omega arith in
      ap (λ (o : ℕ). drop o (take at room ++ bs ++ drop (at + 8) room)) i
      ∙ drop-append-add (take at room ++ bs) (drop (at + 8) room) d
      ∙ drop-drop d (at + 8) room
      ∙ ap (λ (o : ℕ). drop o room) j

  put_here : take 8 (drop at (put_eight at bs room)) ≡ bs
  unfolding put_eight
  put_here =
      let rest = drop (at + 8) room in
      ap (λ (l : List ℕ). take 8 (drop at l)) (append_assoc (take at room) bs rest)
      ∙ ap (λ (l : List ℕ). take 8 l) (drop_at (take at room) (bs ++ rest) at before)
      ∙ take_at bs rest 8 e

  put_early : (n : ℕ) → n + 8 ≤ at → take 8 (drop n (put_eight at bs room)) ≡ take 8 (drop n room)
  unfolding put_eight
  put_early n k =
      let rest = drop (at + 8) room in
      ap (λ (l : List ℕ). take 8 (drop n l)) (append_assoc (take at room) bs rest)
      ∙ early n (take at room) (bs ++ rest) (omega (arith, before))
      ∙ sym (early n (take at room) (drop at room) (omega (arith, before)))
      ∙ ap (λ (l : List ℕ). take 8 (drop n l)) (take-append-drop at room)

-- block k alone is written
module _ (k : ℕ) (bs room : List ℕ) (e : length bs ≡ 8) (h : 8 * k + 8 ≤ length room) where
  pub block_same : block k (put_eight (8 * k) bs room) ≡ bs
  block_same = put_here (8 * k) bs room e h

  pub block_other : (j : ℕ) → j ≢ k → block j (put_eight (8 * k) bs room) ≡ block j room
  block_other j n = go (dec_lt j k)
    where
      go : Dec (j < k) → block j (put_eight (8 * k) bs room) ≡ block j room
      go (yes l) = put_early (8 * k) bs room e h (8 * j) (omega arith)
      go (no l) = ap (λ (xs : List ℕ). take 8 xs) (put_past (8 * k) bs room e h (8 * j) (omega arith))
