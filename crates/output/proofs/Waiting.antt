-- What waits in the buffer, byte by byte; with no code. Assumes nothing.
use Rattle.std.proofs.Common.{◌≡◌, cond, List, [], ◌∷◌, ◌++◌, ℕ, ◌+◌, ◌≤◌, ◌<◌, nat_lt, length, get_or, take, drop, set, arith}
use Rattle.std.proofs.lemmas.Grind.{common_steps}
use Rattle.output.specs.Buffer.{queued}
use Rattle.output.proofs.Laws.{queued_append}

-- what waits after some bytes, and then after some more
pub then_queued : (w xs ys : List ℕ) {w' r : List ℕ} → w' ≡ queued w xs → r ≡ queued w' ys → r ≡ queued w (xs ++ ys)
then_queued w xs ys first then = grind (arith, queued_append w xs ys)

-- a byte is put at the place where room is made for it
pub byte_put :
    (out : List ℕ) (waiting at b : ℕ) → length out ≡ 4096 → waiting ≤ 4096 → at < 4096 → at ≡ cond (nat_lt waiting 4096) waiting 0
    → take (at + 1) (set out at b) ≡ queued (take waiting out) (b ∷ [])
byte_put out waiting at b full low fits e = grind (arith, common_steps)

-- the i-th byte is put, and what is left of the text waits for its turn
pub text_step :
    (w w' s : List ℕ) (i : ℕ) → i < length s → w' ≡ queued w (get_or s i 0 ∷ []) → queued w' (drop (i + 1) s) ≡ queued w (drop i s)
text_step w w' s i h e = grind (arith, common_steps)

pub text_end : (w s : List ℕ) (i : ℕ) → length s ≤ i → queued w (drop i s) ≡ w
text_end w s i h = grind (arith, common_steps)
