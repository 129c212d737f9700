-- Answers told in a room: how long their bytes are, and what one answer more makes of a room. And how many acts a round has of one kind.
-- Assumes nothing.
use mathlib.Core.Path.{◌≡◌, refl, sym, ap, ◌∙◌}
use mathlib.Core.List.{List, [], ◌∷◌, ◌++◌, append_assoc}
use Prim.Native.Nat.{ℕ, zero, suc, ◌+◌, ◌*◌, ◌≤◌, ◌<◌}
use native.Mathlib.Nat.{le_of_suc-le-suc, not-suc-le-zero}
use native.Mathlib.Omega.{arith}
use native.Mathlib.Decide.{dec_le}
use lib.ListN.{length, get_or, take, drop, length-append, get_or-append}
use lib.Seq.{take_at, drop-append-add, drop-drop, get_or_at}
use Rattle.ledger.specs.Calls.{Act, Reply, refused, done, entry, stitched, idle, leaves, word, found, reported, counted, part}
use Rattle.ledger.specs.Rounds.{each, answer_bytes, bytes_of, answers_in}

answer_length : (r : Reply) → length (answer_bytes r) ≡ 4
unfolding answer_bytes
answer_length (refused n) = refl
answer_length done = refl
answer_length (entry x) = refl
answer_length (stitched b) = refl
answer_length idle = refl
answer_length (leaves k s) = refl
answer_length (word w n) = refl
answer_length (found v i) = refl
answer_length (reported n) = refl
answer_length (counted n) = refl
answer_length (part x n) = refl

bytes_length : (rs : List Reply) → length (bytes_of rs) ≡ 4 * length rs
unfolding bytes_of
bytes_length [] = refl
bytes_length (r ∷ rs) = length-append (answer_bytes r) (bytes_of rs) ∙ omega (arith, answer_length r, bytes_length rs)

-- the bytes of one answer more follow, whatever comes behind them
bytes_next : (rs : List Reply) (r : Reply) (ys : List ℕ) → bytes_of (rs ++ (r ∷ [])) ++ ys ≡ bytes_of rs ++ (answer_bytes r ++ ys)
unfolding bytes_of
bytes_next [] r ys = append_assoc (answer_bytes r) [] ys
bytes_next (x ∷ rs) r ys =
    append_assoc (answer_bytes x) (bytes_of (rs ++ (r ∷ []))) ys
    ∙ ap (λ (l : List ℕ). answer_bytes x ++ l) (bytes_next rs r ys)
    ∙ sym (append_assoc (answer_bytes x) (bytes_of rs) (answer_bytes r ++ ys))

longer_by_one : (rs : List Reply) (r : Reply) → length (rs ++ (r ∷ [])) ≡ length rs + 1
longer_by_one rs r = length-append rs (r ∷ [])

pub none_told : (room : List ℕ) → answers_in [] room ≡ room
unfolding answers_in bytes_of
none_told room = refl

-- where n answers are told, the next takes the four bytes from 4 n on
pub told_next : (rs : List Reply) (r : Reply) (room : List ℕ) (n : ℕ) → length rs ≡ n
    → take (4 * n) (answers_in rs room) ++ (answer_bytes r ++ drop (4 * n + 4) (answers_in rs room)) ≡ answers_in (rs ++ (r ∷ [])) room
unfolding answers_in
told_next rs r room n e =
    let b : length (bytes_of rs) ≡ 4 * n = omega (arith, bytes_length rs) in
    let rest = drop (4 * length rs) room in
    let past : drop (4 * n + 4) (bytes_of rs ++ rest) ≡ drop (4 * length (rs ++ (r ∷ []))) room =
    ap (λ (k : ℕ). drop k (bytes_of rs ++ rest)) (let i : 4 * n + 4 ≡ length (bytes_of rs) + 4 = omega arith in i)
    ∙ drop-append-add (bytes_of rs) rest 4
    ∙ drop-drop 4 (4 * length rs) room
    ∙ ap (λ (k : ℕ). drop k room) (let i : 4 * length rs + 4 ≡ 4 * length (rs ++ (r ∷ [])) = omega (arith, longer_by_one rs r) in i) in
    rw (take_at (bytes_of rs) rest (4 * n) b, past) (sym (bytes_next rs r (drop (4 * length (rs ++ (r ∷ []))) room)))

-- and answer number n is read there
pub read_told : (rs : List Reply) (room : List ℕ) (n : ℕ) (d : Reply) → n < length rs
    → take 4 (drop (4 * n) (answers_in rs room)) ≡ answer_bytes (get_or rs n d)
unfolding answers_in bytes_of
read_told rs room n d h = go rs n h (drop (4 * length rs) room)
  where
    go : (rs : List Reply) (n : ℕ) → n < length rs → (ys : List ℕ) → take 4 (drop (4 * n) (bytes_of rs ++ ys)) ≡ answer_bytes (get_or rs n d)
    go [] n h ys = absurd (not-suc-le-zero h)
    go (r ∷ rs) zero h ys =
        ap (λ (l : List ℕ). take 4 l) (append_assoc (answer_bytes r) (bytes_of rs) ys) ∙ take_at (answer_bytes r) (bytes_of rs ++ ys) 4 (answer_length r)
    go (r ∷ rs) (suc n) h ys =
        let l : 4 * suc n ≡ length (answer_bytes r) + 4 * n = omega (arith, answer_length r) in
        ap (λ (xs : List ℕ). take 4 (drop (4 * suc n) xs)) (append_assoc (answer_bytes r) (bytes_of rs) ys)
        ∙ ap (λ (k : ℕ). take 4 (drop k (answer_bytes r ++ (bytes_of rs ++ ys)))) l
        ∙ ap (λ (xs : List ℕ). take 4 xs) (drop-append-add (answer_bytes r) (bytes_of rs ++ ys) (4 * n))
        ∙ go rs n (le_of_suc-le-suc h) ys

-- ---- acts, one for each number below n

pub each_length : (f : ℕ → Act) (n : ℕ) → length (each (λ i. f i ∷ []) n) ≡ n
each_length f zero = refl
each_length f (suc n) = length-append (each (λ i. f i ∷ []) n) (f n ∷ []) ∙ omega (arith, each_length f n)

pub each_at : (f : ℕ → Act) (n i : ℕ) (d : Act) → i < n → get_or (each (λ j. f j ∷ []) n) i d ≡ f i
each_at f zero i d h = absurd (not-suc-le-zero h)
each_at f (suc n) i d h = go (dec_le (suc i) n) (each_at f n i d)
  where
    xs : List Act
    xs = each (λ j. f j ∷ []) n

    go : Dec (suc i ≤ n) → (i < n → get_or xs i d ≡ f i) → get_or (xs ++ (f n ∷ [])) i d ≡ f i
    go (yes l) rec = get_or-append xs (f n ∷ []) d i (omega (arith, each_length f n)) ∙ rec l
    go (no l) rec =
        let is : i ≡ n = omega arith in
        let at = get_or_at xs (f n) [] d n (each_length f n) in
        ap (λ (k : ℕ). get_or (xs ++ (f n ∷ [])) k d) is ∙ at ∙ ap f (sym is)
