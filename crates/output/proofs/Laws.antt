-- A number in decimal, digit by digit; and what waits in the buffer after some bytes and then some more; with no code.
use Rattle.std.proofs.Common.{◌≡◌, refl, ℕ, zero, suc, ◌+◌, ◌-◌, ◌/◌, ◌%◌, ◌^◌, ◌≤◌, ◌<◌, List, [], ◌∷◌, ◌++◌, length, set, take, drop, sub-one, arith}
use Rattle.std.proofs.lemmas.Grind.{common_steps}
use Rattle.output.specs.Buffer.{last_digits, places, decimal, queued_byte, queued}

-- ---- decimals

places_enough : (a b n : ℕ) → n < a → n < b → places a n ≡ places b n
places_enough zero b n h k = absurd (omega arith)
places_enough (suc a) zero n h k = absurd (omega arith)
places_enough (suc a) (suc b) n h k = grind (arith, places_enough a b (n / 10))

pub decimal_one : (n : ℕ) → n < 10 → decimal n ≡ (48 + n) ∷ []
unfolding decimal
decimal_one n h = grind arith

pub decimal_more : (n : ℕ) → 10 ≤ n → decimal n ≡ decimal (n / 10) ++ ((48 + n % 10) ∷ [])
unfolding decimal
decimal_more n h = grind (arith, places_enough n (suc (n / 10)) (n / 10))

-- a number of more digits than one has a digit less when its last is put
pub put_more :
    (n rest at : ℕ) (out : List ℕ) → 10 ≤ rest → 0 < at → at ≤ length out → decimal rest ++ drop at out ≡ decimal n
    → decimal (rest / 10) ++ drop (at - 1) (set out (at - 1) (48 + rest % 10)) ≡ decimal n
put_more n rest at out h some room e = grind (arith, common_steps, decimal_more rest)

pub put_last :
    (n rest at : ℕ) (out : List ℕ) → rest < 10 → 0 < at → at ≤ length out → decimal rest ++ drop at out ≡ decimal n
    → drop (at - 1) (set out (at - 1) (48 + rest)) ≡ decimal n
put_last n rest at out h some room e = grind (arith, common_steps, decimal_one rest)

pub fits_less : (rest at : ℕ) → rest < 10 ^ at → 0 < at → rest / 10 < 10 ^ (at - 1)
fits_less rest zero h some = absurd (omega arith)
fits_less rest (suc at) h some = grind arith

pub room_left : (rest at : ℕ) → 10 ≤ rest → rest < 10 ^ at → 1 < at
room_left rest zero h fits = omega arith
room_left rest (suc zero) h fits = omega arith
room_left rest (suc (suc at)) h fits = omega arith

-- what is put at a place stands before what comes after it
put_there :
    (at count d : ℕ) (out : List ℕ) → at < count → count ≤ length out → drop at (take count (set out at d)) ≡ d ∷ drop (suc at) (take count out)
put_there at zero d out fits room = absurd (omega arith)
put_there at (suc count) d [] fits room = absurd (omega arith)
put_there zero (suc count) d (x ∷ out) fits room = refl
put_there (suc at) (suc count) d (x ∷ out) fits room = put_there at count d out (omega arith) (omega arith)

-- the last digit of what is left is put before the digits that are put
pub digit_put :
    (n at count rest : ℕ) (out : List ℕ) → 0 < at → at ≤ count → count ≤ length out → last_digits at rest ++ drop at (take count out) ≡ decimal n
    → last_digits (at - 1) (rest / 10) ++ drop (at - 1) (take count (set out (at - 1) (48 + rest % 10))) ≡ decimal n
digit_put n zero count rest out some fits room e = absurd (omega arith)
digit_put n (suc at) count rest out some fits room e =
    rw (sub-one, put_there at count (48 + rest % 10) out (omega arith) room) (grind (arith, common_steps, e))

-- ---- the buffer

-- what waits after some bytes, and then after some more
pub queued_append : (w xs ys : List ℕ) → queued w (xs ++ ys) ≡ queued (queued w xs) ys
queued_append w [] ys = refl
queued_append w (x ∷ xs) ys = queued_append (queued_byte w x) xs ys
