-- The bytes that a reader gives, in order; with no code. Assumes nothing.
use Rattle.std.proofs.Common.{◌≡◌, sym, ap, ◌∙◌, subst, ℕ, ◌+◌, ◌-◌, ◌≤◌, List, ◌++◌, None, Some, length, take, drop, arith}
use Rattle.std.proofs.lemmas.Grind.{common_steps}
use Rattle.std.proofs.lemmas.List.{take-append-drop, drop-take, take-take}
use Rattle.std.proofs.lemmas.Slice.{take-put_mid}
use borrow.Rule.Slice.PartMut.{put_mid}
use Rattle.std.proofs.KnownBytes.{Consumes-trans}
use Rattle.std.specs.declared.option.Option.{Option}
use Rattle.std.specs.Io.KnownBytes.{Consumes}
use Rattle.input.specs.Inputs.{unread, IsNoneLost}

-- what is read to place `to` stands there
pub read_there :
    (to got : ℕ) (bytes part : List ℕ) → to ≤ length bytes → length part ≡ length bytes - to → got ≤ length part
    → drop to (take (to + got) (put_mid to (length bytes - to) bytes part)) ≡ take got part
read_there to got bytes part h e k = grind (arith, common_steps, take-put_mid to (length bytes - to) bytes part (to + length part), drop-take)

-- what is read past place `to` leaves the bytes before it
pub still_front :
    (from to : ℕ) (old bytes bytes' : List ℕ) → from ≤ to → take from bytes ≡ take from old → take to bytes' ≡ take to bytes
    → take from bytes' ≡ take from old
still_front from to old bytes bytes' h front e = sym (take-take from to bytes' h) ∙ ap (take from) e ∙ take-take from to bytes h ∙ front

-- what was read before stands in front of it
read_after :
    (from to next : ℕ) (bytes bytes' : List ℕ) → from ≤ to → to ≤ next → take to bytes' ≡ take to bytes
    → drop from (take to bytes) ++ drop to (take next bytes') ≡ drop from (take next bytes')
read_after from to next bytes bytes' h k e =
    let front : take to (take next bytes') ≡ take to bytes = take-take to next bytes' k ∙ e in
    grind (arith, common_steps, take-append-drop to (take next bytes'))

-- what a read gives comes after what was read before
pub read_more :
    (a b c : Option (List ℕ)) (from to next : ℕ) (bytes bytes' : List ℕ) → from ≤ to → to ≤ next
    → take to bytes' ≡ take to bytes → Consumes a b (drop from (take to bytes)) → Consumes b c (drop to (take next bytes'))
    → Consumes a c (drop from (take next bytes'))
read_more a b c from to next bytes bytes' h k e before then =
    subst (Consumes a c) (read_after from to next bytes bytes' h k e) (Consumes-trans a b c _ _ before then)

-- what was there and what is read after it are none lost
none_lost :
    (left left' : Option (List ℕ)) (bytes bytes' : List ℕ) (n : ℕ) → take n bytes' ≡ bytes → Consumes left left' (drop n bytes')
    → IsNoneLost bytes left bytes' left'
none_lost None left' bytes bytes' n e c = tt
none_lost (Some xs) None bytes bytes' n e c = c
none_lost (Some xs) (Some ys) bytes bytes' n e c = grind (arith, common_steps, take-append-drop n bytes')

-- what is left is moved to the front, and read on from
pub none_lost_on :
    (left left' : Option (List ℕ)) (old between new : List ℕ) (from to rest to' : ℕ) → rest ≡ to - from → take (to - from) between ≡ unread old from to
    → rest ≤ to' → take rest new ≡ take rest between → Consumes left left' (drop rest (take to' new))
    → IsNoneLost (unread old from to) left (unread new 0 to') left'
none_lost_on left left' old between new from to rest to' all moved more on read =
    let same : to' ≡ to' - 0 = omega arith in
    subst (λ (n : ℕ). IsNoneLost (unread old from to) left (take n new) left') same
    (none_lost left left' _ (take to' new) rest (take-take rest to' new more ∙ on ∙ rw all moved) read)
