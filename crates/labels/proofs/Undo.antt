-- Paper 02, Q-7, in C: reader and writer undo each other through the lent rooms, where both answer 0. Assumes nothing.
use mathlib.Core.Path.{◌≡◌, refl, sym, ap, ap₂, ◌∙◌}
use mathlib.Core.List.{List, [], ◌∷◌, ◌++◌}
use Prim.Native.Nat.{ℕ, ◌<◌}
use native.Mathlib.Omega.{arith}
use lib.ListN.{length, get_or, take, drop}
use lib.Seq.{take_at}
use Rattle.codec.specs.Label.{Label, Answer, refused, gives}
use Rattle.codec.specs.Reader.{reads}
use Rattle.codec.specs.Writer.{writes}
use Rattle.codec.proofs.Undo.{reader_undoes, writer_undoes, read_never_zero, write_never_zero}
use Rattle.labels.specs.Labels.{label_at, label_numbers, label_room, header_room}

-- eight numbers are those of the label that they say
pub eight : (xs : List ℕ) → length xs ≡ 8 → label_numbers (label_at xs) ≡ xs
eight [] e = absurd (omega arith)
eight (a ∷ []) e = absurd (omega arith)
eight (a ∷ b ∷ []) e = absurd (omega arith)
eight (a ∷ b ∷ c ∷ []) e = absurd (omega arith)
eight (a ∷ b ∷ c ∷ d ∷ []) e = absurd (omega arith)
eight (a ∷ b ∷ c ∷ d ∷ f ∷ []) e = absurd (omega arith)
eight (a ∷ b ∷ c ∷ d ∷ f ∷ g ∷ []) e = absurd (omega arith)
eight (a ∷ b ∷ c ∷ d ∷ f ∷ g ∷ h ∷ []) e = absurd (omega arith)
eight (a ∷ b ∷ c ∷ d ∷ f ∷ g ∷ h ∷ i ∷ []) e = refl
eight (a ∷ b ∷ c ∷ d ∷ f ∷ g ∷ h ∷ i ∷ j ∷ xs) e = absurd (omega arith)

-- "vr_read_header reads of it what was written": of the first `size` bytes of the room, the eight numbers
pub vr_reader_undoes : (e p q : ℕ) (fields old room kept : List ℕ) (was size : ℕ)
    → length fields ≡ 8
    → header_room (writes e p q (label_at fields)) old was ≡ (0, room, size)
    → label_room (reads e p q (take size room)) kept ≡ (0, fields)
vr_reader_undoes e p q fields old room kept was size len told = go (writes e p q (label_at fields)) refl told
  where
    go : (a : Answer (List ℕ)) → writes e p q (label_at fields) ≡ a → header_room a old was ≡ (0, room, size)
        → label_room (reads e p q (take size room)) kept ≡ (0, fields)
    go (refused n) w t =
        let zero : n ≡ 0 = ap (λ (x : ℕ × List ℕ × ℕ). x.0) t in
        absurd (omega (arith, write_never_zero e p q (label_at fields) n w))
    go (gives b) w t =
        let front : take size room ≡ b =
        sym (ap₂ (λ (n : ℕ) (l : List ℕ). take n l) (ap (λ (x : ℕ × List ℕ × ℕ). x.2) t) (ap (λ (x : ℕ × List ℕ × ℕ). x.1) t))
        ∙ take_at b _ (length b) refl in
        ap (λ (l : List ℕ). label_room (reads e p q l) kept) front
        ∙ ap (λ (x : Answer Label). label_room x kept) (reader_undoes e p q (label_at fields) b w)
        ∙ ap (λ (l : List ℕ). (0, l)) (eight fields len)

-- "of what vr_read_header has read, this call makes the same bytes again": of the eight numbers, the header that they were read from
pub vr_writer_undoes : (e p q : ℕ) (h fields kept old : List ℕ) (was : ℕ)
    → ((i : ℕ) → get_or h i 0 < 256)
    → label_room (reads e p q h) kept ≡ (0, fields)
    → header_room (writes e p q (label_at fields)) old was ≡ (0, h ++ drop (length h) old, length h)
vr_writer_undoes e p q h fields kept old was small told = go (reads e p q h) refl told
  where
    go : (a : Answer Label) → reads e p q h ≡ a → label_room a kept ≡ (0, fields)
        → header_room (writes e p q (label_at fields)) old was ≡ (0, h ++ drop (length h) old, length h)
    go (refused n) r t =
        let zero : n ≡ 0 = ap (λ (x : ℕ × List ℕ). x.0) t in
        absurd (omega (arith, read_never_zero e p q h n r))
    go (gives v) r t =
        ap (λ (l : List ℕ). header_room (writes e p q (label_at l)) old was) (sym (ap (λ (x : ℕ × List ℕ). x.1) t))
        ∙ ap (λ (a : Answer (List ℕ)). header_room a old was) (writer_undoes e p q h v small r)
