-- A map whose 4,096 bytes are zero keeps rule (b): what is found is found without its entries. Assumes nothing.
use mathlib.Core.Path.{◌≡◌, refl, sym, ap, ◌∙◌}
use mathlib.Core.Bool.{Bool, true, cond, ◌&&◌}
use mathlib.Core.List.{List, [], ◌∷◌}
use Prim.Native.Nat.{ℕ, zero, suc, ◌+◌, ◌-◌, ◌*◌, ◌≤◌, ◌<◌}
use native.Mathlib.Omega.{arith}
use lib.ListN.{get_or, drop}
use lib.Seq.{get_or-drop}
use lib.Dec.{eqb, ltb}
use Rattle.numbers.specs.Bytes.{number}
use Rattle.std.specs.Prelude.{Option, Some}
use Rattle.ledger.specs.declared.Broken.{Broken}
use Rattle.ledger.specs.declared.Rule.TheVariants.{A, B, C}
use Rattle.ledger.specs.Settings.{Settings, setting_count, ids}
use Rattle.ledger.specs.Ledger.{last, mapped}
use Rattle.ledger.specs.Sound.{All}
use Rattle.ledger.proofs.Lists.{All-map}
use Rattle.ledger.proofs.Tests.{eqb_yes, ltb_yes, ltb_is, and_left, and_right}
use Rattle.layout.specs.declared.Table.TheVariants.{Mapped}
use Rattle.layout.specs.Tables.{start_of, get}
use Rattle.layout.specs.Picture.{settings_in, opens}
use Rattle.ranges.specs.First.{first_from}
use Rattle.ranges.specs.Opening.{out_at}
use Rattle.ranges.specs.Ranges.{fits_at, ranges_found}
use Rattle.ranges.proofs.Items.{fits_number}
use Rattle.once.specs.Once.{once_found}
use Rattle.sound.specs.Sound.{breaks, or_next, nodes_broken, open_broken, broken_in}
use Rattle.finding_cards.specs.Cards.{Card, Holds}

-- the first n bytes are zero, as far as there are so many
abbrev pub zeros : ℕ → List ℕ → Bool
zeros zero m = true
zeros (suc n) [] = true
zeros (suc n) (x ∷ xs) = eqb x 0 && zeros n xs

zero_at : (n : ℕ) (m : List ℕ) → zeros n m ≡ true → (i : ℕ) → i < n → get_or m i 0 ≡ 0
zero_at zero m e i h = absurd (omega arith)
zero_at (suc n) [] e i h = refl
zero_at (suc n) (x ∷ xs) e zero h = eqb_yes x 0 (and_left (eqb x 0) (zeros n xs) e)
zero_at (suc n) (x ∷ xs) e (suc i) h = zero_at n xs (and_right (eqb x 0) (zeros n xs) e) i (omega arith)

-- a search goes past numbers that pass
pass : (ok : ℕ → Bool) (a i n : ℕ) → ((k : ℕ) → i ≤ k → k < i + a → ok k ≡ true) → first_from ok i (a + n) ≡ first_from ok (i + a) n
pass ok zero i n h = (let e : 0 + n ≡ n = omega arith in ap (first_from ok i) e) ∙ (let e : i ≡ i + 0 = omega arith in ap (λ (j : ℕ). first_from ok j n) e)
pass ok (suc a) i n h =
    one
    ∙ pass ok a (suc i) n (λ k low high. h k (omega arith) (omega arith))
    ∙ (let e : suc i + a ≡ i + suc a = omega arith in ap (λ (j : ℕ). first_from ok j n) e)
  where
    one : first_from ok i (suc a + n) ≡ first_from ok (suc i) (a + n)
    one =
        (let e : suc a + n ≡ suc (a + n) = omega arith in ap (first_from ok i) e)
        ∙ unfold first_from in (rw (h i (omega arith) (omega arith)))

-- the search of n numbers from i on, then of k from j on where those pass
abbrev pub twice : (ℕ → Bool) → ℕ → ℕ → ℕ → ℕ → Option ℕ
twice ok i zero j k = first_from ok j k
twice ok i (suc n) j k = cond (ok i) (twice ok (suc i) n j k) (Some i)

-- a search of n numbers, a that pass, and k
split : (ok : ℕ → Bool) (n i a k : ℕ) → ((x : ℕ) → i + n ≤ x → x < i + n + a → ok x ≡ true) → first_from ok i (n + (a + k)) ≡ twice ok i n (i + n + a) k
split ok zero i a k h =
    (let e : 0 + (a + k) ≡ a + k = omega arith in ap (first_from ok i) e)
    ∙ pass ok a i k (λ x low high. h x (omega arith) (omega arith))
    ∙ (let e : i + a ≡ i + 0 + a = omega arith in ap (λ (j : ℕ). first_from ok j k) e)
split ok (suc n) i a k h =
    one ∙ ap (λ (f : Option ℕ). cond (ok i) f (Some i)) (split ok n (suc i) a k (λ x low high. h x (omega arith) (omega arith)) ∙ next)
  where
    one : first_from ok i (suc n + (a + k)) ≡ cond (ok i) (first_from ok (suc i) (n + (a + k))) (Some i)
    one =
        (let e : suc n + (a + k) ≡ suc (n + (a + k)) = omega arith in ap (first_from ok i) e)
        ∙ unfold first_from in refl

    next : twice ok (suc i) n (suc i + n + a) k ≡ twice ok (suc i) n (i + suc n + a) k
    next = let e : suc i + n + a ≡ i + suc n + a = omega arith in ap (λ (j : ℕ). twice ok (suc i) n j k) e

-- rule (b) without the map's entries
abbrev pub besides : Settings → List ℕ → Option ℕ
besides S m = twice (fits_at S m) 0 S.ports (S.ports + ids) (S.ports * S.queues)

abbrev pub skipping : List ℕ → Option Broken
skipping m =
    cond (opens m) (or_next (besides (settings_in m) m) B (or_next (once_found (settings_in m) m) C (nodes_broken (settings_in m) m)))
    (Some (breaks A (out_at m)))

module _ (m : List ℕ) (z : zeros ids (drop (2 * setting_count) m) ≡ true) where
  entry_zero : (S : Settings) (d : ℕ) → d < ids → get S m Mapped d ≡ 0
  unfolding get start_of number
  entry_zero S d h =
      let e : get_or m (16 + d * 1) 0 ≡ 0 =
      (let k : 16 + d * 1 ≡ 16 + d = omega arith in ap (λ (j : ℕ). get_or m j 0) k) ∙ sym (get_or-drop 16 m d 0) ∙ zero_at ids (drop 16 m) z d h in
      rw e

  ranges_skip : (S : Settings) → 0 < S.ports → ranges_found S m ≡ besides S m
  unfolding ranges_found
  ranges_skip S some =
      (let e : S.ports + (ids + 0) + S.ports * S.queues ≡ S.ports + (ids + S.ports * S.queues) = omega arith in ap (first_from (fits_at S m) 0) e)
      ∙ split (fits_at S m) S.ports 0 ids (S.ports * S.queues) (λ x low high.
      let d : x - S.ports < ids = omega arith in
      fits_number S m (last ∷ []) [] mapped refl x (x - S.ports) (omega arith) d
      ∙ ltb_is (get S m Mapped (x - S.ports)) S.ports (omega (arith, entry_zero S (x - S.ports) d)))
      ∙ (let e : 0 + S.ports + ids ≡ S.ports + ids = omega arith in ap (λ (j : ℕ). twice (fits_at S m) 0 S.ports j (S.ports * S.queues)) e)

  pub skip : ltb 0 (settings_in m).ports ≡ true → broken_in m ≡ skipping m
  unfolding broken_in open_broken
  skip some = rw (ranges_skip (settings_in m) (ltb_yes 0 (settings_in m).ports some))

-- a card whose map is zero: its ports are some, and this is found of it
abbrev pub Quick : Card → Type 0
Quick c = (zeros ids (drop (2 * setting_count) c.0) ≡ true) × (ltb 0 (settings_in c.0).ports ≡ true) × (skipping c.0 ≡ c.1)

pub quick_hold : (cs : List Card) → All Quick cs → All Holds cs
quick_hold cs = All-map cs (λ c h. skip c.0 h.0 h.1 ∙ h.2)
