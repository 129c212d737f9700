-- No answer depends on bytes past the size: a memory pictures what its first bytes picture. Assumes nothing.
use mathlib.Core.Path.{◌≡◌, refl, sym, ap, ◌∙◌, subst}
use mathlib.Core.List.{List, ◌++◌, map}
use Prim.Native.Nat.{ℕ, ◌≤◌, ◌<◌}
use native.Mathlib.Omega.{arith}
use lib.ListN.{length, length-append}
use Rattle.ledger.specs.Settings.{Settings, size}
use Rattle.ledger.specs.Calls.{Act}
use Rattle.ledger.specs.Desk.{Desk, act, desk}
use Rattle.ledger.specs.Sound.{Sound}
use Rattle.ledger.proofs.Lists.{All-map}
use Rattle.layout.specs.declared.Table.{Table}
use Rattle.layout.specs.declared.Table.TheVariants.{Setting, Head, Tail, Count, Next}
use Rattle.layout.specs.Tables.{many, lists, get}
use Rattle.layout.specs.Picture.{settings_in, nodes_of, node_in, ledger_in, Hangs, StateOf, State}
use Rattle.layout.proofs.Tables.{get_append}
use Rattle.memory.specs.Ends.{Tidy}
use Rattle.memory.specs.Memory.{state_dec, picture, M}
use Rattle.memory.proofs.Chains as C
use Rattle.memory.proofs.Picture.{picture_is, picture_none, picture_state}
use Rattle.memory.proofs.Image.{settings_are}
use Rattle.memory.proofs.Square.{pictured, square}

-- two memories whose tables agree
abbrev Agree : Settings → List ℕ → List ℕ → Type 0
Agree S m m' = (t : Table) (i : ℕ) → i < many S t → get S m' t i ≡ get S m t i

module _ (S : Settings) (m m' : List ℕ) (P : Tidy S m) (same : Agree S m m') where
  nodes_agree : (l : ℕ) → l < lists S → nodes_of S m' l ≡ nodes_of S m l
  nodes_agree l h =
      C.nodes_same S m m' l (same Head l h) (same Count l h)
      (All-map (nodes_of S m l) (λ y n. same Next _ (C.slot_lt S y n)) (C.members S m P l h))

  ledger_agrees : ledger_in S m' ≡ ledger_in S m
  ledger_agrees =
      C.with_lists_lem (ledger_in S m) (ledger_in S m') (ledger_in S m).lists
      (unfold ledger_in in
      (C.table_ext (λ l. map (node_in S m' l) (nodes_of S m' l)) (λ l. map (node_in S m l) (nodes_of S m l)) (lists S)
      (λ l h. ap (map (node_in S m' l)) (nodes_agree l h)
      ∙ C.items_same S m m' l (nodes_of S m l)
      (All-map (nodes_of S m l) (λ y n. C.packet_same S m m' y (λ t k. same t _ (C.slot_record S y t n k))) (C.members S m P l h)))))
      (C.rest_same S m m' (λ t j k h. same t j h))

  hangs_agree : (l : ℕ) → l < lists S → Hangs S m' l
  hangs_agree l h = rw (nodes_agree l h, same Tail l h) (P.hangs l h)

state_agrees : (S : Settings) (m m' : List ℕ) → Agree S m m' → size S ≤ length m' → StateOf S m → StateOf S m'
state_agrees S m m' same long s =
    let P = C.state_tidy S m s in
    record { long = long; hangs = hangs_agree S m m' P same; sound = subst (Sound S) (sym (ledger_agrees S m m' P same)) s.sound }

-- what stands past the size does not change the picture
pub picture_past : (xs ys : List ℕ) → size (settings_in xs) ≤ length xs → picture (xs ++ ys) ≡ picture xs
picture_past xs ys long = go (state_dec xs)
  where
    S : Settings
    S = settings_in xs

    same : Agree S xs (xs ++ ys)
    same t i h = get_append S t i xs ys h long

    settings_same : settings_in (xs ++ ys) ≡ S
    settings_same =
        settings_are S (xs ++ ys)
        ∙ rw (
          same Setting 0 (omega arith),
          same Setting 1 (omega arith),
          same Setting 2 (omega arith),
          same Setting 3 (omega arith),
          same Setting 4 (omega arith),
          same Setting 5 (omega arith),
          same Setting 6 (omega arith),
          same Setting 7 (omega arith),
        )
        (sym (settings_are S xs))

    longer : size S ≤ length (xs ++ ys)
    longer = omega (arith, length-append xs ys, long)

    back : State (xs ++ ys) → State xs
    back t = state_agrees S (xs ++ ys) xs (λ r i h. sym (same r i h)) long (subst (λ (T : Settings). StateOf T (xs ++ ys)) settings_same t)

    go : Dec (State xs) → picture (xs ++ ys) ≡ picture xs
    go (yes s) =
        picture_is S (xs ++ ys) (ledger_in S xs) settings_same (state_agrees S xs (xs ++ ys) same longer s)
        (ledger_agrees S xs (xs ++ ys) (C.state_tidy S xs s) same)
        ∙ sym (picture_state xs s)
    go (no n) = picture_none (xs ++ ys) (λ t. n (back t)) ∙ sym (picture_none xs n)

-- nor any answer, nor what the memory pictures afterwards
desk_length : (n k : ℕ) (D : Desk) (a : Act) → desk n D (act a) ≡ desk k D (act a)
desk_length n k Desk.none a = refl
desk_length n k (Desk.has S L) a = refl

pub past_unread : (a : Act) (xs ys : List ℕ) → size (settings_in xs) ≤ length xs → pictured (M (act a) (xs ++ ys)) ≡ pictured (M (act a) xs)
past_unread a xs ys long =
    square (act a) (xs ++ ys)
    ∙ ap (λ (D : Desk). desk (length (xs ++ ys)) D (act a)) (picture_past xs ys long)
    ∙ desk_length (length (xs ++ ys)) (length xs) (picture xs) a
    ∙ sym (square (act a) xs)
