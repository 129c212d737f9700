-- The laws of reading a header: where its fields stand, that the answer's meaning determines it, and what the code's load is. Assumes nothing.
use mathlib.Core.Path.{◌≡◌, refl, sym, ap, ap₂, ◌∙◌, subst}
use mathlib.Core.List.{List, [], ◌∷◌, ◌++◌}
use Prim.Native.Nat.{ℕ, ◌+◌, ◌-◌, ◌*◌, ◌/◌, ◌^◌, ◌≤◌, ◌<◌}
use native.Mathlib.Omega.{arith}
use lib.ListN.{length}
use lib.Pow.{high, pow_mono}
use Rattle.std.specs.Prelude.{Option, None, Some}
use Rattle.numbers.specs.Bytes.{number}
use Rattle.numbers.specs.Fields.{bits, total, unpack}
use Rattle.numbers.proofs.Bytes.{number_lt, number_split, pow_bytes}
use Rattle.numbers.proofs.Fields.{bits_lt}
use Rattle.numbers.proofs.Parts.{unpack_parts, bytewise, numbers_at, pow_total, unpack_bytes}
use Rattle.ledger.specs.Header.{Form, Fields, fields_of, front_bytes, body_size, header_size, widths, in_order, bytes_in, missized, miscounted}
use Rattle.ledger.specs.Answers.{load_of}
use Rattle.ledger.specs.declared.Load as code
use Rattle.ledger.specs.declared.Load.TheVariants as load
use Rattle.header.specs.Front.{front_widths}
use Rattle.header.specs.Parse.{header_of, parsed_of}
use Rattle.header.specs.Loads.{misfit, other}
use Rattle.header.specs.declared.HeaderFields.{HeaderFields}

-- ---- where the fields stand

-- a field of eight bits or fewer is a byte
pub bits_few : (lo width w : ℕ) → width ≤ 8 → bits lo width w < 256
bits_few lo width w few = omega (arith, bits_lt lo width w, pow_mono few)

-- the bytes of the fields behind the front: timestamp, credit, transaction
abbrev pub back_bytes : Form → List ℕ
back_bytes F = 4 ∷ F.offer_bytes ∷ 1 ∷ []

pub body_parts : (F : Form) → body_size F ≡ front_bytes F + total (back_bytes F)
unfolding body_size
body_parts F = omega arith

-- the front's fields stand in the front's number, and each of the others is a number of its own
pub in_parts : (F : Form) (h : List ℕ)
    → unpack (widths F) (number (body_size F) h 0) ≡ unpack (front_widths F) (number (front_bytes F) h 0) ++ numbers_at (back_bytes F) h (front_bytes F)
in_parts F h =
    let k : ℕ = front_bytes F in
    let ks : List ℕ = back_bytes F in
    let x : ℕ = number k h 0 in
    let y : ℕ = number (total ks) h (0 + k) in
    let small : y < 2 ^ total (bytewise ks) = subst (λ (n : ℕ). y < n) (pow_total ks) (number_lt (total ks) h (0 + k)) in
    let from : 0 + k ≡ k = omega arith in
    ap (λ (n : ℕ). unpack (widths F) (number n h 0)) (body_parts F)
    ∙ ap (unpack (widths F)) (number_split k (total ks) h 0 ∙ ap (λ (p : ℕ). x * p + y) (pow_total ks))
    ∙ unpack_parts (front_widths F) (bytewise ks) x y small
    ∙ ap (λ (l : List ℕ). unpack (front_widths F) x ++ l) (unpack_bytes ks h (0 + k) ∙ ap (numbers_at ks h) from)

-- the front's number, from the four bytes that start with it
pub front_of_word : (k : ℕ) (h : List ℕ) → k ≤ 4 → number 4 h 0 / 2 ^ (8 * (4 - k)) ≡ number k h 0
front_of_word k h few =
    let j : ℕ = 4 - k in
    let four : 4 ≡ k + j = omega arith in
    let y : ℕ = number j h (0 + k) in
    ap (λ (n : ℕ). n / 2 ^ (8 * j))
    (ap (λ (n : ℕ). number n h 0) four ∙ number_split k j h 0 ∙ ap (λ (p : ℕ). number k h 0 * p + y) (pow_bytes j))
    ∙ high (number k h 0) (8 * j) (subst (λ (n : ℕ). y < n) (pow_bytes j) (number_lt j h (0 + k)))

-- all of them together
pub fields_found : (F : Form) (h front : List ℕ) (stamp offered transaction check : ℕ)
    → front ≡ unpack (front_widths F) (number (front_bytes F) h 0)
    → stamp ≡ number 4 h (front_bytes F)
    → offered ≡ number F.offer_bytes h (front_bytes F + 4)
    → transaction ≡ number 1 h (front_bytes F + 4 + F.offer_bytes)
    → check ≡ number 1 h (body_size F)
    → in_order (front ++ (stamp ∷ offered ∷ transaction ∷ [])) check ≡ fields_of F h
unfolding fields_of
fields_found F h front stamp offered transaction check f s o t c =
    ap₂ in_order
    (let l : front ++ (stamp ∷ offered ∷ transaction ∷ []) ≡ unpack (front_widths F) (number (front_bytes F) h 0) ++ numbers_at
    (back_bytes F) h (front_bytes F) = cc in
    l ∙ sym (in_parts F h))
    c

-- ---- the answer

back : Fields → HeaderFields
back f = record {
  dest = f.dest;
  source = f.source;
  queue = f.queue;
  len = f.len;
  poisoned = f.poisoned;
  reserved = f.reserved;
  stamp = f.stamp;
  offered = f.offered;
  transaction = f.transaction;
  check = f.check;
}

pub header_of_injective : (a b : HeaderFields) → header_of a ≡ header_of b → a ≡ b
unfolding back
header_of_injective a b e = ap back e

pub parsed_of_injective : (a b : Option HeaderFields) → parsed_of a ≡ parsed_of b → a ≡ b
parsed_of_injective (Some a) (Some b) e = cc (header_of_injective a b (cc))
parsed_of_injective (Some a) None e = cc
parsed_of_injective None (Some b) e = cc
parsed_of_injective None None e = refl

-- ---- the code's load

-- it says of the bytes what the load itself does
pub misfit_is : (F : Form) (l : code.Load) (b : List ℕ) → missized F (load_of l b) ≡ misfit l (length b) (header_size F)
misfit_is F load.Header b = refl
misfit_is F (load.Packet room) b = refl

pub other_is : (F : Form) (l : code.Load) (b : List ℕ) → miscounted F (load_of l b) ≡ other l (length b) (fields_of F b).len
other_is F load.Header b = refl
other_is F (load.Packet room) b = refl

pub bytes_are : (l : code.Load) (b : List ℕ) → bytes_in (load_of l b) ≡ b
bytes_are load.Header b = refl
bytes_are (load.Packet room) b = refl

pub ruleset loads = (misfit_is, bytes_are)
