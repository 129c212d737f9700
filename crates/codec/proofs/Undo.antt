-- Paper 02, Q-7: "We want reader and writer, each undoing the other on every header that the reader takes; the writer refuses with 21 exactly
-- if a value doesn't fit its field, its length is under the least or its queue isn't in the switch." Over any form, by the laws of its widths.
-- Assumes nothing.
use mathlib.Core.Path.{◌≡◌, refl, sym, ap, ap₂, ◌∙◌, subst}
use mathlib.Core.Logic.{inl, inr}
use mathlib.Core.Bool.{Bool, true, false, not}
use mathlib.Core.List.{List, [], ◌∷◌, ◌++◌}
use Prim.Native.Nat.{ℕ, suc, ◌+◌, ◌*◌, ◌%◌, ◌^◌, ◌≤◌, ◌<◌}
use native.Mathlib.Nat.{mod-eq_of_lt}
use native.Mathlib.Omega.{arith}
use lib.Count.{count_leading_zeros}
use lib.Dec.{ltb, leb}
use lib.ListN.{length, get_or, take, drop, take-append-drop, drop_of_length-le}
use lib.Seq.{drop-cons, take_at, get_or_at}
use Rattle.numbers.specs.Bytes.{number, digits}
use Rattle.numbers.specs.Fields.{total, unpack, pack, fitting, Fit}
use Rattle.numbers.proofs.Bytes.{number_lt, number_digits, digits_number, pow_bytes}
use Rattle.numbers.proofs.Fields.{fits, fit_fitting, fitting_means, pack_lt, pack_unpack, unpack_pack}
use Rattle.crc.specs.Crc.{crc8}
use Rattle.crc.proofs.Sums.{crc8_lt}
use Rattle.ledger.specs.Settings.{ten_bytes, wide}
use Rattle.ledger.specs.Header.{Form, Fields, in_order, width_of, form_of, widths, front_bits, front_bytes, spare, body_size, header_size, least_length}
use Rattle.ledger.specs.Header.{fields_of, read_rules}
use Rattle.ledger.specs.Rules.{Rule, refuse, guard, Clear}
use Rattle.ledger.proofs.Tests.{true≢false, leb_yes, leb_no, leb_not, ltb_yes, ltb_no, ltb_not, not_yes}
use Rattle.ledger.proofs.Passes.{same, not_other}
use Rattle.ledger.proofs.Steps.{cleared}
use Rattle.codec.specs.Label.{Label, label_of, values, counts_in, refused, gives}
use Rattle.codec.specs.Reader.{reader_rules, reads}
use Rattle.codec.specs.Writer.{holds, body_for, header_for, writer_rules, writes, Misfit}
use Rattle.codec.proofs.Labels.{Holds, holds_means, means_holds, length_body, length_header}

-- ---- what an answer says of the rules

given_clear : {X : Type 0} (rs : List Rule) (x y : X) → guard rs refused (gives x) ≡ gives y → (y ≡ x) × Clear rs
given_clear [] x y e = (cc, tt)
given_clear (refuse n true ∷ rs) x y e = cc
given_clear (refuse n false ∷ rs) x y e = let later = given_clear rs x y e in (later.0, (refl, later.1))

-- ---- a header that the reader takes, of form F in a switch of n queues: what is known of it, each fact by its name

pub record Takes (F : Form) (n : ℕ) (h : List ℕ) : Type 0 where
  pub sized : length h ≡ header_size F
  pub summed : (fields_of F h).check ≡ crc8 (take (body_size F) h)
  pub unreserved : (fields_of F h).reserved ≡ 0
  pub long : least_length F ≤ (fields_of F h).len
  pub queue : (fields_of F h).queue < n

module _ (F : Form) (n : ℕ) (h : List ℕ) where
  takes : Clear (read_rules F n h) → Takes F n h
  takes c = record {
    sized = same (length h) (header_size F) c.0;
    summed = same (fields_of F h).check (crc8 (take (body_size F) h)) c.1.0;
    unreserved = same (fields_of F h).reserved 0 c.1.1.0;
    long = ltb_no (fields_of F h).len (least_length F) c.1.1.1.0;
    queue = leb_no n (fields_of F h).queue c.1.1.1.1.0;
  }

  takes_clear : Takes F n h → Clear (read_rules F n h)
  takes_clear t = (
    not_other (length h) (header_size F) t.sized,
    (
      not_other (fields_of F h).check (crc8 (take (body_size F) h)) t.summed,
      (
        not_other (fields_of F h).reserved 0 t.unreserved,
        (ltb_not (fields_of F h).len (least_length F) t.long, (leb_not n (fields_of F h).queue t.queue, tt)),
      ),
    ),
  )

-- what reader and writer say, by what is known
pub reads_means : (e p q : ℕ) (h : List ℕ) (v : Label) → reads e p q h ≡ gives v
    → (v ≡ label_of (fields_of (form_of e p q) h)) × (counts_in e p q ≡ true) × Takes (form_of e p q) q h
reads_means e p q h v r =
    let known = given_clear (reader_rules e p q h) (label_of (fields_of (form_of e p q) h)) v r in
    (known.0, not_yes (counts_in e p q) known.1.0, takes (form_of e p q) q h known.1.1)

pub means_reads : (e p q : ℕ) (h : List ℕ) → counts_in e p q ≡ true → Takes (form_of e p q) q h → reads e p q h ≡ gives (label_of (fields_of (form_of e p q) h))
means_reads e p q h ok t =
    cleared (reader_rules e p q h) refused (gives (label_of (fields_of (form_of e p q) h))) (ap not ok, takes_clear (form_of e p q) q h t)

pub writes_means : (e p q : ℕ) (v : Label) (b : List ℕ) → writes e p q v ≡ gives b
    → (b ≡ header_for (form_of e p q) v) × (counts_in e p q ≡ true) × Holds (form_of e p q) q v
writes_means e p q v b w =
    let known = given_clear (writer_rules e p q v) (header_for (form_of e p q) v) b w in (
      known.0,
      not_yes (counts_in e p q) known.1.0,
      holds_means (form_of e p q) q v (not_yes (holds (form_of e p q) q v) known.1.1.0),
    )

pub means_writes : (e p q : ℕ) (v : Label) → counts_in e p q ≡ true → Holds (form_of e p q) q v → writes e p q v ≡ gives (header_for (form_of e p q) v)
means_writes e p q v ok k =
    cleared (writer_rules e p q v) refused (gives (header_for (form_of e p q) v)) (ap not ok, (ap not (means_holds (form_of e p q) q v k), tt))

-- ---- the fields fill the bytes

total_widths : (F : Form) → total (widths F) ≡ 8 * body_size F
unfolding front_bits front_bytes spare body_size
total_widths F = omega arith

filled : (F : Form) → 2 ^ total (widths F) ≡ 256 ^ body_size F
filled F = ap (λ (n : ℕ). 2 ^ n) (total_widths F) ∙ sym (pow_bytes (body_size F))

one_byte : (h : List ℕ) (at : ℕ) → number 1 h at ≡ get_or h at 0 % 256
unfolding number
one_byte h at = omega arith

-- ---- the reader of the writer

module _ (F : Form) (v : Label) (fit : Fit (widths F) (values v)) where
  -- the fields of a header written are the label's
  written_fields : fields_of F (header_for F v) ≡ in_order (values v) (crc8 (body_for F v))
  unfolding fields_of header_for body_for
  written_fields =
      let n : ℕ = pack (widths F) (values v) in
      let body : List ℕ = digits (body_size F) n in
      let small : n < 256 ^ body_size F = rw (← filled F) (pack_lt (widths F) (values v) fit) in
      let behind : number 1 (body ++ (crc8 body ∷ [])) (body_size F) ≡ crc8 body =
      one_byte (body ++ (crc8 body ∷ [])) (body_size F)
      ∙ ap (λ (x : ℕ). x % 256) (get_or_at body (crc8 body) [] 0 (body_size F) (length_body F v))
      ∙ mod-eq_of_lt (crc8_lt body) in
      ap₂ in_order
      (ap (unpack (widths F)) (number_digits (body_size F) n (crc8 body ∷ []) ∙ mod-eq_of_lt small) ∙ unpack_pack (widths F) (values v) fit)
      behind

  written_body : take (body_size F) (header_for F v) ≡ body_for F v
  unfolding header_for
  written_body = take_at (body_for F v) (crc8 (body_for F v) ∷ []) (body_size F) (length_body F v)

written_takes : (F : Form) (n : ℕ) (v : Label) → Holds F n v → Takes F n (header_for F v)
written_takes F n v k =
    let f = written_fields F v k.fit in
    record {
      sized = length_header F v;
      summed = ap (λ (g : Fields). g.check) f ∙ sym (ap crc8 (written_body F v k.fit));
      unreserved = ap (λ (g : Fields). g.reserved) f;
      long = rw f k.long;
      queue = rw f k.queue;
    }

pub reader_undoes : (e p q : ℕ) (v : Label) (b : List ℕ) → writes e p q v ≡ gives b → reads e p q b ≡ gives v
reader_undoes e p q v b w =
    let F : Form = form_of e p q in
    let known = writes_means e p q v b w in
    let k = known.2 in
    ap (reads e p q) known.0
    ∙ means_reads e p q (header_for F v) known.1 (written_takes F q v k)
    ∙ ap (λ (f : Fields). gives (label_of f)) (written_fields F v k.fit)

-- ---- the writer of the reader

module _ (F : Form) (n : ℕ) (h : List ℕ) (small : (i : ℕ) → get_or h i 0 < 256) (t : Takes F n h) where
  abbrev read : Label
  read = label_of (fields_of F h)

  -- the values are the fields as they were read, the reserved zeros too
  read_values : values read ≡ unpack (widths F) (number (body_size F) h 0)
  unfolding fields_of
  read_values =
      let f : Fields = fields_of F h in
      ap (λ (z : ℕ). f.dest ∷ f.source ∷ f.queue ∷ f.len ∷ f.poisoned ∷ z ∷ f.stamp ∷ f.offered ∷ f.transaction ∷ []) (sym t.unreserved)

  read_holds : Holds F n read
  read_holds = record {
    fit = subst (Fit (widths F)) (sym read_values) (fits (widths F) (number (body_size F) h 0));
    long = t.long;
    queue = t.queue;
  }

  -- so they make up the same bytes
  read_body : body_for F read ≡ take (body_size F) h
  unfolding body_for header_size
  read_body =
      let k : ℕ = body_size F in
      let m : ℕ = number k h 0 in
      ap (λ (l : List ℕ). digits k (pack (widths F) l)) read_values
      ∙ ap (digits k) (pack_unpack (widths F) m ∙ ap (λ (p : ℕ). m % p) (filled F) ∙ mod-eq_of_lt (number_lt k h 0))
      ∙ digits_number k h small (omega (arith, t.sized))

  last_byte : drop (body_size F) h ≡ get_or h (body_size F) 0 ∷ []
  unfolding header_size
  last_byte =
      let k : ℕ = body_size F in
      let len : length h ≡ k + 1 = t.sized in
      drop-cons h k 0 (omega arith) ∙ ap (λ (l : List ℕ). get_or h k 0 ∷ l) (drop_of_length-le h {i = suc k} (omega arith))

  read_sum : crc8 (body_for F read) ≡ get_or h (body_size F) 0
  unfolding fields_of
  read_sum = ap crc8 read_body ∙ sym t.summed ∙ one_byte h (body_size F) ∙ mod-eq_of_lt (small (body_size F))

  read_header : header_for F read ≡ h
  unfolding header_for
  read_header =
      ap₂ (λ (l : List ℕ) (c : ℕ). l ++ (c ∷ [])) read_body read_sum
      ∙ ap (λ (l : List ℕ). take (body_size F) h ++ l) (sym last_byte)
      ∙ take-append-drop (body_size F) h

pub writer_undoes : (e p q : ℕ) (h : List ℕ) (v : Label) → ((i : ℕ) → get_or h i 0 < 256) → reads e p q h ≡ gives v → writes e p q v ≡ gives h
writer_undoes e p q h v small r =
    let F : Form = form_of e p q in
    let known = reads_means e p q h v r in
    let t = known.2 in
    ap (writes e p q) known.0
    ∙ means_writes e p q (label_of (fields_of F h)) known.1 (read_holds F q h small t)
    ∙ ap gives (read_header F q h small t)

-- ---- 21 exactly if

module _ (F : Form) (n : ℕ) (v : Label) where
  misfit_not : Misfit F n v → holds F n v ≡ false
  misfit_not m = go (holds F n v) refl m
    where
      go : (b : Bool) → holds F n v ≡ b → Misfit F n v → b ≡ false
      go false t m = refl
      go true t (inl h) = absurd (h (holds_means F n v t).fit)
      go true t (inr (inl h)) = absurd (omega (arith, (holds_means F n v t).long))
      go true t (inr (inr h)) = absurd (omega (arith, (holds_means F n v t).queue))

  not_misfit : holds F n v ≡ false → Misfit F n v
  not_misfit t = go (fitting (widths F) (values v)) (leb (least_length F) v.len) (ltb v.queue n) refl refl refl
    where
      go : (a b c : Bool) → fitting (widths F) (values v) ≡ a → leb (least_length F) v.len ≡ b → ltb v.queue n ≡ c → Misfit F n v
      go false b c ea eb ec = inl (λ f. true≢false (sym (fit_fitting (widths F) (values v) f) ∙ ea))
      go true false c ea eb ec = inr (inl (leb_no (least_length F) v.len eb))
      go true true false ea eb ec = inr (inr (ltb_no v.queue n ec))
      go true true true ea eb ec = absurd (true≢false (sym (means_holds F n v (record {
        fit = fitting_means (widths F) (values v) ea;
        long = leb_yes (least_length F) v.len eb;
        queue = ltb_yes v.queue n ec;
      })) ∙ t))

module _ (e p q : ℕ) (v : Label) (ok : counts_in e p q ≡ true) where
  pub misfit_refused : Misfit (form_of e p q) q v → writes e p q v ≡ refused 21
  misfit_refused m = let no' = misfit_not (form_of e p q) q v m in rw (ok, no')

  pub refused_misfit : (n : ℕ) → writes e p q v ≡ refused n → (n ≡ 21) × Misfit (form_of e p q) q v
  refused_misfit n w = go (holds (form_of e p q) q v) refl
    where
      go : (b : Bool) → holds (form_of e p q) q v ≡ b → (n ≡ 21) × Misfit (form_of e p q) q v
      go true t =
          let k = means_writes e p q v ok (holds_means (form_of e p q) q v t) in
          cc
      go false t =
          let m = not_misfit (form_of e p q) q v t in
          let r = misfit_refused m in
          (cc, m)

-- and 2 for any counts that are out of their rows, whatever the label and the bytes are
pub uncounted : (e p q : ℕ) (v : Label) (h : List ℕ) → counts_in e p q ≡ false → (writes e p q v ≡ refused 2) × (reads e p q h ≡ refused 2)
uncounted e p q v h no' = (rw no', rw no')

-- ---- 0 is no refusal's number

abbrev Numbered : List Rule → Type 0
Numbered [] = Unit {0}
Numbered (refuse n b ∷ rs) = (1 ≤ n) × Numbered rs

never_zero : {X : Type 0} (rs : List Rule) (x : X) (n : ℕ) → Numbered rs → guard rs refused (gives x) ≡ refused n → 1 ≤ n
never_zero [] x n k e = cc
never_zero (refuse m true ∷ rs) x n k e = let is : m ≡ n = cc in omega (arith, k.0)
never_zero (refuse m false ∷ rs) x n k e = never_zero rs x n k.1 e

pub read_never_zero : (e p q : ℕ) (h : List ℕ) (n : ℕ) → reads e p q h ≡ refused n → 1 ≤ n
read_never_zero e p q h n r =
    never_zero (reader_rules e p q h) (label_of (fields_of (form_of e p q) h)) n
    (omega arith, (omega arith, (omega arith, (omega arith, (omega arith, (omega arith, tt))))))
    r

pub write_never_zero : (e p q : ℕ) (v : Label) (n : ℕ) → writes e p q v ≡ refused n → 1 ≤ n
write_never_zero e p q v n w = never_zero (writer_rules e p q v) (header_for (form_of e p q) v) n (omega arith, (omega arith, tt)) w

-- ---- sizes

-- "Sizes are 11, 11, 12 and 12 bytes for 4/24, 8/16, 16/32 and 32/64", and ten of the ten-byte header
pub sizes : (header_size (form_of wide 4 24) ≡ 11)
    × (header_size (form_of wide 8 16) ≡ 11)
    × (header_size (form_of wide 16 32) ≡ 12)
    × (header_size (form_of wide 32 64) ≡ 12)
    × (header_size (form_of ten_bytes 4 24) ≡ 10)
unfolding count_leading_zeros width_of form_of front_bits front_bytes body_size header_size
sizes = (refl, refl, refl, refl, refl)

pub written_size : (e p q : ℕ) (v : Label) (b : List ℕ) → writes e p q v ≡ gives b → length b ≡ header_size (form_of e p q)
written_size e p q v b w = ap length (writes_means e p q v b w).0 ∙ length_header (form_of e p q) v
