-- The laws of the writer: what a label must be for a header to say it, and the bytes of one. Assumes nothing.
use mathlib.Core.Path.{◌≡◌, refl, sym, ap, ap₂, ◌∙◌}
use mathlib.Core.Bool.{Bool, true, ◌&&◌}
use mathlib.Core.List.{List, [], ◌∷◌, ◌++◌, append_assoc, append-nil}
use Prim.Native.Nat.{ℕ, ◌+◌, ◌-◌, ◌*◌, ◌^◌, ◌<◌, ◌≤◌}
use native.Mathlib.Nat.{mul_assoc, mod-eq_of_lt}
use native.Mathlib.Omega.{arith}
use lib.Dec.{ltb, leb}
use lib.ListN.{length, take, length-append}
use lib.Pow.{pow-add}
use lib.Seq.{take_at}
use Rattle.numbers.specs.Bytes.{store, digits}
use Rattle.numbers.specs.Fields.{pack, fitting, Fit}
use Rattle.numbers.proofs.Bytes.{length_digits, digits_one, pow_bytes}
use Rattle.numbers.proofs.Fields.{fitting_means, fit_fitting}
use Rattle.numbers.proofs.Parts.{bytewise, joined_packs, pack_parts, digits_above_bytes, digits_bytes, put}
use Rattle.crc.specs.Crc.{crc8}
use Rattle.crc.proofs.Sums.{crc8_lt}
use Rattle.ledger.specs.Settings.{ports_in, queues_in, wide}
use Rattle.ledger.specs.Header.{Form, form_of, widths, spare, front_bytes, body_size, header_size, least_length}
use Rattle.ledger.proofs.Tests.{and_left, and_right, leb_yes, leb_is, ltb_yes, ltb_is}
use Rattle.ledger.proofs.Rows.{ports_range, queues_range}
use Rattle.forms.specs.declared.form.HeaderForm.{HeaderForm}
use Rattle.forms.specs.Formed.{form_in}
use Rattle.header.specs.Front.{front_widths}
use Rattle.header.proofs.Reading.{back_bytes, body_parts}
use Rattle.codec.specs.Label.{Label, values, front_values, counts_in, gives}
use Rattle.codec.specs.Writer.{holds, body_for, header_for, writes, padded}

-- ---- the counts

pub record Counts (p q : ℕ) : Type 0 where
  pub some_ports : 2 ≤ p
  pub few_ports : p ≤ 32
  pub some_queues : 2 ≤ q
  pub few_queues : q ≤ 64

pub counts_mean : (e p q : ℕ) → counts_in e p q ≡ true → Counts p q
unfolding counts_in
counts_mean e p q t =
    let port = ports_range e p (and_left (ports_in e p) (queues_in e q && leb e wide) t) in
    let queue = queues_range e q (and_left (queues_in e q) (leb e wide) (and_right (ports_in e p) (queues_in e q && leb e wide) t)) in
    record { some_ports = port.0; few_ports = port.1; some_queues = queue.0; few_queues = queue.1 }

-- ---- what a label must be, for a header to say it

pub record Holds (F : Form) (n : ℕ) (v : Label) : Type 0 where
  pub fit : Fit (widths F) (values v)
  pub long : least_length F ≤ v.len
  pub queue : v.queue < n

module _ (F : Form) (n : ℕ) (v : Label) where
  pub holds_means : holds F n v ≡ true → Holds F n v
  unfolding holds
  holds_means t =
      let a : Bool = fitting (widths F) (values v) in
      let b : Bool = leb (least_length F) v.len in
      let c : Bool = ltb v.queue n in
      let rest = and_right a (b && c) t in
      record {
        fit = fitting_means (widths F) (values v) (and_left a (b && c) t);
        long = leb_yes (least_length F) v.len (and_left b c rest);
        queue = ltb_yes v.queue n (and_right b c rest);
      }

  pub means_holds : Holds F n v → holds F n v ≡ true
  unfolding holds
  means_holds k = rw (fit_fitting (widths F) (values v) k.fit, leb_is (least_length F) v.len k.long, ltb_is v.queue n k.queue)

-- ---- the bytes of a label

abbrev pub back_values : Label → List ℕ
back_values v = v.stamp ∷ v.offered ∷ v.transaction ∷ []

module _ (F : Form) (v : Label) (f : Fit (widths F) (values v)) where
  pub front_fit : Fit (front_widths F) (front_values v)
  front_fit = (f.0, (f.1.0, (f.1.1.0, (f.1.1.1.0, (f.1.1.1.1.0, (f.1.1.1.1.1.0, tt))))))

  back_fit : Fit (bytewise (back_bytes F)) (back_values v)
  back_fit = f.1.1.1.1.1.1

  -- those of the front, then those of each number behind it
  pub body_bytes :
      ((digits (front_bytes F) (pack (front_widths F) (front_values v)) ++ digits 4 v.stamp) ++ digits F.offer_bytes v.offered)
      ++ digits 1 v.transaction
      ≡ body_for F v
  unfolding body_for
  body_bytes =
      let w : ℕ = pack (front_widths F) (front_values v) in
      let d : List ℕ = digits (front_bytes F) w in
      let back : List ℕ = back_bytes F in
      sym
      (ap₂ digits (body_parts F) (pack_parts (front_widths F) (bytewise back) (front_values v) (back_values v) front_fit)
      ∙ digits_above_bytes (front_bytes F) w back (back_values v) back_fit
      ∙ ap (λ (l : List ℕ). d ++ l) (digits_bytes back (back_values v) back_fit)
      ∙ simp (append-nil, append_assoc))

-- as the code joins them: d has the first five of the front's values, and zeros follow it
pub front_packed : (F : Form) (v : Label) → Fit (widths F) (values v) → (a b c d r s j : ℕ)
    → a ≡ v.dest * 2 ^ F.port_bits + v.source
    → b ≡ a * 2 ^ F.queue_bits + v.queue
    → c ≡ b * 2 ^ 13 + v.len
    → d ≡ c * 2 ^ 1 + v.poisoned
    → s ≡ spare F
    → r ≡ d * 2 ^ (s + j) + 0
    → r ≡ pack (front_widths F) (front_values v) * 2 ^ j
front_packed F v f a b c d r s j ia ib ic id is ir =
    let packed = joined_packs v.dest (F.port_bits ∷ F.queue_bits ∷ 13 ∷ 1 ∷ spare F ∷ [])
    (v.source ∷ v.queue ∷ v.len ∷ v.poisoned ∷ 0 ∷ []) (front_fit F v f).1 in
    let last : d * 2 ^ s ≡ d * 2 ^ spare F + 0 = ap (λ (n : ℕ). d * 2 ^ n) is ∙ omega arith in
    let zeros : d * 2 ^ (s + j) + 0 ≡ d * 2 ^ s * 2 ^ j = omega (arith, ap (λ (n : ℕ). d * n) (pow-add 2 s j), mul_assoc d (2 ^ s) (2 ^ j)) in
    let all : d * 2 ^ spare F + 0 ≡ pack (front_widths F) (front_values v) = rw (id, ic, ib, ia) packed in
    ir ∙ zeros ∙ ap (λ (n : ℕ). n * 2 ^ j) (last ∙ all)

pub length_body : (F : Form) (v : Label) → length (body_for F v) ≡ body_size F
unfolding body_for
length_body F v = length_digits (body_size F) (pack (widths F) (values v))

-- a header written has its form's size
pub length_header : (F : Form) (v : Label) → length (header_for F v) ≡ header_size F
unfolding header_for header_size
length_header F v = simp (length-append, length_body) (omega arith)

-- the numbers that the code stores one after another are the body
pub body_stored : (f : HeaderForm) (v : Label) → Fit (widths (form_in f)) (values v) → (m₀ m₁ m₂ m₃ m₄ : List ℕ) (front credit : ℕ)
    → front ≡ pack (front_widths (form_in f)) (front_values v) * 2 ^ (8 * (4 - f.front))
    → credit ≡ v.offered * 2 ^ (8 * (2 - f.offer)) + 0
    → m₀ ≡ padded []
    → m₁ ≡ store 4 m₀ 0 front
    → m₂ ≡ store 4 m₁ f.front v.stamp
    → m₃ ≡ store 2 m₂ (f.front + 4) credit
    → m₄ ≡ store 1 m₃ (f.size - 2) v.transaction
    → m₄ ≡ padded (body_for (form_in f) v)
body_stored f v fit m₀ m₁ m₂ m₃ m₄ front credit ef ec e₀ e₁ e₂ e₃ e₄ =
    let F : Form = form_in f in
    let k : ℕ = front_bytes F in
    let o : ℕ = f.offer in
    let w : ℕ = pack (front_widths F) (front_values v) in
    let is : f.front ≡ k = f.formed.front_is in
    let front_word : front ≡ w * 256 ^ (4 - k) = ef ∙ ap (λ (n : ℕ). w * 2 ^ (8 * (4 - n))) is ∙ ap (λ (n : ℕ). w * n) (sym (pow_bytes (4 - k))) in
    let credit_word : credit ≡ v.offered * 256 ^ (2 - o) = ec ∙ rw (← pow_bytes (2 - o)) (omega arith) in
    let one = put 12 4 k [] 0 front w m₀ m₁ e₀ refl (omega arith) (omega arith) front_word e₁ in
    let two = put 12 4 4 (digits k w) f.front v.stamp v.stamp m₁ m₂ one (length_digits k w ∙ sym is) (omega arith) (omega arith) (omega arith) e₂ in
    let three = put 12 2 o (digits k w ++ digits 4 v.stamp) (f.front + 4) credit v.offered m₂ m₃ two
    (simp (length-append, length_digits) (omega arith)) f.formed.narrow.few_offer (omega arith) credit_word e₃ in
    let four = put 12 1 1 ((digits k w ++ digits 4 v.stamp) ++ digits o v.offered) (f.size - 2) v.transaction v.transaction m₃ m₄ three
    (simp (length-append, length_digits) (omega arith)) (omega arith) (omega arith) (omega arith) e₄ in
    four ∙ ap padded (body_bytes F v fit)

-- and with the checksum behind it the header
pub header_stored : (f : HeaderForm) (v : Label) (b b' : List ℕ) (sum : ℕ)
    → b ≡ padded (body_for (form_in f) v)
    → sum ≡ crc8 (take (f.size - 1) b)
    → b' ≡ store 1 b (f.size - 1) sum
    → b' ≡ padded (header_for (form_in f) v)
unfolding header_for header_size
header_stored f v b b' sum e es e' =
    let F : Form = form_in f in
    let B : List ℕ = body_for F v in
    let len : length B ≡ f.size - 1 = length_body F v ∙ omega arith in
    let whole : sum ≡ crc8 B = es ∙ ap (λ (l : List ℕ). crc8 (take (f.size - 1) l)) e ∙ ap crc8 (take_at B _ (f.size - 1) len) in
    let byte : digits 1 sum ≡ crc8 B ∷ [] = ap (digits 1) whole ∙ digits_one (crc8 B) ∙ ap (λ (c : ℕ). c ∷ []) (mod-eq_of_lt (crc8_lt B)) in
    put 12 1 1 B (f.size - 1) sum sum b b' e len (omega arith) (omega arith) (omega arith) e'
    ∙ ap (λ (l : List ℕ). padded (B ++ l)) byte

-- ---- the writer

pub written : (e p q : ℕ) (v : Label) → counts_in e p q ≡ true → (F : Form) → F ≡ form_of e p q → holds F q v ≡ true
    → gives (header_for F v) ≡ writes e p q v
written e p q v ok F is fit =
    let same = ap (λ (G : Form). holds G q v) (sym is) ∙ fit in
    rw (ok, same) (ap (λ (G : Form). gives (header_for G v)) is)
