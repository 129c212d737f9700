-- Settings that are in their rows: which beats there are, what each row says, and the bytes that a state takes. Assumes nothing.
use mathlib.Core.Path.{◌≡◌, refl, sym, ap, ◌∙◌, subst}
use mathlib.Core.Logic.{◌⊎◌, inl, inr, ◌≢◌}
use mathlib.Core.Bool.{Bool, true, false, cond, ◌&&◌, ◌||◌}
use Prim.Native.Nat.{ℕ, zero, suc, ◌+◌, ◌-◌, ◌*◌, ◌≤◌, ◌<◌}
use native.Mathlib.Nat.{not-suc-le-zero, add-zero, zero-add, mul-add, mul-suc, mul_left_comm, mul-le-mul}
use native.Mathlib.Numerals.{add-one}
use native.Mathlib.Decide.{ℕ_discrete}
use native.Mathlib.Omega.{arith}
use lib.Dec.{eqb, leb}
use lib.Count.{ones}
use Rattle.ledger.specs.Settings.{Settings, ten_bytes, wide, is_beat, ports_in, queues_in, packets_in, setting_count, in_row, rows_from, in_rows}
use Rattle.ledger.specs.Settings.{out_from, first_out, row, size}
use Rattle.ledger.specs.Sound.{Roomy}
use Rattle.ledger.proofs.Tests.{is_false, leb_yes, leb_is, eqb_yes, eqb_is, eqb_not, and_left, and_right}

leb_and : (m n : ℕ) (b : Bool) → (leb m n && b) ≡ true → (m ≤ n) × (b ≡ true)
leb_and m n b e = (leb_yes m n (and_left (leb m n) b e), and_right (leb m n) b e)

eqb_and : (m n : ℕ) (b : Bool) → (eqb m n && b) ≡ true → (m ≡ n) × (b ≡ true)
eqb_and m n b e = (eqb_yes m n (and_left (eqb m n) b e), and_right (eqb m n) b e)

eqb_or : {P : Type 0} (m n : ℕ) (b : Bool) → (b ≡ true → P) → (eqb m n || b) ≡ true → (m ≡ n) ⊎ P
eqb_or {P} m n b f e = go (ℕ_discrete m n)
  where
    go : Dec (m ≡ n) → (m ≡ n) ⊎ P
    go (yes d) = inl d
    go (no d) = inr (f (rw (eqb_not m n d) at e))

-- ---- the beats

pub beat_range : (b : ℕ) → is_beat b ≡ true → (64 ≤ b) × (b ≤ 512)
unfolding is_beat
beat_range b e = let l = leb_and 64 b _ e in (l.0, (leb_and b 512 _ l.1).0)

every_below : (ℕ → Bool) → ℕ → Bool
every_below f zero = true
every_below f (suc n) = f n && every_below f n

every_at : (f : ℕ → Bool) (n k : ℕ) → every_below f n ≡ true → k < n → f k ≡ true
unfolding every_below
every_at f zero k e h = absurd (not-suc-le-zero h)
every_at f (suc n) k e h = go (ℕ_discrete k n) (every_at f n k (and_right (f n) (every_below f n) e))
  where
    go : Dec (k ≡ n) → (k < n → f k ≡ true) → f k ≡ true
    go (yes d) rest = rw d (and_left (f n) (every_below f n) e)
    go (no d) rest = rest (omega arith)

abbrev pub OneOfFour : ℕ → Type 0
OneOfFour b = (b ≡ 64) ⊎ ((b ≡ 128) ⊎ ((b ≡ 256) ⊎ (b ≡ 512)))

one_of_four : ℕ → Bool
one_of_four b = eqb b 64 || (eqb b 128 || (eqb b 256 || eqb b 512))

fair : ℕ → Bool
fair b = cond (is_beat b) (one_of_four b) true

-- the one test, computed: among the numbers up to 512, a beat is one of the four
all_fair : every_below fair 513 ≡ true
unfolding every_below fair one_of_four is_beat ones
all_fair = refl

pub beat_values : (b : ℕ) → is_beat b ≡ true → OneOfFour b
unfolding one_of_four fair
beat_values b e =
    let h = beat_range b e in
    let f : one_of_four b ≡ true = rw e at (every_at fair 513 b all_fair (omega arith)) in
    eqb_or b 64 _ (eqb_or b 128 _ (eqb_or b 256 _ (eqb_yes b 512))) f

pub beat_is : (b : ℕ) → OneOfFour b → is_beat b ≡ true
unfolding is_beat ones
beat_is b (inl e) = rw e
beat_is b (inr (inl e)) = rw e
beat_is b (inr (inr (inl e))) = rw e
beat_is b (inr (inr (inr e))) = rw e

-- ---- the rows

-- a number between two bounds, or not
row_is : (a n b : ℕ) → (leb a n && leb n b) ≡ true → (a ≤ n) × (n ≤ b)
row_is a n b e = let h = leb_and a n _ e in (h.0, leb_yes n b h.1)

is_in_row : (a n b : ℕ) → a ≤ n → n ≤ b → (leb a n && leb n b) ≡ true
is_in_row a n b l h = rw (leb_is a n l, leb_is n b h)

off_row : (a n b : ℕ) → (a ≤ n → n ≤ b → ⊥) → (leb a n && leb n b) ≡ false
off_row a n b out = is_false (leb a n && leb n b) (λ e. let h = row_is a n b e in out h.0 h.1)

-- a count whose row is one number in the ten-byte edition, and reaches from 2 to `most` in the others
abbrev CountIn : ℕ → ℕ → ℕ → ℕ → Type 0
CountIn ten most e n = (e ≡ ten_bytes → n ≡ ten) × ((e ≡ ten_bytes → ⊥) → (2 ≤ n) × (n ≤ most))

count_in_lem : (ten most e n : ℕ) → cond (eqb e ten_bytes) (eqb n ten) (leb 2 n && leb n most) ≡ true → CountIn ten most e n
count_in_lem ten most e n t = (
  λ is. eqb_yes n ten (rw (eqb_is e ten_bytes is) at t),
  λ other. row_is 2 n most (rw (eqb_not e ten_bytes other) at t),
)

in_count : (ten most e n : ℕ) → CountIn ten most e n → cond (eqb e ten_bytes) (eqb n ten) (leb 2 n && leb n most) ≡ true
in_count ten most e n c = go (ℕ_discrete e ten_bytes)
  where
    go : Dec (e ≡ ten_bytes) → cond (eqb e ten_bytes) (eqb n ten) (leb 2 n && leb n most) ≡ true
    go (yes is) = rw (eqb_is e ten_bytes is, eqb_is n ten (c.0 is))
    go (no other) = rw (eqb_not e ten_bytes other, is_in_row 2 n most (c.1 other).0 (c.1 other).1)

-- either way it is from 2 to `most`
count_range : (ten most e n : ℕ) → 2 ≤ ten → ten ≤ most → CountIn ten most e n → (2 ≤ n) × (n ≤ most)
count_range ten most e n low high c = go (ℕ_discrete e ten_bytes)
  where
    go : Dec (e ≡ ten_bytes) → (2 ≤ n) × (n ≤ most)
    go (yes is) = let k = c.0 is in (omega arith, omega arith)
    go (no other) = c.1 other

-- what each row says
abbrev pub PortsIn : ℕ → ℕ → Type 0
PortsIn = CountIn 4 32

abbrev pub QueuesIn : ℕ → ℕ → Type 0
QueuesIn = CountIn 24 64

pub ports_in_lem : (e p : ℕ) → ports_in e p ≡ true → PortsIn e p
unfolding ports_in
ports_in_lem e p t = count_in_lem 4 32 e p t

pub queues_in_lem : (e q : ℕ) → queues_in e q ≡ true → QueuesIn e q
unfolding queues_in
queues_in_lem e q t = count_in_lem 24 64 e q t

pub in_ports : (e p : ℕ) → PortsIn e p → ports_in e p ≡ true
unfolding ports_in
in_ports e p c = in_count 4 32 e p c

pub in_queues : (e q : ℕ) → QueuesIn e q → queues_in e q ≡ true
unfolding queues_in
in_queues e q c = in_count 24 64 e q c

-- packets go with the ten-byte edition alone, and are kept or not
pub packets_low : (e k : ℕ) → packets_in e k ≡ true → k ≤ 1
unfolding packets_in
packets_low e k t = go (eqb e ten_bytes) t
  where
    go : (b : Bool) → cond b (leb k 1) (eqb k 0) ≡ true → k ≤ 1
    go true t = leb_yes k 1 t
    go false t = let z = eqb_yes k 0 t in omega arith

pub packets_ten : (e k : ℕ) → packets_in e k ≡ true → k ≢ 0 → e ≡ ten_bytes
unfolding packets_in
packets_ten e k t some = go (eqb e ten_bytes) refl t
  where
    go : (b : Bool) → eqb e ten_bytes ≡ b → cond b (leb k 1) (eqb k 0) ≡ true → e ≡ ten_bytes
    go true i t = eqb_yes e ten_bytes i
    go false i t = absurd (some (eqb_yes k 0 t))

pub ports_range : (e p : ℕ) → ports_in e p ≡ true → (2 ≤ p) × (p ≤ 32)
ports_range e p t = count_range 4 32 e p (omega arith) (omega arith) (ports_in_lem e p t)

pub queues_range : (e q : ℕ) → queues_in e q ≡ true → (2 ≤ q) × (q ≤ 64)
queues_range e q t = count_range 24 64 e q (omega arith) (omega arith) (queues_in_lem e q t)

pub record Rows (S : Settings) : Type 0 where
  pub are_ports : ports_in S.edition S.ports ≡ true
  pub are_queues : queues_in S.edition S.queues ≡ true
  pub some_nodes : 1 ≤ S.nodes
  pub few_nodes : S.nodes ≤ 2048
  pub is_beat_lem : is_beat S.beat ≡ true
  pub some_slots : 1 ≤ S.slots
  pub few_slots : S.slots ≤ 8
  pub low_credit : S.credit ≤ 65535
  pub is_edition : S.edition ≤ wide
  pub are_packets : packets_in S.edition S.packets ≡ true

pub and_true : (a : Bool) → (a && true) ≡ a
and_true true = refl
and_true false = refl

-- each of n settings from i on is in its row
rows_at : (S : Settings) (i n : ℕ) → rows_from S i n ≡ true → (k : ℕ) → k < n → in_row S (i + k) ≡ true
rows_at S i zero e k h = absurd (not-suc-le-zero h)
rows_at S i (suc n) e zero h = rw (add-zero i) (and_left (in_row S i) (rows_from S (suc i) n) e)
rows_at S i (suc n) e (suc k) h =
    let next : suc i + k ≡ i + suc k = omega arith in
    subst (λ (j : ℕ). in_row S j ≡ true) next (rows_at S (suc i) n (and_right (in_row S i) (rows_from S (suc i) n) e) k (omega arith))

module _ (S : Settings) (h : in_rows S ≡ true) where
  row_at : (k : ℕ) → k < setting_count → in_row S k ≡ true
  unfolding in_rows
  row_at k l = subst (λ (j : ℕ). in_row S j ≡ true) (zero-add k) (rows_at S 0 setting_count h k l)

  pub rows : Rows S
  rows =
      let n = row_is 1 S.nodes 2048 (row_at 2 (omega arith)) in
      let d = row_is 1 S.slots 8 (row_at 4 (omega arith)) in
      record {
        are_ports = row_at 0 (omega arith);
        are_queues = row_at 1 (omega arith);
        some_nodes = n.0;
        few_nodes = n.1;
        is_beat_lem = row_at 3 (omega arith);
        some_slots = d.0;
        few_slots = d.1;
        low_credit = leb_yes S.credit 65535 (row_at 5 (omega arith));
        is_edition = leb_yes S.edition wide (row_at 6 (omega arith));
        are_packets = row_at 7 (omega arith);
      }

  -- the ten-byte edition's ports and queues
  pub ten_byte_counts : S.edition ≡ ten_bytes → (S.ports ≡ 4) × (S.queues ≡ 24)
  ten_byte_counts e = ((ports_in_lem S.edition S.ports rows.are_ports).0 e, (queues_in_lem S.edition S.queues rows.are_queues).0 e)

  -- a switch that keeps packets has four ports
  pub packets_four : S.packets ≢ 0 → S.ports ≡ 4
  packets_four some = (ten_byte_counts (packets_ten S.edition S.packets rows.are_packets some)).0

  pub roomy : Roomy S
  roomy =
      let r = rows in
      let k = packets_low S.edition S.packets rows.are_packets in
      let b = beat_range S.beat rows.is_beat_lem in
      let p = ports_range S.edition S.ports rows.are_ports in
      let q = queues_range S.edition S.queues rows.are_queues in
      omega arith

-- ---- the bytes of a state

-- four ports of 24 queues, in either edition: sixteen bytes of settings, 4,096 of the map, four last served queues, four marks,
-- 92 cells of 4, 132 buckets of 4, 200 lists of 8, and 52 for each node index
pub size_ten : (S : Settings) → S.ports ≡ 4 → S.queues ≡ 24 → size S ≡ 6616 + 52 * S.nodes
unfolding size row
size_ten S p q = rw (p, q) (omega arith)

-- at most 64 bytes for each node above 256, over all ports together
pub size_ten_bound : (S : Settings) → S.ports ≡ 4 → S.queues ≡ 24 → size S ≤ 65536 + 64 * (S.nodes - 256)
size_ten_bound S p q = omega (arith, size_ten S p q)

-- what a port takes of them, for so many queues and nodes
abbrev pub port_size : ℕ → ℕ → ℕ
port_size q n = 146 + (20 * q + 13 * n)

pub size_is : (S : Settings) → 1 ≤ S.queues → size S ≡ 4112 + S.ports * port_size S.queues S.nodes
unfolding size row
size_is S some =
    let less : S.ports * S.queues ≡ S.ports * (S.queues - 1) + S.ports =
    ap (λ (q : ℕ). S.ports * q) (let e : S.queues ≡ suc (S.queues - 1) = omega arith in e) ∙ mul-suc S.ports (S.queues - 1) in
    omega (
      arith,
      mul-add S.ports 146 (20 * S.queues + 13 * S.nodes),
      mul-add S.ports (20 * S.queues) (13 * S.nodes),
      mul-add S.ports 2 (2 * S.queues),
      mul_left_comm S.ports 20 S.queues,
      mul_left_comm S.ports 2 S.queues,
      mul_left_comm S.ports 13 S.nodes,
    )

-- it rises in each count
pub size_rises : (S T : Settings) → Roomy S → Roomy T
    → S.ports ≤ T.ports → S.queues ≤ T.queues → S.nodes ≤ T.nodes → size S ≤ size T
size_rises S T ok ok' p q n =
    let most = mul-le-mul p (let k : port_size S.queues S.nodes ≤ port_size T.queues T.nodes = omega arith in k) in
    omega (arith, size_is S (omega (arith, ok.some_queues)), size_is T (omega (arith, ok'.some_queues)))

-- "at most 64 bytes for each node, 128 for each queue of each port, 512 for each port and 16,384 beside" (paper 02, Q-7)
pub size_bound : (S : Settings) → 1 ≤ S.queues
    → size S ≤ 64 * (S.ports * S.nodes) + 128 * (S.ports * S.queues) + 512 * S.ports + 16384
size_bound S some =
    omega (
      arith,
      size_is S some,
      mul-add S.ports 146 (20 * S.queues + 13 * S.nodes),
      mul-add S.ports (20 * S.queues) (13 * S.nodes),
      mul_left_comm S.ports 20 S.queues,
      mul_left_comm S.ports 13 S.nodes,
    )

-- ---- the first that is not in its row

-- each is in its row exactly if none is the first that is not
rows_out_from : (S : Settings) (i n : ℕ) → rows_from S i n ≡ eqb (out_from S i n) (i + n)
rows_out_from S i zero = sym (eqb_is i (i + 0) (omega arith))
rows_out_from S i (suc n) = go (in_row S i) (rows_out_from S (suc i) n)
  where
    go : (b : Bool) → rows_from S (suc i) n ≡ eqb (out_from S (suc i) n) (suc i + n)
        → (b && rows_from S (suc i) n) ≡ eqb (cond b (out_from S (suc i) n) i) (i + suc n)
    go true rest = rest ∙ ap (λ (k : ℕ). eqb (out_from S (suc i) n) k) (let e : suc i + n ≡ i + suc n = omega arith in e)
    go false rest = sym (eqb_not i (i + suc n) (λ e. omega arith))

pub rows_out : (S : Settings) → in_rows S ≡ eqb (first_out S) setting_count
unfolding in_rows first_out
rows_out S = rows_out_from S 0 setting_count

-- setting i, those before it being in their rows: the first that is out is the first from here on
pub record Left (S : Settings) (i : ℕ) : Type 0 where
  pub low : i ≤ setting_count
  pub rest : out_from S i (setting_count - i) ≡ first_out S

module _ (S : Settings) where
  pub left_all : Left S 0
  unfolding first_out
  left_all = record { low = omega arith; rest = refl }

  module _ (i : ℕ) (l : Left S i) where
    -- one more is left
    one_left : i < setting_count → out_from S i (suc (setting_count - suc i)) ≡ first_out S
    one_left h = ap (λ (n : ℕ). out_from S i n) (let e : suc (setting_count - suc i) ≡ setting_count - i = omega arith in e) ∙ l.rest

    pub left_out : i < setting_count → in_row S i ≡ false → i ≡ first_out S
    left_out h e = let o : i ≡ out_from S i (suc (setting_count - suc i)) = rw e in o ∙ one_left h

    pub left_next : i < setting_count → in_row S i ≡ true → Left S (i + 1)
    left_next h e =
        let o : out_from S (suc i) (setting_count - suc i) ≡ out_from S i (suc (setting_count - suc i)) = rw e in
        rw (add-one i) (record { low = omega arith; rest = o ∙ one_left h })

    pub left_none : setting_count ≤ i → i ≡ first_out S
    left_none h = let e : i ≡ setting_count = omega (arith, l.low) in e ∙ (rw e at l.rest)

-- the last setting's row, of a number that is none of the others'
pub row_last : (S : Settings) (i : ℕ) → i ≢ 0 → i ≢ 1 → i ≢ 2 → i ≢ 3 → i ≢ 4 → i ≢ 5 → i ≢ 6 → in_row S i ≡ packets_in S.edition S.packets
row_last S zero a b c d e f g = absurd (a refl)
row_last S (suc zero) a b c d e f g = absurd (b refl)
row_last S (suc (suc zero)) a b c d e f g = absurd (c refl)
row_last S (suc (suc (suc zero))) a b c d e f g = absurd (d refl)
row_last S (suc (suc (suc (suc zero)))) a b c d e f g = absurd (e refl)
row_last S (suc (suc (suc (suc (suc zero))))) a b c d e f g = absurd (f refl)
row_last S (suc (suc (suc (suc (suc (suc zero)))))) a b c d e f g = absurd (g refl)
row_last S (suc (suc (suc (suc (suc (suc (suc i))))))) a b c d e f g = refl
