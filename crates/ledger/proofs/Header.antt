-- The laws of a header's fields and of its price. Assumes nothing.
use mathlib.Core.Path.{◌≡◌, refl, ap₂}
use mathlib.Core.Bool.{Bool, true, false, cond}
use mathlib.Core.List.{List}
use Prim.Native.Nat.{ℕ, zero, suc, ◌+◌, ◌*◌, ◌-◌, ◌/◌, ◌^◌, ◌≤◌, ◌<◌}
use native.Mathlib.Nat.{pow-suc, div-add-mod', div-lt_iff_lt-mul, le_of_suc-le-suc, mod-lt}
use native.Mathlib.Omega.{arith}
use native.Mathlib.Decide.{dec_le}
use lib.ListN.{take}
use lib.Seq.{get_or-take, take-take}
use lib.Count.{count_leading_zeros, leading_top}
use lib.Pow.{pow_mono}
use lib.Dec.{eqb}
use Rattle.numbers.specs.Bytes.{number}
use Rattle.numbers.specs.Fields.{unpack}
use Rattle.numbers.proofs.Bytes.{number_lt, number_same}
use Rattle.numbers.proofs.Fields.{bits_lt}
use Rattle.ledger.specs.Settings.{Settings, ten_bytes, ids}
use Rattle.ledger.specs.Header.{Form, Narrow, width_of, form_of, form, front_bits, front_bytes, spare, widths, body_size, header_size, least_length}
use Rattle.ledger.specs.Header.{in_order, fields_of, price}
use Rattle.ledger.specs.Sound.{Roomy}

-- every field is as small as its width says, whatever the bytes are
pub record FieldsIn (F : Form) (h : List ℕ) : Type 0 where
  pub dest : (fields_of F h).dest < 2 ^ F.port_bits
  pub source : (fields_of F h).source < 2 ^ F.port_bits
  pub queue : (fields_of F h).queue < 2 ^ F.queue_bits
  pub len : (fields_of F h).len < 2 ^ 13
  pub poisoned : (fields_of F h).poisoned < 2
  pub reserved : (fields_of F h).reserved < 2 ^ spare F
  pub stamp : (fields_of F h).stamp < 2 ^ 32
  pub offered : (fields_of F h).offered < 2 ^ (8 * F.offer_bytes)
  pub transaction : (fields_of F h).transaction < 256
  pub check : (fields_of F h).check < 256

pub fields_in : (F : Form) (h : List ℕ) → FieldsIn F h
unfolding fields_of
fields_in F h =
    let n = number (body_size F) h 0 in
    record {
      dest = bits_lt _ F.port_bits n;
      source = bits_lt _ F.port_bits n;
      queue = bits_lt _ F.queue_bits n;
      len = bits_lt _ 13 n;
      poisoned = bits_lt _ 1 n;
      reserved = bits_lt _ (spare F) n;
      stamp = bits_lt _ 32 n;
      offered = bits_lt _ (8 * F.offer_bytes) n;
      transaction = bits_lt _ 8 n;
      check = number_lt 1 h (body_size F);
    }

-- what a packet's first bytes say, its header, is all that is read of it
pub fields_front : (F : Form) (b : List ℕ) → fields_of F (take (header_size F) b) ≡ fields_of F b
unfolding fields_of header_size
fields_front F b =
    ap₂ (λ (n c : ℕ). in_order (unpack (widths F) n) c) (front (body_size F) 0 (omega arith)) (front 1 (body_size F) (omega arith))
  where
    front : (k at : ℕ) → at + k ≤ body_size F + 1 → number k (take (body_size F + 1) b) at ≡ number k b at
    front k at h = number_same k (take (body_size F + 1) b) b at (λ i low high. get_or-take (body_size F + 1) b i 0 (omega arith))

-- and what is summed of it
pub body_front : (F : Form) (b : List ℕ) → take (body_size F) (take (header_size F) b) ≡ take (body_size F) b
unfolding header_size
body_front F b = take-take (body_size F) (body_size F + 1) b (omega arith)

-- ---- how wide a port and a queue are

-- the width holds every number below the count, and no smaller one holds the last of them
pub record Needed (n w : ℕ) : Type 0 where
  pub holds : n ≤ 2 ^ w
  pub some : 1 ≤ w
  pub least : 2 ^ w < 2 * n

pub width_needed : (n : ℕ) → 2 ≤ n → n ≤ 64 → Needed n (width_of n)
unfolding width_of
width_needed n low high =
    let t = leading_top 32 (n - 1) (omega arith) (omega arith) in
    let w : 32 - count_leading_zeros 32 (n - 1) ≡ suc t.0 = omega (arith, t.1) in
    let double : 2 ^ suc t.0 ≡ 2 ^ t.0 * 2 = pow-suc 2 t.0 in
    rw w (record { holds = omega (arith, t.3); some = omega arith; least = omega (arith, t.2) })

-- ---- the form of a switch

-- a width w whose numbers are fewer than 2 ^ m has fewer bits
few_bits : (w m : ℕ) → 2 ^ w < 2 ^ m → w < m
few_bits w m h = go (dec_le m w)
  where
    go : Dec (m ≤ w) → w < m
    go (yes k) = absurd (omega (arith, pow_mono k))
    go (no k) = omega arith

pub narrow_width : (n : ℕ) → 2 ≤ n → n ≤ 64 → width_of n ≤ 6
narrow_width n low high = let w = few_bits (width_of n) 7 (omega (arith, (width_needed n low high).least)) in omega arith

-- the parts of a switch's form are narrow
pub narrow : (e p q : ℕ) → 2 ≤ p → p ≤ 32 → 2 ≤ q → q ≤ 64 → Narrow (form_of e p q)
unfolding form_of front_bits front_bytes spare
narrow e p q some few some' few' =
    let port = width_needed p some (omega arith) in
    let queue = width_needed q some' few' in
    let w : width_of p < 6 = few_bits (width_of p) 6 (omega (arith, port.least)) in
    let v : width_of q < 7 = few_bits (width_of q) 7 (omega (arith, queue.least)) in
    let o = offered (eqb e ten_bytes) in
    record {
      some_port = port.some;
      few_port = omega arith;
      some_queue = queue.some;
      few_queue = omega arith;
      some_offer = o.0;
      few_offer = o.1;
    }
  where
    offered : (b : Bool) → (1 ≤ cond b 1 2) × (cond b 1 2 ≤ 2)
    offered true = (omega arith, omega arith)
    offered false = (omega arith, omega arith)

-- so the front has three bytes or four, and the zeros to spare fill it
pub record Fronted (F : Form) : Type 0 where
  pub three : 3 ≤ front_bytes F
  pub four : front_bytes F ≤ 4
  pub spared : front_bits F + spare F ≡ 8 * front_bytes F
  pub few_spare : spare F ≤ 7

pub fronted : (F : Form) → Narrow F → Fronted F
unfolding front_bits front_bytes spare
fronted F n =
    record {
      three = omega (arith, n.some_port, n.some_queue);
      four = omega (arith, n.few_port, n.few_queue);
      spared = omega arith;
      few_spare = omega arith;
    }

pub header_small : (F : Form) → Narrow F → (10 ≤ header_size F) × (header_size F ≤ 12)
unfolding body_size header_size
header_small F n = let f = fronted F n in (omega (arith, n.some_offer), omega (arith, n.few_offer))

module _ (S : Settings) (ok : Roomy S) where
  pub port_width : Needed S.ports (form S).port_bits
  unfolding form_of
  port_width = width_needed S.ports ok.some_ports (omega (arith, ok.few_ports))

  pub queue_width : Needed S.queues (form S).queue_bits
  unfolding form_of
  queue_width = width_needed S.queues ok.some_queues ok.few_queues

  -- whatever destination a header can name, the map has it: it is judged by its field's width, not by the ports
  pub dest_mapped : (d : ℕ) → d < 2 ^ (form S).port_bits → d < ids
  dest_mapped d h = omega (arith, port_width.least, ok.few_ports)

pub least_some : (F : Form) → 0 < least_length F
unfolding least_length
least_some F = omega arith

pub price_free : (beat len : ℕ) → price beat 0 len ≡ 0
unfolding price
price_free beat len = refl

pub price_some : (beat q len : ℕ) → 0 < q → price beat q len ≡ (len + (beat - 1)) / beat
unfolding price
price_some beat zero len h = absurd (omega arith)
price_some beat (suc q) len h = refl

-- rounded up: as many beats as hold the packet, and no more
pub price_holds : (beat q len : ℕ) → 0 < beat → 0 < q → len ≤ price beat q len * beat
price_holds beat q len some h =
    rw (price_some beat q len h)
    (omega (arith, div-add-mod' (len + (beat - 1)) beat, mod-lt (len + (beat - 1)) some))

pub price_fewest : (beat q len : ℕ) → 0 < beat → 0 < q → price beat q len * beat < len + beat
price_fewest beat q len some h =
    rw (price_some beat q len h) (omega (arith, div-add-mod' (len + (beat - 1)) beat))

-- nothing but queue 0 is free
pub price_pays : (beat q len : ℕ) → 0 < beat → 0 < q → 0 < len → 0 < price beat q len
price_pays beat q len some h long = go (price beat q len) (price_holds beat q len some h)
  where
    go : (n : ℕ) → len ≤ n * beat → 0 < n
    go zero e = absurd (omega arith)
    go (suc n) e = omega arith

-- the longest packet at the smallest beat
pub price_le : (beat q len : ℕ) → 64 ≤ beat → len < 2 ^ 13 → price beat q len ≤ 128
unfolding price
price_le beat zero len wide short = omega arith
price_le beat (suc q) len wide short =
    le_of_suc-le-suc ((div-lt_iff_lt-mul (omega arith)).1 (omega arith))
