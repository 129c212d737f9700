-- Each answer of the code is one reply, and no two answers are the same reply: an equation between replies determines the answer.
-- Assumes nothing.
use mathlib.Core.Path.{◌≡◌, refl, sym, ap, ◌∙◌}
use mathlib.Core.List.{List, [], ◌∷◌}
use Prim.Native.Nat.{ℕ}
use lib.ListN.{get_or}
use Rattle.std.specs.Prelude.{Result, Ok, Err, Option, None, Some}
use Rattle.ledger.specs.Answers.{number_of, kind_of, exit_of, sent_of, reply_by, plain_reply, stitch_reply, entry_reply, left_reply, turn_reply}
use Rattle.ledger.specs.Answers.{ready_reply, where_reply, report_reply, bucket_reply, show_reply}
use Rattle.ledger.specs.declared.Refusal.{Refusal}
use Rattle.ledger.specs.declared.Refusal.TheVariants.{ShortMemory, BadSetting, NoState, NoPort, NoQueue, HeaderSize, Checksum, Source}
use Rattle.ledger.specs.declared.Refusal.TheVariants.{TooShort, NoCredit, NoFreeNode, NothingThere, SlotsInUse, TooMuchCredit, NoSuchId}
use Rattle.ledger.specs.declared.Refusal.TheVariants.{PacketBytes, PacketMemory, HeaderQueue, ReservedBit, NoFit, OtherKind, ShortRoom}
use Rattle.ledger.specs.declared.ListKind.{ListKind}
use Rattle.ledger.specs.declared.ListKind.TheVariants.{Free, Ingress, Egress, Prefetch}
use Rattle.ledger.specs.declared.Exit.{Exit}
use Rattle.ledger.specs.declared.Exit.TheVariants.{Inside, Outside}
use Rattle.ledger.specs.declared.Sent.{Sent}
use Rattle.ledger.specs.declared.EntryId.{EntryId}
use Rattle.ledger.specs.declared.Readiness.{Readiness}
use Rattle.ledger.specs.Calls.{Reply, refused, done, entry, stitched, leaves, word, found, reported, counted, part, Side}
use Rattle.ledger.specs.Ledger.{Packet, Place}

-- the refusals by their numbers; where there is none, any
refusals : List Refusal
refusals =
    ShortMemory ∷ ShortMemory ∷ BadSetting ∷ NoState ∷ NoPort ∷ NoQueue ∷ HeaderSize ∷ Checksum ∷ Source ∷ TooShort
    ∷ NoCredit ∷ NoFreeNode ∷ NothingThere ∷ SlotsInUse ∷ TooMuchCredit ∷ NoSuchId ∷ PacketBytes ∷ PacketMemory ∷ ShortMemory ∷ HeaderQueue
    ∷ ReservedBit ∷ NoFit ∷ ShortMemory ∷ ShortMemory ∷ OtherKind ∷ ShortMemory ∷ ShortMemory ∷ ShortRoom ∷ []

refusal_of : ℕ → Refusal
refusal_of n = get_or refusals n ShortMemory

refusal_back : (r : Refusal) → refusal_of (number_of r) ≡ r
unfolding refusals refusal_of
refusal_back ShortMemory = refl
refusal_back BadSetting = refl
refusal_back NoState = refl
refusal_back NoPort = refl
refusal_back NoQueue = refl
refusal_back HeaderSize = refl
refusal_back Checksum = refl
refusal_back Source = refl
refusal_back TooShort = refl
refusal_back NoCredit = refl
refusal_back NoFreeNode = refl
refusal_back NothingThere = refl
refusal_back SlotsInUse = refl
refusal_back TooMuchCredit = refl
refusal_back NoSuchId = refl
refusal_back PacketBytes = refl
refusal_back PacketMemory = refl
refusal_back HeaderQueue = refl
refusal_back ReservedBit = refl
refusal_back NoFit = refl
refusal_back OtherKind = refl
refusal_back ShortRoom = refl

pub number_inj : (r s : Refusal) → number_of r ≡ number_of s → r ≡ s
number_inj r s e = sym (refusal_back r) ∙ ap refusal_of e ∙ refusal_back s

pub kind_inj : (v w : ListKind) → kind_of v ≡ kind_of w → v ≡ w
kind_inj (Free p) (Free q) e = cc
kind_inj (Free p) (Ingress q) e = cc
kind_inj (Free p) (Egress q t) e = cc
kind_inj (Free p) (Prefetch q t) e = cc
kind_inj (Ingress p) (Free q) e = cc
kind_inj (Ingress p) (Ingress q) e = cc
kind_inj (Ingress p) (Egress q t) e = cc
kind_inj (Ingress p) (Prefetch q t) e = cc
kind_inj (Egress p s) (Free q) e = cc
kind_inj (Egress p s) (Ingress q) e = cc
kind_inj (Egress p s) (Egress q t) e = cc
kind_inj (Egress p s) (Prefetch q t) e = cc
kind_inj (Prefetch p s) (Free q) e = cc
kind_inj (Prefetch p s) (Ingress q) e = cc
kind_inj (Prefetch p s) (Egress q t) e = cc
kind_inj (Prefetch p s) (Prefetch q t) e = cc

pub exit_inj : (a b : Exit) → exit_of a ≡ exit_of b → a ≡ b
exit_inj Inside Inside e = refl
exit_inj Inside Outside e = cc
exit_inj Outside Inside e = cc
exit_inj Outside Outside e = refl

packet_sent : Packet → Sent
packet_sent k = record {
  entry = record { 0 = k.node };
  length = k.len;
  queue = k.queue;
  destination = k.dest;
  timestamp = k.stamp;
  poisoned = k.poisoned;
  transaction = k.transaction;
  price = k.price;
}

pub sent_inj : (k j : Sent) → sent_of k ≡ sent_of j → k ≡ j
unfolding packet_sent
sent_inj k j e = ap packet_sent e

-- a reply's number, or its values: the parts by which two replies are told apart
refused_inj : (m n : ℕ) → refused m ≡ refused n → m ≡ n
refused_inj m n e = cc

leaves_left : (k j : Packet) (s t : Side) → leaves k s ≡ leaves j t → k ≡ j
leaves_left k j s t e = cc

leaves_right : (k j : Packet) (s t : Side) → leaves k s ≡ leaves j t → s ≡ t
leaves_right k j s t e = cc

found_left : (v w : Place) (i j : ℕ) → found v i ≡ found w j → v ≡ w
found_left v w i j e = cc

found_right : (v w : Place) (i j : ℕ) → found v i ≡ found w j → i ≡ j
found_right v w i j e = cc

same_refusal : (r s : Refusal) → refused (number_of r) ≡ refused (number_of s) → r ≡ s
same_refusal r s e = number_inj r s (refused_inj (number_of r) (number_of s) e)

-- what holds of every answer: the refusal is told by its number, and what is said otherwise is no refusal
reply_inj : {T : Type 0} (said : T → Reply)
    → ((x y : T) → said x ≡ said y → x ≡ y) → ((x : T) (n : ℕ) → said x ≡ refused n → ⊥)
    → (a b : Result T Refusal) → reply_by said a ≡ reply_by said b → a ≡ b
reply_inj said inj apart (Ok x) (Ok y) e = ap Ok (inj x y e)
reply_inj said inj apart (Ok x) (Err s) e = absurd (apart x (number_of s) e)
reply_inj said inj apart (Err r) (Ok y) e = absurd (apart y (number_of r) (sym e))
reply_inj said inj apart (Err r) (Err s) e = ap Err (same_refusal r s e)

pair_same : {A B : Type 0} (x y : A × B) → x.0 ≡ y.0 → x.1 ≡ y.1 → x ≡ y
pair_same x y p q = ap (λ a. (a, x.1)) p ∙ ap (λ b. (y.0, b)) q

pub plain_inj : (a b : Result Unit Refusal) → plain_reply a ≡ plain_reply b → a ≡ b
plain_inj a b e = reply_inj (λ u. done) (λ x y e. refl) (λ x n e. cc) a b e

pub stitch_inj : (a b : Result (List ℕ) Refusal) → stitch_reply a ≡ stitch_reply b → a ≡ b
stitch_inj a b e = reply_inj stitched (λ x y e. cc) (λ x n e. cc) a b e

entry_id_inj : (x y : EntryId) → entry x.0 ≡ entry y.0 → x ≡ y
entry_id_inj x y e =
    let p : x.0 ≡ y.0 = cc in
    ap {B = EntryId} (λ (n : ℕ). record { 0 = n }) p

pub entry_inj : (a b : Result EntryId Refusal) → entry_reply a ≡ entry_reply b → a ≡ b
entry_inj a b e = reply_inj (λ x. entry x.0) entry_id_inj (λ x n e. cc) a b e

left_inj : (a b : Option (Sent × Exit)) → left_reply a ≡ left_reply b → a ≡ b
left_inj None None e = refl
left_inj None (Some j) e = cc
left_inj (Some k) None e = cc
left_inj (Some k) (Some j) e =
    let a : k.0 ≡ j.0 = sent_inj k.0 j.0 (leaves_left (sent_of k.0) (sent_of j.0) (exit_of k.1) (exit_of j.1) e) in
    let b : k.1 ≡ j.1 = exit_inj k.1 j.1 (leaves_right (sent_of k.0) (sent_of j.0) (exit_of k.1) (exit_of j.1) e) in
    ap Some (pair_same k j a b)

left_no : (a : Option (Sent × Exit)) (n : ℕ) → left_reply a ≡ refused n → ⊥
left_no None n e = cc
left_no (Some k) n e = cc

pub turn_inj : (a b : Result (Option (Sent × Exit)) Refusal) → turn_reply a ≡ turn_reply b → a ≡ b
turn_inj a b e = reply_inj left_reply left_inj left_no a b e

ready_same : (v w : Readiness) → word v.word v.count ≡ word w.word w.count → v ≡ w
ready_same v w e =
    let p : v.word ≡ w.word = cc in
    let q : v.count ≡ w.count = cc in
    ap {B = Readiness} (λ (n : ℕ). record { word = n; count = v.count }) p ∙ ap {B = Readiness} (λ (n : ℕ). record { word = w.word; count = n }) q

pub ready_inj : (a b : Result Readiness Refusal) → ready_reply a ≡ ready_reply b → a ≡ b
ready_inj a b e = reply_inj (λ w. word w.word w.count) ready_same (λ x n e. cc) a b e

place_same : (v w : ListKind × ℕ) → found (kind_of v.0) v.1 ≡ found (kind_of w.0) w.1 → v ≡ w
place_same v w e =
    let a : v.0 ≡ w.0 = kind_inj v.0 w.0 (found_left (kind_of v.0) (kind_of w.0) v.1 w.1 e) in
    let b : v.1 ≡ w.1 = found_right (kind_of v.0) (kind_of w.0) v.1 w.1 e in
    pair_same v w a b

pub where_inj : (a b : Result (ListKind × ℕ) Refusal) → where_reply a ≡ where_reply b → a ≡ b
where_inj a b e = reply_inj (λ v. found (kind_of v.0) v.1) place_same (λ x n e. cc) a b e

pub report_inj : (a b : Result ℕ Refusal) → report_reply a ≡ report_reply b → a ≡ b
report_inj a b e = reply_inj reported (λ x y e. cc) (λ x n e. cc) a b e

pub bucket_inj : (a b : Result ℕ Refusal) → bucket_reply a ≡ bucket_reply b → a ≡ b
bucket_inj a b e = reply_inj counted (λ x y e. cc) (λ x n e. cc) a b e

part_same : (x y : EntryId × ℕ) → part x.0.0 x.1 ≡ part y.0.0 y.1 → x ≡ y
part_same x y e =
    let p : x.0.0 ≡ y.0.0 = cc in
    let a : x.0 ≡ y.0 = ap {B = EntryId} (λ (n : ℕ). record { 0 = n }) p in
    let q : x.1 ≡ y.1 = cc in
    pair_same x y a q

pub show_inj : (a b : Result (EntryId × ℕ) Refusal) → show_reply a ≡ show_reply b → a ≡ b
show_inj a b e = reply_inj (λ x. part x.0.0 x.1) part_same (λ x n e. cc) a b e
