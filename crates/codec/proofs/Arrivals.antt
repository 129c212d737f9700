-- Reader, writer and arrival agree: an arrival has no fault of its own exactly if the reader takes its header, told the switch's counts, and
-- reads the port as its source, and of a packet as many bytes as it has; so a header that the writer wrote so is turned away there only for want
-- of credit, which a halt is taken for, or of a node. Assumes nothing.
use mathlib.Core.Path.{◌≡◌, refl, sym, ap, ◌∙◌, subst}
use mathlib.Core.Logic.{◌↔◌}
use mathlib.Core.Bool.{true, false, not}
use mathlib.Core.List.{List}
use Prim.Native.Nat.{ℕ, ◌≤◌, ◌<◌}
use native.Mathlib.Omega.{arith}
use lib.ListN.{length, take, length-take}
use lib.Seq.{length-take-le}
use Rattle.crc.specs.Crc.{crc8}
use Rattle.ledger.specs.Settings.{Settings, wide, in_rows, packet_room, keeps_packets}
use Rattle.ledger.specs.Header.{Form, form, Fields, header_size, least_length, fields_of, alone, whole}
use Rattle.ledger.specs.Ledger.{Ledger}
use Rattle.ledger.specs.Calls.{arrive, step}
use Rattle.ledger.proofs.Tests.{leb_is, ltb_not, eqb_is}
use Rattle.ledger.proofs.Header.{fields_front, body_front}
use Rattle.ledger.proofs.Rows.{rows}
use Rattle.ledger.proofs.Passes.{Passes, same, not_other, alone_sized, whole_sized, whole_counted, comes, comes_clear}
use Rattle.ledger.proofs.Promises.{SoundArrival, Wanting, sound_arrival}
use Rattle.codec.specs.Label.{Label, label_of, counts_in, Answer, gives}
use Rattle.codec.specs.Reader.{reads}
use Rattle.codec.specs.Writer.{writes}
use Rattle.codec.proofs.Undo.{Takes, reads_means, means_reads, reader_undoes}

-- reader and writer, told the counts of a switch
abbrev pub reads_in : Settings → List ℕ → Answer Label
reads_in S h = reads S.edition S.ports S.queues h

abbrev pub writes_in : Settings → Label → Answer (List ℕ)
writes_in S v = writes S.edition S.ports S.queues v

-- the reader takes the header, and reads that it comes from port p of the switch
pub record ReadFrom (S : Settings) (p : ℕ) (h : List ℕ) : Type 0 where
  pub port : p < S.ports
  pub label : Label
  pub read : reads_in S h ≡ gives label
  pub own : label.source ≡ p

-- the same of a packet's first bytes, with a packet memory of its size, and as many bytes as its header says
pub record PacketFrom (S : Settings) (p room : ℕ) (b : List ℕ) : Type 0 where
  pub lent : room ≡ packet_room S
  pub header : ReadFrom S p (take (header_size (form S)) b)
  pub counted : length b ≡ header.label.len

-- a header that arrives alone asks what the reader asks, and the source beside
takes_passes : (S : Settings) (p : ℕ) (h : List ℕ) → Takes (form S) S.queues h → (fields_of (form S) h).source ≡ p → Passes (form S) S.queues p (alone h)
takes_passes S p h t own = record {
  sized = ap not (eqb_is (length h) (header_size (form S)) t.sized);
  summed = t.summed;
  unreserved = t.unreserved;
  own = own;
  long = t.long;
  counted = refl;
  queue = t.queue;
}

passes_takes : (S : Settings) (p : ℕ) (h : List ℕ) → Passes (form S) S.queues p (alone h) → Takes (form S) S.queues h
passes_takes S p h f = record {
  sized = alone_sized (form S) S.queues p h f;
  summed = f.summed;
  unreserved = f.unreserved;
  long = f.long;
  queue = f.queue;
}

-- and so does a packet of its first bytes, its count beside
fits_front : (F : Form) (b : List ℕ) → length (take (header_size F) b) ≡ header_size F → header_size F ≤ length b
fits_front F b e = omega (arith, length-take (header_size F) b)

takes_packet : (F : Form) (n p room : ℕ) (b : List ℕ) → Takes F n (take (header_size F) b) → (fields_of F b).source ≡ p → length b ≡ (fields_of F b).len
    → Passes F n p (whole room b)
takes_packet F n p room b t own count =
    let same = fields_front F b in
    record {
      sized = ltb_not (length b) (header_size F) (fits_front F b t.sized);
      summed = sym (ap (λ (f : Fields). f.check) same) ∙ t.summed ∙ ap crc8 (body_front F b);
      unreserved = sym (ap (λ (f : Fields). f.reserved) same) ∙ t.unreserved;
      own = own;
      long = subst (λ (f : Fields). least_length F ≤ f.len) same t.long;
      counted = ap not (eqb_is (length b) (fields_of F b).len count);
      queue = subst (λ (f : Fields). f.queue < n) same t.queue;
    }

packet_takes : (F : Form) (n p room : ℕ) (b : List ℕ) → Passes F n p (whole room b) → Takes F n (take (header_size F) b)
packet_takes F n p room b f =
    let same = sym (fields_front F b) in
    record {
      sized = length-take-le (header_size F) b (whole_sized F n p room b f);
      summed = sym (ap (λ (g : Fields). g.check) same) ∙ f.summed ∙ sym (ap crc8 (body_front F b));
      unreserved = sym (ap (λ (g : Fields). g.reserved) same) ∙ f.unreserved;
      long = subst (λ (g : Fields). least_length F ≤ g.len) same f.long;
      queue = subst (λ (g : Fields). g.queue < n) same f.queue;
    }

module _ (S : Settings) (ok : in_rows S ≡ true) where
  -- the reader and the writer never refuse the counts of a switch
  pub switch_counts : counts_in S.edition S.ports S.queues ≡ true
  unfolding counts_in
  switch_counts = let r = rows S ok in rw (r.are_ports, r.are_queues, leb_is S.edition wide r.is_edition)

  -- it takes headers alone
  module _ (headers : keeps_packets S ≡ false) where
    pub sound_read : (p : ℕ) (h : List ℕ) → SoundArrival S p (alone h) ↔ ReadFrom S p h
    sound_read p h = (
      λ c. let k = comes S p (alone h) c in
          record {
            port = k.port;
            label = label_of (fields_of (form S) h);
            read = means_reads S.edition S.ports S.queues h switch_counts (passes_takes S p h k.header);
            own = k.header.own;
          },
      λ r. let k = reads_means S.edition S.ports S.queues h r.label r.read in
          comes_clear S p (alone h) (record {
            kind = headers;
            memory = refl;
            port = r.port;
            header = takes_passes S p h k.2 (sym (ap (λ (v : Label). v.source) k.0) ∙ r.own);
          }),
    )

  -- it keeps packets: the reader takes a packet's first bytes, and it is as long as they say
  module _ (packets : keeps_packets S ≡ true) where
    pub sound_packet : (p room : ℕ) (b : List ℕ) → SoundArrival S p (whole room b) ↔ PacketFrom S p room b
    sound_packet p room b =
        let F = form S in
        let front = fields_front F b in (
          λ c. let k = comes S p (whole room b) c in
              let t = packet_takes F S.queues p room b k.header in
              record {
                lent = same room (packet_room S) k.memory;
                header = record {
                  port = k.port;
                  label = label_of (fields_of F (take (header_size F) b));
                  read = means_reads S.edition S.ports S.queues (take (header_size F) b) switch_counts t;
                  own = ap (λ (f : Fields). f.source) front ∙ k.header.own;
                };
                counted = whole_counted F S.queues p room b k.header ∙ sym (ap (λ (f : Fields). f.len) front);
              },
          λ r. let h = r.header in
              let k = reads_means S.edition S.ports S.queues (take (header_size F) b) h.label h.read in
              comes_clear S p (whole room b) (record {
                kind = ap not packets;
                memory = not_other room (packet_room S) r.lent;
                port = h.port;
                header = takes_packet F S.queues p room b k.2
                    (sym (ap (λ (v : Label). v.source) k.0 ∙ ap (λ (f : Fields). f.source) front) ∙ h.own)
                    (r.counted ∙ ap (λ (v : Label). v.len) k.0 ∙ ap (λ (f : Fields). f.len) front);
              }),
        )

  -- what is written for a port of the switch arrives there without a fault of its own
  module _ (headers : keeps_packets S ≡ false) (v : Label) (b : List ℕ) (wrote : writes_in S v ≡ gives b) (port : v.source < S.ports) where
    pub written_sound : SoundArrival S v.source (alone b)
    written_sound = (sound_read headers v.source b).1 (record {
      port = port;
      label = v;
      read = reader_undoes S.edition S.ports S.queues v b wrote;
      own = refl;
    })

    pub written_arrives : (L : Ledger) → Wanting S L v.source (alone b) (step S L (arrive v.source (alone b)))
    written_arrives L = sound_arrival S L v.source (alone b) written_sound
