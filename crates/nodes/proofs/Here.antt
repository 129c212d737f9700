-- What is asked of a node where it stands, by the column of its list. Assumes nothing.
use mathlib.Core.Path.{◌≡◌, sym, ap, ap₂, ◌∙◌}
use mathlib.Core.Logic.{◌≢◌}
use mathlib.Core.Bool.{Bool, true, false, ◌&&◌, ◌||◌}
use mathlib.Core.List.{List}
use Prim.Native.Nat.{ℕ, ◌^◌, ◌<◌}
use lib.Dec.{eqb, ltb, leb}
use Rattle.ledger.specs.Settings.{Settings}
use Rattle.ledger.specs.Header.{form, least_length}
use Rattle.ledger.specs.Ledger.{owner}
use Rattle.ledger.proofs.Rows.{and_true}
use Rattle.ledger.proofs.Tests.{ltb_yes, eqb_not, and_left, and_right}
use Rattle.layout.specs.declared.Table.TheVariants.{Queue}
use Rattle.layout.specs.Tables.{get}
use Rattle.layout.specs.Picture.{slot, packet_at}
use Rattle.fits.specs.declared.NodeRule.{NodeRule}
use Rattle.fits.specs.declared.NodeRule.TheVariants.{OwnPort, OwnQueue, Record}
use Rattle.fits.specs.declared.Note.{Note}
use Rattle.fits.specs.Fits.{queue_at, range_test, fields_test, proper_test, rule_test}
use Rattle.fits.specs.Walk.{NoteOf}
use Rattle.fits.proofs.Walk.{note_tests}
use Rattle.nodes.specs.Nodes.{asks, fits_here, packet_fits}

module _ (S : Settings) (m : List ℕ) (p c x : ℕ) where
  -- what (d), (e) and (f) ask together is what each asks
  pub fits_each : fits_here S m p c x ≡ true → (rule : NodeRule) → asks rule S m p c x ≡ true
  unfolding fits_here
  fits_each e OwnPort = and_left (asks OwnPort S m p c x) _ e
  fits_each e OwnQueue = and_left (asks OwnQueue S m p c x) _ (and_right (asks OwnPort S m p c x) _ e)
  fits_each e Record = and_right (asks OwnQueue S m p c x) _ (and_right (asks OwnPort S m p c x) _ e)

  pub each_fits : ((rule : NodeRule) → asks rule S m p c x ≡ true) → fits_here S m p c x ≡ true
  unfolding fits_here
  each_fits h = rw (h OwnPort, h OwnQueue, h Record)

  -- ---- by the column

  pub other_port : (leb 2 c || eqb (owner x) p) ≡ false → false ≡ fits_here S m p c x
  unfolding fits_here rule_test packet_at
  other_port e = rw e

  pub free_fits : c ≡ 0 → (leb 2 c || eqb (owner x) p) ≡ fits_here S m p c x
  unfolding fits_here rule_test packet_at
  free_fits z = rw (z, and_true (eqb (owner x) p))

  pub packet_fits_lem : c ≢ 0 → (leb 2 c || eqb (owner x) p) ≡ true → packet_fits S m c x ≡ fits_here S m p c x
  unfolding fits_here packet_fits rule_test packet_at
  packet_fits_lem n e = rw (e, eqb_not c 0 n)

module _ (S : Settings) (m : List ℕ) (c x : ℕ) where
  -- by what was answered of its queue, and of what was read of its record
  pub note_fits : {n : Note} → NoteOf S m (slot S x) n → (a b : Bool) → (ltb c 2 || eqb n.queue (queue_at S c)) ≡ a
      → fields_test S n.len n.queue n.dest n.poisoned n.price ≡ b → (a && b) ≡ packet_fits S m c x
  unfolding packet_fits
  note_fits w a b f g = ap₂ ◌&&◌ (sym f ∙ ap (λ (q : ℕ). ltb c 2 || eqb q (queue_at S c)) w.queue_is) (sym g ∙ note_tests x w)

  -- by its queue alone
  pub queue_not : (ltb c 2 || eqb (get S m Queue (slot S x)) (queue_at S c)) ≡ false → false ≡ packet_fits S m c x
  unfolding packet_fits
  queue_not e = rw e

  -- a packet that fits has its queue in range
  pub fits_queue : packet_fits S m c x ≡ true → get S m Queue (slot S x) < S.queues
  unfolding packet_fits proper_test fields_test range_test packet_at
  fits_queue e =
      let k = packet_at S m x in
      let fields = and_right (ltb c 2 || eqb (get S m Queue (slot S x)) (queue_at S c)) _ e in
      let len = and_right (leb (least_length (form S)) k.len) _ (and_left (range_test S k.len k.queue k.dest k.poisoned) _ fields) in
      let queue = and_right (ltb k.len (2 ^ 13)) _ len in
      ltb_yes k.queue S.queues (and_left (ltb k.queue S.queues) _ queue)
