-- Every card of the table holds: one claim over the table, by computation. Assumes nothing.
use mathlib.Core.Path.{refl}
use lib.Count.{count_leading_zeros}
use Rattle.numbers.specs.Bytes.{number, digits}
use Rattle.numbers.specs.Fields.{bits}
use Rattle.crc.specs.Crc.{crc_bit, crc_bits, crc_byte, crc_from, crc8}
use Rattle.ledger.specs.Settings.{ports_in, queues_in}
use Rattle.ledger.specs.Header.{width_of, form_of, front_bits, front_bytes, spare, body_size, header_size, least_length, fields_of}
use Rattle.ledger.specs.Sound.{All}
use Rattle.codec.specs.Label.{counts_in}
use Rattle.codec.specs.Writer.{holds, body_for, header_for}
use Rattle.codec.specs.Cards.{Holds, cards}

pub cards_hold : All Holds cards
unfolding number digits bits crc_bit crc_bits crc_byte crc_from crc8 ports_in queues_in count_leading_zeros width_of form_of front_bits front_bytes spare
    body_size
    header_size least_length fields_of counts_in holds body_for header_for
cards_hold = (
  (refl, refl),
  (
    (refl, refl),
    (
      (refl, refl),
      ((refl, refl), ((refl, refl), (refl, (refl, (refl, (refl, (refl, (refl, (refl, (refl, (refl, (refl, (refl, tt))))))))))))),
    ),
  ),
)
