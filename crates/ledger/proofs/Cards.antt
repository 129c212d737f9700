-- Every card of the table holds: one claim over the table, by computation. Assumes nothing.
use mathlib.Core.Path.{refl}
use Rattle.numbers.specs.Bytes.{number}
use Rattle.numbers.specs.Fields.{bits}
use Rattle.crc.specs.Crc.{crc_bit, crc_bits, crc_byte, crc_from, crc8}
use Rattle.ledger.specs.Settings.{is_beat, ports_in, queues_in, packets_in, in_rows, row, size, packet_room}
use Rattle.ledger.specs.Header.{width_of, form_of, front_bits, front_bytes, spare, body_size, header_size, least_length, fields_of, price}
use Rattle.ledger.specs.Ledger.{is_node, recorded, place#, place_of, cell, credit_at, set_credit, pop, push, move}
use Rattle.ledger.specs.Ledger.{start, change}
use Rattle.ledger.specs.Ready.{is_ready, word_of, ready_word, masked_above, pick}
use Rattle.ledger.specs.Halt.{halts, marks, held_up}
use Rattle.ledger.specs.Buckets.{wait_of, bucket_of, one_more, bucket#}
use Rattle.ledger.specs.Calls.{marked_for, on_refusal, arrived, stitch_record, served, ticked}
use Rattle.ledger.specs.Sound.{All}
use Rattle.ledger.specs.Rounds.{round_acts, answer_bytes, bytes_of, answers_in}
use Rattle.ledger.specs.Cards.{Holds, cards}

pub cards_hold : All Holds cards
unfolding number bits crc_bit crc_bits crc_byte crc_from crc8 is_beat ports_in queues_in packets_in in_rows row size packet_room width_of form_of front_bits
    front_bytes spare body_size header_size least_length fields_of price is_node recorded place# place_of cell credit_at
    set_credit pop push move change start is_ready word_of ready_word masked_above pick arrived stitch_record served round_acts answer_bytes
    bytes_of answers_in lib.Count.ones lib.Count.count_leading_zeros lib.Count.count_trailing_zeros on_refusal marked_for
    halts marks held_up wait_of bucket_of one_more bucket# ticked
cards_hold = (
  refl,
  (
    refl,
    (
      refl,
      (
        refl,
        (
          refl,
          (
            refl,
            (
              refl,
              (
                refl,
                (
                  refl,
                  (
                    refl,
                    (
                      refl,
                      (
                        refl,
                        (
                          refl,
                          (
                            refl,
                            (
                              refl,
                              (
                                refl,
                                (
                                  refl,
                                  (
                                    refl,
                                    (
                                      refl,
                                      (
                                        refl,
                                        (
                                          refl,
                                          (
                                            refl,
                                            (
                                              refl,
                                              (
                                                refl,
                                                (refl, (refl, (refl, (refl, (refl, (refl, (refl, (refl, (refl, (refl, (refl, (refl, tt)))))))))))),
                                              ),
                                            ),
                                          ),
                                        ),
                                      ),
                                    ),
                                  ),
                                ),
                              ),
                            ),
                          ),
                        ),
                      ),
                    ),
                  ),
                ),
              ),
            ),
          ),
        ),
      ),
    ),
  ),
)
