-- Every card holds: one claim over the table, by computing the finding without the map's entries, in three parts since one goes past what
-- the prover computes at once. Assumes nothing.
use mathlib.Core.Path.{refl}
use mathlib.Core.List.{◌++◌}
use lib.Count.{ones, count_leading_zeros}
use Rattle.numbers.specs.Bytes.{number, store}
use Rattle.ledger.specs.Settings.{is_beat, ports_in, queues_in, packets_in, in_rows, first_out, row, size}
use Rattle.ledger.specs.Header.{width_of, form_of, front_bits, front_bytes, body_size, header_size, least_length, price}
use Rattle.ledger.specs.Ledger.{is_node, place#, cell, credit_at, set_credit}
use Rattle.ledger.specs.Sound.{All}
use Rattle.ledger.proofs.Lists.{All-append}
use Rattle.layout.specs.Tables.{start_of, get, put}
use Rattle.layout.specs.Picture.{settings_in, slot, chain, nodes_of, packet_at}
use Rattle.memory.specs.Image.{fill, all_linked, written, image}
use Rattle.ranges.specs.First.{first_from}
use Rattle.ranges.specs.Opening.{out_at}
use Rattle.ranges.specs.Ranges.{prefetch_at, fits_at}
use Rattle.once.specs.Once.{is_new, mark, all_new, mark_all, ends, right, unmarked, scan, once_found}
use Rattle.fits.specs.Fits.{range_test, fields_test, proper_test, rule_test, first_bad, fits_from, fits_found}
use Rattle.paid.specs.Paid.{add_price, add_node, add_all, add_list, add_from, sums_of, settled_at, due_found}
use Rattle.ledger.specs.Halt.{halts as halting, is_mark}
use Rattle.halts.specs.Marks.{marks_found}
use Rattle.sound.specs.Sound.{nodes_broken}
use Rattle.finding_cards.specs.Cards.{Holds, tables, packets, marks_buckets, cards}
use Rattle.finding_cards.proofs.Skips.{Quick, quick_hold}

tables_quick : All Quick tables
unfolding ones number store is_beat ports_in queues_in packets_in in_rows first_out row size is_node place# start_of get put settings_in slot chain nodes_of
    fill all_linked written image first_from out_at prefetch_at fits_at is_new mark all_new mark_all ends right unmarked scan once_found
tables_quick = ((refl, refl, refl), ((refl, refl, refl), ((refl, refl, refl), ((refl, refl, refl), ((refl, refl, refl), ((refl, refl, refl), tt))))))

packets_quick : All Quick packets
unfolding ones count_leading_zeros number store is_beat ports_in queues_in packets_in in_rows row size width_of form_of front_bits front_bytes body_size
    header_size least_length
    price is_node place# cell credit_at set_credit start_of get put settings_in slot chain nodes_of packet_at fill all_linked written image first_from
    prefetch_at fits_at is_new mark all_new mark_all ends right unmarked scan once_found range_test fields_test proper_test rule_test first_bad fits_from
    fits_found add_price add_node add_all add_list add_from sums_of settled_at due_found nodes_broken halting is_mark marks_found
packets_quick = ((refl, refl, refl), ((refl, refl, refl), ((refl, refl, refl), ((refl, refl, refl), ((refl, refl, refl), tt)))))

marks_buckets_quick : All Quick marks_buckets
unfolding ones count_leading_zeros number store is_beat ports_in queues_in packets_in in_rows row size width_of form_of front_bits front_bytes body_size
    header_size least_length
    price is_node place# cell credit_at set_credit start_of get put settings_in slot chain nodes_of packet_at fill all_linked written image first_from
    prefetch_at fits_at is_new mark all_new mark_all ends right unmarked scan once_found range_test fields_test proper_test rule_test first_bad fits_from
    fits_found add_price add_node add_all add_list add_from sums_of settled_at due_found nodes_broken halting is_mark marks_found
marks_buckets_quick = ((refl, refl, refl), ((refl, refl, refl), ((refl, refl, refl), tt)))

pub finding_cards_hold : All Holds cards
finding_cards_hold =
    All-append Holds tables (packets ++ marks_buckets) (quick_hold tables tables_quick)
    (All-append Holds packets marks_buckets (quick_hold packets packets_quick) (quick_hold marks_buckets marks_buckets_quick))
