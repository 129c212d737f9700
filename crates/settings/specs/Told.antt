-- The code's settings as the paper's. Assumes nothing.
use Rattle.std.specs.Prelude.{cond, Option, None, Some, ℕ, eqb}
use Rattle.ledger.specs.Settings as ledger
use Rattle.settings.specs.declared.Settings.{Settings}

abbrev pub told_settings : Settings → ledger.Settings
told_settings t = record {
  ports = t.ports;
  queues = t.queues;
  nodes = t.nodes;
  beat = t.beat;
  slots = t.slots;
  credit = t.credit;
  edition = t.edition;
  packets = t.packets;
}

-- the first setting that is not in its row, where one is not
abbrev pub one_out : ledger.Settings → Option ℕ
one_out S = cond (eqb (ledger.first_out S) ledger.setting_count) None (Some (ledger.first_out S))
