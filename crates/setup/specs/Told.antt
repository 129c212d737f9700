-- What setup is told, as the paper's call. Assumes nothing.
use Rattle.ledger.specs.Desk as desk
use Rattle.settings.specs.declared.Settings.{Settings}
use Rattle.settings.specs.Told.{told_settings}

abbrev pub call_of : Settings → desk.Call
call_of t = desk.setup (told_settings t)
