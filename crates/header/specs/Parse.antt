-- What reading bytes as a header gives, and what the code's answer means. Assumes nothing.
use Rattle.std.specs.Prelude.{cond, Option, None, Some}
use Rattle.ledger.specs.Header.{Form, Fields, fields_of, Load, bytes_in, missized}
use Rattle.header.specs.declared.HeaderFields.{HeaderFields}

pub data Read : Type 0 where
  fields : Fields → Read
  wrong_size : Read

-- any bytes that can arrive have fields
unfoldable pub parsed : Form → Load → Read
parsed F h = cond (missized F h) wrong_size (fields (fields_of F (bytes_in h)))

-- the code's fields are the definition's, each under its own name
abbrev pub header_of : HeaderFields → Fields
header_of f = record {
  dest = f.dest;
  source = f.source;
  queue = f.queue;
  len = f.len;
  poisoned = f.poisoned;
  reserved = f.reserved;
  stamp = f.stamp;
  offered = f.offered;
  transaction = f.transaction;
  check = f.check;
}

abbrev pub parsed_of : Option HeaderFields → Read
parsed_of (Some f) = fields (header_of f)
parsed_of None = wrong_size
