use Rattle.hpack_tables.proofs.FieldsRead.{written_is_read}
use Rattle.hpack_tables.proofs.laws.written_is_read.Goals as goal

pub returns : goal.returns
returns c = written_is_read
