use Rattle.hpack_tables.proofs.FieldTests.{name_is}
use Rattle.hpack_tables.proofs.field.malformed.has_name.Goals as goal

pub returns : goal.returns
returns c = name_is _ _ c.has_header_name.ensures
