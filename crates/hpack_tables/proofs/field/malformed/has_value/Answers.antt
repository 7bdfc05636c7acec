use Rattle.hpack_tables.proofs.FieldTests.{value_is}
use Rattle.hpack_tables.proofs.field.malformed.has_value.Goals as goal

pub returns : goal.returns
returns c = value_is _ _ c.has_header_value.ensures
