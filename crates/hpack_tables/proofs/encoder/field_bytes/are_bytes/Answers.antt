use Rattle.std.proofs.Common.{subst}
use Rattle.hpack_tables.specs.Laws.{AreBytes}
use Rattle.hpack_tables.proofs.encoder.field_bytes.are_bytes.Goals as goal

pub returns : goal.returns
returns c = subst AreBytes c.as_slice.ensures c.all_have_bytes.ensures
