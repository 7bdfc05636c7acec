use Rattle.hpack_tables.proofs.OneReading.{one_reading}
use Rattle.hpack_tables.proofs.laws.blocks_have_one_reading.Goals as goal

pub returns : goal.returns
returns c = one_reading
