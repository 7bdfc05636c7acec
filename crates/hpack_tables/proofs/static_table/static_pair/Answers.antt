use Rattle.hpack_tables.specs.StaticTable.{static_table}
use Rattle.hpack_tables.proofs.static_table.static_pair.Goals as goal

pub returns : goal.returns
unfolding static_table
returns c = c.pair_at.ensures
