-- What a block that is being read stands for.
use Rattle.hpack_tables.specs.declared.block.Progress.{Progress}
use Rattle.hpack_tables.specs.Reading.{State}

abbrev pub state_of : Progress → State
state_of p = record { entries = p.table.items; max = p.table.max; fields = p.fields }
