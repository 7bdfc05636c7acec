-- What it costs a board to remove an entry that may be there.
use Rattle.std.specs.Prelude.{ℕ, Option, Some, None}
use Rattle.aft_entries.specs.declared.entry.Entry.{Entry}
use Rattle.fib_board.specs.Removals.{removal_cost}

abbrev pub removal_cost_in : Option Entry → ℕ
removal_cost_in None = 0
removal_cost_in (Some entry) = removal_cost entry
