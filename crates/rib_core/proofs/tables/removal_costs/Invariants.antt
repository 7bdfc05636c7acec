use Rattle.std.proofs.Common.{◌≡◌, take}
use Rattle.fib_board.specs.Removals.{removal_costs}
use Rattle.rib_core.proofs.tables.removal_costs.Given as goal

-- those so far
abbrev pub invariant-entries : goal.invariant-entries
invariant-entries l = l.total ≡ removal_costs (take l.n l.fn.table.entries)
