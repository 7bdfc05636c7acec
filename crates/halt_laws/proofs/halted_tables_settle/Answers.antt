use Rattle.halt_laws.proofs.Settling.{none_undone, settled}
use Rattle.halt_laws.proofs.halted_tables_settle.Goals as goal

pub returns-clause-settled : goal.returns-clause-settled
returns-clause-settled c config = settled config

pub returns-clause-same : goal.returns-clause-same
returns-clause-same c config past lawful some quiet seen sound =
    (c.fib_is_rib_without_faults.ensures config past lawful sound).1 (none_undone config past lawful some quiet seen)
