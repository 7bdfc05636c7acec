use Rattle.rib_core.proofs.laws.core_tables_are_closed.Goals as goal

pub returns-clause-table : goal.returns-clause-table
returns-clause-table c core recorded stands = rw stands.keeps.table (c.rib_is_closed.ensures core.config _ (c.events_are_lawful.ensures core.config recorded stands.legal))

pub returns-clause-order : goal.returns-clause-order
returns-clause-order c core recorded stands = rw stands.keeps.table (c.rib_is_in_order.ensures core.config _ (c.events_are_lawful.ensures core.config recorded stands.legal))

pub returns-clause-fib : goal.returns-clause-fib
returns-clause-fib c core recorded stands = rw stands.keeps.board.fib (c.fib_is_closed.ensures core.config _ (c.events_are_lawful.ensures core.config recorded stands.legal))

pub returns-clause-devices : goal.returns-clause-devices
returns-clause-devices c core recorded done order stands permuted =
    rw stands.keeps.board.fib (c.in_flight_is_closed.ensures core.config _ (c.events_are_lawful.ensures core.config recorded stands.legal) done order permuted)
