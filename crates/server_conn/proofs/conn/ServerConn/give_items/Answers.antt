use Rattle.call_orders.specs.Owed.{end_items}
use Rattle.server_conn.proofs.conn.ServerConn.give_items.Goals as goal

pub returns-in-Ok-true-clause-goes : goal.returns-in-Ok-true-clause-goes
returns-in-Ok-true-clause-goes g c = λ s t actions pieces own numbers h.
    c.give_end.ensures.goes s t actions pieces own numbers
    (rw c.in-Ok-true.field-0-test at (c.in-Ok-true.ensures.goes s t actions pieces own (end_items c.args.end) h).0)

pub returns-in-Ok-false-clause-goes : goal.returns-in-Ok-false-clause-goes
returns-in-Ok-false-clause-goes g c = λ s t actions pieces own numbers h.
    (rw c.in-Ok-false.field-0-test at (c.in-Ok-false.ensures.goes s t actions pieces own (end_items c.args.end) h).0, tt)

pub returns-in-Err-clause-goes : goal.returns-in-Err-clause-goes
returns-in-Err-clause-goes g c = λ s t actions pieces own numbers h.
    (tt, (c.in-Err.ensures.goes s t actions pieces own (end_items c.args.end) h).1)
