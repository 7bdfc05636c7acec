use Rattle.http_connection.specs.ConnectionTrace.{fed_more}
use Rattle.http_connection.proofs.draining.drain.Goals as goal

pub returns-in-Ok-clause-ok : goal.returns-in-Ok-clause-ok
returns-in-Ok-clause-ok g c = λ k h. c.discard_events.ensures (fed_more c.args.piece k) (c.in-Ok.ensures.ok k h)
