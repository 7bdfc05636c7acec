use Rattle.std.proofs.Common.{Bool, subst, sym}
use Rattle.http_connection.specs.Sends.{SendsWhere}
use Rattle.grpc_calls.proofs.calls.call_connection_impl.CallsCallConnection.end.Goals as goal

pub returns-in-Ok-clause-ok : goal.returns-in-Ok-clause-ok
returns-in-Ok-clause-ok g c = λ t h numbers. c.end_at.ensures.ok t h numbers c.in-Ok.ensures.going (c.in-Ok.ensures.sends t h)

pub returns-in-Ok-clause-sends : goal.returns-in-Ok-clause-sends
returns-in-Ok-clause-sends g c = λ t h. subst (λ (b : Bool). SendsWhere b c.end_at.result) (sym (c.in-Ok.ensures.sends t h)) c.end_at.ensures.sends
