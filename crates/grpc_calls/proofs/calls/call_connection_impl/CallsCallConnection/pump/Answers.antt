use Rattle.grpc_calls.specs.Object.{state_in}
use Rattle.call_standing.proofs.PumpLaw.{dead_over, nothing_sent, refused_over}
use Rattle.grpc_calls.proofs.calls.call_connection_impl.CallsCallConnection.pump.Goals as goal

pub returns-in-Going-clause-ok : goal.returns-in-Going-clause-ok
returns-in-Going-clause-ok g c = λ t h. c.pump_going.ensures.ok t h c.in-Going.is

pub returns-in-Going-clause-err : goal.returns-in-Going-clause-err
returns-in-Going-clause-err g c = c.pump_going.ensures.err c.in-Going.is

pub returns-in-Refused-clause-ok : goal.returns-in-Refused-clause-ok
returns-in-Refused-clause-ok g c = λ t h.
    let x = c.args.self.now in
    (t, h, nothing_sent t (refused_over g.C.HttpConnection.stands g.C.HttpConnection.output x.fate x.conn (state_in x) t c.in-Refused.is h))

pub returns-in-Dead-clause-ok : goal.returns-in-Dead-clause-ok
returns-in-Dead-clause-ok g c = λ t h.
    let x = c.args.self.now in
    (t, h, nothing_sent t (dead_over g.C.HttpConnection.stands g.C.HttpConnection.output x.fate x.conn (state_in x) t c.in-Dead.field-0 c.in-Dead.is h))
