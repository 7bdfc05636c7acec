use Rattle.grpc_calls.specs.Object.{state_in}
use Rattle.call_standing.proofs.Credits.{credit_at_going}
use Rattle.grpc_calls.proofs.calls.call_connection_impl.CallsCallConnection.hold_credit.Goals as goal

pub returns-in-Going-clause-ok : goal.returns-in-Going-clause-ok
returns-in-Going-clause-ok g c =
    credit_at_going g.C.HttpConnection.stands g.C.HttpConnection.output g.met.C.HttpConnection.sound c.args.self.now.conn c.hold_credit.new.self (state_in c.args.self.now) c.args.hold
    c.hold_credit.result c.args.self.now.fate c.in-Going.is c.hold_credit.ensures.ok
