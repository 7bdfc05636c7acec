use Rattle.grpc_calls.specs.Object.{state_in}
use Rattle.call_standing.proofs.Resetting.{reset_at_going}
use Rattle.grpc_calls.proofs.calls.call_connection_impl.CallsCallConnection.reset.Goals as goal

pub returns-in-Going-clause-ok : goal.returns-in-Going-clause-ok
returns-in-Going-clause-ok g c =
    reset_at_going g.C.HttpConnection.stands g.C.HttpConnection.output g.met.C.HttpConnection.sound c.args.self.now.conn c.reset.new.self (state_in c.args.self.now) c.args.stream
    c.reset.result c.args.self.now.fate c.in-Going.is c.reset.ensures.ok c.reset.ensures.sends
