use Rattle.grpc_calls.specs.Object.{state_in}
use Rattle.call_standing.proofs.Fed.{fed_stands, kept_stands}
use Rattle.grpc_calls.proofs.calls.call_connection_impl.CallsCallConnection.feed.Goals as goal

pub returns-in-Ok-clause-ok : goal.returns-in-Ok-clause-ok
returns-in-Ok-clause-ok g c = fed_stands g.C.HttpConnection.stands g.C.HttpConnection.output g.met.C.HttpConnection.sound c.args.piece c.args.self.now.conn c.feed.new.self c.in-Ok.ensures.ok c.args.self.now.fate (state_in c.args.self.now)

pub returns-in-Err-clause-err : goal.returns-in-Err-clause-err
returns-in-Err-clause-err g c = kept_stands g.C.HttpConnection.stands g.C.HttpConnection.output g.met.C.HttpConnection.sound c.args.self.now.conn c.feed.new.self c.in-Err.ensures.err c.args.self.now.fate (state_in c.args.self.now)
