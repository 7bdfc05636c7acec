use Rattle.grpc_calls.specs.Object.{state_in}
use Rattle.call_standing.proofs.Told.{ended_next, going_of, stands_of}
use Rattle.grpc_calls.proofs.calls.Calls.step.Goals as goal

pub returns-in-End-clause-says : goal.returns-in-End-clause-says
returns-in-End-clause-says g c = λ t stands numbers going.
    let was = going_of g.C.HttpConnection.stands g.C.HttpConnection.output c.args.self.now.fate c.args.self.now.conn (state_in c.args.self.now) t going stands in
    let next = ended_next g.C.HttpConnection.stands g.C.HttpConnection.output g.met.C.HttpConnection.sound c.args.self.now.conn (state_in c.args.self.now) t c.in-End.stream c.in-End.is was in (
      next.0,
      stands_of g.C.HttpConnection.stands g.C.HttpConnection.output c.args.self.now.fate c.args.self.now.conn _ next.0 going next.1,
      next.2,
    )

pub returns-in-Nothing-clause-says : goal.returns-in-Nothing-clause-says
returns-in-Nothing-clause-says g c = λ t stands numbers going. c.hear.ensures.says t stands numbers going c.in-Nothing.is

pub returns-in-Cut-clause-says : goal.returns-in-Cut-clause-says
returns-in-Cut-clause-says g c = λ t stands numbers going. c.cut_next.ensures.says t stands numbers going c.in-Cut.is
