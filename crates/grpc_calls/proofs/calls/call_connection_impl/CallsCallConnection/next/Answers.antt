use Rattle.std.proofs.Common.{inl, refl}
use Rattle.grpc_calls.specs.Object.{state_in}
use Rattle.call_standing.proofs.Told.{dead_of}
use Rattle.call_telling.proofs.Arms.{starved_arm}
use Rattle.grpc_calls.proofs.calls.call_connection_impl.CallsCallConnection.next.Goals as goal

pub returns-in-Going-clause-says : goal.returns-in-Going-clause-says
returns-in-Going-clause-says g c = λ t stands numbers. c.next_going.ensures.says t stands numbers c.in-Going.is

pub returns-in-Refused-clause-says : goal.returns-in-Refused-clause-says
returns-in-Refused-clause-says g c = λ t stands numbers. c.repeat_refusal.ensures.says t stands c.in-Refused.is

pub returns-in-Dead-clause-says : goal.returns-in-Dead-clause-says
returns-in-Dead-clause-says g c = λ t stands numbers. (
  t,
  stands,
  inl (dead_of g.C.HttpConnection.stands g.C.HttpConnection.output c.args.self.now.fate _ c.args.self.now.conn (state_in c.args.self.now) t c.in-Dead.is stands, refl),
)

pub returns-in-Starved-clause-says : goal.returns-in-Starved-clause-says
returns-in-Starved-clause-says g c = λ t stands numbers.
    starved_arm g.C.HttpConnection.stands g.C.HttpConnection.output c.args.self.now.conn (state_in c.args.self.now) (state_in c.args.self.now) t c.args.self.now.fate _ _ c.in-Starved.is stands
