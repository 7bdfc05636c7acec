use Rattle.std.proofs.Common.{Bool, subst}
use Rattle.grpc_calls.specs.Object.{state_in}
use Rattle.h2_exchange.specs.Events.{Head}
use Rattle.call_telling.specs.Giving.{HasGiven}
use Rattle.call_telling.proofs.Arms.{response_arm}
use Rattle.grpc_calls.proofs.calls.Calls.on_head.Goals as goal

pub returns-in-Server-clause-says : goal.returns-in-Server-clause-says
returns-in-Server-clause-says g c = λ t h numbers going quiet. c.on_request.ensures.says t h numbers going quiet

pub returns-then-last-clause-says : goal.returns-then-last-clause-says
returns-then-last-clause-says g c = λ t h numbers going quiet.
    c.on_trailers.ensures.says t (subst (λ (b : Bool). HasGiven g.C.HttpConnection.stands c.args.self.now.conn (state_in c.args.self.now) t (Head c.args.stream c.args.fields.now b)) c.if-last.true h) numbers going quiet

pub returns-else-last-clause-says : goal.returns-else-last-clause-says
returns-else-last-clause-says g c = λ t h numbers going quiet.
    let x = c.args.self.now in
    response_arm g.C.HttpConnection.stands g.C.HttpConnection.output g.met.C.HttpConnection.sound x.conn x.fate going (state_in x) quiet t c.args.fields.now c.args.stream c.in-Client.is
    (subst (λ (b : Bool). HasGiven g.C.HttpConnection.stands x.conn (state_in x) t (Head c.args.stream c.args.fields.now b)) c.if-last.false h)
