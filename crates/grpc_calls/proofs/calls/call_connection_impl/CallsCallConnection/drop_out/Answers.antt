use Rattle.std.proofs.Common.{sym, subst, ◌∙◌, ap}
use Rattle.call_standing.specs.declared.fate.Fate.{Fate}
use Rattle.call_standing.specs.Standing.{StandsFor, shown_by}
use Rattle.grpc_calls.specs.Object.{output_in, state_in}
use Rattle.http_connection.specs.ConnectionTrace.{dropped_more}
use Rattle.grpc_stream.specs.CallTrace.{changed}
use Rattle.std.specs.Prelude.{take}
use Rattle.call_standing.proofs.Fed.{dropped_output, dropped_stands}
use Rattle.grpc_calls.proofs.calls.call_connection_impl.CallsCallConnection.drop_out.Goals as goal

pub returns-clause-dropped : goal.returns-clause-dropped
returns-clause-dropped g c = λ t h.
    subst (λ (f : Fate). StandsFor g.C.HttpConnection.stands g.C.HttpConnection.output f c.drop_out.new.self (state_in c.args.self.now)
    (changed (dropped_more (take c.args.n (output_in g.C.HttpConnection.output c.args.self.now))) t)) (sym c.shifted-self.ensures)
    (dropped_stands g.C.HttpConnection.stands g.C.HttpConnection.output c.args.n c.args.self.now.conn c.drop_out.new.self c.drop_out.ensures.dropped c.drop_out.ensures.output
    c.args.self.now.fate (state_in c.args.self.now) t c.requires h)

pub returns-clause-output : goal.returns-clause-output
returns-clause-output g c =
    ap (λ (f : Fate). shown_by f (g.C.HttpConnection.output c.drop_out.new.self)) c.shifted-self.ensures
    ∙ dropped_output g.C.HttpConnection.stands g.C.HttpConnection.output c.args.n c.args.self.now.conn c.drop_out.new.self c.drop_out.ensures.dropped c.drop_out.ensures.output
    c.args.self.now.fate c.requires
