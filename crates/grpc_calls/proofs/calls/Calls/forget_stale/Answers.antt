use Rattle.std.proofs.Common.{◌∙◌, List, sym, ap, subst}
use Rattle.kept_calls.specs.CallState.{CallState, states}
use Rattle.grpc_calls.specs.Object.{state_in}
use Rattle.h2_exchange.specs.Streams.{is_live}
use Rattle.call_standing.specs.Standing.{IsGoing}
use Rattle.call_standing.proofs.Told.{going_of, stands_of}
use Rattle.call_telling.proofs.Arms.{forgotten_going, state_at, states_left}
use Rattle.grpc_calls.proofs.calls.Calls.forget_stale.Goals as goal

pub returns : goal.returns
returns g c = λ t h going quiet given.
    let x = c.args.self.now in
    let was = going_of g.C.HttpConnection.stands g.C.HttpConnection.output x.fate x.conn (state_in x) t going h in
    let left = ap states (c.forget_over.ensures.live t.connection_trace was.connected was.alive) ∙ states_left (is_live t.connection_trace.role t.connection_trace.frames) x.calls.items in
    stands_of g.C.HttpConnection.stands g.C.HttpConnection.output x.fate x.conn _ t going
    (subst (λ (cs : List CallState). IsGoing g.C.HttpConnection.stands g.C.HttpConnection.output x.conn (state_at x.role x.pending cs) t) (sym left)
    (forgotten_going g.C.HttpConnection.stands g.C.HttpConnection.output g.met.C.HttpConnection.sound x.conn x.conn (state_in x) quiet t was x.conn was.connected given))
