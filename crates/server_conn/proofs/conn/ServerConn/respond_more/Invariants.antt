use Rattle.std.proofs.Common.{◌≡◌, ℕ, List}
use Rattle.rig_io.specs.Link.{Piece}
use Rattle.grpc_stream.specs.CallTrace.{CallTrace}
use Rattle.table_model.specs.Event.{Event}
use Rattle.call_orders.specs.Calls.{Action}
use Rattle.server_account.specs.Agreeing.{IsSettled}
use Rattle.server_conn.specs.Standing.{Works}
use Rattle.server_conn.specs.Steps.{IsPumped, RespondsSome}
use Rattle.server_conn.proofs.conn.ServerConn.respond_more.Given as goal

-- the responses so far
abbrev pub invariant-responses : goal.invariant-responses
invariant-responses g l =
    ((t : CallTrace) (actions : List Action) (pieces : List Piece) (own : List Event) (rest : List ℕ) →
    Works g.K.CallConnection.stands g.K.CallConnection.output l.setting l.fn.self.calls l.fn.self.engine l.fn.self.refused t actions pieces own →
    IsSettled t rest → IsPumped t l.fn.self.waiting →
    RespondsSome g.K.CallConnection.stands g.K.CallConnection.output l.setting l.self.calls l.fn.self.engine l.self.engine l.self.refused l.self.waiting t
    pieces own rest)
    × (l.self ≡ record l.fn.self { calls = l.self.calls; engine = l.self.engine; refused = l.self.refused; waiting = l.self.waiting })
