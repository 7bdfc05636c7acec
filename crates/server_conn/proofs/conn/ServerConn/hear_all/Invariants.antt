use Rattle.std.proofs.Common.{◌≡◌, List}
use Rattle.rig_io.specs.Link.{Piece}
use Rattle.table_lock.specs.Passes.{IsPassOf, IsSound}
use Rattle.rib_core.specs.Recorded.{IsLawful}
use Rattle.grpc_stream.specs.CallTrace.{CallTrace}
use Rattle.table_model.specs.Event.{Event}
use Rattle.call_orders.specs.Calls.{Action}
use Rattle.server_turns.specs.Making.{MadeLast}
use Rattle.server_conn.specs.Standing.{Works}
use Rattle.server_conn.specs.Steps.{GoesTo}
use Rattle.server_conn.proofs.conn.ServerConn.hear_all.Given as goal

-- what was told so far is handled
abbrev pub invariant-events : goal.invariant-events
invariant-events g l =
    IsPassOf l.fn.lock l.pass × IsSound IsLawful l.fn.lock.setup l.pass
    × (l.self ≡ record l.fn.self { calls = l.self.calls; engine = l.self.engine; refused = l.self.refused })
    × ((t : CallTrace) (actions : List Action) (pieces : List Piece) (own : List Event) →
    Works g.K.CallConnection.stands g.K.CallConnection.output l.fn.setting l.fn.self.calls l.fn.self.engine l.fn.self.refused t actions pieces own →
    MadeLast l.fn.pass own →
    GoesTo g.K.CallConnection.stands g.K.CallConnection.output l.fn.setting l.fn.lock.setup l.fn.pass l.pass l.self.calls l.self.engine l.self.refused t
    pieces own)

abbrev pub decreases-events : goal.decreases-events
decreases-events g l = g.K.CallConnection.ahead l.self.calls
