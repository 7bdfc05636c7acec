use Rattle.std.proofs.Common.{◌≡◌, ◌-◌, ◌^◌, ℕ, List}
use Rattle.rig_io.specs.Link.{Piece}
use Rattle.table_lock.specs.Passes.{IsPassOf, IsSound}
use Rattle.rib_core.specs.Recorded.{IsLawful}
use Rattle.grpc_stream.specs.CallTrace.{CallTrace}
use Rattle.table_model.specs.Event.{Event}
use Rattle.call_orders.specs.Calls.{Action}
use Rattle.server_turns.specs.Making.{MadeLast}
use Rattle.server_account.specs.Agreeing.{IsSettled}
use Rattle.server_conn.specs.Gathering.{CollectsBelow}
use Rattle.server_conn.specs.Standing.{Works}
use Rattle.server_conn.proofs.conn.ServerConn.collect_each.Given as goal

-- the sessions on the streams so far were collected
abbrev pub invariant-sessions : goal.invariant-sessions
invariant-sessions g l =
    IsPassOf l.fn.lock l.pass × IsSound IsLawful l.fn.lock.setup l.pass
    × (l.self ≡ record l.fn.self { calls = l.self.calls; engine = l.self.engine; refused = l.self.refused; may_wait = l.self.may_wait })
    × ((t : CallTrace) (actions : List Action) (pieces : List Piece) (own : List Event) (rest : List ℕ) →
    Works g.K.CallConnection.stands g.K.CallConnection.output l.fn.setting l.fn.self.calls l.fn.self.engine l.fn.self.refused t actions pieces own →
    IsSettled t rest → MadeLast l.fn.pass own →
    CollectsBelow g.K.CallConnection.stands g.K.CallConnection.output l.fn.setting l.fn.lock.setup l.from l.fn.pass l.pass l.self.calls l.fn.self.engine
    l.self.engine l.self.refused l.self.may_wait t pieces own l.has_moved)

abbrev pub decreases-sessions : goal.decreases-sessions
decreases-sessions g l = 2 ^ 32 - l.from
