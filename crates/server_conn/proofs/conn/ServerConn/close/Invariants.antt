use Rattle.std.proofs.Common.{◌≡◌, length, List}
use Rattle.table_lock.specs.Passes.{IsPassOf, IsSound}
use Rattle.rib_core.specs.Recorded.{IsLawful}
use Rattle.table_model.specs.Event.{Event}
use Rattle.call_orders.specs.Actions.{events_in}
use Rattle.call_orders.specs.Calls.{Action}
use Rattle.session_engine.specs.Laws.{AreOpen}
use Rattle.server_turns.specs.Making.{MadeLast}
use Rattle.server_conn.proofs.Closing.{IsLeaving}
use Rattle.server_conn.proofs.conn.ServerConn.close.Given as goal

-- the oldest sessions have left
abbrev pub invariant-sessions : goal.invariant-sessions
invariant-sessions g l =
    IsPassOf l.fn.lock l.pass × IsSound IsLawful l.fn.lock.setup l.pass
    × (l.self ≡ record l.fn.self { engine = l.self.engine })
    × ((actions : List Action) (own : List Event) → AreOpen l.fn.setting l.fn.self.engine actions → own ≡ events_in actions → MadeLast l.fn.pass own →
    IsLeaving l.fn.lock.setup l.fn.pass l.pass own l.self.engine)

abbrev pub decreases-sessions : goal.decreases-sessions
decreases-sessions g l = length l.self.engine
