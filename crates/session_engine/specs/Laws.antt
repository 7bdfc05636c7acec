-- What follows of the clauses of one call of the engine, over all that was done on a connection.
use Rattle.std.specs.Prelude.{◌≡◌, ℕ, List, ◌∷◌, ◌++◌, Option}
use Rattle.grpc_heads.specs.CallEnd.{CallEnd}
use Rattle.grpc_heads.specs.declared.head.Method.{Method}
use Rattle.h2_exchange.specs.Calls.{Call}
use Rattle.h2_exchange.specs.StreamParts.{Item}
use Rattle.table_model.specs.Event.{Event}
use Rattle.call_answers.specs.declared.orders.Setting.{Setting}
use Rattle.call_orders.specs.Calls.{CallState, Standing, Action, standing, stream_of}
use Rattle.call_orders.specs.Actions.{AreActions}
use Rattle.call_orders.specs.Orders.{IsRunning, IsSpent}
use Rattle.session_engine.specs.Queries.{OpenCallsView, call_on}
use Rattle.session_engine.specs.Stands.{AreSameElsewhere, IsNotBegun, IsUnended, Stands, StopsIn, TakesFrom}

-- the open calls stand as these actions leave them
pub record AreOpen (s : Setting) (calls : OpenCallsView) (actions : List Action) : Type 0 where
  pub stands : (id : ℕ) → Stands s (call_on calls id) (standing s actions id).state
  pub unended : (id : ℕ) → IsUnended (standing s actions id)
  pub each : AreActions s actions

-- one more action: it may be taken, the open calls stand as it leaves them, and its stream is owed these items more
pub record FollowsBy (s : Setting) (new : OpenCallsView) (actions : List Action) (stream : ℕ) (action : Option ℕ → Action) (items : CallState
    → List (Item CallEnd)) : Type 0 where
  pub cut : Option ℕ
  pub open_now : AreOpen s new (action cut ∷ actions)
  pub items_are : (standing s (action cut ∷ actions) stream).items ≡ (standing s actions stream).items ++ items (standing s actions stream).state

-- What a call of the engine says of any call that stands so holds of the one that its actions left.
abbrev pub ActionsFollow : Setting → Type 0
ActionsFollow s = (old new : OpenCallsView) (actions : List Action) (stream : ℕ) (action : Option ℕ → Action) (items : CallState → List (Item CallEnd))
    → AreOpen s old actions → TakesFrom s (Stands s (call_on old stream)) (call_on new stream) action items → AreSameElsewhere stream old new
    → ((cut : Option ℕ) → stream_of (action cut) ≡ stream) → FollowsBy s new actions stream action items

-- The same of a call that was not begun.
abbrev pub BeginsFollow : Setting → Type 0
BeginsFollow s = (old new : OpenCallsView) (actions : List Action) (stream : ℕ) (action : Option ℕ → Action) (items : CallState → List (Item CallEnd))
    → AreOpen s old actions → IsNotBegun (standing s actions stream).state → TakesFrom s IsNotBegun (call_on new stream) action items
    → AreSameElsewhere stream old new
    → ((cut : Option ℕ) → stream_of (action cut) ≡ stream) → FollowsBy s new actions stream action items

-- Where a call of the lock was Spent, what was made is the first of an action that may be taken behind those that were: so it says of a
-- call that stands as an open one, and of one that was not begun.
abbrev pub SpentFollows : Setting → Type 0
SpentFollows s = (calls : OpenCallsView) (actions : List Action) (stream : ℕ) (handled others : List (Call Method CallEnd)) (did : List Event)
    → AreOpen s calls actions → ((st : Standing) → Stands s (call_on calls stream) st.state → IsUnended st → StopsIn s st stream handled did)
    → IsRunning actions → IsSpent s actions (handled ++ others) did

abbrev pub SpentBeginsFollow : Setting → Type 0
SpentBeginsFollow s = (calls : OpenCallsView) (actions : List Action) (stream : ℕ) (handled others : List (Call Method CallEnd)) (did : List Event)
    → AreOpen s calls actions → IsNotBegun (standing s actions stream).state
    → ((st : Standing) → IsNotBegun st.state → IsUnended st → StopsIn s st stream handled did) → IsRunning actions
    → IsSpent s actions (handled ++ others) did
