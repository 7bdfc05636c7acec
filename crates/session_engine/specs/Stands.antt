-- How the calls of an engine stand, and what one call of the engine adds: an action of call_orders that is right for the call on a
-- stream, its entries in the pass, and its items in the step.
use Rattle.std.specs.Prelude.{◌≡◌, ◌⊎◌, ℕ, ◌==◌, Bool, false, true, not, map, List, [], ◌∷◌, ◌++◌, Option, Some, None}
use Rattle.std.specs.List.{list_any}
use Rattle.grpc_heads.specs.CallEnd.{CallEnd}
use Rattle.grpc_heads.specs.declared.head.Method.{Method}
use Rattle.h2_exchange.specs.Calls.{Call, Begun, Dropped, Declined}
use Rattle.h2_exchange.specs.StreamParts.{Item}
use Rattle.table_lock.specs.declared.machine.Entry.{Entry}
use Rattle.table_lock.specs.Lock.{entry}
use Rattle.table_lock.specs.Passes.{PassView, Makes}
use Rattle.table_model.specs.declared.command.Command.{Command}
use Rattle.table_model.specs.declared.reply.Reply.{Reply}
use Rattle.table_model.specs.declared.reply.Reply.TheVariants as reply
use Rattle.table_model.specs.Event.{Event}
use Rattle.call_answers.specs.declared.orders.Setting.{Setting}
use Rattle.call_orders.specs.Owed.{has_end, items_by, selected_items}
use Rattle.call_orders.specs.Calls.{CallState, NotBegun, Modifies, Receives, Responds, Over, Standing, Action, Handles, Collects, Continues, after, calls_of, events_of, refusal_for, stream_of, without_leaves}
use Rattle.call_orders.specs.Actions.{IsAction}
use Rattle.call_orders.specs.Orders.{is_stopped}
use Rattle.session_engine.specs.declared.open_calls.OpenCall.{OpenCall}
use Rattle.session_engine.specs.declared.open_calls.OpenCall.TheVariants as opened
use Rattle.session_engine.specs.declared.step.Step.{Step}
use Rattle.session_engine.specs.Queries.{OpenCallsView, call_on}

-- ---- states

abbrev pub state_of : Setting → OpenCall → CallState
state_of s (opened.Modifies session is_finished) = Modifies session is_finished
state_of s (opened.Receives method first is_more) = Receives method first is_more
state_of s (opened.Responds rows) = Responds (selected_items s rows)

-- an open call stands as it says, and another was not begun, or is over
abbrev pub Stands : Setting → Option OpenCall → CallState → Type 0
Stands s None state = (state ≡ NotBegun) ⊎ (state ≡ Over)
Stands s (Some call) state = state ≡ state_of s call

-- the calls of other streams are as they were
abbrev pub AreSameElsewhere : ℕ → OpenCallsView → OpenCallsView → Type 0
AreSameElsewhere stream old new = (id : ℕ) → (stream == id) ≡ false → call_on new id ≡ call_on old id

-- a call that isn't over is owed no end
abbrev pub IsUnended : Standing → Type 0
IsUnended st = (st.state ≡ Over) ⊎ (has_end st.items ≡ false)

-- ---- what is added

-- results were left outstanding
abbrev pub leaves_by : Reply → Bool
leaves_by (reply.Collected given outstanding) = not (outstanding == 0)
leaves_by said = false

-- the items of a step
abbrev pub items_in : Step → List (Item CallEnd)
items_in step = items_by step.answers step.end

-- The action, for which memory was wanting or not, is right for a call that stands so. It leaves the call as `to` says, and owes it
-- these items more.
pub record Takes (s : Setting) (st : Standing) (to : Option OpenCall) (action : Option ℕ → Action) (items : List (Item CallEnd)) : Type 0 where
  pub cut : Option ℕ
  pub right : IsAction s st (action cut)
  pub stands : Stands s to (after s st (action cut)).state
  pub items_are : (after s st (action cut)).items ≡ st.items ++ items

-- It is right for each call that stands in a state of `from`.
abbrev pub TakesFrom : Setting → (CallState → Type 0) → Option OpenCall → (Option ℕ → Action) → (CallState → List (Item CallEnd)) → Type 0
TakesFrom s from to action items = (st : Standing) → from st.state → IsUnended st → Takes s st to action (items st.state)

-- These entries are the first of an action that is right for a call that stands so, and more of it were due.
pub record StopsIn (s : Setting) (st : Standing) (stream : ℕ) (calls : List (Call Method CallEnd)) (did : List Event) : Type 0 where
  pub action : Action
  pub next : Event
  pub behind : List Event
  pub events_are : events_of action ≡ did ++ next ∷ behind
  pub calls_are : calls_of action ≡ calls
  pub stream_is : stream_of action ≡ stream
  pub right : IsAction s st action

-- ---- the pass

-- events as entries of a pass
abbrev pub own : ℕ → List Event → List (Entry Command Reply)
own number did = map (λ e. entry number e.command e.reply) did

module _ {G : Type 0} (lawful : G → List (Entry Command Reply) → Type 0) (setup : G) where
  -- the pass made these entries and no others
  abbrev pub MakesEntries : PassView Command Reply G → PassView Command Reply G → List Event → Type 0
  MakesEntries p q did = Makes lawful setup false p q (own p.number did)

  -- the same, and then a call under the lock was Spent
  abbrev pub IsSpentBehind : PassView Command Reply G → PassView Command Reply G → List Event → Type 0
  IsSpentBehind p q did = Makes lawful setup true p q (own p.number did)

  -- What a call of the engine does for the call on a stream, which stands in a state of `from`: an action with these entries. The step
  -- has the items that are owed more, and says whether a command was answered Stopped.
  pub record DoesAction (s : Setting) (old new : OpenCallsView) (p q : PassView Command Reply G) (stream : ℕ) (from : CallState → Type 0)
      (action : List Event → Option ℕ → Action) (step : Step) : Type 0 where
    pub did : List Event
    pub entries : MakesEntries p q did
    pub takes : TakesFrom s from (call_on new stream) (action did) (λ _. items_in step)
    pub others : AreSameElsewhere stream old new
    pub halted : step.halted ≡ list_any is_stopped (without_leaves did)

  -- Results are collected for the session on a stream, and it is said whether any were left outstanding.
  abbrev pub CollectsFor : Setting → OpenCallsView → OpenCallsView → PassView Command Reply G → PassView Command Reply G → ℕ → Step → Bool → Type 0
  CollectsFor s old new p q stream step has_left =
      (k : DoesAction s old new p q stream (Stands s (call_on old stream)) (Collects stream) step)
      × (has_left ≡ list_any (λ e. leaves_by e.reply) (without_leaves k.did))

  -- A call of the lock was Spent behind these entries, which are the first of an action for the call on the stream.
  pub record IsSpentIn (s : Setting) (p q : PassView Command Reply G) (stream : ℕ) (from : CallState
      → Type 0) (calls : List (Call Method CallEnd)) : Type 0 where
    pub did : List Event
    pub spent : IsSpentBehind p q did
    pub stops : (st : Standing) → from st.state → IsUnended st → StopsIn s st stream calls did

  -- what the client did is handled
  abbrev pub HandlesCall : Setting → OpenCallsView → OpenCallsView → PassView Command Reply G → PassView Command Reply G → ℕ → Call Method CallEnd
      → Step → Type 0
  HandlesCall s old new p q stream call step = DoesAction s old new p q stream (Stands s (call_on old stream)) (Handles call) step

-- ---- a first and a last

abbrev pub IsNotBegun : CallState → Type 0
IsNotBegun state = state ≡ NotBegun

-- what a client, or a rule that it breaks, does that ends a call at once
pub data IsDropOf (id : ℕ) : Call Method CallEnd → Type 0 where
  dropped_is : IsDropOf id (Dropped id)
  declined_is : (answer : CallEnd) → IsDropOf id (Declined id answer)

-- A call of a Get or a Flush begins, which makes no entry.
pub record Opens (s : Setting) (old new : OpenCallsView) (stream : ℕ) (method : Method) (step : Step) : Type 0 where
  pub takes : TakesFrom s IsNotBegun (call_on new stream) (Handles (Begun stream method) []) (λ _. items_in step)
  pub others : AreSameElsewhere stream old new
  pub quiet : step.halted ≡ false

-- The next response of a Get is given, with the good end beside the last, which makes no entry.
pub record ContinuesCall (s : Setting) (old new : OpenCallsView) (stream : ℕ) (step : Step) : Type 0 where
  pub takes : TakesFrom s (Stands s (call_on old stream)) (call_on new stream) (Continues stream) (λ _. items_in step)
  pub others : AreSameElsewhere stream old new
  pub quiet : step.halted ≡ false

module _ {G : Type 0} (lawful : G → List (Entry Command Reply) → Type 0) (setup : G) where
  -- A call is over at once: it has no step, and what it is owed more is the answer with which it is declined.
  pub record DropsCall (s : Setting) (old new : OpenCallsView) (p q : PassView Command Reply G) (stream : ℕ) (call : Call Method CallEnd) : Type 0 where
    pub did : List Event
    pub entries : MakesEntries lawful setup p q did
    pub takes : TakesFrom s (Stands s (call_on old stream)) (call_on new stream) (Handles call did) (λ state. refusal_for s state call)
    pub others : AreSameElsewhere stream old new
