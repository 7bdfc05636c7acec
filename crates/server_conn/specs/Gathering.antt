-- What comes of Collects while each session is collected once.
use Rattle.std.specs.Prelude.{◌≡◌, ℕ, ◌<◌, ◌≤◌, Bool, true, false, List, Some}
use Rattle.std.specs.List.{list_any}
use Rattle.rig_io.specs.Link.{Piece}
use Rattle.grpc_stream.specs.CallTrace.{CallTrace}
use Rattle.table_lock.specs.Passes.{PassView}
use Rattle.table_model.specs.declared.command.Command.{Command}
use Rattle.table_model.specs.declared.command.Config.{Config}
use Rattle.table_model.specs.declared.reply.Reply.{Reply}
use Rattle.table_model.specs.Event.{Event}
use Rattle.call_answers.specs.declared.orders.Setting.{Setting}
use Rattle.session_engine.specs.Queries.{OpenCallsView, call_on, session_in}
use Rattle.session_engine.specs.Stands.{AreSameElsewhere}
use Rattle.server_turns.specs.Past.{awaits_from, collects, is_progress, leaves_some}
use Rattle.server_conn.specs.Steps.{GoesTo, IsNoMore}

-- a session's client has not ended its side, and behind these entries it awaits no results, whatever it did before them
abbrev pub IsCleared : ℕ → Bool → List Event → Type 0
IsCleared session is_finished did = (is_finished ≡ false) × ((awaits : Bool) → awaits_from awaits session did ≡ false)

module _ {K : Type 0} (uses : K → CallTrace → Type 0) (output : K → List ℕ) (s : Setting) (config : Config) where
  -- The session on a stream was collected, and what came of it was given.
  pub record CollectsOne (p q : PassView Command Reply Config) (calls : K) (before open_calls : OpenCallsView) (refused stream : ℕ) (was_left is_left : Bool)
      (t : CallTrace) (pieces : List Piece) (own : List Event) (has_any : Bool) : Type 0 where
    pub goes : GoesTo uses output s config p q calls open_calls refused t pieces own
    pub connection : goes.trace.connection_trace ≡ t.connection_trace
    pub reported : goes.trace.reported ≡ t.reported
    pub moved : has_any ≡ list_any is_progress goes.did
    pub done : (session : ℕ) (is_finished : Bool) → session_in (call_on before stream) ≡ Some (session, is_finished) →
        list_any (collects session) goes.did ≡ true
    pub stays : (session : ℕ) → session_in (call_on open_calls stream) ≡ Some (session, true) → list_any leaves_some goes.did ≡ true
    -- it makes no session wait, and nothing waits behind it where it left nothing
    pub quiet : (session : ℕ) → awaits_from false session goes.did ≡ false
    pub kept : is_left ≡ false → was_left ≡ false
    pub clear : is_left ≡ false → (session : ℕ) (is_finished : Bool) → session_in (call_on open_calls stream) ≡ Some (session, is_finished) →
        IsCleared session is_finished goes.did
    pub fewer : IsNoMore (call_on before stream) (call_on open_calls stream)
    pub others : AreSameElsewhere stream before open_calls

  -- Each session on a stream below `from` was collected once, and the others are as they were.
  pub record CollectsBelow (from : ℕ) (p q : PassView Command Reply Config) (calls : K) (before open_calls : OpenCallsView) (refused : ℕ) (is_left : Bool)
      (t : CallTrace) (pieces : List Piece) (own : List Event) (has_moved : Bool) : Type 0 where
    pub goes : GoesTo uses output s config p q calls open_calls refused t pieces own
    pub connection : goes.trace.connection_trace ≡ t.connection_trace
    pub reported : goes.trace.reported ≡ t.reported
    pub moved : has_moved ≡ list_any is_progress goes.did
    pub done : (id session : ℕ) (is_finished : Bool) → id < from → session_in (call_on before id) ≡ Some (session, is_finished) →
        list_any (collects session) goes.did ≡ true
    pub stays : (id session : ℕ) → id < from → session_in (call_on open_calls id) ≡ Some (session, true) → list_any leaves_some goes.did ≡ true
    pub quiet : (session : ℕ) → awaits_from false session goes.did ≡ false
    pub clear : is_left ≡ false → (id session : ℕ) (is_finished : Bool) → id < from → session_in (call_on open_calls id) ≡ Some (session, is_finished) →
        IsCleared session is_finished goes.did
    pub to_come : (id : ℕ) → from ≤ id → call_on open_calls id ≡ call_on before id
    pub fewer : (id : ℕ) → IsNoMore (call_on before id) (call_on open_calls id)
