-- How a connection stands while what an action owes a call is taken to be sent.
use Rattle.std.specs.Prelude.{◌≡◌, ◌⊎◌, ℕ, ◌+◌, ◌-◌, ◌^◌, min, Bool, true, false, List, [], ◌++◌, Option, Some, None}
use Rattle.std.specs.List.{list_any}
use Rattle.rig_io.specs.Link.{Piece}
use Rattle.grpc_heads.specs.CallEnd.{CallEnd, Status}
use Rattle.grpc_heads.specs.GrpcStatus.{GrpcStatus}
use Rattle.h2_exchange.specs.StreamParts.{Item, Finish}
use Rattle.grpc_stream.specs.CallTrace.{CallTrace, begins_on}
use Rattle.table_model.specs.Event.{Event}
use Rattle.call_answers.specs.declared.orders.Setting.{Setting}
use Rattle.call_orders.specs.Calls.{Action, standing}
use Rattle.call_orders.specs.Owed.{has_end}
use Rattle.session_engine.specs.Queries.{OpenCallsView}
use Rattle.server_turns.specs.Serving.{is_want_of_memory}
use Rattle.server_account.specs.Agreeing.{Agrees, left_on}
use Rattle.server_conn.specs.Standing.{AreCounted}

-- From this trace on nothing changed but what was taken, and these items are left to be taken for the stream.
pub record Hands {K : Type 0} (uses : K → CallTrace → Type 0) (output : K → List ℕ) (s : Setting) (calls : K) (open_calls : OpenCallsView)
    (refused stream : ℕ) (t : CallTrace) (actions : List Action) (pieces : List Piece) (own : List Event) (left : List (Item CallEnd)) : Type 0 where
  pub trace : CallTrace
  pub connection : trace.connection_trace ≡ t.connection_trace
  pub reported : trace.reported ≡ t.reported
  pub used : uses calls trace
  pub alive : trace.connection_trace.refusal ≡ None
  pub agrees : Agrees s trace (output calls) open_calls actions pieces own (left_on stream left)
  pub begun : list_any (begins_on stream) trace.reported ≡ true
  -- what stands before them has no end
  pub before : List (Item CallEnd)
  pub items_are : (standing s actions stream).items ≡ before ++ left
  pub unended : has_end before ≡ false ⊎ (left ≡ [])
  pub count : AreCounted s actions refused

-- these, where the stream takes more
abbrev pub left_if : Bool → List (Item CallEnd) → List (Item CallEnd)
left_if true left = left
left_if false left = []

-- ---- want of memory

-- a call ends for want of memory
abbrev pub wants : Option GrpcStatus → Bool
wants None = false
wants (Some status) = is_want_of_memory (Finish (Status status))

-- one more is counted, up to the last value of the counter
abbrev pub counted : Bool → ℕ → ℕ
counted true n = min (n + 1) (2 ^ 64 - 1)
counted false n = n
