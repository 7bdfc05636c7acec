-- Worked cases: where the call on stream 1 stands, and what it is owed. Its session is 7.
use Rattle.std.specs.Prelude.{◌≡◌, ℕ, zero, suc, pos, true, false, List, [], ◌∷◌, Some, None, codes}
use Rattle.aft_entries.specs.declared.operation.Ask.TheVariants as ask
use Rattle.aft_entries.specs.declared.operation.Reason.TheVariants.{BadKey}
use Rattle.aft_entries.specs.declared.operation.Row.{Row}
use Rattle.gribi_messages.specs.Response.{response_bytes}
use Rattle.gribi_messages.specs.Rows.{rows_bytes}
use Rattle.grpc_heads.specs.CallEnd.{CallEnd, Status, Http, compressed}
use Rattle.grpc_heads.specs.declared.head.Method.TheVariants.{Modify, Get, Flush}
use Rattle.grpc_heads.specs.declared.status.ModifyReason.TheVariants as reason
use Rattle.h2_exchange.specs.Calls.{Begun, Request, Finished, Dropped, Declined}
use Rattle.h2_exchange.specs.StreamParts.{Item, Message, Finish}
use Rattle.table_model.specs.declared.command.Command.{Command}
use Rattle.table_model.specs.declared.command.Command.TheVariants as command
use Rattle.table_model.specs.declared.command.FlushBy.TheVariants as by
use Rattle.table_model.specs.declared.command.KindAsk.TheVariants as kinds
use Rattle.table_model.specs.declared.command.Operation.{Operation}
use Rattle.table_model.specs.declared.command.Which.TheVariants as which
use Rattle.table_model.specs.declared.params.AskedParams.{AskedParams}
use Rattle.table_model.specs.declared.params.Params.{Params}
use Rattle.table_model.specs.declared.reply.Reply.{Reply}
use Rattle.table_model.specs.declared.reply.Reply.TheVariants as reply
use Rattle.table_model.specs.Event.{Event}
use Rattle.call_answers.specs.Answers.{params_set, announced, one_result, operation_result}
use Rattle.call_answers.specs.Ends.{ending}
use Rattle.call_answers.specs.declared.orders.Setting.{Setting}
use Rattle.call_orders.specs.Owed.{flush_response}
use Rattle.call_orders.specs.Calls.{CallState, NotBegun, Modifies, Responds, Over, Action, Handles, Collects, Continues, Standing, standing, answers}
use Rattle.call_orders.specs.Actions.{AreActions}
use Rattle.call_orders.specs.Orders.{cuts}

abbrev pub did : Command → Reply → Event
did c r = record { command = c; reply = r }

abbrev pub leaves : Event
leaves = did (command.Leave 7) reply.Left

abbrev pub begins : Action
begins = Handles (Begun 1 Modify) (did command.Begin (reply.Began 7) ∷ []) None

abbrev pub asks : List ℕ → List Event → Action
asks m events = Handles (Request 1 m) events None

abbrev is : CallState → List (Item CallEnd) → Standing
is state items = record { state = state; items = items }

abbrev ends : ℕ → List ℕ → Item CallEnd
ends code text = Finish (Status (ending code text None))

abbrev pub operation : ℕ → Operation
operation id = record { id = id; election = None; ask = ask.Bad BadKey }

abbrev pub operates : ℕ → Reply → Event
operates id said = did (command.Operate 7 (operation id) (pos 5)) said

-- a message that can be read, whatever it says, and what came of it
pub record RefusedCalls (s : Setting) (m : List ℕ) (asked : AskedParams) (other : Params) : Type 0 where
  pub all_primary : standing s (asks m (did (command.SetParams 7 asked) reply.ParamsUnsupported ∷ leaves ∷ []) ∷ begins ∷ []) 1
      ≡ is Over (Finish (Status (ending 12 (codes "unsupported session parameters") (Some reason.UnsupportedParams))) ∷ [])
  pub differ : standing s (asks m (did (command.SetParams 7 asked) (reply.ParamsDiffer other) ∷ leaves ∷ []) ∷ begins ∷ []) 1
      ≡ is Over (Finish (Status (ending 9 (codes "session parameters differ") (Some reason.ParamsDiffer))) ∷ [])
  pub no_params : standing s (asks m (operates 3 reply.NoParams ∷ leaves ∷ []) ∷ begins ∷ []) 1
      ≡ is Over (Finish (Status (ending 12 (codes "ALL_PRIMARY is not served") (Some reason.UnsupportedParams))) ∷ [])
  pub early_election : standing s (asks m (did (command.Announce 7 1) reply.NoParams ∷ leaves ∷ []) ∷ begins ∷ []) 1
      ≡ is Over (Finish (Status (ending 9 (codes "election in ALL_PRIMARY") (Some reason.ElectionIdInAllPrimary))) ∷ [])
  pub params_again : standing s (asks m (did (command.SetParams 7 asked) reply.ParamsNotAllowed ∷ leaves ∷ [])
      ∷ asks m (did (command.SetParams 7 asked) reply.ParamsSet ∷ []) ∷ begins ∷ []) 1
      ≡ is Over (Message (response_bytes s.numbering (params_set s.numbering))
      ∷ Finish (Status (ending 9 (codes "session parameters already set") (Some reason.ModifyNotAllowed))) ∷ [])

-- the response to an operation that was done
abbrev done : Setting → ℕ → Item CallEnd
done s id = Message (response_bytes s.numbering (one_result (operation_result s.numbering id (pos 5) None)))

abbrev three : List ℕ → Action
three m = asks m (operates 1 reply.RibDone ∷ operates 2 reply.RibDone ∷ operates 3 reply.RibDone ∷ [])

-- a call that goes on, and is finished, dropped, declined or cut short
pub record GoingCalls (s : Setting) (m : List ℕ) (asked : AskedParams) : Type 0 where
  pub two : standing s (asks m (did (command.SetParams 7 asked) reply.ParamsSet ∷ did (command.Announce 7 1) (reply.Announced 1) ∷ []) ∷ begins ∷ []) 1
      ≡ is (Modifies 7 false) (Message (response_bytes s.numbering (params_set s.numbering)) ∷ Message (response_bytes s.numbering (announced 1)) ∷ [])
  pub finished : standing s (Collects 1 (did (command.Collect 7) (reply.Collected [] 0) ∷ leaves ∷ []) None ∷ Handles (Finished 1) [] None ∷ begins ∷ []) 1
      ≡ is Over (ends 0 [] ∷ [])
  pub waits : standing s (Collects 1 (did (command.Collect 7) (reply.Collected [] 2) ∷ []) None ∷ Handles (Finished 1) [] None ∷ begins ∷ []) 1
      ≡ is (Modifies 7 true) []
  pub dropped : standing s (Handles (Dropped 1) (leaves ∷ []) None ∷ three m ∷ begins ∷ []) 1 ≡ is Over (done s 1 ∷ done s 2 ∷ done s 3 ∷ [])
  pub declined : standing s (Handles (Declined 1 compressed) (leaves ∷ []) None ∷ asks m (operates 1 reply.RibDone ∷ []) ∷ begins ∷ []) 1
      ≡ is Over (done s 1 ∷ ends 12 (codes "compression is not served") ∷ [])
  pub declined_late : standing s (Handles (Declined 1 compressed) [] None ∷ asks m (did (command.Announce 7 0) reply.ZeroId ∷ leaves ∷ []) ∷ begins ∷ []) 1
      ≡ is Over (ends 3 (codes "election id is zero") ∷ [])
  pub no_call : standing s (Handles (Declined 1 (Http 405)) [] None ∷ []) 1 ≡ is Over (Finish (Http 405) ∷ [])
  -- memory was wanting behind the first answer, and the second command was not done
  pub lacking : standing s (Handles (Request 1 m) (operates 1 reply.RibDone ∷ leaves ∷ []) (Some 1) ∷ begins ∷ []) 1
      ≡ is Over (done s 1 ∷ ends 8 (codes "want of memory") ∷ [])
  -- or for the first answer, whose command was done
  pub lacking_answer : standing s (Handles (Request 1 m) (operates 1 reply.RibDone ∷ leaves ∷ []) (Some 0) ∷ begins ∷ []) 1
      ≡ is Over (ends 8 (codes "want of memory") ∷ [])
  pub lacks : cuts (Handles (Request 1 m) (operates 1 reply.RibDone ∷ leaves ∷ []) (Some 0) ∷ begins ∷ []) ≡ record { stream = 1; commands = 2; items = 0 } ∷ []
  pub other_stream : standing s (three m ∷ begins ∷ []) 3 ≡ is NotBegun []

abbrev begins_get : Action
begins_get = Handles (Begun 1 Get) [] None

abbrev begins_flush : Action
begins_flush = Handles (Begun 1 Flush) [] None

abbrev pub copies : {X : Type 0} → ℕ → X → List X
copies zero x = []
copies (suc n) x = x ∷ copies n x

abbrev pub selects : List ℕ → List Row → List Action
selects m rows = Handles (Finished 1) (did (command.Select which.All kinds.All) (reply.Selected rows) ∷ []) None ∷ asks m [] ∷ begins_get ∷ []

abbrev responds : Setting → List Row → Item CallEnd
responds s rows = Message (rows_bytes s.numbering s.instances rows)

-- a Get of 65 rows and of none, a Flush, and a call without a message or with two
pub record ShortCalls (s : Setting) (get flush : List ℕ) (row : Row) : Type 0 where
  pub get_many : answers s (selects get (copies 65 row)) 1 ≡ responds s (copies 64 row) ∷ responds s (row ∷ []) ∷ ends 0 [] ∷ []
  pub get_first : standing s (Continues 1 None ∷ selects get (copies 65 row)) 1
      ≡ is (Responds (responds s (row ∷ []) ∷ ends 0 [] ∷ [])) (responds s (copies 64 row) ∷ [])
  pub get_last : standing s (Continues 1 None ∷ Continues 1 None ∷ selects get (copies 65 row)) 1
      ≡ is Over (responds s (copies 64 row) ∷ responds s (row ∷ []) ∷ ends 0 [] ∷ [])
  pub get_lacking : standing s (Continues 1 (Some 1) ∷ Continues 1 None ∷ selects get (copies 65 row)) 1
      ≡ is Over (responds s (copies 64 row) ∷ ends 8 (codes "want of memory") ∷ [])
  pub get_dropped : answers s (Handles (Dropped 1) [] None ∷ Continues 1 None ∷ selects get (copies 65 row)) 1 ≡ responds s (copies 64 row) ∷ []
  pub get_nothing : answers s (selects get []) 1 ≡ ends 0 [] ∷ []
  pub nothing_given : standing s (Continues 1 None ∷ selects get []) 1 ≡ is Over (ends 0 [] ∷ [])
  pub flushed : standing s (Handles (Finished 1) (did (command.Flush by.Override which.All (pos 9)) (reply.Flushed false) ∷ []) None
      ∷ asks flush [] ∷ begins_flush ∷ []) 1
      ≡ is Over (Message (flush_response s (pos 9) false) ∷ ends 0 [] ∷ [])
  pub refused : standing s (Handles (Finished 1) (did (command.Flush (by.Id 4) which.All (pos 9)) (reply.FlushRefused 5) ∷ []) None
      ∷ asks flush [] ∷ begins_flush ∷ []) 1
      ≡ is Over (ends 9 (codes "not primary") ∷ [])
  pub none : standing s (Handles (Finished 1) [] None ∷ begins_get ∷ []) 1 ≡ is Over (ends 3 (codes "one request expected") ∷ [])
  pub second : standing s (Handles (Finished 1) [] None ∷ asks get [] ∷ asks get [] ∷ begins_get ∷ []) 1 ≡ is Over (ends 3 (codes "one request expected") ∷ [])

-- These actions may be taken: a drop behind three operations, and a call that is cut behind the first of them.
pub record RightCalls (s : Setting) (m : List ℕ) : Type 0 where
  pub dropped : AreActions s (Handles (Dropped 1) (leaves ∷ []) None ∷ three m ∷ begins ∷ [])
  pub lacking : AreActions s (Handles (Request 1 m) (operates 1 reply.RibDone ∷ leaves ∷ []) (Some 1) ∷ begins ∷ [])
  pub ended : AreActions s (asks m (operates 1 reply.RibDone ∷ operates 2 reply.NoParams ∷ leaves ∷ []) ∷ begins ∷ [])
