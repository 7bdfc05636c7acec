-- A call as the server knows it: where it stands, the commands that it gives the table, and what it is owed so far (gRIBI; gRPC over
-- HTTP/2). What was done for calls is a list of actions, the latest first.
--
-- | state | the client's call | becomes |
-- |---|---|---|
-- | NotBegun | Begun, of a Modify | Modifies, if its Begin is answered with a session |
-- | NotBegun | Begun, of a Get or a Flush | Receives |
-- | NotBegun | Declined | Over |
-- | Modifies | Request | Modifies, or Over where a reply or the message ends the call |
-- | Modifies | Finished | Modifies; Over once a Collect is answered that nothing is outstanding |
-- | Receives | Request | Receives |
-- | Receives | Finished | Responds, if entries were selected, and else Over |
-- | Responds | (none: the next response is given) | Responds, or Over behind the last |
-- | any | Dropped, Declined, or memory is wanting | Over |
use Rattle.std.specs.Prelude.{ℕ, pos, ◌==◌, Bool, true, false, not, filter, take, List, [], ◌∷◌, ◌++◌, Option, Some, None, Result, Ok, Err, codes, if◌then◌else◌}
use Rattle.std.specs.List.{flat_map, list_any}
use Rattle.std.specs.Option.{option_map}
use Rattle.proto_schema.specs.declared.schema.MessageKind.TheVariants as message
use Rattle.proto_schema.specs.declared.legal.MessageFault.{MessageFault}
use Rattle.proto_schema.specs.Legal.{first_fault}
use Rattle.grpc_heads.specs.GrpcStatus.{GrpcStatus}
use Rattle.grpc_heads.specs.CallEnd.{CallEnd, Status}
use Rattle.grpc_heads.specs.declared.head.Method.{Method}
use Rattle.grpc_heads.specs.declared.head.Method.TheVariants.{Modify, Get, Flush}
use Rattle.h2_exchange.specs.Calls.{Call, Begun, Request, Finished, Dropped, Declined, stream_in}
use Rattle.h2_exchange.specs.StreamParts.{Item, Finish}
use Rattle.table_model.specs.declared.command.Command.{Command}
use Rattle.table_model.specs.declared.command.Command.TheVariants as command
use Rattle.table_model.specs.declared.reply.Reply.{Reply}
use Rattle.table_model.specs.declared.reply.Reply.TheVariants as reply
use Rattle.table_model.specs.Event.{Event}
use Rattle.call_answers.specs.Orders.{orders_of, commands_of}
use Rattle.call_answers.specs.declared.orders.Setting.{Setting}
use Rattle.call_requests.specs.Asked.{invalid, bad_message}
use Rattle.call_orders.specs.Requests.{get_asked, flush_asked}
use Rattle.call_orders.specs.Owed.{is_leave, items_for, selected_items, end_items, has_end, ok, want_of_memory}

-- ---- states

pub data CallState : Type 0 where
  -- nothing was heard of it
  NotBegun : CallState
  -- a Modify call with its session, whose client has more to say or has ended its side
  Modifies : (session : ℕ) (is_finished : Bool) → CallState
  -- a Get or a Flush, of which a first message came, and maybe more
  Receives : (method : Method) (first : Option (List ℕ)) (is_more : Bool) → CallState
  -- a Get whose entries were selected: what it is still to be given
  Responds : (waiting : List (Item CallEnd)) → CallState
  -- nothing more is done for it, and nothing more owed to it
  Over : CallState

-- where a call stands, and the items that were made for it so far
pub record Standing : Type 0 where
  pub state : CallState
  pub items : List (Item CallEnd)

-- ---- commands

-- what the one message of a Get or a Flush asks for
abbrev pub asked_by : Setting → Method → Option (List ℕ) → Bool → Result Command GrpcStatus
asked_by s Get (Some m) false = get_asked s m
asked_by s Flush (Some m) false = flush_asked s m
asked_by s method first is_more = Err (invalid (codes "one request expected"))

abbrev pub command_of : Result Command GrpcStatus → List Command
command_of (Ok c) = c ∷ []
command_of (Err refusal) = []

abbrev pub refusal_of : Result Command GrpcStatus → Option GrpcStatus
refusal_of (Ok c) = None
refusal_of (Err refusal) = Some refusal

abbrev pub unless_fault : Option MessageFault → List Command → List Command
unless_fault None commands = commands
unless_fault (Some fault) commands = []

-- The commands for what a client does, one after another: a Modify call begins a session; each of its messages gives its parameters,
-- its election id and its operations; a Get and a Flush ask once their client has ended its side.
abbrev pub commands_for : Setting → CallState → Call Method CallEnd → List Command
commands_for s NotBegun (Begun id Modify) = command.Begin ∷ []
commands_for s (Modifies session false) (Request id m) =
    unless_fault (first_fault s.numbering message.ModifyRequest m) (commands_of session (pos 0) (orders_of s m))
commands_for s (Receives method first is_more) (Finished id) = command_of (asked_by s method first is_more)
commands_for s state call = []

-- the end that a message brings by itself, or with which the call is declined
abbrev pub refusal_for : Setting → CallState → Call Method CallEnd → List (Item CallEnd)
refusal_for s Over call = []
refusal_for s (Modifies session false) (Request id m) = end_items (option_map bad_message (first_fault s.numbering message.ModifyRequest m))
refusal_for s (Receives method first is_more) (Finished id) = end_items (refusal_of (asked_by s method first is_more))
refusal_for s state (Declined id answer) = Finish answer ∷ []
refusal_for s state call = []

-- ---- from state to state

-- of a Modify call, by the reply to its Begin
abbrev pub begun_by_reply : Reply → CallState
begun_by_reply (reply.Began session) = Modifies session false
begun_by_reply said = Over

abbrev pub begun_state : List Event → CallState
begun_state (e ∷ []) = begun_by_reply e.reply
begun_state events = Over

-- of a Get, by the reply to its Select
abbrev pub selected_by_reply : Setting → Reply → CallState
selected_by_reply s (reply.Selected rows) = Responds (selected_items s rows)
selected_by_reply s said = Over

abbrev pub selected_state : Setting → List Event → CallState
selected_state s (e ∷ []) = selected_by_reply s e.reply
selected_state s events = Over

-- where the call stands behind what its client did and these entries, if no end is owed
abbrev pub next_state : Setting → CallState → Call Method CallEnd → List Event → CallState
next_state s Over call done = Over
next_state s NotBegun (Begun id Modify) done = begun_state done
next_state s NotBegun (Begun id method) done = Receives method None false
next_state s (Modifies session false) (Finished id) done = Modifies session true
next_state s (Receives method None is_more) (Request id m) done = Receives method (Some m) false
next_state s (Receives method (Some first) is_more) (Request id m) done = Receives method (Some first) true
next_state s (Receives method first is_more) (Finished id) done = selected_state s done
next_state s state (Dropped id) done = Over
next_state s state call done = state

-- ---- actions

-- What a server does for a call, and the entries of the table's history that it makes: it handles what the client did; collects
-- results; or gives the next response of a Get. Where memory is wanting, so many items were made for the call before its end.
pub data Action : Type 0 where
  Handles : (call : Call Method CallEnd) (did : List Event) (cut : Option ℕ) → Action
  Collects : (stream : ℕ) (did : List Event) (cut : Option ℕ) → Action
  Continues : (stream : ℕ) (cut : Option ℕ) → Action

abbrev pub stream_of : Action → ℕ
stream_of (Handles call did cut) = stream_in call
stream_of (Collects id did cut) = id
stream_of (Continues id cut) = id

abbrev pub events_of : Action → List Event
events_of (Handles call did cut) = did
events_of (Collects id did cut) = did
events_of (Continues id cut) = []

abbrev pub calls_of : Action → List (Call Method CallEnd)
calls_of (Handles call did cut) = call ∷ []
calls_of (Collects id did cut) = []
calls_of (Continues id cut) = []

abbrev pub cut_of : Action → Option ℕ
cut_of (Handles call did cut) = cut
cut_of (Collects id did cut) = cut
cut_of (Continues id cut) = cut

-- the entries but for the Leave
abbrev pub without_leaves : List Event → List Event
without_leaves did = filter (λ e. not (is_leave e.command)) did

-- ---- what an action leaves of a call

abbrev pub not_begun : Standing
not_begun = record { state = NotBegun; items = [] }

-- more items are made; a call that is owed an end is over
abbrev pub owing : Standing → CallState → List (Item CallEnd) → Standing
owing st state more = record { state = if has_end more then Over else state; items = st.items ++ more }

abbrev pub handled : Setting → Standing → Call Method CallEnd → List Event → Standing
handled s st call done = owing st (next_state s st.state call done) (flat_map (items_for s) done ++ refusal_for s st.state call)

-- a Collect with nothing outstanding ends a call whose client has ended its side
abbrev pub is_clear : Reply → Bool
is_clear (reply.Collected given outstanding) = outstanding == 0
is_clear said = false

abbrev pub good_end : CallState → List Event → List (Item CallEnd)
good_end (Modifies session true) done = if list_any (λ e. is_clear e.reply) done then Finish (Status ok) ∷ [] else []
good_end state done = []

abbrev pub collected : Setting → Standing → List Event → Standing
collected s st done = owing st st.state (flat_map (items_for s) done ++ good_end st.state done)

-- the next of the waiting items, and the end beside the last response
abbrev pub next_items : List (Item CallEnd) → List (Item CallEnd)
next_items (a ∷ b ∷ c ∷ more) = a ∷ []
next_items other = other

abbrev pub waiting_behind : List (Item CallEnd) → List (Item CallEnd)
waiting_behind (a ∷ b ∷ c ∷ more) = b ∷ c ∷ more
waiting_behind other = []

abbrev pub waiting_in : CallState → List (Item CallEnd)
waiting_in (Responds waiting) = waiting
waiting_in other = []

abbrev pub continued : Standing → Standing
continued st = owing st (Responds (waiting_behind (waiting_in st.state))) (next_items (waiting_in st.state))

-- no item is owed but the first of them, and the end for want of memory
abbrev pub cut_short : ℕ → Standing → Standing
cut_short made st = record { state = Over; items = take made st.items ++ Finish (Status want_of_memory) ∷ [] }

abbrev pub cut_by : Option ℕ → Standing → Standing
cut_by None st = st
cut_by (Some made) st = cut_short made st

-- how a call stands behind an action for it
abbrev pub after : Setting → Standing → Action → Standing
after s st (Handles call did cut) = cut_by cut (handled s st call (without_leaves did))
after s st (Collects id did cut) = cut_by cut (collected s st (without_leaves did))
after s st (Continues id cut) = cut_by cut (continued st)

-- how the call on a stream stands behind all actions, of which the latest stands first
unfoldable pub standing : Setting → List Action → ℕ → Standing
standing s [] id = not_begun
standing s (a ∷ earlier) id = if stream_of a == id then after s (standing s earlier id) a else standing s earlier id

-- what the call on a stream is owed: what was made, and what it is still to be given
abbrev pub answers : Setting → List Action → ℕ → List (Item CallEnd)
answers s actions id = (standing s actions id).items ++ waiting_in (standing s actions id).state
