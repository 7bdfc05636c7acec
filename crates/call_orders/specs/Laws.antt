-- What follows of the orders of a connection, in the words of calls, entries and answers alone: no law speaks of the states of calls.
use Rattle.std.specs.Prelude.{◌≡◌, ◌≢◌, ◌⊎◌, ℕ, pos, ◌+◌, ◌==◌, ◌≤◌, Bool, true, false, ◌||◌, ◌&&◌, not, is_some, filter_map, map, option_to_list, Result, Ok, Err, take, length, List, [], ◌∷◌, ◌++◌, Option, Some, None, if◌then◌else◌}
use Rattle.std.specs.List.{flat_map, list_any}
use Rattle.proto_schema.specs.declared.schema.MessageKind.TheVariants as message
use Rattle.proto_schema.specs.Legal.{first_fault}
use Rattle.grpc_heads.specs.CallEnd.{CallEnd, Status}
use Rattle.grpc_heads.specs.GrpcStatus.{GrpcStatus}
use Rattle.grpc_heads.specs.declared.head.Method.{Method}
use Rattle.grpc_heads.specs.declared.head.Method.TheVariants.{Modify}
use Rattle.h2_exchange.specs.Calls.{Call, Begun, Request, Finished, Dropped, Declined, are_in_place, ends_call as drops_call}
use Rattle.h2_exchange.specs.StreamParts.{Item, Message, Finish}
use Rattle.table_model.specs.declared.command.Command.{Command}
use Rattle.table_model.specs.declared.command.Command.TheVariants as command
use Rattle.table_model.specs.declared.reply.Reply.{Reply}
use Rattle.table_model.specs.declared.reply.Reply.TheVariants as reply
use Rattle.table_model.specs.Event.{Event, is_began}
use Rattle.call_answers.specs.Ends.{status_by}
use Rattle.call_answers.specs.Orders.{orders_of, commands_of}
use Rattle.call_answers.specs.declared.orders.Setting.{Setting}
use Rattle.call_requests.specs.Asked.{bad_message}
use Rattle.call_orders.specs.Owed.{end_items, has_end, id_of, items_to, is_operate, moment_of, selected_items, ends_call, modify_responses, ok, want_of_memory}
use Rattle.call_orders.specs.Calls.{Action, Handles, Collects, Continues, asked_by, stream_of, events_of, cut_of, without_leaves, is_clear, answers, standing}
use Rattle.call_orders.specs.Actions.{AreDone, AreDoneInPart, leave, timeless, calls_in, events_in}
use Rattle.call_orders.specs.Orders.{AreOrders, ConnectionEnd, GoesOn, Spent, begun_in, left_in, actions_on, cuts, events_on}

-- ---- words

-- how often a number stands in a list
abbrev pub count : ℕ → List ℕ → ℕ
count k [] = 0
count k (x ∷ xs) = (if x == k then 1 else 0) + count k xs

-- the session of a command that a Modify call gives, its Begin and its Leave apart
abbrev pub session_of : Command → Option ℕ
session_of (command.SetParams session asked) = Some session
session_of (command.Announce session id) = Some session
session_of (command.Operate session operation now) = Some session
session_of (command.Collect session) = Some session
session_of other = None

abbrev pub is_begin : Command → Bool
is_begin command.Begin = true
is_begin other = false

-- the message can't be read
abbrev pub is_bad : Setting → List ℕ → Bool
is_bad s m = is_some (first_fault s.numbering message.ModifyRequest m)

-- what a client does that ends its Modify call: a message that can't be read, a drop, or what is declined
abbrev pub refuses : Setting → Call Method CallEnd → Bool
refuses s (Request id m) = is_bad s m
refuses s (Dropped id) = true
refuses s (Declined id answer) = true
refuses s other = false

abbrev pub refuses_in : Setting → Action → Bool
refuses_in s (Handles call did cut) = refuses s call
refuses_in s (Collects id did cut) = false
refuses_in s (Continues id cut) = false

-- what ends a Modify call, but for its good end: a refusal, a reply, or want of memory
abbrev pub ends_by : Setting → Action → Bool
ends_by s a = refuses_in s a || is_some (cut_of a) || list_any (ends_call s) (without_leaves (events_of a))

-- the client of the stream has ended its side
abbrev pub is_finish_of : ℕ → Call Method CallEnd → Bool
is_finish_of id (Finished stream) = stream == id
is_finish_of id other = false

-- The Modify call of the stream has this session, and nothing has ended it.
pub record IsOpen (s : Setting) (actions : List Action) (id session : ℕ) : Type 0 where
  pub begun : begun_in (events_on actions id) ≡ session ∷ []
  pub stays : count session (left_in (events_in actions)) ≡ 0
  pub unended : list_any (ends_by s) (actions_on actions id) ≡ false

-- an entry that begins a session by another command than Begin
abbrev pub is_stray : Event → Bool
is_stray e = is_began e.reply && not (is_begin e.command)

-- What a lawful history and the calls of an exchange have: each session is begun once, by a Begin, and the calls stand in their places.
pub record AreUsual (calls : List (Call Method CallEnd)) (own : List Event) : Type 0 where
  pub differ : (session : ℕ) → count session (begun_in own) ≤ 1
  pub begins : list_any is_stray own ≡ false
  pub in_place : are_in_place calls ≡ true

abbrev pub Always : Setting → (List (Call Method CallEnd) → List Event → ConnectionEnd → List Action → Type 0) → Type 0
Always s law = (calls : List (Call Method CallEnd)) (own : List Event) (end : ConnectionEnd) (actions : List Action) →
    AreOrders s calls own end actions → AreUsual calls own → law calls own end actions

-- ---- the laws

-- A message of an open Modify call gives its parameters, its election id and its operations, one after another, up to the first reply
-- that ends the call; the first of them where memory was wanting.
abbrev pub RequestsAreDone : Setting → Type 0
RequestsAreDone s = Always s (λ calls own end actions. (later earlier : List Action) (id session : ℕ) (m : List ℕ) (did : List Event) (cut : Option ℕ) →
    actions ≡ later ++ Handles (Request id m) did cut ∷ earlier → IsOpen s earlier id session → is_bad s m ≡ false →
    AreDoneInPart s (commands_of session (pos 0) (orders_of s m)) (without_leaves did)
    × (cut ≡ None → AreDone s (commands_of session (pos 0) (orders_of s m)) (without_leaves did)))

-- Nothing else orders: a command of a session, its Begin and its Leave apart, is of an open Modify call with that session.
abbrev pub NothingElseOrders : Setting → Type 0
NothingElseOrders s = Always s (λ calls own end actions. (later earlier : List Action) (a : Action) (before behind : List Event) (e : Event) (session : ℕ) →
    actions ≡ later ++ a ∷ earlier → events_of a ≡ before ++ e ∷ behind → session_of e.command ≡ Some session → IsOpen s earlier (stream_of a) session)

-- Each command of a session, a Collect too, is on one that was begun on this connection before it, and whose Leave doesn't stand before it.
abbrev pub SessionsAreOwn : Setting → Type 0
SessionsAreOwn s = Always s (λ calls own end actions. (before behind : List Event) (e : Event) (session : ℕ) →
    own ≡ before ++ e ∷ behind → session_of e.command ≡ Some session → (1 ≤ count session (begun_in before)) × (count session (left_in before) ≡ 0))

-- Each session begun has at most one Leave, no other session has one, and each has one where the connection is over for another cause
-- than Spent.
abbrev pub LeavesAreOnce : Setting → Type 0
LeavesAreOnce s = Always s (λ calls own end actions. (session : ℕ) →
    (count session (left_in own) ≤ 1)
    × (count session (left_in own) ≤ count session (begun_in own))
    × (end ≢ GoesOn → end ≢ Spent → count session (left_in own) ≡ count session (begun_in own)))

-- the Leave is the next own entry, or the call for it was Spent
abbrev pub LeaveIsNext : ConnectionEnd → ℕ → List Event → Type 0
LeaveIsNext end session behind = ((said : Reply) × (more : List Event) × (behind ≡ leave session said ∷ more)) ⊎ ((end ≡ Spent) × (behind ≡ []))

-- Behind a reply that ends the call of a session its Leave comes next.
abbrev pub EndsLeave : Setting → Type 0
EndsLeave s = Always s (λ calls own end actions. (before behind : List Event) (e : Event) (session : ℕ) →
    own ≡ before ++ e ∷ behind → session_of e.command ≡ Some session → ends_call s e ≡ true → LeaveIsNext end session behind)

-- A message that can't be read, a drop and what is declined give the Leave alone; want of memory and a reply that ends the call, behind
-- the commands that were done.
abbrev pub RefusalsLeave : Setting → Type 0
RefusalsLeave s = Always s (λ calls own end actions. (later earlier : List Action) (a : Action) (session : ℕ) →
    actions ≡ later ++ a ∷ earlier → IsOpen s earlier (stream_of a) session → ends_by s a ≡ true →
    ((said : Reply) × (events_of a ≡ without_leaves (events_of a) ++ leave session said ∷ []))
    × (refuses_in s a ≡ true → without_leaves (events_of a) ≡ []))

abbrev pub is_finished_in : List Action → ℕ → Bool
is_finished_in actions id = list_any (is_finish_of id) (calls_in actions)

-- the client has ended its side, and results were collected of which no more is outstanding
abbrev pub is_last_collect : List Action → Action → Bool
is_last_collect earlier a = is_finished_in earlier (stream_of a) && list_any (λ e. is_clear e.reply) (without_leaves (events_of a))

-- While nothing else ends a call its session leaves right behind a Collect that answered 0 once its client has ended its side, and not
-- before.
abbrev pub FinishedLeave : Setting → Type 0
FinishedLeave s = Always s (λ calls own end actions. (later earlier : List Action) (a : Action) (session : ℕ) →
    actions ≡ later ++ a ∷ earlier → IsOpen s earlier (stream_of a) session → ends_by s a ≡ false →
    (is_last_collect earlier a ≡ false → events_of a ≡ without_leaves (events_of a))
    × (is_last_collect earlier a ≡ true → (said : Reply) × (end_said : Reply)
    × (events_of a ≡ record { command = command.Collect session; reply = said } ∷ leave session end_said ∷ [])))

-- ---- answers

-- the responses that an entry of a Modify call is owed, and the end that its reply brings
abbrev pub responses_to : Setting → Event → List (List ℕ)
responses_to s e = modify_responses s.numbering (id_of e.command) (moment_of e.command) e.reply

abbrev pub entry_ends : Event → List CallEnd
entry_ends e = map Status (option_to_list (status_by (is_operate e.command) e.reply))

-- the end that a message brings by itself, or with which a call is declined
abbrev pub call_ends : Setting → Call Method CallEnd → List CallEnd
call_ends s (Request id m) = map (λ fault. Status (bad_message fault)) (option_to_list (first_fault s.numbering message.ModifyRequest m))
call_ends s (Declined id answer) = answer ∷ []
call_ends s other = []

-- the ends that an action brings a Modify call
abbrev pub ends_in : Setting → List Action → Action → List CallEnd
ends_in s earlier (Handles call did cut) = flat_map entry_ends (without_leaves did) ++ call_ends s call
ends_in s earlier (Collects id did cut) =
    flat_map entry_ends (without_leaves did) ++ (if is_last_collect earlier (Collects id did cut) then Status ok ∷ [] else [])
ends_in s earlier (Continues id cut) = []

-- all ends that the actions for a stream bring, of which the first stands
unfoldable pub modify_ends : Setting → List Action → ℕ → List CallEnd
modify_ends s [] id = []
modify_ends s (a ∷ earlier) id = modify_ends s earlier id ++ (if stream_of a == id then ends_in s earlier a else [])

abbrev pub is_cut : List Action → ℕ → Bool
is_cut actions id = list_any (λ a. is_some (cut_of a)) (actions_on actions id)

-- Where memory was never wanting for it, a Modify call is owed the responses of its entries, in their order, and then its first end.
abbrev pub ModifyIsAnswered : Setting → Type 0
ModifyIsAnswered s = Always s (λ calls own end actions. (id session : ℕ) →
    begun_in (events_on actions id) ≡ session ∷ [] → is_cut actions id ≡ false →
    answers s actions id ≡ map Message (flat_map (responses_to s) (without_leaves (events_on actions id))) ++ map Finish (take 1 (modify_ends s actions id)))

-- ---- a Get and a Flush

-- the methods and the messages of the calls on a stream, in order
abbrev pub method_in : ℕ → Call Method CallEnd → Option Method
method_in id (Begun stream method) = if stream == id then Some method else None
method_in id other = None

abbrev pub message_in : ℕ → Call Method CallEnd → Option (List ℕ)
message_in id (Request stream m) = if stream == id then Some m else None
message_in id other = None

abbrev pub methods_on : List (Call Method CallEnd) → ℕ → List Method
methods_on calls id = filter_map (method_in id) calls

abbrev pub messages_on : List (Call Method CallEnd) → ℕ → List (List ℕ)
messages_on calls id = filter_map (message_in id) calls

abbrev pub is_single : Method → Bool
is_single Modify = false
is_single other = true

-- what the messages of a Get or a Flush ask for: one is expected
abbrev pub asked_with : Setting → Method → List (List ℕ) → Result Command GrpcStatus
asked_with s method [] = asked_by s method None false
asked_with s method (m ∷ []) = asked_by s method (Some m) false
asked_with s method (m ∷ n ∷ more) = asked_by s method (Some m) true

-- what the entry of a Get or a Flush owes: a Get whose entries were selected, their responses and then OK
abbrev pub single_to : Setting → Command → Reply → List (Item CallEnd)
single_to s c (reply.Selected rows) = selected_items s rows
single_to s c said = items_to s c said

-- Nothing is done before its client ends its side; then its command is done, or it is refused.
abbrev pub IsOnceDone : Setting → Bool → Result Command GrpcStatus → List Event → List (Item CallEnd) → Type 0
IsOnceDone s false asked did items = (did ≡ []) × (items ≡ [])
IsOnceDone s true (Err refusal) did items = (did ≡ []) × (items ≡ end_items (Some refusal))
IsOnceDone s true (Ok c) did items = (e : Event) × (did ≡ e ∷ []) × (timeless e.command ≡ timeless c) × (items ≡ single_to s e.command e.reply)

-- A Get and a Flush that are neither dropped nor declined, and for which memory was never wanting.
abbrev pub SinglesAreAnswered : Setting → Type 0
SinglesAreAnswered s = Always s (λ calls own end actions. (id : ℕ) (method : Method) →
    methods_on (calls_in actions) id ≡ method ∷ [] → is_single method ≡ true → is_cut actions id ≡ false → list_any (drops_call id) (calls_in actions) ≡ false →
    IsOnceDone s (is_finished_in actions id) (asked_with s method (messages_on (calls_in actions) id)) (events_on actions id) (answers s actions id))

-- ---- want of memory

-- the items that were made for the call on a stream, without those that it is still to be given
abbrev pub made_for : Setting → List Action → ℕ → List (Item CallEnd)
made_for s actions id = (standing s actions id).items

-- A call is ended for want of memory once at most. It is owed what was made for it before, and maybe more, no end among it, and then
-- that end alone.
abbrev pub CutsAreFinal : Setting → Type 0
CutsAreFinal s = Always s (λ calls own end actions.
    ((id : ℕ) → count id (map (λ c. c.stream) (cuts actions)) ≤ 1)
    × ((later earlier : List Action) (a : Action) (made : ℕ) → actions ≡ later ++ a ∷ earlier → cut_of a ≡ Some made →
    (items : List (Item CallEnd)) × (answers s actions (stream_of a) ≡ items ++ Finish (Status want_of_memory) ∷ [])
    × (length items ≡ made) × (has_end items ≡ false) × (take (length (made_for s earlier (stream_of a))) items ≡ made_for s earlier (stream_of a))))
