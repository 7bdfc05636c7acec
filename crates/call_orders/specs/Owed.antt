-- What an entry of the table's history, a command with its reply, owes the call that gave it (gRIBI): responses, and the status that
-- ends the call.
use Rattle.std.specs.Prelude.{ℕ, ℤ, pos, Bool, true, false, map, List, [], ◌∷◌, ◌++◌, Option, Some, None, codes}
use Rattle.std.specs.List.{list_any}
use Rattle.std.specs.Option.{option_map_or}
use Rattle.schema_numbers.specs.Numbers.{Numbers}
use Rattle.aft_entries.specs.declared.operation.Row.{Row}
use Rattle.gribi_messages.specs.GetAndFlush.{flush_response_bytes}
use Rattle.gribi_messages.specs.Response.{response_bytes}
use Rattle.grpc_heads.specs.GrpcStatus.{GrpcStatus}
use Rattle.grpc_heads.specs.CallEnd.{CallEnd, Status}
use Rattle.h2_exchange.specs.StreamParts.{Item, Message, Finish}
use Rattle.table_model.specs.declared.command.Command.{Command}
use Rattle.table_model.specs.declared.command.Command.TheVariants as command
use Rattle.table_model.specs.declared.reply.Reply.{Reply}
use Rattle.table_model.specs.declared.reply.Reply.TheVariants as reply
use Rattle.table_model.specs.Event.{Event}
use Rattle.call_answers.specs.Answers.{response_for}
use Rattle.call_answers.specs.Ends.{ending, status_by}
use Rattle.call_answers.specs.declared.orders.Setting.{Setting}
use Rattle.call_requests.specs.Responses.{flush_answer, get_responses}

-- ---- commands

abbrev pub is_operate : Command → Bool
is_operate (command.Operate session operation now) = true
is_operate _ = false

abbrev pub is_leave : Command → Bool
is_leave (command.Leave session) = true
is_leave _ = false

-- an operation's result bears its id and its moment, and a Flush's response its moment
abbrev pub id_of : Command → ℕ
id_of (command.Operate session operation now) = operation.id
id_of _ = 0

abbrev pub moment_of : Command → ℤ
moment_of (command.Operate session operation now) = now
moment_of (command.Flush by which now) = now
moment_of _ = pos 0

-- ---- ends

abbrev pub ok : GrpcStatus
ok = ending 0 [] None

-- what a call ends with for want of memory above the table
abbrev pub want_of_memory : GrpcStatus
want_of_memory = ending 8 (codes "want of memory") None

abbrev pub end_items : Option GrpcStatus → List (Item CallEnd)
end_items None = []
end_items (Some status) = Finish (Status status) ∷ []

-- messages, and then the end, if one is due
abbrev pub items_by : List (List ℕ) → Option GrpcStatus → List (Item CallEnd)
items_by messages end = map Message messages ++ end_items end

abbrev pub is_end : Item CallEnd → Bool
is_end (Message m) = false
is_end (Finish end) = true

-- an end is owed
abbrev pub has_end : List (Item CallEnd) → Bool
has_end items = list_any is_end items

-- ---- responses

-- what a Get owes whose entries were selected: their responses, at most 64 entries in each, and then OK
abbrev pub selected_items : Setting → List Row → List (Item CallEnd)
selected_items s rows = items_by (get_responses s.numbering s.instances rows) (Some ok)

abbrev pub flush_response : Setting → ℤ → Bool → List ℕ
flush_response s now remain = flush_response_bytes s.numbering (flush_answer s.numbering now remain)

-- the response to a command of a Modify call, if its reply is owed one
abbrev pub modify_responses : Numbers → ℕ → ℤ → Reply → List (List ℕ)
modify_responses n id now said = option_map_or (λ r. response_bytes n r ∷ []) (response_for n id now said) []

-- ---- what is owed

abbrev pub modify_items : Numbers → Bool → ℕ → ℤ → Reply → List (Item CallEnd)
modify_items n operate id now said = items_by (modify_responses n id now said) (status_by operate said)

abbrev pub flush_items : Setting → ℤ → Reply → List (Item CallEnd)
flush_items s now (reply.Flushed remain) = items_by (flush_response s now remain ∷ []) (Some ok)
flush_items s now said = end_items (status_by false said)

-- The responses to a Get are given one by one, so its entries owe nothing at once.
abbrev pub items_to : Setting → Command → Reply → List (Item CallEnd)
items_to s command.Begin said = end_items (status_by false said)
items_to s (command.Select which kinds) said = end_items (status_by false said)
items_to s (command.Flush by which now) said = flush_items s now said
items_to s c said = modify_items s.numbering (is_operate c) (id_of c) (moment_of c) said

-- what is owed at once for a command and its reply
abbrev pub items_for : Setting → Event → List (Item CallEnd)
items_for s e = items_to s e.command e.reply

-- the reply ends the call
abbrev pub ends_call : Setting → Event → Bool
ends_call s e = has_end (items_for s e)
