-- What the one-thread server makes of commands (gRIBI), the answers to them as they stand in the output, and where they end their
-- stream.
use Rattle.std.specs.Prelude.{ℕ, ℤ, pos, Bool, true, false, List, [], ◌∷◌, Option, None, is_some, if◌then◌else◌}
use Rattle.std.specs.List.{flat_map}
use Rattle.std.specs.Option.{option_map, option_map_or, option_or}
use Rattle.schema_numbers.specs.Numbers.{Numbers}
use Rattle.grpc_framing.specs.Framing.{item}
use Rattle.gribi_messages.specs.Response.{response_bytes}
use Rattle.table_model.specs.declared.command.Command.{Command}
use Rattle.table_model.specs.declared.command.Command.TheVariants.{Operate}
use Rattle.table_model.specs.declared.command.Config.{Config}
use Rattle.table_model.specs.declared.reply.Reply.{Reply}
use Rattle.table_model.specs.Event.{Event}
use Rattle.table_model.specs.Reply.{reply_to}
use Rattle.inline_worker.specs.Turns.{behind}
use Rattle.call_answers.specs.Answers.{response_for}
use Rattle.call_answers.specs.Ends.{status_by}

-- ---- events

-- the event of a command after a history, the latest event first: the command, and the server's reply
abbrev pub event : Config → List Event → Command → Event
event config past command = record { command = command; reply = reply_to config past command }

-- the events of commands, one after another, the first first
unfoldable pub answered : Config → List Event → List Command → List Event
answered config past [] = []
answered config past (c ∷ cs) = event config past c ∷ answered config (event config past c ∷ past) cs

-- ---- ends

abbrev pub is_operate : Command → Bool
is_operate (Operate session operation now) = true
is_operate _ = false

-- the status number that a reply ends the stream with, if it does
abbrev pub status_code_by : Bool → Reply → Option ℕ
status_code_by operate reply = option_map (λ ending. ending.code) (status_by operate reply)

abbrev pub status_code_of : Event → Option ℕ
status_code_of e = status_code_by (is_operate e.command) e.reply

-- the events up to and including the first that ends the stream
unfoldable pub up_to_end : List Event → List Event
up_to_end [] = []
up_to_end (e ∷ es) = e ∷ (if is_some (status_code_of e) then [] else up_to_end es)

-- and its status number
unfoldable pub first_end : List Event → Option ℕ
first_end [] = None
first_end (e ∷ es) = option_or (status_code_of e) (first_end es)

-- ---- answers

-- an operation's result bears its id and its moment
abbrev pub id_of : Command → ℕ
id_of (Operate session operation now) = operation.id
id_of _ = 0

abbrev pub moment_of : Command → ℤ
moment_of (Operate session operation now) = now
moment_of _ = pos 0

-- the answer that is owed for a reply, as it stands in the output
unfoldable pub response_item : Numbers → ℕ → ℤ → Reply → List ℕ
response_item n id now reply = option_map_or (λ r. item (response_bytes n r)) (response_for n id now reply) []

abbrev pub answer_bytes : Numbers → Event → List ℕ
answer_bytes n e = response_item n (id_of e.command) (moment_of e.command) e.reply

-- ---- commands in a row

-- the answers, the status number of the reply that ends the stream, if one does, and the history behind it
pub record CommandRun : Type 0 where
  pub written : List ℕ
  pub ending : Option ℕ
  pub past : List Event

-- of events
abbrev pub run_of_events : Numbers → List Event → List Event → CommandRun
run_of_events n past es = record { written = flat_map (answer_bytes n) (up_to_end es); ending = first_end es; past = behind past (up_to_end es) }

-- of commands after a history: those behind the reply that ends the stream aren't done
unfoldable pub run_commands : Numbers → Config → List Event → List Command → CommandRun
run_commands n config past cs = run_of_events n past (answered config past cs)
