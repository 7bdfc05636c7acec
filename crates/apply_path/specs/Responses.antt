-- What `apply` makes of the messages of its input. They are ModifyRequests (gRIBI) of one session, the first of its table, and the
-- moment of a message's operations is its place among the messages, counted from 1.
use Rattle.std.specs.Prelude.{ℕ, ℤ, pos, ◌+◌, List, [], ◌∷◌, ◌++◌, length, Option, Some, None, is_some, if◌then◌else◌}
use Rattle.std.specs.Option.{option_map}
use Rattle.proto_schema.specs.declared.schema.MessageKind.TheVariants.{ModifyRequest}
use Rattle.proto_schema.specs.declared.legal.MessageFault.{MessageFault}
use Rattle.proto_schema.specs.declared.legal.MessageFault.TheVariants.{Wire, Utf8, NoMemory}
use Rattle.proto_schema.specs.Legal.{first_fault}
use Rattle.message_run.specs.Behaviour.{Behaviour, Response, Reply, Field}
use Rattle.call_answers.specs.Orders.{commands_of, orders_of}
use Rattle.call_answers.specs.declared.orders.Setting.{Setting}
use Rattle.table_model.specs.declared.command.Command.TheVariants.{Begin, Leave}
use Rattle.table_model.specs.declared.command.Config.{Config}
use Rattle.table_model.specs.Event.{Event}
use Rattle.table_model.specs.declared.job.Verdict.{Verdict}
use Rattle.inline_worker.specs.Turns.{behind, events_behind}
use Rattle.apply_path.specs.History.{event, answered, first_end, CommandRun, run_of_events}

-- the table's set-up: the configured network instances, one worker, and a million entries
abbrev pub config_with : ℕ → Config
config_with instances = record { instances = instances; workers = 1; limit = 1000000 }

abbrev pub config_of : Setting → Config
config_of s = config_with (length s.instances)

abbrev pub fault_of : Setting → List ℕ → Option MessageFault
fault_of s message = first_fault s.numbering ModifyRequest message

-- the session has begun
abbrev pub begun : Setting → List Event
begun s = event (config_of s) [] Begin ∷ []

-- The events of a message's commands, and where no reply to them ends the stream, those of the only worker, which takes its jobs
-- until it has none, and of the session, which collects until nothing is outstanding. The device's answers are a list.
abbrev pub with_turns : Setting → List Verdict → ℤ → List Event → List Event → List Event
with_turns s said now past asked = asked ++ (if is_some (first_end asked) then [] else events_behind (config_of s) said now (behind past asked))

abbrev pub message_events : Setting → List Verdict → List Event → ℕ → List ℕ → List Event
message_events s said past place message =
    if is_some (fault_of s message) then []
    else with_turns s said (pos place) past (answered (config_of s) past (commands_of 0 (pos place) (orders_of s message)))

-- a message after a history
abbrev pub run_message : Setting → List Verdict → List Event → ℕ → List ℕ → CommandRun
run_message s said past place message = run_of_events s.numbering past (message_events s said past place message)

-- the history behind messages, the first of which is at this place, each done up to the reply that ends the stream
unfoldable pub history_from : Setting → List Verdict → List Event → ℕ → List (List ℕ) → List Event
history_from s said past place [] = past
history_from s said past place (m ∷ ms) = history_from s said (run_message s said past place m).past (place + 1) ms

-- of an input's messages: the session begins, and they are done
abbrev pub history : Setting → List Verdict → List (List ℕ) → List Event
history s said messages = history_from s said (begun s) 1 messages

-- and then the session leaves; the worker does no more
abbrev pub history_with_leave : Setting → List Verdict → List (List ℕ) → List Event
history_with_leave s said messages = event (config_of s) (history s said messages) (Leave 0) ∷ history s said messages

-- What a message comes to, by its first fault and what its commands come to. No first fault is NoMemory, so nothing comes to the
-- last arm.
abbrev pub response_by : Option MessageFault → CommandRun → Response
response_by None done = record { written = done.written; ending = option_map (λ code. Reply code) done.ending }
response_by (Some (Wire place found)) done = record { written = []; ending = Some (Field place) }
response_by (Some (Utf8 place)) done = record { written = []; ending = Some (Field place) }
response_by (Some NoMemory) done = record { written = []; ending = None }

-- What a message comes to after others, with a device that says so: its answers, the results of the forwarding table behind them,
-- and the first reply that ends the stream. One with a fault can't be read there, and gives no answer.
unfoldable pub apply_behaviour : Setting → List Verdict → Behaviour
apply_behaviour s said done message = response_by (fault_of s message) (run_message s said (history s said done) (length done + 1) message)
