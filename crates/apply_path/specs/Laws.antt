-- All that an input asks for, in one row.
use Rattle.std.specs.Prelude.{ℕ, ◌+◌, Bool, true, false, List, [], ◌∷◌, ◌++◌, Option, Some, None, if◌then◌else◌}
use Rattle.std.specs.Option.{option_map, option_or}
use Rattle.proto_schema.specs.declared.legal.MessageFault.{MessageFault}
use Rattle.proto_schema.specs.declared.legal.MessageFault.TheVariants.{Wire, Utf8}
use Rattle.message_run.specs.Behaviour.{Ending, Reply, Field}
use Rattle.call_answers.specs.declared.orders.Setting.{Setting}
use Rattle.table_model.specs.declared.job.Verdict.{Verdict}
use Rattle.table_model.specs.Event.{Event}
use Rattle.inline_worker.specs.Turns.{behind}
use Rattle.apply_path.specs.Responses.{begun, fault_of, message_events}

-- A field of the message can't be read. No first fault is NoMemory.
abbrev pub is_unreadable : Option MessageFault → Bool
is_unreadable (Some (Wire place found)) = true
is_unreadable (Some (Utf8 place)) = true
is_unreadable _ = false

-- the messages before the first that can't be read
unfoldable pub readable : Setting → List (List ℕ) → List (List ℕ)
readable s [] = []
readable s (m ∷ ms) = if is_unreadable (fault_of s m) then [] else m ∷ readable s ms

-- where the field stands that can't be read
abbrev pub unreadable_place : Option MessageFault → Option ℕ
unreadable_place (Some (Wire place found)) = Some place
unreadable_place (Some (Utf8 place)) = Some place
unreadable_place _ = None

-- the place of the field, in the first message that can't be read
unfoldable pub first_unreadable : Setting → List (List ℕ) → Option ℕ
first_unreadable s [] = None
first_unreadable s (m ∷ ms) = option_or (unreadable_place (fault_of s m)) (first_unreadable s ms)

-- a stream ends by the first reply that ends it, and else where a message can't be read
abbrev pub ending_by : Option ℕ → Option ℕ → Option Ending
ending_by (Some code) place = Some (Reply code)
ending_by None place = option_map (λ place. Field place) place

-- The events of messages, the first of which is at this place: those of their commands, and behind each message those of the worker
-- and of the session that collects.
unfoldable pub events_from : Setting → List Verdict → List Event → ℕ → List (List ℕ) → List Event
events_from s said past place [] = []
events_from s said past place (m ∷ ms) =
    let es = message_events s said past place m in
    es ++ events_from s said (behind past es) (place + 1) ms

-- the one-thread server's events for an input's messages that can be read, behind the session's beginning
abbrev pub events_of : Setting → List Verdict → List (List ℕ) → List Event
events_of s said messages = events_from s said (begun s) 1 (readable s messages)
