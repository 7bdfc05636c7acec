-- A Get and a Flush: what their message asks for, and what the reply to its command brings.
use Rattle.std.specs.Prelude.{◌≡◌, ℕ, ℤ, ◌||◌, Bool, true, false, List, [], ◌∷◌, ◌++◌, Option, Some, None, Result, Ok, Err}
use Rattle.grpc_heads.specs.GrpcStatus.{GrpcStatus}
use Rattle.grpc_heads.specs.CallEnd.{CallEnd}
use Rattle.grpc_heads.specs.declared.head.Method.{Method}
use Rattle.h2_exchange.specs.StreamParts.{Item}
use Rattle.table_lock.specs.declared.machine.Entry.{Entry}
use Rattle.table_lock.specs.Passes.{PassView}
use Rattle.table_model.specs.declared.command.Command.{Command}
use Rattle.table_model.specs.declared.command.Command.TheVariants as command
use Rattle.table_model.specs.declared.reply.Reply.{Reply}
use Rattle.table_model.specs.declared.reply.Reply.TheVariants as reply
use Rattle.table_model.specs.Event.{Event}
use Rattle.call_answers.specs.Ends.{status_by}
use Rattle.call_answers.specs.declared.orders.Setting.{Setting}
use Rattle.call_requests.specs.declared.asks.AskFault.{AskFault}
use Rattle.call_requests.specs.declared.asks.AskFault.TheVariants as fault
use Rattle.call_orders.specs.Owed.{end_items, flush_response, items_by, items_for, ok}
use Rattle.call_orders.specs.Calls.{CallState, Receives}
use Rattle.call_orders.specs.Actions.{timeless}
use Rattle.call_orders.specs.Orders.{is_stopped_by}
use Rattle.session_engine.specs.declared.step.Step.{Step}
use Rattle.session_engine.specs.declared.singles.Asked.{Asked}
use Rattle.session_engine.specs.declared.singles.Asked.TheVariants as asked
use Rattle.session_engine.specs.declared.singles.SingleEnd.{SingleEnd}
use Rattle.session_engine.specs.declared.singles.SingleEnd.TheVariants as single
use Rattle.session_engine.specs.Stands.{IsSpentBehind, MakesEntries, items_in}
use Rattle.session_engine.specs.Steps.{rows_selected}

abbrev pub is_single_command : Command → Bool
is_single_command (command.Select which kinds) = true
is_single_command (command.Flush by which now) = true
is_single_command other = false

-- the moment of a Flush
abbrev pub flush_moment : Command → Option ℤ
flush_moment (command.Flush by which now) = Some now
flush_moment other = None

-- what was read is what is asked for, unless there was no memory
abbrev pub AsksFor : Asked → Result Command GrpcStatus → Type 0
AsksFor (asked.Does c) said = (said ≡ Ok (timeless c)) × (is_single_command c ≡ true)
AsksFor (asked.Refused status) said = said ≡ Err status
AsksFor asked.OutOfMemory said = Unit {0}

abbrev pub IsRefusal : AskFault → Asked → Type 0
IsRefusal (fault.Refused status) read = read ≡ asked.Refused status
IsRefusal fault.NoMemory read = read ≡ asked.OutOfMemory

-- a Flush that was done at this moment, and whether entries remain
abbrev pub flushed_by : Option ℤ → Reply → Option (ℤ × Bool)
flushed_by (Some now) (reply.Flushed remains) = Some (now, remains)
flushed_by moment said = None

abbrev pub items_flushed : Setting → Reply → Option (ℤ × Bool) → List (Item CallEnd)
items_flushed s said (Some done) = items_by (flush_response s done.0 done.1 ∷ []) (Some ok)
items_flushed s said None = end_items (status_by false said)

-- what a Get or a Flush is owed for its reply
abbrev pub single_items : Setting → Option ℤ → Reply → List (Item CallEnd)
single_items s moment said = items_flushed s said (flushed_by moment said)

-- the step got these items, or, for want of memory, none
abbrev pub AddsOrNone : Bool → List (Item CallEnd) → Step → Step → Type 0
AddsOrNone true items before after = items_in after ≡ items_in before ++ items
AddsOrNone false items before after = (after.end ≡ None) × (items_in after ≡ items_in before)

abbrev pub single_entry : Command → Reply → Event
single_entry c said = record { command = c; reply = said }

-- the call is done with the first message that came, and with whether others came
abbrev pub IsReceiving : Method → Option (List ℕ) → Bool → CallState → Type 0
IsReceiving method first is_more state = state ≡ Receives method first is_more

-- how a reply leaves a Get or a Flush, where there was memory for its items or not
abbrev pub EndsSingle : Reply → Bool → SingleEnd → Type 0
EndsSingle said false end = end ≡ single.OutOfMemory
EndsSingle said true (single.Selects rows) = rows_selected said ≡ Some rows
EndsSingle said true single.Over = rows_selected said ≡ None
EndsSingle said true single.OutOfMemory = ⊥
EndsSingle said true single.Spent = ⊥

module _ {G : Type 0} (lawful : G → List (Entry Command Reply) → Type 0) (setup : G) where
  -- what a command of a Get or a Flush makes
  pub record DoesSingle (s : Setting) (p q : PassView Command Reply G) (c : Command) (said : Reply) (told : Bool) (end : SingleEnd) (before after :
      Step) : Type 0 where
    pub entries : MakesEntries lawful setup p q (single_entry c said ∷ [])
    pub items : AddsOrNone told (items_for s (single_entry c said)) before after
    pub ends : EndsSingle said told end
    pub halted : after.halted ≡ (before.halted || is_stopped_by said)

  -- or its call was Spent
  abbrev pub SingleGoes : Setting → PassView Command Reply G → PassView Command Reply G → Command → SingleEnd → Step → Step → Type 0
  SingleGoes s p q c single.Spent before after = IsSpentBehind lawful setup p q []
  SingleGoes s p q c end before after = (said : Reply) × (told : Bool) × DoesSingle s p q c said told end before after
