-- What a session of `apply` keeps, and what it does with commands in a row.
use Rattle.std.specs.Prelude.{◌≡◌, ◌+◌, ◌-◌, ◌<◌, ◌≤◌, ◌^◌, ℕ, ℤ, Bool, true, false, List, [], ◌∷◌, ◌++◌, length, Option, Some, None}
use Rattle.std.specs.List.{flat_map}
use Rattle.std.specs.Option.{option_map_or}
use Rattle.schema_numbers.specs.Numbers.{Numbers}
use Rattle.proto_schema.specs.declared.legal.MessageFault.{MessageFault}
use Rattle.proto_schema.specs.declared.legal.MessageFault.TheVariants.{Wire, Utf8}
use Rattle.proto_schema.specs.declared.legal.MessageFault.TheVariants as fault
use Rattle.call_answers.specs.declared.orders.Setting.{Setting}
use Rattle.table_model.specs.declared.command.Command.{Command}
use Rattle.table_model.specs.declared.command.Command.TheVariants.{Begin, SetParams, Announce}
use Rattle.table_model.specs.declared.command.Config.{Config}
use Rattle.table_model.specs.declared.params.AskedParams.{AskedParams}
use Rattle.table_model.specs.declared.reply.Reply.{Reply}
use Rattle.table_model.specs.declared.job.Verdict.{Verdict}
use Rattle.table_model.specs.Event.{Event, is_no_memory}
use Rattle.table_model.specs.Jobs.{fib}
use Rattle.table_model.specs.Reply.{is_halted}
use Rattle.table_model.specs.Sessions.{is_live}
use Rattle.fib_worker.specs.Shards.{HoldsShard}
use Rattle.inline_worker.specs.Complete.{IsAtRest}
use Rattle.inline_worker.specs.CoreAt.{CoreAt}
use Rattle.aft_entries.specs.declared.entry.Entry.{Entry}
use Rattle.inline_worker.specs.Turns.{behind, collect_events, failures, reports, undone, work_events}
use Rattle.inline_worker.specs.Works.{DeviceTold}
use Rattle.message_run.specs.Behaviour.{AgreesAt, Behaviour, PartAppended}
use Rattle.rib_core.specs.Core.{Core}
use Rattle.rib_core.specs.Stands.{Acts}
use Rattle.message_run.specs.declared.message_handler.Handled.{Handled}
use Rattle.message_run.specs.declared.message_handler.Handled.TheVariants.{Continue, Ends, Unreadable, NoMemory}
use Rattle.apply_path.specs.History.{event, answer_bytes, status_code_by, response_item, CommandRun, run_commands}
use Rattle.apply_path.specs.Responses.{apply_behaviour, config_with, config_of, fault_of, history, history_with_leave, run_message}

-- The behaviour is the one with a device that said this. It failed at most as often as its faults rose, unless they count no further.
pub record Shows (s : Setting) (device : DeviceTold) (f : Behaviour) : Type 0 where
  pub said : List Verdict
  pub behaves : f ≡ apply_behaviour s said
  pub later : device.faults_before ≤ device.faults_after
  pub failed : device.faults_after < 2 ^ 64 - 1 → failures said + device.faults_before ≤ device.faults_after

-- the worker is the only one and has no job, no Halt stands, and the session is there
pub record TakesTurns (config : Config) (past : List Event) : Type 0 where
  pub one_worker : config.workers ≡ 1
  pub rest : IsAtRest config past
  pub runs : is_halted past ≡ false
  pub is_there : is_live past 0 ≡ true

-- The messages are done with a device that said so: whatever it says behind that, the history is this one, and the answers to each
-- message are those. The table has that history, and the worker has no job.
pub record SessionAt (s : Setting) (core : Core) (count : ℕ) (device : DeviceTold) (f : Behaviour) (done : List (List ℕ)) : Type 0 where
  pub shown : Shows s device f
  pub past : List Event
  pub past_is : (later : List Verdict) → history s (shown.said ++ later) done ≡ past
  pub agrees : (later : List Verdict) → AgreesAt f (apply_behaviour s (shown.said ++ later)) [] done
  pub stood : CoreAt (config_of s) core past
  pub counted : length shown.said ≡ reports past
  pub few : core.count ≤ 2 ^ 61
  pub count_is : count ≡ length done
  pub takes : TakesTurns (config_of s) past
  pub holds : HoldsShard 1 0 device.held_before (fib []) → HoldsShard 1 0 device.held_after (fib past)

-- it has done them, and its session has left
pub record HasLeft (s : Setting) (core : Core) (device : DeviceTold) (f : Behaviour) (done : List (List ℕ)) : Type 0 where
  pub shown : Shows s device f
  pub stood : CoreAt (config_of s) core (history_with_leave s shown.said done)
  pub holds : HoldsShard 1 0 device.held_before (fib []) → HoldsShard 1 0 device.held_after (fib (history_with_leave s shown.said done))

-- ---- commands in a row, after a history and before whatever others

abbrev pub with_prefix : List ℕ → CommandRun → CommandRun
with_prefix written s = record { written = written ++ s.written; ending = s.ending; past = s.past }

-- they are done, and the others go on from there
pub record RanOn (n : Numbers) (config : Config) (core : Core) (past : List Event) (cs : List Command) (before after : List ℕ) : Type 0 where
  pub now : List Event
  pub written : List ℕ
  pub stood : CoreAt config core now
  pub few : core.count ≤ 2 ^ 61
  pub goes : (others : List Command) → run_commands n config past (cs ++ others) ≡ with_prefix written (run_commands n config now others)
  pub appended : after ≡ before ++ written

-- a reply to one of them ended the stream
pub record Ended (n : Numbers) (config : Config) (core : Core) (past : List Event) (cs : List Command) (code : ℕ)
    (before after : List ℕ) : Type 0 where
  pub now : List Event
  pub written : List ℕ
  pub stood : CoreAt config core now
  pub few : core.count ≤ 2 ^ 61
  pub ends : (others : List Command) → run_commands n config past (cs ++ others) ≡ record { written = written; ending = Some code; past = now }
  pub appended : after ≡ before ++ written

-- there was no memory, and the first of their answers were appended
pub record OutOfMemory (n : Numbers) (config : Config) (past : List Event) (cs : List Command) (before after : List ℕ) : Type 0 where
  pub part : List ℕ
  pub begins : (others : List Command) → (rest : List ℕ) × ((run_commands n config past (cs ++ others)).written ≡ part ++ rest)
  pub appended : after ≡ before ++ part

abbrev pub RunResult : Numbers → Config → Core → List Event → List Command → Handled → List ℕ → List ℕ → Type 0
RunResult n config core past cs Continue before after = RanOn n config core past cs before after
RunResult n config core past cs (Ends code) before after = Ended n config core past cs code before after
RunResult n config core past cs (Unreadable place) before after = ⊥
RunResult n config core past cs NoMemory before after = OutOfMemory n config past cs before after

-- after any history that the table had
abbrev pub RunsCommands : Numbers → Core → Core → List Command → Handled → List ℕ → List ℕ → Type 0
RunsCommands n old new cs answer before after =
    (config : Config) (past : List Event) → CoreAt config old past → RunResult n config new past cs answer before after

-- the commands of a request's parameters, and of its election id
abbrev pub params_commands : Option AskedParams → List Command
params_commands params = option_map_or (λ asked. SetParams 0 asked ∷ []) params []

abbrev pub election_commands : Option ℕ → List Command
election_commands election = option_map_or (λ id. Announce 0 id ∷ []) election []

abbrev pub header_commands : Option AskedParams → Option ℕ → List Command
header_commands params election = params_commands params ++ election_commands election

-- ---- what a reply comes to

-- The answer that is owed was appended, and the reply ends the stream or not. Without memory nothing was appended.
abbrev pub AnswersReply : Numbers → Bool → ℕ → ℤ → Reply → Handled → List ℕ → List ℕ → Type 0
AnswersReply n operate id now given Continue before after =
    (is_no_memory given ≡ false) × (status_code_by operate given ≡ None) × (after ≡ before ++ response_item n id now given)
AnswersReply n operate id now given (Ends code) before after =
    (is_no_memory given ≡ false) × (status_code_by operate given ≡ Some code) × (after ≡ before ++ response_item n id now given)
AnswersReply n operate id now given (Unreadable place) before after = ⊥
AnswersReply n operate id now given NoMemory before after = after ≡ before

-- The table answered the command, unless it had no room for another event.
pub record Replied (old : Core) (command : Command) (answer : Reply) (new : Core) : Type 0 where
  pub acts : is_no_memory answer ≡ false → Acts old command answer new
  pub config : new.config ≡ old.config
  pub few : is_no_memory answer ≡ false → new.count ≤ 2 ^ 61

-- ---- a message that can't be read, and a session that has begun

abbrev pub HandlesFault : MessageFault → Handled → Type 0
HandlesFault (Wire place found) answer = answer ≡ Unreadable place
HandlesFault (Utf8 place) answer = answer ≡ Unreadable place
HandlesFault fault.NoMemory answer = answer ≡ NoMemory

pub record Begun (instances : ℕ) (core : Core) : Type 0 where
  pub stood : CoreAt (config_with instances) core (event (config_with instances) [] Begin ∷ [])
  pub few : core.count ≤ 2 ^ 61

-- ---- the turns behind a message

-- the worker has no job, and all jobs are done
pub record Collects (config : Config) (past : List Event) : Type 0 where
  pub takes : TakesTurns config past
  pub done : undone past ≡ 0

-- it collected what is owed to it, and its results were appended, or for want of memory the first of them
abbrev pub CollectsAll : Numbers → Config → List Event → Core → Handled → List ℕ → List ℕ → Type 0
CollectsAll n config past core Continue before after =
    CoreAt config core (behind past (collect_events config past)) × (after ≡ before ++ flat_map (answer_bytes n) (collect_events config past))
    × (core.count ≤ 2 ^ 61)
CollectsAll n config past core (Ends code) before after = ⊥
CollectsAll n config past core (Unreadable place) before after = ⊥
CollectsAll n config past core NoMemory before after = PartAppended (flat_map (answer_bytes n) (collect_events config past)) before after

-- All turns came, with a device that has said this: whatever it says behind that, the worker's leave this history.
pub record AllTaken (n : Numbers) (config : Config) (now : ℤ) (past : List Event) (heard : List Verdict) (core : Core)
    (held_before held_after : Option (List Entry)) (before after : List ℕ) : Type 0 where
  pub worked : List Event
  pub events_are : (later : List Verdict) → behind past (work_events config (heard ++ later) now past) ≡ worked
  pub counted : length heard ≡ reports worked
  pub takes : TakesTurns config worked
  pub collects : CollectsAll n config worked core Continue before after
  pub holds : HoldsShard 1 0 held_before (fib past) → HoldsShard 1 0 held_after (fib worked)

abbrev pub TurnsBy : Numbers → Config → ℤ → List Event → List Verdict → Core → Option (List Entry) → Option (List Entry) → Handled → List ℕ
    → List ℕ → Type 0
TurnsBy n config now past heard core held_before held_after Continue before after =
    AllTaken n config now past heard core held_before held_after before after
TurnsBy n config now past heard core held_before held_after (Ends code) before after = ⊥
TurnsBy n config now past heard core held_before held_after (Unreadable place) before after = ⊥
TurnsBy n config now past heard core held_before held_after NoMemory before after =
    PartAppended (flat_map (answer_bytes n) (collect_events config (behind past (work_events config heard now past)))) before after

-- The worker's turns and the session's Collects came, or for want of memory the first of them. The device said more, and failed at
-- most as often as its faults rose, unless they count no further.
pub record TurnsTaken (n : Numbers) (config : Config) (now : ℤ) (past : List Event) (said : List Verdict) (core : Core) (device : DeviceTold)
    (answer : Handled) (before after : List ℕ) : Type 0 where
  pub more : List Verdict
  pub turns : TurnsBy n config now past (said ++ more) core device.held_before device.held_after answer before after
  pub later : device.faults_before ≤ device.faults_after
  pub failed : device.faults_after < 2 ^ 64 - 1 → failures more + device.faults_before ≤ device.faults_after

-- All of it is done, with a device that has said this: whatever it says behind that, this is what the message comes to.
pub record DoneWith (s : Setting) (place : ℕ) (message : List ℕ) (past : List Event) (heard : List Verdict) (core : Core)
    (held_before held_after : Option (List Entry)) (ending : Option ℕ) (before after : List ℕ) : Type 0 where
  pub now : List Event
  pub written : List ℕ
  pub runs : (later : List Verdict) → fault_of s message ≡ None
      → run_message s (heard ++ later) past place message ≡ record { written = written; ending = ending; past = now }
  pub appended : after ≡ before ++ written
  pub stood : CoreAt (config_of s) core now
  pub few : core.count ≤ 2 ^ 61
  pub counted : length heard ≡ reports now
  pub takes : TakesTurns (config_of s) now
  pub holds : HoldsShard 1 0 held_before (fib past) → HoldsShard 1 0 held_after (fib now)

abbrev pub DoneBy : Setting → ℕ → List ℕ → List Event → List Verdict → Core → Option (List Entry) → Option (List Entry) → Handled → List ℕ
    → List ℕ → Type 0
DoneBy s place message past heard core held_before held_after Continue before after =
    DoneWith s place message past heard core held_before held_after None before after
DoneBy s place message past heard core held_before held_after (Ends code) before after =
    DoneWith s place message past heard core held_before held_after (Some code) before after
DoneBy s place message past heard core held_before held_after (Unreadable at) before after = ⊥
DoneBy s place message past heard core held_before held_after NoMemory before after =
    fault_of s message ≡ None → PartAppended (run_message s heard past place message).written before after

-- A message that can be read is done, or for want of memory a part of it. The device said more, and failed at most as often as its
-- faults rose, unless they count no further.
pub record MessageDone (s : Setting) (place : ℕ) (message : List ℕ) (past : List Event) (said : List Verdict) (core : Core) (device : DeviceTold)
    (answer : Handled) (before after : List ℕ) : Type 0 where
  pub more : List Verdict
  pub done : DoneBy s place message past (said ++ more) core device.held_before device.held_after answer before after
  pub later : device.faults_before ≤ device.faults_after
  pub failed : device.faults_after < 2 ^ 64 - 1 → failures more + device.faults_before ≤ device.faults_after
