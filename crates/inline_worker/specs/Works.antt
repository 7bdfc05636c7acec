-- What the worker's turns leave of a table and its device.
use Rattle.std.specs.Prelude.{◌≡◌, ℕ, ℤ, ◌+◌, ◌-◌, ◌^◌, ◌≤◌, ◌<◌, List, ◌∷◌, ◌++◌, length, Option}
use Rattle.aft_entries.specs.declared.entry.Entry.{Entry}
use Rattle.fib_worker.specs.Shards.{HoldsShard}
use Rattle.rib_core.specs.Core.{Core}
use Rattle.table_model.specs.declared.command.Command.TheVariants.{Take}
use Rattle.table_model.specs.declared.command.Config.{Config}
use Rattle.table_model.specs.declared.job.Verdict.{Verdict}
use Rattle.table_model.specs.declared.reply.Reply.{Reply}
use Rattle.table_model.specs.declared.reply.Reply.TheVariants as reply
use Rattle.table_model.specs.Event.{Event}
use Rattle.table_model.specs.Jobs.{fib}
use Rattle.table_model.specs.Reply.{reply_to}
use Rattle.inline_worker.specs.CoreAt.{CoreAt}
use Rattle.inline_worker.specs.Turns.{behind, failures, next_event, reports}
use Rattle.inline_worker.specs.declared.ask.Asked.{Asked}
use Rattle.inline_worker.specs.declared.ask.Asked.TheVariants.{Work, Passed, Nothing}

abbrev pub asked_of : Reply → Asked
asked_of (reply.Given job) = Work job
asked_of (reply.Skipped number) = Passed
asked_of _ = Nothing

-- the worker asked for a job
pub record Asks (config : Config) (now : ℤ) (past : List Event) (answer : Asked) (core : Core) : Type 0 where
  pub stood : CoreAt config core (next_event config past (Take 0 now) ∷ past)
  pub answer_is : answer ≡ asked_of (reply_to config past (Take 0 now))

-- how often a device had failed, and the entries that it tells, before and after
pub record DeviceTold : Type 0 where
  pub faults_before : ℕ
  pub faults_after : ℕ
  pub held_before : Option (List Entry)
  pub held_after : Option (List Entry)

abbrev pub device_told : {X : Type 0} → (faults : X → ℕ) (contents : X → Option (List Entry)) (device device' : X) → DeviceTold
device_told faults contents device device' = record {
  faults_before = faults device;
  faults_after = faults device';
  held_before = contents device;
  held_after = contents device';
}

-- These events came, which rest on what the device says. What it had said before is a list as long as its reports.
pub record WorksOn (config : Config) (events : List Verdict → List Event) (past : List Event) (said : List Verdict) (core : Core) (device : DeviceTold) : Type 0 where
  pub after : List Event
  pub stood : CoreAt config core after
  -- what the device said now
  pub more : List Verdict
  pub counted : length (said ++ more) ≡ reports after
  -- whatever it will say behind that, these are the events
  pub events_are : (later : List Verdict) → behind past (events ((said ++ more) ++ later)) ≡ after
  -- it says that it failed at most as often as its faults rose, unless they count no further
  pub later : device.faults_before ≤ device.faults_after
  pub failed : device.faults_after < 2 ^ 64 - 1 → failures more + device.faults_before ≤ device.faults_after
  -- and where it held the forwarding table's entries, it holds them
  pub holds : HoldsShard 1 0 device.held_before (fib past) → HoldsShard 1 0 device.held_after (fib after)
