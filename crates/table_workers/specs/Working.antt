-- What a worker does beside the table: the calls that its pass makes of the lock, and what its device then holds.
use Rattle.std.specs.Prelude.{◌≡◌, ◌≢◌, ◌⊎◌, ℕ, ℤ, ◌+◌, ◌-◌, ◌^◌, ◌≤◌, Bool, true, false, List, [], ◌∷◌, ◌++◌, Option, Some, None, drop, length, min}
use Rattle.aft_entries.specs.declared.entry.Entry.{Entry}
use Rattle.table_model.specs.declared.command.Command.{Command}
use Rattle.table_model.specs.declared.command.Command.TheVariants.{Take, Report}
use Rattle.table_model.specs.declared.command.Config.{Config}
use Rattle.table_model.specs.declared.job.Job.{Job}
use Rattle.table_model.specs.declared.job.JobNumber.{JobNumber}
use Rattle.table_model.specs.declared.job.Verdict.{Verdict}
use Rattle.table_model.specs.declared.job.Verdict.TheVariants as verdict
use Rattle.table_model.specs.declared.reply.Reply.{Reply}
use Rattle.table_model.specs.declared.reply.Reply.TheVariants as reply
use Rattle.table_model.specs.Event.{Event, events}
use Rattle.table_model.specs.Jobs.{fib}
use Rattle.fib_worker.specs.Doing.{Does}
use Rattle.fib_worker.specs.Shards.{HoldsShard, IsApart}
use Rattle.table_lock.specs.declared.machine.Entry as call
use Rattle.table_lock.specs.Lock.{entry}
use Rattle.table_lock.specs.Passes.{PassView, IsCalled, Makes}
use Rattle.rib_core.specs.Recorded.{IsLawful, event_of, recorded}
use Rattle.table_workers.specs.declared.run.WorkerEnd.{WorkerEnd}
use Rattle.table_workers.specs.declared.run.WorkerEnd.TheVariants as end
use Rattle.table_workers.specs.declared.step.Asked.{Asked}
use Rattle.table_workers.specs.declared.step.Asked.TheVariants as asked
use Rattle.table_workers.specs.declared.step.Stepped.{Stepped}
use Rattle.table_workers.specs.declared.step.Stepped.TheVariants.{Programmed, DeviceFailed, Skipped, Idle, Halted, Spent}

-- calls of the lock, the oldest first
abbrev pub Calls : Type 0
Calls = List (call.Entry Command Reply)

-- what a device tells that it holds
abbrev pub Contents : Type 0
Contents = Option (List Entry)

-- ---- the shard

-- behind these events each call of another pass is no Take or Report for the shard
abbrev pub OthersAreApart : ℕ → ℕ → ℕ → List Event → Calls → Type 0
OthersAreApart workers worker me past [] = Unit {0}
OthersAreApart workers worker me past (c ∷ calls) =
    (c.by ≢ me → IsApart workers worker (events past) c.command) × OthersAreApart workers worker me (event_of c ∷ past) calls

-- Who held the worker's shard at what the pass had seen holds it at what the pass has seen now, where no call of another pass since
-- is a Take or Report for the shard.
abbrev pub KeepsShard : Config → ℕ → ℕ → Calls → Calls → Contents → Contents → Type 0
KeepsShard config worker me had_seen has_seen before after =
    HoldsShard config.workers worker before (fib (events (recorded had_seen)))
    → OthersAreApart config.workers worker me (recorded had_seen) (drop (length had_seen) has_seen)
    → HoldsShard config.workers worker after (fib (events (recorded has_seen)))

-- ---- a worker's calls

abbrev pub given_job : Reply → Option Job
given_job (reply.Given job) = Some job
given_job _ = None

-- A worker that has a job in hand, or none, makes these calls, and has this one in hand then, or none: each job that a Take of the
-- worker is given is reported in the very next call.
abbrev pub AreOfWorker : ℕ → Option Job → Calls → Option Job → Type 0
AreOfWorker worker in_hand [] left = left ≡ in_hand
AreOfWorker worker None (c ∷ calls) left = (at : ℤ) × (c.command ≡ Take worker at) × AreOfWorker worker (given_job c.reply) calls left
AreOfWorker worker (Some job) (c ∷ calls) left =
    (said : Verdict) × (at : ℤ) × (c.command ≡ Report job.number said at) × AreOfWorker worker None calls left

-- what the device did behind the last report: the job that is left, if one is
abbrev pub IsAhead : Option Job → Contents → Contents → Type 0
IsAhead None reported now = now ≡ reported
IsAhead (Some job) reported now = (said : Verdict) × Does said job.work reported now

-- What a worker did over some steps, with these contents of its device before and after. Only where the lock was spent a job is left
-- that it did and didn't report.
pub record Works (config : Config) (worker : ℕ) (spent : Bool) (p q : PassView Command Reply Config) (before after : Contents) (calls : Calls) : Type 0 where
  pub made : Makes IsLawful config spent p q calls
  pub left : Option Job
  pub theirs : AreOfWorker worker None calls left
  pub none_left : spent ≡ false → left ≡ None
  pub reported : Contents
  pub keeps : KeepsShard config worker p.number p.seen q.seen before reported
  pub ahead : IsAhead left reported after

-- ---- a step

-- one Take, which was answered so
pub record Took (worker me : ℕ) (answered : Reply) (calls : Calls) : Type 0 where
  pub at : ℤ
  pub calls_are : calls ≡ entry me (Take worker at) answered ∷ []

-- one Take, and the Report of the job that it was given, of which the device did what is reported
pub record TookAndReported (worker me : ℕ) (said : Verdict) (before after : Contents) (calls : Calls) : Type 0 where
  pub job : Job
  pub taken_at : ℤ
  pub reported_at : ℤ
  pub answered : Reply
  pub calls_are : calls ≡ entry me (Take worker taken_at) (reply.Given job) ∷ entry me (Report job.number said reported_at) answered ∷ []
  pub does : Does said job.work before after

-- the calls of a step, by what it came to; a call that was Spent is none
abbrev pub StepCalls : Stepped → ℕ → ℕ → Contents → Contents → Calls → Type 0
StepCalls Programmed worker me before after calls = TookAndReported worker me verdict.Programmed before after calls
StepCalls DeviceFailed worker me before after calls = TookAndReported worker me verdict.DeviceFault before after calls
StepCalls Skipped worker me before after calls = (number : JobNumber) × Took worker me (reply.Skipped number) calls
StepCalls Idle worker me before after calls = Took worker me reply.Idle calls
StepCalls Halted worker me before after calls = Took worker me reply.HaltSeen calls
StepCalls Spent worker me before after calls = (calls ≡ []) ⊎ ((job : Job) × Took worker me (reply.Given job) calls)

abbrev pub is_spent : Stepped → Bool
is_spent Spent = true
is_spent Programmed = false
is_spent DeviceFailed = false
is_spent Skipped = false
is_spent Idle = false
is_spent Halted = false

-- a step that was given no job
abbrev pub IfUntouched : Stepped → Type 0 → Type 0
IfUntouched Skipped P = P
IfUntouched Idle P = P
IfUntouched Halted P = P
IfUntouched Programmed P = Unit {0}
IfUntouched DeviceFailed P = Unit {0}
IfUntouched Spent P = Unit {0}

-- The count never falls, and rises in a step with this answer, or stands at the last value of a counter.
pub record Counts (before now : ℕ) (answered : Type 0) : Type 0 where
  pub later : before ≤ now
  pub rose : answered → min (before + 1) (2 ^ 64 - 1) ≤ now

-- what a Take was answered
abbrev pub asked_of : Reply → Asked
asked_of (reply.Given job) = asked.Work job
asked_of (reply.Skipped number) = asked.Skipped
asked_of reply.HaltSeen = asked.Halted
asked_of _ = asked.Idle

-- the device did what the pass then reported
pub record ReportedAs (config : Config) (said : Verdict) (job : Job) (p q : PassView Command Reply Config) (before after : Contents) : Type 0 where
  pub at : ℤ
  pub answered : Reply
  pub called : IsCalled IsLawful config p q (Report job.number said at) answered
  pub does : Does said job.work before after

-- the device did a job, and that was reported or the lock was spent
abbrev pub Reports : Config → Stepped → Job → PassView Command Reply Config → PassView Command Reply Config → Contents → Contents → Type 0
Reports config Programmed job p q before after = ReportedAs config verdict.Programmed job p q before after
Reports config DeviceFailed job p q before after = ReportedAs config verdict.DeviceFault job p q before after
Reports config Spent job p q before after = (said : Verdict) × Does said job.work before after × (q ≡ record p { ticket = q.ticket }) × (2 ^ 62 ≤ q.ticket)
Reports config Skipped job p q before after = ⊥
Reports config Idle job p q before after = ⊥
Reports config Halted job p q before after = ⊥

-- ---- a run

-- the Reports that tell a failure
abbrev pub tells_fault : Command → ℕ
tells_fault (Report number verdict.DeviceFault now) = 1
tells_fault _ = 0

abbrev pub faults_told : Calls → ℕ
faults_told [] = 0
faults_told (c ∷ calls) = tells_fault c.command + faults_told calls

-- no Take was answered HaltSeen
abbrev pub IsNoHalt : Command → Reply → Type 0
IsNoHalt (Take worker at) answered = answered ≢ reply.HaltSeen
IsNoHalt _ answered = Unit {0}

abbrev pub SeesNoHalt : Calls → Type 0
SeesNoHalt [] = Unit {0}
SeesNoHalt (c ∷ calls) = IsNoHalt c.command c.reply × SeesNoHalt calls

-- a run that was Halted ends with the only Take that was answered HaltSeen, and one that was Spent has none
abbrev pub RunCalls : WorkerEnd → ℕ → ℕ → Calls → Type 0
RunCalls end.Halted worker me calls = (front : Calls) × (at : ℤ) × (calls ≡ front ++ entry me (Take worker at) reply.HaltSeen ∷ []) × SeesNoHalt front
RunCalls end.Spent worker me calls = SeesNoHalt calls

abbrev pub ends_spent : WorkerEnd → Bool
ends_spent end.Halted = false
ends_spent end.Spent = true
