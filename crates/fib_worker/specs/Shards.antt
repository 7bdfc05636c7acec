-- What a device holds for a worker: the entries of the worker's shard of the forwarding table.
use Rattle.std.specs.Prelude.{◌≡◌, ◌≢◌, ℕ, ℤ, List, [], ◌∷◌, ◌++◌, Option, Some, None}
use Rattle.aft_entries.specs.declared.entry.Entry.{Entry}
use Rattle.aft_entries.specs.declared.key.Key.{Key}
use Rattle.aft_entries.specs.Order.{shard_of}
use Rattle.table_model.specs.declared.command.Command.{Command}
use Rattle.table_model.specs.declared.command.Command.TheVariants.{Take, Report, Begin, SetParams, Announce, Operate, Collect, Leave, Flush, Select, Halt}
use Rattle.table_model.specs.declared.command.Config.{Config}
use Rattle.table_model.specs.declared.job.Job.{Job}
use Rattle.table_model.specs.declared.job.Verdict.{Verdict}
use Rattle.table_model.specs.declared.reply.Reply.{Reply}
use Rattle.table_model.specs.declared.reply.Reply.TheVariants.{Given, Reported}
use Rattle.table_model.specs.Event.{Event}
use Rattle.table_model.specs.Jobs.{Task, tasks, task_at, work_key, fib}
use Rattle.table_model.specs.Laws.{event}
use Rattle.table_model.specs.Legal.{IsLawful}
use Rattle.table_model.specs.Table.{lookup}
use Rattle.fib_worker.specs.Doing.{Does}

-- what is held has the table's entries of the worker's shard, and no others
pub record IsShard (workers worker : ℕ) (held table : List Entry) : Type 0 where
  pub there : (key : Key) → shard_of key workers ≡ worker → lookup key held ≡ lookup key table
  pub no_more : (key : Key) → shard_of key workers ≢ worker → lookup key held ≡ None

-- and a device tells that it holds that
abbrev pub HoldsShard : ℕ → ℕ → Option (List Entry) → List Entry → Type 0
HoldsShard workers worker None table = ⊥
HoldsShard workers worker (Some held) table = IsShard workers worker held table

-- the job of a number, if there is one, is of the shard
abbrev pub IsOfShard : ℕ → ℕ → Option Task → Type 0
IsOfShard workers worker None = ⊥
IsOfShard workers worker (Some task) = shard_of (work_key task.job.work) workers ≡ worker

-- the command is no Take or Report for the shard, on the events before it
abbrev pub IsApart : ℕ → ℕ → List Event → Command → Type 0
IsApart workers worker past (Take other now) = other ≢ worker
IsApart workers worker past (Report number said now) = IsOfShard workers worker (task_at number (tasks past)) → ⊥
IsApart workers worker past Begin = Unit {0}
IsApart workers worker past (SetParams session asked) = Unit {0}
IsApart workers worker past (Announce session id) = Unit {0}
IsApart workers worker past (Operate session operation now) = Unit {0}
IsApart workers worker past (Collect session) = Unit {0}
IsApart workers worker past (Leave session) = Unit {0}
IsApart workers worker past (Flush by which now) = Unit {0}
IsApart workers worker past (Select which kinds) = Unit {0}
IsApart workers worker past Halt = Unit {0}

-- nor is any of these events, of which the newest stands first, on the events before them
abbrev pub AreApart : ℕ → ℕ → List Event → List Event → Type 0
AreApart workers worker [] past = Unit {0}
AreApart workers worker (e ∷ earlier) past = IsApart workers worker (earlier ++ past) e.command × AreApart workers worker earlier past

-- events apart from a shard leave it to whoever holds it
abbrev pub OthersKeepShard : Config → Type 0
OthersKeepShard config =
    (worker : ℕ) (held : Option (List Entry)) (others past : List Event) → IsLawful config (others ++ past)
    → AreApart config.workers worker others past
    → HoldsShard config.workers worker held (fib past) → HoldsShard config.workers worker held (fib (others ++ past))

-- nor does a Take change what is held, its own worker's included
abbrev pub TakesKeepShard : Config → Type 0
TakesKeepShard config =
    (worker taker : ℕ) (at : ℤ) (answered : Reply) (held : Option (List Entry)) (past : List Event)
    → IsLawful config (event (Take taker at) answered ∷ past)
    → HoldsShard config.workers worker held (fib past) → HoldsShard config.workers worker held (fib (event (Take taker at) answered ∷ past))

-- who tells that it holds nothing holds each shard before the first event
abbrev pub EmptyHoldsShard : Type 0
EmptyHoldsShard = (workers worker : ℕ) → HoldsShard workers worker (Some []) (fib [])

-- who holds the shard of the only worker has under each key what the table has there
abbrev pub OnlyWorkerHoldsAll : Type 0
OnlyWorkerHoldsAll =
    (held table : List Entry) → HoldsShard 1 0 (Some held) table → (key : Key) → lookup key held ≡ lookup key table

-- the worker is given the job
abbrev pub gives : ℕ → Job → ℤ → Event
gives worker job at = event (Take worker at) (Given job)

-- the job is reported
abbrev pub reports : Job → Verdict → ℤ → Reply → Event
reports job said at answered = event (Report job.number said at) answered

-- Whoever held the shard when the worker was given a job, and did the job, holds the shard after its report, whatever events apart
-- from the shard came in between. The report is answered Reported.
abbrev pub JobKeepsShard : Config → Type 0
JobKeepsShard config =
    (worker : ℕ) (job : Job) (said : Verdict) (given_at reported_at : ℤ) (answered : Reply) (others past : List Event)
    (before after : Option (List Entry))
    → IsLawful config (reports job said reported_at answered ∷ others ++ gives worker job given_at ∷ past)
    → AreApart config.workers worker others (gives worker job given_at ∷ past)
    → Does said job.work before after
    → HoldsShard config.workers worker before (fib past)
    → (answered ≡ Reported)
    × HoldsShard config.workers worker after (fib (reports job said reported_at answered ∷ others ++ gives worker job given_at ∷ past))
