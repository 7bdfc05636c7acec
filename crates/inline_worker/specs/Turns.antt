-- The turns of a table's only worker, which takes its jobs and reports each, and of a session that collects: what each adds to a
-- history. The device's answers are a list.
use Rattle.std.specs.Prelude.{ℕ, zero, suc, ℤ, Bool, true, false, ◌==◌, List, [], ◌∷◌, ◌++◌, if◌then◌else◌}
use Rattle.table_model.specs.declared.command.Command.{Command}
use Rattle.table_model.specs.declared.command.Command.TheVariants.{Take, Report, Collect}
use Rattle.table_model.specs.declared.command.Config.{Config}
use Rattle.table_model.specs.declared.job.Verdict.{Verdict}
use Rattle.table_model.specs.declared.job.Verdict.TheVariants.{Programmed, DeviceFault}
use Rattle.table_model.specs.declared.reply.Reply.{Reply}
use Rattle.table_model.specs.declared.reply.Reply.TheVariants.{Given, Skipped, Collected}
use Rattle.table_model.specs.Event.{Event}
use Rattle.table_model.specs.Jobs.{Outcome, TrackedTask, tracked_tasks, is_undone}
use Rattle.table_model.specs.Reply.{reply_to}
use Rattle.table_model.specs.Results.{owed}

-- ---- what a device says

-- its answer to the job of this place, counted from 0: what the list has there, and beyond its end that it did the job
abbrev pub answer_at : List Verdict → ℕ → Verdict
answer_at [] n = Programmed
answer_at (answer ∷ said) zero = answer
answer_at (answer ∷ said) (suc n) = answer_at said n

abbrev pub is_report : Command → Bool
is_report (Report number said now) = true
is_report _ = false

-- how many jobs were reported
abbrev pub reports : List Event → ℕ
reports [] = 0
reports (e ∷ past) = if is_report e.command then suc (reports past) else reports past

-- how often the device failed
abbrev pub failures : List Verdict → ℕ
failures [] = 0
failures (Programmed ∷ said) = failures said
failures (DeviceFault ∷ said) = suc (failures said)

-- ---- events

-- the command, and the server's reply to it after a history
abbrev pub next_event : Config → List Event → Command → Event
next_event config past command = record { command = command; reply = reply_to config past command }

-- the history with these events behind it, the first of them first
abbrev pub behind : List Event → List Event → List Event
behind past [] = past
behind past (e ∷ es) = behind (e ∷ past) es

-- ---- the worker

-- how many of the jobs have such an outcome
abbrev pub count_outcomes : (Outcome → Bool) → List TrackedTask → ℕ
count_outcomes p [] = 0
count_outcomes p (tracked ∷ rest) = if p tracked.outcome then suc (count_outcomes p rest) else count_outcomes p rest

unfoldable pub undone : List Event → ℕ
undone past = count_outcomes is_undone (tracked_tasks past)

-- the job that the worker is given is reported
abbrev pub report_events : Config → List Verdict → ℤ → Reply → List Event → List Event
report_events config said now (Given job) past = next_event config past (Report job.number (answer_at said (reports past)) now) ∷ []
report_events config said now _ past = []

-- the worker takes a job and reports it, or is told that there is none, or that one can't be done
abbrev pub turn_events : Config → List Verdict → ℤ → List Event → List Event
turn_events config said now past =
    let taken = next_event config past (Take 0 now) in
    taken ∷ report_events config said now taken.reply (taken ∷ past)

-- it asks again behind these answers
abbrev pub asks_again : Reply → Bool
asks_again (Given job) = true
asks_again (Skipped number) = true
asks_again _ = false

-- its turns up to the first that gives it nothing, where there are at most so many jobs
abbrev pub turns : Config → List Verdict → ℤ → ℕ → List Event → List Event
turns config said now zero past = turn_events config said now past
turns config said now (suc jobs) past =
    turn_events config said now past
    ++ (if asks_again (reply_to config past (Take 0 now)) then turns config said now jobs (behind past (turn_events config said now past)) else [])

-- all its turns: there are as many jobs as are undone
abbrev pub work_events : Config → List Verdict → ℤ → List Event → List Event
work_events config said now past = turns config said now (undone past) past

-- ---- the session

abbrev pub outstanding_in : Reply → ℕ
outstanding_in (Collected given outstanding) = outstanding
outstanding_in _ = 0

-- it collects until nothing is outstanding, where at most so many answers are owed to it
abbrev pub collects : Config → ℕ → List Event → List Event
collects config zero past = next_event config past (Collect 0) ∷ []
collects config (suc answers) past =
    let e = next_event config past (Collect 0) in
    e ∷ (if outstanding_in e.reply == 0 then [] else collects config answers (e ∷ past))

abbrev pub collect_events : Config → List Event → List Event
collect_events config past = collects config (owed past 0) past

-- what follows a message: the worker's turns, and then the session's
abbrev pub events_behind : Config → List Verdict → ℤ → List Event → List Event
events_behind config said now past =
    let worked = work_events config said now past in
    worked ++ collect_events config (behind past worked)
