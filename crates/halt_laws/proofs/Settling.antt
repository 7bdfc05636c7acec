-- Once a worker has seen the Halt, none of its jobs is undone again.
use Rattle.std.proofs.Common.{◌≡◌, ℕ, ◌<◌, Bool, true, false, List, [], ◌∷◌, length, Some, None, Option, refl, sym, ap, subst, ◌∙◌, arith, ◌⊎◌}
use Rattle.std.specs.Prelude.{◌&&◌, ◌||◌, ◌==◌, ◌+◌, ◌%◌, not, cond, map, filter}
use Rattle.std.specs.List.{list_any}
use Rattle.std.proofs.lemmas.Bool.Decides.{nat_tests}
use Rattle.std.proofs.lemmas.Nat.{mod_below}
use Rattle.aft_entries.specs.Order.{shard_of, name_number, name_length, kind_place}
use Rattle.aft_entries.specs.declared.key.Key.{Key}
use Rattle.table_model.specs.declared.command.Command.{Command}
use Rattle.table_model.specs.declared.command.Command.TheVariants.{Begin, SetParams, Announce, Operate, Collect, Leave, Flush, Select, Take, Report, Halt}
use Rattle.table_model.specs.declared.command.Config.{Config}
use Rattle.table_model.specs.declared.job.JobNumber.{JobNumber}
use Rattle.table_model.specs.declared.reply.Reply.{Reply}
use Rattle.table_model.specs.declared.reply.Reply.TheVariants as reply
use Rattle.table_model.specs.BoardState.{undone_tasks, is_undone_task}
use Rattle.table_model.specs.Event.{Event, is_done, is_flushed, is_left, is_halt_done}
use Rattle.table_model.specs.Jobs.{Task, TrackedTask, JobUpdate, tasks, tasks_by, tracked_tasks, operate_tasks, purge_tasks, purge_order, removed, update_of, turned, outcome_of, number_eq, next_task, is_undone, is_out, is_clear, is_skipped, on_shard, work_key, fib}
use Rattle.table_model.specs.Legal.{IsLawful}
use Rattle.table_model.specs.Reply.{reply_to, reply_take, take_reply, is_halted, is_gone}
use Rattle.table_model.specs.Rib.{rib}
use Rattle.table_model.proofs.Closed.{or_left, or_right}
use Rattle.table_model.proofs.Tests.{and_left, and_right}
use Rattle.table_laws.proofs.Ascending.{number}
use Rattle.table_laws.proofs.InTurn.{outcome_next, says, undone_update}
use Rattle.table_laws.proofs.Updates.{Each, each_weaken, each_append, tracked_at, number_same, Taken, Said}
use Rattle.halt_laws.specs.Settled.{is_take_of, is_halt_seen, has_seen_halt, HaveSeenHalt, NoLeaveBehindHalt, HaltedTablesSettle}

-- What a Halt stops.

abbrev makes_jobs : Reply → Bool
makes_jobs r = is_done r || is_flushed r

stopped : (b : Bool) (r : Reply) → b ≡ true → makes_jobs (cond b reply.Stopped r) ≡ false
stopped true r h = refl
stopped false r h = cc

by_test : (b : Bool) (r s : Reply) → makes_jobs r ≡ false → makes_jobs s ≡ false → makes_jobs (cond b r s) ≡ false
by_test true r s h k = h
by_test false r s h k = k

module _ (config : Config) (past : List Event) where
  taken_makes : (worker : ℕ) (o : Option TrackedTask) → makes_jobs (take_reply config past worker o) ≡ false
  taken_makes worker None = by_test (is_halted past && is_clear config.workers (tracked_tasks past) worker) reply.HaltSeen reply.Idle refl refl
  taken_makes worker (Some tracked) = by_test (is_skipped (fib past) tracked.task.job.work) (reply.Skipped tracked.task.job.number) (reply.Given tracked.task.job) refl refl

  none_made : (command : Command) → is_halted past ≡ true → makes_jobs (reply_to config past command) ≡ false
  unfolding reply_to reply_take
  none_made Begin h = stopped (is_halted past) _ h
  none_made (SetParams session asked) h = stopped (is_halted past) _ h
  none_made (Announce session id) h = stopped (is_halted past) _ h
  none_made (Operate session operation now) h = stopped (is_halted past) _ h
  none_made (Collect session) h = stopped (is_halted past) _ h
  none_made (Leave session) h = by_test (is_gone past (Leave session)) reply.Gone reply.Left refl refl
  none_made (Flush by which now) h = stopped (is_halted past) _ h
  none_made (Select which kinds) h = stopped (is_halted past) _ h
  none_made (Take worker now) h = taken_makes worker (next_task config.workers (tracked_tasks past) worker)
  none_made (Report job said now) h = by_test (is_out (outcome_of past job)) reply.Reported reply.NotOut refl refl
  none_made Halt h = refl

no_tasks_by : (done flushed left : Bool) (xs ys : List Task) → done || flushed ≡ false → left ≡ false → cond done xs (cond (flushed || left) ys []) ≡ []
no_tasks_by true flushed left xs ys h k = cc
no_tasks_by false true left xs ys h k = cc
no_tasks_by false false true xs ys h k = cc
no_tasks_by false false false xs ys h k = refl

no_tasks : (config : Config) (past : List Event) (e : Event) → e.reply ≡ reply_to config past e.command → is_halted past ≡ true → is_left e.reply ≡ false → tasks_by e past ≡ []
no_tasks config past e told halted left =
    no_tasks_by (is_done e.reply) (is_flushed e.reply) (is_left e.reply) (operate_tasks past e.command)
    (purge_tasks (length past) 0 (purge_order (rib past) (removed (rib past) (rib (e ∷ past)))))
    (ap makes_jobs told ∙ none_made config past e.command halted) left

-- What is done stays done.

stays_done : (config : Config) (e : Event) (past : List Event) → IsLawful config (e ∷ past) → (n : JobNumber) → is_undone (outcome_of past n) ≡ false → is_undone (outcome_of (e ∷ past) n) ≡ false
stays_done config e past lawful n done = ap is_undone (outcome_next e past n) ∙ by_update (update_of e) (says config e past lawful)
  where
    by_number : (turn : JobUpdate) → Taken past turn ⊎ Said past turn → (b : Bool) → number_eq turn.number n ≡ b → is_undone (cond b turn.outcome (outcome_of past n)) ≡ false
    by_number turn told true is = let no_way : true ≡ false = sym (undone_update past turn told) ∙ ap (λ m. is_undone (outcome_of past m)) (number_same turn.number n is) ∙ done in cc
    by_number turn told false is = done

    by_update : (o : Option JobUpdate) → ((turn : JobUpdate) → o ≡ Some turn → Taken past turn ⊎ Said past turn) → is_undone (turned o n (outcome_of past n)) ≡ false
    by_update None told = done
    by_update (Some turn) told = by_number turn (told turn refl) (number_eq turn.number n) refl

-- A worker's jobs.

and_second : (a b c : Bool) → (b ≡ false → c ≡ false) → a && b ≡ false → a && c ≡ false
and_second true b c step h = step h
and_second false b c step h = refl

-- no job of the worker is undone
abbrev IsDone : ℕ → ℕ → List Event → Task → Type 0
IsDone workers worker past task = on_shard workers worker task && is_undone (outcome_of past (number task)) ≡ false

stays_clear : (config : Config) (worker : ℕ) (e : Event) (past : List Event) → IsLawful config (e ∷ past) → is_halted past ≡ true → is_left e.reply ≡ false
    → Each (IsDone config.workers worker past) (tasks past) → Each (IsDone config.workers worker (e ∷ past)) (tasks (e ∷ past))
unfolding tasks
stays_clear config worker e past lawful halted left clear =
    each_append (IsDone config.workers worker (e ∷ past)) (tasks past) (tasks_by e past)
    (each_weaken (IsDone config.workers worker past) (IsDone config.workers worker (e ∷ past)) (tasks past)
    (λ task. and_second (on_shard config.workers worker task) (is_undone (outcome_of past (number task))) (is_undone (outcome_of (e ∷ past) (number task))) (stays_done config e past lawful (number task))) clear)
    (subst (Each (IsDone config.workers worker (e ∷ past))) (sym (no_tasks config past e lawful.0 halted left)) tt)

each_done : (workers worker : ℕ) (past : List Event) (ts : List Task) → list_any (λ tracked. on_shard workers worker tracked.task && is_undone tracked.outcome) (map (tracked_at past) ts) ≡ false → Each (IsDone workers worker past) ts
each_done workers worker past [] h = tt
each_done workers worker past (t ∷ ts) h =
    let rest = list_any (λ tracked. on_shard workers worker tracked.task && is_undone tracked.outcome) (map (tracked_at past) ts) in (
      or_left (on_shard workers worker t && is_undone (outcome_of past (number t))) rest h,
      each_done workers worker past ts (or_right (on_shard workers worker t && is_undone (outcome_of past (number t))) rest h),
    )

not_not : (b : Bool) → not b ≡ true → b ≡ false
not_not true h = cc
not_not false h = refl

from_clear : (workers worker : ℕ) (past : List Event) → is_clear workers (tracked_tasks past) worker ≡ true → Each (IsDone workers worker past) (tasks past)
unfolding is_clear tracked_tasks
from_clear workers worker past h =
    each_done workers worker past (tasks past) (not_not (list_any (λ tracked. on_shard workers worker tracked.task && is_undone tracked.outcome) (map (tracked_at past) (tasks past))) h)

-- What HaltSeen says.

chosen : (b : Bool) → is_halt_seen (cond b reply.HaltSeen reply.Idle) ≡ true → b ≡ true
chosen true h = refl
chosen false h = cc

not_chosen : (b : Bool) (r s : Reply) → is_halt_seen r ≡ false → is_halt_seen s ≡ false → is_halt_seen (cond b r s) ≡ true → ⊥
not_chosen true r s h k seen = let no_way : false ≡ true = sym h ∙ seen in cc
not_chosen false r s h k seen = let no_way : false ≡ true = sym k ∙ seen in cc

module _ (config : Config) (past : List Event) where
  abbrev IsThrough : ℕ → Type 0
  IsThrough worker = is_halted past && is_clear config.workers (tracked_tasks past) worker ≡ true

  by_next : (worker : ℕ) (o : Option TrackedTask) → is_halt_seen (take_reply config past worker o) ≡ true → IsThrough worker
  by_next worker None seen = chosen (is_halted past && is_clear config.workers (tracked_tasks past) worker) seen
  by_next worker (Some tracked) seen = absurd (not_chosen (is_skipped (fib past) tracked.task.job.work) (reply.Skipped tracked.task.job.number) (reply.Given tracked.task.job) refl refl seen)

  by_command : (worker : ℕ) (command : Command) → is_take_of worker command ≡ true → is_halt_seen (reply_to config past command) ≡ true → IsThrough worker
  unfolding reply_to reply_take
  by_command worker (Take other now) of_it seen =
      let same : other ≡ worker = grind (arith, nat_tests) in
      subst IsThrough same (by_next other (next_task config.workers (tracked_tasks past) other) seen)
  by_command worker Begin of_it seen = cc
  by_command worker (SetParams session asked) of_it seen = cc
  by_command worker (Announce session id) of_it seen = cc
  by_command worker (Operate session operation now) of_it seen = cc
  by_command worker (Collect session) of_it seen = cc
  by_command worker (Leave session) of_it seen = cc
  by_command worker (Flush by which now) of_it seen = cc
  by_command worker (Select which kinds) of_it seen = cc
  by_command worker (Report job said now) of_it seen = cc
  by_command worker Halt of_it seen = cc

  at_seen : (worker : ℕ) (e : Event) → e.reply ≡ reply_to config past e.command → is_take_of worker e.command && is_halt_seen e.reply ≡ true → IsThrough worker
  at_seen worker e told seen =
      by_command worker e.command (and_left (is_take_of worker e.command) (is_halt_seen e.reply) seen)
      (ap is_halt_seen (sym told) ∙ and_right (is_take_of worker e.command) (is_halt_seen e.reply) seen)

-- At the end of the history.

abbrev IsSettled : Config → ℕ → List Event → Type 0
IsSettled config worker past = (is_halted past ≡ true) × Each (IsDone config.workers worker past) (tasks past)

still_halted : (e : Event) (past : List Event) → is_halted past ≡ true → is_halted (e ∷ past) ≡ true
unfolding is_halted
still_halted e past h = or_second (is_halt_done e.reply) (list_any (λ x. is_halt_done x.reply) past) h
  where
    or_second : (a b : Bool) → b ≡ true → a || b ≡ true
    or_second true b k = refl
    or_second false b k = k

is_settled : (config : Config) (worker : ℕ) (past : List Event) → IsLawful config past → NoLeaveBehindHalt past → has_seen_halt past worker ≡ true → IsSettled config worker past
is_settled config worker [] lawful quiet seen = cc
is_settled config worker (e ∷ past) lawful quiet seen =
    step (before (is_settled config worker past lawful.1 (λ later earlier x is. quiet (e ∷ later) earlier x (ap (λ xs. e ∷ xs) is)))
    (is_take_of worker e.command && is_halt_seen e.reply) refl seen)
  where
    before : (has_seen_halt past worker ≡ true → IsSettled config worker past) → (b : Bool) → is_take_of worker e.command && is_halt_seen e.reply ≡ b → b || has_seen_halt past worker ≡ true → IsSettled config worker past
    before sooner true is h =
        let through = at_seen config past worker e lawful.0 is in (
          and_left (is_halted past) (is_clear config.workers (tracked_tasks past) worker) through,
          from_clear config.workers worker past (and_right (is_halted past) (is_clear config.workers (tracked_tasks past) worker) through),
        )
    before sooner false is h = sooner h

    step : IsSettled config worker past → IsSettled config worker (e ∷ past)
    step now = (still_halted e past now.0, stays_clear config worker e past lawful now.0 (quiet [] past e refl now.0) now.1)

-- Each job is some worker's.

shard_below : (key : Key) (workers : ℕ) → 0 < workers → shard_of key workers < workers
unfolding shard_of
shard_below key workers some = mod_below ((name_number key.name + name_length key.name) % workers + key.instance + kind_place key.name) workers some

same_as_itself : (n : ℕ) → (n == n) ≡ true
same_as_itself n = grind (arith, nat_tests)

by_shard : (a b : Bool) → a ≡ true → a && b ≡ false → b ≡ false
by_shard true b h k = k
by_shard false b h k = cc

none_of_any : (workers : ℕ) (past : List Event) (ts : List Task) → 0 < workers → ((worker : ℕ) → worker < workers → Each (IsDone workers worker past) ts)
    → list_any (λ tracked. is_undone tracked.outcome) (map (tracked_at past) ts) ≡ false
none_of_any workers past [] some clear = refl
none_of_any workers past (t ∷ ts) some clear =
    let worker = shard_of (work_key t.job.work) workers in
    ap (λ b. b || list_any (λ tracked. is_undone tracked.outcome) (map (tracked_at past) ts))
    (by_shard (on_shard workers worker t) (is_undone (outcome_of past (number t))) (same_as_itself worker) (clear worker (shard_below (work_key t.job.work) workers some)).0)
    ∙ none_of_any workers past ts some (λ w below. (clear w below).1)

pub none_undone : (config : Config) (past : List Event) → IsLawful config past → 0 < config.workers → NoLeaveBehindHalt past → HaveSeenHalt config past
    → list_any (λ tracked. is_undone tracked.outcome) (tracked_tasks past) ≡ false
unfolding tracked_tasks
none_undone config past lawful some quiet seen =
    none_of_any config.workers past (tasks past) some (λ worker below. (is_settled config worker past lawful quiet (seen worker below)).1)

keeps_none : (board : List TrackedTask) → list_any (λ tracked. is_undone tracked.outcome) board ≡ false → filter is_undone_task board ≡ []
keeps_none [] h = refl
keeps_none (x ∷ board) h =
    ap (λ b. cond b (x ∷ filter is_undone_task board) (filter is_undone_task board)) (or_left (is_undone x.outcome) (list_any (λ tracked. is_undone tracked.outcome) board) h)
    ∙ keeps_none board (or_right (is_undone x.outcome) (list_any (λ tracked. is_undone tracked.outcome) board) h)

pub settled : (config : Config) → HaltedTablesSettle config
unfolding undone_tasks
settled config past lawful some quiet seen = keeps_none (tracked_tasks past) (none_undone config past lawful some quiet seen)
