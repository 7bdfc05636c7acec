-- A job that a worker was given, until its report.
use Rattle.std.proofs.Common.{◌≡◌, ℕ, ℤ, Bool, true, false, List, [], ◌∷◌, ◌++◌, Some, None, Option, refl, sym, ap, ◌∙◌, subst, arith}
use Rattle.std.specs.Prelude.{not, ◌&&◌, ◌==◌, cond, find}
use Rattle.std.proofs.lemmas.Bool.Decides.{nat_tests}
use Rattle.aft_entries.specs.Order.{shard_of}
use Rattle.table_model.specs.declared.command.Command.{Command}
use Rattle.table_model.specs.declared.command.Command.TheVariants.{Begin, SetParams, Announce, Operate, Collect, Leave, Flush, Select, Take, Report, Halt}
use Rattle.table_model.specs.declared.command.Config.{Config}
use Rattle.table_model.specs.declared.job.Job.{Job}
use Rattle.table_model.specs.declared.job.JobNumber.{JobNumber}
use Rattle.table_model.specs.declared.job.Verdict.{Verdict}
use Rattle.table_model.specs.declared.reply.Reply.{Reply}
use Rattle.table_model.specs.declared.reply.Reply.TheVariants as reply
use Rattle.table_model.specs.Event.{Event, is_reported}
use Rattle.table_model.specs.Jobs.{Task, JobUpdate, TrackedTask, Outcome, tasks, tasks_by, task_at, tracked_tasks, work_key, fib, is_out, is_waiting, is_blocked, is_skipped, on_shard, next_task, number_eq, outcome_of, turned, update_of, reported}
use Rattle.table_model.specs.Laws.{event}
use Rattle.table_model.specs.Legal.{IsLawful}
use Rattle.table_model.specs.Reply.{reply_to, reply_take, take_reply, is_halted}
use Rattle.table_model.specs.Jobs.{is_clear}
use Rattle.table_model.proofs.Tests.{and_left}
use Rattle.table_laws.proofs.Ascending.{number, ascend}
use Rattle.table_laws.proofs.Updates.{number_same, number_refl, Each, found, taken_is}
use Rattle.table_laws.proofs.InTurn.{outcome_next, out_not_waits}
use Rattle.fib_worker.specs.Shards.{IsOfShard, IsApart}

-- the job is out, and of the worker's shard
pub record IsOut (workers worker : ℕ) (past : List Event) (job : Job) : Type 0 where
  pub task : Task
  pub at : task_at job.number (tasks past) ≡ Some task
  pub job_is : job ≡ task.job
  pub on : shard_of (work_key task.job.work) workers ≡ worker
  pub is_out : is_out (outcome_of past job.number) ≡ true

-- more jobs behind don't change which is found
find_front_step : (p : Task → Bool) (x t : Task) (rest more : Option Task) → (rest ≡ Some t → more ≡ Some t) → (b : Bool) → cond b (Some x) rest ≡ Some t → cond b (Some x) more ≡ Some t
find_front_step p x t rest more go true h = h
find_front_step p x t rest more go false h = go h

find_front : (p : Task → Bool) (xs ys : List Task) (t : Task) → find p xs ≡ Some t → find p (xs ++ ys) ≡ Some t
find_front p [] ys t h = cc
find_front p (x ∷ xs) ys t h = find_front_step p x t (find p xs) (find p (xs ++ ys)) (find_front p xs ys t) (p x) h

at_stays : (n : JobNumber) (e : Event) (past : List Event) (t : Task) → task_at n (tasks past) ≡ Some t → task_at n (tasks (e ∷ past)) ≡ Some t
unfolding tasks
at_stays n e past t h = find_front (λ task. number_eq n task.job.number) (tasks past) (tasks_by e past) t h

-- an event that is no turn of the job leaves it out
turned_out : (n : JobNumber) (before : Outcome) → is_out before ≡ true → (o : Option JobUpdate) → ((turn : JobUpdate) → o ≡ Some turn → number_eq turn.number n ≡ true → ⊥) → is_out (turned o n before) ≡ true
turned_out n before out None other = out
turned_out n before out (Some turn) other = by_number (number_eq turn.number n) refl
  where
    by_number : (b : Bool) → number_eq turn.number n ≡ b → is_out (cond b turn.outcome before) ≡ true
    by_number false is = out
    by_number true is = absurd (other turn refl is)

not_both : (o : Outcome) → is_out o ≡ true → is_waiting o ≡ true → ⊥
not_both o out waits = cc (out_not_waits o out)

report_turn : (number : JobNumber) (said : Verdict) (now : ℤ) (b : Bool) (turn : JobUpdate) → cond b (Some (record { number = number; outcome = reported said; now = now })) None ≡ Some turn → turn.number ≡ number
report_turn number said now true turn is = let one : record { number = number; outcome = reported said; now = now } ≡ turn = cc in ap (λ (t : JobUpdate). t.number) (sym one)
report_turn number said now false turn is = cc

module _ (config : Config) (worker : ℕ) where
  of_shard : (found : Option Task) (t : Task) → found ≡ Some t → shard_of (work_key t.job.work) config.workers ≡ worker → IsOfShard config.workers worker found
  of_shard None t is on = cc
  of_shard (Some x) t is on = let one : x ≡ t = cc in ap (λ (y : Task). shard_of (work_key y.job.work) config.workers) one ∙ on

  no_update : (c : Command) (r : Reply) (past : List Event) (job : Job) → IsLawful config (event c r ∷ past) → IsApart config.workers worker past c → IsOut config.workers worker past job
      → (turn : JobUpdate) → update_of (event c r) ≡ Some turn → number_eq turn.number job.number ≡ true → ⊥
  no_update (Take other now) r past job lawful apart out turn is same =
      let taken = taken_is config past other now r lawful.0 turn is in
      not_both (outcome_of past job.number) out.is_out (ap (λ (n : JobNumber). is_waiting (outcome_of past n)) (sym (number_same turn.number job.number same)) ∙ taken.waited)
  no_update (Report number said now) r past job lawful apart out turn is same =
      let n : number ≡ job.number = sym (report_turn number said now (is_reported r) turn is) ∙ number_same turn.number job.number same in
      apart (of_shard (task_at number (tasks past)) out.task (ap (λ (x : JobNumber). task_at x (tasks past)) n ∙ out.at) out.on)
  no_update Begin r past job lawful apart out turn is same = cc
  no_update (SetParams session asked) r past job lawful apart out turn is same = cc
  no_update (Announce session id) r past job lawful apart out turn is same = cc
  no_update (Operate session operation now) r past job lawful apart out turn is same = cc
  no_update (Collect session) r past job lawful apart out turn is same = cc
  no_update (Leave session) r past job lawful apart out turn is same = cc
  no_update (Flush by which now) r past job lawful apart out turn is same = cc
  no_update (Select which kinds) r past job lawful apart out turn is same = cc
  no_update Halt r past job lawful apart out turn is same = cc

  -- an event that is no Take or Report for the shard leaves the job out
  pub out_stays : (c : Command) (r : Reply) (past : List Event) (job : Job) → IsLawful config (event c r ∷ past) → IsApart config.workers worker past c → IsOut config.workers worker past job → IsOut config.workers worker (event c r ∷ past) job
  out_stays c r past job lawful apart out = record {
    task = out.task;
    at = at_stays job.number (event c r) past out.task out.at;
    job_is = out.job_is;
    on = out.on;
    is_out = ap is_out (outcome_next (event c r) past job.number) ∙ turned_out job.number (outcome_of past job.number) out.is_out (update_of (event c r)) (no_update c r past job lawful apart out);
  }

-- what is found by its number, where no other has it
found_at_step : (t x : Task) (rest : Option Task) → (number_eq (number t) (number x) ≡ true → x ≡ t) → (rest ≡ Some t) → (b : Bool) → number_eq (number t) (number x) ≡ b → cond b (Some x) rest ≡ Some t
found_at_step t x rest only go true is = ap Some (only is)
found_at_step t x rest only go false is = go

found_at : (t : Task) (front back : List Task) → Each (λ other. number_eq (number t) (number other) ≡ true → other ≡ t) (front ++ t ∷ back) → task_at (number t) (front ++ t ∷ back) ≡ Some t
found_at t [] back only = rw (number_refl (number t)) refl
found_at t (x ∷ front) back only = found_at_step t x (task_at (number t) (front ++ t ∷ back)) only.0 (found_at t front back only.1) (number_eq (number t) (number x)) refl

module _ (config : Config) (worker : ℕ) (past : List Event) where
  pub record WasGiven (job : Job) : Type 0 where
    pub tracked : TrackedTask
    pub next : next_task config.workers (tracked_tasks past) worker ≡ Some tracked
    pub job_is : job ≡ tracked.task.job

  given_by : (job : Job) (o : Option TrackedTask) → next_task config.workers (tracked_tasks past) worker ≡ o → reply.Given job ≡ take_reply config past worker o → WasGiven job
  given_by job None is told = absurd (idle (is_halted past && is_clear config.workers (tracked_tasks past) worker) told)
    where
      idle : (b : Bool) → reply.Given job ≡ cond b reply.HaltSeen reply.Idle → ⊥
      idle true h = cc
      idle false h = cc
  given_by job (Some tracked) is told = record { tracked = tracked; next = is; job_is = by_skip (is_skipped (fib past) tracked.task.job.work) told }
    where
      by_skip : (b : Bool) → reply.Given job ≡ cond b (reply.Skipped tracked.task.job.number) (reply.Given tracked.task.job) → job ≡ tracked.task.job
      by_skip true h = cc
      by_skip false h = cc

  given_is : (job : Job) (now : ℤ) → reply.Given job ≡ reply_to config past (Take worker now) → WasGiven job
  unfolding reply_to reply_take
  given_is job now told = given_by job (next_task config.workers (tracked_tasks past) worker) refl told

  same_number : (a b : ℕ) → (a == b) ≡ true → a ≡ b
  same_number a b h = grind (arith, nat_tests)

  -- the job that a worker is given is out then, and of its shard
  pub out_at_once : (job : Job) (now : ℤ) → IsLawful config (event (Take worker now) (reply.Given job) ∷ past) → IsOut config.workers worker (event (Take worker now) (reply.Given job) ∷ past) job
  unfolding next_task tracked_tasks
  out_at_once job now lawful =
      let given = given_is job now lawful.0 in
      let tracked = given.tracked in
      let p : TrackedTask → Bool = λ s. on_shard config.workers worker s.task && is_waiting s.outcome && not (is_blocked (tracked_tasks past) s.task) in
      let here = found past p tracked (tasks past) (ascend past) given.next in
      let n : job.number ≡ number tracked.task = ap (λ (j : Job). j.number) given.job_is in
      record {
        task = tracked.task;
        at = at_stays job.number (event (Take worker now) (reply.Given job)) past tracked.task (subst (λ (m : JobNumber). task_at m (tasks past) ≡ Some tracked.task) (sym n) (subst (λ (l : List Task). task_at (number tracked.task) l ≡ Some tracked.task) (sym here.parts) (found_at tracked.task here.front here.back (subst (λ (l : List Task). Each (λ other. number_eq (number tracked.task) (number other) ≡ true → other ≡ tracked.task) l) here.parts here.only))));
        job_is = given.job_is;
        on = same_number (shard_of (work_key tracked.task.job.work) config.workers) worker (and_left (on_shard config.workers worker tracked.task) (is_waiting tracked.outcome) (and_left (on_shard config.workers worker tracked.task && is_waiting tracked.outcome) (not (is_blocked (tracked_tasks past) tracked.task)) here.passes));
        is_out = ap is_out (outcome_next (event (Take worker now) (reply.Given job)) past job.number) ∙ rw (number_refl job.number) refl;
      }
