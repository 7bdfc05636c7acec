-- The worker's turns, each with one job less before it.
use Rattle.std.proofs.Common.{◌≡◌, ℕ, zero, suc, ℤ, ◌+◌, ◌≤◌, Bool, true, false, List, [], ◌∷◌, ◌++◌, Some, None, Option, refl, sym, ap, subst, ◌∙◌, arith, append-nil}
use Rattle.std.specs.Prelude.{cond, ◌&&◌}
use Rattle.table_model.specs.declared.command.Command.TheVariants.{Take, Report}
use Rattle.table_model.specs.declared.command.Config.{Config}
use Rattle.table_model.specs.declared.job.Job.{Job}
use Rattle.table_model.specs.declared.job.JobNumber.{JobNumber}
use Rattle.table_model.specs.declared.job.Verdict.{Verdict}
use Rattle.table_model.specs.declared.job.Verdict.TheVariants.{Programmed, DeviceFault}
use Rattle.table_model.specs.declared.reply.Reply.{Reply}
use Rattle.table_model.specs.declared.reply.Reply.TheVariants as reply
use Rattle.table_model.specs.Event.{Event}
use Rattle.table_model.specs.Jobs.{Task, JobUpdate, TrackedTask, Outcome, Waiting, Out, PassedOver, task_at, tasks, tracked_tasks, next_task, outcome_of, update_of, reported, number_eq, is_out, is_undone, is_waiting, is_clear, is_skipped, fib}
use Rattle.table_model.specs.Jobs as outcome
use Rattle.table_model.specs.Reply.{reply_to, reply_take, take_reply, is_halted}
use Rattle.table_laws.specs.Succeeds.{IdleIsDone}
use Rattle.table_laws.proofs.Ascending.{number, ascend}
use Rattle.table_laws.proofs.InTurn.{outcome_next}
use Rattle.table_laws.proofs.Updates.{Taken, ascending_pairs, number_refl, taken_is}
use Rattle.inline_worker.specs.Complete.{IsAtRest, WorkIsComplete}
use Rattle.inline_worker.specs.Turns.{count_outcomes, undone, behind, report_events, turn_events, asks_again, turns, answer_at, reports}
use Rattle.inline_worker.proofs.Counting.{one, count, moves, stays, any_none, none_any}

-- some job has the number of one that is among them
some_at_step : (x : Task) (rest : Option Task) → ((t : Task) × (rest ≡ Some t)) → (b : Bool) → (t : Task) × (cond b (Some x) rest ≡ Some t)
some_at_step x rest more true = (x, refl)
some_at_step x rest more false = more

some_at : (task : Task) (front back : List Task) → (t : Task) × (task_at (number task) (front ++ task ∷ back) ≡ Some t)
some_at task [] back = (task, rw (number_refl (number task)) refl)
some_at task (x ∷ front) back = some_at_step x (task_at (number task) (front ++ task ∷ back)) (some_at task front back) (number_eq (number task) (number x))

waits_undone : (o : Outcome) → is_waiting o ≡ true → (is_undone o ≡ true) × (is_out o ≡ false)
waits_undone Waiting h = (refl, refl)
waits_undone Out h = cc
waits_undone outcome.Programmed h = cc
waits_undone outcome.Faulted h = cc
waits_undone PassedOver h = cc

is_told : (said : Verdict) → (is_undone (reported said) ≡ false) × (is_out (reported said) ≡ false)
is_told Programmed = (refl, refl)
is_told DeviceFault = (refl, refl)

pub behind_both : (past xs ys : List Event) → behind past (xs ++ ys) ≡ behind (behind past xs) ys
behind_both past [] ys = refl
behind_both past (x ∷ xs) ys = behind_both (x ∷ past) xs ys

-- the tracked jobs of a history whose last event made none
pub counted : (p : Outcome → Bool) (e : Event) (past : List Event) → tasks (e ∷ past) ≡ tasks past → count_outcomes p (tracked_tasks (e ∷ past)) ≡ count p (e ∷ past) (tasks past)
unfolding tracked_tasks
counted p e past same = ap (count p (e ∷ past)) same

pub counted_before : (p : Outcome → Bool) (past : List Event) → count_outcomes p (tracked_tasks past) ≡ count p past (tasks past)
unfolding tracked_tasks
counted_before p past = refl

report_made : (e : Event) (past : List Event) → e.reply ≡ reply.Reported → tasks (e ∷ past) ≡ tasks past
unfolding tasks
report_made e past is = rw is (append-nil (tasks past))

reported_back_by : (b : Bool) → b ≡ true → cond b reply.Reported reply.NotOut ≡ reply.Reported
reported_back_by true h = refl
reported_back_by false h = cc

reported_back : (config : Config) (past : List Event) (n : JobNumber) (says : Verdict) (now : ℤ) → is_out (outcome_of past n) ≡ true → reply_to config past (Report n says now) ≡ reply.Reported
unfolding reply_to
reported_back config past n says now out = reported_back_by (is_out (outcome_of past n)) out

-- one event about a job of the history
module _ (e : Event) (past : List Event) (turn : JobUpdate) (is : update_of e ≡ Some turn) (made : tasks (e ∷ past) ≡ tasks past) (t : Task) (there : task_at turn.number (tasks past) ≡ Some t) where
  pub one_moves : (p : Outcome → Bool) → count_outcomes p (tracked_tasks (e ∷ past)) + one (p (outcome_of past turn.number)) ≡ count_outcomes p (tracked_tasks past) + one (p turn.outcome)
  one_moves p =
      let moved = moves p e past turn is (tasks past) (ascending_pairs (tasks past) (ascend past)) t there in
      ap (λ n. n + one (p (outcome_of past turn.number))) (counted p e past made) ∙ moved ∙ ap (λ n. n + one (p turn.outcome)) (sym (counted_before p past))

module _ (config : Config) (said : List Verdict) (now : ℤ) where
  abbrev take_event : Reply → Event
  take_event r = record { command = Take 0 now; reply = r }

  abbrev turn_with : Reply → List Event → List Event
  turn_with r past = take_event r ∷ report_events config said now r (take_event r ∷ past)

  -- what a turn leaves
  pub record Turned (r : Reply) (past after : List Event) : Type 0 where
    pub rest : IsAtRest config after
    pub fewer : asks_again r ≡ true → suc (undone after) ≡ undone past
    pub done : asks_again r ≡ false → undone after ≡ 0

  module _ (past : List Event) (at_rest : IsAtRest config past) where
    take_is : reply_to config past (Take 0 now) ≡ take_reply config past 0 (next_task config.workers (tracked_tasks past) 0)
    unfolding reply_to reply_take
    take_is = refl

    none_made : (r : Reply) → asks_again r ≡ true → tasks (take_event r ∷ past) ≡ tasks past
    unfolding tasks
    none_made (reply.Given job) asks = append-nil (tasks past)
    none_made (reply.Skipped number) asks = append-nil (tasks past)
    none_made _ asks = cc

    -- the job that it is about waited
    module _ (r : Reply) (lawful : r ≡ reply_to config past (Take 0 now)) (turn : JobUpdate) (is : update_of (take_event r) ≡ Some turn) where
      taken : Taken past turn
      taken = taken_is config past 0 now r lawful turn is

      there : (t : Task) × (task_at turn.number (tasks past) ≡ Some t)
      there = subst (λ (n : JobNumber). (t : Task) × (task_at n (tasks past) ≡ Some t)) (sym taken.of_it) (subst (λ (l : List Task). (t : Task) × (task_at (number taken.task) l ≡ Some t)) (sym taken.parts) (some_at taken.task taken.front taken.back))

      waited : (is_undone (outcome_of past turn.number) ≡ true) × (is_out (outcome_of past turn.number) ≡ false)
      waited = waits_undone (outcome_of past turn.number) taken.waited

    skipped : (n : JobNumber) → reply.Skipped n ≡ reply_to config past (Take 0 now) → Turned (reply.Skipped n) past (take_event (reply.Skipped n) ∷ past)
    unfolding undone
    skipped n told =
        let e = take_event (reply.Skipped n) in
        let turn : JobUpdate = record { number = n; outcome = PassedOver; now = now } in
        let at = there (reply.Skipped n) told turn refl in
        let was = waited (reply.Skipped n) told turn refl in
        let fewer = one_moves e past turn refl (none_made (reply.Skipped n) refl) at.0 at.1 is_undone in
        let out = one_moves e past turn refl (none_made (reply.Skipped n) refl) at.0 at.1 is_out in
        let undone_before : one (is_undone (outcome_of past n)) ≡ 1 = ap one was.0 in
        let out_before : one (is_out (outcome_of past n)) ≡ 0 = ap one was.1 in
        let none = at_rest.none_out in
        record { rest = record { lawful = (told, at_rest.lawful, refl); none_out = omega arith }; fewer = λ asks. omega arith; done = λ asks. absurd cc }

    -- a job that was given is out, and its report is taken down
    given : (job : Job) → reply.Given job ≡ reply_to config past (Take 0 now) → Turned (reply.Given job) past (behind past (turn_with (reply.Given job) past))
    unfolding undone
    given job told =
        let e = take_event (reply.Given job) in
        let turn : JobUpdate = record { number = job.number; outcome = Out; now = now } in
        let at = there (reply.Given job) told turn refl in
        let was = waited (reply.Given job) told turn refl in
        let made = none_made (reply.Given job) refl in
        let same = one_moves e past turn refl made at.0 at.1 is_undone in
        let out = one_moves e past turn refl made at.0 at.1 is_out in
        let undone_before : one (is_undone (outcome_of past job.number)) ≡ 1 = ap one was.0 in
        let out_before : one (is_out (outcome_of past job.number)) ≡ 0 = ap one was.1 in
        let none = at_rest.none_out in
        let out_now : outcome_of (e ∷ past) job.number ≡ Out = outcome_next e past job.number ∙ ap (λ b. cond b Out (outcome_of past job.number)) (number_refl job.number) in
        let says : Verdict = answer_at said (reports (e ∷ past)) in
        let answer : reply_to config (e ∷ past) (Report job.number says now) ≡ reply.Reported = reported_back config (e ∷ past) job.number says now (ap is_out out_now) in
        let r : Event = record { command = Report job.number says now; reply = reply.Reported } in
        let report : JobUpdate = record { number = job.number; outcome = reported says; now = now } in
        let there_still : task_at job.number (tasks (e ∷ past)) ≡ Some at.0 = ap (task_at job.number) made ∙ at.1 in
        let fewer = one_moves r (e ∷ past) report refl (report_made r (e ∷ past) refl) at.0 there_still is_undone in
        let done = one_moves r (e ∷ past) report refl (report_made r (e ∷ past) refl) at.0 there_still is_out in
        let undone_then : one (is_undone (outcome_of (e ∷ past) job.number)) ≡ 1 = ap (λ o. one (is_undone o)) out_now in
        let out_then : one (is_out (outcome_of (e ∷ past) job.number)) ≡ 1 = ap (λ o. one (is_out o)) out_now in
        let undone_after : one (is_undone (reported says)) ≡ 0 = ap one (is_told says).0 in
        let out_after : one (is_out (reported says)) ≡ 0 = ap one (is_told says).1 in
        let whole : Turned (reply.Given job) past (r ∷ e ∷ past) = record {
          rest = record { lawful = (sym answer, (told, at_rest.lawful, refl), refl); none_out = omega arith };
          fewer = λ asks. omega arith;
          done = λ asks. absurd cc;
        } in
        subst (λ (x : Reply). Turned (reply.Given job) past (record { command = Report job.number says now; reply = x } ∷ e ∷ past)) (sym answer) whole

    idled : (r : Reply) → r ≡ reply_to config past (Take 0 now) → asks_again r ≡ false → update_of (take_event r) ≡ None → tasks (take_event r ∷ past) ≡ tasks past → undone past ≡ 0 → Turned r past (take_event r ∷ past)
    unfolding undone
    idled r told asks_not is made nothing =
        let same : count_outcomes is_undone (tracked_tasks (take_event r ∷ past)) ≡ count_outcomes is_undone (tracked_tasks past) =
        counted is_undone (take_event r) past made ∙ stays is_undone (take_event r) past (tasks past) is ∙ sym (counted_before is_undone past) in
        let out : count_outcomes is_out (tracked_tasks (take_event r ∷ past)) ≡ count_outcomes is_out (tracked_tasks past) =
        counted is_out (take_event r) past made ∙ stays is_out (take_event r) past (tasks past) is ∙ sym (counted_before is_out past) in
        record { rest = record { lawful = (told, at_rest.lawful, refl); none_out = out ∙ at_rest.none_out }; fewer = λ asks. let no_way : true ≡ false = sym asks ∙ asks_not in cc; done = λ asks. same ∙ nothing }

    nothing_next : config.workers ≡ 1 → IdleIsDone config → next_task config.workers (tracked_tasks past) 0 ≡ None → undone past ≡ 0
    unfolding undone
    nothing_next one_worker idle none = any_none is_undone (tracked_tasks past) (idle past one_worker (none_any is_out (tracked_tasks past) at_rest.none_out) none)

    halt_made : (b : Bool) → tasks (take_event (cond b reply.HaltSeen reply.Idle) ∷ past) ≡ tasks past
    unfolding tasks
    halt_made true = append-nil (tasks past)
    halt_made false = append-nil (tasks past)

    by_halt : (b : Bool) → cond b reply.HaltSeen reply.Idle ≡ reply_to config past (Take 0 now) → undone past ≡ 0 → Turned (cond b reply.HaltSeen reply.Idle) past (behind past (turn_with (cond b reply.HaltSeen reply.Idle) past))
    by_halt true told nothing = idled reply.HaltSeen told refl refl (halt_made true) nothing
    by_halt false told nothing = idled reply.Idle told refl refl (halt_made false) nothing

    by_skip : (tracked : TrackedTask) (b : Bool) → cond b (reply.Skipped tracked.task.job.number) (reply.Given tracked.task.job) ≡ reply_to config past (Take 0 now)
        → Turned (cond b (reply.Skipped tracked.task.job.number) (reply.Given tracked.task.job)) past (behind past (turn_with (cond b (reply.Skipped tracked.task.job.number) (reply.Given tracked.task.job)) past))
    by_skip tracked true told = skipped tracked.task.job.number told
    by_skip tracked false told = given tracked.task.job told

    by_next : config.workers ≡ 1 → IdleIsDone config → (o : Option TrackedTask) → next_task config.workers (tracked_tasks past) 0 ≡ o → take_reply config past 0 o ≡ reply_to config past (Take 0 now)
        → Turned (take_reply config past 0 o) past (behind past (turn_with (take_reply config past 0 o) past))
    by_next one_worker idle None is told = by_halt (is_halted past && is_clear config.workers (tracked_tasks past) 0) told (nothing_next one_worker idle is)
    by_next one_worker idle (Some tracked) is told = by_skip tracked (is_skipped (fib past) tracked.task.job.work) told

    pub turned : config.workers ≡ 1 → IdleIsDone config → Turned (reply_to config past (Take 0 now)) past (behind past (turn_events config said now past))
    turned one_worker idle =
        let next : Option TrackedTask = next_task config.workers (tracked_tasks past) 0 in
        subst (λ (r : Reply). Turned r past (behind past (turn_with r past))) (sym take_is) (by_next one_worker idle next refl (sym take_is))

  -- all turns, where there are at most so many jobs
  module _ (one_worker : config.workers ≡ 1) (idle : IdleIsDone config) where
    abbrev Finished : List Event → Type 0
    Finished after = IsAtRest config after × (undone after ≡ 0)

    goes : (n : ℕ) (past : List Event) → ((later : List Event) → IsAtRest config later → undone later ≤ n → Finished (behind later (turns config said now n later)))
        → Turned (reply_to config past (Take 0 now)) past (behind past (turn_events config said now past)) → undone past ≤ suc n
        → (b : Bool) → asks_again (reply_to config past (Take 0 now)) ≡ b
        → Finished (behind (behind past (turn_events config said now past)) (cond b (turns config said now n (behind past (turn_events config said now past))) []))
    goes n past rest turn le true asks = let fewer = turn.fewer asks in rest (behind past (turn_events config said now past)) turn.rest (omega arith)
    goes n past rest turn le false asks = (turn.rest, turn.done asks)

    all_turns : (n : ℕ) (past : List Event) → IsAtRest config past → undone past ≤ n → Finished (behind past (turns config said now n past))
    all_turns zero past at_rest le = last (asks_again (reply_to config past (Take 0 now))) refl (turned past at_rest one_worker idle)
      where
        last : (b : Bool) → asks_again (reply_to config past (Take 0 now)) ≡ b → Turned (reply_to config past (Take 0 now)) past (behind past (turn_events config said now past)) → Finished (behind past (turn_events config said now past))
        last true asks turn = let fewer = turn.fewer asks in absurd (omega arith)
        last false asks turn = (turn.rest, turn.done asks)
    all_turns (suc n) past at_rest le =
        subst Finished (sym (behind_both past (turn_events config said now past) (cond (asks_again (reply_to config past (Take 0 now))) (turns config said now n (behind past (turn_events config said now past))) [])))
        (goes n past (all_turns n) (turned past at_rest one_worker idle) le (asks_again (reply_to config past (Take 0 now))) refl)

pub work_completes : (config : Config) → IdleIsDone config → WorkIsComplete config
work_completes config idle one_worker said now past at_rest = all_turns config said now one_worker idle (undone past) past at_rest (omega arith)
