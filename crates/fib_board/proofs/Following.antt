-- What a call leaves stands for the history with its event: taking, reporting and collecting.
use Rattle.std.proofs.Common.{◌≡◌, ℕ, zero, suc, ℤ, ◌+◌, Bool, true, false, List, [], ◌∷◌, ◌++◌, Option, Some, None, length, map, take, drop, subst, refl, sym, ap, ◌∙◌, arith}
use Rattle.std.specs.Prelude.{◌&&◌, ◌==◌, cond, filter, find, not, is_some, option_map, if◌then◌else◌}
use Rattle.std.proofs.lemmas.Bool.{eqb-true}
use Rattle.std.proofs.lemmas.List.{append-nil, drop-drop}
use Rattle.aft_entries.specs.declared.entry.Entry.{Entry}
use Rattle.table_model.specs.declared.command.Command.{Command}
use Rattle.table_model.specs.declared.command.Command.TheVariants.{Collect, Take, Report}
use Rattle.table_model.specs.declared.command.Config.{Config}
use Rattle.table_model.specs.declared.job.Job.{Job}
use Rattle.table_model.specs.declared.job.JobNumber.{JobNumber}
use Rattle.table_model.specs.declared.job.Verdict.{Verdict}
use Rattle.table_model.specs.declared.job.Verdict.TheVariants as verdict
use Rattle.table_model.specs.declared.reply.Reply.{Reply}
use Rattle.table_model.specs.declared.reply.Reply.TheVariants as reply
use Rattle.table_model.specs.declared.results.FibResult.{FibResult}
use Rattle.table_model.specs.Event.{Event}
use Rattle.table_model.specs.Jobs.{Task, JobUpdate, TrackedTask, Outcome, Waiting, Out, Programmed, Faulted, PassedOver, tasks, tasks_by, task_at, tracked_tasks, update_of, update_by_take, outcome_of, number_eq, is_undone, is_waiting, is_out, is_programmed, is_blocked, is_clear, is_skipped, on_shard, next_task, effect, fib, reported}
use Rattle.table_model.specs.Laws.{event, effect_of, batch_in}
use Rattle.table_model.specs.BoardState.{BoardState, StandsFor, as_wanted, is_undone_task, undone_tasks, due_for, due_of}
use Rattle.table_model.specs.Legal.{IsLawful}
use Rattle.table_model.specs.Reply.{reply_to, reply_take, take_reply, is_halted, is_gone}
use Rattle.table_model.specs.Results.{results, result_by, taken, collected_by, batch, outstanding}
use Rattle.table_model.specs.Sessions.{is_live}
use Rattle.table_model.proofs.Inert.{IsInert, inert_live}
use Rattle.table_model.proofs.Tests.{and_left, and_right}
use Rattle.table_laws.specs.Boards.{BoardAnswersAsHistory}
use Rattle.table_laws.proofs.Ascending.{number, ascend}
use Rattle.table_laws.proofs.Reports.{out_undone as was_undone}
use Rattle.table_laws.proofs.Updates.{Each, IsFound, found, tracked_at, number_same, number_symm, number_refl}
use Rattle.fib_board.specs.Follows.{BoardStateIs, AfterTake, AfterReport, AfterCollect, TakesFollow, ReportsFollow, CollectsFollow}
use Rattle.fib_board.specs.Steps.{without, sent, results_of, undone_after_take, skipped_results, is_out_as, out_task, undone_after_report, fib_by, fib_after_report, reported_results, due_after_collect}
use Rattle.fib_board.proofs.Ending.{passed_undone, passed_due, out_undone, out_due}
use Rattle.fib_board.proofs.Finding.{any_found}
use Rattle.fib_board.proofs.Standing.{same_wanted, same_alive, without_wanted, sent_wanted, undone_stay, undone_without, undone_sent, due_stays, due_done, programmed_of, fib_by_update}

module _ (config : Config) (command : Command) (r : Reply) (past : List Event) (lawful : IsLawful config (event command r ∷ past)) (inert : IsInert r) (before after : BoardState) (stands : StandsFor before past) where
  none_made : tasks_by (event command r) past ≡ []
  none_made = rw (inert.done, inert.flushed, inert.left) refl

  alive : (session : ℕ) → is_live (event command r ∷ past) session ≡ is_live past session
  alive = same_alive (event command r ∷ past) past (inert_live command r past inert)

  wanted : (xs : List TrackedTask) → map (as_wanted (event command r ∷ past)) xs ≡ map (as_wanted past) xs
  wanted = same_wanted (event command r ∷ past) past (inert_live command r past inert)

  -- the event is about no job
  module _ (none : update_of (event command r) ≡ None) where
    pub undone_same : before.undone ≡ map (as_wanted (event command r ∷ past)) (undone_tasks (event command r ∷ past))
    undone_same = stands.undone ∙ ap (map (as_wanted past)) (sym (undone_stay (event command r) past none_made none)) ∙ sym (wanted (undone_tasks (event command r ∷ past)))

    pub fib_same : before.fib ≡ fib (event command r ∷ past)
    fib_same = stands.fib ∙ sym (fib_by_update config (event command r) past lawful None none)

    pub none_follows : ((session : ℕ) → collected_by session (event command r) ≡ 0) → BoardStateIs after before.workers before.undone before.fib (due_for before.due) → StandsFor after (event command r ∷ past)
    none_follows untaken leaves = record {
      undone = leaves.undone ∙ undone_same;
      fib = leaves.fib ∙ fib_same;
      due = λ session. leaves.due session ∙ stands.due session ∙ sym (due_stays config (event command r) past lawful.1 session (alive session) (untaken session) (ap (result_by session (tasks past)) none));
    }

  module _ (untaken : (session : ℕ) → collected_by session (event command r) ≡ 0) (turn : JobUpdate) (is : update_of (event command r) ≡ Some turn) where
    -- a job goes out
    pub out_follows : turn.outcome ≡ Out → is_undone (outcome_of past turn.number) ≡ true → BoardStateIs after before.workers (map (sent turn.number) before.undone) before.fib (due_for before.due) → StandsFor after (event command r ∷ past)
    out_follows goes undone leaves = record {
      undone = leaves.undone ∙ ap (map (sent turn.number)) stands.undone ∙ sent_wanted past turn.number (undone_tasks past)
          ∙ ap (map (as_wanted past)) (sym (undone_sent (event command r) past none_made turn is goes undone)) ∙ sym (wanted (undone_tasks (event command r ∷ past)));
      fib = leaves.fib ∙ stands.fib ∙ sym (fib_by_update config (event command r) past lawful (Some turn) is ∙ idle);
      due = λ session. leaves.due session ∙ stands.due session ∙ sym (due_stays config (event command r) past lawful.1 session (alive session) (untaken session) (ap (result_by session (tasks past)) is ∙ no_result session));
    }
      where
        idle : effect_of (programmed_of past (Some turn)) (fib past) ≡ fib past
        idle = rw goes refl

        no_result : (session : ℕ) → result_by session (tasks past) (Some turn) ≡ None
        no_result session = rw goes refl

    -- a job is done
    pub done_follows : (tracked : TrackedTask) → is_undone turn.outcome ≡ false → task_at turn.number (tasks past) ≡ Some tracked.task
        → BoardStateIs after before.workers (without turn.number before.undone) (if is_programmed turn.outcome then effect before.fib tracked.task.job.work else before.fib)
        (λ session. due_for before.due session ++ results_of session (as_wanted past tracked).task turn.outcome turn.now)
        → StandsFor after (event command r ∷ past)
    done_follows tracked done of_it leaves = record {
      undone = leaves.undone ∙ ap (without turn.number) stands.undone ∙ without_wanted past turn.number (undone_tasks past)
          ∙ ap (map (as_wanted past)) (sym (undone_without (event command r) past none_made turn is done)) ∙ sym (wanted (undone_tasks (event command r ∷ past)));
      fib = leaves.fib ∙ ap (λ table. if is_programmed turn.outcome then effect table tracked.task.job.work else table) stands.fib ∙ sym (fib_by_update config (event command r) past lawful (Some turn) is ∙ done_fib (is_programmed turn.outcome));
      due = λ session. leaves.due session ∙ ap (λ l. l ++ results_of session (as_wanted past tracked).task turn.outcome turn.now) (stands.due session)
          ∙ sym (due_done config (event command r) past lawful.1 session (alive session) (untaken session) turn tracked is done of_it);
    }
      where
        done_fib : (b : Bool) → effect_of (cond b (task_at turn.number (tasks past)) None) (fib past) ≡ cond b (effect (fib past) tracked.task.job.work) (fib past)
        done_fib true = ap (λ o. effect_of o (fib past)) of_it
        done_fib false = refl

-- the job with this number
only_one : (n : JobNumber) (task : Task) (front back : List Task) → number_eq n (number task) ≡ true → Each (λ other. number_eq n (number other) ≡ true → other ≡ task) (front ++ task ∷ back)
    → find (λ other. number_eq n other.job.number) (front ++ task ∷ back) ≡ Some task
only_one n task [] back here only = rw here refl
only_one n task (t ∷ front) back here only = by_test (number_eq n (number t)) refl (only_one n task front back here only.1)
  where
    by_test : (b : Bool) → number_eq n (number t) ≡ b → find (λ other. number_eq n other.job.number) (front ++ task ∷ back) ≡ Some task
        → cond b (Some t) (find (λ other. number_eq n other.job.number) (front ++ task ∷ back)) ≡ Some task
    by_test true same rest = ap Some (only.0 same)
    by_test false far rest = rest

waits_undone : (o : Outcome) → is_waiting o ≡ true → is_undone o ≡ true
waits_undone Waiting h = refl
waits_undone Out h = cc
waits_undone Programmed h = cc
waits_undone Faulted h = cc
waits_undone PassedOver h = cc

-- A worker takes a job.

job_wanted : (past : List Event) (tracked : TrackedTask) → (as_wanted past tracked).task.job ≡ tracked.task.job
unfolding as_wanted
job_wanted past tracked = refl

module _ (config : Config) (tells : BoardAnswersAsHistory config) (past : List Event) (before after : BoardState) (worker : ℕ) (now : ℤ) (answer : Reply)
    (lawful : IsLawful config (event (Take worker now) answer ∷ past)) (same : before.workers ≡ config.workers) (stands : StandsFor before past) (leaves : AfterTake worker now before after) where
  abbrev may_go : TrackedTask → Bool
  may_go s = on_shard config.workers worker s.task && is_waiting s.outcome && not (is_blocked (tracked_tasks past) s.task)

  next_is : (o : Option TrackedTask) → next_task config.workers (tracked_tasks past) worker ≡ o → next_task before.workers before.undone worker ≡ option_map (as_wanted past) o
  next_is o is = (tells past before same stands).next worker ∙ ap (option_map (as_wanted past)) is

  found_in : (tracked : TrackedTask) → next_task config.workers (tracked_tasks past) worker ≡ Some tracked → IsFound past may_go tracked (tasks past)
  unfolding next_task tracked_tasks
  found_in tracked is = found past may_go tracked (tasks past) (ascend past) is

  found_task : (tracked : TrackedTask) → IsFound past may_go tracked (tasks past) → task_at tracked.task.job.number (tasks past) ≡ Some tracked.task
  found_task tracked here =
      ap (find (λ other. number_eq tracked.task.job.number other.job.number)) here.parts
      ∙ only_one tracked.task.job.number tracked.task here.front here.back (number_refl tracked.task.job.number)
      (subst (Each (λ other. number_eq tracked.task.job.number (number other) ≡ true → other ≡ tracked.task)) here.parts here.only)

  found_undone : (tracked : TrackedTask) → IsFound past may_go tracked (tasks past) → is_undone (outcome_of past tracked.task.job.number) ≡ true
  found_undone tracked here =
      waits_undone (outcome_of past tracked.task.job.number)
      (ap is_waiting (sym here.outcome_is)
      ∙ and_right (on_shard config.workers worker tracked.task) (is_waiting tracked.outcome) (and_left (on_shard config.workers worker tracked.task && is_waiting tracked.outcome) (not (is_blocked (tracked_tasks past) tracked.task)) here.passes))

  same_skip : (tracked : TrackedTask) → is_skipped before.fib (as_wanted past tracked).task.job.work ≡ is_skipped (fib past) tracked.task.job.work
  same_skip tracked = ap (λ table. is_skipped table (as_wanted past tracked).task.job.work) stands.fib ∙ ap (λ (job : Job). is_skipped (fib past) job.work) (job_wanted past tracked)

  idle_take : (r : Reply) → answer ≡ r → IsInert r → update_by_take now r ≡ None → next_task before.workers before.undone worker ≡ None → StandsFor after (event (Take worker now) answer ∷ past)
  idle_take r told inert none nothing =
      none_follows config (Take worker now) answer past lawful (subst IsInert (sym told) inert) before after stands (ap (update_by_take now) told ∙ none) (λ session. refl) (record {
        workers = leaves.workers;
        undone = leaves.undone ∙ ap (undone_after_take before.fib before.undone) nothing;
        fib = leaves.fib;
        due = λ session. leaves.due session ∙ ap (λ o. due_for before.due session ++ skipped_results session before.fib now o) nothing ∙ append-nil (due_for before.due session);
      })

  passed_take : (tracked : TrackedTask) → answer ≡ reply.Skipped tracked.task.job.number → next_task config.workers (tracked_tasks past) worker ≡ Some tracked → is_skipped (fib past) tracked.task.job.work ≡ true → StandsFor after (event (Take worker now) answer ∷ past)
  passed_take tracked told is skipped =
      let here = found_in tracked is in
      let skip = same_skip tracked ∙ skipped in
      let of_it = ap (λ (job : Job). job.number) (job_wanted past tracked) in
      done_follows config (Take worker now) answer past lawful (subst IsInert (sym told) (record { began = refl; params_set = refl; announced = refl; done = refl; left = refl; flushed = refl; halt_done = refl; no_memory = refl })) before after stands
      (λ session. refl) (record { number = tracked.task.job.number; outcome = PassedOver; now = now }) (ap (update_by_take now) told) tracked refl (found_task tracked here) (record {
        workers = leaves.workers;
        undone = leaves.undone ∙ passed_undone before.fib _ (as_wanted past tracked) (next_is (Some tracked) is) skip before.undone ∙ ap (λ n. without n before.undone) of_it;
        fib = leaves.fib;
        due = λ session. leaves.due session ∙ ap (λ l. due_for before.due session ++ l) (passed_due before.fib _ (as_wanted past tracked) (next_is (Some tracked) is) skip session now);
      })

  sent_take : (tracked : TrackedTask) → answer ≡ reply.Given tracked.task.job → next_task config.workers (tracked_tasks past) worker ≡ Some tracked → is_skipped (fib past) tracked.task.job.work ≡ false → StandsFor after (event (Take worker now) answer ∷ past)
  sent_take tracked told is able =
      let here = found_in tracked is in
      let go = same_skip tracked ∙ able in
      let of_it = ap (λ (job : Job). job.number) (job_wanted past tracked) in
      out_follows config (Take worker now) answer past lawful (subst IsInert (sym told) (record { began = refl; params_set = refl; announced = refl; done = refl; left = refl; flushed = refl; halt_done = refl; no_memory = refl })) before after stands
      (λ session. refl) (record { number = tracked.task.job.number; outcome = Out; now = now }) (ap (update_by_take now) told) refl (found_undone tracked here) (record {
        workers = leaves.workers;
        undone = leaves.undone ∙ out_undone before.fib _ (as_wanted past tracked) (next_is (Some tracked) is) go before.undone ∙ ap (λ n. map (sent n) before.undone) of_it;
        fib = leaves.fib;
        due = λ session. leaves.due session ∙ ap (λ l. due_for before.due session ++ l) (out_due before.fib _ (as_wanted past tracked) (next_is (Some tracked) is) go session now) ∙ append-nil (due_for before.due session);
      })

  by_next : (o : Option TrackedTask) → next_task config.workers (tracked_tasks past) worker ≡ o → answer ≡ take_reply config past worker o → StandsFor after (event (Take worker now) answer ∷ past)
  by_next None is told = by_halt (is_halted past && is_clear config.workers (tracked_tasks past) worker) told
    where
      by_halt : (b : Bool) → answer ≡ cond b reply.HaltSeen reply.Idle → StandsFor after (event (Take worker now) answer ∷ past)
      by_halt true says = idle_take reply.HaltSeen says (record { began = refl; params_set = refl; announced = refl; done = refl; left = refl; flushed = refl; halt_done = refl; no_memory = refl }) refl (next_is None is)
      by_halt false says = idle_take reply.Idle says (record { began = refl; params_set = refl; announced = refl; done = refl; left = refl; flushed = refl; halt_done = refl; no_memory = refl }) refl (next_is None is)
  by_next (Some tracked) is told = by_skip (is_skipped (fib past) tracked.task.job.work) refl told
    where
      by_skip : (b : Bool) → is_skipped (fib past) tracked.task.job.work ≡ b → answer ≡ cond b (reply.Skipped tracked.task.job.number) (reply.Given tracked.task.job) → StandsFor after (event (Take worker now) answer ∷ past)
      by_skip true skipped says = passed_take tracked says is skipped
      by_skip false able says = sent_take tracked says is able

  pub take_stands : StandsFor after (event (Take worker now) answer ∷ past)
  unfolding reply_to reply_take
  take_stands = by_next (next_task config.workers (tracked_tasks past) worker) refl lawful.0

pub takes_follow : (config : Config) → BoardAnswersAsHistory config → TakesFollow config
takes_follow config tells past before after worker now answer lawful same stands leaves = take_stands config tells past before after worker now answer lawful same stands leaves

-- A device's work is reported.

found_it : (p : Task → Bool) (ts : List Task) (t : Task) → find p ts ≡ Some t → p t ≡ true
found_it p [] t is = cc
found_it p (x ∷ ts) t is = by_test (p x) refl (found_it p ts t) is
  where
    by_test : (b : Bool) → p x ≡ b → (find p ts ≡ Some t → p t ≡ true) → cond b (Some x) (find p ts) ≡ Some t → p t ≡ true
    by_test true passes further k = let one : x ≡ t = cc in rw (← one) passes
    by_test false fails further k = further k

said_done : (said : Verdict) → is_undone (reported said) ≡ false
said_done verdict.Programmed = refl
said_done verdict.DeviceFault = refl

said_fib : (said : Verdict) (table : List Entry) (tracked : TrackedTask) (job : Job) → job ≡ tracked.task.job → fib_by said table job.work ≡ (if is_programmed (reported said) then effect table tracked.task.job.work else table)
said_fib verdict.Programmed table tracked job same = ap (λ (j : Job). effect table j.work) same
said_fib verdict.DeviceFault table tracked job same = refl

module _ (past : List Event) (n : JobNumber) (out : is_out (outcome_of past n) ≡ true) where
  same_test : (tracked : TrackedTask) → is_out_as n (as_wanted past tracked) ≡ is_out_as n tracked
  unfolding as_wanted
  same_test tracked = refl

  out_step : (t : Task) (rest : List TrackedTask) (further : Option TrackedTask) (o : Outcome) → o ≡ outcome_of past (number t)
      → find (is_out_as n) (map (as_wanted past) rest) ≡ further
      → (a b : Bool) → number_eq n (number t) ≡ a → is_undone o ≡ b
      → find (is_out_as n) (map (as_wanted past) (cond b (record { task = t; outcome = o } ∷ rest) rest)) ≡ cond a (Some (as_wanted past (record { task = t; outcome = o }))) further
  out_step t rest further o is more true true here kept =
      let goes : is_out o ≡ true = ap is_out is ∙ ap (λ m. is_out (outcome_of past m)) (sym (number_same n (number t) here)) ∙ out in
      rw (same_test (record { task = t; outcome = o }), sym (number_symm n (number t)) ∙ here, goes) refl
  out_step t rest further o is more true false here left =
      let goes : is_out o ≡ true = ap is_out is ∙ ap (λ m. is_out (outcome_of past m)) (sym (number_same n (number t) here)) ∙ out in
      let no_way : false ≡ true = sym left ∙ was_undone o goes in cc
  out_step t rest further o is more false true far kept = rw (same_test (record { task = t; outcome = o }), sym (number_symm n (number t)) ∙ far) more
  out_step t rest further o is more false false far left = more

  map_cond : (b : Bool) (t : Task) (further : Option Task) → option_map (λ x. as_wanted past (tracked_at past x)) (cond b (Some t) further) ≡ cond b (Some (as_wanted past (tracked_at past t))) (option_map (λ x. as_wanted past (tracked_at past x)) further)
  map_cond true t further = refl
  map_cond false t further = refl

  out_found : (ts : List Task) → find (is_out_as n) (map (as_wanted past) (filter is_undone_task (map (tracked_at past) ts))) ≡ option_map (λ t. as_wanted past (tracked_at past t)) (find (λ t. number_eq n t.job.number) ts)
  out_found [] = refl
  out_found (t ∷ ts) =
      out_step t (filter is_undone_task (map (tracked_at past) ts)) (option_map (λ x. as_wanted past (tracked_at past x)) (find (λ x. number_eq n x.job.number) ts)) (outcome_of past (number t)) refl (out_found ts) (number_eq n (number t)) (is_undone (outcome_of past (number t))) refl refl
      ∙ sym (map_cond (number_eq n (number t)) t (find (λ x. number_eq n x.job.number) ts))

  pub tracked_out : out_task n (map (as_wanted past) (undone_tasks past)) ≡ option_map (λ t. as_wanted past (tracked_at past t)) (find (λ t. number_eq n t.job.number) (tasks past))
  unfolding undone_tasks tracked_tasks
  tracked_out = out_found (tasks past)

none_of : {X : Type 0} (o : Option X) → is_some o ≡ false → o ≡ None
none_of None h = refl
none_of (Some x) h = cc

module _ (config : Config) (tells : BoardAnswersAsHistory config) (past : List Event) (before after : BoardState) (n : JobNumber) (said : Verdict) (now : ℤ) (answer : Reply)
    (lawful : IsLawful config (event (Report n said now) answer ∷ past)) (stands : StandsFor before past) (leaves : AfterReport n said now before after) where
  -- whether a job is out doesn't depend on the number of workers
  abbrev counted : BoardState
  counted = record { workers = config.workers; undone = before.undone; fib = before.fib; due = before.due; spare = before.spare }

  told_out : is_some (out_task n before.undone) ≡ is_out (outcome_of past n)
  told_out = sym (any_found (is_out_as n) before.undone) ∙ (tells past counted refl (record { undone = stands.undone; fib = stands.fib; due = stands.due })).out n lawful.1

  abbrev turn : JobUpdate
  turn = record { number = n; outcome = reported said; now = now }

  unknown : answer ≡ reply.NotOut → is_out (outcome_of past n) ≡ false → StandsFor after (event (Report n said now) answer ∷ past)
  unknown told in_no_hand =
      let nothing : out_task n before.undone ≡ None = none_of (out_task n before.undone) (told_out ∙ in_no_hand) in
      none_follows config (Report n said now) answer past lawful (subst IsInert (sym told) (record { began = refl; params_set = refl; announced = refl; done = refl; left = refl; flushed = refl; halt_done = refl; no_memory = refl })) before after stands
      (ap (λ r. update_of (event (Report n said now) r)) told) (λ session. refl) (record {
        workers = leaves.workers;
        undone = leaves.undone ∙ ap (undone_after_report before.undone) nothing;
        fib = leaves.fib ∙ ap (fib_after_report said before.fib) nothing;
        due = λ session. leaves.due session ∙ ap (λ o. due_for before.due session ++ reported_results session said now o) nothing ∙ append-nil (due_for before.due session);
      })

  known : answer ≡ reply.Reported → (t : Task) → task_at n (tasks past) ≡ Some t → out_task n before.undone ≡ Some (as_wanted past (tracked_at past t)) → StandsFor after (event (Report n said now) answer ∷ past)
  known told t of_it there =
      let same : (as_wanted past (tracked_at past t)).task.job ≡ t.job = job_wanted past (tracked_at past t) in
      let numbered : (as_wanted past (tracked_at past t)).task.job.number ≡ n = ap (λ (job : Job). job.number) same ∙ sym (number_same n t.job.number (found_it (λ other. number_eq n other.job.number) (tasks past) t of_it)) in
      done_follows config (Report n said now) answer past lawful (subst IsInert (sym told) (record { began = refl; params_set = refl; announced = refl; done = refl; left = refl; flushed = refl; halt_done = refl; no_memory = refl })) before after stands
      (λ session. refl) turn (ap (λ r. update_of (event (Report n said now) r)) told) (tracked_at past t) (said_done said) of_it (record {
        workers = leaves.workers;
        undone = leaves.undone ∙ ap (undone_after_report before.undone) there ∙ ap (λ m. without m before.undone) numbered;
        fib = leaves.fib ∙ ap (fib_after_report said before.fib) there ∙ said_fib said before.fib (tracked_at past t) _ same;
        due = λ session. leaves.due session ∙ ap (λ o. due_for before.due session ++ reported_results session said now o) there;
      })

  by_out : (b : Bool) → is_out (outcome_of past n) ≡ b → answer ≡ cond b reply.Reported reply.NotOut → StandsFor after (event (Report n said now) answer ∷ past)
  by_out false in_no_hand told = unknown told in_no_hand
  by_out true out told = by_task (task_at n (tasks past)) refl
    where
      there : out_task n before.undone ≡ option_map (λ t. as_wanted past (tracked_at past t)) (task_at n (tasks past))
      there = ap (out_task n) stands.undone ∙ tracked_out past n out

      by_task : (o : Option Task) → task_at n (tasks past) ≡ o → StandsFor after (event (Report n said now) answer ∷ past)
      by_task None missing = let no_way : false ≡ true = sym (ap is_some (there ∙ ap (option_map (λ t. as_wanted past (tracked_at past t))) missing)) ∙ told_out ∙ out in cc
      by_task (Some t) of_it = known told t of_it (there ∙ ap (option_map (λ t. as_wanted past (tracked_at past t))) of_it)

  pub report_stands : StandsFor after (event (Report n said now) answer ∷ past)
  unfolding reply_to
  report_stands = by_out (is_out (outcome_of past n)) refl lawful.0

pub reports_follow : (config : Config) → BoardAnswersAsHistory config → ReportsFollow config
reports_follow config tells past before after n said now answer lawful stands leaves = report_stands config tells past before after n said now answer lawful stands leaves

-- A session collects.

drop_again : {X : Type 0} (n : ℕ) (xs : List X) → drop (length (take n xs)) xs ≡ drop n xs
drop_again zero xs = refl
drop_again (suc n) [] = refl
drop_again (suc n) (x ∷ xs) = drop_again n xs

given_is : (past : List Event) (session left : ℕ) (given : List FibResult) (halted gone : Bool) → reply.Collected given left ≡ cond halted reply.Stopped (cond gone reply.Gone (reply.Collected (batch past session) (outstanding past session))) → given ≡ batch past session
given_is past session left given true gone told = cc
given_is past session left given false true told = cc
given_is past session left given false false told = ap batch_in told

module _ (config : Config) (past : List Event) (before after : BoardState) (session left : ℕ) (given : List FibResult)
    (lawful : IsLawful config (event (Collect session) (reply.Collected given left) ∷ past)) (stands : StandsFor before past) (leaves : AfterCollect session before after) where
  is_batch : given ≡ batch past session
  unfolding reply_to
  is_batch = given_is past session left given (is_halted past) (is_gone past (Collect session)) lawful.0

  inert : IsInert (reply.Collected given left)
  inert = record { began = refl; params_set = refl; announced = refl; done = refl; left = refl; flushed = refl; halt_done = refl; no_memory = refl }

  rest : drop (taken past session + length given) (results past session ++ []) ≡ drop 256 (drop (taken past session) (results past session))
  unfolding batch
  rest =
      ap (drop (taken past session + length given)) (append-nil (results past session))
      ∙ sym (drop-drop (length given) (taken past session) (results past session))
      ∙ ap (λ (l : List FibResult). drop (length l) (drop (taken past session) (results past session))) is_batch
      ∙ drop_again 256 (drop (taken past session) (results past session))

  same_rest : (other : ℕ) → drop (taken past other + 0) (results past other ++ []) ≡ drop (taken past other) (results past other)
  same_rest other = let whole : taken past other + 0 ≡ taken past other = omega arith in rw whole (ap (drop (taken past other)) (append-nil (results past other)))

  due_left : (other : ℕ) → due_of (event (Collect session) (reply.Collected given left) ∷ past) other ≡ due_after_collect session other (due_of past other)
  unfolding due_of taken results
  due_left other = rw (alive config (Collect session) (reply.Collected given left) past lawful inert before after stands other) (by_session (session == other) refl (is_live past other))
    where
      by_session : (b : Bool) → (session == other) ≡ b → (a : Bool)
          → cond a (drop (taken past other + cond b (length given) 0) (results past other ++ [])) [] ≡ cond b (drop 256 (cond a (drop (taken past other) (results past other)) [])) (cond a (drop (taken past other) (results past other)) [])
      by_session true same true = rw (← eqb-true session other same) rest
      by_session true same false = refl
      by_session false far true = same_rest other
      by_session false far false = refl

  pub collect_stands : StandsFor after (event (Collect session) (reply.Collected given left) ∷ past)
  collect_stands = record {
    undone = leaves.undone ∙ undone_same config (Collect session) (reply.Collected given left) past lawful inert before after stands refl;
    fib = leaves.fib ∙ fib_same config (Collect session) (reply.Collected given left) past lawful inert before after stands refl;
    due = λ other. leaves.due other ∙ ap (due_after_collect session other) (stands.due other) ∙ sym (due_left other);
  }

pub collects_follow : (config : Config) → CollectsFollow config
collects_follow config past before after session left given lawful stands leaves = collect_stands config past before after session left given lawful stands leaves
