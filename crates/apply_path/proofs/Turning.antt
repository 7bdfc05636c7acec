-- The worker's turns and the session's Collects behind a message.
use Rattle.std.specs.Prelude.{◌==◌, ◌&&◌}
use Rattle.std.specs.List.{flat_map}
use Rattle.std.proofs.Common.{◌≡◌, ℕ, zero, suc, ℤ, ◌≤◌, Bool, true, false, cond, List, [], ◌∷◌, ◌++◌, Option, Some, None, refl, sym, ap, subst, ◌∙◌, arith}
use Rattle.std.proofs.lemmas.List.{append-nil}
use Rattle.std.proofs.lemmas.List.Concat.{flat_map-cons}
use Rattle.schema_numbers.specs.Numbers.{Numbers}
use Rattle.table_model.specs.declared.command.Command.TheVariants.{Collect, Take}
use Rattle.table_model.specs.declared.command.Config.{Config}
use Rattle.table_model.specs.declared.job.Job.{Job}
use Rattle.table_model.specs.declared.job.Verdict.{Verdict}
use Rattle.table_model.specs.declared.reply.Reply.{Reply}
use Rattle.table_model.specs.declared.reply.Reply.TheVariants as reply
use Rattle.table_model.specs.Event.{Event}
use Rattle.table_model.specs.Jobs.{TrackedTask, fib, is_clear, is_out, is_skipped, next_task, outcome_of, tracked_tasks}
use Rattle.table_model.specs.Reply.{is_halted, reply_take, reply_to, take_reply}
use Rattle.table_model.specs.Results.{owed}
use Rattle.table_model.specs.Sessions.{is_live}
use Rattle.rib_core.specs.Core.{Core}
use Rattle.inline_worker.specs.Idle.{WorksUntilIdle}
use Rattle.inline_worker.specs.Turns.{asks_again, behind, collect_events, collects, next_event, outstanding_in, report_events, turn_events, turns, undone, work_events}
use Rattle.inline_worker.specs.Works.{DeviceTold}
use Rattle.inline_worker.proofs.Collecting.{collect_is}
use Rattle.message_run.specs.Behaviour.{PartAppended}
use Rattle.message_run.specs.declared.message_handler.Handled.{Handled}
use Rattle.message_run.specs.declared.message_handler.Handled.TheVariants.{Continue, Ends, Unreadable, NoMemory}
use Rattle.apply_path.specs.History.{answer_bytes, first_end, response_item, status_code_by, status_code_of, up_to_end}
use Rattle.apply_path.specs.SessionAt.{Collects, CollectsAll, TakesTurns, TurnsBy, TurnsTaken}
use Rattle.apply_path.proofs.Resting.{IsCalm, calm_live, calm_runs}

-- ---- the worker's replies answer nothing and end nothing

pub record IsQuiet (r : Reply) : Type 0 where
  pub calm : IsCalm r
  pub code : (operate : Bool) → status_code_by operate r ≡ None
  pub silent : (n : Numbers) (id : ℕ) (now : ℤ) → response_item n id now r ≡ []

quiet_given : (job : Job) → IsQuiet (reply.Given job)
unfolding response_item
quiet_given job = record { calm = record { began = refl; left = refl; halted = refl }; code = λ operate. refl; silent = λ n id now. refl }

quiet_take : (config : Config) (past : List Event) (o : Option TrackedTask) → IsQuiet (take_reply config past 0 o)
unfolding response_item
quiet_take config past None = by_halt (is_halted past && is_clear config.workers (tracked_tasks past) 0)
  where
    by_halt : (b : Bool) → IsQuiet (cond b reply.HaltSeen reply.Idle)
    by_halt true = record { calm = record { began = refl; left = refl; halted = refl }; code = λ operate. refl; silent = λ n id now. refl }
    by_halt false = record { calm = record { began = refl; left = refl; halted = refl }; code = λ operate. refl; silent = λ n id now. refl }
quiet_take config past (Some tracked) = by_skip (is_skipped (fib past) tracked.task.job.work)
  where
    by_skip : (b : Bool) → IsQuiet (cond b (reply.Skipped tracked.task.job.number) (reply.Given tracked.task.job))
    by_skip true = record { calm = record { began = refl; left = refl; halted = refl }; code = λ operate. refl; silent = λ n id now. refl }
    by_skip false = quiet_given tracked.task.job

quiet_report : (b : Bool) → IsQuiet (cond b reply.Reported reply.NotOut)
unfolding response_item
quiet_report true = record { calm = record { began = refl; left = refl; halted = refl }; code = λ operate. refl; silent = λ n id now. refl }
quiet_report false = record { calm = record { began = refl; left = refl; halted = refl }; code = λ operate. refl; silent = λ n id now. refl }

abbrev pub AreQuiet : List Event → Type 0
AreQuiet [] = Unit {0}
AreQuiet (e ∷ es) = IsQuiet e.reply × AreQuiet es

quiet_join : (xs ys : List Event) → AreQuiet xs → AreQuiet ys → AreQuiet (xs ++ ys)
quiet_join [] ys x y = y
quiet_join (e ∷ xs) ys x y = (x.0, quiet_join xs ys x.1 y)

quiet_if : (b : Bool) (es : List Event) → AreQuiet es → AreQuiet (cond b es [])
quiet_if true es h = h
quiet_if false es h = tt

module _ (config : Config) (said : List Verdict) (now : ℤ) where
  quiet_reports : (r : Reply) (past : List Event) → AreQuiet (report_events config said now r past)
  unfolding reply_to
  quiet_reports (reply.Given job) past = (quiet_report (is_out (outcome_of past job.number)), tt)
  quiet_reports _ past = tt

  quiet_turn : (past : List Event) → AreQuiet (turn_events config said now past)
  unfolding reply_to reply_take
  quiet_turn past =
      let taken : Event = next_event config past (Take 0 now) in
      (quiet_take config past (next_task config.workers (tracked_tasks past) 0), quiet_reports taken.reply (taken ∷ past))

  quiet_turns : (n : ℕ) (past : List Event) → AreQuiet (turns config said now n past)
  quiet_turns zero past = quiet_turn past
  quiet_turns (suc n) past =
      let went = turn_events config said now past in
      quiet_join went (cond (asks_again (reply_to config past (Take 0 now))) (turns config said now n (behind past went)) []) (quiet_turn past)
      (quiet_if (asks_again (reply_to config past (Take 0 now))) (turns config said now n (behind past went)) (quiet_turns n (behind past went)))

  pub quiet_work : (past : List Event) → AreQuiet (work_events config said now past)
  quiet_work past = quiet_turns (undone past) past

pub quiet_runs : (es past : List Event) → AreQuiet es → is_halted (behind past es) ≡ is_halted past
quiet_runs [] past h = refl
quiet_runs (e ∷ es) past h = quiet_runs es (e ∷ past) h.1 ∙ calm_runs e past h.0.calm

pub quiet_live : (es past : List Event) → AreQuiet es → is_live (behind past es) 0 ≡ is_live past 0
quiet_live [] past h = refl
quiet_live (e ∷ es) past h = quiet_live es (e ∷ past) h.1 ∙ calm_live e past h.0.calm

pub quiet_bytes : (n : Numbers) (es : List Event) → AreQuiet es → flat_map (answer_bytes n) es ≡ []
quiet_bytes n [] h = refl
quiet_bytes n (e ∷ es) h = flat_map-cons (answer_bytes n) e es ∙ ap (λ (x : List ℕ). x ++ flat_map (answer_bytes n) es) (h.0.silent n _ _) ∙ quiet_bytes n es h.1

-- ---- events that end no stream

abbrev pub GoOn : List Event → Type 0
GoOn [] = Unit {0}
GoOn (e ∷ es) = (status_code_of e ≡ None) × GoOn es

pub quiet_goes : (es : List Event) → AreQuiet es → GoOn es
quiet_goes [] h = tt
quiet_goes (e ∷ es) h = (h.0.code _, quiet_goes es h.1)

pub go_both : (xs ys : List Event) → GoOn xs → GoOn ys → GoOn (xs ++ ys)
go_both [] ys x y = y
go_both (e ∷ xs) ys x y = (x.0, go_both xs ys x.1 y)

pub go_no_end : (es : List Event) → GoOn es → first_end es ≡ None
unfolding first_end
go_no_end [] h = refl
go_no_end (e ∷ es) h = rw h.0 (go_no_end es h.1)

pub go_all : (es : List Event) → GoOn es → up_to_end es ≡ es
unfolding up_to_end
go_all [] h = refl
go_all (e ∷ es) h = rw h.0 (ap (λ (l : List Event). e ∷ l) (go_all es h.1))

go_if : (b : Bool) (es : List Event) → GoOn es → GoOn (cond b [] es)
go_if true es h = tt
go_if false es h = h

module _ (config : Config) where
  collected_code : (past : List Event) → is_halted past ≡ false → is_live past 0 ≡ true → status_code_by false (reply_to config past (Collect 0)) ≡ None
  collected_code past runs is_there = ap (status_code_by false) (collect_is config past runs is_there)

  collected_calm : (past : List Event) → is_halted past ≡ false → is_live past 0 ≡ true → IsCalm (reply_to config past (Collect 0))
  collected_calm past runs is_there = subst IsCalm (sym (collect_is config past runs is_there)) (record { began = refl; left = refl; halted = refl })

  collects_go : (n : ℕ) (past : List Event) → is_halted past ≡ false → is_live past 0 ≡ true → GoOn (collects config n past)
  collects_go zero past runs is_there = (collected_code past runs is_there, tt)
  collects_go (suc n) past runs is_there =
      let e : Event = next_event config past (Collect 0) in
      let calm = collected_calm past runs is_there in
      (collected_code past runs is_there, go_if (outstanding_in e.reply == 0) (collects config n (e ∷ past)) (collects_go n (e ∷ past) (calm_runs e past calm ∙ runs) (calm_live e past calm ∙ is_there)))

  pub collecting_goes : (past : List Event) → is_halted past ≡ false → is_live past 0 ≡ true → GoOn (collect_events config past)
  collecting_goes past runs is_there = collects_go (owed past 0) past runs is_there

-- ---- the turns behind a message

module _ (n : Numbers) (config : Config) (now : ℤ) (past : List Event) (said : List Verdict) (mid new : Core) (device : DeviceTold) (takes : TakesTurns config past) (w : WorksUntilIdle config now past said mid device) where
  pub then_collects : Collects config w.works.after
  then_collects =
      let quiet = quiet_work config ((said ++ w.works.more) ++ []) now past in
      record {
        takes = record {
          one_worker = takes.one_worker;
          rest = w.rest;
          runs = subst (λ (l : List Event). is_halted l ≡ false) (w.works.events_are []) (quiet_runs _ past quiet ∙ takes.runs);
          is_there = subst (λ (l : List Event). is_live l 0 ≡ true) (w.works.events_are []) (quiet_live _ past quiet ∙ takes.is_there);
        };
        done = w.done;
      }

  turns_by : (answer : Handled) (before after : List ℕ) → CollectsAll n config w.works.after new answer before after → TurnsBy n config now past (said ++ w.works.more) new device.held_before device.held_after answer before after
  turns_by Continue before after c = record { worked = w.works.after; events_are = w.works.events_are; counted = w.works.counted; takes = then_collects.takes; collects = c; holds = w.works.holds }
  turns_by (Ends code) before after c = c
  turns_by (Unreadable place) before after c = c
  turns_by NoMemory before after c =
      let all : w.works.after ≡ behind past (work_events config (said ++ w.works.more) now past)
      = sym (ap (λ (l : List Verdict). behind past (work_events config l now past)) (sym (append-nil (said ++ w.works.more))) ∙ w.works.events_are []) in
      subst (λ (l : List Event). PartAppended (flat_map (answer_bytes n) (collect_events config l)) before after) all c

  pub turns_taken : (answer : Handled) (before after : List ℕ) → CollectsAll n config w.works.after new answer before after → TurnsTaken n config now past said new device answer before after
  turns_taken answer before after c = record { more = w.works.more; turns = turns_by answer before after c; later = w.works.later; failed = w.works.failed }

pub turns_stopped : (n : Numbers) (config : Config) (now : ℤ) (past : List Event) (said : List Verdict) (new : Core) (device : DeviceTold) (text : List ℕ) → device.faults_before ≤ device.faults_after
    → TurnsTaken n config now past said new device NoMemory text text
turns_stopped n config now past said new device text later = record {
  more = [];
  turns = record { part = []; others = _; bytes_are = refl; appended = sym (append-nil text) };
  later = later;
  failed = λ few. omega (arith, later);
}
