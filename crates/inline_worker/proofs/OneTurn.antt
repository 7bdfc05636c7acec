-- One turn of the worker, and what the device holds then.
use Rattle.std.proofs.Common.{◌≡◌, ℕ, ℤ, ◌+◌, ◌-◌, ◌^◌, ◌<◌, ◌≤◌, Bool, true, false, List, [], ◌∷◌, ◌++◌, length, Option, refl, sym, ap, subst, ◌∙◌, arith, append-nil}
use Rattle.std.specs.Prelude.{min}
use Rattle.std.proofs.lemmas.Bool.Decides.{nat_tests}
use Rattle.std.proofs.lemmas.List.{length-append}
use Rattle.aft_entries.specs.declared.entry.Entry.{Entry}
use Rattle.aft_entries.specs.Devices.{CountsAnswer}
use Rattle.fib_worker.specs.Doing.{Does}
use Rattle.fib_worker.specs.Shards.{HoldsShard, JobKeepsShard, TakesKeepShard}
use Rattle.fib_worker.specs.Shards as shards
use Rattle.table_model.specs.declared.command.Command.TheVariants.{Take, Report}
use Rattle.table_model.specs.declared.command.Config.{Config}
use Rattle.table_model.specs.declared.job.Job.{Job}
use Rattle.table_model.specs.declared.job.Verdict.{Verdict}
use Rattle.table_model.specs.declared.job.Verdict.TheVariants.{Programmed, DeviceFault}
use Rattle.table_model.specs.declared.reply.Reply.{Reply}
use Rattle.table_model.specs.declared.reply.Reply.TheVariants as reply
use Rattle.table_model.specs.Event.{Event}
use Rattle.table_model.specs.Jobs.{fib}
use Rattle.table_model.specs.Legal.{IsLawful}
use Rattle.table_model.specs.Reply.{reply_to}
use Rattle.rib_core.specs.Core.{Core}
use Rattle.inline_worker.specs.CoreAt.{CoreAt}
use Rattle.inline_worker.specs.declared.ask.Asked.{Asked}
use Rattle.inline_worker.specs.declared.ask.Asked.TheVariants.{Work, Passed, Nothing}
use Rattle.inline_worker.specs.Turns.{behind, failures, next_event, report_events, turn_events, asks_again, answer_at, reports}
use Rattle.inline_worker.specs.Works.{WorksOn, DeviceTold, asked_of}
use Rattle.inline_worker.proofs.Standing.{lawful_at}

abbrev pub is_work : Asked → Bool
is_work (Work job) = true
is_work Passed = false
is_work Nothing = false

abbrev pub is_again : Asked → Bool
is_again (Work job) = true
is_again Passed = true
is_again Nothing = false

again_of : (r : Reply) → is_again (asked_of r) ≡ asks_again r
again_of (reply.Given job) = refl
again_of (reply.Skipped number) = refl
again_of _ = refl

pub again_is : (a : Asked) (r : Reply) → a ≡ asked_of r → is_again a ≡ asks_again r
again_is a r is = ap is_again is ∙ again_of r

work_of : (r : Reply) (job : Job) → Work job ≡ asked_of r → r ≡ reply.Given job
work_of (reply.Given other) job is = cc
work_of (reply.Skipped number) job is = cc
work_of _ job is = cc

pub given_is : (r : Reply) (job : Job) → Work job ≡ asked_of r → r ≡ reply.Given job
given_is r job is = work_of r job is

no_report : (config : Config) (said : List Verdict) (now : ℤ) (r : Reply) (past : List Event) → is_work (asked_of r) ≡ false → report_events config said now r past ≡ []
no_report config said now (reply.Given job) past none = cc
no_report config said now (reply.Skipped number) past none = refl
no_report config said now _ past none = refl

-- the answer behind those that were said
answer_here : (said : List Verdict) (answer : Verdict) (later : List Verdict) → answer_at ((said ++ answer ∷ []) ++ later) (length said) ≡ answer
answer_here [] answer later = refl
answer_here (x ∷ said) answer later = answer_here said answer later

one_failure : (answer : Verdict) (before after : ℕ) → CountsAnswer before after (answer ≡ DeviceFault) → after < 2 ^ 64 - 1 → failures (answer ∷ []) + before ≤ after
one_failure Programmed before after counts few = let later = counts.later in omega arith
one_failure DeviceFault before after counts few = let rose : min (before + 1) (2 ^ 64 - 1) ≤ after = counts.rose refl in grind (arith, nat_tests)

module _ (config : Config) (one_worker : config.workers ≡ 1) (now : ℤ) (past : List Event) (said : List Verdict) (counted : length said ≡ reports past) (core : Core) where
  abbrev take_event : Reply → Event
  take_event r = record { command = Take 0 now; reply = r }

  -- nothing is reported
  pub quiet : (told : DeviceTold) → CoreAt config core (next_event config past (Take 0 now) ∷ past) → is_work (asked_of (reply_to config past (Take 0 now))) ≡ false
      → told.faults_after ≡ told.faults_before → told.held_after ≡ told.held_before → TakesKeepShard config → WorksOn config (λ heard. turn_events config heard now past) past said core told
  quiet told stood none faults held keeps = record {
    after = next_event config past (Take 0 now) ∷ past;
    stood = stood;
    more = [];
    counted = ap (λ (l : List Verdict). length l) (append-nil said) ∙ counted;
    events_are = λ later. ap (λ (l : List Event). behind past (next_event config past (Take 0 now) ∷ l)) (no_report config ((said ++ []) ++ later) now (reply_to config past (Take 0 now)) (next_event config past (Take 0 now) ∷ past) none);
    later = omega arith;
    failed = λ few. omega arith;
    holds = λ before.
        subst (λ (h : Option (List Entry)). HoldsShard 1 0 h (fib (next_event config past (Take 0 now) ∷ past))) (sym held)
        (subst (λ w. HoldsShard w 0 told.held_before (fib (next_event config past (Take 0 now) ∷ past))) one_worker
        (keeps 0 0 now (reply_to config past (Take 0 now)) told.held_before past (lawful_at config core (next_event config past (Take 0 now) ∷ past) stood) (subst (λ w. HoldsShard w 0 told.held_before (fib past)) (sym one_worker) before)));
  }

  -- the job that was given is reported
  pub worked : (told : DeviceTold) (job : Job) (answer : Verdict)
      → CoreAt config core (next_event config (next_event config past (Take 0 now) ∷ past) (Report job.number answer now) ∷ next_event config past (Take 0 now) ∷ past)
      → reply_to config past (Take 0 now) ≡ reply.Given job
      → Does answer job.work told.held_before told.held_after → CountsAnswer told.faults_before told.faults_after (answer ≡ DeviceFault) → JobKeepsShard config
      → WorksOn config (λ heard. turn_events config heard now past) past said core told
  worked told job answer stood given does counts keeps =
      let e : Event = next_event config past (Take 0 now) in
      let r : Event = next_event config (e ∷ past) (Report job.number answer now) in
      let Keeps : Event → Type 0 = λ given_event.
      (answered : Reply) → IsLawful config (shards.reports job answer now answered ∷ given_event ∷ past) → HoldsShard config.workers 0 told.held_before (fib past)
      → HoldsShard config.workers 0 told.held_after (fib (shards.reports job answer now answered ∷ given_event ∷ past)) in
      record {
        after = r ∷ e ∷ past;
        stood = stood;
        more = answer ∷ [];
        counted = let both = length-append said (answer ∷ []) in let so_far = counted in let k : length (answer ∷ []) ≡ 1 = refl in omega arith;
        events_are = λ later.
            let heard : List Verdict = (said ++ answer ∷ []) ++ later in
            let says : answer_at heard (reports past) ≡ answer = ap (answer_at heard) (sym counted) ∙ answer_here said answer later in
            ap (λ (x : Reply). behind past (e ∷ report_events config heard now x (e ∷ past))) given ∙ ap (λ (v : Verdict). next_event config (e ∷ past) (Report job.number v now) ∷ e ∷ past) says;
        later = counts.later;
        failed = λ few. one_failure answer told.faults_before told.faults_after counts few;
        holds = λ before.
            let e_is : shards.gives 0 job now ≡ e = ap take_event (sym given) in
            subst (λ w. HoldsShard w 0 told.held_after (fib (r ∷ e ∷ past))) one_worker
            (subst Keeps e_is (λ answered lawful holds. (keeps 0 job answer now now answered [] past told.held_before told.held_after lawful tt does holds).1)
            r.reply (lawful_at config core (r ∷ e ∷ past) stood) (subst (λ w. HoldsShard w 0 told.held_before (fib past)) (sym one_worker) before));
      }
