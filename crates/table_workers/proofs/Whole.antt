-- A whole step, by what it came to.
use Rattle.std.proofs.Common.{◌≡◌, ℕ, ℤ, false, [], ◌∷◌, Some, None, refl, sym, ap, inl, inr, subst}
use Rattle.std.specs.Prelude.{◌^◌, ◌≤◌}
use Rattle.table_model.specs.declared.command.Command.{Command}
use Rattle.table_model.specs.declared.command.Command.TheVariants.{Take, Report}
use Rattle.table_model.specs.declared.command.Config.{Config}
use Rattle.table_model.specs.declared.job.Job.{Job}
use Rattle.table_model.specs.declared.job.JobNumber.{JobNumber}
use Rattle.table_model.specs.declared.job.Verdict.{Verdict}
use Rattle.table_model.specs.declared.job.Verdict.TheVariants as verdict
use Rattle.table_model.specs.declared.reply.Reply.{Reply}
use Rattle.table_model.specs.declared.reply.Reply.TheVariants as reply
use Rattle.fib_worker.specs.Doing.{Does}
use Rattle.fib_worker.specs.Shards.{OthersKeepShard, TakesKeepShard, JobKeepsShard}
use Rattle.table_lock.specs.Lock.{calls_of, entry}
use Rattle.table_lock.specs.Passes.{PassView, IsSound, IsCalled}
use Rattle.table_lock.proofs.Extends.{extended_none, extended_more, extended_call}
use Rattle.rib_core.specs.Recorded.{IsLawful}
use Rattle.table_workers.specs.declared.step.Stepped.{Stepped}
use Rattle.table_workers.specs.declared.step.Stepped.TheVariants.{Programmed, DeviceFailed, Skipped, Idle, Halted, Spent}
use Rattle.table_workers.specs.Working.{Calls, Contents, KeepsShard, Works, TookAndReported, StepCalls, Reports, ReportedAs, given_job, is_spent}
use Rattle.table_workers.proofs.Own.{number_is}
use Rattle.table_workers.proofs.Steps.{take_keeps, job_keeps_all}

pub keeps_none : (config : Config) (worker me : ℕ) (seen : Calls) (held : Contents) → KeepsShard config worker me seen seen held held
keeps_none config worker me seen held holds others = holds

pub sound_then : (config : Config) (p q : PassView Command Reply Config) (c : Command) (r : Reply) → IsCalled IsLawful config p q c r → IsSound IsLawful config q
sound_then config p q c r one = record { legal = one.legal; own = subst (λ (n : ℕ). calls_of n q.seen ≡ q.mine) (sym (number_is config p q c r one)) one.own }

-- a pass but for its ticket
pub sound_spent : (config : Config) (p q : PassView Command Reply Config) → q ≡ record p { ticket = q.ticket } → IsSound IsLawful config p → IsSound IsLawful config q
sound_spent config p q e sound = subst (λ (k : PassView Command Reply Config). IsSound IsLawful config k) (sym e) (record { legal = sound.legal; own = sound.own })

seen_spent : (p q : PassView Command Reply Config) → q ≡ record p { ticket = q.ticket } → q.seen ≡ p.seen
seen_spent p q e = ap (λ (k : PassView Command Reply Config). k.seen) e

abbrev pub Stepping : Config → ℕ → Stepped → PassView Command Reply Config → PassView Command Reply Config → Contents → Contents → Type 0
Stepping config worker s p q before after = (calls : Calls) × Works config worker (is_spent s) p q before after calls × StepCalls s worker p.number before after calls

pub stepping_from : (config : Config) (worker : ℕ) (s : Stepped) (first p q : PassView Command Reply Config) (before after : Contents) → p ≡ first → Stepping config worker s p q before after
    → Stepping config worker s first q before after
stepping_from config worker s first p q before after same step = subst (λ (k : PassView Command Reply Config). Stepping config worker s k q before after) same step

module _ (config : Config) (worker : ℕ) where
  -- the Take was Spent
  pub step_spent : (p q : PassView Command Reply Config) (held : Contents) → IsSound IsLawful config p → q ≡ record p { ticket = q.ticket } → 2 ^ 62 ≤ q.ticket → Stepping config worker Spent p q held held
  step_spent p q held sound e past = (
    [],
    record {
      made = (p, extended_none IsLawful config p sound, e, past);
      left = None;
      theirs = refl;
      none_left = λ never. refl;
      reported = held;
      keeps = subst (λ (l : Calls). KeepsShard config worker p.number p.seen l held held) (sym (seen_spent p q e)) (keeps_none config worker p.number p.seen held);
      ahead = refl;
    },
    inl refl,
  )

module _ (config : Config) (worker : ℕ) (others_keep : OthersKeepShard config) (takes_keep : TakesKeepShard config) (job_keeps : JobKeepsShard config) where
  -- a Take that gave no job
  take_works : (p q : PassView Command Reply Config) (at : ℤ) (r : Reply) (held : Contents) → IsSound IsLawful config p → IsCalled IsLawful config p q (Take worker at) r → given_job r ≡ None
      → Works config worker false p q held held (entry p.number (Take worker at) r ∷ [])
  take_works p q at r held sound one none = record {
    made = extended_call IsLawful config p q (Take worker at) r one;
    left = None;
    theirs = (at, refl, sym none);
    none_left = λ e. refl;
    reported = held;
    keeps = take_keeps config worker others_keep takes_keep job_keeps p q at r held sound one;
    ahead = refl;
  }

  pub step_skipped : (p q : PassView Command Reply Config) (at : ℤ) (r : Reply) (held : Contents) → IsSound IsLawful config p → IsCalled IsLawful config p q (Take worker at) r
      → (n : JobNumber) × (r ≡ reply.Skipped n) → Stepping config worker Skipped p q held held
  step_skipped p q at r held sound one is = (
    entry p.number (Take worker at) r ∷ [],
    take_works p q at r held sound one (ap given_job is.1),
    (is.0, record { at = at; calls_are = ap (λ (x : Reply). entry p.number (Take worker at) x ∷ []) is.1 }),
  )

  pub step_halted : (p q : PassView Command Reply Config) (at : ℤ) (r : Reply) (held : Contents) → IsSound IsLawful config p → IsCalled IsLawful config p q (Take worker at) r
      → r ≡ reply.HaltSeen → Stepping config worker Halted p q held held
  step_halted p q at r held sound one is = (
    entry p.number (Take worker at) r ∷ [],
    take_works p q at r held sound one (ap given_job is),
    record { at = at; calls_are = ap (λ (x : Reply). entry p.number (Take worker at) x ∷ []) is },
  )

  pub step_idle : (p q : PassView Command Reply Config) (at : ℤ) (r : Reply) (held : Contents) → IsSound IsLawful config p → IsCalled IsLawful config p q (Take worker at) r
      → r ≡ reply.Idle → Stepping config worker Idle p q held held
  step_idle p q at r held sound one is = (
    entry p.number (Take worker at) r ∷ [],
    take_works p q at r held sound one (ap given_job is),
    record { at = at; calls_are = ap (λ (x : Reply). entry p.number (Take worker at) x ∷ []) is },
  )

  module _ (p q v : PassView Command Reply Config) (at : ℤ) (job : Job) (before after : Contents) (sound : IsSound IsLawful config p) (one : IsCalled IsLawful config p q (Take worker at) (reply.Given job)) where
    taken : Calls
    taken = entry p.number (Take worker at) (reply.Given job) ∷ []

    -- the job was reported
    reported : (said : Verdict) → ReportedAs config said job q v before after
        → (calls : Calls) × Works config worker false p v before after calls × TookAndReported worker p.number said before after calls
    reported said rep = (
      entry p.number (Take worker at) (reply.Given job) ∷ entry q.number (Report job.number said rep.at) rep.answered ∷ [],
      record {
        made = extended_more IsLawful config p q v (entry p.number (Take worker at) (reply.Given job) ∷ []) (entry q.number (Report job.number said rep.at) rep.answered ∷ [])
            (extended_call IsLawful config p q (Take worker at) (reply.Given job) one) (extended_call IsLawful config q v (Report job.number said rep.at) rep.answered rep.called);
        left = None;
        theirs = (at, refl, (said, rep.at, refl, refl));
        none_left = λ e. refl;
        reported = after;
        keeps = job_keeps_all config worker others_keep takes_keep job_keeps p q v at rep.at job said rep.answered before after sound one rep.called rep.does;
        ahead = refl;
      },
      record {
        job = job;
        taken_at = at;
        reported_at = rep.at;
        answered = rep.answered;
        calls_are = ap (λ (n : ℕ). entry p.number (Take worker at) (reply.Given job) ∷ entry n (Report job.number said rep.at) rep.answered ∷ []) (number_is config p q (Take worker at) (reply.Given job) one);
        does = rep.does;
      },
    )

    -- the job was done, and the lock was spent
    unreported : (said : Verdict) → Does said job.work before after → v ≡ record q { ticket = v.ticket } → 2 ^ 62 ≤ v.ticket → Stepping config worker Spent p v before after
    unreported said does e past = (
      entry p.number (Take worker at) (reply.Given job) ∷ [],
      record {
        made = (q, extended_call IsLawful config p q (Take worker at) (reply.Given job) one, e, past);
        left = Some job;
        theirs = (at, refl, refl);
        none_left = λ never. cc;
        reported = before;
        keeps = subst (λ (l : Calls). KeepsShard config worker p.number p.seen l before before) (sym (seen_spent q v e))
            (take_keeps config worker others_keep takes_keep job_keeps p q at (reply.Given job) before sound one);
        ahead = (said, does);
      },
      inr (job, record { at = at; calls_are = refl }),
    )

    by_end : (s : Stepped) → Reports config s job q v before after → Stepping config worker s p v before after
    by_end Programmed rep = reported verdict.Programmed rep
    by_end DeviceFailed rep = reported verdict.DeviceFault rep
    by_end Spent rep = unreported rep.0 rep.1 rep.2 rep.3
    by_end Skipped rep = absurd rep
    by_end Idle rep = absurd rep
    by_end Halted rep = absurd rep

  -- a job was given
  pub step_worked : (s : Stepped) (p q v : PassView Command Reply Config) (at : ℤ) (job : Job) (r : Reply) (before after : Contents) → IsSound IsLawful config p → IsCalled IsLawful config p q (Take worker at) r
      → r ≡ reply.Given job → Reports config s job q v before after → Stepping config worker s p v before after
  step_worked s p q v at job r before after sound one is rep =
      by_end p q v at job before after sound (subst (λ (x : Reply). IsCalled IsLawful config p q (Take worker at) x) is one) s rep

  -- the pass is sound then
  pub sound_worked : (s : Stepped) (p q v : PassView Command Reply Config) (at : ℤ) (job : Job) (r : Reply) (before after : Contents) → IsCalled IsLawful config p q (Take worker at) r
      → Reports config s job q v before after → IsSound IsLawful config v
  sound_worked Programmed p q v at job r before after one rep = sound_then config q v (Report job.number verdict.Programmed rep.at) rep.answered rep.called
  sound_worked DeviceFailed p q v at job r before after one rep = sound_then config q v (Report job.number verdict.DeviceFault rep.at) rep.answered rep.called
  sound_worked Spent p q v at job r before after one rep = sound_spent config q v rep.2 (sound_then config p q (Take worker at) r one)
  sound_worked Skipped p q v at job r before after one rep = absurd rep
  sound_worked Idle p q v at job r before after one rep = absurd rep
  sound_worked Halted p q v at job r before after one rep = absurd rep
