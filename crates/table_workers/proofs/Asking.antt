-- What a Take may be answered.
use Rattle.std.proofs.Common.{◌≡◌, ℕ, ℤ, Bool, true, false, List, [], ◌∷◌, ◌++◌, Some, None, Option, refl, sym, ap, ◌∙◌, inl, inr, subst}
use Rattle.std.specs.Prelude.{cond, ◌&&◌}
use Rattle.table_model.specs.declared.command.Command.{Command}
use Rattle.table_model.specs.declared.command.Command.TheVariants.{Take}
use Rattle.table_model.specs.declared.command.Config.{Config}
use Rattle.table_model.specs.declared.job.Job.{Job}
use Rattle.table_model.specs.declared.job.JobNumber.{JobNumber}
use Rattle.table_model.specs.declared.reply.Reply.{Reply}
use Rattle.table_model.specs.declared.reply.Reply.TheVariants as reply
use Rattle.table_model.specs.Event.{Event, events}
use Rattle.table_model.specs.Jobs.{TrackedTask, tracked_tasks, next_task, is_clear, is_skipped, fib}
use Rattle.table_model.specs.Laws.{event}
use Rattle.table_model.specs.Legal.{Legal, IsAnswer}
use Rattle.table_model.specs.Reply.{reply_to, reply_take, take_reply, is_halted}
use Rattle.table_lock.specs.Lock.{entry}
use Rattle.table_lock.specs.Passes.{PassView, IsCalled}
use Rattle.rib_core.specs.Recorded.{IsLawful, recorded}
use Rattle.table_workers.specs.Working.{Calls, asked_of}
use Rattle.table_workers.specs.declared.step.Asked.TheVariants as asked
use Rattle.table_workers.proofs.Chains.{recorded_append}

module _ (config : Config) (past : List Event) (worker : ℕ) where
  idle_of : (o : Option TrackedTask) → asked_of (take_reply config past worker o) ≡ asked.Idle → take_reply config past worker o ≡ reply.Idle
  idle_of None is = by_halt (is_halted past && is_clear config.workers (tracked_tasks past) worker) is
    where
      by_halt : (b : Bool) → asked_of (cond b reply.HaltSeen reply.Idle) ≡ asked.Idle → cond b reply.HaltSeen reply.Idle ≡ reply.Idle
      by_halt true h = cc
      by_halt false h = refl
  idle_of (Some tracked) is = by_skip (is_skipped (fib past) tracked.task.job.work) is
    where
      by_skip : (b : Bool) → asked_of (cond b (reply.Skipped tracked.task.job.number) (reply.Given tracked.task.job)) ≡ asked.Idle → cond b (reply.Skipped tracked.task.job.number) (reply.Given tracked.task.job) ≡ reply.Idle
      by_skip true h = cc
      by_skip false h = cc

  idle_is : (at : ℤ) (r : Reply) → IsAnswer config past (event (Take worker at) r) → asked.Idle ≡ asked_of r → r ≡ reply.Idle
  unfolding reply_to reply_take
  idle_is at r (inl is) idle = is ∙ idle_of (next_task config.workers (tracked_tasks past) worker) (ap asked_of (sym is) ∙ sym idle)
  idle_is at r (inr lacks) idle = cc (lacks.1)

-- the reply of a Take that was read as Idle
pub idle_reply : (config : Config) (worker : ℕ) (p q : PassView Command Reply Config) (at : ℤ) (r : Reply) → IsCalled IsLawful config p q (Take worker at) r → asked.Idle ≡ asked_of r → r ≡ reply.Idle
idle_reply config worker p q at r one idle =
    let calls = p.seen ++ one.between in
    let is : recorded q.seen ≡ event (Take worker at) r ∷ recorded calls = ap (λ (l : Calls). recorded l) one.history ∙ recorded_append calls (entry p.number (Take worker at) r ∷ []) in
    idle_is config (events (recorded calls)) worker at r (subst (λ (l : List Event). Legal config l) is one.legal).0 idle

-- what was asked tells the reply
pub work_is : (r : Reply) (job : Job) → asked.Work job ≡ asked_of r → r ≡ reply.Given job
work_is (reply.Given x) job is = let one : job ≡ x = cc in ap reply.Given (sym one)
work_is (reply.Skipped n) job is = cc
work_is reply.HaltSeen job is = cc
work_is _ job is = cc

pub skipped_is : (r : Reply) → asked.Skipped ≡ asked_of r → (n : JobNumber) × (r ≡ reply.Skipped n)
skipped_is (reply.Skipped n) is = (n, refl)
skipped_is (reply.Given x) is = cc
skipped_is reply.HaltSeen is = cc
skipped_is _ is = cc

pub halted_is : (r : Reply) → asked.Halted ≡ asked_of r → r ≡ reply.HaltSeen
halted_is reply.HaltSeen is = refl
halted_is (reply.Skipped n) is = cc
halted_is (reply.Given x) is = cc
halted_is _ is = cc
