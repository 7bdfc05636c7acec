use Rattle.std.proofs.Common.{refl, sym, ap, subst, arith, ◌∙◌}
use Rattle.table_model.specs.declared.command.Command.{Command}
use Rattle.table_model.specs.declared.command.Config.{Config}
use Rattle.table_model.specs.declared.reply.Reply.{Reply}
use Rattle.table_lock.specs.Passes.{PassView, IsPassOf}
use Rattle.table_workers.specs.declared.step.Stepped.TheVariants.{Idle}
use Rattle.table_workers.proofs.Runs.{goes_on, runs_none, runs_more, runs_halted, runs_spent}
use Rattle.table_workers.proofs.run.run_worker.Goals as goal

pub loop-init : goal.loop-init
loop-init g c = (
  tt,
  tt,
  subst (λ (k : PassView Command Reply Config). IsPassOf c.args.lock.now k) (sym c.settle.ensures.same) c.requires.pass,
  ap (λ (k : PassView Command Reply Config). k.number) c.settle.ensures.same,
  c.settle.ensures.sound,
  runs_none c.args.lock.now.setup c.args.worker c.args.pass.now c.settle.new.pass (g.D.Device.contents c.args.device.now) (g.D.Device.faults c.args.device.now) c.settle.ensures.same c.settle.ensures.sound,
  (λ h. h),
  omega arith,
  omega arith,
)

pub returns-in-Halted-clause-works : goal.returns-in-Halted-clause-works
returns-in-Halted-clause-works g c =
    runs_halted c.args.lock.now.setup c.args.worker c.args.pass.now c.loop.pass c.settled_step.new.pass
    (g.D.Device.contents c.args.device.now) (g.D.Device.contents c.loop.device) (g.D.Device.contents c.settled_step.new.device)
    (g.D.Device.faults c.args.device.now) (g.D.Device.faults c.loop.device) (g.D.Device.faults c.settled_step.new.device)
    c.loop.invariant.5 c.in-Halted.ensures.works c.in-Halted.ensures.faults

pub returns-in-Spent-clause-works : goal.returns-in-Spent-clause-works
returns-in-Spent-clause-works g c =
    runs_spent c.args.lock.now.setup c.args.worker c.args.pass.now c.loop.pass c.settled_step.new.pass
    (g.D.Device.contents c.args.device.now) (g.D.Device.contents c.loop.device) (g.D.Device.contents c.settled_step.new.device)
    (g.D.Device.faults c.args.device.now) (g.D.Device.faults c.loop.device) (g.D.Device.faults c.settled_step.new.device)
    c.loop.invariant.5 c.in-Spent.ensures.works c.in-Spent.ensures.faults

pub loop-preserved-in-Idle : goal.loop-preserved-in-Idle
loop-preserved-in-Idle g c = let inv = c.loop.invariant in let done = c.in-Idle.ensures in (
  tt,
  tt,
  done.pass.0,
  done.pass.1 ∙ inv.3,
  done.sound,
  runs_more c.args.lock.now.setup c.args.worker c.args.pass.now c.loop.pass c.settled_step.new.pass
      (g.D.Device.contents c.args.device.now) (g.D.Device.contents c.loop.device) (g.D.Device.contents c.settled_step.new.device)
      (g.D.Device.faults c.args.device.now) (g.D.Device.faults c.loop.device) (g.D.Device.faults c.settled_step.new.device)
      inv.5 Idle refl (λ is. cc) done.works done.faults,
  (λ h. done.once (inv.6 h)),
  omega (arith, inv.7, done.faults.later),
  omega (arith, inv.8, done.dones.later),
)

pub loop-preserved : goal.loop-preserved
loop-preserved g c = let inv = c.loop.invariant in let done = c.settled_step.ensures in (
  tt,
  tt,
  done.pass.0,
  done.pass.1 ∙ inv.3,
  done.sound,
  runs_more c.args.lock.now.setup c.args.worker c.args.pass.now c.loop.pass c.settled_step.new.pass
      (g.D.Device.contents c.args.device.now) (g.D.Device.contents c.loop.device) (g.D.Device.contents c.settled_step.new.device)
      (g.D.Device.faults c.args.device.now) (g.D.Device.faults c.loop.device) (g.D.Device.faults c.settled_step.new.device)
      inv.5 c.settled_step.result (goes_on c.settled_step.result c.in_default.not-Spent) c.in_default.not-Halted done.works done.faults,
  (λ h. done.once (inv.6 h)),
  omega (arith, inv.7, done.faults.later),
  omega (arith, inv.8, done.dones.later),
)
