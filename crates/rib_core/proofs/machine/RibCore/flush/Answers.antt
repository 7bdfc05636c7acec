use Rattle.std.proofs.Common.{sym, ap, ◌∙◌, refl}
use Rattle.rib_core.proofs.Steps.{counts}
use Rattle.rib_core.proofs.PurgeSteps.{flushes, flush_refused}
use Rattle.rib_core.proofs.machine.RibCore.flush.Goals as goal

pub returns-then-not-may_flush-clause-stands : goal.returns-then-not-may_flush-clause-stands
returns-then-not-may_flush-clause-stands c recorded stands =
    rw c.highest.ensures.kept
    (flush_refused _ recorded (rw (← c.self.view_is) at stands) _ refl refl (rw (← c.self.view_is) at c.requires.running) c.args.by c.args.which c.args.now refl refl
    (record { counted = counts _ _ refl c.advance.ensures.table c.advance.ensures.board c.advance.ensures.count; elected = refl; records = refl; halted = refl })
    (rw (← c.self.view_is) at (sym c.may_flush.ensures ∙ c.if-not-may_flush.true)))

pub returns-clause-stands : goal.returns-clause-stands
returns-clause-stands c recorded stands =
    rw c.flush.ensures.remain
    (flushes _ recorded (rw (← c.self.view_is) at stands) _ refl refl (rw (← c.self.view_is) at c.requires.running) c.args.by c.args.which c.args.now refl refl
    (rw (← c.self.view_is) at (sym c.may_flush.ensures ∙ c.if-not-may_flush.false)) c.flush.ensures.flushed)
