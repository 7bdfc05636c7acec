use Rattle.std.proofs.Common.{◌≡◌, refl, w64, to_z, of_z}
use Rattle.std.proofs.lemmas.Int.{to_z-of_z}
use Rattle.rib_core.proofs.WorkerSteps.{reports}
use Rattle.rib_core.proofs.machine.RibCore.report.Goals as goal

pub returns-clause-stands : goal.returns-clause-stands
returns-clause-stands c recorded stands =
    let back : to_z w64 (of_z w64 c.args.now) ≡ c.args.now = to_z-of_z w64 c.args.now c.ranges.now in
    rw (c.reply_to_report.ensures.reply, c.report.ensures.was_out)
    (reports _ recorded (rw (← c.self.view_is) at stands) c.board_answers_as_history.ensures _
    (record { config = refl; table = c.report.ensures.table; elected = refl; records = refl; count = c.report.ensures.count; halted = refl })
    c.args.job c.args.verdict c.args.now (rw back at c.report.ensures.board))
