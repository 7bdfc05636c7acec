use Rattle.std.proofs.Common.{set, sym, ap, ◌∙◌}
use Rattle.std.proofs.lemmas.List.Edits.{map_over_more}
use Rattle.fib_board.specs.Steps.{unwanted}
use Rattle.fib_board.proofs.jobs.drop_owner_each.Goals as goal

pub loop-pending_job-preserved : goal.loop-pending_job-preserved
loop-pending_job-preserved c = rw c.drop_owner.ensures (
    ap (λ tracked. set c.loop-pending_job.jobs c.loop-pending_job.pending_job-index (unwanted c.args.session tracked)) (sym c.pending_job-item.is)
    ∙ map_over_more (unwanted c.args.session) c.args.jobs.now c.loop-pending_job.jobs c.loop-pending_job.pending_job-index c.pending_job-item.result c.loop-pending_job-test.true c.loop-pending_job.invariant c.pending_job-item.is)
