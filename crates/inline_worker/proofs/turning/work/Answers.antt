use Rattle.std.proofs.Common.{◌≡◌, w64, to_z, of_z}
use Rattle.std.proofs.lemmas.Int.{to_z-of_z}
use Rattle.inline_worker.specs.Works.{device_told}
use Rattle.table_model.specs.declared.command.Command.TheVariants.{Take}
use Rattle.std.proofs.Common.{◌∷◌}
use Rattle.inline_worker.specs.Turns.{next_event}
use Rattle.inline_worker.proofs.OneTurn.{worked}
use Rattle.inline_worker.proofs.turning.work.Goals as goal

pub returns-clause-works : goal.returns-clause-works
returns-clause-works g c = λ config past said one stood given counted.
    let back : to_z w64 (of_z w64 c.args.now) ≡ c.args.now = to_z-of_z w64 c.args.now c.ranges.now in
    worked config one c.args.now past said counted c.report.new.core (device_told g.D.Device.faults g.D.Device.contents c.args.device.now c.do_job-verdict.new.device) c.args.job c.do_job-verdict.result
    (rw back at c.report.ensures.stood config (next_event config past (Take 0 c.args.now) ∷ past) stood) given c.do_job-verdict.ensures.contents c.do_job-verdict.ensures.faults (c.job_keeps_shard.ensures config)
