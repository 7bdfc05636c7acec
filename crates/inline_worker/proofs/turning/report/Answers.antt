use Rattle.std.proofs.Common.{◌≡◌, w64, to_z, of_z}
use Rattle.std.proofs.lemmas.Int.{to_z-of_z}
use Rattle.std.proofs.Common.{refl}
use Rattle.table_model.specs.declared.command.Command.TheVariants.{Report}
use Rattle.inline_worker.proofs.Standing.{acted}
use Rattle.inline_worker.proofs.turning.report.Goals as goal

pub returns-clause-stood : goal.returns-clause-stood
returns-clause-stood c = λ config past stood.
    let back : to_z w64 (of_z w64 c.args.now) ≡ c.args.now = to_z-of_z w64 c.args.now c.ranges.now in
    (acted config c.args.core.now c.act.new.self past (Report c.args.number c.args.verdict c.args.now) c.act.result stood c.act.ensures.config c.act.ensures.alone refl (rw back at c.act.ensures.stands)).0
