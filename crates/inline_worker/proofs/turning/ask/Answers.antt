use Rattle.std.proofs.Common.{◌≡◌, w64, to_z, of_z}
use Rattle.std.proofs.lemmas.Int.{to_z-of_z}
use Rattle.std.proofs.Common.{refl, ap, ◌∙◌}
use Rattle.table_model.specs.declared.command.Command.TheVariants.{Take}
use Rattle.inline_worker.specs.Works.{asked_of}
use Rattle.inline_worker.proofs.Standing.{acted}
use Rattle.inline_worker.proofs.turning.ask.Goals as goal

pub returns-clause-asks : goal.returns-clause-asks
returns-clause-asks c = λ config past stood.
    let back : to_z w64 (of_z w64 c.args.now) ≡ c.args.now = to_z-of_z w64 c.args.now c.ranges.now in
    let done = acted config c.args.core.now c.act.new.self past (Take 0 c.args.now) c.act.result stood c.act.ensures.config c.act.ensures.alone refl (rw back at c.act.ensures.stands) in
    record { stood = done.0; answer_is = c.asked.ensures ∙ ap asked_of done.1 }
