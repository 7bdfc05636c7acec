use Rattle.std.proofs.Common.{◌≡◌, sym, ◌∙◌, w64, to_z, of_z}
use Rattle.std.proofs.lemmas.Int.{to_z-of_z}
use Rattle.reference_model.specs.JobOutcomes.{outcome_value}
use Rattle.reference_model.proofs.Steps.{result_at}
use Rattle.reference_model.proofs.results.result_at.Goals as goal

pub returns-in-Some : goal.returns-in-Some
returns-in-Some c =
    let back : to_z w64 (of_z w64 c.args.now) ≡ c.args.now = to_z-of_z w64 c.args.now c.ranges.now in
    (rw back at c.result_of.ensures)
    ∙ sym (result_at c.args.session c.args.made.now (record { number = c.args.number; outcome = outcome_value c.args.outcome; now = c.args.now }) c.in-Some.task.now (sym c.is_undone.ensures ∙ c.if-is_undone.false) (sym c.in-Some.ensures))
