use Rattle.std.proofs.Common.{length}
use Rattle.reference_model.proofs.shapes.+has_high_label.Given as goal

abbrev pub decreases-has_high_label : goal.decreases-has_high_label
decreases-has_high_label l = length l.labels.now
