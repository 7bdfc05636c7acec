use Rattle.std.proofs.Common.{◌∙◌}
use Rattle.h2_streams.proofs.set.StreamSet.highest.Goals as goal

pub returns-clause-stands : goal.returns-clause-stands
returns-clause-stands c = λ x h. c.highest_id.ensures ∙ h.highest_is
