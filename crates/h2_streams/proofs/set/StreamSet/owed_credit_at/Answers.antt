use Rattle.std.proofs.Common.{◌∙◌}
use Rattle.h2_streams.proofs.Seen.{owed_told}
use Rattle.h2_streams.proofs.set.StreamSet.owed_credit_at.Goals as goal

pub returns-clause-stands : goal.returns-clause-stands
returns-clause-stands c = λ x h. c.owed_at.ensures ∙ owed_told c.args.self.now x h c.args.place
