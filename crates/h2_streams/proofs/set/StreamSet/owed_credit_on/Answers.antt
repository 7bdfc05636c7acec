use Rattle.std.proofs.Common.{ap, ◌∙◌}
use Rattle.h2_streams.specs.Set.{owed_in}
use Rattle.h2_streams.proofs.Seen.{live_found}
use Rattle.h2_streams.proofs.set.StreamSet.owed_credit_on.Goals as goal

pub returns-clause-stands : goal.returns-clause-stands
returns-clause-stands c = λ x h is_live. c.owed_on.ensures ∙ ap (owed_in c.args.self.now.limits) (live_found c.args.self.now x c.args.stream h is_live)
