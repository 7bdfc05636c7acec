use Rattle.std.proofs.Common.{◌∙◌}
use Rattle.h2_streams.proofs.Seen.{id_told}
use Rattle.h2_streams.proofs.set.StreamSet.id_at.Goals as goal

pub returns-clause-stands : goal.returns-clause-stands
returns-clause-stands c = λ x h. c.live_id.ensures ∙ id_told c.args.self.now x h c.args.place
