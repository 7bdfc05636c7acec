use Rattle.h2_streams.proofs.Standing.{live_says}
use Rattle.h2_streams.proofs.set.StreamSet.is_live.Goals as goal

pub returns-clause-stands : goal.returns-clause-stands
returns-clause-stands c = λ x h. live_says c.args.self.now x c.args.stream c.has.result c.has.ensures h
