use Rattle.h2_streams.proofs.Standing.{open_says}
use Rattle.h2_streams.proofs.set.StreamSet.is_open.Goals as goal

pub returns-clause-stands : goal.returns-clause-stands
returns-clause-stands c = λ x h. open_says c.args.self.now x c.args.stream c.has_open.result c.has_open.ensures h
