use Rattle.h2_streams.proofs.Begins.{stands_says, spent_says}
use Rattle.h2_streams.proofs.set.StreamSet.begin.Goals as goal

pub returns-clause-stands : goal.returns-clause-stands
returns-clause-stands c = stands_says c.args.self.now c.begin_next.new.self c.begin_next.result c.begin_next.ensures.ok c.requires

pub returns-clause-spent : goal.returns-clause-spent
returns-clause-spent c = spent_says c.args.self.now c.begin_next.result c.begin_next.ensures.spent c.requires
