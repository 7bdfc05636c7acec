use Rattle.std.proofs.Common.{arith}
use Rattle.h2_streams.proofs.set.StreamSet.owed_credit.Goals as goal

pub returns-clause-stands : goal.returns-clause-stands
returns-clause-stands c = λ x h. omega (arith, c.owed.ensures, h.receive_is)
