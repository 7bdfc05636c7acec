use Rattle.std.proofs.Common.{subst, []}
use Rattle.h2_streams.specs.Set.{Set}
use Rattle.h2_streams.specs.Stands.{StandsFor}
use Rattle.h2_conn.proofs.conn.begins.first_set.Goals as goal

pub returns-clause-stands : goal.returns-clause-stands
returns-clause-stands c = subst (λ (s : Set). StandsFor s []) c.in_ok-set.ensures.exact c.in_ok-set.ensures.stands
