use Rattle.grpc_framing.proofs.Fronts.{front_at-more, front_at-compressed, front_at-too_long}
use Rattle.grpc_framing.proofs.laws.front_stays.Goals as goal

pub returns-clause-message : goal.returns-clause-message
returns-clause-message c = λ limit n held more e. front_at-more limit held more n e

pub returns-clause-compressed : goal.returns-clause-compressed
returns-clause-compressed c = front_at-compressed

pub returns-clause-too_long : goal.returns-clause-too_long
returns-clause-too_long c = front_at-too_long
