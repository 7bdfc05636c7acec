use Rattle.grpc_framing.proofs.Whole.{messages_of-only}
use Rattle.grpc_framing.proofs.laws.cut_is_the_only_one.Goals as goal

pub returns : goal.returns
returns c = messages_of-only
