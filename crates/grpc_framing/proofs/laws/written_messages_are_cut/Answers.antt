use Rattle.grpc_framing.proofs.Whole.{messages_of-items}
use Rattle.grpc_framing.proofs.laws.written_messages_are_cut.Goals as goal

pub returns : goal.returns
returns c = messages_of-items
