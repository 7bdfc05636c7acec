use Rattle.grpc_framing.proofs.Leading.{leads}
use Rattle.grpc_framing.proofs.cutter.MessageCutter.next.Goals as goal

pub returns-clause-leads : goal.returns-clause-leads
returns-clause-leads c = leads _ _ _ c.cut_front.ensures
