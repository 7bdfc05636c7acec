use Rattle.grpc_framing.proofs.Streams.{messages_of-message, messages_of-compressed, messages_of-too_long, messages_of-need_more}
use Rattle.grpc_framing.proofs.laws.cut_goes_on.Goals as goal

pub returns-clause-message : goal.returns-clause-message
returns-clause-message c = messages_of-message

pub returns-clause-compressed : goal.returns-clause-compressed
returns-clause-compressed c = messages_of-compressed

pub returns-clause-too_long : goal.returns-clause-too_long
returns-clause-too_long c = messages_of-too_long

pub returns-clause-need_more : goal.returns-clause-need_more
returns-clause-need_more c = messages_of-need_more
