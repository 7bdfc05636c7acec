use Rattle.grpc_stream.proofs.Answered.{answers_begin_messages}
use Rattle.grpc_stream.proofs.laws.answers_begin_messages.Goals as goal

pub returns : goal.returns
returns c = answers_begin_messages
