use Rattle.gribi_messages.proofs.Flushed.{flush_again}
use Rattle.gribi_messages.proofs.laws.flush_request_is_read_again.Goals as goal

pub returns : goal.returns
returns c = flush_again
