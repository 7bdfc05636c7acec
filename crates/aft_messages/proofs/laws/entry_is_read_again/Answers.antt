use Rattle.aft_messages.proofs.Again.{again}
use Rattle.aft_messages.proofs.laws.entry_is_read_again.Goals as goal

pub returns : goal.returns
returns c = again
