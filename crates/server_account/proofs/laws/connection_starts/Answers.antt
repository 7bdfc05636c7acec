use Rattle.server_account.proofs.Starts.{settles, starts}
use Rattle.server_account.proofs.laws.connection_starts.Goals as goal

pub returns : goal.returns
returns c = λ s limits first output calls is text sound none. (starts s limits first output calls is text sound none, settles s limits first output calls is text)
