use Rattle.call_hearing.proofs.Places.{servers_hear}
use Rattle.call_hearing.proofs.laws.servers_hear.Goals as goal

pub returns : goal.returns
returns c = servers_hear
