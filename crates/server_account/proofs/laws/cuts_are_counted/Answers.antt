use Rattle.server_account.proofs.Cuts.{cuts_are_counted}
use Rattle.server_account.proofs.laws.cuts_are_counted.Goals as goal

pub returns : goal.returns
returns c = cuts_are_counted
