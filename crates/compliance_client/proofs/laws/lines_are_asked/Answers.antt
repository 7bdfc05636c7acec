use Rattle.compliance_client.proofs.Suited.{lines_asked}
use Rattle.compliance_client.proofs.laws.lines_are_asked.Goals as goal

pub returns : goal.returns
returns c = lines_asked c.clients_ask.ensures
