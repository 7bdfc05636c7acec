use Rattle.compliance_client.proofs.Suited.{all_asked}
use Rattle.compliance_client.proofs.laws.all_lines_are_asked.Goals as goal

pub returns : goal.returns
returns c = all_asked c.all_is_asked.ensures
