use Rattle.server_account.proofs.Serves.{agreement_serves}
use Rattle.server_account.proofs.laws.agreement_serves.Goals as goal

pub returns : goal.returns
returns c = λ s t output rest calls past actions h settled ended. agreement_serves s t output rest calls past actions h.server h.told h.handled settled ended
