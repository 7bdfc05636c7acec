use Rattle.call_requests.proofs.Cutting.{all_short}
use Rattle.call_requests.proofs.laws.responses_are_short.Goals as goal

pub returns : goal.returns
returns c = all_short
