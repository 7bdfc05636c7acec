use Rattle.call_standing.proofs.Trailing.{head_says, trailers_plain, trailers_say}
use Rattle.call_standing.proofs.laws.trailers_say.Goals as goal

pub returns : goal.returns
returns c = record { plain = trailers_plain; say = trailers_say; alone = head_says }
