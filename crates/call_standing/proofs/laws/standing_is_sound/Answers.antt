use Rattle.call_standing.proofs.Rest.{rest_of}
use Rattle.call_standing.proofs.laws.standing_is_sound.Goals as goal

pub returns : goal.returns
returns c = rest_of
