use Rattle.h2_exchange.proofs.Computed.{first_frames}
use Rattle.h2_exchange.proofs.examples.first_frames_announce_limits.Goals as goal

pub returns : goal.returns
returns c = first_frames
