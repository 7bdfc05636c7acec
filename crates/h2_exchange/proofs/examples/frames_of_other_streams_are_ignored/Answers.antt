use Rattle.h2_exchange.proofs.Computed.{quiet_frames}
use Rattle.h2_exchange.proofs.examples.frames_of_other_streams_are_ignored.Goals as goal

pub returns : goal.returns
returns c = quiet_frames
