use Rattle.h2_exchange.proofs.Computed.{sent_frames}
use Rattle.h2_exchange.proofs.examples.frames_that_are_sent.Goals as goal

pub returns : goal.returns
returns c = sent_frames
