use Rattle.h2_streams.proofs.SentBlocks.{header_frames_change_nothing}
use Rattle.h2_streams.proofs.laws.header_frames_change_nothing.Goals as goal

pub returns : goal.returns
returns c = header_frames_change_nothing
