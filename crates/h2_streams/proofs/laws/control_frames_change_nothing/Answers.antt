use Rattle.h2_streams.proofs.Quiet.{control_frames_change_nothing}
use Rattle.h2_streams.proofs.laws.control_frames_change_nothing.Goals as goal

pub returns : goal.returns
returns c = control_frames_change_nothing
