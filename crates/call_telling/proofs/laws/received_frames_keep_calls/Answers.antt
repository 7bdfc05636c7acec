use Rattle.call_telling.proofs.Receives.{receives_hold}
use Rattle.call_telling.proofs.laws.received_frames_keep_calls.Goals as goal

pub returns : goal.returns
returns c = receives_hold
