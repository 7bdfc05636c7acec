use Rattle.h2_frames.proofs.Uniqueness.{unique}
use Rattle.h2_frames.proofs.laws.bytes_have_one_reading.Goals as goal

pub returns : goal.returns
returns c = unique
