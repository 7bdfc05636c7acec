use Rattle.h2_frames.proofs.Uniqueness.{read_again}
use Rattle.h2_frames.proofs.laws.written_frames_are_read_again.Goals as goal

pub returns : goal.returns
returns c = read_again
