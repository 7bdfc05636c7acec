use Rattle.h2_frames.proofs.Streams.{carries_next, stays_dead}
use Rattle.h2_frames.proofs.reader.FrameReader.next.Goals as goal

pub returns-clause-stands : goal.returns-clause-stands
returns-clause-stands c = carries_next c.args.self.now c.step.result c.step.new.self c.step.ensures

pub returns-clause-dead : goal.returns-clause-dead
returns-clause-dead c = stays_dead c.args.self.now c.step.result c.step.new.self c.step.ensures
