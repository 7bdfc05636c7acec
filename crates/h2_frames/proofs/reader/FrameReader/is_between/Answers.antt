use Rattle.h2_frames.proofs.Streams.{ends_between}
use Rattle.h2_frames.proofs.reader.FrameReader.is_between.Goals as goal

pub returns-clause-stands : goal.returns-clause-stands
returns-clause-stands c = ends_between c.args.self.now c.holds_awaited.result c.holds_awaited.ensures
