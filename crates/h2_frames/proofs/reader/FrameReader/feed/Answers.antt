use Rattle.std.proofs.Common.{sym, subst}
use Rattle.std.proofs.lemmas.Result.{on_ok_weaker}
use Rattle.h2_frames.specs.Reader.{Reader}
use Rattle.h2_frames.specs.Stream.{CarriesPiece}
use Rattle.h2_frames.proofs.Streams.{carries_piece}
use Rattle.h2_frames.proofs.reader.FrameReader.feed.Goals as goal

pub returns-clause-stands : goal.returns-clause-stands
returns-clause-stands c =
    on_ok_weaker c.hold.result
    (λ e. subst (λ (r : Reader). CarriesPiece c.args.self.now c.args.piece r) (sym e) (carries_piece c.args.self.now c.args.piece))
    c.hold.ensures.ok
