use Rattle.h2_streams.proofs.Standing.{room_says}
use Rattle.h2_streams.proofs.set.StreamSet.may_send.Goals as goal

pub returns-clause-stands : goal.returns-clause-stands
returns-clause-stands c = λ x h is. room_says c.args.self.now x c.args.stream c.room.result c.room.ensures h is
