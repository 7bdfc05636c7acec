use Rattle.std.proofs.Common.{◌+◌}
use Rattle.h2_streams.proofs.set.StreamSet.place_of.Goals as goal

pub place_of-requires : goal.place_of-requires
place_of-requires c = (c.self.inside.highest + 1, rw c.as_slice.ensures.value c.self.invariant.1)
