use Rattle.h2_conn.proofs.watch.Watch.take.Goals as goal

pub place_of-place-requires : goal.place_of-place-requires
place_of-place-requires c = (4294967296, rw c.as_slice.ensures.value c.self.invariant)
