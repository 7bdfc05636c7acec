use Rattle.std.proofs.Common.{ap, arith, Some}
use Rattle.rig_io.proofs.Fronts.{front_and_rest, given_and_front}
use Rattle.rig_io.proofs.source.MemSourceSource.take.Goals as goal

pub returns-clause-bytes : goal.returns-clause-bytes
returns-clause-bytes c =
    rw (← c.self.view_is, ← c.deref-2.ensures.value) (ap Some (front_and_rest c.deref-2.result.now c.self.inside.at c.min-count.result c.copy_from_slice.new.self _ c.copy_from_slice.ensures.after (omega (arith, c.min-count.ensures))))

pub returns-clause-grows : goal.returns-clause-grows
returns-clause-grows c =
    rw (← c.self.view_is, ← c.deref-2.ensures.value) (ap Some (given_and_front c.deref-2.result.now c.self.inside.at c.min-count.result c.copy_from_slice.new.self _ c.copy_from_slice.ensures.after (omega (arith, c.min-count.ensures))))
