use Rattle.std.proofs.Common.{◌-◌}
use Rattle.aft_store.specs.Boxes.{unboxed}
use Rattle.aft_store.proofs.Placing.{IsBetween}
use Rattle.aft_store.proofs.place.place_of.Given as goal

-- the key is nowhere but between the two places
abbrev pub invariant-halves : goal.invariant-halves
invariant-halves l = IsBetween (unboxed l.entries) l.key l.low l.high

abbrev pub decreases-halves : goal.decreases-halves
decreases-halves l = l.high - l.low
