use Rattle.std.proofs.Common.{◌≤◌, ◌-◌}
use Rattle.aft_store.proofs.boxes.grow_to.Given as goal

abbrev pub invariant-boxes : goal.invariant-boxes
invariant-boxes l = (l.initial.spare.len ≤ l.spare.len) × (l.spare.len ≤ l.count)

abbrev pub decreases-boxes : goal.decreases-boxes
decreases-boxes l = l.count - l.spare.len
