use Rattle.std.proofs.Common.{◌≤◌, drop}
use Rattle.std.specs.HashMap.{spare}
use Rattle.ref_counts.specs.Counting.{hop_keys}
use Rattle.ref_counts.proofs.Tallies.{IsOnTheWay}
use Rattle.ref_counts.proofs.counts.drop_members.Given as goal

-- those from here on are still counted
abbrev pub invariant-members : goal.invariant-members
invariant-members l =
    IsOnTheWay l.places.entries l.initial.places.entries (hop_keys l.instance (drop l.n l.members)) (hop_keys l.instance l.members)
    × (spare l.initial.places ≤ spare l.places)
