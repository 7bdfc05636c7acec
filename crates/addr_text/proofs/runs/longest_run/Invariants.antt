use Rattle.std.proofs.Common.{◌≡◌, ◌≤◌, ◌+◌, length, drop}
use Rattle.addr_text.specs.Printed as spec
use Rattle.addr_text.proofs.runs.longest_run.Given as goal

-- what is known of the groups behind
abbrev pub invariant-groups : goal.invariant-groups
invariant-groups l = record {
  in_range : l.left + l.run ≤ length l.groups;
  run : l.run ≡ spec.zeros (drop l.left l.groups);
  best : l.best ≡ spec.longest (drop l.left l.groups);
  place : l.place ≡ l.left + spec.place_of l.best (drop l.left l.groups);
  within : l.place + l.best ≤ length l.groups;
}

abbrev pub decreases-groups : goal.decreases-groups
decreases-groups l = l.left
