use Rattle.std.proofs.Common.{◌≡◌, ◌-◌, ◌≤◌, length, take}
use Rattle.hpack_tables.proofs.table.share_all.Given as goal

abbrev pub invariant-loop-place : goal.invariant-loop-place
invariant-loop-place l = record {
  same : l.copy.items ≡ take l.place l.entries.items;
  within : l.place ≤ length l.entries.items;
}

abbrev pub decreases-loop-place : goal.decreases-loop-place
decreases-loop-place l = length l.entries.items - l.place
