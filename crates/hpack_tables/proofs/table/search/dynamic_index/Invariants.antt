use Rattle.std.proofs.Common.{◌≡◌, ◌+◌, ◌-◌, ◌≤◌, length, drop}
use Rattle.hpack_tables.specs.Writing.{fits, index_from}
use Rattle.hpack_tables.proofs.table.search.dynamic_index.Given as goal

abbrev pub invariant-loop-place : goal.invariant-loop-place
invariant-loop-place l = record {
  so_far : index_from (fits l.whole l.field) 62 l.entries.items ≡ index_from (fits l.whole l.field) (62 + l.place) (drop l.place l.entries.items);
  within : l.place ≤ length l.entries.items;
}

abbrev pub decreases-loop-place : goal.decreases-loop-place
decreases-loop-place l = length l.entries.items - l.place
