use Rattle.std.proofs.Common.{◌≡◌, ◌+◌, ◌-◌, ◌≤◌, drop}
use Rattle.hpack_tables.specs.StaticTable.{static_table}
use Rattle.hpack_tables.specs.Writing.{fits, index_from}
use Rattle.hpack_tables.proofs.table.search.static_index.Given as goal

abbrev pub invariant-loop-place : goal.invariant-loop-place
invariant-loop-place l = record {
  so_far : index_from (fits l.whole l.field) 1 static_table ≡ index_from (fits l.whole l.field) (1 + l.place) (drop l.place static_table);
  within : l.place ≤ 61;
}

abbrev pub decreases-loop-place : goal.decreases-loop-place
decreases-loop-place l = 61 - l.place
