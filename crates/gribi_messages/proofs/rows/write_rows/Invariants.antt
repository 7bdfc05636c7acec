use Rattle.std.proofs.Common.{◌≡◌, ◌++◌, take}
use Rattle.std.specs.Prelude.{All}
use Rattle.std.specs.List.{flat_map}
use Rattle.gribi_messages.specs.Rows.{row_field}
use Rattle.gribi_messages.specs.EncodableMessages.{IsEncodableRow}
use Rattle.gribi_messages.proofs.rows.write_rows.Given as goal

abbrev pub invariant-loop-row : goal.invariant-loop-row
invariant-loop-row l = (l.out.items ≡ l.fn.out.items ++ flat_map (row_field l.n l.i) (take l.row-index l.rows)) × All (IsEncodableRow l.i) (take l.row-index l.rows)
