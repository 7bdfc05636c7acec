use Rattle.std.specs.Prelude.{All, take}
use Rattle.gribi_messages.specs.Rows.{RowHasKnownInstances}
use Rattle.session_engine.proofs.known_rows.are_known.Given as goal

abbrev pub invariant-loop-row : goal.invariant-loop-row
invariant-loop-row l = All (RowHasKnownInstances l.instances) (take l.row-index l.rows)
