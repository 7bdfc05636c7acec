use Rattle.std.specs.Prelude.{All}
use Rattle.gribi_messages.specs.Rows.{RowHasKnownInstances}
use Rattle.request_tests.proofs.responses.hops.Given as goal

abbrev pub invariant-loop-index : goal.invariant-loop-index
invariant-loop-index l = All (RowHasKnownInstances 1) l.rows
