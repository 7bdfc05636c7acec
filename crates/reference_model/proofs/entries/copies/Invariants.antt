use Rattle.std.proofs.Common.{◌≡◌, take}
use Rattle.reference_model.proofs.entries.copies.Given as goal

abbrev pub invariant-loop-e : goal.invariant-loop-e
invariant-loop-e l = l.copied.items ≡ take l.e-index l.table
