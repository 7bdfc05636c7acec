use Rattle.std.proofs.Common.{◌≡◌, take}
use Rattle.schema_numbers.proofs.draft.in_64_bits.Given as goal

abbrev pub invariant-loop-n : goal.invariant-loop-n
invariant-loop-n l = l.all.items ≡ take l.n-index l.numbers
