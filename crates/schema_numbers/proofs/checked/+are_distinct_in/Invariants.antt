use Rattle.std.proofs.Common.{length}
use Rattle.schema_numbers.proofs.checked.+are_distinct_in.Given as goal

abbrev pub decreases-are_distinct_in : goal.decreases-are_distinct_in
decreases-are_distinct_in l = length l.sizes.now
