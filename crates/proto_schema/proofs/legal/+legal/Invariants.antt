use Rattle.std.proofs.Common.{◌≡◌, ◌+◌, ◌*◌, length}
use Rattle.proto_wire.specs.Fields.{fields_from}
use Rattle.proto_schema.specs.Schema.{kind_of}
use Rattle.proto_schema.specs.Legal.{fault_within, fault_of_parsed, deeper_than}
use Rattle.proto_schema.proofs.legal.+legal.Given as goal

abbrev pub decreases-fault_of_bytes : goal.decreases-fault_of_bytes
decreases-fault_of_bytes l = 3 * l.depth

abbrev pub decreases-fault_of_value : goal.decreases-fault_of_value
decreases-fault_of_value l = 3 * l.depth + 1

abbrev pub decreases-fault_within : goal.decreases-fault_within
decreases-fault_within l = 3 * l.depth + 2

-- the faults of the fields that are left are those of all
abbrev pub invariant-fault_within-loop-place : goal.invariant-fault_within-loop-place
invariant-fault_within-loop-place l = fault_of_parsed (deeper_than l.depth l.n) (kind_of l.n l.message) (fields_from l.reader.0 l.reader.1) ≡ fault_within l.depth l.n l.message l.base l.bytes

abbrev pub decreases-fault_within-loop-place : goal.decreases-fault_within-loop-place
decreases-fault_within-loop-place l = length l.reader.1
