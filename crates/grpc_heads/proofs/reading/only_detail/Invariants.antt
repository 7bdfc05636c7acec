use Rattle.std.proofs.Common.{◌≡◌, length}
use Rattle.std.specs.Option.{option_copied}
use Rattle.proto_wire.specs.Fields.{fields, fields_from}
use Rattle.proto_schema.specs.FieldValues.{pieces}
use Rattle.grpc_heads.specs.Trailers.{only}
use Rattle.grpc_heads.proofs.Codes.{only_after}
use Rattle.grpc_heads.proofs.reading.only_detail.Given as goal

-- the detail so far is the only one if no other comes
abbrev pub invariant-fields : goal.invariant-fields
invariant-fields l = only_after (option_copied l.found) (pieces 3 (fields_from l.reader.0 l.reader.1).fields) ≡ only (pieces 3 (fields l.bytes).fields)

abbrev pub decreases-fields : goal.decreases-fields
decreases-fields l = length l.reader.1
