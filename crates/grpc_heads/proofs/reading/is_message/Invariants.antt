use Rattle.std.proofs.Common.{◌≡◌, length}
use Rattle.proto_wire.specs.Fields.{fields, fields_from}
use Rattle.grpc_heads.proofs.reading.is_message.Given as goal

-- the fault of the message is still to come
abbrev pub invariant-fields : goal.invariant-fields
invariant-fields l = (fields_from l.reader.0 l.reader.1).fault ≡ (fields l.bytes).fault

abbrev pub decreases-fields : goal.decreases-fields
decreases-fields l = length l.reader.1
