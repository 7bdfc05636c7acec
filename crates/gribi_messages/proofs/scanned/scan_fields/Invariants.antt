use Rattle.std.proofs.Common.{length}
use Rattle.std.specs.Option.{option_map, option_copied}
use Rattle.proto_wire.specs.Fields.{fields, fields_from}
use Rattle.proto_schema.specs.OneofMember.{oneof_member_view}
use Rattle.gribi_messages.proofs.Scanning.{IsScannedSoFar}
use Rattle.gribi_messages.proofs.scanned.scan_fields.Given as goal

abbrev pub invariant-loop-field : goal.invariant-loop-field
invariant-loop-field l = IsScannedSoFar l.id_number l.instance_number l.op_number l.election_number l.members l.id (option_copied l.instance) l.op (option_map oneof_member_view l.entry) l.election (fields_from l.reader.0 l.reader.1).fields (fields l.bytes).fields

abbrev pub decreases-loop-field : goal.decreases-loop-field
decreases-loop-field l = length l.reader.1
