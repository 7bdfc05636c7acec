use Rattle.std.proofs.Common.{◌≡◌, ◌++◌, length, map}
use Rattle.proto_schema.specs.FieldValues.{pieces}
use Rattle.aft_messages.specs.Reading.{member_of}
use Rattle.proto_wire.specs.Fields.{fields, fields_from}
use Rattle.aft_messages.proofs.read.read_members.Given as goal

-- what was read so far, and then what the fields that are left say, is what all say
abbrev pub invariant-loop-field : goal.invariant-loop-field
invariant-loop-field l = l.members.items ++ map (member_of l.n) (pieces l.wanted (fields_from l.reader.0 l.reader.1).fields) ≡ map (member_of l.n) (pieces l.wanted (fields l.bytes).fields)

abbrev pub decreases-loop-field : goal.decreases-loop-field
decreases-loop-field l = length l.reader.1
