use Rattle.std.proofs.Common.{◌≡◌, ◌++◌, length, map}
use Rattle.proto_schema.specs.FieldValues.{pieces}
use Rattle.gribi_messages.specs.Rows.{row_of}
use Rattle.proto_wire.specs.Fields.{fields, fields_from}
use Rattle.gribi_messages.proofs.rows.rows_of.Given as goal

-- the rows so far, and then those of the fields that are left, are those of all
abbrev pub invariant-loop-field : goal.invariant-loop-field
invariant-loop-field l = l.all ++ map (row_of l.n) (pieces l.wanted (fields_from l.reader.0 l.reader.1).fields) ≡ map (row_of l.n) (pieces l.wanted (fields l.bytes).fields)

abbrev pub decreases-loop-field : goal.decreases-loop-field
decreases-loop-field l = length l.reader.1
