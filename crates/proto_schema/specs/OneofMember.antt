-- A member of a oneof, without where it lies in memory.
use Rattle.std.specs.Prelude.{ℕ, List}
use Rattle.proto_schema.specs.declared.field_values.OneofMember.{OneofMember}

abbrev pub oneof_member_view : OneofMember → ℕ × List ℕ
oneof_member_view c = (c.number, c.bytes)
