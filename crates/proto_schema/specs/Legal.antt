-- Whether bytes are a message of the schema, and the first fault where they aren't (Protocol Buffers encoding).
use Rattle.std.specs.Prelude.{ℕ, zero, suc, ◌-◌, List, [], ◌∷◌, length, Option, Some, None, if◌then◌else◌}
use Rattle.std.specs.Option.{option_or, option_map}
use Rattle.std.specs.Str.{is_utf8}
use Rattle.proto_wire.specs.declared.reader.WireFault.{WireFault}
use Rattle.proto_wire.specs.Wire.{Value, Varint, Eight, Bytes, Four}
use Rattle.proto_wire.specs.Fields.{FieldSpan, ParsedFields, fields_from}
use Rattle.schema_numbers.specs.Numbers.{Numbers}
use Rattle.proto_schema.specs.declared.schema.MessageKind.{MessageKind}
use Rattle.proto_schema.specs.declared.schema.FieldKind.{FieldKind}
use Rattle.proto_schema.specs.declared.schema.FieldKind.TheVariants.{Unknown, Number, Text, Unread, Message}
use Rattle.proto_schema.specs.declared.legal.MessageFault.{MessageFault}
use Rattle.proto_schema.specs.declared.legal.MessageFault.TheVariants.{Wire, Utf8}
use Rattle.proto_schema.specs.Schema.{kind_of}

-- how the faults of an embedded message, whose bytes stand at a place, are found
abbrev pub NestedCheck : Type 0
NestedCheck = MessageKind → ℕ → List ℕ → Option MessageFault

-- the first fault of a field's bytes, which stand at base; its tag stands at place
abbrev pub fault_of_bytes : NestedCheck → FieldKind → ℕ → ℕ → List ℕ → Option MessageFault
fault_of_bytes deeper Unknown place base bytes = None
fault_of_bytes deeper Number place base bytes = None
fault_of_bytes deeper Text place base bytes = if is_utf8 bytes then None else Some (Utf8 place)
fault_of_bytes deeper Unread place base bytes = None
fault_of_bytes deeper (Message m) place base bytes = deeper m base bytes

-- A field whose value isn't of its own wire type is skipped.
abbrev pub fault_of_value : NestedCheck → FieldKind → ℕ → ℕ → Value → Option MessageFault
fault_of_value deeper kind place ending (Varint n) = None
fault_of_value deeper kind place ending (Eight eight) = None
fault_of_value deeper kind place ending (Bytes bytes) = fault_of_bytes deeper kind place (ending - length bytes) bytes
fault_of_value deeper kind place ending (Four four) = None

abbrev pub wire_fault : Option (ℕ × WireFault) → Option MessageFault
wire_fault fault = option_map (λ f. Wire f.0 f.1) fault

-- the first fault of the fields, one after another, and then that of the wire
abbrev pub fault_of_fields : NestedCheck → (ℕ → FieldKind) → List FieldSpan → Option MessageFault → Option MessageFault
fault_of_fields deeper kinds [] end = end
fault_of_fields deeper kinds (f ∷ fs) end = option_or (fault_of_value deeper (kinds f.number) f.place f.ending f.value) (fault_of_fields deeper kinds fs end)

abbrev pub fault_of_parsed : NestedCheck → (ℕ → FieldKind) → ParsedFields → Option MessageFault
fault_of_parsed deeper kinds cut = fault_of_fields deeper kinds cut.fields (wire_fault cut.fault)

abbrev pub unchecked : NestedCheck
unchecked m base bytes = None

-- the first fault of a message at this place, with the messages in it looked at to this depth
unfoldable pub fault_within : ℕ → Numbers → NestedCheck
fault_within zero n m base bytes = fault_of_parsed unchecked (kind_of n m) (fields_from base bytes)
fault_within (suc depth) n m base bytes = fault_of_parsed (fault_within depth n) (kind_of n m) (fields_from base bytes)

-- The first fault of a message. No message of the schema has messages in it to a depth of more than six.
unfoldable pub first_fault : Numbers → MessageKind → List ℕ → Option MessageFault
first_fault n m bytes = fault_within 6 n m 0 bytes

-- how the messages in a message of this depth are looked at
unfoldable pub deeper_than : ℕ → Numbers → NestedCheck
deeper_than zero n m base bytes = None
deeper_than (suc depth) n m base bytes = fault_within depth n m base bytes
