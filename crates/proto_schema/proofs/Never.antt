-- Want of memory is no fault of a message.
use Rattle.std.proofs.Common.{◌≡◌, ℕ, zero, suc, ◌-◌, Bool, true, false, cond, List, [], ◌∷◌, length, Option, Some, None}
use Rattle.std.specs.Option.{option_or}
use Rattle.std.specs.Str.{is_utf8}
use Rattle.proto_wire.specs.declared.reader.WireFault.{WireFault}
use Rattle.proto_wire.specs.Wire.{Value, Varint, Eight, Bytes, Four}
use Rattle.proto_wire.specs.Fields.{FieldSpan, ParsedFields, fields_from}
use Rattle.schema_numbers.specs.Numbers.{Numbers}
use Rattle.proto_schema.specs.declared.schema.MessageKind.{MessageKind}
use Rattle.proto_schema.specs.declared.schema.FieldKind.{FieldKind}
use Rattle.proto_schema.specs.declared.schema.FieldKind.TheVariants.{Unknown, Number, Text, Unread, Message}
use Rattle.proto_schema.specs.declared.legal.MessageFault.{MessageFault}
use Rattle.proto_schema.specs.declared.legal.MessageFault.TheVariants.{Utf8, NoMemory}
use Rattle.proto_schema.specs.Schema.{kind_of}
use Rattle.proto_schema.specs.Legal.{NestedCheck, fault_of_bytes, fault_of_value, wire_fault, fault_of_fields, fault_of_parsed, unchecked, fault_within, first_fault}

abbrev Never : Option MessageFault → Type 0
Never fault = fault ≡ Some NoMemory → ⊥

text-never : (b : Bool) (place : ℕ) → Never (cond b None (Some (Utf8 place)))
text-never true place e = cc
text-never false place e = cc

bytes-never : (deeper : NestedCheck) → ((m : MessageKind) (base : ℕ) (bytes : List ℕ) → Never (deeper m base bytes)) → (kind : FieldKind) (place base : ℕ) (bytes : List ℕ) → Never (fault_of_bytes deeper kind place base bytes)
bytes-never deeper h Unknown place base bytes e = cc
bytes-never deeper h Number place base bytes e = cc
bytes-never deeper h Text place base bytes e = text-never (is_utf8 bytes) place e
bytes-never deeper h Unread place base bytes e = cc
bytes-never deeper h (Message m) place base bytes e = h m base bytes e

value-never : (deeper : NestedCheck) → ((m : MessageKind) (base : ℕ) (bytes : List ℕ) → Never (deeper m base bytes)) → (kind : FieldKind) (place ending : ℕ) (value : Value) → Never (fault_of_value deeper kind place ending value)
value-never deeper h kind place ending (Varint n) e = cc
value-never deeper h kind place ending (Eight eight) e = cc
value-never deeper h kind place ending (Bytes bytes) e = bytes-never deeper h kind place (ending - length bytes) bytes e
value-never deeper h kind place ending (Four four) e = cc

wire-never : (fault : Option (ℕ × WireFault)) → Never (wire_fault fault)
wire-never None e = cc
wire-never (Some f) e = cc

or-never : (first second : Option MessageFault) → Never first → Never second → Never (option_or first second)
or-never None second h k e = k e
or-never (Some fault) second h k e = h e

fields-never : (deeper : NestedCheck) → ((m : MessageKind) (base : ℕ) (bytes : List ℕ) → Never (deeper m base bytes)) → (kinds : ℕ → FieldKind) (fs : List FieldSpan) (end : Option MessageFault) → Never end → Never (fault_of_fields deeper kinds fs end)
fields-never deeper h kinds [] end k = k
fields-never deeper h kinds (f ∷ fs) end k = or-never _ _ (value-never deeper h (kinds f.number) f.place f.ending f.value) (fields-never deeper h kinds fs end k)

cut-never : (deeper : NestedCheck) → ((m : MessageKind) (base : ℕ) (bytes : List ℕ) → Never (deeper m base bytes)) → (kinds : ℕ → FieldKind) (cut : ParsedFields) → Never (fault_of_parsed deeper kinds cut)
cut-never deeper h kinds cut = fields-never deeper h kinds cut.fields (wire_fault cut.fault) (wire-never cut.fault)

unseen-never : (m : MessageKind) (base : ℕ) (bytes : List ℕ) → Never (unchecked m base bytes)
unseen-never m base bytes e = cc

within-never : (depth : ℕ) (n : Numbers) (m : MessageKind) (base : ℕ) (bytes : List ℕ) → Never (fault_within depth n m base bytes)
unfolding fault_within
within-never zero n m base bytes = cut-never unchecked unseen-never (kind_of n m) (fields_from base bytes)
within-never (suc depth) n m base bytes = cut-never (fault_within depth n) (within-never depth n) (kind_of n m) (fields_from base bytes)

pub first_never : (n : Numbers) (m : MessageKind) (bytes : List ℕ) → first_fault n m bytes ≡ Some NoMemory → ⊥
unfolding first_fault
first_never n m bytes = within-never 6 n m 0 bytes
