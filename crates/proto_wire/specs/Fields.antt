-- The fields of a message, each with its place (Protocol Buffers encoding).
use Rattle.std.specs.Prelude.{◌≡◌, ℕ, zero, suc, ◌+◌, ◌^◌, ◌<◌, ◌≤◌, List, [], ◌∷◌, length, drop, Option, Some, None, Result, Ok, Err}
use Rattle.proto_wire.specs.declared.reader.WireFault.{WireFault}
use Rattle.proto_wire.specs.declared.reader.Next.{Next}
use Rattle.proto_wire.specs.declared.reader.Next.TheVariants as next
use Rattle.proto_wire.specs.Wire.{Value, TaggedValue, tagged_value_at, value_of, bytes_len}

-- a field, the place of its tag's first byte, and the place behind its last byte
pub record FieldSpan : Type 0 where
  pub number : ℕ
  pub place : ℕ
  pub ending : ℕ
  pub value : Value

-- the fields before the end or the first fault, and that fault with its place
pub record ParsedFields : Type 0 where
  pub fields : List FieldSpan
  pub fault : Option (ℕ × WireFault)

abbrev pub nothing : ParsedFields
nothing = record { fields = []; fault = None }

abbrev pub parse_failed : ℕ → WireFault → ParsedFields
parse_failed place fault = record { fields = []; fault = Some (place, fault) }

abbrev pub prepend_field : FieldSpan → ParsedFields → ParsedFields
prepend_field f cut = record { fields = f ∷ cut.fields; fault = cut.fault }

abbrev pub span_at : ℕ → TaggedValue → FieldSpan
span_at place body = record { number = body.number; place = place; ending = place + body.size; value = body.value }

abbrev pub parse_rest : (ℕ → List ℕ → ParsedFields) → ℕ → List ℕ → Result TaggedValue WireFault → ParsedFields
parse_rest others place bytes (Ok body) = prepend_field (span_at place body) (others (place + body.size) (drop body.size bytes))
parse_rest others place bytes (Err fault) = parse_failed place fault

-- at most so many fields
unfoldable pub fields_upto : ℕ → ℕ → List ℕ → ParsedFields
fields_upto n place [] = nothing
fields_upto zero place (b ∷ bytes) = nothing
fields_upto (suc n) place (b ∷ bytes) = parse_rest (fields_upto n) place (b ∷ bytes) (tagged_value_at (b ∷ bytes))

-- the fields of bytes that stand at this place; a field takes a byte at least
unfoldable pub fields_from : ℕ → List ℕ → ParsedFields
fields_from place bytes = fields_upto (length bytes) place bytes

-- the fields of a message
abbrev pub fields : List ℕ → ParsedFields
fields bytes = fields_from 0 bytes

-- What a call of next answers at these bytes, and what it leaves.
abbrev pub Reads : (ℕ × List ℕ) → Next → (ℕ × List ℕ) → Type 0
Reads old (next.Field f) new =
    (fields_from old.0 old.1
    ≡ prepend_field
    (record { number = f.number; place = f.place; ending = new.0; value = value_of f.value })
    (fields_from new.0 new.1))
    × (f.place ≡ old.0) × (length new.1 < length old.1)
Reads old next.End new = (fields_from old.0 old.1 ≡ nothing) × (new ≡ old)
Reads old (next.Refused place fault) new = (fields_from old.0 old.1 ≡ parse_failed place fault) × (new ≡ old)

-- The bytes of a value stand between its tag and its end.
abbrev pub IsWithin : Next → ℕ → Type 0
IsWithin (next.Field f) ending = f.place + bytes_len (value_of f.value) ≤ ending
IsWithin next.End ending = Unit {0}
IsWithin (next.Refused place fault) ending = Unit {0}

-- A field's number is from 1 to 536,870,911.
abbrev pub HasNumber : Next → Type 0
HasNumber (next.Field f) = (1 ≤ f.number) × (f.number < 2 ^ 29)
HasNumber next.End = Unit {0}
HasNumber (next.Refused place fault) = Unit {0}
