-- How numbers and fields are written (Protocol Buffers encoding).
use Rattle.std.specs.Prelude.{ℕ, zero, suc, ◌+◌, ◌*◌, ◌/◌, ◌%◌, ◌^◌, ◌<◌, ◌≤◌, List, [], ◌∷◌, ◌++◌, length, nat_lt, if◌then◌else◌}
use Rattle.std.specs.List.{flat_map}
use Rattle.proto_wire.specs.Wire.{Varint, Bytes}
use Rattle.proto_wire.specs.Fields.{FieldSpan}

-- seven bits in each byte, the lowest first, and so many bytes before the last
unfoldable pub varint_upto : ℕ → ℕ → List ℕ
varint_upto zero n = (n % 128) ∷ []
varint_upto (suc k) n = if nat_lt n 128 then n ∷ [] else ((n % 128) + 128) ∷ varint_upto k (n / 128)

-- the fewest bytes of a number below 2 ^ 64
abbrev pub varint : ℕ → List ℕ
varint n = varint_upto 9 n

-- a field of wire type 0
abbrev pub uint_field : ℕ → ℕ → List ℕ
uint_field number value = varint (number * 8) ++ varint value

-- a field of wire type 2
abbrev pub bytes_field : ℕ → List ℕ → List ℕ
bytes_field number bytes = varint (number * 8 + 2) ++ varint (length bytes) ++ bytes

-- a field to be written: its number, and a number or bytes
pub data WrittenField : Type 0 where
  Uint : ℕ → ℕ → WrittenField
  Text : ℕ → List ℕ → WrittenField

abbrev pub field_encoding : WrittenField → List ℕ
field_encoding (Uint number value) = uint_field number value
field_encoding (Text number bytes) = bytes_field number bytes

-- the bytes of fields, one behind another
abbrev pub encoded_fields : List WrittenField → List ℕ
encoded_fields parts = flat_map field_encoding parts

-- The number is one of a field, and the value or the length of the bytes is below 2 ^ 64.
abbrev pub IsLegal : WrittenField → Type 0
IsLegal (Uint number value) = (1 ≤ number) × (number < 2 ^ 29) × (value < 2 ^ 64)
IsLegal (Text number bytes) = (1 ≤ number) × (number < 2 ^ 29) × (length bytes < 2 ^ 64)

-- the field that was written at this place
abbrev pub field_span : ℕ → WrittenField → FieldSpan
field_span place (Uint number value) = record { number = number; place = place; ending = place + length (uint_field number value); value = Varint value }
field_span place (Text number bytes) = record { number = number; place = place; ending = place + length (bytes_field number bytes); value = Bytes bytes }

-- the fields that were written from this place on
abbrev pub field_spans : ℕ → List WrittenField → List FieldSpan
field_spans place [] = []
field_spans place (part ∷ parts) = field_span place part ∷ field_spans (place + length (field_encoding part)) parts
