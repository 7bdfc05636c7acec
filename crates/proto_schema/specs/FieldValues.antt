-- What a message says of its fields: the last number, each piece, the pieces joined, the last member of a oneof
-- (Protocol Buffers encoding).
use Rattle.std.specs.Prelude.{ℕ, List, [], ◌∷◌, ◌++◌, Option, Some, None, ◌==◌, unwrap_or, if◌then◌else◌}
use Rattle.std.specs.List.{filter_map, last_or, list_any}
use Rattle.proto_wire.specs.Wire.{Value, Varint, Eight, Bytes, Four}
use Rattle.proto_wire.specs.Fields.{FieldSpan, fields}

abbrev pub as_number : Value → Option ℕ
as_number (Varint n) = Some n
as_number (Eight eight) = None
as_number (Bytes bytes) = None
as_number (Four four) = None

abbrev pub as_bytes : Value → Option (List ℕ)
as_bytes (Varint n) = None
as_bytes (Eight eight) = None
as_bytes (Bytes bytes) = Some bytes
as_bytes (Four four) = None

-- the numbers of a field, in their order
abbrev pub number_in : ℕ → ℕ → Value → Option ℕ
number_in wanted number value = if number == wanted then as_number value else None

abbrev pub numbers : ℕ → List FieldSpan → List ℕ
numbers wanted fs = filter_map (λ f. number_in wanted f.number f.value) fs

-- the bytes of a field, in their order
abbrev pub piece_in : ℕ → ℕ → Value → Option (List ℕ)
piece_in wanted number value = if number == wanted then as_bytes value else None

abbrev pub pieces : ℕ → List FieldSpan → List (List ℕ)
pieces wanted fs = filter_map (λ f. piece_in wanted f.number f.value) fs

-- pieces, one behind the other
abbrev pub merged_onto : Option (List ℕ) → List (List ℕ) → Option (List ℕ)
merged_onto before [] = before
merged_onto before (piece ∷ others) = merged_onto (Some (unwrap_or before [] ++ piece)) others

-- the members of a oneof, by their numbers, in their order
abbrev pub member_in : List ℕ → ℕ → Value → Option (ℕ × List ℕ)
member_in among number (Varint n) = None
member_in among number (Eight eight) = None
member_in among number (Bytes bytes) = if list_any (λ member. member == number) among then Some (number, bytes) else None
member_in among number (Four four) = None

abbrev pub members : List ℕ → List FieldSpan → List (ℕ × List ℕ)
members among fs = filter_map (λ f. member_in among f.number f.value) fs

-- an occurrence of a member goes on with what was before, if that is the same member
abbrev pub with_occurrence : Option (ℕ × List ℕ) → (ℕ × List ℕ) → (ℕ × List ℕ)
with_occurrence None m = m
with_occurrence (Some before) m = if before.0 == m.0 then (m.0, before.1 ++ m.1) else m

abbrev pub oneof_after : Option (ℕ × List ℕ) → List (ℕ × List ℕ) → Option (ℕ × List ℕ)
oneof_after before [] = before
oneof_after before (m ∷ ms) = oneof_after (Some (with_occurrence before m)) ms

-- the last number of a field, if it has one
unfoldable pub last_number_at : ℕ → List ℕ → Option ℕ
last_number_at wanted bytes = last_or None (numbers wanted (fields bytes).fields)

-- the last number of a field, or 0
unfoldable pub number_at : ℕ → List ℕ → ℕ
number_at wanted bytes = unwrap_or (last_number_at wanted bytes) 0

-- the last bytes of a field, or none
unfoldable pub text_at : ℕ → List ℕ → List ℕ
text_at wanted bytes = unwrap_or (last_or None (pieces wanted (fields bytes).fields)) []

-- an embedded message: its occurrences, one behind the other
unfoldable pub message_at : ℕ → List ℕ → Option (List ℕ)
message_at wanted bytes = merged_onto None (pieces wanted (fields bytes).fields)

-- the occurrences of a repeated field
unfoldable pub repeated_at : ℕ → List ℕ → List (List ℕ)
repeated_at wanted bytes = pieces wanted (fields bytes).fields

-- the last member of a oneof, and its occurrences behind the last one of another member
unfoldable pub oneof_at : List ℕ → List ℕ → Option (ℕ × List ℕ)
oneof_at among bytes = oneof_after None (members among (fields bytes).fields)
