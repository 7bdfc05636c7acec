-- What a message of written fields says, and that it has no fault.
use Rattle.std.proofs.Common.{◌≡◌, ℕ, zero, suc, ◌+◌, ◌-◌, true, List, [], ◌∷◌, ◌++◌, length, None, unwrap_or, refl}
use Rattle.std.specs.Prelude.{All}
use Rattle.std.specs.List.{filter_map, last_or}
use Rattle.std.specs.Str.{is_utf8}
use Rattle.std.proofs.lemmas.List.Elements.{All-nil, All-cons}
use Rattle.proto_wire.specs.Wire.{Value, Varint, Bytes}
use Rattle.proto_wire.specs.Written.{uint_field, bytes_field, WrittenField, Uint, Text, IsLegal, encoded_fields, field_spans}
use Rattle.proto_wire.proofs.Again.{fields_from-encoded_fields}
use Rattle.schema_numbers.specs.Numbers.{Numbers}
use Rattle.proto_schema.specs.declared.schema.MessageKind.{MessageKind}
use Rattle.proto_schema.specs.declared.schema.FieldKind.{FieldKind}
use Rattle.proto_schema.specs.declared.schema.FieldKind.TheVariants as kind
use Rattle.proto_schema.specs.Schema.{kind_of}
use Rattle.proto_schema.specs.Legal.{NestedCheck, unchecked, fault_of_value, fault_of_fields, fault_within}
use Rattle.proto_schema.specs.FieldValues.{number_in, piece_in, numbers, pieces, merged_onto, last_number_at, number_at, text_at, message_at, repeated_at}

-- each of a list
abbrev pub Each : {X : Type 0} → (X → Type 0) → List X → Type 0
Each P [] = Unit {0}
Each P (x ∷ xs) = P x × Each P xs

pub each_append : {X : Type 0} (P : X → Type 0) (xs ys : List X) → Each P xs → Each P ys → Each P (xs ++ ys)
each_append P [] ys p q = q
each_append P (x ∷ xs) ys p q = (p.0, each_append P xs ys p.1 q)

pub each_map : {X : Type 0} (P Q : X → Type 0) → ((x : X) → P x → Q x) → (xs : List X) → Each P xs → Each Q xs
each_map P Q f [] p = p
each_map P Q f (x ∷ xs) p = (f x p.0, each_map P Q f xs p.1)

all_from : {X : Type 0} (P : X → Type 0) (xs : List X) → Each P xs → All P xs
all_from P [] p = All-nil P
all_from P (x ∷ xs) p = All-cons P x xs p.0 (all_from P xs p.1)

abbrev pub no : WrittenField → ℕ
no (Uint number value) = number
no (Text number bytes) = number

abbrev pub val : WrittenField → Value
val (Uint number value) = Varint value
val (Text number bytes) = Bytes bytes

-- the numbers and the bytes of a field
abbrev pub nums : ℕ → List WrittenField → List ℕ
nums wanted parts = filter_map (λ p. number_in wanted (no p) (val p)) parts

abbrev pub bits : ℕ → List WrittenField → List (List ℕ)
bits wanted parts = filter_map (λ p. piece_in wanted (no p) (val p)) parts

nums_spots : (wanted place : ℕ) (parts : List WrittenField) → numbers wanted (field_spans place parts) ≡ nums wanted parts
nums_spots wanted place [] = refl
nums_spots wanted place (Uint number value ∷ parts) = rw (nums_spots wanted (place + length (uint_field number value)) parts) refl
nums_spots wanted place (Text number bytes ∷ parts) = rw (nums_spots wanted (place + length (bytes_field number bytes)) parts) refl

bits_spots : (wanted place : ℕ) (parts : List WrittenField) → pieces wanted (field_spans place parts) ≡ bits wanted parts
bits_spots wanted place [] = refl
bits_spots wanted place (Uint number value ∷ parts) = rw (bits_spots wanted (place + length (uint_field number value)) parts) refl
bits_spots wanted place (Text number bytes ∷ parts) = rw (bits_spots wanted (place + length (bytes_field number bytes)) parts) refl

-- what the words say of written fields
pub last_number_said : (wanted : ℕ) (parts : List WrittenField) → Each IsLegal parts → last_number_at wanted (encoded_fields parts) ≡ last_or None (nums wanted parts)
unfolding last_number_at
last_number_said wanted parts h = rw (fields_from-encoded_fields 0 parts (all_from IsLegal parts h), nums_spots wanted 0 parts) refl

pub number_said : (wanted : ℕ) (parts : List WrittenField) → Each IsLegal parts → number_at wanted (encoded_fields parts) ≡ unwrap_or (last_or None (nums wanted parts)) 0
unfolding number_at
number_said wanted parts h = rw (last_number_said wanted parts h) refl

pub text_said : (wanted : ℕ) (parts : List WrittenField) → Each IsLegal parts → text_at wanted (encoded_fields parts) ≡ unwrap_or (last_or None (bits wanted parts)) []
unfolding text_at
text_said wanted parts h = rw (fields_from-encoded_fields 0 parts (all_from IsLegal parts h), bits_spots wanted 0 parts) refl

pub message_said : (wanted : ℕ) (parts : List WrittenField) → Each IsLegal parts → message_at wanted (encoded_fields parts) ≡ merged_onto None (bits wanted parts)
unfolding message_at
message_said wanted parts h = rw (fields_from-encoded_fields 0 parts (all_from IsLegal parts h), bits_spots wanted 0 parts) refl

pub repeated_said : (wanted : ℕ) (parts : List WrittenField) → Each IsLegal parts → repeated_at wanted (encoded_fields parts) ≡ bits wanted parts
unfolding repeated_at
repeated_said wanted parts h = rw (fields_from-encoded_fields 0 parts (all_from IsLegal parts h), bits_spots wanted 0 parts) refl

-- a message has no fault, wherever it stands and however deep it is looked into
abbrev pub Clean : Numbers → MessageKind → List ℕ → Type 0
Clean n m bytes = (depth base : ℕ) → fault_within depth n m base bytes ≡ None

-- a field of this kind has no fault
abbrev pub Good : Numbers → FieldKind → WrittenField → Type 0
Good n k (Uint number value) = Unit {0}
Good n kind.Unknown (Text number bytes) = Unit {0}
Good n kind.Number (Text number bytes) = Unit {0}
Good n kind.Text (Text number bytes) = is_utf8 bytes ≡ true
Good n kind.Unread (Text number bytes) = Unit {0}
Good n (kind.Message m) (Text number bytes) = Clean n m bytes

-- a clean message is found clean
abbrev Finds : Numbers → NestedCheck → Type 0
Finds n deeper = (m : MessageKind) (base : ℕ) (bytes : List ℕ) → Clean n m bytes → deeper m base bytes ≡ None

good_value : (n : Numbers) (deeper : NestedCheck) → Finds n deeper → (k : FieldKind) (p : WrittenField) → Good n k p → (place ending : ℕ) → fault_of_value deeper k place ending (val p) ≡ None
good_value n deeper finds k (Uint number value) g place ending = refl
good_value n deeper finds kind.Unknown (Text number bytes) g place ending = refl
good_value n deeper finds kind.Number (Text number bytes) g place ending = refl
good_value n deeper finds kind.Text (Text number bytes) g place ending = rw g refl
good_value n deeper finds kind.Unread (Text number bytes) g place ending = refl
good_value n deeper finds (kind.Message m) (Text number bytes) g place ending = finds m (ending - length bytes) bytes g

good_fields : (n : Numbers) (deeper : NestedCheck) → Finds n deeper → (kinds : ℕ → FieldKind) (place : ℕ) (parts : List WrittenField)
    → Each (λ p. Good n (kinds (no p)) p) parts → fault_of_fields deeper kinds (field_spans place parts) None ≡ None
good_fields n deeper finds kinds place [] g = refl
good_fields n deeper finds kinds place (Uint number value ∷ parts) g =
    good_fields n deeper finds kinds (place + length (uint_field number value)) parts g.1
good_fields n deeper finds kinds place (Text number bytes ∷ parts) g =
    rw (good_value n deeper finds (kinds number) (Text number bytes) g.0 place (place + length (bytes_field number bytes)))
    (good_fields n deeper finds kinds (place + length (bytes_field number bytes)) parts g.1)

pub clean : (n : Numbers) (m : MessageKind) (parts : List WrittenField) → Each IsLegal parts → Each (λ p. Good n (kind_of n m (no p)) p) parts → Clean n m (encoded_fields parts)
unfolding fault_within
clean n m parts legal good zero base =
    rw (fields_from-encoded_fields base parts (all_from IsLegal parts legal)) (good_fields n unchecked (λ k at bytes c. refl) (kind_of n m) base parts good)
clean n m parts legal good (suc depth) base =
    rw (fields_from-encoded_fields base parts (all_from IsLegal parts legal)) (good_fields n (fault_within depth n) (λ k at bytes c. c depth at) (kind_of n m) base parts good)
