-- Routes that were written are read again.
use Rattle.std.proofs.Common.{◌≡◌, ℕ, zero, suc, ◌+◌, ◌*◌, ◌^◌, ◌<◌, ◌≤◌, ◌==◌, Bool, true, false, List, [], ◌∷◌, ◌++◌, map, length, Option, Some, None, get_or, refl, sym, arith}
use Rattle.std.specs.List.{list_all}
use Rattle.std.specs.Option.{option_map}
use Rattle.std.specs.Str.{is_utf8}
use Rattle.std.proofs.lemmas.Bool.{and_parts}
use Rattle.std.proofs.lemmas.List.{append-nil, length-append}
use Rattle.std.proofs.lemmas.List.Concat.{flat_map-append}
use Rattle.proto_wire.specs.Written.{varint, bytes_field, WrittenField, field_encoding, encoded_fields}
use Rattle.schema_numbers.specs.Numbers.{Numbers, field_of}
use Rattle.schema_numbers.specs.Places.{field_place}
use Rattle.schema_numbers.specs.Valid.{IsValid, is_field_number, are_distinct, messages}
use Rattle.schema_numbers.specs.declared.names.FieldName.{FieldName}
use Rattle.schema_numbers.proofs.Ranges.{passes, field_number}
use Rattle.proto_schema.specs.declared.schema.MessageKind.{MessageKind}
use Rattle.proto_schema.specs.declared.schema.MessageKind.TheVariants as message
use Rattle.proto_schema.specs.declared.schema.FieldKind.TheVariants as kind
use Rattle.proto_schema.specs.Schema.{fields_of}
use Rattle.proto_schema.specs.FieldValues.{number_at, merged_onto}
use Rattle.aft_entries.specs.declared.operation.RawRoute.{RawRoute}
use Rattle.aft_messages.specs.Reading.{text_of, name_at, uint_value_at, string_value_at, route_of}
use Rattle.aft_messages.specs.Writing.{nonzero_uint_field, nonempty_field, uint_value_field, string_value_field, route_bytes}
use Rattle.aft_messages.specs.Encodable.{IsNumber, IsText, IsRoute}
use Rattle.aft_messages.proofs.Parts.{Each, bits, Clean, number_said, text_said, message_said}
use Rattle.aft_messages.proofs.FieldGroups.{InBunch, OneField, one_legal, one_clean, TwoFields, two_legal, two_clean, first_bits, second_bits, number_parts, number_spelled, number_own, number_bunch, filled_parts, filled_spelled, filled_text, filled_bunch, option_parts, option_message}

-- Numbers of fields

every : {X : Type 0} (p : X → Bool) (xs : List X) (i : ℕ) (d : X) → list_all p xs ≡ true → i < length xs → p (get_or xs i d) ≡ true
every p [] i d all lt = absurd (omega (arith, lt))
every p (x ∷ xs) zero d all lt = (and_parts (p x) (list_all p xs) all).0
every p (x ∷ xs) (suc i) d all lt = every p xs i d (and_parts (p x) (list_all p xs) all).1 (omega (arith, lt))

pub distinct : (n : Numbers) → IsValid n → (i : ℕ) → i < 28 → are_distinct (map (field_of n) (get_or messages i [])) ≡ true
distinct n valid i lt = every (λ m. are_distinct (map (field_of n) m)) messages i [] valid.fields_distinct lt

abbrev pub InRange : ℕ → Type 0
InRange number = (1 ≤ number) × (number < 2 ^ 29)

pub range : (n : Numbers) → IsValid n → (x : FieldName) → field_place x < 77 → InRange (field_of n x)
unfolding field_of
range n valid x lt = field_number (get_or n.fields (field_place x) 0) (passes is_field_number n.fields (field_place x) 0 valid.fields_in_range (omega (arith, lt, valid.each_field)))

pub inner_fits : (number : ℕ) (bytes : List ℕ) → length (bytes_field number bytes) < 2 ^ 64 → length bytes < 2 ^ 64
inner_fits number bytes h =
    let whole : length ((varint (number * 8 + 2) ++ varint (length bytes)) ++ bytes) < 2 ^ 64 = h in
    omega (arith, whole, length-append (varint (number * 8 + 2) ++ varint (length bytes)) bytes)

pub front_fits : (xs ys : List ℕ) → length (xs ++ ys) < 2 ^ 64 → length xs < 2 ^ 64
front_fits xs ys h = omega (arith, h, length-append xs ys)

pub back_fits : (xs ys : List ℕ) → length (xs ++ ys) < 2 ^ 64 → length ys < 2 ^ 64
back_fits xs ys h = omega (arith, h, length-append xs ys)

-- Wrappers

uint_one : (n : Numbers) (v : ℕ) → v < 2 ^ 64 → OneField n message.UintValue 1 kind.Number (number_parts 1 v)
uint_one n v fits = record { row = refl; each = number_bunch n kind.Number 1 v (omega arith, omega arith) fits }

uint_clean : (n : Numbers) (v : ℕ) → v < 2 ^ 64 → Clean n message.UintValue (nonzero_uint_field 1 v)
uint_clean n v fits = rw (number_spelled 1 v) (one_clean (uint_one n v fits))

uint_said : (n : Numbers) (v : ℕ) → v < 2 ^ 64 → number_at 1 (nonzero_uint_field 1 v) ≡ v
uint_said n v fits = rw (number_spelled 1 v, number_said 1 (number_parts 1 v) (one_legal (uint_one n v fits))) (number_own 1 v)

string_one : (n : Numbers) (text : List ℕ) → is_utf8 text ≡ true → length text < 2 ^ 64 → OneField n message.StringValue 1 kind.Text (filled_parts 1 text)
string_one n text good fits = record { row = refl; each = filled_bunch n kind.Text 1 text (omega arith, omega arith) fits good }

string_clean : (n : Numbers) (text : List ℕ) → is_utf8 text ≡ true → length text < 2 ^ 64 → Clean n message.StringValue (nonempty_field 1 text)
string_clean n text good fits = rw (filled_spelled 1 text) (one_clean (string_one n text good fits))

string_said : (n : Numbers) (text : List ℕ) → is_utf8 text ≡ true → length text < 2 ^ 64 → name_at 1 (nonempty_field 1 text) ≡ text
unfolding text_of
string_said n text good fits = rw (filled_spelled 1 text, text_said 1 (filled_parts 1 text) (one_legal (string_one n text good fits)), filled_text 1 text, good) refl

pub shorter : (number : ℕ) (text : List ℕ) → length (nonempty_field number text) < 2 ^ 64 → length text < 2 ^ 64
unfolding nonempty_field
shorter number [] h = omega arith
shorter number (b ∷ text) h = inner_fits number (b ∷ text) h

-- Fields of wrappers

abbrev pub uint_value_parts : ℕ → Option ℕ → List WrittenField
uint_value_parts number value = option_parts number (option_map (nonzero_uint_field 1) value)

pub uint_value_spelled : (number : ℕ) (value : Option ℕ) → uint_value_field number value ≡ encoded_fields (uint_value_parts number value)
uint_value_spelled number None = refl
uint_value_spelled number (Some v) = sym (append-nil (bytes_field number (nonzero_uint_field 1 v)))

pub uint_value_bunch : (n : Numbers) (number : ℕ) (value : Option ℕ) → InRange number → IsNumber value → length (uint_value_field number value) < 2 ^ 64
    → Each (InBunch n (kind.Message message.UintValue) number) (uint_value_parts number value)
uint_value_bunch n number None range h fits = tt
uint_value_bunch n number (Some v) range h fits = (((range.0, range.1, inner_fits number (nonzero_uint_field 1 v) fits), refl, uint_clean n v h), tt)

pub uint_value_own : (n : Numbers) (number : ℕ) (value : Option ℕ) → IsNumber value
    → option_map (number_at 1) (merged_onto None (bits number (uint_value_parts number value))) ≡ value
uint_value_own n number value h = rw (option_message number (option_map (nonzero_uint_field 1) value)) (by value h)
  where
    by : (value : Option ℕ) → IsNumber value → option_map (number_at 1) (option_map (nonzero_uint_field 1) value) ≡ value
    by None h = refl
    by (Some v) h = rw (uint_said n v h) refl

abbrev pub string_value_parts : ℕ → Option (List ℕ) → List WrittenField
string_value_parts number text = option_parts number (option_map (nonempty_field 1) text)

pub string_value_spelled : (number : ℕ) (text : Option (List ℕ)) → string_value_field number text ≡ encoded_fields (string_value_parts number text)
string_value_spelled number None = refl
string_value_spelled number (Some t) = sym (append-nil (bytes_field number (nonempty_field 1 t)))

pub string_value_bunch : (n : Numbers) (number : ℕ) (text : Option (List ℕ)) → InRange number → IsText text → length (string_value_field number text) < 2 ^ 64
    → Each (InBunch n (kind.Message message.StringValue) number) (string_value_parts number text)
string_value_bunch n number None range h fits = tt
string_value_bunch n number (Some t) range h fits =
    let short = inner_fits number (nonempty_field 1 t) fits in
    (((range.0, range.1, short), refl, string_clean n t h (shorter 1 t short)), tt)

pub string_value_own : (n : Numbers) (number : ℕ) (text : Option (List ℕ)) → IsText text → length (string_value_field number text) < 2 ^ 64
    → option_map (name_at 1) (merged_onto None (bits number (string_value_parts number text))) ≡ text
string_value_own n number text h fits = rw (option_message number (option_map (nonempty_field 1) text)) (by text h fits)
  where
    by : (text : Option (List ℕ)) → IsText text → length (string_value_field number text) < 2 ^ 64 → option_map (name_at 1) (option_map (nonempty_field 1) text) ≡ text
    by None h fits = refl
    by (Some t) h fits = rw (string_said n t h (shorter 1 t (inner_fits number (nonempty_field 1 t) fits))) refl

-- The payload of a route

pub record Leaves (n : Numbers) (m : MessageKind) (g i : ℕ) : Type 0 where
  pub rows : fields_of n m ≡ (g, kind.Message message.UintValue) ∷ (i, kind.Message message.StringValue) ∷ []
  pub apart : (i == g) ≡ false
  pub group : InRange g
  pub instance : InRange i

route_two : (n : Numbers) (m : MessageKind) (g i : ℕ) (route : RawRoute) → Leaves n m g i → IsRoute route → length (uint_value_field g route.group ++ string_value_field i route.instance) < 2 ^ 64
    → TwoFields n m g i (kind.Message message.UintValue) (kind.Message message.StringValue) (uint_value_parts g route.group) (string_value_parts i route.instance)
route_two n m g i route l h fits = record {
  rows = l.rows;
  apart = l.apart;
  first = uint_value_bunch n g route.group l.group h.0 (front_fits (uint_value_field g route.group) (string_value_field i route.instance) fits);
  second = string_value_bunch n i route.instance l.instance h.1 (back_fits (uint_value_field g route.group) (string_value_field i route.instance) fits);
}

route_spelled : (g i : ℕ) (route : RawRoute) → uint_value_field g route.group ++ string_value_field i route.instance ≡ encoded_fields (uint_value_parts g route.group ++ string_value_parts i route.instance)
route_spelled g i route =
    rw (uint_value_spelled g route.group, string_value_spelled i route.instance) (sym (flat_map-append field_encoding (uint_value_parts g route.group) (string_value_parts i route.instance)))

pub route_clean : (n : Numbers) (m : MessageKind) (g i : ℕ) (route : RawRoute) → Leaves n m g i → IsRoute route → length (route_bytes g i route) < 2 ^ 64 → Clean n m (route_bytes g i route)
unfolding route_bytes
route_clean n m g i route l h fits = rw (route_spelled g i route) (two_clean (route_two n m g i route l h fits))

group_said : (n : Numbers) (m : MessageKind) (g i : ℕ) (route : RawRoute) → Leaves n m g i → IsRoute route → length (route_bytes g i route) < 2 ^ 64 → uint_value_at g (route_bytes g i route) ≡ route.group
unfolding route_bytes
group_said n m g i route l h fits =
    let t = route_two n m g i route l h fits in
    rw (route_spelled g i route, message_said g (uint_value_parts g route.group ++ string_value_parts i route.instance) (two_legal t), first_bits t) (uint_value_own n g route.group h.0)

instance_said : (n : Numbers) (m : MessageKind) (g i : ℕ) (route : RawRoute) → Leaves n m g i → IsRoute route → length (route_bytes g i route) < 2 ^ 64 → string_value_at i (route_bytes g i route) ≡ route.instance
unfolding route_bytes
instance_said n m g i route l h fits =
    let t = route_two n m g i route l h fits in
    rw (route_spelled g i route, message_said i (uint_value_parts g route.group ++ string_value_parts i route.instance) (two_legal t), second_bits t)
    (string_value_own n i route.instance h.1 (back_fits (uint_value_field g route.group) (string_value_field i route.instance) fits))

pub route_said : (n : Numbers) (m : MessageKind) (g i : ℕ) (route : RawRoute) → Leaves n m g i → IsRoute route → length (route_bytes g i route) < 2 ^ 64 → route_of g i (route_bytes g i route) ≡ route
unfolding route_of
route_said n m g i route l h fits = rw (group_said n m g i route l h fits, instance_said n m g i route l h fits) refl
