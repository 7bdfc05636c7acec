-- Messages with messages in them, read again.
use Rattle.std.proofs.Common.{◌≡◌, ℕ, zero, suc, ◌+◌, ◌-◌, ◌*◌, ◌/◌, ◌%◌, ◌<◌, ◌≤◌, ◌^◌, Bool, true, false, cond, eqb, ltb, List, [], ◌∷◌, ◌++◌, length, get_or, Option, Some, None, refl, sym, ap, ◌∙◌, arith, length-append}
use Rattle.std.specs.Prelude.{All, IfSome, not}
use Rattle.std.specs.List.{list_any}
use Rattle.std.proofs.lemmas.Bool.{eq-eqb, and_parts}
use Rattle.std.proofs.lemmas.List.{append-nil}
use Rattle.std.proofs.lemmas.List.Elements.{All-nil, All-cons, All-head, All-tail, All-append, filter_map-append}
use Rattle.proto_wire.specs.Written.{varint_upto, varint, uint_field, WrittenField, Text}
use Rattle.schema_numbers.specs.Numbers.{Numbers, field_of}
use Rattle.schema_numbers.specs.Valid.{IsValid, are_distinct}
use Rattle.schema_numbers.specs.declared.names.FieldName.TheVariants as field
use Rattle.proto_schema.specs.declared.schema.MessageKind.{MessageKind}
use Rattle.proto_schema.specs.declared.schema.MessageKind.TheVariants as message
use Rattle.proto_schema.specs.declared.schema.FieldKind.TheVariants.{Message}
use Rattle.proto_schema.specs.Schema.{kind_of}
use Rattle.proto_schema.specs.Legal.{fault_within, deeper_than}
use Rattle.proto_schema.specs.FieldValues.{piece_in, merged_onto}
use Rattle.aft_messages.specs.Writing.{nonzero_uint_field}
use Rattle.gribi_messages.specs.Request.{uint128_of}
use Rattle.gribi_messages.specs.Response.{uint128_bytes}
use Rattle.gribi_messages.proofs.Schemas.{not_true, or_no, distinct_at}
use Rattle.gribi_messages.proofs.ReadAgain.{number_of, value_in, part_pieces, IsGood, Rows, keys, rows_bytes, IsFitting, two_fit, row_read, no_fault_in_rows, in_range}

-- ---- sizes

bytes_upto : (b : Bool) (k n m : ℕ) (xs : List ℕ) → length xs ≤ k + 1 → length (cond b (n ∷ []) (m ∷ xs)) ≤ suc k + 1
bytes_upto true k n m xs le = omega arith
bytes_upto false k n m xs le = omega arith

varint_upto-len : (k n : ℕ) → length (varint_upto k n) ≤ k + 1
unfolding varint_upto
varint_upto-len zero n = omega arith
varint_upto-len (suc k) n = bytes_upto (ltb n 128) k n ((n % 128) + 128) (varint_upto k (n / 128)) (varint_upto-len k (n / 128))

unless_zero-len : (b : Bool) (xs : List ℕ) → length xs ≤ 20 → length (cond b [] xs) ≤ 20
unless_zero-len true xs le = omega arith
unless_zero-len false xs le = le

pub nonzero_uint_field-len : (number value : ℕ) → length (nonzero_uint_field number value) ≤ 20
unfolding nonzero_uint_field
nonzero_uint_field-len number value =
    unless_zero-len (eqb value 0) (uint_field number value) (omega (arith, length-append (varint (number * 8)) (varint value), varint_upto-len 9 (number * 8), varint_upto-len 9 value))

-- ---- numbers of one message are apart

among : (ns : List ℕ) (i d wanted : ℕ) → list_any (λ m. eqb m wanted) ns ≡ false → i < length ns → eqb (get_or ns i d) wanted ≡ false
among [] i d wanted h lt = absurd (omega arith)
among (n ∷ ns) zero d wanted h lt = (or_no (eqb n wanted) (list_any (λ m. eqb m wanted) ns) h).0
among (n ∷ ns) (suc i) d wanted h lt = among ns i d wanted (or_no (eqb n wanted) (list_any (λ m. eqb m wanted) ns) h).1 (omega arith)

pub apart : (ns : List ℕ) (i j d : ℕ) → are_distinct ns ≡ true → i < j → j < length ns → eqb (get_or ns j d) (get_or ns i d) ≡ false
apart [] i j d h lt le = absurd (omega arith)
apart (n ∷ ns) i zero d h lt le = absurd (omega arith)
apart (n ∷ ns) zero (suc j) d h lt le =
    among ns j d n (not_true (list_any (λ m. eqb m n) ns) (and_parts (not (list_any (λ m. eqb m n) ns)) (are_distinct ns) h).0) (omega arith)
apart (n ∷ ns) (suc i) (suc j) d h lt le = apart ns i j d (and_parts (not (list_any (λ m. eqb m n) ns)) (are_distinct ns) h).1 (omega arith) (omega arith)

-- ---- pieces

pub pieces-append : (wanted : ℕ) (xs ys : List WrittenField) → part_pieces wanted (xs ++ ys) ≡ part_pieces wanted xs ++ part_pieces wanted ys
unfolding part_pieces
pieces-append wanted xs ys = filter_map-append (λ p. piece_in wanted (number_of p) (value_in p)) xs ys

-- an embedded message, where it is there
unfoldable pub optional : ℕ → Option (List ℕ) → List WrittenField
optional number None = []
optional number (Some bytes) = Text number bytes ∷ []

pub optional_here : (number : ℕ) (bytes : Option (List ℕ)) → merged_onto None (part_pieces number (optional number bytes)) ≡ bytes
unfolding part_pieces optional
optional_here number None = refl
optional_here number (Some bytes) = rw (eq-eqb number number refl) refl

pub optional_other : (wanted number : ℕ) (bytes : Option (List ℕ)) → eqb number wanted ≡ false → part_pieces wanted (optional number bytes) ≡ []
unfolding part_pieces optional
optional_other wanted number None h = refl
optional_other wanted number (Some bytes) h = rw h refl

unfoldable pub many : ℕ → List (List ℕ) → List WrittenField
many number [] = []
many number (bytes ∷ others) = Text number bytes ∷ many number others

pub many_here : (number : ℕ) (all : List (List ℕ)) → part_pieces number (many number all) ≡ all
unfolding part_pieces many
many_here number [] = refl
many_here number (bytes ∷ others) = rw (eq-eqb number number refl) (ap (λ (x : List (List ℕ)). bytes ∷ x) (many_here number others))

pub many_other : (wanted number : ℕ) (all : List (List ℕ)) → eqb number wanted ≡ false → part_pieces wanted (many number all) ≡ []
unfolding part_pieces many
many_other wanted number [] h = refl
many_other wanted number (bytes ∷ others) h = rw h (many_other wanted number others h)

-- ---- faults

-- an embedded message without a fault
abbrev pub IsSound : Numbers → MessageKind → List ℕ → Type 0
IsSound n m bytes = (length bytes < 2 ^ 64) × ((base : ℕ) → fault_within 5 n m base bytes ≡ None)

pub message_good : (n : Numbers) (m inner : MessageKind) (number : ℕ) (bytes : List ℕ) → kind_of n m number ≡ Message inner → IsSound n inner bytes → IsGood (deeper_than 6 n) (kind_of n m) (Text number bytes)
unfolding deeper_than
message_good n m inner number bytes is sound = λ place ending. rw is (sound.1 (ending - length bytes))

-- ---- a number of 128 bits

id_rows : Numbers → ℕ → Rows
id_rows n id = (field_of n field.Uint128High, id / 2 ^ 64) ∷ (field_of n field.Uint128Low, id % 2 ^ 64) ∷ []

id_is : (n : Numbers) (id : ℕ) → uint128_bytes n id ≡ rows_bytes (id_rows n id)
unfolding uint128_bytes id_rows rows_bytes
id_is n id = ap (λ (x : List ℕ). nonzero_uint_field (field_of n field.Uint128High) (id / 2 ^ 64) ++ x) (sym (append-nil (nonzero_uint_field (field_of n field.Uint128Low) (id % 2 ^ 64))))

id_fit : (n : Numbers) (id : ℕ) → IsValid n → id < 2 ^ 128 → All IsFitting (id_rows n id)
unfolding id_rows
id_fit n id valid lt =
    let high = in_range n field.Uint128High valid in
    let low = in_range n field.Uint128Low valid in
    let top : id / 2 ^ 64 < 2 ^ 64 = omega arith in
    let rest : id % 2 ^ 64 < 2 ^ 64 = omega arith in
    two_fit (field_of n field.Uint128High, id / 2 ^ 64) (field_of n field.Uint128Low, id % 2 ^ 64) (high.0, high.1, top) (low.0, low.1, rest)

pub id_read : (n : Numbers) (id : ℕ) → IsValid n → id < 2 ^ 128 → uint128_of n (uint128_bytes n id) ≡ id
unfolding id_rows
id_read n id valid lt =
    let rows = id_rows n id in
    let fit : All IsFitting rows = id_fit n id valid lt in
    let distinct : are_distinct (keys rows) ≡ true = distinct_at n valid 3 (omega arith) in
    let whole : (id / 2 ^ 64) * 2 ^ 64 + id % 2 ^ 64 ≡ id = omega arith in
    rw (id_is n id) (rw (row_read rows 0 (0, 0) distinct fit (omega arith), row_read rows 1 (0, 0) distinct fit (omega arith)) whole)

pub id_sound : (n : Numbers) (id : ℕ) → IsValid n → id < 2 ^ 128 → IsSound n message.Uint128 (uint128_bytes n id)
unfolding uint128_bytes
id_sound n id valid lt =
    let high = nonzero_uint_field (field_of n field.Uint128High) (id / 2 ^ 64) in
    let low = nonzero_uint_field (field_of n field.Uint128Low) (id % 2 ^ 64) in (
      omega (arith, length-append high low, nonzero_uint_field-len (field_of n field.Uint128High) (id / 2 ^ 64), nonzero_uint_field-len (field_of n field.Uint128Low) (id % 2 ^ 64)),
      λ base. rw (id_is n id) (no_fault_in_rows 5 n message.Uint128 base (id_rows n id) (id_fit n id valid lt)),
    )

-- ---- a message of one repeated and two other embedded messages

unfoldable pub three : ℕ → List (List ℕ) → ℕ → Option (List ℕ) → ℕ → Option (List ℕ) → List WrittenField
three a all b second c third = (many a all ++ optional b second) ++ optional c third

pub first_scanned : (a b c : ℕ) (all : List (List ℕ)) (second third : Option (List ℕ)) → eqb b a ≡ false → eqb c a ≡ false → part_pieces a (three a all b second c third) ≡ all
unfolding three
first_scanned a b c all second third h i =
    pieces-append a (many a all ++ optional b second) (optional c third)
    ∙ rw (pieces-append a (many a all) (optional b second), optional_other a c third i, optional_other a b second h, many_here a all) (append-nil (all ++ []) ∙ append-nil all)

pub second_scanned : (a b c : ℕ) (all : List (List ℕ)) (second third : Option (List ℕ)) → eqb a b ≡ false → eqb c b ≡ false → merged_onto None (part_pieces b (three a all b second c third)) ≡ second
unfolding three
second_scanned a b c all second third h i =
    let e : part_pieces b ((many a all ++ optional b second) ++ optional c third) ≡ part_pieces b (optional b second) =
    pieces-append b (many a all ++ optional b second) (optional c third)
    ∙ rw (pieces-append b (many a all) (optional b second), optional_other b c third i, many_other b a all h) (append-nil (part_pieces b (optional b second))) in
    ap (merged_onto None) e ∙ optional_here b second

pub third_scanned : (a b c : ℕ) (all : List (List ℕ)) (second third : Option (List ℕ)) → eqb a c ≡ false → eqb b c ≡ false → merged_onto None (part_pieces c (three a all b second c third)) ≡ third
unfolding three
third_scanned a b c all second third h i =
    let e : part_pieces c ((many a all ++ optional b second) ++ optional c third) ≡ part_pieces c (optional c third) =
    pieces-append c (many a all ++ optional b second) (optional c third)
    ∙ rw (pieces-append c (many a all) (optional b second), optional_other c b second i, many_other c a all h) refl in
    ap (merged_onto None) e ∙ optional_here c third

many_all : (P : WrittenField → Type 0) (number : ℕ) (all : List (List ℕ)) → All (λ bytes. P (Text number bytes)) all → All P (many number all)
unfolding many
many_all P number [] h = All-nil P
many_all P number (bytes ∷ others) h =
    All-cons P (Text number bytes) (many number others) (All-head (λ b. P (Text number b)) bytes others h) (many_all P number others (All-tail (λ b. P (Text number b)) bytes others h))

optional_all : (P : WrittenField → Type 0) (number : ℕ) (bytes : Option (List ℕ)) → IfSome bytes (λ b. P (Text number b)) → All P (optional number bytes)
unfolding optional
optional_all P number None h = All-nil P
optional_all P number (Some bytes) h = All-cons P (Text number bytes) [] h (All-nil P)

pub three_all : (P : WrittenField → Type 0) (a b c : ℕ) (all : List (List ℕ)) (second third : Option (List ℕ)) → All (λ bytes. P (Text a bytes)) all → IfSome second (λ bytes. P (Text b bytes)) → IfSome third (λ bytes. P (Text c bytes))
    → All P (three a all b second c third)
unfolding three
three_all P a b c all second third h i j =
    All-append P (many a all ++ optional b second) (optional c third) (All-append P (many a all) (optional b second) (many_all P a all h) (optional_all P b second i)) (optional_all P c third j)
