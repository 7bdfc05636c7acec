-- Messages of written fields, read again.
use Rattle.std.proofs.Common.{◌≡◌, ℕ, zero, suc, ◌+◌, ◌<◌, ◌≤◌, ◌^◌, Bool, true, false, cond, eqb, List, [], ◌∷◌, ◌++◌, length, get_or, map, None, unwrap_or, refl, sym, ap, ◌∙◌, arith}
use Rattle.std.specs.Prelude.{All, not}
use Rattle.std.specs.List.{filter_map, cons_option, last_or, list_any}
use Rattle.std.proofs.lemmas.Bool.{eqb-true, eq-eqb, eqb-false, ne_eqb, and_parts}
use Rattle.std.proofs.lemmas.Grind.{flat_map-append}
use Rattle.std.proofs.lemmas.List.{append-nil}
use Rattle.std.proofs.lemmas.List.Concat.{flat_map-cons}
use Rattle.std.proofs.lemmas.List.Elements.{All-nil, All-cons, All-head, All-tail, All-append, filter_map-append}
use Rattle.proto_wire.specs.Wire.{Value, Varint, Bytes}
use Rattle.proto_wire.specs.Fields.{ParsedFields, fields, fields_from}
use Rattle.proto_wire.specs.Written.{uint_field, bytes_field, WrittenField, Uint, Text, field_encoding, encoded_fields, IsLegal, field_spans}
use Rattle.proto_wire.proofs.Again.{fields_from-encoded_fields}
use Rattle.schema_numbers.specs.Numbers.{Numbers, field_of}
use Rattle.schema_numbers.specs.declared.names.FieldName.{FieldName}
use Rattle.schema_numbers.specs.declared.names.FieldName.TheVariants as field
use Rattle.schema_numbers.specs.Places.{field_place}
use Rattle.schema_numbers.specs.Valid.{IsValid, is_field_number, are_distinct}
use Rattle.schema_numbers.proofs.Ranges.{passes, field_number}
use Rattle.proto_schema.specs.declared.schema.MessageKind.{MessageKind}
use Rattle.proto_schema.specs.declared.schema.FieldKind.{FieldKind}
use Rattle.proto_schema.specs.Schema.{kind_of}
use Rattle.proto_schema.specs.Legal.{NestedCheck, fault_of_value, fault_of_fields, fault_of_parsed, fault_within, deeper_than}
use Rattle.proto_schema.proofs.Faults.{fault_within-is}
use Rattle.proto_schema.specs.FieldValues.{number_in, numbers, piece_in, pieces, member_in, members, last_number_at, number_at}
use Rattle.aft_messages.specs.Writing.{nonzero_uint_field}
use Rattle.gribi_messages.proofs.Schemas.{not_true, or_no}

-- the number and the value that a part is written with
abbrev pub number_of : WrittenField → ℕ
number_of (Uint number value) = number
number_of (Text number bytes) = number

abbrev pub value_in : WrittenField → Value
value_in (Uint number value) = Varint value
value_in (Text number bytes) = Bytes bytes

-- ---- parts

abbrev pub number_part : ℕ → ℕ → List WrittenField
number_part number value = cond (eqb value 0) [] (Uint number value ∷ [])

pub one_spelled : (part : WrittenField) → field_encoding part ≡ encoded_fields (part ∷ [])
one_spelled part = sym (flat_map-cons field_encoding part [] ∙ append-nil (field_encoding part))

pub number_spelled : (number value : ℕ) → nonzero_uint_field number value ≡ encoded_fields (number_part number value)
unfolding nonzero_uint_field
number_spelled number value = by (eqb value 0)
  where
    by : (b : Bool) → cond b [] (uint_field number value) ≡ encoded_fields (cond b [] (Uint number value ∷ []))
    by true = refl
    by false = one_spelled (Uint number value)

pub encoded_fields-append : (xs ys : List WrittenField) → encoded_fields (xs ++ ys) ≡ encoded_fields xs ++ encoded_fields ys
encoded_fields-append xs ys = flat_map-append field_encoding xs ys

-- ---- what is heard of parts

unfoldable pub part_numbers : ℕ → List WrittenField → List ℕ
part_numbers wanted parts = filter_map (λ p. number_in wanted (number_of p) (value_in p)) parts

unfoldable pub part_pieces : ℕ → List WrittenField → List (List ℕ)
part_pieces wanted parts = filter_map (λ p. piece_in wanted (number_of p) (value_in p)) parts

unfoldable pub part_members : List ℕ → List WrittenField → List (ℕ × List ℕ)
part_members among parts = filter_map (λ p. member_in among (number_of p) (value_in p)) parts

pub numbers-field_spans : (wanted place : ℕ) (parts : List WrittenField) → numbers wanted (field_spans place parts) ≡ part_numbers wanted parts
unfolding part_numbers
numbers-field_spans wanted place [] = refl
numbers-field_spans wanted place (Uint number value ∷ parts) = ap (cons_option (number_in wanted number (Varint value))) (numbers-field_spans wanted (place + length (uint_field number value)) parts)
numbers-field_spans wanted place (Text number bytes ∷ parts) = ap (cons_option (number_in wanted number (Bytes bytes))) (numbers-field_spans wanted (place + length (bytes_field number bytes)) parts)

pub pieces-field_spans : (wanted place : ℕ) (parts : List WrittenField) → pieces wanted (field_spans place parts) ≡ part_pieces wanted parts
unfolding part_pieces
pieces-field_spans wanted place [] = refl
pieces-field_spans wanted place (Uint number value ∷ parts) = ap (cons_option (piece_in wanted number (Varint value))) (pieces-field_spans wanted (place + length (uint_field number value)) parts)
pieces-field_spans wanted place (Text number bytes ∷ parts) = ap (cons_option (piece_in wanted number (Bytes bytes))) (pieces-field_spans wanted (place + length (bytes_field number bytes)) parts)

pub members-field_spans : (among : List ℕ) (place : ℕ) (parts : List WrittenField) → members among (field_spans place parts) ≡ part_members among parts
unfolding part_members
members-field_spans among place [] = refl
members-field_spans among place (Uint number value ∷ parts) = ap (cons_option (member_in among number (Varint value))) (members-field_spans among (place + length (uint_field number value)) parts)
members-field_spans among place (Text number bytes ∷ parts) = ap (cons_option (member_in among number (Bytes bytes))) (members-field_spans among (place + length (bytes_field number bytes)) parts)

pub numbers-append : (wanted : ℕ) (xs ys : List WrittenField) → part_numbers wanted (xs ++ ys) ≡ part_numbers wanted xs ++ part_numbers wanted ys
unfolding part_numbers
numbers-append wanted xs ys = filter_map-append (λ p. number_in wanted (number_of p) (value_in p)) xs ys

-- a number that is 0 is left out
pub one_number : (number value : ℕ) → part_numbers number (number_part number value) ≡ cond (eqb value 0) [] (value ∷ [])
unfolding part_numbers
one_number number value = by (eqb value 0)
  where
    by : (b : Bool) → filter_map (λ p. number_in number (number_of p) (value_in p)) (cond b [] (Uint number value ∷ [])) ≡ cond b [] (value ∷ [])
    by true = refl
    by false = rw (eq-eqb number number refl) refl

other_number : (wanted number value : ℕ) → eqb number wanted ≡ false → part_numbers wanted (number_part number value) ≡ []
unfolding part_numbers
other_number wanted number value other = by (eqb value 0)
  where
    by : (b : Bool) → filter_map (λ p. number_in wanted (number_of p) (value_in p)) (cond b [] (Uint number value ∷ [])) ≡ []
    by true = refl
    by false = rw other refl

pub read_number : (value : ℕ) → unwrap_or (last_or None (cond (eqb value 0) [] (value ∷ []))) 0 ≡ value
read_number value = by (eqb value 0) refl
  where
    by : (b : Bool) → eqb value 0 ≡ b → unwrap_or (last_or None (cond b [] (value ∷ []))) 0 ≡ value
    by true e = sym (eqb-true value 0 e)
    by false e = refl

-- ---- messages of numbers

-- numbers and their values
abbrev pub Rows : Type 0
Rows = List (ℕ × ℕ)

abbrev pub keys : Rows → List ℕ
keys rows = map (λ r. r.0) rows

unfoldable pub rows_bytes : Rows → List ℕ
rows_bytes [] = []
rows_bytes (r ∷ rows) = nonzero_uint_field r.0 r.1 ++ rows_bytes rows

pub rows_parts : Rows → List WrittenField
rows_parts [] = []
rows_parts (r ∷ rows) = number_part r.0 r.1 ++ rows_parts rows

pub rows_spelled : (rows : Rows) → rows_bytes rows ≡ encoded_fields (rows_parts rows)
unfolding rows_bytes rows_parts
rows_spelled [] = refl
rows_spelled (r ∷ rows) = rw (number_spelled r.0 r.1, rows_spelled rows) (sym (encoded_fields-append (number_part r.0 r.1) (rows_parts rows)))

-- the field's number is one, and the value has at most 64 bits
abbrev pub IsFitting : (ℕ × ℕ) → Type 0
IsFitting r = (1 ≤ r.0) × (r.0 < 2 ^ 29) × (r.1 < 2 ^ 64)

pub one_fit : (a : ℕ × ℕ) → IsFitting a → All IsFitting (a ∷ [])
one_fit a h = All-cons IsFitting a [] h (All-nil IsFitting)

pub two_fit : (a b : ℕ × ℕ) → IsFitting a → IsFitting b → All IsFitting (a ∷ b ∷ [])
two_fit a b h i = All-cons IsFitting a (b ∷ []) h (one_fit b i)

pub four_fit : (a b c d : ℕ × ℕ) → IsFitting a → IsFitting b → IsFitting c → IsFitting d → All IsFitting (a ∷ b ∷ c ∷ d ∷ [])
four_fit a b c d h i j k = All-cons IsFitting a (b ∷ c ∷ d ∷ []) h (All-cons IsFitting b (c ∷ d ∷ []) i (two_fit c d j k))

pub number_legal : (r : ℕ × ℕ) → IsFitting r → All IsLegal (number_part r.0 r.1)
number_legal r h = by (eqb r.1 0)
  where
    by : (b : Bool) → All IsLegal (cond b [] (Uint r.0 r.1 ∷ []))
    by true = All-nil IsLegal
    by false = All-cons IsLegal (Uint r.0 r.1) [] h (All-nil IsLegal)

pub rows_legal : (rows : Rows) → All IsFitting rows → All IsLegal (rows_parts rows)
unfolding rows_parts
rows_legal [] h = All-nil IsLegal
rows_legal (r ∷ rows) h =
    All-append IsLegal (number_part r.0 r.1) (rows_parts rows) (number_legal r (All-head IsFitting r rows h)) (rows_legal rows (All-tail IsFitting r rows h))

absent : (wanted : ℕ) (rows : Rows) → list_any (λ m. eqb m wanted) (keys rows) ≡ false → part_numbers wanted (rows_parts rows) ≡ []
unfolding rows_parts part_numbers
absent wanted [] h = refl
absent wanted (r ∷ rows) h =
    let parts = or_no (eqb r.0 wanted) (list_any (λ m. eqb m wanted) (keys rows)) h in
    numbers-append wanted (number_part r.0 r.1) (rows_parts rows) ∙ rw (other_number wanted r.0 r.1 parts.0, absent wanted rows parts.1) refl

pub turned : (a b : ℕ) → eqb a b ≡ false → eqb b a ≡ false
turned a b h = ne_eqb b a (λ e. eqb-false a b h (sym e))

here : (rows : Rows) (i : ℕ) (d : ℕ × ℕ) (wanted : ℕ) → list_any (λ m. eqb m wanted) (keys rows) ≡ false → i < length rows → eqb (get_or rows i d).0 wanted ≡ false
here [] i d wanted h lt = absurd (omega arith)
here (r ∷ rows) zero d wanted h lt = (or_no (eqb r.0 wanted) (list_any (λ m. eqb m wanted) (keys rows)) h).0
here (r ∷ rows) (suc i) d wanted h lt = here rows i d wanted (or_no (eqb r.0 wanted) (list_any (λ m. eqb m wanted) (keys rows)) h).1 (omega arith)

scanned_of : (rows : Rows) (i : ℕ) (d : ℕ × ℕ) → are_distinct (keys rows) ≡ true → i < length rows
    → part_numbers (get_or rows i d).0 (rows_parts rows) ≡ cond (eqb (get_or rows i d).1 0) [] ((get_or rows i d).1 ∷ [])
unfolding rows_parts
scanned_of [] i d h lt = absurd (omega arith)
scanned_of (r ∷ rows) zero d h lt =
    let parts = and_parts (not (list_any (λ m. eqb m r.0) (keys rows))) (are_distinct (keys rows)) h in
    numbers-append r.0 (number_part r.0 r.1) (rows_parts rows)
    ∙ rw (one_number r.0 r.1, absent r.0 rows (not_true (list_any (λ m. eqb m r.0) (keys rows)) parts.0)) (append-nil (cond (eqb r.1 0) [] (r.1 ∷ [])))
scanned_of (r ∷ rows) (suc i) d h lt =
    let parts = and_parts (not (list_any (λ m. eqb m r.0) (keys rows))) (are_distinct (keys rows)) h in
    let low : i < length rows = omega arith in
    let apart : eqb (get_or rows i d).0 r.0 ≡ false = here rows i d r.0 (not_true (list_any (λ m. eqb m r.0) (keys rows)) parts.0) low in
    numbers-append (get_or rows i d).0 (number_part r.0 r.1) (rows_parts rows)
    ∙ rw (other_number (get_or rows i d).0 r.0 r.1 (turned (get_or rows i d).0 r.0 apart)) (scanned_of rows i d parts.1 low)

-- a message that has one spelling, cut into its fields
pub cut_of : (place : ℕ) (parts : List WrittenField) (bytes : List ℕ) → bytes ≡ encoded_fields parts → All IsLegal parts → fields_from place bytes ≡ record { fields = field_spans place parts; fault = None }
cut_of place parts bytes is legal = ap (fields_from place) is ∙ fields_from-encoded_fields place parts legal

-- the numbers of a message are read again
pub row_read : (rows : Rows) (i : ℕ) (d : ℕ × ℕ) → are_distinct (keys rows) ≡ true → All IsFitting rows → i < length rows → number_at (get_or rows i d).0 (rows_bytes rows) ≡ (get_or rows i d).1
unfolding number_at last_number_at
row_read rows i d distinct fits lt =
    let wanted = (get_or rows i d).0 in
    let cut = cut_of 0 (rows_parts rows) (rows_bytes rows) (rows_spelled rows) (rows_legal rows fits) in
    let scanned : numbers wanted (fields (rows_bytes rows)).fields ≡ cond (eqb (get_or rows i d).1 0) [] ((get_or rows i d).1 ∷ []) =
    ap (λ (c : ParsedFields). numbers wanted c.fields) cut ∙ numbers-field_spans wanted 0 (rows_parts rows) ∙ scanned_of rows i d distinct lt in
    ap (λ (xs : List ℕ). unwrap_or (last_or None xs) 0) scanned ∙ read_number (get_or rows i d).1

-- ---- faults

-- a part in which no fault is found
abbrev pub IsGood : NestedCheck → (ℕ → FieldKind) → WrittenField → Type 0
IsGood deeper kinds part = (place ending : ℕ) → fault_of_value deeper (kinds (number_of part)) place ending (value_in part) ≡ None

pub good_spots : (deeper : NestedCheck) (kinds : ℕ → FieldKind) (place : ℕ) (parts : List WrittenField) → All (IsGood deeper kinds) parts → fault_of_fields deeper kinds (field_spans place parts) None ≡ None
good_spots deeper kinds place [] h = refl
good_spots deeper kinds place (Uint number value ∷ parts) h =
    good_spots deeper kinds (place + length (uint_field number value)) parts (All-tail (IsGood deeper kinds) (Uint number value) parts h)
good_spots deeper kinds place (Text number bytes ∷ parts) h =
    rw (All-head (IsGood deeper kinds) (Text number bytes) parts h place (place + length (bytes_field number bytes)))
    (good_spots deeper kinds (place + length (bytes_field number bytes)) parts (All-tail (IsGood deeper kinds) (Text number bytes) parts h))

pub number_good : (deeper : NestedCheck) (kinds : ℕ → FieldKind) (number value : ℕ) → All (IsGood deeper kinds) (number_part number value)
number_good deeper kinds number value = by (eqb value 0)
  where
    by : (b : Bool) → All (IsGood deeper kinds) (cond b [] (Uint number value ∷ []))
    by true = All-nil (IsGood deeper kinds)
    by false = All-cons (IsGood deeper kinds) (Uint number value) [] (λ place ending. refl) (All-nil (IsGood deeper kinds))

rows_good : (deeper : NestedCheck) (kinds : ℕ → FieldKind) (rows : Rows) → All (IsGood deeper kinds) (rows_parts rows)
unfolding rows_parts
rows_good deeper kinds [] = All-nil (IsGood deeper kinds)
rows_good deeper kinds (r ∷ rows) = All-append (IsGood deeper kinds) (number_part r.0 r.1) (rows_parts rows) (number_good deeper kinds r.0 r.1) (rows_good deeper kinds rows)

-- a message of good parts has no fault, wherever it stands
pub no_fault : (depth : ℕ) (n : Numbers) (m : MessageKind) (base : ℕ) (parts : List WrittenField) (bytes : List ℕ) → bytes ≡ encoded_fields parts → All IsLegal parts
    → All (IsGood (deeper_than depth n) (kind_of n m)) parts → fault_within depth n m base bytes ≡ None
no_fault depth n m base parts bytes is legal good =
    fault_within-is depth n m base bytes ∙ ap (fault_of_parsed (deeper_than depth n) (kind_of n m)) (cut_of base parts bytes is legal)
    ∙ good_spots (deeper_than depth n) (kind_of n m) base parts good

-- a message of numbers has none
pub no_fault_in_rows : (depth : ℕ) (n : Numbers) (m : MessageKind) (base : ℕ) (rows : Rows) → All IsFitting rows → fault_within depth n m base (rows_bytes rows) ≡ None
no_fault_in_rows depth n m base rows fits =
    no_fault depth n m base (rows_parts rows) (rows_bytes rows) (rows_spelled rows) (rows_legal rows fits) (rows_good (deeper_than depth n) (kind_of n m) rows)

-- ---- numberings

place_within : (name : FieldName) → field_place name < 77
place_within field.ModifyRequestOperation = omega arith
place_within field.ModifyRequestParams = omega arith
place_within field.ModifyRequestElectionId = omega arith
place_within field.AftOperationId = omega arith
place_within field.AftOperationNetworkInstance = omega arith
place_within field.AftOperationOp = omega arith
place_within field.AftOperationIpv4 = omega arith
place_within field.AftOperationIpv6 = omega arith
place_within field.AftOperationMpls = omega arith
place_within field.AftOperationNextHopGroup = omega arith
place_within field.AftOperationNextHop = omega arith
place_within field.AftOperationMacAddress = omega arith
place_within field.AftOperationPolicyForwardingEntry = omega arith
place_within field.AftOperationElectionId = omega arith
place_within field.SessionParametersRedundancy = omega arith
place_within field.SessionParametersPersistence = omega arith
place_within field.SessionParametersAckType = omega arith
place_within field.Uint128High = omega arith
place_within field.Uint128Low = omega arith
place_within field.ModifyResponseResult = omega arith
place_within field.ModifyResponseSessionParamsResult = omega arith
place_within field.ModifyResponseElectionId = omega arith
place_within field.AftResultId = omega arith
place_within field.AftResultStatus = omega arith
place_within field.AftResultTimestamp = omega arith
place_within field.AftResultReason = omega arith
place_within field.SessionParametersResultStatus = omega arith
place_within field.GetRequestName = omega arith
place_within field.GetRequestAll = omega arith
place_within field.GetRequestAft = omega arith
place_within field.GetResponseEntry = omega arith
place_within field.AftEntryNetworkInstance = omega arith
place_within field.AftEntryIpv4 = omega arith
place_within field.AftEntryIpv6 = omega arith
place_within field.AftEntryMpls = omega arith
place_within field.AftEntryNextHopGroup = omega arith
place_within field.AftEntryNextHop = omega arith
place_within field.AftEntryRibStatus = omega arith
place_within field.AftEntryFibStatus = omega arith
place_within field.FlushRequestId = omega arith
place_within field.FlushRequestOverride = omega arith
place_within field.FlushRequestName = omega arith
place_within field.FlushRequestAll = omega arith
place_within field.FlushResponseTimestamp = omega arith
place_within field.FlushResponseResult = omega arith
place_within field.ModifyRpcErrorDetailsReason = omega arith
place_within field.Ipv4EntryKeyPrefix = omega arith
place_within field.Ipv4EntryKeyEntry = omega arith
place_within field.Ipv6EntryKeyPrefix = omega arith
place_within field.Ipv6EntryKeyEntry = omega arith
place_within field.LabelEntryKeyLabelUint64 = omega arith
place_within field.LabelEntryKeyLabelEntry = omega arith
place_within field.Ipv4LeavesNextHopGroup = omega arith
place_within field.Ipv4LeavesNextHopGroupNetworkInstance = omega arith
place_within field.Ipv6LeavesNextHopGroup = omega arith
place_within field.Ipv6LeavesNextHopGroupNetworkInstance = omega arith
place_within field.LabelLeavesNextHopGroup = omega arith
place_within field.LabelLeavesNextHopGroupNetworkInstance = omega arith
place_within field.NextHopGroupKeyId = omega arith
place_within field.NextHopGroupKeyNextHopGroup = omega arith
place_within field.NextHopGroupNextHop = omega arith
place_within field.NextHopGroupBackupNextHopGroup = omega arith
place_within field.MemberKeyIndex = omega arith
place_within field.MemberKeyNextHop = omega arith
place_within field.MemberLeavesWeight = omega arith
place_within field.NextHopKeyIndex = omega arith
place_within field.NextHopKeyNextHop = omega arith
place_within field.NextHopIpAddress = omega arith
place_within field.NextHopMacAddress = omega arith
place_within field.NextHopInterfaceRef = omega arith
place_within field.NextHopIpInIp = omega arith
place_within field.NextHopPushedMplsLabelStack = omega arith
place_within field.InterfaceRefInterface = omega arith
place_within field.InterfaceRefSubinterface = omega arith
place_within field.IpInIpSrcIp = omega arith
place_within field.IpInIpDstIp = omega arith
place_within field.PushedLabelLabelUint64 = omega arith

-- the number of a field is one
pub in_range : (n : Numbers) (name : FieldName) → IsValid n → (1 ≤ field_of n name) × (field_of n name < 2 ^ 29)
unfolding field_of
in_range n name valid = field_number (field_of n name) (passes is_field_number n.fields (field_place name) 0 valid.fields_in_range (omega (arith, valid.each_field, place_within name)))
