-- Trailers that were written are read again as the same status.
use Rattle.std.proofs.Common.{◌≡◌, ℕ, suc, zero, ◌+◌, ◌*◌, ◌/◌, ◌%◌, ◌^◌, ◌<◌, ◌≤◌, Bool, true, false, List, [], ◌∷◌, ◌++◌, Option, Some, None, refl, sym, ap, ◌∙◌, length, append_assoc, arith}
use Rattle.std.specs.Prelude.{◌&&◌, ◌==◌, nat_lt, if◌then◌else◌, All, unwrap_or, is_none, option_and_then}
use Rattle.std.specs.List.{list_all, last_or, cons_option}
use Rattle.std.specs.Str.{bytes_eq}
use Rattle.std.proofs.lemmas.Bool.{and_parts}
use Rattle.std.proofs.lemmas.Bool.Decides.{nat_tests}
use Rattle.std.proofs.lemmas.List.{append-nil, length-append}
use Rattle.std.proofs.lemmas.List.Elements.{All-nil, All-cons, All-head, All-tail}
use Rattle.base64.specs.GeneralPurpose.{IsBytes}
use Rattle.percent_encoding.specs.declared.ascii_set.AsciiSet.{AsciiSet}
use Rattle.percent_encoding.specs.Percent.{percent_decode}
use Rattle.percent_encoding.proofs.PercentLemmas.{round_trip}
use Rattle.proto_wire.specs.Fields.{ParsedFields, fields}
use Rattle.schema_numbers.specs.Numbers.{Numbers, field_of}
use Rattle.schema_numbers.specs.declared.names.FieldName.TheVariants.{ModifyRpcErrorDetailsReason}
use Rattle.grpc_heads.specs.declared.status.ModifyReason.{ModifyReason}
use Rattle.proto_wire.specs.Written.{varint, varint_upto, uint_field, bytes_field, WrittenField, Uint, Text, encoded_fields, field_spans, IsLegal}
use Rattle.proto_wire.proofs.Again.{fields_from-encoded_fields}
use Rattle.proto_schema.specs.FieldValues.{pieces, numbers, number_at, last_number_at, text_at}
use Rattle.grpc_heads.specs.Trailers.{code_of, only, reason_in, reason_in_any, reason_in_status, reason_numbered}
use Rattle.grpc_heads.specs.Written.{digits, escaped, uint_or_none, bytes_or_none, type_url}
use Rattle.grpc_heads.proofs.Escapes.{escapes}

-- ---- the code

abbrev is_again : ℕ → Option ℕ → Bool
is_again code None = false
is_again code (Some other) = other == code

again_is : (code : ℕ) (read : Option ℕ) → is_again code read ≡ true → read ≡ Some code
again_is code None e = cc
again_is code (Some other) e = let same : other ≡ code = grind (arith, nat_tests) in ap (λ x. Some x) same

abbrev all_below : ℕ → (ℕ → Bool) → Bool
all_below zero test = true
all_below (suc n) test = test n && all_below n test

below : (n : ℕ) (test : ℕ → Bool) → all_below n test ≡ true → (b : ℕ) → b < n → test b ≡ true
below zero test h b le = absurd (omega arith)
below (suc n) test h b le =
    let both = and_parts (test n) (all_below n test) h in
    last (nat_lt b n) refl (below n test both.1 b) both.0
  where
    last : (t : Bool) → nat_lt b n ≡ t → (b < n → test b ≡ true) → test n ≡ true → test b ≡ true
    last true e lower here = lower (grind (arith, nat_tests))
    last false e lower here = let same : b ≡ n = grind (arith, nat_tests) in ap test same ∙ here

pub code_again : (code : ℕ) → code ≤ 16 → code_of (digits code) ≡ Some code
unfolding code_of
code_again code h = again_is code (code_of (digits code)) (below 17 (λ code. is_again code (code_of (digits code))) refl code (omega arith))

-- ---- the message

abbrev set : AsciiSet
set = record { mask = 170141183460469231731687303857618026495 }

pub message_again : (message : List ℕ) → All (λ byte. byte < 256) message → percent_decode (escaped message) ≡ message
message_again message small = sym (ap percent_decode (escapes set refl message)) ∙ round_trip set message refl small

-- ---- bytes

nil_bytes : IsBytes []
nil_bytes i = omega arith

cons_bytes : (b : ℕ) (bs : List ℕ) → b < 256 → IsBytes bs → IsBytes (b ∷ bs)
cons_bytes b bs small rest zero = small
cons_bytes b bs small rest (suc i) = rest i

pub append_bytes : (xs ys : List ℕ) → IsBytes xs → IsBytes ys → IsBytes (xs ++ ys)
append_bytes [] ys a b = b
append_bytes (x ∷ xs) ys a b = cons_bytes x (xs ++ ys) (a 0) (append_bytes xs ys (λ i. a (suc i)) b)

pub all_bytes : (xs : List ℕ) → All (λ byte. byte < 256) xs → IsBytes xs
all_bytes [] h = nil_bytes
all_bytes (x ∷ xs) h = cons_bytes x xs (All-head (λ byte. byte < 256) x xs h) (all_bytes xs (All-tail (λ byte. byte < 256) x xs h))

pub test_bytes : (xs : List ℕ) → list_all (λ byte. nat_lt byte 256) xs ≡ true → IsBytes xs
test_bytes [] h = nil_bytes
test_bytes (x ∷ xs) h =
    let both = and_parts (nat_lt x 256) (list_all (λ byte. nat_lt byte 256) xs) h in
    let here : nat_lt x 256 ≡ true = both.0 in
    cons_bytes x xs (grind (arith, nat_tests)) (test_bytes xs both.1)

one_more : (n : ℕ) (rest : List ℕ) (t : Bool) → nat_lt n 128 ≡ t → IsBytes rest → IsBytes (if t then n ∷ [] else ((n % 128) + 128) ∷ rest)
one_more n rest true e h = cons_bytes n [] (grind (arith, nat_tests)) nil_bytes
one_more n rest false e h = cons_bytes ((n % 128) + 128) rest (omega arith) h

varint_bytes : (k n : ℕ) → IsBytes (varint_upto k n)
unfolding varint_upto
varint_bytes zero n = cons_bytes (n % 128) [] (omega arith) nil_bytes
varint_bytes (suc k) n = one_more n (varint_upto k (n / 128)) (nat_lt n 128) refl (varint_bytes k (n / 128))

uint_bytes : (number value : ℕ) → IsBytes (uint_field number value)
uint_bytes number value = append_bytes (varint (number * 8)) (varint value) (varint_bytes 9 (number * 8)) (varint_bytes 9 value)

pub field_bytes : (number : ℕ) (value : List ℕ) → IsBytes value → IsBytes (bytes_field number value)
field_bytes number value h =
    append_bytes (varint (number * 8 + 2) ++ varint (length value)) value
    (append_bytes (varint (number * 8 + 2)) (varint (length value)) (varint_bytes 9 (number * 8 + 2)) (varint_bytes 9 (length value))) h

none_or_bytes : (number value : ℕ) (is_zero : Bool) → IsBytes (if is_zero then [] else uint_field number value)
none_or_bytes number value true = nil_bytes
none_or_bytes number value false = uint_bytes number value

pub uint_or_none_bytes : (number value : ℕ) → IsBytes (uint_or_none number value)
uint_or_none_bytes number value = none_or_bytes number value (value == 0)

pub bytes_or_none_bytes : (number : ℕ) (value : List ℕ) → IsBytes value → IsBytes (bytes_or_none number value)
bytes_or_none_bytes number [] h = nil_bytes
bytes_or_none_bytes number (b ∷ value) h = field_bytes number (b ∷ value) h

-- ---- lengths

one_longer : (n k : ℕ) (rest : List ℕ) (t : Bool) → length rest ≤ suc k → length (if t then n ∷ [] else ((n % 128) + 128) ∷ rest) ≤ suc (suc k)
one_longer n k rest true h = omega arith
one_longer n k rest false h = omega arith

pub varint_length : (k n : ℕ) → length (varint_upto k n) ≤ suc k
unfolding varint_upto
varint_length zero n = omega arith
varint_length (suc k) n = one_longer n k (varint_upto k (n / 128)) (nat_lt n 128) (varint_length k (n / 128))

none_or_length : (number value : ℕ) (is_zero : Bool) → length (if is_zero then [] else uint_field number value) ≤ 20
none_or_length number value true = omega arith
none_or_length number value false =
    omega (arith, length-append (varint (number * 8)) (varint value), varint_length 9 (number * 8), varint_length 9 value)

pub uint_length : (number value : ℕ) → length (uint_or_none number value) ≤ 20
uint_length number value = none_or_length number value (value == 0)

pub field_length : (number : ℕ) (value : List ℕ) → length (bytes_or_none number value) ≤ 20 + length value
field_length number [] = omega arith
field_length number (b ∷ value) =
    omega (arith, length-append (varint (number * 8 + 2) ++ varint (length (b ∷ value))) (b ∷ value), length-append (varint (number * 8 + 2)) (varint (length (b ∷ value))), varint_length 9 (number * 8 + 2), varint_length 9 (length (b ∷ value)))

-- ---- the details

abbrev pub uint_part : ℕ → ℕ → Bool → List WrittenField
uint_part number value true = []
uint_part number value false = Uint number value ∷ []

abbrev pub text_part : ℕ → List ℕ → List WrittenField
text_part number [] = []
text_part number (b ∷ bytes) = Text number (b ∷ bytes) ∷ []

abbrev status_parts : ℕ → List ℕ → List ℕ → Bool → List WrittenField
status_parts code message any is_zero = uint_part 1 code is_zero ++ (text_part 2 message ++ Text 3 any ∷ [])

status_spelled : (code : ℕ) (message any : List ℕ) (is_zero : Bool) → (if is_zero then [] else uint_field 1 code) ++ bytes_or_none 2 message ++ bytes_field 3 any ≡ encoded_fields (status_parts code message any is_zero)
status_spelled code [] any true = sym (append-nil (bytes_field 3 any))
status_spelled code [] any false =
    append_assoc (uint_field 1 code) [] (bytes_field 3 any) ∙ ap (λ rest. uint_field 1 code ++ rest) (sym (append-nil (bytes_field 3 any)))
status_spelled code (b ∷ message) any true = ap (λ rest. bytes_field 2 (b ∷ message) ++ rest) (sym (append-nil (bytes_field 3 any)))
status_spelled code (b ∷ message) any false =
    append_assoc (uint_field 1 code) (bytes_field 2 (b ∷ message)) (bytes_field 3 any)
    ∙ ap (λ rest. uint_field 1 code ++ (bytes_field 2 (b ∷ message) ++ rest)) (sym (append-nil (bytes_field 3 any)))

uint_legal : (number value : ℕ) (is_zero : Bool) (rest : List WrittenField) → 1 ≤ number → number < 2 ^ 29 → value < 2 ^ 64 → All IsLegal rest → All IsLegal (uint_part number value is_zero ++ rest)
uint_legal number value true rest low high fits h = h
uint_legal number value false rest low high fits h = All-cons IsLegal (Uint number value) rest (low, high, fits) h

text_legal : (number : ℕ) (bytes : List ℕ) (rest : List WrittenField) → 1 ≤ number → number < 2 ^ 29 → length bytes < 2 ^ 64 → All IsLegal rest → All IsLegal (text_part number bytes ++ rest)
text_legal number [] rest low high fits h = h
text_legal number (b ∷ bytes) rest low high fits h = All-cons IsLegal (Text number (b ∷ bytes)) rest (low, high, fits) h

abbrev read_as : List WrittenField → ParsedFields
read_as parts = record { fields = field_spans 0 parts; fault = None }

status_read : (code : ℕ) (message any : List ℕ) (is_zero : Bool) → code < 2 ^ 64 → length message < 2 ^ 64 → length any < 2 ^ 64 → fields ((if is_zero then [] else uint_field 1 code) ++ bytes_or_none 2 message ++ bytes_field 3 any) ≡ read_as (status_parts code message any is_zero)
status_read code message any is_zero a b c =
    ap fields (status_spelled code message any is_zero)
    ∙ fields_from-encoded_fields 0 (status_parts code message any is_zero)
    (uint_legal 1 code is_zero (text_part 2 message ++ Text 3 any ∷ []) (omega arith) (omega arith) a
    (text_legal 2 message (Text 3 any ∷ []) (omega arith) (omega arith) b
    (All-cons IsLegal (Text 3 any) [] (omega arith, omega arith, c) (All-nil IsLegal))))

one_detail : (code : ℕ) (message any : List ℕ) (is_zero : Bool) → pieces 3 (field_spans 0 (status_parts code message any is_zero)) ≡ any ∷ []
one_detail code [] any true = refl
one_detail code [] any false = refl
one_detail code (b ∷ message) any true = refl
one_detail code (b ∷ message) any false = refl

abbrev status_cut : Numbers → ParsedFields → Option ModifyReason
status_cut n cut = if is_none cut.fault then option_and_then (reason_in_any n) (only (pieces 3 cut.fields)) else None

pub status_again : (n : Numbers) (code : ℕ) (message any : List ℕ) (is_zero : Bool) → code < 2 ^ 64 → length message < 2 ^ 64 → length any < 2 ^ 64 → reason_in_status n ((if is_zero then [] else uint_field 1 code) ++ bytes_or_none 2 message ++ bytes_field 3 any) ≡ reason_in_any n any
status_again n code message any is_zero a b c =
    ap (status_cut n) (status_read code message any is_zero a b c)
    ∙ ap (λ found. option_and_then (reason_in_any n) (only found)) (one_detail code message any is_zero)

any_spelled : (value : List ℕ) → bytes_field 1 type_url ++ bytes_or_none 2 value ≡ encoded_fields (Text 1 type_url ∷ (text_part 2 value ++ []))
any_spelled [] = refl
any_spelled (b ∷ value) = ap (λ rest. bytes_field 1 type_url ++ rest) (sym (append-nil (bytes_field 2 (b ∷ value))))

any_read : (value : List ℕ) → length value < 2 ^ 64 → fields (bytes_field 1 type_url ++ bytes_or_none 2 value) ≡ read_as (Text 1 type_url ∷ (text_part 2 value ++ []))
any_read value fits =
    ap fields (any_spelled value)
    ∙ fields_from-encoded_fields 0 (Text 1 type_url ∷ (text_part 2 value ++ []))
    (All-cons IsLegal (Text 1 type_url) (text_part 2 value ++ []) (omega arith, omega arith, omega arith)
    (text_legal 2 value [] (omega arith) (omega arith) fits (All-nil IsLegal)))

abbrev any_cut : Numbers → ParsedFields → Option ModifyReason
any_cut n cut =
    if is_none cut.fault && bytes_eq (unwrap_or (last_or None (pieces 1 cut.fields)) []) type_url
    then reason_in n (unwrap_or (last_or None (pieces 2 cut.fields)) []) else None

any_found : (n : Numbers) (value : List ℕ) → any_cut n (read_as (Text 1 type_url ∷ (text_part 2 value ++ []))) ≡ reason_in n value
any_found n [] = refl
any_found n (b ∷ value) = refl

pub any_again : (n : Numbers) (value : List ℕ) → length value < 2 ^ 64 → reason_in_any n (bytes_field 1 type_url ++ bytes_or_none 2 value) ≡ reason_in n value
unfolding text_at
any_again n value fits = ap (any_cut n) (any_read value fits) ∙ any_found n value

uint_spelled : (number value : ℕ) (is_zero : Bool) → (if is_zero then [] else uint_field number value) ≡ encoded_fields (uint_part number value is_zero ++ [])
uint_spelled number value true = refl
uint_spelled number value false = sym (append-nil (uint_field number value))

uint_read : (number value : ℕ) (is_zero : Bool) → 1 ≤ number → number < 2 ^ 29 → value < 2 ^ 64 → fields (if is_zero then [] else uint_field number value) ≡ read_as (uint_part number value is_zero ++ [])
uint_read number value is_zero low high fits =
    ap fields (uint_spelled number value is_zero)
    ∙ fields_from-encoded_fields 0 (uint_part number value is_zero ++ []) (uint_legal number value is_zero [] low high fits (All-nil IsLegal))

pub itself : (number : ℕ) → (number == number) ≡ true
itself number = grind (arith, nat_tests)

abbrev number_cut : ℕ → ParsedFields → ℕ
number_cut number cut = unwrap_or (last_or None (numbers number cut.fields)) 0

number_found : (number value : ℕ) (is_zero : Bool) → (value == 0) ≡ is_zero → number_cut number (read_as (uint_part number value is_zero ++ [])) ≡ value
number_found number value true e = grind (arith, nat_tests)
number_found number value false e = ap (λ same. unwrap_or (last_or None (cons_option (if same then Some value else None) [])) 0) (itself number)

pub reason_read : (n : Numbers) (number value : ℕ) → number ≡ field_of n ModifyRpcErrorDetailsReason → 1 ≤ number → number < 2 ^ 29 → value < 2 ^ 64 → reason_in n (uint_or_none number value) ≡ reason_numbered n value
unfolding number_at last_number_at
reason_read n number value is low high fits =
    let cut : fields (uint_or_none number value) ≡ read_as (uint_part number value (value == 0) ++ []) = uint_read number value (value == 0) low high fits in
    ap (λ other. if is_none (fields (uint_or_none number value)).fault then reason_numbered n (number_cut other (fields (uint_or_none number value))) else None) (sym is)
    ∙ ap (λ cut. if is_none cut.fault then reason_numbered n (number_cut number cut) else None) cut
    ∙ ap (reason_numbered n) (number_found number value (value == 0) refl)
