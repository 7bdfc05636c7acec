-- The fields of a response with trailers behind them, in one block, are a well-formed head.
use Rattle.std.proofs.Common.{◌≡◌, ℕ, suc, ◌+◌, ◌/◌, ◌%◌, ◌*◌, ◌<◌, ◌≤◌, Bool, true, false, ◌&&◌, ◌||◌, List, [], ◌∷◌, ◌++◌, Option, Some, None, refl, ap, ◌∙◌, slice_index, All, codes, arith}
use Rattle.std.specs.Prelude.{◌==◌, not, nat_le, nat_lt, if◌then◌else◌}
use Rattle.std.specs.List.{list_all, list_any}
use Rattle.std.proofs.lemmas.Bool.Decides.{nat_tests}
use Rattle.std.proofs.lemmas.List.{append-nil}
use Rattle.std.proofs.lemmas.List.Folds.{list_all-append, list_any-append}
use Rattle.std.specs.Fmt.{digit_glyph}
use Rattle.base64.specs.Engines.{standard_no_pad_indifferent}
use Rattle.base64.specs.GeneralPurpose.{IsBytes, encode_of}
use Rattle.base64.specs.Rfc4648.{encode_group, encode_symbols}
use Rattle.base64.proofs.Tables.{all_below_at}
use Rattle.percent_encoding.specs.Percent.{percent_encode_byte}
use Rattle.http_header.specs.Token.{is_token_byte, is_value_byte}
use Rattle.hpack_tables.specs.declared.field.Field.{Field}
use Rattle.hpack_tables.specs.Malformed.{has_late_pseudo, is_bad_field, is_malformed_response, times}
use Rattle.schema_numbers.specs.Numbers.{Numbers, field_of, value_of}
use Rattle.schema_numbers.specs.declared.names.FieldName.TheVariants.{ModifyRpcErrorDetailsReason}
use Rattle.grpc_heads.specs.declared.status.ModifyReason.{ModifyReason}
use Rattle.grpc_heads.specs.GrpcStatus.{GrpcStatus}
use Rattle.grpc_heads.specs.Written.{any_bytes, bytes_or_none, details, digits, escaped, field, is_escaped, message_fields, reason_bytes, reason_fields, reason_name, response_fields, trailer_fields, type_url, uint_or_none}
use Rattle.grpc_heads.proofs.Again.{all_bytes, append_bytes, bytes_or_none_bytes, field_bytes, test_bytes, uint_or_none_bytes}
use Rattle.proto_wire.specs.Written.{bytes_field}
use Rattle.h2_exchange.proofs.Places.{or_parts}

-- ---- bytes of a value

middle : (x y z : Bool) → y ≡ true → z ≡ false → (x || (y && not z)) ≡ true
middle true y z p q = refl
middle false true false p q = refl
middle false false z p q = absurd cc
middle false true true p q = absurd cc

visible : (b : ℕ) → 32 ≤ b → b < 127 → is_value_byte b ≡ true
visible b low high = middle (b == 9) (nat_le 32 b) (b == 127) (grind (arith, nat_tests)) (grind (arith, nat_tests))

both : (a b : Bool) → a ≡ true → b ≡ true → (a && b) ≡ true
both true b p q = q
both false b p q = absurd cc

alone : (a : Bool) → a ≡ true → (a && true) ≡ true
alone a e = both a true e refl

-- ---- a code in digits

digits_pass : (code : ℕ) → code ≤ 16 → list_all is_value_byte (digits code) ≡ true
digits_pass code low = all_below_at (λ (n : ℕ). list_all is_value_byte (digits n)) 17 code refl (omega (arith, low))

-- ---- a message with its escapes

glyph_pass : (d : ℕ) → d < 16 → is_value_byte (digit_glyph true d) ≡ true
glyph_pass d low = all_below_at (λ (n : ℕ). is_value_byte (digit_glyph true n)) 16 d refl low

escape_pass : (b : ℕ) → list_all is_value_byte (percent_encode_byte b) ≡ true
unfolding percent_encode_byte
escape_pass b =
    both (is_value_byte (digit_glyph true (b / 16 % 16))) (is_value_byte (digit_glyph true (b % 16)) && true) (glyph_pass (b / 16 % 16) (omega arith))
    (alone (is_value_byte (digit_glyph true (b % 16))) (glyph_pass (b % 16) (omega arith)))

kept_pass : (b : ℕ) → is_escaped b ≡ false → is_value_byte b ≡ true
kept_pass b e =
    let ends = or_parts (nat_lt b 32) (nat_lt 126 b) (or_parts (nat_lt b 32 || nat_lt 126 b) (b == 37) e).0 in
    let low : nat_lt b 32 ≡ false = ends.0 in
    let high : nat_lt 126 b ≡ false = ends.1 in
    visible b (grind (arith, nat_tests)) (grind (arith, nat_tests))

escaped_pass : (message : List ℕ) → list_all is_value_byte (escaped message) ≡ true
unfolding escaped
escaped_pass [] = refl
escaped_pass (b ∷ message) =
    let here : List ℕ = if is_escaped b then percent_encode_byte b else b ∷ [] in
    list_all-append is_value_byte here (escaped message)
    ∙ both (list_all is_value_byte here) (list_all is_value_byte (escaped message)) (one (is_escaped b) refl) (escaped_pass message)
  where
    one : (t : Bool) → is_escaped b ≡ t → list_all is_value_byte (if t then percent_encode_byte b else b ∷ []) ≡ true
    one true e = escape_pass b
    one false e = alone (is_value_byte b) (kept_pass b e)

-- ---- base64

symbol_pass : (i : ℕ) → i < 64 → is_value_byte (slice_index standard_no_pad_indifferent.encode_table i) ≡ true
symbol_pass i low = all_below_at (λ (n : ℕ). is_value_byte (slice_index standard_no_pad_indifferent.encode_table n)) 64 i refl low

module _ (t : List ℕ) (pass : (i : ℕ) → i < 64 → is_value_byte (slice_index t i) ≡ true) where
  all_four : (a b c d : Bool) → a ≡ true → b ≡ true → c ≡ true → d ≡ true → (a && (b && (c && (d && true)))) ≡ true
  all_four a b c d p q r s = both a (b && (c && (d && true))) p (both b (c && (d && true)) q (both c (d && true) r (alone d s)))

  symbols_pass : (m : List ℕ) → IsBytes m → list_all is_value_byte (encode_symbols t m) ≡ true
  unfolding encode_symbols
  symbols_pass [] h = refl
  symbols_pass (a ∷ []) h =
      let low : a < 256 = h 0 in
      both (is_value_byte (slice_index t (a / 4))) (is_value_byte (slice_index t (a % 4 * 16)) && true) (pass (a / 4) (omega (arith, low)))
      (alone (is_value_byte (slice_index t (a % 4 * 16))) (pass (a % 4 * 16) (omega (arith, low))))
  symbols_pass (a ∷ b ∷ []) h =
      let low : a < 256 = h 0 in
      let next : b < 256 = h 1 in
      both (is_value_byte (slice_index t (a / 4))) (is_value_byte (slice_index t (a % 4 * 16 + b / 16)) && (is_value_byte (slice_index t (b % 16 * 4)) && true)) (pass (a / 4) (omega (arith, low)))
      (both (is_value_byte (slice_index t (a % 4 * 16 + b / 16))) (is_value_byte (slice_index t (b % 16 * 4)) && true) (pass (a % 4 * 16 + b / 16) (omega (arith, low, next)))
      (alone (is_value_byte (slice_index t (b % 16 * 4))) (pass (b % 16 * 4) (omega (arith, next)))))
  symbols_pass (a ∷ b ∷ c ∷ rest) h =
      let first : a < 256 = h 0 in
      let second : b < 256 = h 1 in
      let third : c < 256 = h 2 in
      list_all-append is_value_byte (encode_group t a b c) (encode_symbols t rest)
      ∙ both (list_all is_value_byte (encode_group t a b c)) (list_all is_value_byte (encode_symbols t rest))
      (all_four (is_value_byte (slice_index t (a / 4))) (is_value_byte (slice_index t (a % 4 * 16 + b / 16))) (is_value_byte (slice_index t (b % 16 * 4 + c / 64))) (is_value_byte (slice_index t (c % 64)))
      (pass (a / 4) (omega (arith, first))) (pass (a % 4 * 16 + b / 16) (omega (arith, first, second))) (pass (b % 16 * 4 + c / 64) (omega (arith, second, third))) (pass (c % 64) (omega (arith, third))))
      (symbols_pass rest (λ i. h (suc (suc (suc i)))))

encoded_pass : (bytes : List ℕ) → IsBytes bytes → list_all is_value_byte (encode_of standard_no_pad_indifferent bytes) ≡ true
encoded_pass bytes h =
    ap (list_all is_value_byte) (append-nil (encode_symbols standard_no_pad_indifferent.encode_table bytes))
    ∙ symbols_pass standard_no_pad_indifferent.encode_table symbol_pass bytes h

any_is_bytes : (n : Numbers) (reason : ModifyReason) → IsBytes (any_bytes n reason)
unfolding any_bytes
any_is_bytes n reason =
    append_bytes (bytes_field 1 type_url) (bytes_or_none 2 (reason_bytes n reason)) (field_bytes 1 type_url (test_bytes type_url refl))
    (bytes_or_none_bytes 2 (reason_bytes n reason) (uint_or_none_bytes (field_of n ModifyRpcErrorDetailsReason) (value_of n (reason_name reason))))

details_are_bytes : (n : Numbers) (code : ℕ) (message : List ℕ) (reason : ModifyReason) → All (λ byte. byte < 256) message → IsBytes (details n code message reason)
unfolding details
details_are_bytes n code message reason small =
    append_bytes (uint_or_none 1 code ++ bytes_or_none 2 message) (bytes_field 3 (any_bytes n reason))
    (append_bytes (uint_or_none 1 code) (bytes_or_none 2 message) (uint_or_none_bytes 1 code) (bytes_or_none_bytes 2 message (all_bytes message small)))
    (field_bytes 3 (any_bytes n reason) (any_is_bytes n reason))

-- ---- the block

abbrev known : List (List ℕ)
known = codes ":status" ∷ []

abbrev bad : Field → Bool
bad f = is_bad_field known f

bad_none : (value : List ℕ) → list_all is_value_byte value ≡ true → ((not (list_all is_value_byte value) || false) || false) ≡ false
bad_none value pass = ap (λ (t : Bool). (not t || false) || false) pass

neither : (a b : Bool) → a ≡ false → b ≡ false → (a || b) ≡ false
neither true b p q = absurd cc
neither false b p q = q

bad_more : (f : Field) (fs : List Field) → bad f ≡ false → list_any bad fs ≡ false → list_any bad (f ∷ fs) ≡ false
bad_more f fs p q = neither (bad f) (list_any bad fs) p q

code_fine : (value : List ℕ) → list_all is_value_byte value ≡ true → bad (field (codes "grpc-status") value) ≡ false
unfolding is_token_byte
code_fine value pass = bad_none value pass

message_fine : (value : List ℕ) → list_all is_value_byte value ≡ true → bad (field (codes "grpc-message") value) ≡ false
unfolding is_token_byte
message_fine value pass = bad_none value pass

details_fine : (value : List ℕ) → list_all is_value_byte value ≡ true → bad (field (codes "grpc-status-details-bin") value) ≡ false
unfolding is_token_byte
details_fine value pass = bad_none value pass

message_all : (message : List ℕ) → list_any bad (message_fields message) ≡ false
message_all [] = refl
message_all (b ∷ message) = bad_more (field (codes "grpc-message") (escaped (b ∷ message))) [] (message_fine (escaped (b ∷ message)) (escaped_pass (b ∷ message))) refl

reason_all : (n : Numbers) (code : ℕ) (message : List ℕ) (reason : Option ModifyReason) → All (λ byte. byte < 256) message → list_any bad (reason_fields n code message reason) ≡ false
reason_all n code message None small = refl
reason_all n code message (Some reason) small =
    let text = encode_of standard_no_pad_indifferent (details n code message reason) in
    bad_more (field (codes "grpc-status-details-bin") text) [] (details_fine text (encoded_pass (details n code message reason) (details_are_bytes n code message reason small))) refl

response_all : list_any bad response_fields ≡ false
unfolding is_token_byte
response_all = refl

module _ (n : Numbers) (code : ℕ) (message : List ℕ) (reason : Option ModifyReason) where
  abbrev behind : List Field
  behind = message_fields message ++ reason_fields n code message reason

  abbrev fields : List Field
  fields = response_fields ++ (field (codes "grpc-status") (digits code) ∷ behind)

  none_bad : code ≤ 16 → All (λ byte. byte < 256) message → list_any bad fields ≡ false
  none_bad low small =
      let first : Field = field (codes "grpc-status") (digits code) in
      list_any-append bad response_fields (first ∷ behind)
      ∙ neither (list_any bad response_fields) (list_any bad (first ∷ behind)) response_all
      (bad_more first behind (code_fine (digits code) (digits_pass code low))
      (list_any-append bad (message_fields message) (reason_fields n code message reason)
      ∙ neither (list_any bad (message_fields message)) (list_any bad (reason_fields n code message reason)) (message_all message) (reason_all n code message reason small)))

-- the one pseudo field stands in front, once
places : (n : Numbers) (code : ℕ) (message : List ℕ) (reason : Option ModifyReason) →
    (has_late_pseudo (fields n code message reason) ≡ false)
    × (list_any (λ (name : List ℕ). nat_lt 1 (times (fields n code message reason) name)) known ≡ false)
    × (list_any (λ (name : List ℕ). times (fields n code message reason) name == 0) known ≡ false)
places n code [] None = (refl, refl, refl)
places n code [] (Some reason) = (refl, refl, refl)
places n code (b ∷ message) None = (refl, refl, refl)
places n code (b ∷ message) (Some reason) = (refl, refl, refl)

four : (a b c d : Bool) → a ≡ false → b ≡ false → c ≡ false → d ≡ false → (((a || b) || c) || d) ≡ false
four a b c d p q r s = rw (p, q, r, s) refl

head_by : (n : Numbers) (code : ℕ) (message : List ℕ) (reason : Option ModifyReason) → code ≤ 16 → All (λ byte. byte < 256) message → is_malformed_response (fields n code message reason) ≡ false
head_by n code message reason low small =
    let stand = places n code message reason in
    four (list_any bad (fields n code message reason)) (has_late_pseudo (fields n code message reason)) (list_any (λ (name : List ℕ). nat_lt 1 (times (fields n code message reason) name)) known)
    (list_any (λ (name : List ℕ). times (fields n code message reason) name == 0) known) (none_bad n code message reason low small) stand.0 stand.1 stand.2

pub head_plain : (n : Numbers) (ending : GrpcStatus) → ending.code ≤ 16 → All (λ byte. byte < 256) ending.message → is_malformed_response (response_fields ++ trailer_fields n ending) ≡ false
unfolding trailer_fields
head_plain n ending low small = head_by n ending.code ending.message ending.reason low small
