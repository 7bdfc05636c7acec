-- The reason of a status that was written is read again, under every valid numbering.
use Rattle.std.proofs.Common.{◌≡◌, ℕ, suc, zero, ◌^◌, ◌<◌, ◌≤◌, Bool, true, false, List, [], ◌∷◌, ◌++◌, Option, Some, None, refl, ap, ◌∙◌, cond, length, get_or, map, codes, arith}
use Rattle.std.specs.Prelude.{◌||◌, ◌==◌, not, All, Ok, option_and_then}
use Rattle.std.specs.List.{list_all, list_any}
use Rattle.std.specs.Result.{result_ok}
use Rattle.std.proofs.lemmas.Bool.{and_parts, leb-true}
use Rattle.std.proofs.lemmas.Bool.Decides.{nat_tests}
use Rattle.std.proofs.lemmas.List.{length-append}
use Rattle.base64.specs.Engines.{standard_no_pad_indifferent}
use Rattle.base64.specs.GeneralPurpose.{IsBytes, encode_of}
use Rattle.base64.proofs.EngineFacts.{decode_of-encode_of}
use Rattle.proto_wire.specs.Written.{varint_upto, bytes_field}
use Rattle.schema_numbers.specs.Numbers.{Numbers, field_of, value_of}
use Rattle.schema_numbers.specs.Valid.{IsValid, are_distinct, enumerations, is_field_number, is_enumerator_number}
use Rattle.schema_numbers.specs.declared.names.FieldName.TheVariants.{ModifyRpcErrorDetailsReason}
use Rattle.schema_numbers.proofs.Ranges.{passes, field_number}
use Rattle.hpack_tables.specs.declared.field.Field.{Field}
use Rattle.grpc_heads.specs.declared.status.ModifyReason.{ModifyReason}
use Rattle.grpc_heads.specs.declared.status.ModifyReason.TheVariants.{UnsupportedParams, ModifyNotAllowed, ParamsDiffer, ElectionIdInAllPrimary}
use Rattle.grpc_heads.specs.GrpcStatus.{GrpcStatus}
use Rattle.grpc_heads.specs.Heads.{first_value}
use Rattle.grpc_heads.specs.Trailers.{reason_in_status, reason_in_text, reason_numbered, message_of, status_from_fields, status_coded, status_in_trailers}
use Rattle.grpc_heads.specs.Written.{field, digits, bytes_or_none, uint_or_none, type_url, reason_name, reason_bytes, any_bytes, details, message_fields, reason_fields, trailer_fields}
use Rattle.grpc_heads.proofs.Again.{code_again, message_again, append_bytes, all_bytes, test_bytes, uint_or_none_bytes, bytes_or_none_bytes, field_bytes, uint_length, field_length, status_again, any_again, reason_read, itself}

-- ---- numbers

nth : {X : Type 0} (p : X → Bool) (xs : List X) (i : ℕ) (d : X) → list_all p xs ≡ true → i < length xs → p (get_or xs i d) ≡ true
nth p [] i d all lt = absurd (omega arith)
nth p (x ∷ xs) zero d all lt = (and_parts (p x) (list_all p xs) all).0
nth p (x ∷ xs) (suc i) d all lt = nth p xs i d (and_parts (p x) (list_all p xs) all).1 (omega arith)

or_none : (s rest : Bool) → not (s || rest) ≡ true → (s ≡ false) × (not rest ≡ true)
or_none true rest h = cc
or_none false rest h = (refl, h)

flip : (x a : ℕ) → (x == a) ≡ false → (a == x) ≡ false
flip x a h = grind (arith, nat_tests)

pick : Bool → Bool → Bool → Bool → Option ModifyReason
pick s t u v = cond s (Some UnsupportedParams) (cond t (Some ModifyNotAllowed) (cond u (Some ParamsDiffer) (cond v (Some ElectionIdInAllPrimary) None)))

module _ (a b c d : ℕ) (h : are_distinct (a ∷ b ∷ c ∷ d ∷ []) ≡ true) where
  first_apart : ((b == a) ≡ false) × ((c == a) ≡ false) × ((d == a) ≡ false)
  first_apart =
      let one = or_none (b == a) (list_any (λ m. m == a) (c ∷ d ∷ [])) (and_parts (not (list_any (λ m. m == a) (b ∷ c ∷ d ∷ []))) (are_distinct (b ∷ c ∷ d ∷ [])) h).0 in
      let two = or_none (c == a) (list_any (λ m. m == a) (d ∷ [])) one.1 in
      let three = or_none (d == a) false two.1 in
      (one.0, two.0, three.0)

  second_apart : ((c == b) ≡ false) × ((d == b) ≡ false)
  second_apart =
      let rest = (and_parts (not (list_any (λ m. m == a) (b ∷ c ∷ d ∷ []))) (are_distinct (b ∷ c ∷ d ∷ [])) h).1 in
      let one = or_none (c == b) (list_any (λ m. m == b) (d ∷ [])) (and_parts (not (list_any (λ m. m == b) (c ∷ d ∷ []))) (are_distinct (c ∷ d ∷ [])) rest).0 in
      let two = or_none (d == b) false one.1 in
      (one.0, two.0)

  third_apart : (d == c) ≡ false
  third_apart =
      let rest = (and_parts (not (list_any (λ m. m == a) (b ∷ c ∷ d ∷ []))) (are_distinct (b ∷ c ∷ d ∷ [])) h).1 in
      let more = (and_parts (not (list_any (λ m. m == b) (c ∷ d ∷ []))) (are_distinct (c ∷ d ∷ [])) rest).1 in
      (or_none (d == c) false (and_parts (not (list_any (λ m. m == c) (d ∷ []))) (are_distinct (d ∷ [])) more).0).0

  pick_a : pick (a == a) (b == a) (c == a) (d == a) ≡ Some UnsupportedParams
  unfolding pick
  pick_a = ap (λ s. pick s (b == a) (c == a) (d == a)) (itself a)

  pick_b : pick (a == b) (b == b) (c == b) (d == b) ≡ Some ModifyNotAllowed
  unfolding pick
  pick_b = ap (λ s. pick s (b == b) (c == b) (d == b)) (flip b a first_apart.0) ∙ ap (λ s. pick false s (c == b) (d == b)) (itself b)

  pick_c : pick (a == c) (b == c) (c == c) (d == c) ≡ Some ParamsDiffer
  unfolding pick
  pick_c =
      ap (λ s. pick s (b == c) (c == c) (d == c)) (flip c a first_apart.1) ∙ ap (λ s. pick false s (c == c) (d == c)) (flip c b second_apart.0)
      ∙ ap (λ s. pick false false s (d == c)) (itself c)

  pick_d : pick (a == d) (b == d) (c == d) (d == d) ≡ Some ElectionIdInAllPrimary
  unfolding pick
  pick_d =
      ap (λ s. pick s (b == d) (c == d) (d == d)) (flip d a first_apart.2) ∙ ap (λ s. pick false s (c == d) (d == d)) (flip d b second_apart.1)
      ∙ ap (λ s. pick false false s (d == d)) (flip d c third_apart) ∙ ap (λ s. pick false false false s) (itself d)

module _ (n : Numbers) (valid : IsValid n) where
  number : ModifyReason → ℕ
  number reason = value_of n (reason_name reason)

  apart : are_distinct (number UnsupportedParams ∷ number ModifyNotAllowed ∷ number ParamsDiffer ∷ number ElectionIdInAllPrimary ∷ []) ≡ true
  unfolding number
  apart = nth (λ e. are_distinct (map (value_of n) e)) enumerations 9 [] valid.values_distinct (omega arith)

  numbered_again : (reason : ModifyReason) → reason_numbered n (value_of n (reason_name reason)) ≡ Some reason
  unfolding reason_numbered number pick
  numbered_again UnsupportedParams = pick_a (number UnsupportedParams) (number ModifyNotAllowed) (number ParamsDiffer) (number ElectionIdInAllPrimary) apart
  numbered_again ModifyNotAllowed = pick_b (number UnsupportedParams) (number ModifyNotAllowed) (number ParamsDiffer) (number ElectionIdInAllPrimary) apart
  numbered_again ParamsDiffer = pick_c (number UnsupportedParams) (number ModifyNotAllowed) (number ParamsDiffer) (number ElectionIdInAllPrimary) apart
  numbered_again ElectionIdInAllPrimary = pick_d (number UnsupportedParams) (number ModifyNotAllowed) (number ParamsDiffer) (number ElectionIdInAllPrimary) apart

  value_at : (place : ℕ) → place < 28 → get_or n.values place 0 < 2 ^ 64
  value_at place lt =
      let low : get_or n.values place 0 ≤ 2147483647 = leb-true (get_or n.values place 0) 2147483647 (passes is_enumerator_number n.values place 0 valid.values_in_range (omega (arith, valid.each_value))) in
      omega arith

  value_low : (reason : ModifyReason) → value_of n (reason_name reason) < 2 ^ 64
  unfolding value_of
  value_low UnsupportedParams = value_at 24 (omega arith)
  value_low ModifyNotAllowed = value_at 25 (omega arith)
  value_low ParamsDiffer = value_at 26 (omega arith)
  value_low ElectionIdInAllPrimary = value_at 27 (omega arith)

  field_low : (1 ≤ field_of n ModifyRpcErrorDetailsReason) × (field_of n ModifyRpcErrorDetailsReason < 2 ^ 29)
  unfolding field_of
  field_low = field_number (field_of n ModifyRpcErrorDetailsReason) (passes is_field_number n.fields 45 0 valid.fields_in_range (omega (arith, valid.each_field)))

  reason_length : (reason : ModifyReason) → length (reason_bytes n reason) ≤ 20
  reason_length reason = uint_length (field_of n ModifyRpcErrorDetailsReason) (value_of n (reason_name reason))

  any_length : (reason : ModifyReason) → length (any_bytes n reason) < 2 ^ 64
  unfolding any_bytes varint_upto
  any_length reason =
      let head : length (bytes_field 1 type_url) ≡ 49 = refl in
      omega (arith, head, length-append (bytes_field 1 type_url) (bytes_or_none 2 (reason_bytes n reason)), field_length 2 (reason_bytes n reason), reason_length reason)

  any_is_bytes : (reason : ModifyReason) → IsBytes (any_bytes n reason)
  unfolding any_bytes
  any_is_bytes reason =
      append_bytes (bytes_field 1 type_url) (bytes_or_none 2 (reason_bytes n reason)) (field_bytes 1 type_url (test_bytes type_url refl))
      (bytes_or_none_bytes 2 (reason_bytes n reason) (uint_or_none_bytes (field_of n ModifyRpcErrorDetailsReason) (value_of n (reason_name reason))))

  module _ (code : ℕ) (message : List ℕ) (reason : ModifyReason) (low : code ≤ 16) (small : All (λ byte. byte < 256) message) (long : length message < 2 ^ 64) where
    are_bytes : IsBytes (details n code message reason)
    unfolding details
    are_bytes =
        append_bytes (uint_or_none 1 code ++ bytes_or_none 2 message) (bytes_field 3 (any_bytes n reason))
        (append_bytes (uint_or_none 1 code) (bytes_or_none 2 message) (uint_or_none_bytes 1 code) (bytes_or_none_bytes 2 message (all_bytes message small)))
        (field_bytes 3 (any_bytes n reason) (any_is_bytes reason))

    reason_again : reason_in_status n (details n code message reason) ≡ Some reason
    unfolding details any_bytes
    reason_again =
        status_again n code message (any_bytes n reason) (code == 0) (omega arith) long (any_length reason)
        ∙ any_again n (reason_bytes n reason) (omega (arith, reason_length reason))
        ∙ reason_read n (field_of n ModifyRpcErrorDetailsReason) (value_of n (reason_name reason)) refl field_low.0 field_low.1 (value_low reason)
        ∙ numbered_again reason

    text_again : reason_in_text n (encode_of standard_no_pad_indifferent (details n code message reason)) ≡ Some reason
    text_again =
        ap (λ read. option_and_then (reason_in_status n) (result_ok read)) (decode_of-encode_of standard_no_pad_indifferent (details n code message reason) tt are_bytes)
        ∙ reason_again

  written : ℕ → List ℕ → Option ModifyReason → List Field
  written code message reason = field (codes "grpc-status") (digits code) ∷ message_fields message ++ reason_fields n code message reason

  message_read : (code : ℕ) (message : List ℕ) (reason : Option ModifyReason) → All (λ byte. byte < 256) message → message_of (first_value (codes "grpc-message") (written code message reason)) ≡ message
  unfolding written
  message_read code [] None small = refl
  message_read code [] (Some reason) small = refl
  message_read code (b ∷ message) None small = message_again (b ∷ message) small
  message_read code (b ∷ message) (Some reason) small = message_again (b ∷ message) small

  reason_found : (code : ℕ) (message : List ℕ) (reason : Option ModifyReason) → code ≤ 16 → All (λ byte. byte < 256) message → length message < 2 ^ 64 → option_and_then (reason_in_text n) (first_value (codes "grpc-status-details-bin") (written code message reason)) ≡ reason
  unfolding written
  reason_found code [] None low small long = refl
  reason_found code (b ∷ message) None low small long = refl
  reason_found code [] (Some reason) low small long = text_again code [] reason low small long
  reason_found code (b ∷ message) (Some reason) low small long = text_again code (b ∷ message) reason low small long

  ending : ℕ → List ℕ → Option ModifyReason → GrpcStatus
  ending code message reason = record { code = code; message = message; reason = reason }

  with_again : (code : ℕ) (message : List ℕ) (reason : Option ModifyReason) → code ≤ 16 → All (λ byte. byte < 256) message → length message < 2 ^ 64 → status_from_fields n code (written code message reason) ≡ ending code message reason
  unfolding ending
  with_again code message reason low small long =
      ap (λ m. ending code m (option_and_then (reason_in_text n) (first_value (codes "grpc-status-details-bin") (written code message reason)))) (message_read code message reason small)
      ∙ ap (λ r. ending code message r) (reason_found code message reason low small long)

  pub trailers_again : (e : GrpcStatus) → e.code ≤ 16 → All (λ byte. byte < 256) e.message → length e.message < 2 ^ 64 → status_in_trailers n (trailer_fields n e) ≡ Ok e
  unfolding status_in_trailers trailer_fields written ending
  trailers_again e low small long =
      ap (status_coded n (written e.code e.message e.reason)) (code_again e.code low)
      ∙ ap (λ read. Ok read) (with_again e.code e.message e.reason low small long)
