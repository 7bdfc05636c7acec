-- What was written is read again, whatever follows it.
use Rattle.std.proofs.Common.{◌≡◌, ℕ, zero, suc, ◌+◌, ◌-◌, ◌*◌, ◌/◌, ◌%◌, ◌^◌, ◌<◌, ◌≤◌, ◌⊎◌, inl, inr, false, ltb, List, [], ◌∷◌, ◌++◌, length, take, drop, Ok, None, refl, sym, ap, ◌∙◌, append_assoc, arith}
use Rattle.std.specs.Prelude.{All}
use Rattle.std.proofs.lemmas.Bool.{lt-ltb, le-ltb, le-leb, cases_lt}
use Rattle.std.proofs.lemmas.List.{length-append, drop_at, take_at}
use Rattle.std.proofs.lemmas.List.Concat.{flat_map-cons}
use Rattle.std.proofs.lemmas.List.Elements.{All-head, All-tail}
use Rattle.std.proofs.Math.Nat.{pow-suc}
use Rattle.proto_wire.specs.Wire.{behind, varint_within, varint_at, value_at, Varint, Bytes, TaggedValue, tagged_value_at}
use Rattle.proto_wire.specs.Fields.{prepend_field, fields_upto, fields_from}
use Rattle.proto_wire.specs.Written.{varint_upto, varint, uint_field, bytes_field, WrittenField, Uint, Text, IsLegal, field_encoding, encoded_fields, field_spans}
use Rattle.proto_wire.proofs.Cuts.{fields_from-first, tagged_value_at-some}

joins : (n b : ℕ) (len : ℕ) → 128 ≤ n → b ≡ (n % 128) + 128 → behind b (Ok (n / 128, len)) ≡ Ok (n, suc len)
joins n b len le is =
    let value : (b - 128) + 128 * (n / 128) ≡ n = omega (arith, is) in
    let one_more : len + 1 ≡ suc len = omega arith in
    ap Ok (rw (value, one_more) refl)

again : (k n : ℕ) (more : List ℕ) → n < 2 * 128 ^ k → varint_within (suc k) (varint_upto k n ++ more) ≡ Ok (n, length (varint_upto k n))
unfolding varint_within varint_upto
again zero n more lt =
    let small : n ≤ 1 = omega arith in
    let same : n % 128 ≡ n = omega arith in
    rw (same, le-leb n 1 small) refl
again (suc k) n more lt = by (cases_lt n 128) (λ less. again k (n / 128) more less)
  where
    by : (n < 128) ⊎ (128 ≤ n) → (n / 128 < 2 * 128 ^ k → varint_within (suc k) (varint_upto k (n / 128) ++ more) ≡ Ok (n / 128, length (varint_upto k (n / 128)))) → varint_within (suc (suc k)) (varint_upto (suc k) n ++ more) ≡ Ok (n, length (varint_upto (suc k) n))
    by (inl small) ih = rw (lt-ltb n 128 small, lt-ltb n 128 small) refl
    by (inr big) ih =
        let bound : 128 ^ suc k ≡ 128 ^ k * 128 = pow-suc 128 k in
        let less : n / 128 < 2 * 128 ^ k = omega (arith, bound, lt) in
        let rest = ih less in
        let top : 128 ≤ (n % 128) + 128 = omega arith in
        rw (le-ltb n 128 big, le-ltb ((n % 128) + 128) 128 top, rest) (joins n ((n % 128) + 128) (length (varint_upto k (n / 128))) big refl)

pub varint_at-again : (n : ℕ) (more : List ℕ) → n < 2 ^ 64 → varint_at (varint n ++ more) ≡ Ok (n, length (varint n))
varint_at-again n more lt = again 9 n more lt

-- a field of a number
pub tagged_value_at-uint : (number value : ℕ) (more : List ℕ) → 1 ≤ number → number < 2 ^ 29 → value < 2 ^ 64
    → tagged_value_at (uint_field number value ++ more) ≡ Ok (record { number = number; value = Varint value; size = length (uint_field number value) })
unfolding tagged_value_at value_at
tagged_value_at-uint number value more low high fits =
    let regrouped : uint_field number value ++ more ≡ varint (number * 8) ++ (varint value ++ more) = append_assoc (varint (number * 8)) (varint value) more in
    let tag = varint_at-again (number * 8) (varint value ++ more) (omega arith) in
    let not_low : ltb (number * 8) 8 ≡ false = le-ltb _ _ (omega arith) in
    let not_high : ltb (2 ^ 32 - 1) (number * 8) ≡ false = le-ltb _ _ (omega arith) in
    let kind : (number * 8) % 8 ≡ 0 = omega arith in
    let name : (number * 8) / 8 ≡ number = omega arith in
    let rest : drop (length (varint (number * 8))) (varint (number * 8) ++ (varint value ++ more)) ≡ varint value ++ more = drop_at (varint (number * 8)) (varint value ++ more) (length (varint (number * 8))) refl in
    let one = varint_at-again value more fits in
    ap tagged_value_at regrouped ∙ rw (tag, not_low, not_high, kind, name, rest, one, length-append) refl

-- a field of bytes
pub tagged_value_at-bytes : (number : ℕ) (value more : List ℕ) → 1 ≤ number → number < 2 ^ 29 → length value < 2 ^ 64
    → tagged_value_at (bytes_field number value ++ more) ≡ Ok (record { number = number; value = Bytes value; size = length (bytes_field number value) })
unfolding tagged_value_at value_at
tagged_value_at-bytes number value more low high fits =
    let t : List ℕ = varint (number * 8 + 2) in
    let l : List ℕ = varint (length value) in
    let regrouped : bytes_field number value ++ more ≡ t ++ (l ++ (value ++ more)) =
    append_assoc (t ++ l) value more ∙ append_assoc t l (value ++ more) in
    let tag = varint_at-again (number * 8 + 2) (l ++ (value ++ more)) (omega arith) in
    let not_low : ltb (number * 8 + 2) 8 ≡ false = le-ltb _ _ (omega arith) in
    let not_high : ltb (2 ^ 32 - 1) (number * 8 + 2) ≡ false = le-ltb _ _ (omega arith) in
    let kind : (number * 8 + 2) % 8 ≡ 2 = omega arith in
    let name : (number * 8 + 2) / 8 ≡ number = omega arith in
    let rest : drop (length t) (t ++ (l ++ (value ++ more))) ≡ l ++ (value ++ more) = drop_at t (l ++ (value ++ more)) (length t) refl in
    let one = varint_at-again (length value) (value ++ more) fits in
    let all : ltb (length (l ++ (value ++ more))) (length l + length value) ≡ false = le-ltb _ _ (omega (arith, length-append l (value ++ more), length-append value more)) in
    let skipped : drop (length l) (l ++ (value ++ more)) ≡ value ++ more = drop_at l (value ++ more) (length l) refl in
    let text : take (length value) (value ++ more) ≡ value = take_at value more (length value) refl in
    let size : length t + (length l + length value) ≡ length (bytes_field number value) = omega (arith, length-append (t ++ l) value, length-append t l) in
    ap tagged_value_at regrouped ∙ rw (tag, not_low, not_high, kind, name, rest, one, all, skipped, text) (ap (λ (s : ℕ). Ok (record { number = number; value = Bytes value; size = s })) size)

first_field : (place : ℕ) (written more : List ℕ) (body : TaggedValue) → tagged_value_at (written ++ more) ≡ Ok body → length written ≡ body.size
    → fields_from place (written ++ more) ≡ prepend_field (record { number = body.number; place = place; ending = place + body.size; value = body.value }) (fields_from (place + body.size) more)
first_field place written more body e size =
    fields_from-first place (written ++ more) more body (tagged_value_at-some (written ++ more) body e) e (sym (drop_at written more body.size size))

-- a field of a number, and what follows it
pub fields_from-uint : (place number value : ℕ) (more : List ℕ) → 1 ≤ number → number < 2 ^ 29 → value < 2 ^ 64
    → fields_from place (uint_field number value ++ more) ≡ prepend_field (record { number = number; place = place; ending = place + length (uint_field number value); value = Varint value }) (fields_from (place + length (uint_field number value)) more)
fields_from-uint place number value more low high fits =
    first_field place (uint_field number value) more (record { number = number; value = Varint value; size = length (uint_field number value) }) (tagged_value_at-uint number value more low high fits) refl

-- a field of bytes, and what follows it
pub fields_from-bytes : (place number : ℕ) (value more : List ℕ) → 1 ≤ number → number < 2 ^ 29 → length value < 2 ^ 64
    → fields_from place (bytes_field number value ++ more) ≡ prepend_field (record { number = number; place = place; ending = place + length (bytes_field number value); value = Bytes value }) (fields_from (place + length (bytes_field number value)) more)
fields_from-bytes place number value more low high fits =
    first_field place (bytes_field number value) more (record { number = number; value = Bytes value; size = length (bytes_field number value) }) (tagged_value_at-bytes number value more low high fits) refl

first_part : (place : ℕ) (part : WrittenField) (parts : List WrittenField) → IsLegal part → fields_from (place + length (field_encoding part)) (encoded_fields parts) ≡ record { fields = field_spans (place + length (field_encoding part)) parts; fault = None }
    → fields_from place (field_encoding part ++ encoded_fields parts) ≡ record { fields = field_spans place (part ∷ parts); fault = None }
first_part place (Uint number value) parts h e =
    fields_from-uint place number value (encoded_fields parts) h.0 h.1 h.2 ∙ ap (prepend_field (record { number = number; place = place; ending = place + length (uint_field number value); value = Varint value })) e
first_part place (Text number bytes) parts h e =
    fields_from-bytes place number bytes (encoded_fields parts) h.0 h.1 h.2 ∙ ap (prepend_field (record { number = number; place = place; ending = place + length (bytes_field number bytes); value = Bytes bytes })) e

-- all fields of a message
pub fields_from-encoded_fields : (place : ℕ) (parts : List WrittenField) → All IsLegal parts → fields_from place (encoded_fields parts) ≡ record { fields = field_spans place parts; fault = None }
unfolding fields_from fields_upto
fields_from-encoded_fields place [] h = refl
fields_from-encoded_fields place (part ∷ parts) h =
    ap (fields_from place) (flat_map-cons field_encoding part parts)
    ∙ first_part place part parts (All-head IsLegal part parts h) (fields_from-encoded_fields (place + length (field_encoding part)) parts (All-tail IsLegal part parts h))
