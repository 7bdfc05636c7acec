-- A next hop of which nothing is said but its index.
use Rattle.std.proofs.Common.{◌≡◌, ℕ, List, [], ◌∷◌, length, unwrap_or, Option, Some, None, false, refl, sym, ap, ◌∙◌, arith}
use Rattle.std.specs.List.{cons_option, last_or}
use Rattle.std.specs.Option.{option_or}
use Rattle.schema_numbers.specs.Numbers.{Numbers, field_of}
use Rattle.schema_numbers.specs.declared.names.FieldName.TheVariants as field
use Rattle.proto_wire.specs.Fields.{FieldSpan, fields, fields_from, fields_upto}
use Rattle.proto_schema.specs.FieldValues.{number_in, numbers, piece_in, pieces, merged_onto, last_number_at, number_at, message_at, repeated_at}
use Rattle.aft_entries.specs.IndexOnly.{index_only_raw}
use Rattle.aft_entries.specs.declared.key.Kind.TheVariants as kind
use Rattle.aft_entries.specs.declared.operation.RawEntry.TheVariants as entry
use Rattle.aft_messages.specs.Reading.{is_nonempty, hop_of, entry_of, embedded_at}

pub no_bytes : (bytes : List ℕ) → length bytes ≡ 0 → bytes ≡ []
no_bytes [] e = refl
no_bytes (b ∷ bytes) e = absurd (omega arith)

-- no bytes are the message of a next hop of which nothing is said
pub no_hop : (n : Numbers) (bytes : List ℕ) → bytes ≡ [] → hop_of n bytes ≡ index_only_raw
unfolding hop_of message_at repeated_at fields_from fields_upto
no_hop n [] e = refl
no_hop n (b ∷ bytes) e = absurd cc

-- what was heard of the index, and what the fields that are left say behind it, is what all fields say; no payload was heard
pub record IsIndexOnlySoFar (index_number payload_number : ℕ) (index : Option ℕ) (rest all : List FieldSpan) : Type 0 where
  pub index_scanned : last_or index (numbers index_number rest) ≡ last_or None (numbers index_number all)
  pub payload_scanned : unwrap_or (merged_onto None (pieces payload_number rest)) [] ≡ unwrap_or (merged_onto None (pieces payload_number all)) []

last_cons : {A : Type 0} (x before : Option A) (xs : List A) → last_or before (cons_option x xs) ≡ last_or (option_or x before) xs
last_cons None before xs = refl
last_cons (Some x) before xs = refl

joined_nothing : (xs : List (List ℕ)) → unwrap_or (merged_onto (Some []) xs) [] ≡ unwrap_or (merged_onto None xs) []
joined_nothing [] = refl
joined_nothing (x ∷ xs) = refl

joined_cons : (x : Option (List ℕ)) (xs : List (List ℕ)) → is_nonempty x ≡ false → unwrap_or (merged_onto None (cons_option x xs)) [] ≡ unwrap_or (merged_onto None xs) []
joined_cons None xs e = refl
joined_cons (Some []) xs e = joined_nothing xs
joined_cons (Some (b ∷ piece)) xs e = absurd cc

-- one more field
pub scans_one : (index_number payload_number : ℕ) (index new_index : Option ℕ) (f : FieldSpan) (before rest all : List FieldSpan)
    → IsIndexOnlySoFar index_number payload_number index before all
    → before ≡ f ∷ rest
    → is_nonempty (piece_in payload_number f.number f.value) ≡ false
    → new_index ≡ option_or (number_in index_number f.number f.value) index
    → IsIndexOnlySoFar index_number payload_number new_index rest all
scans_one index_number payload_number index new_index f before rest all h first none a =
    let was = rw first at h in
    record {
      index_scanned = rw a (sym (last_cons (number_in index_number f.number f.value) index (numbers index_number rest)) ∙ was.index_scanned);
      payload_scanned = sym (joined_cons (piece_in payload_number f.number f.value) (pieces payload_number rest) none) ∙ was.payload_scanned;
    }

pub index_alone : (n : Numbers) (bytes : List ℕ) (index : Option ℕ) → IsIndexOnlySoFar (field_of n field.NextHopKeyIndex) (field_of n field.NextHopKeyNextHop) index [] (fields bytes).fields
    → entry_of n kind.Hop bytes ≡ entry.Hop (unwrap_or index 0) index_only_raw
unfolding last_number_at number_at message_at
index_alone n bytes index h =
    let payload = embedded_at (field_of n field.NextHopKeyNextHop) bytes in
    let at : number_at (field_of n field.NextHopKeyIndex) bytes ≡ unwrap_or index 0 = ap (λ o. unwrap_or o 0) (sym h.index_scanned) in
    ap (λ i. entry.Hop i (hop_of n payload)) at ∙ ap (entry.Hop (unwrap_or index 0)) (no_hop n payload (sym h.payload_scanned))
