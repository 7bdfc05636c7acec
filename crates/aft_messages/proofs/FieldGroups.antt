-- The fields of one number, and messages of one or two such fields.
use Rattle.std.proofs.Common.{◌≡◌, ℕ, zero, suc, ◌^◌, ◌<◌, ◌≤◌, ◌==◌, ◌&&◌, ◌||◌, not, Bool, true, false, List, [], ◌∷◌, ◌++◌, length, Option, Some, None, unwrap_or, refl, sym}
use Rattle.std.specs.List.{last_or}
use Rattle.std.specs.Option.{option_map_or}
use Rattle.std.proofs.lemmas.Bool.{false≢true, eq-eqb, eqb-false, ne_eqb}
use Rattle.std.proofs.Math.Dec.{eqb-suc-zero}
use Rattle.std.proofs.lemmas.List.{append-nil}
use Rattle.std.proofs.lemmas.List.Elements.{filter_map-append}
use Rattle.proto_wire.specs.Written.{uint_field, bytes_field, WrittenField, Uint, Text, IsLegal, encoded_fields}
use Rattle.schema_numbers.specs.Numbers.{Numbers}
use Rattle.schema_numbers.specs.Valid.{are_distinct}
use Rattle.proto_schema.specs.declared.schema.MessageKind.{MessageKind}
use Rattle.proto_schema.specs.declared.schema.FieldKind.{FieldKind}
use Rattle.proto_schema.specs.Schema.{fields_of, kind_of}
use Rattle.proto_schema.specs.FieldValues.{number_in, piece_in, merged_onto}
use Rattle.aft_messages.specs.Writing.{nonzero_uint_field, nonempty_field, label_field}
use Rattle.aft_messages.proofs.Parts.{Each, each_append, each_map, no, val, nums, bits, Clean, Good, clean}

pub same : (n : ℕ) → (n == n) ≡ true
same n = eq-eqb n n refl

pub differs : (a b : ℕ) → (b == a) ≡ false → (a == b) ≡ false
differs a b h = ne_eqb a b (λ e. eqb-false b a h (sym e))

-- two numbers of a message are distinct
pub apart_of : (a b : ℕ) → are_distinct (a ∷ b ∷ []) ≡ true → (b == a) ≡ false
apart_of a b h = by (b == a) h
  where
    by : (x : Bool) → (not (x || false) && true) ≡ true → x ≡ false
    by true h = absurd (false≢true h)
    by false h = refl

-- fields of one number and kind
abbrev pub InBunch : Numbers → FieldKind → ℕ → WrittenField → Type 0
InBunch n k number p = IsLegal p × (no p ≡ number) × Good n k p

pub bunch_legal : (n : Numbers) (k : FieldKind) (number : ℕ) (parts : List WrittenField) → Each (InBunch n k number) parts → Each IsLegal parts
bunch_legal n k number parts h = each_map (InBunch n k number) IsLegal (λ p one. one.0) parts h

pub bunch_good : (n : Numbers) (m : MessageKind) (k : FieldKind) (number : ℕ) (parts : List WrittenField) → kind_of n m number ≡ k
    → Each (InBunch n k number) parts → Each (λ p. Good n (kind_of n m (no p)) p) parts
bunch_good n m k number parts is h =
    each_map (InBunch n k number) (λ p. Good n (kind_of n m (no p)) p) (λ p one. rw (one.1, is) one.2) parts h

pub no_nums : (n : Numbers) (k : FieldKind) (number wanted : ℕ) (parts : List WrittenField) → Each (InBunch n k number) parts → (number == wanted) ≡ false → nums wanted parts ≡ []
no_nums n k number wanted [] h d = refl
no_nums n k number wanted (p ∷ ps) h d = rw (h.0.1, d, no_nums n k number wanted ps h.1 d) refl

pub no_bits : (n : Numbers) (k : FieldKind) (number wanted : ℕ) (parts : List WrittenField) → Each (InBunch n k number) parts → (number == wanted) ≡ false → bits wanted parts ≡ []
no_bits n k number wanted [] h d = refl
no_bits n k number wanted (p ∷ ps) h d = rw (h.0.1, d, no_bits n k number wanted ps h.1 d) refl

-- a message of one field
pub record OneField (n : Numbers) (m : MessageKind) (a : ℕ) (k : FieldKind) (parts : List WrittenField) : Type 0 where
  pub row : fields_of n m ≡ (a, k) ∷ []
  pub each : Each (InBunch n k a) parts

one_kind : (n : Numbers) (m : MessageKind) (a : ℕ) (k : FieldKind) → fields_of n m ≡ (a, k) ∷ [] → kind_of n m a ≡ k
unfolding kind_of
one_kind n m a k row = rw (row, same a) refl

pub one_legal : {n : Numbers} {m : MessageKind} {a : ℕ} {k : FieldKind} {parts : List WrittenField} → OneField n m a k parts → Each IsLegal parts
one_legal {n} {m} {a} {k} {parts} o = bunch_legal n k a parts o.each

pub one_clean : {n : Numbers} {m : MessageKind} {a : ℕ} {k : FieldKind} {parts : List WrittenField} → OneField n m a k parts → Clean n m (encoded_fields parts)
one_clean {n} {m} {a} {k} {parts} o = clean n m parts (one_legal o) (bunch_good n m k a parts (one_kind n m a k o.row) o.each)

-- a message of two fields
pub record TwoFields (n : Numbers) (m : MessageKind) (a b : ℕ) (k j : FieldKind) (xs ys : List WrittenField) : Type 0 where
  pub rows : fields_of n m ≡ (a, k) ∷ (b, j) ∷ []
  pub apart : (b == a) ≡ false
  pub first : Each (InBunch n k a) xs
  pub second : Each (InBunch n j b) ys

first_kind : (n : Numbers) (m : MessageKind) (a b : ℕ) (k j : FieldKind) → fields_of n m ≡ (a, k) ∷ (b, j) ∷ [] → kind_of n m a ≡ k
unfolding kind_of
first_kind n m a b k j rows = rw (rows, same a) refl

second_kind : (n : Numbers) (m : MessageKind) (a b : ℕ) (k j : FieldKind) → fields_of n m ≡ (a, k) ∷ (b, j) ∷ [] → (b == a) ≡ false → kind_of n m b ≡ j
unfolding kind_of
second_kind n m a b k j rows apart = rw (rows, apart, same b) refl

pub two_legal : {n : Numbers} {m : MessageKind} {a b : ℕ} {k j : FieldKind} {xs ys : List WrittenField} → TwoFields n m a b k j xs ys → Each IsLegal (xs ++ ys)
two_legal {n} {m} {a} {b} {k} {j} {xs} {ys} t = each_append IsLegal xs ys (bunch_legal n k a xs t.first) (bunch_legal n j b ys t.second)

pub two_clean : {n : Numbers} {m : MessageKind} {a b : ℕ} {k j : FieldKind} {xs ys : List WrittenField} → TwoFields n m a b k j xs ys → Clean n m (encoded_fields (xs ++ ys))
two_clean {n} {m} {a} {b} {k} {j} {xs} {ys} t =
    clean n m (xs ++ ys) (two_legal t)
    (each_append (λ p. Good n (kind_of n m (no p)) p) xs ys
    (bunch_good n m k a xs (first_kind n m a b k j t.rows) t.first)
    (bunch_good n m j b ys (second_kind n m a b k j t.rows t.apart) t.second))

pub first_nums : {n : Numbers} {m : MessageKind} {a b : ℕ} {k j : FieldKind} {xs ys : List WrittenField} → TwoFields n m a b k j xs ys → nums a (xs ++ ys) ≡ nums a xs
first_nums {n} {m} {a} {b} {k} {j} {xs} {ys} t =
    rw (filter_map-append (λ p. number_in a (no p) (val p)) xs ys, no_nums n j b a ys t.second t.apart) (append-nil (nums a xs))

pub first_bits : {n : Numbers} {m : MessageKind} {a b : ℕ} {k j : FieldKind} {xs ys : List WrittenField} → TwoFields n m a b k j xs ys → bits a (xs ++ ys) ≡ bits a xs
first_bits {n} {m} {a} {b} {k} {j} {xs} {ys} t =
    rw (filter_map-append (λ p. piece_in a (no p) (val p)) xs ys, no_bits n j b a ys t.second t.apart) (append-nil (bits a xs))

pub second_bits : {n : Numbers} {m : MessageKind} {a b : ℕ} {k j : FieldKind} {xs ys : List WrittenField} → TwoFields n m a b k j xs ys → bits b (xs ++ ys) ≡ bits b ys
second_bits {n} {m} {a} {b} {k} {j} {xs} {ys} t =
    rw (filter_map-append (λ p. piece_in b (no p) (val p)) xs ys, no_bits n k a b xs t.first (differs a b t.apart)) refl

-- A number that is left out where it is 0

abbrev pub number_parts : ℕ → ℕ → List WrittenField
number_parts number zero = []
number_parts number (suc v) = Uint number (suc v) ∷ []

pub number_spelled : (number v : ℕ) → nonzero_uint_field number v ≡ encoded_fields (number_parts number v)
unfolding nonzero_uint_field
number_spelled number zero = refl
number_spelled number (suc v) = rw (eqb-suc-zero v) (sym (append-nil (uint_field number (suc v))))

pub number_own : (number v : ℕ) → unwrap_or (last_or None (nums number (number_parts number v))) 0 ≡ v
number_own number zero = refl
number_own number (suc v) = rw (same number) refl

pub number_bunch : (n : Numbers) (k : FieldKind) (number v : ℕ) → (1 ≤ number) × (number < 2 ^ 29) → v < 2 ^ 64 → Each (InBunch n k number) (number_parts number v)
number_bunch n k number zero range fits = tt
number_bunch n k number (suc v) range fits = (((range.0, range.1, fits), refl, tt), tt)

-- A label, which is written where it is there

abbrev pub label_parts : ℕ → Option ℕ → List WrittenField
label_parts number None = []
label_parts number (Some v) = Uint number v ∷ []

pub label_spelled : (number : ℕ) (v : Option ℕ) → label_field number v ≡ encoded_fields (label_parts number v)
label_spelled number None = refl
label_spelled number (Some v) = sym (append-nil (uint_field number v))

pub label_own : (number : ℕ) (v : Option ℕ) → last_or None (nums number (label_parts number v)) ≡ v
label_own number None = refl
label_own number (Some v) = rw (same number) refl

-- Bytes that are left out where there are none

abbrev pub filled_parts : ℕ → List ℕ → List WrittenField
filled_parts number [] = []
filled_parts number (b ∷ bytes) = Text number (b ∷ bytes) ∷ []

pub filled_spelled : (number : ℕ) (bytes : List ℕ) → nonempty_field number bytes ≡ encoded_fields (filled_parts number bytes)
unfolding nonempty_field
filled_spelled number [] = refl
filled_spelled number (b ∷ bytes) = sym (append-nil (bytes_field number (b ∷ bytes)))

pub filled_text : (number : ℕ) (bytes : List ℕ) → unwrap_or (last_or None (bits number (filled_parts number bytes))) [] ≡ bytes
filled_text number [] = refl
filled_text number (b ∷ bytes) = rw (same number) refl

pub filled_message : (number : ℕ) (bytes : List ℕ) → unwrap_or (merged_onto None (bits number (filled_parts number bytes))) [] ≡ bytes
filled_message number [] = refl
filled_message number (b ∷ bytes) = rw (same number) refl

pub filled_bunch : (n : Numbers) (k : FieldKind) (number : ℕ) (bytes : List ℕ) → (1 ≤ number) × (number < 2 ^ 29) → length bytes < 2 ^ 64
    → Good n k (Text number bytes) → Each (InBunch n k number) (filled_parts number bytes)
filled_bunch n k number [] range fits good = tt
filled_bunch n k number (b ∷ bytes) range fits good = (((range.0, range.1, fits), refl, good), tt)

-- Bytes that may be absent

abbrev pub option_parts : ℕ → Option (List ℕ) → List WrittenField
option_parts number None = []
option_parts number (Some bytes) = Text number bytes ∷ []

pub option_spelled : (number : ℕ) (bytes : Option (List ℕ)) → option_map_or (bytes_field number) bytes [] ≡ encoded_fields (option_parts number bytes)
option_spelled number None = refl
option_spelled number (Some bytes) = sym (append-nil (bytes_field number bytes))

pub option_message : (number : ℕ) (bytes : Option (List ℕ)) → merged_onto None (bits number (option_parts number bytes)) ≡ bytes
option_message number None = refl
option_message number (Some bytes) = rw (same number) refl

-- Bytes that are always there

pub whole_message : (number : ℕ) (bytes : List ℕ) → merged_onto None (bits number (Text number bytes ∷ [])) ≡ Some bytes
whole_message number bytes = rw (same number) refl
