-- What the schema says of a field, by the field's place in its message: in a valid numbering no two fields of a message share a number.
use Rattle.std.proofs.Common.{◌≡◌, ℕ, zero, suc, ◌<◌, Bool, true, false, eqb, List, [], ◌∷◌, length, map, get_or, refl, arith}
use Rattle.std.specs.Prelude.{not, ◌||◌}
use Rattle.std.specs.List.{list_all, list_any}
use Rattle.std.proofs.lemmas.Bool.{and_parts, eq-eqb}
use Rattle.schema_numbers.specs.Numbers.{Numbers, field_of}
use Rattle.schema_numbers.specs.Valid.{IsValid, messages, are_distinct}
use Rattle.proto_schema.specs.declared.schema.FieldKind.{FieldKind}
use Rattle.proto_schema.specs.Schema.{listed}

abbrev pub Rows : Type 0
Rows = List (ℕ × FieldKind)

abbrev pub numbers_of : Rows → List ℕ
numbers_of rows = map (λ row. row.0) rows

pub not_true : (b : Bool) → not b ≡ true → b ≡ false
not_true true h = cc
not_true false h = refl

pub or_no : (a b : Bool) → (a || b) ≡ false → (a ≡ false) × (b ≡ false)
or_no false false h = (refl, refl)
or_no false true h = cc
or_no true b h = cc

-- a number that isn't among these isn't that of a row
not_here : (n : ℕ) (rows : Rows) (i : ℕ) (d : ℕ × FieldKind) → list_any (λ m. eqb m n) (numbers_of rows) ≡ false → i < length rows → eqb (get_or rows i d).0 n ≡ false
not_here n [] i d h lt = absurd (omega arith)
not_here n (row ∷ rows) zero d h lt = (or_no (eqb row.0 n) (list_any (λ m. eqb m n) (numbers_of rows)) h).0
not_here n (row ∷ rows) (suc i) d h lt = not_here n rows i d (or_no (eqb row.0 n) (list_any (λ m. eqb m n) (numbers_of rows)) h).1 (omega arith)

-- the row of a number
pub listed_at : (rows : Rows) (i : ℕ) (d : ℕ × FieldKind) → are_distinct (numbers_of rows) ≡ true → i < length rows → listed (get_or rows i d).0 rows ≡ (get_or rows i d).1
listed_at [] i d h lt = absurd (omega arith)
listed_at (row ∷ rows) zero d h lt = rw (eq-eqb row.0 row.0 refl) refl
listed_at (row ∷ rows) (suc i) d h lt =
    let parts = and_parts (not (list_any (λ m. eqb m row.0) (numbers_of rows))) (are_distinct (numbers_of rows)) h in
    let other : eqb (get_or rows i d).0 row.0 ≡ false = not_here row.0 rows i d (not_true (list_any (λ m. eqb m row.0) (numbers_of rows)) parts.0) (omega arith) in
    rw other (listed_at rows i d parts.1 (omega arith))

pub all_at : {A : Type 0} (p : A → Bool) (xs : List A) (i : ℕ) (d : A) → list_all p xs ≡ true → i < length xs → p (get_or xs i d) ≡ true
all_at p [] i d h lt = absurd (omega arith)
all_at p (x ∷ xs) zero d h lt = (and_parts (p x) (list_all p xs) h).0
all_at p (x ∷ xs) (suc i) d h lt = all_at p xs i d (and_parts (p x) (list_all p xs) h).1 (omega arith)

-- the fields of the message at this place of the schema have numbers of their own
pub distinct_at : (n : Numbers) → IsValid n → (i : ℕ) → i < 28 → are_distinct (map (field_of n) (get_or messages i [])) ≡ true
distinct_at n valid i lt = all_at (λ m. are_distinct (map (field_of n) m)) messages i [] valid.fields_distinct lt
