-- The ranges of the numbers of a valid numbering, and the default one.
use Rattle.std.proofs.Common.{◌≡◌, ℕ, zero, suc, ◌<◌, ◌≤◌, ◌^◌, true, List, [], ◌∷◌, length, Bool, get_or, refl, arith}
use Rattle.std.specs.Prelude.{nat_le, nat_lt, ◌&&◌, ◌||◌}
use Rattle.std.specs.List.{list_all}
use Rattle.std.proofs.lemmas.Bool.{and_parts, leb-true}
use Rattle.schema_numbers.specs.Numbers.{Numbers, field_of, value_of}
use Rattle.schema_numbers.specs.Valid.{IsValid, is_field_number, is_enumerator_number}
use Rattle.schema_numbers.specs.Default.{default_numbers}

-- each item passes a test that all pass
pub passes : (p : ℕ → Bool) (xs : List ℕ) (i d : ℕ) → list_all p xs ≡ true → i < length xs → p (get_or xs i d) ≡ true
passes p [] i d all lt = absurd (omega arith)
passes p (x ∷ xs) zero d all lt = (and_parts (p x) (list_all p xs) all).0
passes p (x ∷ xs) (suc i) d all lt = passes p xs i d (and_parts (p x) (list_all p xs) all).1 (omega arith)

pub field_number : (v : ℕ) → is_field_number v ≡ true → (1 ≤ v) × (v < 2 ^ 29)
field_number v h =
    let both = (and_parts (nat_le 1 v && nat_le v 536870911) (nat_lt v 19000 || nat_lt 19999 v) h).0 in
    let parts = and_parts (nat_le 1 v) (nat_le v 536870911) both in
    let low : 1 ≤ v = leb-true 1 v parts.0 in
    let high : v ≤ 536870911 = leb-true v 536870911 parts.1 in
    (low, omega arith)

pub field_in_range : (n : Numbers) (i v : ℕ) → IsValid n → i < 77 → v ≡ get_or n.fields i v → (1 ≤ v) × (v < 2 ^ 29)
field_in_range n i v valid lt is =
    field_number v (rw (← is) at (passes is_field_number n.fields i v valid.fields_in_range (omega (arith, valid.each_field))))

pub value_in_range : (n : Numbers) (i v : ℕ) → IsValid n → i < 28 → v ≡ get_or n.values i v → v < 2 ^ 31
value_in_range n i v valid lt is =
    let low : v ≤ 2147483647 = leb-true v 2147483647 (rw (← is) at (passes is_enumerator_number n.values i v valid.values_in_range (omega (arith, valid.each_value)))) in
    omega arith

pub default_is_valid : IsValid default_numbers
unfolding field_of value_of
default_is_valid = record { each_field = refl; each_value = refl; fields_in_range = refl; values_in_range = refl; fields_distinct = refl; values_distinct = refl; zeros = refl }
