-- The tests of a numbering are its rules.
use Rattle.std.proofs.Common.{◌≡◌, ℕ, zero, suc, true, false, List, [], ◌∷◌, length, Bool, refl, sym, ap, subst, ◌∙◌, arith, map}
use Rattle.std.specs.Prelude.{◌==◌, ◌&&◌, slice_index}
use Rattle.std.specs.List.{list_all}
use Rattle.std.proofs.lemmas.Bool.{and_parts}
use Rattle.std.proofs.lemmas.Bool.Decides.{nat_tests}
use Rattle.schema_numbers.specs.Numbers.{Numbers, field_of, value_of}
use Rattle.schema_numbers.specs.Valid.{IsValid, messages, enumerations, are_distinct, is_field_number, is_enumerator_number}
use Rattle.schema_numbers.specs.Groups.{cut, message_sizes, enumeration_sizes, are_distinct_in, are_valid_fields, are_valid_values, has_zeros}

-- so many items from a place on
abbrev from : ℕ → ℕ → List ℕ → List ℕ
from zero i xs = []
from (suc k) i xs = slice_index xs i ∷ from k (suc i) xs

-- those of a list with one more item in front stand one further on
from_behind : (k i x : ℕ) (xs : List ℕ) → from k (suc i) (x ∷ xs) ≡ from k i xs
from_behind zero i x xs = refl
from_behind (suc k) i x xs = ap (λ l. slice_index xs i ∷ l) (from_behind k (suc i) x xs)

from_all : (xs : List ℕ) → from (length xs) 0 xs ≡ xs
from_all [] = refl
from_all (x ∷ xs) = ap (λ l. x ∷ l) (from_behind (length xs) 0 x xs ∙ from_all xs)

from_length : (k : ℕ) (xs : List ℕ) → length xs ≡ k → from k 0 xs ≡ xs
from_length k xs e = subst (λ k. from k 0 xs ≡ xs) e (from_all xs)

-- the numbers of each message are a piece
pub fields_distinct : (n : Numbers) → length n.fields ≡ 77 → list_all (λ m. are_distinct (map (field_of n) m)) messages ≡ are_distinct_in message_sizes n.fields
unfolding field_of are_distinct_in
fields_distinct n e = subst (λ fields. list_all (λ m. are_distinct (map (field_of n) m)) messages ≡ list_all are_distinct (cut message_sizes fields)) (from_length 77 n.fields e) refl

-- and those of each enumeration
pub values_distinct : (n : Numbers) → length n.values ≡ 28 → list_all (λ e. are_distinct (map (value_of n) e)) enumerations ≡ are_distinct_in enumeration_sizes n.values
unfolding value_of are_distinct_in
values_distinct n e = subst (λ values. list_all (λ e. are_distinct (map (value_of n) e)) enumerations ≡ list_all are_distinct (cut enumeration_sizes values)) (from_length 28 n.values e) refl

is_length : (k n : ℕ) → (k == n) ≡ true → k ≡ n
is_length k n h = grind (arith, nat_tests)

two : (a b : Bool) → a ≡ true → b ≡ true → (a && b) ≡ true
two true true p q = refl
two true false p q = cc
two false b p q = cc

pub is_valid : (n : Numbers) → are_valid_fields n.fields ≡ true → are_valid_values n.values ≡ true → IsValid n
unfolding are_valid_fields are_valid_values value_of
is_valid n f v =
    let f2 = and_parts (length n.fields == 77 && list_all is_field_number n.fields) (are_distinct_in message_sizes n.fields) f in
    let f1 = and_parts (length n.fields == 77) (list_all is_field_number n.fields) f2.0 in
    let v3 = and_parts ((length n.values == 28 && list_all is_enumerator_number n.values) && are_distinct_in enumeration_sizes n.values) (has_zeros n.values) v in
    let v2 = and_parts (length n.values == 28 && list_all is_enumerator_number n.values) (are_distinct_in enumeration_sizes n.values) v3.0 in
    let v1 = and_parts (length n.values == 28) (list_all is_enumerator_number n.values) v2.0 in
    let fields = is_length (length n.fields) 77 f1.0 in
    let values = is_length (length n.values) 28 v1.0 in
    record {
      each_field = fields;
      each_value = values;
      fields_in_range = f1.1;
      values_in_range = v1.1;
      fields_distinct = fields_distinct n fields ∙ f2.1;
      values_distinct = values_distinct n values ∙ v2.1;
      zeros = v3.1;
    }

length_is : (k n : ℕ) → k ≡ n → (k == n) ≡ true
length_is k n h = grind (arith, nat_tests)

pub fields_pass : (n : Numbers) → IsValid n → are_valid_fields n.fields ≡ true
unfolding are_valid_fields
fields_pass n valid =
    two (length n.fields == 77 && list_all is_field_number n.fields) (are_distinct_in message_sizes n.fields)
    (two (length n.fields == 77) (list_all is_field_number n.fields) (length_is (length n.fields) 77 valid.each_field) valid.fields_in_range)
    (sym (fields_distinct n valid.each_field) ∙ valid.fields_distinct)

pub values_pass : (n : Numbers) → IsValid n → are_valid_values n.values ≡ true
unfolding are_valid_values value_of
values_pass n valid =
    two ((length n.values == 28 && list_all is_enumerator_number n.values) && are_distinct_in enumeration_sizes n.values) (has_zeros n.values)
    (two (length n.values == 28 && list_all is_enumerator_number n.values) (are_distinct_in enumeration_sizes n.values)
    (two (length n.values == 28) (list_all is_enumerator_number n.values) (length_is (length n.values) 28 valid.each_value) valid.values_in_range)
    (sym (values_distinct n valid.each_value) ∙ valid.values_distinct))
    valid.zeros

pub fields_in_range : (fields : List ℕ) → are_valid_fields fields ≡ true → list_all is_field_number fields ≡ true
unfolding are_valid_fields
fields_in_range fields h =
    let two = and_parts (length fields == 77 && list_all is_field_number fields) (are_distinct_in message_sizes fields) h in
    (and_parts (length fields == 77) (list_all is_field_number fields) two.0).1
