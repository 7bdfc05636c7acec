-- The numbers of a numbering, cut into those of each message and of each enumeration.
use Rattle.std.specs.Prelude.{◌≡◌, ℕ, ◌==◌, Option, Some, None, ◌&&◌, Bool, List, [], ◌∷◌, length, take, drop, slice_index}
use Rattle.std.specs.List.{list_all}
use Rattle.schema_numbers.specs.Numbers.{Numbers}
use Rattle.schema_numbers.specs.Valid.{IsValid, are_distinct, is_field_number, is_enumerator_number}

-- pieces of these lengths, one behind another
abbrev pub cut : List ℕ → List ℕ → List (List ℕ)
cut [] numbers = []
cut (size ∷ sizes) numbers = take size numbers ∷ cut sizes (drop size numbers)

-- how many fields each message has, in the order of the names
abbrev pub message_sizes : List ℕ
message_sizes =
    3 ∷ 11 ∷ 3 ∷ 2 ∷ 3 ∷ 4 ∷ 1 ∷ 3 ∷ 1 ∷ 8 ∷ 4 ∷ 2 ∷ 1 ∷ 2 ∷ 2 ∷ 2 ∷ 2 ∷ 2 ∷ 2 ∷ 2 ∷ 2 ∷ 2 ∷ 1 ∷ 2 ∷ 5 ∷ 2 ∷ 2 ∷ 1 ∷ []

-- how many enumerators each enumeration has
abbrev pub enumeration_sizes : List ℕ
enumeration_sizes = 3 ∷ 2 ∷ 2 ∷ 2 ∷ 4 ∷ 1 ∷ 6 ∷ 2 ∷ 2 ∷ 4 ∷ []

-- no number stands twice in a piece
unfoldable pub are_distinct_in : List ℕ → List ℕ → Bool
are_distinct_in sizes numbers = list_all are_distinct (cut sizes numbers)

-- the enumerators that an absent field means
abbrev pub has_zeros : List ℕ → Bool
has_zeros values = slice_index values 3 == 0 && slice_index values 5 == 0 && slice_index values 7 == 0

-- the tests that make a numbering valid
unfoldable pub are_valid_fields : List ℕ → Bool
are_valid_fields fields = length fields == 77 && list_all is_field_number fields && are_distinct_in message_sizes fields

unfoldable pub are_valid_values : List ℕ → Bool
are_valid_values values =
    length values == 28 && list_all is_enumerator_number values && are_distinct_in enumeration_sizes values
    && has_zeros values

-- the numbering of these numbers, if it is valid
abbrev pub IsNumberingOf : List ℕ → List ℕ → Option Numbers → Type 0
IsNumberingOf fields values None = IsValid (record { fields = fields; values = values }) → ⊥
IsNumberingOf fields values (Some n) = n ≡ record { fields = fields; values = values }
