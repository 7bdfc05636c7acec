-- When a list of names is taken for the network instances.
use Rattle.std.specs.Prelude.{ℕ, Bool, false, ◌||◌, nat_lt, ◌==◌, List, [], ◌∷◌, length, Option, Some, None, if◌then◌else◌}
use Rattle.std.specs.List.{list_any, position}
use Rattle.std.specs.Str.{bytes_eq}
use Rattle.aft_entries.specs.declared.instances.InstancesFault.{InstancesFault}
use Rattle.aft_entries.specs.declared.instances.InstancesFault.TheVariants.{Empty, BadName, Twice, TooMany}

-- what stands beside the first test that holds
abbrev pub first_that_holds : {X : Type 0} → List (Bool × X) → Option X
first_that_holds [] = None
first_that_holds ((holds, cause) ∷ rest) = if holds then Some cause else first_that_holds rest

-- whether two places of a list hold the same
abbrev pub holds_twice : {X : Type 0} → (X → X → Bool) → List X → Bool
holds_twice same [] = false
holds_twice same (x ∷ xs) = list_any (λ other. same other x) xs || holds_twice same xs

abbrev pub is_bad_name : List ℕ → Bool
is_bad_name name = length name == 0 || nat_lt 255 (length name)

-- the first fault of things with names
abbrev pub fault_by : {X : Type 0} → (X → List ℕ) → List X → Option InstancesFault
fault_by name xs = first_that_holds (
    (length xs == 0, Empty)
    ∷ (list_any (λ x. is_bad_name (name x)) xs, BadName)
    ∷ (holds_twice (λ x y. bytes_eq (name x) (name y)) xs, Twice)
    ∷ (nat_lt 256 (length xs), TooMany)
    ∷ [])

-- the first fault of a list of names
unfoldable pub fault_of : List (List ℕ) → Option InstancesFault
fault_of names = fault_by (λ name. name) names

-- the place of a name
abbrev pub number_of : List (List ℕ) → List ℕ → Option ℕ
number_of names name = position (λ other. bytes_eq other name) names
