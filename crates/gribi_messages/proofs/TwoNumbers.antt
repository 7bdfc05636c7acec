-- Two numbers of a message, heard in one pass.
use Rattle.std.proofs.Common.{◌≡◌, ℕ, List, ◌∷◌, Option, Some, None, refl, ◌∙◌, sym}
use Rattle.std.specs.List.{cons_option, last_or}
use Rattle.std.specs.Option.{option_or}
use Rattle.proto_wire.specs.Fields.{FieldSpan}
use Rattle.proto_schema.specs.FieldValues.{number_in, numbers}

pub record AreScannedSoFar (one other : ℕ) (first second : Option ℕ) (rest all : List FieldSpan) : Type 0 where
  pub first_scanned : last_or first (numbers one rest) ≡ last_or None (numbers one all)
  pub second_scanned : last_or second (numbers other rest) ≡ last_or None (numbers other all)

last_cons : (x before : Option ℕ) (xs : List ℕ) → last_or before (cons_option x xs) ≡ last_or (option_or x before) xs
last_cons None before xs = refl
last_cons (Some x) before xs = refl

pub one_field : (one other : ℕ) (first new_first second new_second : Option ℕ) (f : FieldSpan) (before rest all : List FieldSpan)
    → AreScannedSoFar one other first second before all
    → before ≡ f ∷ rest
    → new_first ≡ option_or (number_in one f.number f.value) first
    → new_second ≡ option_or (number_in other f.number f.value) second
    → AreScannedSoFar one other new_first new_second rest all
one_field one other first new_first second new_second f before rest all h e a b =
    let was = rw e at h in
    record {
      first_scanned = rw a (sym (last_cons (number_in one f.number f.value) first (numbers one rest)) ∙ was.first_scanned);
      second_scanned = rw b (sym (last_cons (number_in other f.number f.value) second (numbers other rest)) ∙ was.second_scanned);
    }

pub ruleset both = (one_field)
