-- A repeated field that was written is read again.
use Rattle.std.proofs.Common.{◌≡◌, ℕ, ◌^◌, ◌<◌, List, [], ◌∷◌, ◌++◌, map, length, refl, ap}
use Rattle.std.specs.Prelude.{All}
use Rattle.std.specs.List.{flat_map}
use Rattle.std.proofs.lemmas.List.Elements.{All-head, All-tail}
use Rattle.proto_wire.specs.Written.{bytes_field, WrittenField, Text, encoded_fields}
use Rattle.schema_numbers.specs.Numbers.{Numbers}
use Rattle.proto_schema.specs.declared.schema.MessageKind.{MessageKind}
use Rattle.proto_schema.specs.declared.schema.FieldKind.TheVariants as kind
use Rattle.aft_messages.proofs.Parts.{Each, bits, Clean}
use Rattle.aft_messages.proofs.FieldGroups.{InBunch, same}
use Rattle.aft_messages.proofs.Routes.{InRange, inner_fits, front_fits, back_fits}

pub each_from : {X : Type 0} (P : X → Type 0) (xs : List X) → All P xs → Each P xs
each_from P [] h = tt
each_from P (x ∷ xs) h = (All-head P x xs h, each_from P xs (All-tail P x xs h))

-- a message for each item
abbrev pub many_parts : {X : Type 0} → ℕ → (X → List ℕ) → List X → List WrittenField
many_parts number f [] = []
many_parts number f (x ∷ xs) = Text number (f x) ∷ many_parts number f xs

abbrev pub many_bytes : {X : Type 0} → ℕ → (X → List ℕ) → List X → List ℕ
many_bytes number f xs = flat_map (λ x. bytes_field number (f x)) xs

pub many_spelled : {X : Type 0} (number : ℕ) (f : X → List ℕ) (xs : List X) → many_bytes number f xs ≡ encoded_fields (many_parts number f xs)
many_spelled number f [] = refl
many_spelled number f (x ∷ xs) = ap (λ rest. bytes_field number (f x) ++ rest) (many_spelled number f xs)

pub many_own : {X : Type 0} (number : ℕ) (f : X → List ℕ) (xs : List X) → bits number (many_parts number f xs) ≡ map f xs
many_own number f [] = refl
many_own number f (x ∷ xs) = rw (same number, many_own number f xs) refl

pub many_bunch : {X : Type 0} (n : Numbers) (m : MessageKind) (number : ℕ) (f : X → List ℕ) (P : X → Type 0) → ((x : X) → P x → length (f x) < 2 ^ 64 → Clean n m (f x))
    → InRange number → (xs : List X) → Each P xs → length (many_bytes number f xs) < 2 ^ 64 → Each (InBunch n (kind.Message m) number) (many_parts number f xs)
many_bunch n m number f P c range [] each fits = tt
many_bunch n m number f P c range (x ∷ xs) each fits =
    let short = inner_fits number (f x) (front_fits (bytes_field number (f x)) (many_bytes number f xs) fits) in
    (((range.0, range.1, short), refl, c x each.0 short), many_bunch n m number f P c range xs each.1 (back_fits (bytes_field number (f x)) (many_bytes number f xs) fits))

pub many_said : {X : Type 0} (number : ℕ) (f : X → List ℕ) (g : List ℕ → X) (P : X → Type 0) → ((x : X) → P x → length (f x) < 2 ^ 64 → g (f x) ≡ x)
    → (xs : List X) → Each P xs → length (many_bytes number f xs) < 2 ^ 64 → map g (map f xs) ≡ xs
many_said number f g P says [] each fits = refl
many_said number f g P says (x ∷ xs) each fits =
    let short = inner_fits number (f x) (front_fits (bytes_field number (f x)) (many_bytes number f xs) fits) in
    rw (says x each.0 short, many_said number f g P says xs each.1 (back_fits (bytes_field number (f x)) (many_bytes number f xs) fits)) refl
