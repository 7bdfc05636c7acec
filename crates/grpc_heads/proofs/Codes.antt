-- Status codes that are found, and details that have no other beside them.
use Rattle.std.proofs.Common.{◌≡◌, ℕ, ◌+◌, ◌<◌, ◌≤◌, length, drop, get_or, add-one, drop-cons, ap, ◌∙◌, Bool, true, false, List, [], ◌∷◌, Option, Some, None, refl, sym, cond}
use Rattle.std.specs.Prelude.{nat_le, IfSome, option_copied, codes, Ok}
use Rattle.std.specs.Borrow.{Bor}
use Rattle.std.specs.List.{find, list_all}
use Rattle.std.proofs.lemmas.Bool.{and_parts, leb-true}
use Rattle.std.proofs.lemmas.List.{drop_all}
use Rattle.std.specs.Str.{bytes_eq}
use Rattle.schema_numbers.specs.Numbers.{Numbers}
use Rattle.hpack_tables.specs.declared.field.Field.{Field}
use Rattle.grpc_heads.specs.GrpcStatus.{GrpcStatus}
use Rattle.grpc_heads.specs.Heads.{first_value}
use Rattle.grpc_heads.specs.Trailers.{only, status_codes, code_of, status_from_fields, status_coded, status_by_text, status_in_trailers}
use Rattle.grpc_heads.specs.Written.{digits}

one_more : {X : Type 0} (p q : X → Bool) (y x : X) (ys : List X) (b : Bool) → p y ≡ b → q y ≡ true → (find p ys ≡ Some x → q x ≡ true) → cond b (Some y) (find p ys) ≡ Some x → q x ≡ true
one_more p q y x ys true t here rest e = let same : y ≡ x = cc in ap q (sym same) ∙ here
one_more p q y x ys false t here rest e = rest e

-- what holds of all holds of the one that is found
found_one : {X : Type 0} (p q : X → Bool) (xs : List X) → list_all q xs ≡ true → (x : X) → find p xs ≡ Some x → q x ≡ true
found_one p q [] h x e = cc
found_one p q (y ∷ ys) h x e = let both = and_parts (q y) (list_all q ys) h in one_more p q y x ys (p y) refl both.0 (found_one p q ys both.1 x) e

find_at : {X : Type 0} (p : X → Bool) (xs : List X) (place : ℕ) (d : X) → place < length xs → find p (drop place xs) ≡ cond (p (get_or xs place d)) (Some (get_or xs place d)) (find p (drop (place + 1) xs))
find_at p xs place d h = rw add-one (ap (find p) (drop-cons xs place d h))

pub find_here : {X : Type 0} (p : X → Bool) (xs : List X) (place : ℕ) (d : X) → place < length xs → p (get_or xs place d) ≡ true → find p (drop place xs) ≡ Some (get_or xs place d)
find_here p xs place d h e = find_at p xs place d h ∙ ap (λ b. cond b (Some (get_or xs place d)) (find p (drop (place + 1) xs))) e

pub find_next : {X : Type 0} (p : X → Bool) (xs : List X) (place : ℕ) (d : X) → place < length xs → p (get_or xs place d) ≡ false → find p (drop place xs) ≡ find p (drop (place + 1) xs)
find_next p xs place d h e = find_at p xs place d h ∙ ap (λ b. cond b (Some (get_or xs place d)) (find p (drop (place + 1) xs))) e

pub find_end : {X : Type 0} (p : X → Bool) (xs : List X) (place : ℕ) → length xs ≤ place → find p (drop place xs) ≡ None
find_end p xs place h = ap (find p) (drop_all place xs h)

pub code_within : (text : List ℕ) (result : Option ℕ) → result ≡ code_of text → IfSome result (λ code. code ≤ 16)
unfolding code_of
code_within text None e = tt
code_within text (Some code) e = leb-true code 16 (found_one (λ code. bytes_eq (digits code) text) (λ code. nat_le code 16) status_codes refl code (sym e))

-- the one that was found, if no other follows it
abbrev pub only_after : {X : Type 0} → Option X → List X → Option X
only_after None [] = None
only_after None (x ∷ xs) = only_after (Some x) xs
only_after (Some x) [] = Some x
only_after (Some x) (y ∷ ys) = None

pub begins : {X : Type 0} (xs : List X) → only_after None xs ≡ only xs
begins [] = refl
begins (x ∷ []) = refl
begins (x ∷ y ∷ ys) = refl

-- the status of trailers, from their code
pub given : (n : Numbers) (trailers seen : List Field) (value : Option (Bor (List ℕ))) (text : Bor (List ℕ)) (coded : Option ℕ) (code : ℕ) (status : GrpcStatus) → option_copied value ≡ first_value (codes "grpc-status") seen → value ≡ Some text → seen ≡ trailers → coded ≡ code_of text.now → coded ≡ Some code → status ≡ status_from_fields n code seen → Ok status ≡ status_in_trailers n trailers
unfolding status_in_trailers
given n trailers seen value text coded code status first is same by found ends =
    let read : first_value (codes "grpc-status") seen ≡ Some text.now = sym first ∙ ap option_copied is in
    sym (ap (λ fields. status_by_text n fields (first_value (codes "grpc-status") fields)) (sym same)
    ∙ ap (status_by_text n seen) read ∙ ap (status_coded n seen) (sym by ∙ found) ∙ ap (λ status. Ok status) (sym ends))
