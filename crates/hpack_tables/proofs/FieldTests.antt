-- Tests of names and values.
use Rattle.std.proofs.Common.{◌≡◌, ◌↔◌, ℕ, Bool, true, false, List, IsTrue, refl, sym, length, arith}
use Rattle.std.specs.Prelude.{nat_lt, nat_le}
use Rattle.std.specs.List.{list_all}
use Rattle.std.proofs.lemmas.Bool.{and_from}
use Rattle.std.proofs.lemmas.Bool.Decides.{nat_tests, Decides-by_and}
use Rattle.std.proofs.lemmas.Slice.Eq.{bytes_eq-Decides}
use Rattle.http_header.specs.FieldName.{is_header_name, IsHeaderName}
use Rattle.http_header.specs.FieldValue.{IsFieldValue}
use Rattle.http_header.specs.Token.{AllPass, token_test, is_token_byte, is_value_byte}
use Rattle.http_header.proofs.TokenLemmas.{IsHeaderName-from_test, AllPass-from_test}

all_test : (test : ℕ → Bool) (bytes : List ℕ) → AllPass test bytes → list_all test bytes ≡ true
all_test test bytes =
    (Decides-by_and test (λ b. IsTrue (test b)) (list_all test) (λ b. (λ h. h, λ h. h)) refl (λ _ _. refl) bytes).1

name_test : (bytes : List ℕ) → IsHeaderName bytes → is_header_name bytes ≡ true
unfolding is_token_byte
name_test bytes h =
    let some : nat_lt 0 (length bytes) ≡ true = let k = h.0.0.0 in grind (arith, nat_tests) in
    let few : nat_le (length bytes) 65535 ≡ true = let k = h.0.1 in grind (arith, nat_tests) in
    and_from _ _ (and_from _ _ (and_from _ _ some (all_test token_test bytes h.0.0.1)) few) ((bytes_eq-Decides _ _).1 h.1)

same_test : {P : Type 0} (r t : Bool) → (IsTrue r ↔ P) → (t ≡ true → P) → (P → t ≡ true) → r ≡ t
same_test true t h from to = sym (to (h.0 refl))
same_test false true h from to = h.1 (from refl)
same_test false false h from to = refl

pub name_is : (r : Bool) (bytes : List ℕ) → (IsTrue r ↔ IsHeaderName bytes) → r ≡ is_header_name bytes
name_is r bytes h = same_test r (is_header_name bytes) h (IsHeaderName-from_test bytes) (name_test bytes)

pub value_is : (r : Bool) (bytes : List ℕ) → (IsTrue r ↔ IsFieldValue bytes) → r ≡ list_all is_value_byte bytes
value_is r bytes h = same_test r (list_all is_value_byte bytes) h (AllPass-from_test is_value_byte bytes) (all_test is_value_byte bytes)
