-- Names in lower case, byte by byte.
use Rattle.std.proofs.Common.{◌≡◌, ℕ, ◌<◌, ◌≤◌, ◌==◌, List, [], ◌∷◌, length, IsTrue, refl, ap, ◌∙◌}
use Rattle.std.specs.Char.{to_ascii_lowercase}
use Rattle.std.proofs.lemmas.Bool.{and_parts, and_from, eqb-true, eq-eqb}
use Rattle.std.proofs.lemmas.List.Elements.{All-nil, All-cons, All-head, All-tail, All-weaker}
use Rattle.http_header.specs.FieldName.{IsHeaderName}
use Rattle.http_header.specs.Token.{AllPass, is_token_byte, lowercase}
use Rattle.hpack_tables.specs.Marks.{is_name_byte, AreNameBytes}

parts : (b : ℕ) → IsTrue (is_name_byte b) → IsTrue (is_token_byte b) × (to_ascii_lowercase b ≡ b)
unfolding is_name_byte
parts b h = let p = and_parts (is_token_byte b) (to_ascii_lowercase b == b) h in (p.0, eqb-true (to_ascii_lowercase b) b p.1)

whole : (b : ℕ) → IsTrue (is_token_byte b) → to_ascii_lowercase b ≡ b → IsTrue (is_name_byte b)
unfolding is_name_byte
whole b h e = and_from (is_token_byte b) (to_ascii_lowercase b == b) h (eq-eqb (to_ascii_lowercase b) b e)

lower_from : (bytes : List ℕ) → AreNameBytes bytes → lowercase bytes ≡ bytes
lower_from [] h = refl
lower_from (b ∷ bytes) h =
    ap (λ (x : ℕ). x ∷ lowercase bytes) (parts b (All-head (λ x. IsTrue (is_name_byte x)) b bytes h)).1
    ∙ ap (λ (x : List ℕ). b ∷ x) (lower_from bytes (All-tail (λ x. IsTrue (is_name_byte x)) b bytes h))

names_from : (bytes : List ℕ) → AllPass is_token_byte bytes → lowercase bytes ≡ bytes → AreNameBytes bytes
names_from [] h e = All-nil (λ x. IsTrue (is_name_byte x))
names_from (b ∷ bytes) h e =
    let first : to_ascii_lowercase b ≡ b = cc in
    let more : lowercase bytes ≡ bytes = cc in
    All-cons (λ x. IsTrue (is_name_byte x)) b bytes (whole b (All-head (λ x. IsTrue (is_token_byte x)) b bytes h) first) (names_from bytes (All-tail (λ x. IsTrue (is_token_byte x)) b bytes h) more)

pub is_name : (bytes : List ℕ) → 0 < length bytes → length bytes ≤ 65535 → AreNameBytes bytes → IsHeaderName bytes
is_name bytes some few h = (((some, All-weaker (λ x. IsTrue (is_name_byte x)) (λ x. IsTrue (is_token_byte x)) (λ b t. (parts b t).0) bytes h), few), lower_from bytes h)

pub name_is : (bytes : List ℕ) → IsHeaderName bytes → (0 < length bytes) × (length bytes ≤ 65535) × AreNameBytes bytes
name_is bytes h = (h.0.0.0, h.0.1, names_from bytes h.0.0.1 h.1)
