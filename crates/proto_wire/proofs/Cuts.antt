-- The fields of a message, one after another.
use Rattle.std.proofs.Common.{◌≡◌, ℕ, zero, suc, ◌+◌, ◌<◌, ◌≤◌, Bool, true, false, cond, leb, ltb, List, [], ◌∷◌, length, drop, Result, Ok, Err, refl, ap, ◌∙◌, arith}
use Rattle.std.specs.Prelude.{IfOk}
use Rattle.std.proofs.lemmas.List.{length-drop}
use Rattle.proto_wire.specs.declared.reader.WireFault.{WireFault}
use Rattle.proto_wire.specs.declared.reader.WireFault.TheVariants.{Truncated, BadVarint, BadTag}
use Rattle.proto_wire.specs.Wire.{◌>>=◌, behind, varint_within, varint_at, value_at, TaggedValue, tagged_value_at}
use Rattle.proto_wire.specs.Fields.{prepend_field, span_at, parse_rest, fields_upto, fields_from}
use Rattle.proto_wire.proofs.Varint.{varint_within-nil}

IfOk-behind : (b : ℕ) (r : Result (ℕ × ℕ) WireFault) → IfOk (behind b r) (λ x. 1 ≤ x.1)
IfOk-behind b (Ok r) = omega arith
IfOk-behind b (Err e) = tt

IfOk-cond : {A : Type 0} (P : A → Type 0) (b : Bool) (x y : Result A WireFault) → IfOk x P → IfOk y P → IfOk (cond b x y) P
IfOk-cond P true x y p q = p
IfOk-cond P false x y p q = q

IfOk-bind : {A B : Type 0} (P : A → Type 0) (Q : B → Type 0) (r : Result A WireFault) (f : A → Result B WireFault) → IfOk r P → ((x : A) → P x → IfOk (f x) Q) → IfOk (r >>= f) Q
IfOk-bind P Q (Ok x) f p q = q x p
IfOk-bind P Q (Err e) f p q = tt

varint_within-size : (n : ℕ) (bytes : List ℕ) → IfOk (varint_within n bytes) (λ r. 1 ≤ r.1)
unfolding varint_within
varint_within-size zero [] = tt
varint_within-size (suc zero) [] = tt
varint_within-size (suc (suc n)) [] = tt
varint_within-size zero (b ∷ bytes) = tt
varint_within-size (suc zero) (b ∷ bytes) = IfOk-cond (λ r. 1 ≤ r.1) (leb b 1) (Ok (b, 1)) (Err BadVarint) (omega arith) tt
varint_within-size (suc (suc n)) (b ∷ bytes) = IfOk-cond (λ r. 1 ≤ r.1) (ltb b 128) (Ok (b, 1)) (behind b (varint_within (suc n) bytes)) (omega arith) (IfOk-behind b (varint_within (suc n) bytes))

any_ok : {A : Type 0} (r : Result A WireFault) → IfOk r (λ _. Unit {0})
any_ok (Ok x) = tt
any_ok (Err e) = tt

tagged_value_at-size : (bytes : List ℕ) → IfOk (tagged_value_at bytes) (λ body. 1 ≤ body.size)
unfolding tagged_value_at
tagged_value_at-size bytes =
    IfOk-bind (λ tag. 1 ≤ tag.1) (λ body. 1 ≤ body.size) (varint_at bytes) _ (varint_within-size 10 bytes)
    (λ tag le. IfOk-cond (λ body. 1 ≤ body.size) _ (Err BadTag) _ tt
    (IfOk-bind (λ _. Unit {0}) (λ body. 1 ≤ body.size) (value_at _ (drop tag.1 bytes)) _ (any_ok (value_at _ (drop tag.1 bytes))) (λ v u. omega (arith, le))))

-- a field takes a byte at least
pub tagged_value_at-some : (bytes : List ℕ) (body : TaggedValue) → tagged_value_at bytes ≡ Ok body → 0 < length bytes
unfolding tagged_value_at
tagged_value_at-some [] body e = let none = varint_within-nil 10 in absurd (let f : Err Truncated ≡ Ok body = rw none at e in cc)
tagged_value_at-some (b ∷ bytes) body e = omega arith

goes_same : (n m place b : ℕ) (bytes : List ℕ) (r : Result TaggedValue WireFault) → IfOk r (λ body. 1 ≤ body.size) → length bytes ≤ n → length bytes ≤ m
    → ((place : ℕ) (bytes : List ℕ) → length bytes ≤ n → length bytes ≤ m → fields_upto n place bytes ≡ fields_upto m place bytes)
    → parse_rest (fields_upto n) place (b ∷ bytes) r ≡ parse_rest (fields_upto m) place (b ∷ bytes) r
goes_same n m place b bytes (Ok body) le in_n in_m same =
    let short : length (drop body.size (b ∷ bytes)) ≤ length bytes = omega (arith, length-drop body.size (b ∷ bytes)) in
    ap (prepend_field (span_at place body)) (same (place + body.size) (drop body.size (b ∷ bytes)) (omega arith) (omega arith))
goes_same n m place b bytes (Err e) le in_n in_m same = refl

fields_upto-same : (n m place : ℕ) (bytes : List ℕ) → length bytes ≤ n → length bytes ≤ m → fields_upto n place bytes ≡ fields_upto m place bytes
unfolding fields_upto
fields_upto-same zero zero place bytes p q = refl
fields_upto-same zero (suc m) place [] p q = refl
fields_upto-same (suc n) zero place [] p q = refl
fields_upto-same (suc n) (suc m) place [] p q = refl
fields_upto-same zero (suc m) place (b ∷ bytes) p q = absurd (omega arith)
fields_upto-same (suc n) zero place (b ∷ bytes) p q = absurd (omega arith)
fields_upto-same (suc n) (suc m) place (b ∷ bytes) p q =
    goes_same n m place b bytes (tagged_value_at (b ∷ bytes)) (tagged_value_at-size (b ∷ bytes)) (omega arith) (omega arith) (λ at rest. fields_upto-same n m at rest)

from_here : (place b : ℕ) (bytes : List ℕ) (r : Result TaggedValue WireFault) → IfOk r (λ body. 1 ≤ body.size)
    → parse_rest (fields_upto (length bytes)) place (b ∷ bytes) r ≡ parse_rest fields_from place (b ∷ bytes) r
unfolding fields_from
from_here place b bytes (Ok body) le =
    let short : length (drop body.size (b ∷ bytes)) ≤ length bytes = omega (arith, length-drop body.size (b ∷ bytes)) in
    ap (prepend_field (span_at place body)) (fields_upto-same (length bytes) (length (drop body.size (b ∷ bytes))) (place + body.size) (drop body.size (b ∷ bytes)) short (omega arith))
from_here place b bytes (Err e) le = refl

-- the fields are the first one and those behind it
pub fields_from-step : (place b : ℕ) (bytes : List ℕ) → fields_from place (b ∷ bytes) ≡ parse_rest fields_from place (b ∷ bytes) (tagged_value_at (b ∷ bytes))
unfolding fields_from fields_upto
fields_from-step place b bytes = from_here place b bytes (tagged_value_at (b ∷ bytes)) (tagged_value_at-size (b ∷ bytes))

pub fields_from-first : (place : ℕ) (bytes rest : List ℕ) (body : TaggedValue) → 0 < length bytes → tagged_value_at bytes ≡ Ok body → rest ≡ drop body.size bytes
    → fields_from place bytes ≡ prepend_field (span_at place body) (fields_from (place + body.size) rest)
fields_from-first place [] rest body h e is = absurd (omega arith)
fields_from-first place (b ∷ bytes) rest body h e is = fields_from-step place b bytes ∙ rw (e, is) refl
