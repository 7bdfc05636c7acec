-- Writing a varint byte by byte.
use Rattle.std.proofs.Common.{◌≡◌, ℕ, zero, suc, ◌+◌, ◌-◌, ◌/◌, ◌%◌, ◌<◌, ◌≤◌, List, [], ◌∷◌, ◌++◌, length, set, take, refl, sym, ap, ◌∙◌, append_assoc, arith}
use Rattle.std.proofs.lemmas.Bool.{lt-ltb, le-ltb}
use Rattle.std.proofs.lemmas.List.{take_more_set, length-set}
use Rattle.proto_wire.specs.Written.{varint_upto, varint}

-- the bytes so far, and those of the rest, are those of the number
pub record IsWrittenSoFar (value : ℕ) (bytes : List ℕ) (count rest : ℕ) : Type 0 where
  pub within : count ≤ 9
  pub room : length bytes ≡ 10
  pub so_far : take count bytes ++ varint_upto (9 - count) rest ≡ varint value

pub steps : (value : ℕ) (bytes : List ℕ) (count rest : ℕ) → IsWrittenSoFar value bytes count rest → 128 ≤ rest → count < 9
    → IsWrittenSoFar value (set bytes count ((rest % 128) + 128)) (count + 1) (rest / 128)
unfolding varint_upto
steps value bytes count rest h le lt =
    let k : 9 - count ≡ suc (9 - (count + 1)) = omega arith in
    let inside : count < length bytes = omega (arith, h.room) in
    let one : varint_upto (9 - count) rest ≡ ((rest % 128) + 128) ∷ varint_upto (9 - (count + 1)) (rest / 128) = rw (k, le-ltb rest 128 le) refl in
    let front : take (count + 1) (set bytes count ((rest % 128) + 128)) ≡ take count bytes ++ ((rest % 128) + 128) ∷ [] = take_more_set bytes count ((rest % 128) + 128) inside in
    record {
      within = omega arith;
      room = length-set bytes count ((rest % 128) + 128) ∙ h.room;
      so_far = rw (front, append_assoc) (ap (λ (x : List ℕ). take count bytes ++ x) (sym one) ∙ h.so_far);
    }

last : (k rest : ℕ) → rest < 128 → varint_upto k rest ≡ (rest % 128) ∷ []
unfolding varint_upto
last zero rest lt = refl
last (suc k) rest lt = let same : rest % 128 ≡ rest = omega arith in rw (lt-ltb rest 128 lt, same) refl

pub ends : (value : ℕ) (bytes : List ℕ) (count rest : ℕ) → IsWrittenSoFar value bytes count rest → (rest < 128 → ⊥) → 9 ≤ count
    → take (count + 1) (set bytes count (rest % 128)) ≡ varint value
unfolding varint_upto
ends value bytes count rest h big le =
    let k : 9 - count ≡ 0 = omega (arith, h.within) in
    let inside : count < length bytes = omega (arith, h.room, h.within) in
    let one : varint_upto (9 - count) rest ≡ (rest % 128) ∷ [] = rw k refl in
    take_more_set bytes count (rest % 128) inside ∙ ap (λ (x : List ℕ). take count bytes ++ x) (sym one) ∙ h.so_far

pub ends_small : (value : ℕ) (bytes : List ℕ) (count rest : ℕ) → IsWrittenSoFar value bytes count rest → rest < 128
    → take (count + 1) (set bytes count (rest % 128)) ≡ varint value
ends_small value bytes count rest h small =
    let inside : count < length bytes = omega (arith, h.room, h.within) in
    take_more_set bytes count (rest % 128) inside ∙ ap (λ (x : List ℕ). take count bytes ++ x) (sym (last (9 - count) rest small)) ∙ h.so_far

-- a varint of one byte
pub short_varint : (n : ℕ) → n < 128 → varint n ≡ n ∷ []
unfolding varint_upto
short_varint n lt = rw (lt-ltb n 128 lt) refl
