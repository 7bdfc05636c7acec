-- No spelling of a number is shorter than the one that is written.
use Rattle.std.proofs.Common.{◌≡◌, ℕ, zero, suc, subst, ◌+◌, ◌*◌, ◌/◌, ◌^◌, ◌<◌, ◌≤◌, ◌⊎◌, inl, inr, Bool, true, false, cond, leb, ltb, List, [], ◌∷◌, length, Result, Ok, Err, refl, arith}
use Rattle.std.specs.Prelude.{All, IfOk}
use Rattle.std.proofs.lemmas.Bool.{lt-ltb, le-ltb, cases_lt, leb-true, ltb-true}
use Rattle.std.proofs.lemmas.Grind.{pow_more}
use Rattle.std.proofs.lemmas.List.Elements.{All-head, All-tail}
use Rattle.std.proofs.Math.Nat.{pow-suc}
use Rattle.proto_wire.specs.declared.reader.WireFault.{WireFault}
use Rattle.proto_wire.specs.declared.reader.WireFault.TheVariants.{BadVarint}
use Rattle.proto_wire.specs.Wire.{behind, varint_within, varint_at}
use Rattle.proto_wire.specs.Written.{varint_upto, varint}

-- so many bytes spell a number below this power
abbrev IsSmall : Result (ℕ × ℕ) WireFault → Type 0
IsSmall r = IfOk r (λ x. (1 ≤ x.1) × (x.0 < 128 ^ x.1))

small_last : (b : ℕ) (t : Bool) (other : Result (ℕ × ℕ) WireFault) → (t ≡ true → b < 128) → IsSmall other → IsSmall (cond t (Ok (b, 1)) other)
small_last b true other low h = (omega arith, let lt = low refl in omega (arith, lt))
small_last b false other low h = h

small_behind : (b : ℕ) (r : Result (ℕ × ℕ) WireFault) → b < 256 → IsSmall r → IsSmall (behind b r)
small_behind b (Ok r) lt h =
    let more : 128 ^ (r.1 + 1) ≡ 128 ^ r.1 * 128 = pow_more 128 r.1 in
    let low = h.1 in
    (omega arith, omega (arith, more, low, lt))
small_behind b (Err e) lt h = tt

varint_within-small : (n : ℕ) (bytes : List ℕ) → All (λ byte. byte < 256) bytes → IsSmall (varint_within n bytes)
unfolding varint_within
varint_within-small zero [] h = tt
varint_within-small (suc zero) [] h = tt
varint_within-small (suc (suc n)) [] h = tt
varint_within-small zero (b ∷ bytes) h = tt
varint_within-small (suc zero) (b ∷ bytes) h = small_last b (leb b 1) (Err BadVarint) (λ t. let low : b ≤ 1 = leb-true b 1 t in omega (arith, low)) tt
varint_within-small (suc (suc n)) (b ∷ bytes) h =
    small_last b (ltb b 128) (behind b (varint_within (suc n) bytes)) (λ t. ltb-true b 128 t)
    (small_behind b (varint_within (suc n) bytes) (All-head (λ byte. byte < 256) b bytes h) (varint_within-small (suc n) bytes (All-tail (λ byte. byte < 256) b bytes h)))

some_more : (n k : ℕ) → 128 ≤ n → n < 128 ^ suc k → 1 ≤ k
some_more n zero big lt = absurd (omega (arith, big, lt))
some_more n (suc k) big lt = omega arith

length-varint_upto : (j n k : ℕ) → 1 ≤ k → n < 128 ^ k → length (varint_upto j n) ≤ k
unfolding varint_upto
length-varint_upto zero n k some lt = some
length-varint_upto (suc j) n zero some lt = absurd (omega arith)
length-varint_upto (suc j) n (suc k) some lt = by (cases_lt n 128) (λ more less. length-varint_upto j (n / 128) k more less)
  where
    by : (n < 128) ⊎ (128 ≤ n) → (1 ≤ k → n / 128 < 128 ^ k → length (varint_upto j (n / 128)) ≤ k) → length (varint_upto (suc j) n) ≤ suc k
    by (inl small) others = rw (lt-ltb n 128 small) (omega arith)
    by (inr big) others =
        let power : 128 ^ suc k ≡ 128 ^ k * 128 = pow-suc 128 k in
        let less : n / 128 < 128 ^ k = omega (arith, power, lt) in
        let rest : length (varint_upto j (n / 128)) ≤ k = others (some_more n k big lt) less in
        rw (le-ltb n 128 big) (omega (arith, rest))

pub length-varint : (n k : ℕ) (bytes : List ℕ) → All (λ byte. byte < 256) bytes → varint_at bytes ≡ Ok (n, k) → length (varint n) ≤ k
length-varint n k bytes h e =
    let small : IsSmall (Ok (n, k)) = subst IsSmall e (varint_within-small 10 bytes h) in
    length-varint_upto 9 n k small.0 small.1
