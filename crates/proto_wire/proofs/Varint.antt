-- Reading a varint byte by byte.
use Rattle.std.proofs.Common.{◌≡◌, ℕ, zero, suc, ◌+◌, ◌-◌, ◌*◌, ◌^◌, ◌<◌, ◌≤◌, List, [], ◌∷◌, length, get_or, drop, Result, Ok, Err, refl, sym, ap, ◌∙◌, arith}
use Rattle.std.proofs.lemmas.Bool.{lt-ltb, le-ltb, le-leb, lt-leb}
use Rattle.std.proofs.lemmas.List.{drop_more, drop_all}
use Rattle.std.proofs.lemmas.Grind.{pow_more}
use Rattle.std.proofs.Math.Nat.{pow-le-pow_right, mul-le-mul_right}
use Rattle.proto_wire.specs.declared.reader.WireFault.{WireFault}
use Rattle.proto_wire.specs.declared.reader.WireFault.TheVariants.{Truncated, BadVarint}
use Rattle.proto_wire.specs.Wire.{behind, varint_within}

-- the bytes before gave this number, and the next byte counts so much
abbrev pub after : ℕ → ℕ → ℕ → Result (ℕ × ℕ) WireFault → Result (ℕ × ℕ) WireFault
after value scale i (Ok r) = Ok (value + scale * r.0, i + r.1)
after value scale i (Err e) = Err e

-- what holds before the byte at i
pub record IsVarintSoFar (bytes : List ℕ) (value scale i : ℕ) : Type 0 where
  pub within : i ≤ 9
  pub scale_is : scale ≡ 128 ^ i
  pub small : value < scale
  pub so_far : varint_within 10 bytes ≡ after value scale i (varint_within (10 - i) (drop i bytes))

pub varint_within-nil : (n : ℕ) → varint_within n [] ≡ Err Truncated
unfolding varint_within
varint_within-nil zero = refl
varint_within-nil (suc zero) = refl
varint_within-nil (suc (suc n)) = refl

same : (r : Result (ℕ × ℕ) WireFault) → r ≡ after 0 1 0 r
same (Ok r) = let p : r.0 ≡ 0 + 1 * r.0 = omega arith in let q : r.1 ≡ 0 + r.1 = omega arith in ap Ok (rw (← p, ← q) refl)
same (Err e) = refl

pub begins : (bytes : List ℕ) → IsVarintSoFar bytes 0 1 0
begins bytes = record { within = omega arith; scale_is = refl; small = omega arith; so_far = same (varint_within 10 bytes) }

-- how much the byte at i counts
pub scale_cap : (i scale : ℕ) → i ≤ 9 → scale ≡ 128 ^ i → scale ≤ 2 ^ 63
scale_cap i scale le e = rw e (pow-le-pow_right {n = 128} (omega arith) le)

pub part_cap : (i scale part : ℕ) → i < 9 → scale ≡ 128 ^ i → part < 128 → part * scale + scale ≤ 2 ^ 63
part_cap i scale part lt e small =
    let next : scale * 128 ≤ 2 ^ 63 = scale_cap (i + 1) (scale * 128) (omega arith) (rw (e, pow_more 128 i) refl) in
    let some : part * scale ≤ 127 * scale = mul-le-mul_right scale (omega arith) in
    omega (arith, some, next)

more : (value scale i b : ℕ) (r : Result (ℕ × ℕ) WireFault) → after value scale i (behind b r) ≡ after (value + (b - 128) * scale) (scale * 128) (i + 1) r
more value scale i b (Ok r) =
    let p : value + scale * ((b - 128) + 128 * r.0) ≡ value + (b - 128) * scale + scale * 128 * r.0 = grind arith in
    let q : i + (r.1 + 1) ≡ i + 1 + r.1 = omega arith in
    ap Ok (rw (p, q) refl)
more value scale i b (Err e) = refl

within-step : (n b : ℕ) (bytes : List ℕ) → 128 ≤ b → varint_within (suc (suc n)) (b ∷ bytes) ≡ behind b (varint_within (suc n) bytes)
unfolding varint_within
within-step n b bytes le = rw (le-ltb b 128 le) refl

within-last : (n b : ℕ) (bytes : List ℕ) → b < 128 → varint_within (suc (suc n)) (b ∷ bytes) ≡ Ok (b, 1)
unfolding varint_within
within-last n b bytes lt = rw (lt-ltb b 128 lt) refl

-- a varint of one byte
pub short_varint : (bytes : List ℕ) (b : ℕ) → 1 ≤ length bytes → b ≡ get_or bytes 0 0 → b < 128 → varint_within 10 bytes ≡ Ok (b, 1)
short_varint [] b some is lt = absurd (omega arith)
short_varint (x ∷ bytes) b some is lt = let same : x ≡ b = sym is in rw same (within-last 8 b bytes lt)

pub steps : (bytes : List ℕ) (value scale i b : ℕ) → IsVarintSoFar bytes value scale i → i < 9 → i < length bytes → b ≡ get_or bytes i 0 → 128 ≤ b → b < 256
    → IsVarintSoFar bytes (value + (b - 128) * scale) (scale * 128) (i + 1)
steps bytes value scale i b h lt inside is le small =
    let k : 10 - i ≡ suc (suc (8 - i)) = omega arith in
    let k' : 10 - (i + 1) ≡ suc (8 - i) = omega arith in
    let d : drop i bytes ≡ b ∷ drop (i + 1) bytes = rw is (drop_more bytes i 0 inside) in
    let one : varint_within (10 - i) (drop i bytes) ≡ behind b (varint_within (10 - (i + 1)) (drop (i + 1) bytes)) = rw (k, k', d) (within-step (8 - i) b (drop (i + 1) bytes) le) in
    let cap : (b - 128) * scale ≤ 127 * scale = mul-le-mul_right scale (omega arith) in
    record {
      within = omega arith;
      scale_is = rw (h.scale_is, pow_more 128 i) refl;
      small = omega (arith, cap, h.small);
      so_far = h.so_far ∙ ap (after value scale i) one ∙ more value scale i b (varint_within (10 - (i + 1)) (drop (i + 1) bytes));
    }

pub ends : (bytes : List ℕ) (value scale i b : ℕ) → IsVarintSoFar bytes value scale i → i < 9 → i < length bytes → b ≡ get_or bytes i 0 → b < 128
    → varint_within 10 bytes ≡ Ok (value + b * scale, i + 1)
ends bytes value scale i b h lt inside is small =
    let k : 10 - i ≡ suc (suc (8 - i)) = omega arith in
    let d : drop i bytes ≡ b ∷ drop (i + 1) bytes = rw is (drop_more bytes i 0 inside) in
    let one : varint_within (10 - i) (drop i bytes) ≡ Ok (b, 1) = rw (k, d) (within-last (8 - i) b (drop (i + 1) bytes) small) in
    let p : value + scale * b ≡ value + b * scale = grind arith in
    h.so_far ∙ ap (after value scale i) one ∙ ap (λ (x : ℕ). Ok (x, i + 1)) p

pub ends_tenth : (bytes : List ℕ) (value scale i b : ℕ) → IsVarintSoFar bytes value scale i → i ≡ 9 → i < length bytes → b ≡ get_or bytes i 0 → b ≤ 1
    → varint_within 10 bytes ≡ Ok (value + b * scale, 10)
unfolding varint_within
ends_tenth bytes value scale i b h nine inside is small =
    let k : 10 - i ≡ 1 = omega arith in
    let d : drop i bytes ≡ b ∷ drop (i + 1) bytes = rw is (drop_more bytes i 0 inside) in
    let one : varint_within (10 - i) (drop i bytes) ≡ Ok (b, 1) = rw (k, d, le-leb b 1 small) refl in
    let p : value + scale * b ≡ value + b * scale = grind arith in
    let q : i + 1 ≡ 10 = omega arith in
    h.so_far ∙ ap (after value scale i) one ∙ ap Ok (rw (p, q) refl)

pub fails_tenth : (bytes : List ℕ) (value scale i b : ℕ) → IsVarintSoFar bytes value scale i → i ≡ 9 → i < length bytes → b ≡ get_or bytes i 0 → 1 < b
    → varint_within 10 bytes ≡ Err BadVarint
unfolding varint_within
fails_tenth bytes value scale i b h nine inside is big =
    let k : 10 - i ≡ 1 = omega arith in
    let d : drop i bytes ≡ b ∷ drop (i + 1) bytes = rw is (drop_more bytes i 0 inside) in
    let one : varint_within (10 - i) (drop i bytes) ≡ Err BadVarint = rw (k, d, lt-leb b 1 big) refl in
    h.so_far ∙ ap (after value scale i) one

pub is_cut : (bytes : List ℕ) (value scale i : ℕ) → IsVarintSoFar bytes value scale i → length bytes ≤ i → varint_within 10 bytes ≡ Err Truncated
is_cut bytes value scale i h le =
    let one : varint_within (10 - i) (drop i bytes) ≡ Err Truncated = rw (drop_all i bytes le) (varint_within-nil (10 - i)) in
    h.so_far ∙ ap (after value scale i) one
