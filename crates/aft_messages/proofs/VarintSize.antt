-- How long a varint is.
use Rattle.std.proofs.Common.{◌≡◌, ℕ, zero, suc, ◌+◌, ◌-◌, ◌/◌, ◌≤◌, ◌<◌, length, refl, arith}
use Rattle.std.proofs.lemmas.Bool.{lt-ltb, le-ltb}
use Rattle.proto_wire.specs.Written.{varint, varint_upto}

-- what holds once so many bytes are counted, the last of them not yet written, and this is left of the number
pub record IsSizeSoFar (value size rest : ℕ) : Type 0 where
  pub low : 1 ≤ size
  pub high : size ≤ 10
  pub counted : length (varint value) + 1 ≡ size + length (varint_upto (10 - size) rest)

pub begins : (value : ℕ) → IsSizeSoFar value 1 value
begins value = record { low = omega arith; high = omega arith; counted = omega arith }

one_more : (k rest : ℕ) → 128 ≤ rest → length (varint_upto (suc k) rest) ≡ 1 + length (varint_upto k (rest / 128))
unfolding varint_upto
one_more k rest le = rw (le-ltb rest 128 le) (omega arith)

last_one : (k rest : ℕ) → rest < 128 → length (varint_upto k rest) ≡ 1
unfolding varint_upto
last_one zero rest lt = refl
last_one (suc k) rest lt = rw (lt-ltb rest 128 lt) refl

tenth : (rest : ℕ) → length (varint_upto 0 rest) ≡ 1
unfolding varint_upto
tenth rest = refl

pub steps : (value size rest : ℕ) → IsSizeSoFar value size rest → 128 ≤ rest → size < 10 → IsSizeSoFar value (size + 1) (rest / 128)
steps value size rest h le lt =
    let k : 10 - size ≡ suc (10 - (size + 1)) = omega arith in
    let e : length (varint_upto (10 - size) rest) ≡ 1 + length (varint_upto (10 - (size + 1)) (rest / 128)) = rw k (one_more (10 - (size + 1)) rest le) in
    record { low = omega arith; high = omega arith; counted = omega (arith, h.counted, e) }

pub ends_small : (value size rest : ℕ) → IsSizeSoFar value size rest → rest < 128 → size ≡ length (varint value)
ends_small value size rest h lt = omega (arith, h.counted, last_one (10 - size) rest lt)

pub ends_tenth : (value size rest : ℕ) → IsSizeSoFar value size rest → 10 ≤ size → size ≡ length (varint value)
ends_tenth value size rest h le =
    let k : 10 - size ≡ 0 = omega (arith, h.high) in
    let e : length (varint_upto (10 - size) rest) ≡ 1 = rw k (tenth rest) in
    omega (arith, h.counted, e)

pub ruleset sizes = (begins, steps, ends_small, ends_tenth)
