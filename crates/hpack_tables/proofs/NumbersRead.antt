-- Written integers and strings are read again, whatever follows them.
use Rattle.std.proofs.Common.{◌≡◌, ℕ, zero, suc, ◌+◌, ◌-◌, ◌*◌, ◌/◌, ◌%◌, ◌^◌, ◌<◌, ◌≤◌, true, false, List, [], ◌∷◌, ◌++◌, length, refl, ap, subst, ◌∙◌, arith, inl, inr, append_assoc, Ok, Result}
use Rattle.std.proofs.lemmas.Bool.{cases_lt, lt-ltb, le-ltb, le-leb, lt-leb}
use Rattle.std.proofs.lemmas.List.{length-append}
use Rattle.std.proofs.lemmas.Nat.{pow-add, pow_pos, div_below}
use Rattle.std.proofs.Math.Nat.{mul-add-mod_self_right, mod-eq_of_lt}
use Rattle.std.proofs.Math.Seq.{take-append_seam, drop-append_seam}
use Rattle.hpack_huffman.specs.Code.{IsHuffman}
use Rattle.hpack_huffman.specs.Faults.{IsText}
use Rattle.hpack_tables.specs.declared.encoder.Style.{Style}
use Rattle.hpack_tables.specs.declared.encoder.Style.TheVariants.{Plain, Indexed}
use Rattle.hpack_tables.specs.declared.fault.HpackFault.{HpackFault}
use Rattle.hpack_tables.specs.declared.fault.HpackFault.TheVariants.{BadString}
use Rattle.hpack_tables.specs.Reading.{groups_at, integer_at, is_coded, StringAt}
use Rattle.hpack_tables.specs.Writing.{groups_text, integer_text, plain_string, IsString}

-- ---- integers

wider : (k : ℕ) → 2 ^ (7 * (suc k + 1)) ≡ 2 ^ (7 * (k + 1)) * 128
wider k = ap (λ (n : ℕ). 2 ^ n) parts ∙ pow-add 2 (7 * (k + 1)) 7
  where
    parts : 7 * (suc k + 1) ≡ 7 * (k + 1) + 7
    parts = omega arith

group_value : (n : ℕ) → 128 + n % 128 - 128 + 128 * (n / 128) ≡ n
group_value n = omega arith

groups_read : (cut : HpackFault) (k n : ℕ) (rest : List ℕ) → n < 2 ^ (7 * (k + 1)) → groups_at cut (suc k) (groups_text k n ++ rest) ≡ Ok (n, rest)
unfolding groups_at groups_text
groups_read cut zero n rest lt = rw (lt-ltb n 128 lt) refl
groups_read cut (suc k) n rest lt =
    elim (cases_lt n 128) [
      | inl small ↦ rw (lt-ltb n 128 small, lt-ltb n 128 small) refl
      | inr large ↦
          let less : n / 128 < 2 ^ (7 * (k + 1)) = div_below n 128 (2 ^ (7 * (k + 1))) (omega arith) (subst (λ (m : ℕ). n < m) (wider k) lt) in
          let marked : 128 ≤ 128 + n % 128 = omega arith in
          rw (le-ltb n 128 large, le-ltb (128 + n % 128) 128 marked, groups_read cut k (n / 128) rest less) (ap (λ (m : ℕ). ok_of m rest) (group_value n))
    ]
  where
    ok_of : ℕ → List ℕ → Result (ℕ × List ℕ) HpackFault
    ok_of m rest = Ok (m, rest)

prefix_read : (q bits n : ℕ) → n < 2 ^ bits → (q * 2 ^ bits + n) % 2 ^ bits ≡ n
prefix_read q bits n lt = mul-add-mod_self_right q (2 ^ bits) n ∙ mod-eq_of_lt lt

-- first bits that are no part of the prefix
pub integer_read : (cut : HpackFault) (q bits n : ℕ) (rest : List ℕ) → n < 2 ^ 32 → integer_at cut bits (integer_text (q * 2 ^ bits) bits n ++ rest) ≡ Ok (n, rest)
unfolding integer_at integer_text
integer_read cut q bits n rest lt =
    let some : 0 < 2 ^ bits = pow_pos bits in
    let ones = 2 ^ bits - 1 in
    elim (cases_lt n ones) [
      | inl small ↦ rw (lt-ltb n ones small, prefix_read q bits n (omega (arith, small, some)), lt-ltb n ones small) refl
      | inr large ↦
          let less : n - ones < 2 ^ (7 * (4 + 1)) = omega (arith, lt) in
          let whole : ones + (n - ones) ≡ n = omega (arith, large) in
          rw (le-ltb n ones large, prefix_read q bits ones (omega (arith, some)), le-ltb ones ones (omega arith), groups_read cut 4 (n - ones) rest less, whole, lt-ltb n (2 ^ 32) lt) refl
    ]

-- the first byte of an integer
pub record Headed (first bits n : ℕ) : Type 0 where
  pub low : ℕ
  pub more : List ℕ
  pub below : low < 2 ^ bits
  pub text : integer_text first bits n ≡ (first + low) ∷ more

pub headed : (first bits n : ℕ) → Headed first bits n
unfolding integer_text
headed first bits n =
    let some : 0 < 2 ^ bits = pow_pos bits in
    let ones = 2 ^ bits - 1 in
    elim (cases_lt n ones) [
      | inl small ↦ record { low = n; more = []; below = omega (arith, small, some); text = rw (lt-ltb n ones small) refl }
      | inr large ↦ record { low = ones; more = groups_text 4 (n - ones); below = omega (arith, some); text = rw (le-ltb n ones large) refl }
    ]

-- ---- strings

not_coded : (n : ℕ) (text : List ℕ) → is_coded (integer_text 0 7 n ++ text) ≡ false
not_coded n text = let h = headed 0 7 n in rw (h.text, lt-leb 128 (0 + h.low) (omega (arith, h.below))) refl

coded : (n : ℕ) (text : List ℕ) → is_coded (integer_text 128 7 n ++ text) ≡ true
coded n text = let h = headed 128 7 n in rw (h.text, le-leb 128 (128 + h.low) (omega arith)) refl

plain_read : (text rest : List ℕ) → length text < 2 ^ 32 → StringAt (plain_string text ++ rest) (Ok (text, rest))
plain_read text rest lt =
    let len : integer_at BadString 7 (integer_text 0 7 (length text) ++ (text ++ rest)) ≡ Ok (length text, text ++ rest) = integer_read BadString 0 7 (length text) (text ++ rest) lt in
    let fits : length text ≤ length (text ++ rest) = omega (arith, length-append text rest) in
    rw (append_assoc (integer_text 0 7 (length text)) text rest, len, not_coded (length text) (text ++ rest), le-ltb (length (text ++ rest)) (length text) fits, take-append_seam text rest, drop-append_seam text rest) refl

code_read : (code text rest : List ℕ) → IsHuffman code text → IsText text → length code < 2 ^ 32 → StringAt ((integer_text 128 7 (length code) ++ code) ++ rest) (Ok (text, rest))
code_read code text rest is bytes lt =
    let len : integer_at BadString 7 (integer_text 128 7 (length code) ++ (code ++ rest)) ≡ Ok (length code, code ++ rest) = integer_read BadString 1 7 (length code) (code ++ rest) lt in
    let fits : length code ≤ length (code ++ rest) = omega (arith, length-append code rest) in
    rw (append_assoc (integer_text 128 7 (length code)) code rest, len, coded (length code) (code ++ rest), le-ltb (length (code ++ rest)) (length code) fits, take-append_seam code rest, drop-append_seam code rest) (is, bytes, refl)

pub string_read : (style : Style) (text out rest : List ℕ) → IsString style text out → IsText text → length text < 2 ^ 32 → StringAt (out ++ rest) (Ok (text, rest))
string_read Plain text out rest s bytes lt = rw s (plain_read text rest lt)
string_read Indexed text out rest (code, is, s) bytes lt =
    elim (cases_lt (length code) (length text)) [
      | inl shorter ↦ let e : out ≡ integer_text 128 7 (length code) ++ code = s ∙ rw (lt-ltb (length code) (length text) shorter) refl in rw e (code_read code text rest is bytes (omega (arith, shorter, lt)))
      | inr longer ↦ let e : out ≡ plain_string text = s ∙ rw (le-ltb (length code) (length text) longer) refl in rw e (plain_read text rest lt)
    ]
