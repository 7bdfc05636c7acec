-- Groups, their count and their number.
use Rattle.std.proofs.Common.{◌≡◌, ℕ, suc, zero, ◌+◌, ◌*◌, ◌-◌, ◌^◌, ◌<◌, ◌≤◌, Bool, true, false, List, [], ◌∷◌, ◌++◌, Option, Some, None, refl, sym, ap, ◌∙◌, fold, length, zero-add, arith}
use Rattle.std.specs.Prelude.{option_map, ◌==◌, nat_lt, nat_le, if◌then◌else◌, replicate}
use Rattle.std.proofs.Math.Nat.{pow-zero, pow-suc, pow-succ', pow-le-pow_right, mul-le-mul_right}
use Rattle.std.proofs.lemmas.Nat.{pow-add}
use Rattle.std.proofs.lemmas.Bool.Decides.{nat_tests}
use Rattle.addr_text.specs.AddressGrammar.{in_base, groups, parts, and_groups, last_groups, hextet, whole, compressed}
use Rattle.addr_text.proofs.Scanning.{groups_cons}
use Rattle.addr_text.specs.Counting.{counted, counted_from}

-- Numbers in a base

fold-append : (f : ℕ → ℕ → ℕ) (start : ℕ) (xs ys : List ℕ) → fold f start (xs ++ ys) ≡ fold f (fold f start xs) ys
fold-append f start [] ys = refl
fold-append f start (x ∷ xs) ys = fold-append f (f start x) xs ys

one_more : (start base x p q : ℕ) → q ≡ p * base → (start * base + x) * p ≡ start * q + (0 * base + x) * p
one_more start base x p q e = rw e (omega arith)

mul-one-by : (start p : ℕ) → p ≡ 1 → start * p ≡ start
mul-one-by start p e = rw e (omega arith)

pub in_base-from : (base start : ℕ) (xs : List ℕ) → fold (λ n d. n * base + d) start xs ≡ start * base ^ length xs + in_base base xs
in_base-from base start [] = let one_is : base ^ 0 ≡ 1 = pow-zero base in omega (arith, mul-one-by start (base ^ 0) one_is)
in_base-from base start (x ∷ xs) =
    let a = in_base-from base (start * base + x) xs in
    let b = in_base-from base (0 * base + x) xs in
    let e = one_more start base x (base ^ length xs) (base ^ suc (length xs)) (pow-suc base (length xs)) in
    omega (arith, a, b, e)

pub in_base-append : (base : ℕ) (xs ys : List ℕ) → in_base base (xs ++ ys) ≡ in_base base xs * base ^ length ys + in_base base ys
in_base-append base xs ys = fold-append (λ n d. n * base + d) 0 xs ys ∙ in_base-from base (in_base base xs) ys

pub in_base-zeros : (base k : ℕ) → in_base base (replicate k 0) ≡ 0
in_base-zeros base zero = refl
in_base-zeros base (suc k) =
    let none : 0 * base + 0 ≡ 0 = omega arith in
    ap (λ start. fold (λ n d. n * base + d) start (replicate k 0)) none ∙ in_base-zeros base k

pub length-zeros : (k : ℕ) → length {A = ℕ} (replicate k 0) ≡ k
length-zeros zero = refl
length-zeros (suc k) = ap (λ n. suc n) (length-zeros k)

regroup : (f p q b r : ℕ) → r ≡ p * q → f * p * q + b ≡ f * r + b
regroup f p q b r e = rw e (omega arith)

in_base-filled : (front back : List ℕ) (k : ℕ) → k + (length front + length back) ≡ 8 → in_base 65536 (front ++ replicate k 0 ++ back) ≡ in_base 65536 front * 65536 ^ (8 - length front) + in_base 65536 back
in_base-filled front back k all =
    let a : in_base 65536 (front ++ replicate k 0) ≡ in_base 65536 front * 65536 ^ k + in_base 65536 (replicate k 0) = in_base-append 65536 front (replicate k 0) ∙ ap (λ (n : ℕ). in_base 65536 front * 65536 ^ n + in_base 65536 (replicate k 0)) (length-zeros k) in
    let inner : in_base 65536 (front ++ replicate k 0) ≡ in_base 65536 front * 65536 ^ k = omega (arith, a, in_base-zeros 65536 k) in
    let total : 8 - length front ≡ k + length back = omega arith in
    let power : 65536 ^ (8 - length front) ≡ 65536 ^ k * 65536 ^ length back = ap (λ (n : ℕ). 65536 ^ n) total ∙ pow-add 65536 k (length back) in
    in_base-append 65536 (front ++ replicate k 0) back ∙ ap (λ (n : ℕ). n * 65536 ^ length back + in_base 65536 back) inner
    ∙ regroup (in_base 65536 front) (65536 ^ k) (65536 ^ length back) (in_base 65536 back) (65536 ^ (8 - length front)) power

-- the groups before `::` have their places at the front
pub in_base-compressed : (front back : List ℕ) → length front + length back < 8 → in_base 65536 (front ++ replicate (8 - (length front + length back)) 0 ++ back) ≡ in_base 65536 front * 65536 ^ (8 - length front) + in_base 65536 back
in_base-compressed front back few = in_base-filled front back (8 - (length front + length back)) (omega arith)

-- Bounds

pub power_less : (count : ℕ) → count < 8 → 65536 ^ (8 - count) ≡ 65536 * 65536 ^ (8 - (count + 1))
power_less count few =
    let e : 8 - count ≡ suc (8 - (count + 1)) = omega arith in
    ap (λ (n : ℕ). 65536 ^ n) e ∙ pow-succ' 65536 (8 - (count + 1))

pub below_next : (bits count : ℕ) → bits < 65536 ^ count → count < 8 → bits * 65536 < 2 ^ 128
below_next bits count h few = let most : count ≤ 7 = omega arith in let p : 65536 ^ count ≤ 65536 ^ 7 = pow-le-pow_right {n = 65536} (omega arith) most in omega (arith, p)

pub sum_fits : (front back fc bc : ℕ) → front < 65536 ^ fc → back < 65536 ^ bc → fc + bc < 8 → front * 65536 ^ (8 - fc) + back < 2 ^ 128
sum_fits front back fc bc hf hb few =
    let total : 8 ≡ fc + (8 - fc) = omega arith in
    let whole_is : 65536 ^ 8 ≡ 65536 ^ fc * 65536 ^ (8 - fc) = ap (λ (n : ℕ). 65536 ^ n) total ∙ pow-add 65536 fc (8 - fc) in
    let fewer : bc ≤ 8 - fc = omega arith in
    let rest : 65536 ^ bc ≤ 65536 ^ (8 - fc) = pow-le-pow_right {n = 65536} (omega arith) fewer in
    let most : (front + 1) * 65536 ^ (8 - fc) ≤ 65536 ^ fc * 65536 ^ (8 - fc) = mul-le-mul_right (65536 ^ (8 - fc)) (omega arith) in
    omega (arith, whole_is, rest, most)

-- What a count and a number say

not_eight : (n : ℕ) → nat_le (0 + n) 8 ≡ false → (n == 8) ≡ false
not_eight n h = grind (arith, nat_tests)

over_front : (a b : ℕ) → nat_le (0 + a) 8 ≡ false → nat_lt (a + b) 8 ≡ false
over_front a b h = grind (arith, nat_tests)

over_back : (a b : ℕ) → nat_le (0 + b) 8 ≡ false → nat_lt (a + b) 8 ≡ false
over_back a b h = grind (arith, nat_tests)

over_more : (count n : ℕ) → nat_le (count + 1) 8 ≡ false → nat_le (count + suc n) 8 ≡ false
over_more count n h = grind (arith, nat_tests)

few_in_all : (a b : ℕ) → nat_lt (a + b) 8 ≡ true → a + b < 8
few_in_all a b h = grind (arith, nat_tests)

some_if : {X : Type 0} (b : Bool) (x p : X) → Some p ≡ (if b then Some x else None) → p ≡ x
some_if true x p e = cc
some_if false x p e = cc

none_if : {X : Type 0} (b : Bool) (x : X) → None ≡ (if b then Some x else None) → b ≡ false
none_if true x e = cc
none_if false x e = refl

pub whole_some : (o : Option (List ℕ)) (count bits : ℕ) → Some (count, bits) ≡ counted o → whole o ≡ (if count == 8 then Some bits else None)
whole_some None count bits e = cc
whole_some (Some all) count bits e =
    let q = some_if (nat_le (0 + length all) 8) (0 + length all, in_base 65536 all) (count, bits) e in
    let c : count ≡ length all = ap (λ (p : ℕ × ℕ). p.0) q ∙ zero-add (length all) in
    let b : bits ≡ in_base 65536 all = ap (λ (p : ℕ × ℕ). p.1) q in
    rw (c, b) refl

pub whole_none : (o : Option (List ℕ)) → None ≡ counted o → whole o ≡ None
whole_none None e = refl
whole_none (Some all) e =
    let q = none_if (nat_le (0 + length all) 8) (0 + length all, in_base 65536 all) e in
    ap (λ b. if b then Some (in_base 65536 all) else None) (not_eight (length all) q)

pub gapped_some : (f b : Option (List ℕ)) (fc fb bc bb : ℕ) → Some (fc, fb) ≡ counted f → Some (bc, bb) ≡ counted b → compressed f b ≡ (if nat_lt (fc + bc) 8 then Some (fb * 65536 ^ (8 - fc) + bb) else None)
gapped_some None b fc fb bc bb e d = cc
gapped_some (Some front) None fc fb bc bb e d = cc
gapped_some (Some front) (Some back) fc fb bc bb e d =
    let p = some_if (nat_le (0 + length front) 8) (0 + length front, in_base 65536 front) (fc, fb) e in
    let q = some_if (nat_le (0 + length back) 8) (0 + length back, in_base 65536 back) (bc, bb) d in
    let a : fc ≡ length front = ap (λ (p : ℕ × ℕ). p.0) p ∙ zero-add (length front) in
    let b : fb ≡ in_base 65536 front = ap (λ (p : ℕ × ℕ). p.1) p in
    let c : bc ≡ length back = ap (λ (p : ℕ × ℕ). p.0) q ∙ zero-add (length back) in
    let low : bb ≡ in_base 65536 back = ap (λ (p : ℕ × ℕ). p.1) q in
    rw (a, b, c, low) (by (nat_lt (length front + length back) 8) refl)
  where
    by : (t : Bool) → nat_lt (length front + length back) 8 ≡ t → (if t then Some (in_base 65536 (front ++ replicate (8 - (length front + length back)) 0 ++ back)) else None) ≡ (if t then Some (in_base 65536 front * 65536 ^ (8 - length front) + in_base 65536 back) else None)
    by true h = ap Some (in_base-compressed front back (few_in_all (length front) (length back) h))
    by false h = refl

too_many : (front back : List ℕ) (x : ℕ) → nat_lt (length front + length back) 8 ≡ false → (if nat_lt (length front + length back) 8 then Some x else None) ≡ None
too_many front back x e = ap (λ b. if b then Some x else None) e

pub gapped_no_front : (f b : Option (List ℕ)) → None ≡ counted f → compressed f b ≡ None
gapped_no_front None b e = refl
gapped_no_front (Some front) None e = refl
gapped_no_front (Some front) (Some back) e =
    let q = none_if (nat_le (0 + length front) 8) (0 + length front, in_base 65536 front) e in
    too_many front back (in_base 65536 (front ++ replicate (8 - (length front + length back)) 0 ++ back)) (over_front (length front) (length back) q)

pub gapped_no_back : (f b : Option (List ℕ)) → None ≡ counted b → compressed f b ≡ None
gapped_no_back None b e = refl
gapped_no_back (Some front) None e = refl
gapped_no_back (Some front) (Some back) e =
    let q = none_if (nat_le (0 + length back) 8) (0 + length back, in_base 65536 back) e in
    too_many front back (in_base 65536 (front ++ replicate (8 - (length front + length back)) 0 ++ back)) (over_back (length front) (length back) q)

-- One more group

pub group_step : (o : Option ℕ) (r : Option (List ℕ)) (count bits c b : ℕ) → Some (c, b) ≡ counted_from count bits (option_map (λ g. g ∷ []) o) → counted_from count bits (and_groups o r) ≡ counted_from c b r
group_step None r count bits c b e = cc
group_step (Some g) None count bits c b e = refl
group_step (Some g) (Some gs) count bits c b e =
    let q = some_if (nat_le (count + 1) 8) (count + 1, bits * 65536 + g) (c, b) e in
    let x : c ≡ count + 1 = ap (λ (p : ℕ × ℕ). p.0) q in
    let y : b ≡ bits * 65536 + g = ap (λ (p : ℕ × ℕ). p.1) q in
    let z : count + suc (length gs) ≡ count + 1 + length gs = omega arith in
    rw (x, y) (ap (λ n. if nat_le n 8 then Some (n, fold (λ number group. number * 65536 + group) (bits * 65536 + g) gs) else None) z)

pub group_stops : (o : Option ℕ) (r : Option (List ℕ)) (count bits : ℕ) → None ≡ counted_from count bits (option_map (λ g. g ∷ []) o) → None ≡ counted_from count bits (and_groups o r)
group_stops None r count bits e = refl
group_stops (Some g) None count bits e = refl
group_stops (Some g) (Some gs) count bits e =
    let q = none_if (nat_le (count + 1) 8) (count + 1, bits * 65536 + g) e in
    let over = over_more count (length gs) q in
    sym (ap (λ t. if t then Some (count + suc (length gs), fold (λ number group. number * 65536 + group) (bits * 65536 + g) gs) else None) over)

pub next_small : (bits count group : ℕ) → bits < 65536 ^ count → group < 65536 → bits * 65536 + group < 65536 ^ (count + 1)
next_small bits count group h g =
    let e : 65536 ^ (count + 1) ≡ 65536 ^ count * 65536 = pow-add 65536 count 1 in
    omega (arith, e)

pub quad_small : (bits count low : ℕ) → bits < 65536 ^ count → low < 2 ^ 32 → bits * 4294967296 + low < 65536 ^ (count + 2)
quad_small bits count low h g =
    let e : 65536 ^ (count + 2) ≡ 65536 ^ count * 65536 ^ 2 = pow-add 65536 count 2 in
    omega (arith, e)

pub power_fits : (count : ℕ) → count ≤ 8 → 65536 ^ count ≤ 2 ^ 128
power_fits count few = pow-le-pow_right {n = 65536} (omega arith) few

raise_by : (number p q : ℕ) → p ≡ 65536 * q → number * 65536 * q ≡ number * p
raise_by number p q e = rw e (omega arith)

-- one more zero group
pub raise_step : (number place goal : ℕ) → number * 65536 ^ (8 - place) ≡ goal → number < 65536 ^ place → place < 8 → (number * 65536 * 65536 ^ (8 - (place + 1)) ≡ goal) × (number * 65536 < 65536 ^ (place + 1)) × (place + 1 ≤ 8)
raise_step number place goal e h few =
    (raise_by number (65536 ^ (8 - place)) (65536 ^ (8 - (place + 1))) (power_less place few) ∙ e, omega (arith, next_small number place 0 h (omega arith)), omega arith)

pub raise_end : (number place goal : ℕ) → number * 65536 ^ (8 - place) ≡ goal → 8 ≤ place → number ≡ goal
raise_end number place goal e past =
    let none : 8 - place ≡ 0 = omega arith in
    let one : number ≡ number * 65536 ^ 0 = omega arith in
    one ∙ ap (λ n. number * 65536 ^ n) (sym none) ∙ e

-- A text that is read part by part

module _ (tail : Bool) (part : List ℕ) (rest more : List ℕ) (count bits : ℕ) where
  pub read_more : (c b : ℕ) → parts 58 rest ≡ part ∷ parts 58 more → Some (c, b) ≡ counted_from count bits (option_map (λ g. g ∷ []) (hextet part)) → counted_from count bits (groups tail (parts 58 rest)) ≡ counted_from c b (groups tail (parts 58 more))
  read_more c b e d =
      ap (λ ps. counted_from count bits (groups tail ps)) e ∙ ap (λ gs. counted_from count bits gs) (groups_cons tail part 58 more)
      ∙ group_step (hextet part) (groups tail (parts 58 more)) count bits c b d

  pub read_stops : parts 58 rest ≡ part ∷ parts 58 more → None ≡ counted_from count bits (option_map (λ g. g ∷ []) (hextet part)) → None ≡ counted_from count bits (groups tail (parts 58 rest))
  read_stops e d =
      group_stops (hextet part) (groups tail (parts 58 more)) count bits d
      ∙ sym (ap (λ ps. counted_from count bits (groups tail ps)) e ∙ ap (λ gs. counted_from count bits gs) (groups_cons tail part 58 more))

pub read_last : (tail : Bool) (rest : List ℕ) (count bits : ℕ) → parts 58 rest ≡ rest ∷ [] → counted_from count bits (groups tail (parts 58 rest)) ≡ counted_from count bits (last_groups tail rest)
read_last tail rest count bits e = ap (λ ps. counted_from count bits (groups tail ps)) e

-- Both sides of `::`

test_over : (n : ℕ) → 8 ≤ n → nat_lt n 8 ≡ false
test_over n h = grind (arith, nat_tests)

test_few : (n : ℕ) → n < 8 → nat_lt n 8 ≡ true
test_few n h = grind (arith, nat_tests)

module _ (f b : Option (List ℕ)) (fc fb bc bb : ℕ) (front : Some (fc, fb) ≡ counted f) (back : Some (bc, bb) ≡ counted b) where
  pub gapped_over : 8 ≤ fc + bc → compressed f b ≡ None
  gapped_over h = gapped_some f b fc fb bc bb front back ∙ ap (λ (t : Bool). if t then Some (fb * 65536 ^ (8 - fc) + bb) else None) (test_over (fc + bc) h)

  pub gapped_few : fc + bc < 8 → compressed f b ≡ Some (fb * 65536 ^ (8 - fc) + bb)
  gapped_few h = gapped_some f b fc fb bc bb front back ∙ ap (λ (t : Bool). if t then Some (fb * 65536 ^ (8 - fc) + bb) else None) (test_few (fc + bc) h)
