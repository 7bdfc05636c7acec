-- Printed numbers, and numbers joined by a character, are read again.
use Rattle.std.proofs.Common.{◌≡◌, ℕ, suc, zero, ◌+◌, ◌*◌, ◌/◌, ◌%◌, ◌^◌, ◌<◌, ◌≤◌, Bool, true, false, List, [], ◌∷◌, ◌++◌, Option, Some, None, refl, ap, ◌∙◌, map, length, arith}
use Rattle.std.specs.Prelude.{option_map, ◌==◌, ◌&&◌, not, nat_lt, nat_le, if◌then◌else◌}
use Rattle.std.specs.List.{All, AllByRecursion}
use Rattle.std.proofs.lemmas.List.Elements.{All-head, All-tail}
use Rattle.std.proofs.lemmas.Bool.Decides.{nat_tests}
use Rattle.std.proofs.lemmas.Nat.{div-add-mod', div_below}
use Rattle.std.proofs.Math.Nat.{pow-zero, pow-suc}
use Rattle.addr_text.specs.AddressGrammar.{in_base, all_of, digit, hex_digit, number_by, at_most, is_plain, decimal, hextet, octet, parts, onto_first, quad, v4_bits, six, mac}
use Rattle.addr_text.specs.Printed.{digit_text, decimal_text, hex_text, octet_text, digits_in, joined, v4_text, mac_text}
use Rattle.addr_text.proofs.Grouping.{in_base-append}

-- Digits

pub digit_again : (d : ℕ) → d < 10 → digit (digit_text d) ≡ Some d
digit_again d h = grind (arith, nat_tests)

pub hex_digit_again : (d : ℕ) → d < 16 → hex_digit (digit_text d) ≡ Some d
hex_digit_again d h = grind (arith, nat_tests)

-- a character that is no digit
abbrev pub Mark : ℕ → Type 0
Mark c = (d : ℕ) → (digit_text d == c) ≡ false

pub point_is_mark : Mark 46
point_is_mark d = grind (arith, nat_tests)

pub slash_is_mark : Mark 47
slash_is_mark d = grind (arith, nat_tests)

pub colon_is_mark : Mark 58
colon_is_mark d = grind (arith, nat_tests)

-- Numbers

abbrev pub AllBelow : ℕ → List ℕ → Type 0
AllBelow base ds = AllByRecursion (λ d. d < base) ds

pub below_from_all : (base : ℕ) (ds : List ℕ) → All (λ d. d < base) ds → AllBelow base ds
below_from_all base [] h = tt
below_from_all base (d ∷ ds) h = (All-head (λ n. n < base) d ds h, below_from_all base ds (All-tail (λ n. n < base) d ds h))

pub all_again : {X : Type 0} (write : ℕ → X) (read : X → Option ℕ) (base : ℕ) → ((n : ℕ) → n < base → read (write n) ≡ Some n) → (ns : List ℕ) → AllBelow base ns → all_of (map read (map write ns)) ≡ Some ns
all_again write read base again [] h = refl
all_again write read base again (n ∷ ns) h =
    ap (λ o. all_of (o ∷ map read (map write ns))) (again n h.0) ∙ ap (option_map (λ others. n ∷ others)) (all_again write read base again ns h.1)

lt_true : (a b : ℕ) → nat_lt a b ≡ true → a < b
lt_true a b e = grind (arith, nat_tests)

lt_false : (a b : ℕ) → nat_lt a b ≡ false → b ≤ a
lt_false a b e = grind (arith, nat_tests)

within_most : (most n : ℕ) → n ≤ most → nat_le n most ≡ true
within_most most n h = grind (arith, nat_tests)

first_plain : (d : ℕ) → 0 < d → (digit_text d == 48) ≡ false
first_plain d h = grind (arith, nat_tests)

plain_by : (d : ℕ) (t : Bool) → t ≡ true → 0 < d → (not (digit_text d == 48) && t) ≡ true
plain_by d t e h = ap (λ b. not b && t) (first_plain d h) ∙ e

decimal_reads : (most n : ℕ) (ds : List ℕ) → is_plain (map digit_text ds) ≡ true → AllBelow 10 ds → in_base 10 ds ≡ n → n ≤ most → decimal most (map digit_text ds) ≡ Some n
unfolding decimal
decimal_reads most n ds plain small e within =
    ap (λ b. if b then at_most most (number_by digit 10 (map digit_text ds)) else None) plain
    ∙ ap (λ o. at_most most (option_map (in_base 10) o)) (all_again digit_text digit 10 digit_again ds small)
    ∙ ap (λ m. at_most most (Some m)) e ∙ ap (λ b. if b then Some n else None) (within_most most n within)

pub decimal_again : (most n : ℕ) → n < 1000 → n ≤ most → decimal most (decimal_text n) ≡ Some n
decimal_again most n h k = by (nat_lt n 10) (nat_lt n 100) refl refl
  where
    by : (s t : Bool) → nat_lt n 10 ≡ s → nat_lt n 100 ≡ t → decimal most (if s then digit_text n ∷ [] else if t then digit_text (n / 10) ∷ digit_text (n % 10) ∷ [] else digit_text (n / 100) ∷ digit_text (n / 10 % 10) ∷ digit_text (n % 10) ∷ []) ≡ Some n
    by true t e f = decimal_reads most n (n ∷ []) refl (lt_true n 10 e, tt) (omega arith) k
    by false true e f =
        let low : 10 ≤ n = lt_false n 10 e in
        let high : n < 100 = lt_true n 100 f in
        decimal_reads most n (n / 10 ∷ n % 10 ∷ []) (plain_by (n / 10) true refl (omega arith)) (omega arith, (omega arith, tt)) (omega arith) k
    by false false e f =
        let low : 100 ≤ n = lt_false n 100 f in
        decimal_reads most n (n / 100 ∷ n / 10 % 10 ∷ n % 10 ∷ []) (plain_by (n / 100) true refl (omega arith)) (omega arith, (omega arith, (omega arith, tt))) (omega arith) k

hex_reads : (n : ℕ) (ds : List ℕ) → AllBelow 16 ds → in_base 16 ds ≡ n → number_by hex_digit 16 (map digit_text ds) ≡ Some n
hex_reads n ds small e = ap (option_map (in_base 16)) (all_again digit_text hex_digit 16 hex_digit_again ds small) ∙ ap Some e

pub hextet_again : (n : ℕ) → n < 65536 → hextet (hex_text n) ≡ Some n
unfolding hextet
hextet_again n h = by (nat_lt n 16) (nat_lt n 256) (nat_lt n 4096) refl refl refl
  where
    by : (r s t : Bool) → nat_lt n 16 ≡ r → nat_lt n 256 ≡ s → nat_lt n 4096 ≡ t → hextet (if r then digit_text n ∷ [] else if s then digit_text (n / 16) ∷ digit_text (n % 16) ∷ [] else if t then digit_text (n / 256) ∷ digit_text (n / 16 % 16) ∷ digit_text (n % 16) ∷ [] else digit_text (n / 4096) ∷ digit_text (n / 256 % 16) ∷ digit_text (n / 16 % 16) ∷ digit_text (n % 16) ∷ []) ≡ Some n
    by true s t d e f = hex_reads n (n ∷ []) (lt_true n 16 d, tt) (omega arith)
    by false true t d e f =
        let high : n < 256 = lt_true n 256 e in
        hex_reads n (n / 16 ∷ n % 16 ∷ []) (omega arith, (omega arith, tt)) (omega arith)
    by false false true d e f =
        let high : n < 4096 = lt_true n 4096 f in
        hex_reads n (n / 256 ∷ n / 16 % 16 ∷ n % 16 ∷ []) (omega arith, (omega arith, (omega arith, tt))) (omega arith)
    by false false false d e f =
        hex_reads n (n / 4096 ∷ n / 256 % 16 ∷ n / 16 % 16 ∷ n % 16 ∷ []) (omega arith, (omega arith, (omega arith, (omega arith, tt)))) (omega arith)

pub octet_again : (n : ℕ) → n < 256 → octet (octet_text n) ≡ Some n
octet_again n h = hex_reads n (n / 16 ∷ n % 16 ∷ []) (omega arith, (omega arith, tt)) (omega arith)

-- Parts

-- the character doesn't stand in the text
abbrev pub Lacks : ℕ → List ℕ → Type 0
Lacks c text = AllByRecursion (λ d. (d == c) ≡ false) text

pub lacks_if : (c : ℕ) (b : Bool) (one other : List ℕ) → Lacks c one → Lacks c other → Lacks c (if b then one else other)
lacks_if c true one other h k = h
lacks_if c false one other h k = k

pub decimal_lacks : (c : ℕ) → Mark c → (n : ℕ) → Lacks c (decimal_text n)
decimal_lacks c m n = lacks_if c (nat_lt n 10) _ _ (m n, tt) (lacks_if c (nat_lt n 100) _ _ (m (n / 10), (m (n % 10), tt)) (m (n / 100), (m (n / 10 % 10), (m (n % 10), tt))))

pub hex_lacks : (c : ℕ) → Mark c → (n : ℕ) → Lacks c (hex_text n)
hex_lacks c m n =
    lacks_if c (nat_lt n 16) _ _ (m n, tt)
    (lacks_if c (nat_lt n 256) _ _ (m (n / 16), (m (n % 16), tt))
    (lacks_if c (nat_lt n 4096) _ _ (m (n / 256), (m (n / 16 % 16), (m (n % 16), tt))) (m (n / 4096), (m (n / 256 % 16), (m (n / 16 % 16), (m (n % 16), tt))))))

pub octet_lacks : (c : ℕ) → Mark c → (n : ℕ) → Lacks c (octet_text n)
octet_lacks c m n = (m (n / 16), (m (n % 16), tt))

pub lacks_append : (c : ℕ) (a b : List ℕ) → Lacks c a → Lacks c b → Lacks c (a ++ b)
lacks_append c [] b h k = k
lacks_append c (d ∷ a) b h k = (h.0, lacks_append c a b h.1 k)

same : (c : ℕ) → (c == c) ≡ true
same c = grind (arith, nat_tests)

pub parts_one : (c : ℕ) (text : List ℕ) → Lacks c text → parts c text ≡ text ∷ []
parts_one c [] h = refl
parts_one c (d ∷ text) h = ap (λ b. if b then [] ∷ parts c text else onto_first d (parts c text)) h.0 ∙ ap (onto_first d) (parts_one c text h.1)

pub parts_two : (c : ℕ) (front rest : List ℕ) → Lacks c front → parts c (front ++ c ∷ rest) ≡ front ∷ parts c rest
parts_two c [] rest h = ap (λ b. if b then [] ∷ parts c rest else onto_first c (parts c rest)) (same c)
parts_two c (d ∷ front) rest h =
    ap (λ b. if b then [] ∷ parts c (front ++ c ∷ rest) else onto_first d (parts c (front ++ c ∷ rest))) h.0
    ∙ ap (onto_first d) (parts_two c front rest h.1)

pub parts_joined : (c : ℕ) (write : ℕ → List ℕ) → ((n : ℕ) → Lacks c (write n)) → (n : ℕ) (ns : List ℕ) → parts c (joined c (map write (n ∷ ns))) ≡ map write (n ∷ ns)
parts_joined c write lacks n [] = parts_one c (write n) (lacks n)
parts_joined c write lacks n (m ∷ ns) = parts_two c (write n) (joined c (map write (m ∷ ns))) (lacks n) ∙ ap (λ ps. write n ∷ ps) (parts_joined c write lacks m ns)

pub joined_lacks : (c d : ℕ) (write : ℕ → List ℕ) → (d == c) ≡ false → ((n : ℕ) → Lacks c (write n)) → (ns : List ℕ) → Lacks c (joined d (map write ns))
joined_lacks c d write other lacks [] = tt
joined_lacks c d write other lacks (n ∷ []) = lacks n
joined_lacks c d write other lacks (n ∷ m ∷ ns) = lacks_append c (write n) (d ∷ joined d (map write (m ∷ ns))) (lacks n) (other, joined_lacks c d write other lacks (m ∷ ns))

-- Digits in a base

power_one : (base : ℕ) → base ^ 1 ≡ base
power_one base = let z : base ^ 0 ≡ 1 = pow-zero base in let s : base ^ 1 ≡ base ^ 0 * base = pow-suc base 0 in s ∙ ap (λ n. n * base) z ∙ times_one base
  where
    times_one : (n : ℕ) → 1 * n ≡ n
    times_one n = omega arith

regrouped : (a base p r n : ℕ) → p ≡ base → a * base + r ≡ n → a * p + (0 * base + r) ≡ n
regrouped a base p r n e h = rw e (omega arith)

pub digits_again : (base count n : ℕ) → 0 < base → n < base ^ count → in_base base (digits_in base count n) ≡ n
digits_again base zero n some h = let z : base ^ 0 ≡ 1 = pow-zero base in omega arith
digits_again base (suc count) n some h =
    let s : base ^ suc count ≡ base ^ count * base = pow-suc base count in
    let within : n < base ^ count * base = omega arith in
    in_base-append base (digits_in base count (n / base)) (n % base ∷ [])
    ∙ ap (λ m. m * base ^ 1 + (0 * base + n % base)) (digits_again base count (n / base) some (div_below n base (base ^ count) some within))
    ∙ regrouped (n / base) base (base ^ 1) (n % base) n (power_one base) (div-add-mod' n base)

-- IPv4 and MAC

pub v4_again : (bits : ℕ) → bits < 2 ^ 32 → v4_bits (v4_text bits) ≡ Some bits
unfolding v4_bits v4_text
v4_again bits h =
    ap quad (parts_joined 46 decimal_text (decimal_lacks 46 point_is_mark) (bits / 256 / 256 / 256 % 256) (bits / 256 / 256 % 256 ∷ bits / 256 % 256 ∷ bits % 256 ∷ []))
    ∙ ap (option_map (in_base 256)) (all_again decimal_text (decimal 255) 256 (λ n small. decimal_again 255 n (omega arith) (omega arith)) (digits_in 256 4 bits) (omega arith, (omega arith, (omega arith, (omega arith, tt)))))
    ∙ ap Some (digits_again 256 4 bits (omega arith) h)

pub mac_again : (octets : List ℕ) → length octets ≡ 6 → AllBelow 256 octets → mac (mac_text octets) ≡ Some octets
unfolding mac mac_text
mac_again (a ∷ b ∷ c ∷ d ∷ e ∷ f ∷ []) n h =
    ap six (parts_joined 58 octet_text (octet_lacks 58 colon_is_mark) a (b ∷ c ∷ d ∷ e ∷ f ∷ []))
    ∙ all_again octet_text octet 256 octet_again (a ∷ b ∷ c ∷ d ∷ e ∷ f ∷ []) h
mac_again [] n h = absurd (omega arith)
mac_again (_ ∷ []) n h = absurd (omega arith)
mac_again (_ ∷ _ ∷ []) n h = absurd (omega arith)
mac_again (_ ∷ _ ∷ _ ∷ []) n h = absurd (omega arith)
mac_again (_ ∷ _ ∷ _ ∷ _ ∷ []) n h = absurd (omega arith)
mac_again (_ ∷ _ ∷ _ ∷ _ ∷ _ ∷ []) n h = absurd (omega arith)
mac_again (_ ∷ _ ∷ _ ∷ _ ∷ _ ∷ _ ∷ _ ∷ _) n h = absurd (omega arith)
