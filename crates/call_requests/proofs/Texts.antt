-- No printed text is long.
use Rattle.std.proofs.Common.{◌≡◌, ℕ, zero, suc, ◌+◌, ◌*◌, ◌/◌, ◌%◌, ◌≤◌, Bool, true, false, cond, List, [], ◌∷◌, length, take, drop, arith, map}
use Rattle.std.specs.Prelude.{nat_lt}
use Rattle.std.proofs.lemmas.List.{length-append, length-take, length-drop}
use Rattle.addr_text.specs.declared.Address.{Address}
use Rattle.addr_text.specs.declared.Address.TheVariants.{V4, V6}
use Rattle.addr_text.specs.declared.Prefix4.{Prefix4}
use Rattle.addr_text.specs.declared.Prefix6.{Prefix6}
use Rattle.addr_text.specs.Printed.{digit_text, decimal_text, hex_text, octet_text, digits_in, joined, v4_text, mac_text, colons, compressed_text, groups_text, v6_text, place_of, longest, v4_prefix_text, v6_prefix_text, address_text}

either-len : (b : Bool) (most : ℕ) (xs ys : List ℕ) → length xs ≤ most → length ys ≤ most → length (cond b xs ys) ≤ most
either-len true most xs ys p q = p
either-len false most xs ys p q = q

three : (a b c : ℕ) → length (a ∷ b ∷ c ∷ []) ≤ 3
three a b c = omega arith

decimal-len : (n : ℕ) → length (decimal_text n) ≤ 3
decimal-len n =
    either-len (nat_lt n 10) 3 (digit_text n ∷ []) _ (omega arith)
    (either-len (nat_lt n 100) 3 (digit_text (n / 10) ∷ digit_text (n % 10) ∷ []) (digit_text (n / 100) ∷ digit_text (n / 10 % 10) ∷ digit_text (n % 10) ∷ []) (omega arith) (omega arith))

hex-len : (n : ℕ) → length (hex_text n) ≤ 4
hex-len n =
    either-len (nat_lt n 16) 4 (digit_text n ∷ []) _ (omega arith)
    (either-len (nat_lt n 256) 4 (digit_text (n / 16) ∷ digit_text (n % 16) ∷ []) _ (omega arith)
    (either-len (nat_lt n 4096) 4 (digit_text (n / 256) ∷ digit_text (n / 16 % 16) ∷ digit_text (n % 16) ∷ [])
    (digit_text (n / 4096) ∷ digit_text (n / 256 % 16) ∷ digit_text (n / 16 % 16) ∷ digit_text (n % 16) ∷ []) (omega arith) (omega arith)))

digits-len : (base count n : ℕ) → length (digits_in base count n) ≡ count
digits-len base zero n = omega arith
digits-len base (suc count) n = omega (arith, length-append (digits_in base count (n / base)) (n % base ∷ []), digits-len base count (n / base))

-- each part has at most four bytes, and each separator one
joined-len : (f : ℕ → List ℕ) (short : (n : ℕ) → length (f n) ≤ 4) (separator : ℕ) (ns : List ℕ) → length (joined separator (map f ns)) ≤ 5 * length ns
joined-len f short separator [] = omega arith
joined-len f short separator (n ∷ []) = omega (arith, short n)
joined-len f short separator (n ∷ m ∷ ns) =
    omega (arith, length-append (f n) (separator ∷ joined separator (map f (m ∷ ns))), short n, joined-len f short separator (m ∷ ns))

v4-len : (bits : ℕ) → length (v4_text bits) ≤ 100
unfolding v4_text
v4-len bits =
    let short : (n : ℕ) → length (decimal_text n) ≤ 4 = λ n. omega (arith, decimal-len n) in
    omega (arith, joined-len decimal_text short 46 (digits_in 256 4 bits), digits-len 256 4 bits)

pub mac-len : (octets : List ℕ) → length octets ≡ 6 → length (mac_text octets) ≤ 100
unfolding mac_text
mac-len octets six =
    let short : (n : ℕ) → length (octet_text n) ≤ 4 = λ n. omega arith in
    omega (arith, joined-len octet_text short 58 octets, six)

colons-len : (groups : List ℕ) → length (colons groups) ≤ 5 * length groups
colons-len groups = joined-len hex_text hex-len 58 groups

compressed-len : (place run : ℕ) (groups : List ℕ) → length groups ≡ 8 → length (compressed_text place run groups) ≤ 100
compressed-len place run groups eight =
    omega (
      arith,
      length-append (colons (take place groups)) (58 ∷ 58 ∷ colons (drop (place + run) groups)),
      colons-len (take place groups),
      colons-len (drop (place + run) groups),
      length-take place groups,
      length-drop (place + run) groups,
      eight,
    )

groups-len : (groups : List ℕ) → length groups ≡ 8 → length (groups_text groups) ≤ 100
unfolding groups_text
groups-len groups eight =
    either-len (nat_lt (longest groups) 2) 100 (colons groups) (compressed_text (place_of (longest groups) groups) (longest groups) groups)
    (omega (arith, colons-len groups, eight)) (compressed-len (place_of (longest groups) groups) (longest groups) groups eight)

v6-len : (bits : ℕ) → length (v6_text bits) ≤ 100
unfolding v6_text
v6-len bits = groups-len (digits_in 65536 8 bits) (digits-len 65536 8 bits)

pub v4_prefix-len : (prefix : Prefix4) → length (v4_prefix_text prefix) ≤ 200
v4_prefix-len prefix = omega (arith, length-append (v4_text prefix.bits) (47 ∷ decimal_text prefix.len), v4-len prefix.bits, decimal-len prefix.len)

pub v6_prefix-len : (prefix : Prefix6) → length (v6_prefix_text prefix) ≤ 200
v6_prefix-len prefix = omega (arith, length-append (v6_text prefix.bits) (47 ∷ decimal_text prefix.len), v6-len prefix.bits, decimal-len prefix.len)

pub address-len : (address : Address) → length (address_text address) ≤ 100
address-len (V4 bits) = v4-len bits
address-len (V6 bits) = v6-len bits
