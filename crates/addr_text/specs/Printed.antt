-- The printed forms: IPv6 after RFC 5952 and never with an IPv4 tail, IPv4 in decimal, MAC in lower case.
use Rattle.std.specs.Prelude.{ℕ, zero, suc, ◌+◌, ◌/◌, ◌%◌, ◌==◌, nat_lt, if◌then◌else◌, List, [], ◌∷◌, ◌++◌, map, max, take, drop}
use Rattle.addr_text.specs.declared.Address.{Address}
use Rattle.addr_text.specs.declared.Address.TheVariants.{V4, V6}
use Rattle.addr_text.specs.declared.Prefix4.{Prefix4}
use Rattle.addr_text.specs.declared.Prefix6.{Prefix6}

-- Numbers

abbrev pub digit_text : ℕ → ℕ
digit_text d = if nat_lt d 10 then 48 + d else 87 + d

-- a number below 1,000, without needless zero
abbrev pub decimal_text : ℕ → List ℕ
decimal_text n =
    if nat_lt n 10 then digit_text n ∷ []
    else if nat_lt n 100 then digit_text (n / 10) ∷ digit_text (n % 10) ∷ []
    else digit_text (n / 100) ∷ digit_text (n / 10 % 10) ∷ digit_text (n % 10) ∷ []

-- a group, without needless zero
abbrev pub hex_text : ℕ → List ℕ
hex_text n =
    if nat_lt n 16 then digit_text n ∷ []
    else if nat_lt n 256 then digit_text (n / 16) ∷ digit_text (n % 16) ∷ []
    else if nat_lt n 4096 then digit_text (n / 256) ∷ digit_text (n / 16 % 16) ∷ digit_text (n % 16) ∷ []
    else digit_text (n / 4096) ∷ digit_text (n / 256 % 16) ∷ digit_text (n / 16 % 16) ∷ digit_text (n % 16) ∷ []

abbrev pub octet_text : ℕ → List ℕ
octet_text n = digit_text (n / 16) ∷ digit_text (n % 16) ∷ []

-- so many digits of a number in a base, the highest first
abbrev pub digits_in : ℕ → ℕ → ℕ → List ℕ
digits_in base zero n = []
digits_in base (suc count) n = digits_in base count (n / base) ++ n % base ∷ []

abbrev pub joined : ℕ → List (List ℕ) → List ℕ
joined separator [] = []
joined separator (part ∷ []) = part
joined separator (part ∷ other ∷ others) = part ++ separator ∷ joined separator (other ∷ others)

-- IPv4 and MAC

unfoldable pub v4_text : ℕ → List ℕ
v4_text bits = joined 46 (map decimal_text (digits_in 256 4 bits))

unfoldable pub mac_text : List ℕ → List ℕ
mac_text octets = joined 58 (map octet_text octets)

-- IPv6

-- how many zero groups stand in front
abbrev pub zeros : List ℕ → ℕ
zeros [] = 0
zeros (group ∷ groups) = if group == 0 then 1 + zeros groups else 0

-- the length of the longest run of zero groups
abbrev pub longest : List ℕ → ℕ
longest [] = 0
longest (group ∷ groups) = max (zeros (group ∷ groups)) (longest groups)

-- where the first run of that length begins
abbrev pub place_of : ℕ → List ℕ → ℕ
place_of run [] = 0
place_of run (group ∷ groups) = if zeros (group ∷ groups) == run then 0 else 1 + place_of run groups

abbrev pub colons : List ℕ → List ℕ
colons groups = joined 58 (map hex_text groups)

-- the run at the place is written as `::`
abbrev pub compressed_text : ℕ → ℕ → List ℕ → List ℕ
compressed_text place run groups = colons (take place groups) ++ 58 ∷ 58 ∷ colons (drop (place + run) groups)

-- a single zero group is no run
unfoldable pub groups_text : List ℕ → List ℕ
groups_text groups =
    if nat_lt (longest groups) 2 then colons groups
    else compressed_text (place_of (longest groups) groups) (longest groups) groups

unfoldable pub v6_text : ℕ → List ℕ
v6_text bits = groups_text (digits_in 65536 8 bits)

-- Prefixes and addresses

abbrev pub v4_prefix_text : Prefix4 → List ℕ
v4_prefix_text prefix = v4_text prefix.bits ++ 47 ∷ decimal_text prefix.len

abbrev pub v6_prefix_text : Prefix6 → List ℕ
v6_prefix_text prefix = v6_text prefix.bits ++ 47 ∷ decimal_text prefix.len

abbrev pub address_text : Address → List ℕ
address_text (V4 bits) = v4_text bits
address_text (V6 bits) = v6_text bits
