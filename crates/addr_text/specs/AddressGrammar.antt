-- The grammar of addresses and prefixes, over whole texts (IPv6 after RFC 4291). A text is the list of its bytes.
use Rattle.std.specs.Prelude.{ℕ, ◌+◌, ◌-◌, ◌*◌, ◌/◌, ◌%◌, ◌^◌, Bool, true, false, ◌&&◌, not, ◌==◌, nat_lt, nat_le, if◌then◌else◌, List, [], ◌∷◌, ◌++◌, map, length, fold, replicate, Option, Some, None, option_map, Result, Ok, Err}
use Rattle.std.specs.List.{list_any}
use Rattle.addr_text.specs.declared.Address.{Address}
use Rattle.addr_text.specs.declared.Address.TheVariants.{V4, V6}
use Rattle.addr_text.specs.declared.Prefix4.{Prefix4}
use Rattle.addr_text.specs.declared.Prefix6.{Prefix6}
use Rattle.addr_text.specs.declared.TextFault.{TextFault}
use Rattle.addr_text.specs.declared.TextFault.TheVariants.{BadText, HostBits}

-- Numbers

-- the number that digits give in a base, the highest first
abbrev pub in_base : ℕ → List ℕ → ℕ
in_base base digits = fold (λ number digit. number * base + digit) 0 digits

-- the list of what each gives, if each gives something
abbrev pub all_of : {X : Type 0} → List (Option X) → Option (List X)
all_of [] = Some []
all_of (None ∷ others) = None
all_of (Some x ∷ others) = option_map (λ xs. x ∷ xs) (all_of others)

abbrev pub digit : ℕ → Option ℕ
digit c = if nat_le 48 c && nat_le c 57 then Some (c - 48) else None

-- a digit of base 16, of either case
abbrev pub hex_digit : ℕ → Option ℕ
hex_digit c =
    if nat_le 48 c && nat_le c 57 then Some (c - 48)
    else if nat_le 65 c && nat_le c 70 then Some (c - 55)
    else if nat_le 97 c && nat_le c 102 then Some (c - 87) else None

abbrev pub number_by : (ℕ → Option ℕ) → ℕ → List ℕ → Option ℕ
number_by digit_of base text = option_map (in_base base) (all_of (map digit_of text))

abbrev pub at_most : ℕ → Option ℕ → Option ℕ
at_most most None = None
at_most most (Some number) = if nat_le number most then Some number else None

-- one to three digits, of which the first is a 0 only where it stands alone
abbrev pub is_plain : List ℕ → Bool
is_plain [] = false
is_plain (a ∷ []) = true
is_plain (a ∷ b ∷ others) = not (a == 48) && nat_le (length others) 1

-- a decimal number that is at most so large, without needless zero
unfoldable pub decimal : ℕ → List ℕ → Option ℕ
decimal most text = if is_plain text then at_most most (number_by digit 10 text) else None

-- a group: one to four hexadecimal digits
unfoldable pub hextet : List ℕ → Option ℕ
hextet text = if nat_lt 0 (length text) && nat_le (length text) 4 then number_by hex_digit 16 text else None

-- Parts

abbrev pub onto_first : ℕ → List (List ℕ) → List (List ℕ)
onto_first c [] = (c ∷ []) ∷ []
onto_first c (part ∷ others) = (c ∷ part) ∷ others

-- the parts of a text that a separator parts
abbrev pub parts : ℕ → List ℕ → List (List ℕ)
parts separator [] = [] ∷ []
parts separator (c ∷ text) = if c == separator then [] ∷ parts separator text else onto_first c (parts separator text)

abbrev pub behind : ℕ → Option (List ℕ × List ℕ) → Option (List ℕ × List ℕ)
behind c None = None
behind c (Some halves) = Some (c ∷ halves.0, halves.1)

-- what stands before and after the first `::`
abbrev pub at_double_colon : List ℕ → Option (List ℕ × List ℕ)
at_double_colon [] = None
at_double_colon (c ∷ []) = None
at_double_colon (c ∷ d ∷ text) = if c == 58 && d == 58 then Some ([], text) else behind c (at_double_colon (d ∷ text))

-- IPv4: four numbers 0 to 255, joined by points

abbrev pub quad : List (List ℕ) → Option ℕ
quad (a ∷ b ∷ c ∷ d ∷ []) = option_map (in_base 256) (all_of (map (decimal 255) (a ∷ b ∷ c ∷ d ∷ [])))
quad _ = None

unfoldable pub v4_bits : List ℕ → Option ℕ
v4_bits text = quad (parts 46 text)

-- IPv6: groups joined by colons

abbrev pub and_groups : Option ℕ → Option (List ℕ) → Option (List ℕ)
and_groups None groups = None
and_groups (Some group) groups = option_map (λ others. group ∷ others) groups

abbrev pub is_dotted : List ℕ → Bool
is_dotted text = list_any (λ c. c == 46) text

abbrev pub two_groups : Option ℕ → Option (List ℕ)
two_groups bits = option_map (λ bits. bits / 65536 ∷ bits % 65536 ∷ []) bits

-- the last part is a group, or, where that may be, an IPv4 text, which gives two groups
abbrev pub last_groups : Bool → List ℕ → Option (List ℕ)
last_groups tail part =
    if tail && is_dotted part then two_groups (v4_bits part)
    else option_map (λ group. group ∷ []) (hextet part)

abbrev pub groups : Bool → List (List ℕ) → Option (List ℕ)
groups tail [] = Some []
groups tail (part ∷ []) = last_groups tail part
groups tail (part ∷ other ∷ others) = and_groups (hextet part) (groups tail (other ∷ others))

-- the groups on one side of `::`, which may be none
abbrev pub side : Bool → List ℕ → Option (List ℕ)
side tail [] = Some []
side tail (c ∷ text) = groups tail (parts 58 (c ∷ text))

-- eight groups
abbrev pub whole : Option (List ℕ) → Option ℕ
whole None = None
whole (Some all) = if length all == 8 then Some (in_base 65536 all) else None

-- fewer than eight groups on both sides of `::`, which stands for as many zero groups as lack
abbrev pub compressed : Option (List ℕ) → Option (List ℕ) → Option ℕ
compressed None back = None
compressed (Some front) None = None
compressed (Some front) (Some back) =
    if nat_lt (length front + length back) 8
    then Some (in_base 65536 (front ++ replicate (8 - (length front + length back)) 0 ++ back)) else None

abbrev pub v6_split : List ℕ → Option (List ℕ × List ℕ) → Option ℕ
v6_split text None = whole (groups true (parts 58 text))
v6_split text (Some halves) = compressed (side false halves.0) (side true halves.1)

unfoldable pub v6_bits : List ℕ → Option ℕ
v6_bits text = v6_split text (at_double_colon text)

-- Prefixes and addresses

abbrev pub and_length : Option ℕ → Option ℕ → Option (ℕ × ℕ)
and_length None len = None
and_length (Some bits) None = None
and_length (Some bits) (Some len) = Some (bits, len)

-- an address, `/`, and a length that is at most so large
abbrev pub address_and_length : (List ℕ → Option ℕ) → ℕ → List (List ℕ) → Option (ℕ × ℕ)
address_and_length address most (front ∷ len ∷ []) = and_length (address front) (decimal most len)
address_and_length address most _ = None

-- no bit past the length is set
abbrev pub is_clear : ℕ → ℕ × ℕ → Bool
is_clear width prefix = prefix.0 % 2 ^ (width - prefix.1) == 0

abbrev pub as_v4 : Option (ℕ × ℕ) → Result Prefix4 TextFault
as_v4 None = Err BadText
as_v4 (Some prefix) = if is_clear 32 prefix then Ok (record { bits = prefix.0; len = prefix.1 }) else Err HostBits

abbrev pub as_v6 : Option (ℕ × ℕ) → Result Prefix6 TextFault
as_v6 None = Err BadText
as_v6 (Some prefix) = if is_clear 128 prefix then Ok (record { bits = prefix.0; len = prefix.1 }) else Err HostBits

unfoldable pub v4_prefix : List ℕ → Result Prefix4 TextFault
v4_prefix text = as_v4 (address_and_length v4_bits 32 (parts 47 text))

unfoldable pub v6_prefix : List ℕ → Result Prefix6 TextFault
v6_prefix text = as_v6 (address_and_length v6_bits 128 (parts 47 text))

abbrev pub as_address : Option ℕ → Option ℕ → Result Address TextFault
as_address (Some bits) other = Ok (V4 bits)
as_address None (Some bits) = Ok (V6 bits)
as_address None None = Err BadText

unfoldable pub address : List ℕ → Result Address TextFault
address text = as_address (v4_bits text) (v6_bits text)

-- MAC: six groups of two hexadecimal digits, joined by colons

abbrev pub octet : List ℕ → Option ℕ
octet text = if length text == 2 then number_by hex_digit 16 text else None

abbrev pub six : List (List ℕ) → Option (List ℕ)
six (a ∷ b ∷ c ∷ d ∷ e ∷ f ∷ []) = all_of (map octet (a ∷ b ∷ c ∷ d ∷ e ∷ f ∷ []))
six _ = None

unfoldable pub mac : List ℕ → Option (List ℕ)
mac text = six (parts 58 text)
