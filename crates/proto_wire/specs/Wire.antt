-- Varints and the values of fields, as they stand on the wire (Protocol Buffers encoding).
use Rattle.std.specs.Prelude.{ℕ, zero, suc, ◌+◌, ◌-◌, ◌*◌, ◌/◌, ◌%◌, ◌^◌, List, [], ◌∷◌, length, take, drop, Result, Ok, Err, ◌==◌, ◌||◌, nat_lt, nat_le, if◌then◌else◌}
use Rattle.proto_wire.specs.declared.reader.WireFault.{WireFault}
use Rattle.proto_wire.specs.declared.reader.WireFault.TheVariants.{Truncated, BadVarint, BadTag, BadType}
use Rattle.proto_wire.specs.declared.reader.WireValue.{WireValue}
use Rattle.proto_wire.specs.declared.reader.WireValue.TheVariants as wire

infixl 10 ◌>>=◌
abbrev pub ◌>>=◌ : {A B : Type 0} → Result A WireFault → (A → Result B WireFault) → Result B WireFault
(Ok x) >>= f = f x
(Err e) >>= f = Err e

-- a number whose other bytes gave this, and whose first byte is b: seven bits in each, the lowest first
abbrev pub behind : ℕ → Result (ℕ × ℕ) WireFault → Result (ℕ × ℕ) WireFault
behind b (Ok r) = Ok ((b - 128) + 128 * r.0, r.1 + 1)
behind b (Err e) = Err e

-- The number of the varint at the front of the bytes, and how many bytes it takes.
-- So many bytes are allowed, and the last of them is 0 or 1.
unfoldable pub varint_within : ℕ → List ℕ → Result (ℕ × ℕ) WireFault
varint_within n [] = Err Truncated
varint_within zero (b ∷ bytes) = Err BadVarint
varint_within (suc zero) (b ∷ bytes) = if nat_le b 1 then Ok (b, 1) else Err BadVarint
varint_within (suc (suc n)) (b ∷ bytes) = if nat_lt b 128 then Ok (b, 1) else behind b (varint_within (suc n) bytes)

abbrev pub varint_at : List ℕ → Result (ℕ × ℕ) WireFault
varint_at bytes = varint_within 10 bytes

-- the value of a field
pub data Value : Type 0 where
  Varint : ℕ → Value
  Eight : List ℕ → Value
  Bytes : List ℕ → Value
  Four : List ℕ → Value

-- how many bytes there are in a value of bytes
abbrev pub bytes_len : Value → ℕ
bytes_len (Varint n) = 0
bytes_len (Eight eight) = 0
bytes_len (Bytes bytes) = length bytes
bytes_len (Four four) = 0

-- so many bytes behind those that are skipped, and how many bytes that takes
abbrev pub taken : (List ℕ → Value) → ℕ → ℕ → List ℕ → Result (Value × ℕ) WireFault
taken make skipped n bytes =
    if nat_lt (length bytes) (skipped + n) then Err Truncated else
    Ok (make (take n (drop skipped bytes)), skipped + n)

-- the value of this wire type at the front of the bytes, and how many bytes it takes
unfoldable pub value_at : ℕ → List ℕ → Result (Value × ℕ) WireFault
value_at kind bytes =
    if kind == 0 then (varint_at bytes >>= λ r. Ok (Varint r.0, r.1)) else
    if kind == 1 then taken Eight 0 8 bytes else
    if kind == 2 then (varint_at bytes >>= λ r. taken Bytes r.1 r.0 bytes) else
    if kind == 5 then taken Four 0 4 bytes else
    Err BadType

-- a field without its place
pub record TaggedValue : Type 0 where
  pub number : ℕ
  pub value : Value
  pub size : ℕ

-- The field at the front of the bytes, its tag first: the number times 8, and the wire type.
-- So a tag below 8 has number 0.
unfoldable pub tagged_value_at : List ℕ → Result TaggedValue WireFault
tagged_value_at bytes =
    varint_at bytes >>= λ tag.
    if nat_lt tag.0 8 || nat_lt (2 ^ 32 - 1) tag.0 then Err BadTag else
    (value_at (tag.0 % 8) (drop tag.1 bytes) >>= λ v. Ok (record { number = tag.0 / 8; value = v.0; size = tag.1 + v.1 }))

-- the value that the code has
abbrev pub value_of : WireValue → Value
value_of (wire.Varint n) = Varint n
value_of (wire.Eight eight) = Eight eight
value_of (wire.Bytes bytes) = Bytes bytes.now
value_of (wire.Four four) = Four four

abbrev pub value_view : Result (WireValue × ℕ) WireFault → Result (Value × ℕ) WireFault
value_view (Ok r) = Ok (value_of r.0, r.1)
value_view (Err e) = Err e

abbrev pub tagged_value_view : Result (ℕ × WireValue × ℕ) WireFault → Result TaggedValue WireFault
tagged_value_view (Ok r) = Ok (record { number = r.0; value = value_of r.1; size = r.2 })
tagged_value_view (Err e) = Err e
