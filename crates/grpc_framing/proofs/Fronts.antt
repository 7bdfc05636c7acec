-- What stands at the front of a stream, and what stands there when more bytes come.
use Rattle.std.proofs.Common.{◌≡◌, ℕ, ◌+◌, ◌<◌, ◌≤◌, Bool, true, false, cond, ltb, eqb, List, [], ◌∷◌, ◌++◌, length, take, drop, refl, ap, arith}
use Rattle.std.specs.Int.{w32, from_be_bytes}
use Rattle.std.proofs.lemmas.Bool.{ltb-false, le-ltb}
use Rattle.std.proofs.lemmas.List.{take-append-le, length-append, length-drop}
use Rattle.grpc_framing.specs.declared.front.Front.{Front}
use Rattle.grpc_framing.specs.declared.front.Front.TheVariants.{Message, NeedMore, Compressed, TooLong}
use Rattle.grpc_framing.specs.Framing.{item_at, front_at}

abbrev chain : Bool → Bool → Bool → ℕ → Front
chain short long part n = cond short NeedMore (cond long TooLong (cond part NeedMore (Message n)))

message_is : (short long part : Bool) (m n : ℕ) → chain short long part m ≡ Message n → (short ≡ false) × (long ≡ false) × (part ≡ false) × (m ≡ n)
message_is true long part m n e = absurd cc
message_is false true part m n e = absurd cc
message_is false false true m n e = absurd cc
message_is false false false m n e = (refl, refl, refl, cc)

too_long_is : (short long part : Bool) (m : ℕ) → chain short long part m ≡ TooLong → (short ≡ false) × (long ≡ true)
too_long_is true long part m e = absurd cc
too_long_is false true part m e = (refl, refl)
too_long_is false false true m e = absurd cc
too_long_is false false false m e = absurd cc

never_compressed : (short long part : Bool) (m : ℕ) → chain short long part m ≡ Compressed → ⊥
never_compressed true long part m e = cc
never_compressed false true part m e = cc
never_compressed false false true m e = cc
never_compressed false false false m e = cc

abbrev pub count_at : List ℕ → ℕ
count_at bytes = from_be_bytes w32 (take 4 bytes)

count-more : (bytes more : List ℕ) → 4 ≤ length bytes → count_at (bytes ++ more) ≡ count_at bytes
count-more bytes more le = ap (λ (x : List ℕ). from_be_bytes w32 x) (take-append-le 4 bytes more le)

pub item_at-message : (limit : ℕ) (bytes : List ℕ) (n : ℕ) → item_at limit bytes ≡ Message n
    → (ltb (length bytes) 4 ≡ false) × (ltb limit (count_at bytes) ≡ false) × (ltb (length (drop 4 bytes)) (count_at bytes) ≡ false) × (count_at bytes ≡ n)
unfolding item_at
item_at-message limit bytes n e = message_is (ltb (length bytes) 4) (ltb limit (count_at bytes)) (ltb (length (drop 4 bytes)) (count_at bytes)) (count_at bytes) n e

-- a whole message is within the limit, and is there
record IsWhole (limit n head : ℕ) (bytes : List ℕ) : Type 0 where
  pub within : n ≤ limit
  pub there : head + n ≤ length bytes

item_at-whole : (limit : ℕ) (bytes : List ℕ) (n : ℕ) → item_at limit bytes ≡ Message n → IsWhole limit n 4 bytes
item_at-whole limit bytes n e =
    let p = item_at-message limit bytes n e in
    let four : 4 ≤ length bytes = ltb-false _ _ p.0 in
    let low : count_at bytes ≤ limit = ltb-false _ _ p.1 in
    let all : count_at bytes ≤ length (drop 4 bytes) = ltb-false _ _ p.2 in
    let same = p.3 in
    record { within = omega (arith, low, same); there = omega (arith, length-drop 4 bytes, all, same) }

item_at-more : (limit : ℕ) (bytes more : List ℕ) (n : ℕ) → item_at limit bytes ≡ Message n → item_at limit (bytes ++ more) ≡ Message n
unfolding item_at
item_at-more limit bytes more n e =
    let p = item_at-message limit bytes n e in
    let four : 4 ≤ length bytes = ltb-false _ _ p.0 in
    let all : count_at bytes ≤ length (drop 4 bytes) = ltb-false _ _ p.2 in
    let long : ltb limit (count_at bytes) ≡ false = p.1 in
    let count = count-more bytes more four in
    let a : ltb (length (bytes ++ more)) 4 ≡ false = le-ltb _ _ (omega (arith, length-append bytes more)) in
    let b : ltb (length (drop 4 (bytes ++ more))) (count_at bytes) ≡ false = le-ltb _ _ (omega (arith, length-drop 4 bytes, length-drop 4 (bytes ++ more), length-append bytes more, all)) in
    rw (a, count, long, b) (ap Message p.3)

item_at-too_long : (limit : ℕ) (bytes more : List ℕ) → item_at limit bytes ≡ TooLong → item_at limit (bytes ++ more) ≡ TooLong
unfolding item_at
item_at-too_long limit bytes more e =
    let p = too_long_is (ltb (length bytes) 4) (ltb limit (count_at bytes)) (ltb (length (drop 4 bytes)) (count_at bytes)) (count_at bytes) e in
    let four : 4 ≤ length bytes = ltb-false _ _ p.0 in
    let long : ltb limit (count_at bytes) ≡ true = p.1 in
    let count = count-more bytes more four in
    let a : ltb (length (bytes ++ more)) 4 ≡ false = le-ltb _ _ (omega (arith, length-append bytes more)) in
    rw (a, count, long) refl

item_at-compressed : (limit : ℕ) (bytes : List ℕ) → item_at limit bytes ≡ Compressed → ⊥
unfolding item_at
item_at-compressed limit bytes e = never_compressed (ltb (length bytes) 4) (ltb limit (count_at bytes)) (ltb (length (drop 4 bytes)) (count_at bytes)) (count_at bytes) e

pub flag_message : (b : Bool) (f : Front) (n : ℕ) → cond b f Compressed ≡ Message n → (b ≡ true) × (f ≡ Message n)
flag_message true f n e = (refl, e)
flag_message false f n e = absurd cc

flag_too_long : (b : Bool) (f : Front) → cond b f Compressed ≡ TooLong → (b ≡ true) × (f ≡ TooLong)
flag_too_long true f e = (refl, e)
flag_too_long false f e = absurd cc

flag_compressed : (b : Bool) (f : Front) → cond b f Compressed ≡ Compressed → (f ≡ Compressed → ⊥) → b ≡ false
flag_compressed true f e never = absurd (never e)
flag_compressed false f e never = refl

front_at-whole : (limit : ℕ) (bytes : List ℕ) (n : ℕ) → front_at limit bytes ≡ Message n → IsWhole limit n 5 bytes
unfolding front_at
front_at-whole limit [] n e = absurd cc
front_at-whole limit (flag ∷ bytes) n e =
    let p = flag_message (eqb flag 0) (item_at limit bytes) n e in
    let h = item_at-whole limit bytes n p.1 in
    record { within = h.within; there = omega (arith, h.there) }

-- a whole message and its head are there
pub front_at-len : (limit : ℕ) (bytes : List ℕ) (n : ℕ) → front_at limit bytes ≡ Message n → 5 + n ≤ length bytes
front_at-len limit bytes n e = (front_at-whole limit bytes n e).there

-- a whole message is within the limit
pub front_at-within : (limit : ℕ) (bytes : List ℕ) (n : ℕ) → front_at limit bytes ≡ Message n → n ≤ limit
front_at-within limit bytes n e = (front_at-whole limit bytes n e).within

-- a whole message stays one when more bytes come
pub front_at-more : (limit : ℕ) (bytes more : List ℕ) (n : ℕ) → front_at limit bytes ≡ Message n → front_at limit (bytes ++ more) ≡ Message n
unfolding front_at
front_at-more limit [] more n e = absurd cc
front_at-more limit (flag ∷ bytes) more n e = let p = flag_message (eqb flag 0) (item_at limit bytes) n e in let t = p.0 in rw t (item_at-more limit bytes more n p.1)

-- a message that is too long stays so
pub front_at-too_long : (limit : ℕ) (bytes more : List ℕ) → front_at limit bytes ≡ TooLong → front_at limit (bytes ++ more) ≡ TooLong
unfolding front_at
front_at-too_long limit [] more e = absurd cc
front_at-too_long limit (flag ∷ bytes) more e = let p = flag_too_long (eqb flag 0) (item_at limit bytes) e in let t = p.0 in rw t (item_at-too_long limit bytes more p.1)

-- a compressed message stays one
pub front_at-compressed : (limit : ℕ) (bytes more : List ℕ) → front_at limit bytes ≡ Compressed → front_at limit (bytes ++ more) ≡ Compressed
unfolding front_at
front_at-compressed limit [] more e = absurd cc
front_at-compressed limit (flag ∷ bytes) more e = let t = flag_compressed (eqb flag 0) (item_at limit bytes) e (item_at-compressed limit bytes) in rw t refl

-- at an empty front more is needed
pub front_at-nil : (limit : ℕ) → front_at limit [] ≡ NeedMore
unfolding front_at
front_at-nil limit = refl

-- something stands where a message is refused
pub too_long-len : (limit : ℕ) (bytes : List ℕ) → front_at limit bytes ≡ TooLong → 0 < length bytes
unfolding front_at
too_long-len limit [] e = absurd cc
too_long-len limit (flag ∷ bytes) e = omega arith

pub compressed-len : (limit : ℕ) (bytes : List ℕ) → front_at limit bytes ≡ Compressed → 0 < length bytes
unfolding front_at
compressed-len limit [] e = absurd cc
compressed-len limit (flag ∷ bytes) e = omega arith
