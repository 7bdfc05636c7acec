-- A cut is the bytes again, and ends where no message stands.
use Rattle.std.proofs.Common.{◌≡◌, ℕ, zero, suc, ◌+◌, ◌<◌, ◌≤◌, ◌⊎◌, inl, inr, eqb, List, [], ◌∷◌, ◌++◌, length, take, drop, get_or, refl, sym, ap, ◌∙◌, append_assoc, arith}
use Rattle.std.specs.Prelude.{All}
use Rattle.std.specs.Int.{w32, to_be_bytes}
use Rattle.std.proofs.lemmas.Bool.{ltb-false, eqb-true, cases_lt}
use Rattle.std.proofs.lemmas.Nat.{be_bytes_4}
use Rattle.std.proofs.lemmas.List.{take-append-drop, drop-drop, length-take, length-drop, get_or_past}
use Rattle.std.proofs.lemmas.List.Elements.{All-nil, All-cons, All-tail, All-take, All-drop, All-get_or}
use Rattle.grpc_framing.specs.declared.front.Front.{Front}
use Rattle.grpc_framing.specs.declared.front.Front.TheVariants.{Message, NeedMore, Compressed, TooLong}
use Rattle.grpc_framing.specs.Framing.{Messages, item_at, front_at, first_of, messages_upto, messages_of, item, items}
use Rattle.grpc_framing.proofs.Fronts.{count_at, item_at-message, flag_message, front_at-len, front_at-within, front_at-nil}

-- ---- one message

get_or-byte : (xs : List ℕ) (i : ℕ) → All (λ byte. byte < 256) xs → get_or xs i 0 < 256
get_or-byte xs i h = by (cases_lt i (length xs))
  where
    by : (i < length xs) ⊎ (length xs ≤ i) → get_or xs i 0 < 256
    by (inl lt) = All-get_or (λ byte. byte < 256) xs i 0 lt h
    by (inr le) = let past : get_or xs i 0 ≡ 0 = get_or_past xs i 0 le in omega (arith, past)

tail_again : (limit n : ℕ) (tail : List ℕ) → item_at limit tail ≡ Message n → All (λ byte. byte < 256) tail
    → (to_be_bytes w32 (length (take n (drop 4 tail))) ++ take n (drop 4 tail)) ++ drop (4 + n) tail ≡ tail
tail_again limit n tail e h =
    let p = item_at-message limit tail n e in
    let four : 4 ≤ length tail = ltb-false _ _ p.0 in
    let all : count_at tail ≤ length (drop 4 tail) = ltb-false _ _ p.2 in
    let same : count_at tail ≡ n = p.3 in
    let len : length (take n (drop 4 tail)) ≡ n = omega (arith, length-take n (drop 4 tail), all, same) in
    let head_len : length (take 4 tail) ≡ 4 = omega (arith, length-take 4 tail, four) in
    let head : to_be_bytes w32 n ≡ take 4 tail = be_bytes_4 (take 4 tail) n head_len (λ i. get_or-byte (take 4 tail) i (All-take (λ byte. byte < 256) 4 tail h)) (sym same) in
    ap (λ (k : ℕ). (to_be_bytes w32 k ++ take n (drop 4 tail)) ++ drop (4 + n) tail) len
    ∙ ap (λ (x : List ℕ). (x ++ take n (drop 4 tail)) ++ drop (4 + n) tail) head
    ∙ append_assoc (take 4 tail) (take n (drop 4 tail)) (drop (4 + n) tail)
    ∙ ap (λ (x : List ℕ). take 4 tail ++ x) (ap (λ (x : List ℕ). take n (drop 4 tail) ++ x) (sym (drop-drop n 4 tail)) ∙ take-append-drop n (drop 4 tail))
    ∙ take-append-drop 4 tail

front_again : (limit n : ℕ) (bytes : List ℕ) → front_at limit bytes ≡ Message n → All (λ byte. byte < 256) bytes
    → item (take n (drop 5 bytes)) ++ drop (5 + n) bytes ≡ bytes
unfolding front_at
front_again limit n [] e h = absurd cc
front_again limit n (flag ∷ tail) e h =
    let p = flag_message (eqb flag 0) (item_at limit tail) n e in
    let none : flag ≡ 0 = eqb-true flag 0 p.0 in
    let k : 5 + n ≡ suc (4 + n) = omega arith in
    rw k (ap (λ (x : List ℕ). 0 ∷ x) (tail_again limit n tail p.1 (All-tail (λ byte. byte < 256) flag tail h)) ∙ ap (λ (x : ℕ). x ∷ tail) (sym none))

-- ---- all messages

again_first : (n limit : ℕ) (bytes : List ℕ) (f : Front) → front_at limit bytes ≡ f → All (λ byte. byte < 256) bytes
    → ((rest : List ℕ) → All (λ byte. byte < 256) rest → items (messages_upto n limit rest).messages ++ (messages_upto n limit rest).rest ≡ rest)
    → items (first_of (messages_upto n limit) bytes f).messages ++ (first_of (messages_upto n limit) bytes f).rest ≡ bytes
again_first n limit bytes (Message k) e h others =
    let cut : Messages = messages_upto n limit (drop (5 + k) bytes) in
    append_assoc (item (take k (drop 5 bytes))) (items cut.messages) cut.rest
    ∙ ap (λ (x : List ℕ). item (take k (drop 5 bytes)) ++ x) (others (drop (5 + k) bytes) (All-drop (λ byte. byte < 256) (5 + k) bytes h))
    ∙ front_again limit k bytes e h
again_first n limit bytes NeedMore e h others = refl
again_first n limit bytes Compressed e h others = refl
again_first n limit bytes TooLong e h others = refl

again_upto : (n limit : ℕ) (bytes : List ℕ) → All (λ byte. byte < 256) bytes → items (messages_upto n limit bytes).messages ++ (messages_upto n limit bytes).rest ≡ bytes
unfolding messages_upto
again_upto zero limit bytes h = refl
again_upto (suc n) limit bytes h = again_first n limit bytes (front_at limit bytes) refl h (λ rest. again_upto n limit rest)

pub messages_of-again : (limit : ℕ) (bytes : List ℕ) → All (λ byte. byte < 256) bytes → items (messages_of limit bytes).messages ++ (messages_of limit bytes).rest ≡ bytes
unfolding messages_of
messages_of-again limit bytes h = again_upto (length bytes) limit bytes h

within_first : (n limit : ℕ) (bytes : List ℕ) (f : Front) → front_at limit bytes ≡ f → ((rest : List ℕ) → All (λ message. length message ≤ limit) (messages_upto n limit rest).messages)
    → All (λ message. length message ≤ limit) (first_of (messages_upto n limit) bytes f).messages
within_first n limit bytes (Message k) e others =
    let low = front_at-within limit bytes k e in
    All-cons (λ message. length message ≤ limit) (take k (drop 5 bytes)) (messages_upto n limit (drop (5 + k) bytes)).messages (omega (arith, length-take k (drop 5 bytes), low)) (others (drop (5 + k) bytes))
within_first n limit bytes NeedMore e others = All-nil (λ message. length message ≤ limit)
within_first n limit bytes Compressed e others = All-nil (λ message. length message ≤ limit)
within_first n limit bytes TooLong e others = All-nil (λ message. length message ≤ limit)

within_upto : (n limit : ℕ) (bytes : List ℕ) → All (λ message. length message ≤ limit) (messages_upto n limit bytes).messages
unfolding messages_upto
within_upto zero limit bytes = All-nil (λ message. length message ≤ limit)
within_upto (suc n) limit bytes = within_first n limit bytes (front_at limit bytes) refl (λ rest. within_upto n limit rest)

pub messages_of-within : (limit : ℕ) (bytes : List ℕ) → All (λ message. length message ≤ limit) (messages_of limit bytes).messages
unfolding messages_of
messages_of-within limit bytes = within_upto (length bytes) limit bytes

-- ---- the ending

-- What stands at the front of the rest is no message, and why.
abbrev IsEnding : ℕ → Messages → Type 0
IsEnding limit cut = (front_at limit cut.rest ≡ cut.ending) × ((n : ℕ) → cut.ending ≡ Message n → ⊥)

ends_first : (n limit : ℕ) (bytes : List ℕ) (f : Front) → front_at limit bytes ≡ f → length bytes ≤ suc n → ((rest : List ℕ) → length rest ≤ n → IsEnding limit (messages_upto n limit rest))
    → IsEnding limit (first_of (messages_upto n limit) bytes f)
ends_first n limit bytes (Message k) e le others =
    let len = front_at-len limit bytes k e in
    others (drop (5 + k) bytes) (omega (arith, len, length-drop (5 + k) bytes))
ends_first n limit bytes NeedMore e le others = (e, λ n h. cc)
ends_first n limit bytes Compressed e le others = (e, λ n h. cc)
ends_first n limit bytes TooLong e le others = (e, λ n h. cc)

ends_upto : (n limit : ℕ) (bytes : List ℕ) → length bytes ≤ n → IsEnding limit (messages_upto n limit bytes)
unfolding messages_upto
ends_upto zero limit [] le = (front_at-nil limit, λ n h. cc)
ends_upto zero limit (b ∷ bytes) le = absurd (omega arith)
ends_upto (suc n) limit bytes le = ends_first n limit bytes (front_at limit bytes) refl le (λ rest. ends_upto n limit rest)

messages_of-ends : (limit : ℕ) (bytes : List ℕ) → IsEnding limit (messages_of limit bytes)
unfolding messages_of
messages_of-ends limit bytes = ends_upto (length bytes) limit bytes (omega arith)

pub messages_of-ending : (limit : ℕ) (bytes : List ℕ) → front_at limit (messages_of limit bytes).rest ≡ (messages_of limit bytes).ending
messages_of-ending limit bytes = (messages_of-ends limit bytes).0

pub messages_of-stops : (limit n : ℕ) (bytes : List ℕ) → (messages_of limit bytes).ending ≡ Message n → ⊥
messages_of-stops limit n bytes = (messages_of-ends limit bytes).1 n
