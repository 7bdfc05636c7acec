-- A cut is the bytes again, and messages that were written are cut again.
use Rattle.std.proofs.Common.{◌≡◌, ℕ, ◌+◌, ◌^◌, ◌<◌, ◌≤◌, false, ltb, List, [], ◌∷◌, ◌++◌, length, take, drop, refl, sym, ap, ◌∙◌, append_assoc, arith}
use Rattle.std.specs.Prelude.{All}
use Rattle.std.specs.Int.{w32, from_be_bytes, to_be_bytes}
use Rattle.std.proofs.lemmas.Bool.{le-ltb}
use Rattle.std.proofs.lemmas.Nat.{from_be_bytes-to_be_bytes_4}
use Rattle.std.proofs.lemmas.List.{take_at, drop_at, drop_all, append-nil, length-append}
use Rattle.std.proofs.lemmas.List.Elements.{All-head, All-tail}
use Rattle.grpc_framing.specs.declared.front.Front.{Front}
use Rattle.grpc_framing.specs.declared.front.Front.TheVariants.{Message, NeedMore, Compressed, TooLong}
use Rattle.grpc_framing.specs.Framing.{item_at, front_at, stopped, first_then, all_then, messages_of, item, items}
use Rattle.grpc_framing.proofs.Streams.{messages_of-message, messages_of-at}

-- ---- what was written

length-head : (n : ℕ) → length (to_be_bytes w32 n) ≡ 4
length-head n = refl

item_at-head : (limit : ℕ) (head message : List ℕ) → length head ≡ 4 → from_be_bytes w32 head ≡ length message → length message ≤ limit
    → item_at limit (head ++ message) ≡ Message (length message)
unfolding item_at
item_at-head limit head message four count le =
    let a : ltb (length (head ++ message)) 4 ≡ false = le-ltb _ _ (omega (arith, length-append head message, four)) in
    let front : take 4 (head ++ message) ≡ head = take_at head message 4 four in
    let rest : drop 4 (head ++ message) ≡ message = drop_at head message 4 four in
    let low : ltb limit (length message) ≡ false = le-ltb _ _ le in
    let all : ltb (length message) (length message) ≡ false = le-ltb _ _ (omega arith) in
    rw (a, front, count, low, rest, all) refl

item_at-written : (limit : ℕ) (message : List ℕ) → limit < 2 ^ 32 → length message ≤ limit
    → item_at limit (to_be_bytes w32 (length message) ++ message) ≡ Message (length message)
item_at-written limit message small le =
    item_at-head limit (to_be_bytes w32 (length message)) message (length-head (length message)) (from_be_bytes-to_be_bytes_4 (length message) (omega (arith, small, le))) le

front_at-written : (limit : ℕ) (message : List ℕ) → limit < 2 ^ 32 → length message ≤ limit → front_at limit (item message) ≡ Message (length message)
unfolding front_at
front_at-written limit message small le = item_at-written limit message small le

one_written : (limit : ℕ) (message more : List ℕ) → limit < 2 ^ 32 → length message ≤ limit
    → messages_of limit (item message ++ more) ≡ first_then message (messages_of limit more)
one_written limit message more small le =
    let head : List ℕ = to_be_bytes w32 (length message) in
    let four : length (0 ∷ head) ≡ 5 = omega (arith, length-head (length message)) in
    let text : drop 5 (item message) ≡ message = drop_at (0 ∷ head) message 5 four in
    let whole : take (length message) message ≡ message = ap (λ (x : List ℕ). take (length message) x) (sym (append-nil message)) ∙ take_at message [] (length message) refl in
    let len : length (item message) ≡ 5 + length message = omega (arith, length-append (0 ∷ head) message, four) in
    let none : drop (5 + length message) (item message) ≡ [] = drop_all (5 + length message) (item message) (omega (arith, len)) in
    messages_of-message limit (length message) (item message) more (front_at-written limit message small le) ∙ rw (text, whole, none) refl

-- messages that were written are cut again
pub messages_of-items : (limit : ℕ) (messages : List (List ℕ)) (more : List ℕ) → limit < 2 ^ 32 → All (λ message. length message ≤ limit) messages
    → messages_of limit (items messages ++ more) ≡ all_then messages (messages_of limit more)
messages_of-items limit [] more small h = refl
messages_of-items limit (message ∷ messages) more small h =
    ap (messages_of limit) (append_assoc (item message) (items messages) more)
    ∙ one_written limit message (items messages ++ more) small (All-head (λ message. length message ≤ limit) message messages h)
    ∙ ap (first_then message) (messages_of-items limit messages more small (All-tail (λ message. length message ≤ limit) message messages h))

-- where no message stands, the cut is empty
stops_at : (limit : ℕ) (rest : List ℕ) (f : Front) → front_at limit rest ≡ f → ((n : ℕ) → f ≡ Message n → ⊥) → messages_of limit rest ≡ stopped rest f
stops_at limit rest (Message n) e none = absurd (none n refl)
stops_at limit rest NeedMore e none = messages_of-at limit rest NeedMore e
stops_at limit rest Compressed e none = messages_of-at limit rest Compressed e
stops_at limit rest TooLong e none = messages_of-at limit rest TooLong e

-- messages and a rest where no message stands are the cut
pub messages_of-only : (limit : ℕ) (messages : List (List ℕ)) (rest : List ℕ) → limit < 2 ^ 32 → All (λ message. length message ≤ limit) messages
    → ((n : ℕ) → front_at limit rest ≡ Message n → ⊥)
    → messages_of limit (items messages ++ rest) ≡ all_then messages (stopped rest (front_at limit rest))
messages_of-only limit messages rest small h none =
    messages_of-items limit messages rest small h ∙ ap (all_then messages) (stops_at limit rest (front_at limit rest) refl none)
