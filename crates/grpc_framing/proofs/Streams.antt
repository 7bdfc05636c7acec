-- The messages of a stream, one after another.
use Rattle.std.proofs.Common.{◌≡◌, ℕ, zero, suc, ◌+◌, ◌≤◌, List, [], ◌∷◌, ◌++◌, length, take, drop, refl, sym, ap, ◌∙◌, arith}
use Rattle.std.proofs.lemmas.List.{take-append-le, drop-append-le, length-drop}
use Rattle.grpc_framing.specs.declared.front.Front.{Front}
use Rattle.grpc_framing.specs.declared.front.Front.TheVariants.{Message, NeedMore, Compressed, TooLong}
use Rattle.grpc_framing.specs.Framing.{front_at, stopped, first_then, first_of, messages_upto, messages_of}
use Rattle.grpc_framing.proofs.Fronts.{front_at-len, front_at-more, front_at-nil, front_at-too_long, front_at-compressed}

first_same : (n m limit : ℕ) (bytes : List ℕ) (f : Front) → front_at limit bytes ≡ f → length bytes ≤ suc n → length bytes ≤ suc m
    → ((rest : List ℕ) → length rest ≤ n → length rest ≤ m → messages_upto n limit rest ≡ messages_upto m limit rest)
    → first_of (messages_upto n limit) bytes f ≡ first_of (messages_upto m limit) bytes f
first_same n m limit bytes (Message k) e p q same =
    let len = front_at-len limit bytes k e in
    let short = length-drop (5 + k) bytes in
    ap (first_then (take k (drop 5 bytes))) (same (drop (5 + k) bytes) (omega (arith, len, short)) (omega (arith, len, short)))
first_same n m limit bytes NeedMore e p q same = refl
first_same n m limit bytes Compressed e p q same = refl
first_same n m limit bytes TooLong e p q same = refl

nothing_first : (n limit : ℕ) → first_of (messages_upto n limit) [] (front_at limit []) ≡ stopped [] NeedMore
nothing_first n limit = rw (front_at-nil limit) refl

messages_upto-nil : (n limit : ℕ) → messages_upto n limit [] ≡ stopped [] NeedMore
unfolding messages_upto
messages_upto-nil zero limit = refl
messages_upto-nil (suc n) limit = nothing_first n limit

messages_upto-same : (n m limit : ℕ) (bytes : List ℕ) → length bytes ≤ n → length bytes ≤ m → messages_upto n limit bytes ≡ messages_upto m limit bytes
unfolding messages_upto
messages_upto-same zero m limit [] p q = sym (messages_upto-nil m limit)
messages_upto-same zero m limit (b ∷ bytes) p q = absurd (omega arith)
messages_upto-same (suc n) zero limit [] p q = messages_upto-nil (suc n) limit
messages_upto-same (suc n) zero limit (b ∷ bytes) p q = absurd (omega arith)
messages_upto-same (suc n) (suc m) limit bytes p q = first_same n m limit bytes (front_at limit bytes) refl p q (λ rest. messages_upto-same n m limit rest)

from_here : (n limit : ℕ) (bytes : List ℕ) (f : Front) → front_at limit bytes ≡ f → length bytes ≤ suc n → first_of (messages_upto n limit) bytes f ≡ first_of (messages_of limit) bytes f
unfolding messages_of
from_here n limit bytes (Message k) e p =
    let len = front_at-len limit bytes k e in
    let short = length-drop (5 + k) bytes in
    ap (first_then (take k (drop 5 bytes))) (messages_upto-same n (length (drop (5 + k) bytes)) limit (drop (5 + k) bytes) (omega (arith, len, short)) (omega arith))
from_here n limit bytes NeedMore e p = refl
from_here n limit bytes Compressed e p = refl
from_here n limit bytes TooLong e p = refl

-- the messages are the first and those behind it
pub messages_of-first : (limit : ℕ) (bytes : List ℕ) → messages_of limit bytes ≡ first_of (messages_of limit) bytes (front_at limit bytes)
unfolding messages_of messages_upto
messages_of-first limit [] = sym (ap (first_of (messages_of limit) []) (front_at-nil limit))
messages_of-first limit (b ∷ bytes) = from_here (length bytes) limit (b ∷ bytes) (front_at limit (b ∷ bytes)) refl (omega arith)

pub messages_of-at : (limit : ℕ) (bytes : List ℕ) (f : Front) → front_at limit bytes ≡ f → messages_of limit bytes ≡ first_of (messages_of limit) bytes f
messages_of-at limit bytes f e = messages_of-first limit bytes ∙ ap (first_of (messages_of limit) bytes) e

-- ---- whatever follows

pub messages_of-message : (limit n : ℕ) (held more : List ℕ) → front_at limit held ≡ Message n
    → messages_of limit (held ++ more) ≡ first_then (take n (drop 5 held)) (messages_of limit (drop (5 + n) held ++ more))
messages_of-message limit n held more e =
    let len = front_at-len limit held n e in
    let five : drop 5 (held ++ more) ≡ drop 5 held ++ more = drop-append-le 5 held more (omega (arith, len)) in
    let text : take n (drop 5 (held ++ more)) ≡ take n (drop 5 held) = rw five (take-append-le n (drop 5 held) more (omega (arith, len, length-drop 5 held))) in
    let behind_it : drop (5 + n) (held ++ more) ≡ drop (5 + n) held ++ more = drop-append-le (5 + n) held more len in
    messages_of-at limit (held ++ more) (Message n) (front_at-more limit held more n e) ∙ rw (text, behind_it) refl

pub messages_of-compressed : (limit : ℕ) (held more : List ℕ) → front_at limit held ≡ Compressed → messages_of limit (held ++ more) ≡ stopped (held ++ more) Compressed
messages_of-compressed limit held more e = messages_of-at limit (held ++ more) Compressed (front_at-compressed limit held more e)

pub messages_of-too_long : (limit : ℕ) (held more : List ℕ) → front_at limit held ≡ TooLong → messages_of limit (held ++ more) ≡ stopped (held ++ more) TooLong
messages_of-too_long limit held more e = messages_of-at limit (held ++ more) TooLong (front_at-too_long limit held more e)

pub messages_of-need_more : (limit : ℕ) (held : List ℕ) → front_at limit held ≡ NeedMore → messages_of limit held ≡ stopped held NeedMore
messages_of-need_more limit held e = messages_of-at limit held NeedMore e
