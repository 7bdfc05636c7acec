-- Header blocks in frames, byte by byte.
use Rattle.std.proofs.Common.{◌≡◌, ℕ, zero, suc, ◌+◌, ◌-◌, ◌*◌, ◌/◌, ◌≤◌, ◌<◌, Bool, List, [], ◌∷◌, ◌++◌, length, length-append, take, drop, refl, sym, ap, ◌∙◌, arith}
use Rattle.std.proofs.lemmas.List.{append_assoc, drop-append-le, length-drop, length-take-le, take-append-drop}
use Rattle.h2_conn.specs.Blocks.{header_text, frames_text, more_frames, block_text}

take_front : (old more : List ℕ) → take (length old) (old ++ more) ≡ old
take_front [] more = refl
take_front (b ∷ old) more = ap (λ (l : List ℕ). b ∷ l) (take_front old more)

drop_front : (old more : List ℕ) → drop (length old) (old ++ more) ≡ more
drop_front [] more = refl
drop_front (b ∷ old) more = drop_front old more

take_within : (n : ℕ) (old more : List ℕ) → n ≤ length old → take n (old ++ more) ≡ take n old
take_within zero old more le = refl
take_within (suc n) [] more le = absurd (omega (arith, le))
take_within (suc n) (b ∷ old) more le = ap (λ (l : List ℕ). b ∷ l) (take_within n old more (omega (arith, le)))

minus_all : (n m k : ℕ) → n ≡ m + k → n - k ≡ m
minus_all n m k e = omega (arith, e)

-- bytes that were added behind stand in front of those from a place on
pub in_front : (at : ℕ) (old now new header : List ℕ) → at ≤ length old → length header ≡ 9 → now ≡ old ++ header →
    new ≡ take at now ++ (drop (length (drop at now) - 9) (drop at now) ++ take (length (drop at now) - 9) (drop at now)) → new ≡ take at old ++ (header ++ drop at old)
in_front at old now new header le nine e is =
    let tail : drop at now ≡ drop at old ++ header = ap (drop at) e ∙ drop-append-le at old header le in
    let n : length (drop at now) - 9 ≡ length (drop at old) = minus_all (length (drop at now)) (length (drop at old)) 9 (ap length tail ∙ length-append (drop at old) header ∙ ap (λ (k : ℕ). length (drop at old) + k) nine) in
    is
    ∙ ap (λ (front : List ℕ). front ++ (drop (length (drop at now) - 9) (drop at now) ++ take (length (drop at now) - 9) (drop at now))) (ap (take at) e ∙ take_within at old header le)
    ∙ ap (λ (k : ℕ). take at old ++ (drop k (drop at now) ++ take k (drop at now))) n
    ∙ ap (λ (l : List ℕ). take at old ++ (drop (length (drop at old)) l ++ take (length (drop at old)) l)) tail
    ∙ ap (λ (l : List ℕ). take at old ++ (l ++ take (length (drop at old)) (drop at old ++ header))) (drop_front (drop at old) header)
    ∙ ap (λ (l : List ℕ). take at old ++ (header ++ l)) (take_front (drop at old) header)

-- behind one frame more are framed
pub one_frame : (n at : ℕ) (old middle new header rest : List ℕ) (number flags stream : ℕ) → at + 16384 ≤ length old → header ≡ header_text number flags stream 16384 → length header ≡ 9 →
    middle ≡ take at old ++ (header ++ drop at old) → new ≡ take (at + 16393) middle ++ frames_text n 9 0 stream (drop (at + 16393) middle) →
    new ≡ take at old ++ frames_text (suc n) number flags stream (drop at old)
one_frame n at old middle new header rest number flags stream le is nine e made =
    let front : List ℕ = take at old in
    let part : List ℕ = take 16384 (drop at old) in
    let left : List ℕ = drop 16384 (drop at old) in
    let long : length (take at old) ≡ at = length-take-le at old (omega (arith, le)) in
    let part_long : length (take 16384 (drop at old)) ≡ 16384 = length-take-le 16384 (drop at old) (omega (arith, le, length-drop at old)) in
    let all : middle ≡ ((take at old ++ header) ++ take 16384 (drop at old)) ++ drop 16384 (drop at old) =
    e ∙ sym (append_assoc (take at old) header (drop at old)) ∙ ap (λ (l : List ℕ). (take at old ++ header) ++ l) (sym (take-append-drop 16384 (drop at old)))
    ∙ sym (append_assoc (take at old ++ header) (take 16384 (drop at old)) (drop 16384 (drop at old))) in
    let size : length ((take at old ++ header) ++ take 16384 (drop at old)) ≡ at + 16393 =
    omega (arith, length-append (take at old ++ header) (take 16384 (drop at old)), length-append (take at old) header, long, nine, part_long) in
    let taken : take (at + 16393) middle ≡ (take at old ++ header) ++ take 16384 (drop at old) =
    ap (λ (k : ℕ). take k middle) (sym size) ∙ ap (take (length ((take at old ++ header) ++ take 16384 (drop at old)))) all ∙ take_front ((take at old ++ header) ++ take 16384 (drop at old)) (drop 16384 (drop at old)) in
    let dropped : drop (at + 16393) middle ≡ drop 16384 (drop at old) =
    ap (λ (k : ℕ). drop k middle) (sym size) ∙ ap (drop (length ((take at old ++ header) ++ take 16384 (drop at old)))) all ∙ drop_front ((take at old ++ header) ++ take 16384 (drop at old)) (drop 16384 (drop at old)) in
    made
    ∙ ap (λ (l : List ℕ). l ++ frames_text n 9 0 stream (drop (at + 16393) middle)) taken
    ∙ ap (λ (l : List ℕ). ((take at old ++ header) ++ take 16384 (drop at old)) ++ frames_text n 9 0 stream l) dropped
    ∙ append_assoc (take at old ++ header) (take 16384 (drop at old)) (frames_text n 9 0 stream (drop 16384 (drop at old)))
    ∙ append_assoc (take at old) header (take 16384 (drop at old) ++ frames_text n 9 0 stream (drop 16384 (drop at old)))
    ∙ ap (λ (h : List ℕ). take at old ++ (h ++ (take 16384 (drop at old) ++ frames_text n 9 0 stream (drop 16384 (drop at old)))))
    (is ∙ ap (λ (k : ℕ). header_text number flags stream k) (sym part_long))
    ∙ ap (λ (l : List ℕ). take at old ++ l)
    (sym (append_assoc (header_text number flags stream (length (take 16384 (drop at old)))) (take 16384 (drop at old)) (frames_text n 9 0 stream (drop 16384 (drop at old)))))

-- how many frames a block has
pub frame_bounds : (n : ℕ) → n ≤ 65542 → (n ≤ 16384 * (more_frames n + 1)) × (16384 * more_frames n ≤ n) × (more_frames n < 5)
frame_bounds n small = (omega (arith, small), omega (arith, small), omega (arith, small))

pub most_frames : (n most : ℕ) → n ≤ most → 9 * (more_frames n + 1) ≤ 9 * (1 + most / 16384)
most_frames n most le = omega (arith, le)

-- a block that stands behind other bytes
pub behind : (old text new : List ℕ) (stream : ℕ) (last : Bool) → new ≡ take (length old) (old ++ text) ++ block_text stream last (drop (length old) (old ++ text)) → new ≡ old ++ block_text stream last text
behind old text new stream last e =
    e ∙ ap (λ (l : List ℕ). l ++ block_text stream last (drop (length old) (old ++ text))) (take_front old text) ∙ ap (λ (l : List ℕ). old ++ block_text stream last l) (drop_front old text)
