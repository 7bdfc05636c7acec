-- The bytes of a frame, taken apart and put together.
use Rattle.std.proofs.Common.{◌≡◌, ℕ, zero, suc, ◌+◌, ◌*◌, ◌/◌, ◌%◌, ◌^◌, ◌<◌, ◌≤◌, List, [], ◌∷◌, ◌++◌, length, get_or, take, drop, refl, sym, ap, subst, ◌∙◌, arith}
use Rattle.std.specs.Int.{w32, from_be_bytes, to_be_bytes}
use Rattle.std.proofs.lemmas.List.{take-take, drop-take, get_or-take, get_or-drop, length-take-le}
use Rattle.std.proofs.lemmas.Nat.{be_bytes_4}
use Rattle.h2_frames.specs.declared.frame.Frame.{Frame}
use Rattle.h2_frames.specs.declared.header.Header.{Header}
use Rattle.h2_frames.specs.Layout.{type_of, body_of, text_of, IsFrame, IsBytes, IsHeaderOf, said_length, said_word}

cell : (a b c d : ℕ) → a < 256 → b < 256 → c < 256 → d < 256 → (i : ℕ) → get_or (a ∷ b ∷ c ∷ d ∷ []) i 0 < 256
cell a b c d p q r s zero = p
cell a b c d p q r s (suc zero) = q
cell a b c d p q r s (suc (suc zero)) = r
cell a b c d p q r s (suc (suc (suc zero))) = s
cell a b c d p q r s (suc (suc (suc (suc i)))) = omega arith

halves : (n : ℕ) → n / 2 ^ 31 * 2 ^ 31 + n % 2 ^ 31 ≡ n
halves n = omega arith

cells : (a b c number flags d e f g : ℕ) (payload : List ℕ) → IsBytes (a ∷ b ∷ c ∷ number ∷ flags ∷ d ∷ e ∷ f ∷ g ∷ []) → length payload ≡ from_be_bytes w32 (0 ∷ a ∷ b ∷ c ∷ []) →
    (word : ℕ) → word ≡ from_be_bytes w32 (d ∷ e ∷ f ∷ g ∷ []) → a ∷ b ∷ c ∷ number ∷ flags ∷ d ∷ e ∷ f ∷ g ∷ payload ≡ text_of number flags word payload
cells a b c number flags d e f g payload fits long word is =
    let front : to_be_bytes w32 (length payload) ≡ 0 ∷ a ∷ b ∷ c ∷ [] =
    be_bytes_4 (0 ∷ a ∷ b ∷ c ∷ []) _ refl (cell 0 a b c (omega arith) (fits 0) (fits 1) (fits 2)) long in
    let back : to_be_bytes w32 word ≡ d ∷ e ∷ f ∷ g ∷ [] =
    be_bytes_4 (d ∷ e ∷ f ∷ g ∷ []) _ refl (cell d e f g (fits 5) (fits 6) (fits 7) (fits 8)) is in
    sym (ap (λ (x : List ℕ). drop 1 x ++ number ∷ flags ∷ to_be_bytes w32 word ++ payload) front
    ∙ ap (λ (x : List ℕ). a ∷ b ∷ c ∷ number ∷ flags ∷ x ++ payload) back)

-- bytes that begin with a header, whose length says how many follow it, are a frame's
pub put_together : (bytes : List ℕ) → IsBytes (take 9 bytes) → length bytes ≡ 9 + said_length bytes →
    bytes ≡ text_of (get_or bytes 3 0) (get_or bytes 4 0) (said_word bytes / 2 ^ 31 * 2 ^ 31 + said_word bytes % 2 ^ 31) (drop 9 bytes)
put_together (a ∷ b ∷ c ∷ number ∷ flags ∷ d ∷ e ∷ f ∷ g ∷ payload) fits long =
    cells a b c number flags d e f g payload fits (omega arith) _ (halves _)
put_together [] fits long = absurd (omega arith)
put_together (a ∷ []) fits long = absurd (omega arith)
put_together (a ∷ b ∷ []) fits long = absurd (omega arith)
put_together (a ∷ b ∷ c ∷ []) fits long = absurd (omega arith)
put_together (a ∷ b ∷ c ∷ d ∷ []) fits long = absurd (omega arith)
put_together (a ∷ b ∷ c ∷ d ∷ e ∷ []) fits long = absurd (omega arith)
put_together (a ∷ b ∷ c ∷ d ∷ e ∷ f ∷ []) fits long = absurd (omega arith)
put_together (a ∷ b ∷ c ∷ d ∷ e ∷ f ∷ g ∷ []) fits long = absurd (omega arith)
put_together (a ∷ b ∷ c ∷ d ∷ e ∷ f ∷ g ∷ h ∷ []) fits long = absurd (omega arith)

split : (n : ℕ) → 9 + n ≡ 5 + (4 + n)
split n = omega arith

IsBytes-cells : (bytes : List ℕ) (n : ℕ) → IsBytes bytes → IsBytes (drop n bytes)
IsBytes-cells bytes n h i = rw get_or-drop (h (n + i))

below_two : (bytes : List ℕ) → IsBytes (take 9 bytes) → said_word bytes / 2 ^ 31 < 2
below_two bytes fits =
    let w : IsBytes (take 4 (drop 5 bytes)) = subst IsBytes (drop-take 5 4 bytes) (IsBytes-cells (take 9 bytes) 5 fits) in
    omega (arith, w 0, w 1, w 2, w 3)

-- the bytes from a header to the end that it says are a frame
pub whole_frame : (bytes : List ℕ) (n : ℕ) → IsBytes (take 9 bytes) → said_length bytes ≡ n → 9 + n ≤ length bytes →
    take (9 + n) bytes ≡ text_of (get_or bytes 3 0) (get_or bytes 4 0) (said_word bytes / 2 ^ 31 * 2 ^ 31 + said_word bytes % 2 ^ 31) (take n (drop 9 bytes))
whole_frame bytes n fits said le =
    let cut = take (9 + n) bytes in
    let same3 : take 3 cut ≡ take 3 bytes = take-take 3 (9 + n) bytes (omega arith) in
    let same4 : take 4 (drop 5 cut) ≡ take 4 (drop 5 bytes) = ap (λ (k : ℕ). take 4 (drop 5 (take k bytes))) (split n) ∙ ap (take 4) (drop-take 5 (4 + n) bytes) ∙ take-take 4 (4 + n) (drop 5 bytes) (omega arith) in
    let said' : said_length cut ≡ n = ap (λ (x : List ℕ). from_be_bytes w32 (0 ∷ x)) same3 ∙ said in
    let word' : said_word cut ≡ said_word bytes = ap (from_be_bytes w32) same4 in
    let at3 : get_or cut 3 0 ≡ get_or bytes 3 0 = get_or-take (9 + n) bytes 3 0 (omega arith) in
    let at4 : get_or cut 4 0 ≡ get_or bytes 4 0 = get_or-take (9 + n) bytes 4 0 (omega arith) in
    let rest : drop 9 cut ≡ take n (drop 9 bytes) = drop-take 9 n bytes in
    put_together cut (subst IsBytes (sym (take-take 9 (9 + n) bytes (omega arith))) fits) (length-take-le (9 + n) bytes le ∙ ap (λ (k : ℕ). 9 + k) (sym said'))
    ∙ ap (λ (k : ℕ). text_of k (get_or cut 4 0) (said_word cut / 2 ^ 31 * 2 ^ 31 + said_word cut % 2 ^ 31) (drop 9 cut)) at3
    ∙ ap (λ (k : ℕ). text_of (get_or bytes 3 0) k (said_word cut / 2 ^ 31 * 2 ^ 31 + said_word cut % 2 ^ 31) (drop 9 cut)) at4
    ∙ ap (λ (k : ℕ). text_of (get_or bytes 3 0) (get_or bytes 4 0) (k / 2 ^ 31 * 2 ^ 31 + k % 2 ^ 31) (drop 9 cut)) word'
    ∙ ap (λ (x : List ℕ). text_of (get_or bytes 3 0) (get_or bytes 4 0) (said_word bytes / 2 ^ 31 * 2 ^ 31 + said_word bytes % 2 ^ 31) x) rest

-- a frame that was made of what its header says
pub is_frame : (bytes : List ℕ) (h : Header) (f : Frame) → IsBytes (take 9 bytes) → IsHeaderOf h bytes → 9 + h.length ≤ length bytes →
    type_of f ≡ h.number → (body_of f).flags ≡ h.flags → (body_of f).stream ≡ h.stream → (body_of f).payload ≡ take h.length (drop 9 bytes) → IsFrame (take (9 + h.length) bytes) f
is_frame bytes h f fits says le number flags stream payload = (
  said_word bytes / 2 ^ 31,
  below_two bytes fits,
  whole_frame bytes h.length fits (sym says.length_is) le
      ∙ ap (λ (k : ℕ). text_of k (get_or bytes 4 0) (said_word bytes / 2 ^ 31 * 2 ^ 31 + said_word bytes % 2 ^ 31) (take h.length (drop 9 bytes))) (sym (number ∙ says.number_is))
      ∙ ap (λ (k : ℕ). text_of (type_of f) k (said_word bytes / 2 ^ 31 * 2 ^ 31 + said_word bytes % 2 ^ 31) (take h.length (drop 9 bytes))) (sym (flags ∙ says.flags_is))
      ∙ ap (λ (k : ℕ). text_of (type_of f) (body_of f).flags (said_word bytes / 2 ^ 31 * 2 ^ 31 + k) (take h.length (drop 9 bytes))) (sym (stream ∙ says.stream_is))
      ∙ ap (λ (x : List ℕ). text_of (type_of f) (body_of f).flags (said_word bytes / 2 ^ 31 * 2 ^ 31 + (body_of f).stream) x) (sym payload),
)
