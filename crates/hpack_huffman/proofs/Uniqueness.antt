-- Bytes are the string of one text, or have one fault.
use Rattle.std.proofs.Common.{◌≡◌, ℕ, zero, suc, ◌+◌, ◌-◌, ◌*◌, ◌/◌, ◌^◌, ◌<◌, ◌≤◌, List, [], ◌∷◌, ◌++◌, length, refl, sym, ap, subst, inl, inr, ◌∙◌, arith, append_assoc, Result, Ok, Err}
use Rattle.std.specs.Prelude.{replicate}
use Rattle.std.proofs.lemmas.Bool.{cases_lt}
use Rattle.std.proofs.lemmas.List.{append-nil, append_cancel_left, length-append, length-replicate}
use Rattle.std.proofs.lemmas.List.Elements.{All-head, All-tail}
use Rattle.std.proofs.lemmas.Nat.{div_below, pow_pos}
use Rattle.std.proofs.Math.Nat.{div-div-eq-div-mul, div-mul-le_self, lt-div-mul-add}
use Rattle.hpack_huffman.specs.declared.decode.HuffFault.{HuffFault}
use Rattle.hpack_huffman.specs.declared.decode.HuffFault.TheVariants.{BadPadding, EosInside}
use Rattle.hpack_huffman.specs.Bits.{window_of}
use Rattle.hpack_huffman.specs.Code.{to_bits, code_of, codes_of, bits_of, length_of, first_of, IsHuffman}
use Rattle.hpack_huffman.specs.Faults.{IsText, HasNoCode, IsPadding, BeginsWithEnd, Judged, Splits, Ends}
use Rattle.hpack_huffman.specs.Laws.{Reading}
use Rattle.hpack_huffman.specs.Tables.{IsEnd}
use Rattle.hpack_huffman.proofs.BitLaws.{bits_split, same_bits, powers}
use Rattle.hpack_huffman.proofs.Fronts.{length_bits, code_bits, same_fronts, no_code_at_end, ones_bits}
use Rattle.hpack_huffman.proofs.TableTest.{range_of, one_symbol}

-- ---- a code in front

-- a code that is a front of another is that code
code_within : (s t : ℕ) (x y : List ℕ) → s < 256 → t < 256 → length_of s ≤ length_of t → code_of s ++ x ≡ code_of t ++ y → s ≡ t
code_within s t x y p q le e =
    let r = range_of s p in
    let u = range_of t q in
    let l = length_of s in
    let k = length_of t in
    let d = k - l in
    let ws = 2 ^ (30 - l) in
    let wt = 2 ^ (30 - k) in
    let some : 0 < ws = pow_pos (30 - l) in
    let some' : 0 < wt = pow_pos (30 - k) in
    let qs = first_of s / ws in
    let qt = first_of t / wt in
    let split : to_bits k qt ≡ to_bits l (qt / 2 ^ d) ++ to_bits d qt = bits_split k l d qt (omega (arith, le)) in
    let whole : to_bits l qs ++ x ≡ to_bits l (qt / 2 ^ d) ++ (to_bits d qt ++ y) =
    ap (λ (z : List ℕ). z ++ x) (sym (code_bits s)) ∙ e ∙ ap (λ (z : List ℕ). z ++ y) (code_bits t ∙ split) ∙ append_assoc (to_bits l (qt / 2 ^ d)) (to_bits d qt) y in
    let heads : to_bits l qs ≡ to_bits l (qt / 2 ^ d) =
    same_fronts (to_bits l qs) (to_bits l (qt / 2 ^ d)) x (to_bits d qt ++ y) (length_bits l qs ∙ sym (length_bits l (qt / 2 ^ d))) whole in
    let p30 : 2 ^ 30 ≡ 2 ^ l * ws = powers 30 l (30 - l) (omega (arith, r.few)) in
    let q30 : 2 ^ 30 ≡ 2 ^ k * wt = powers 30 k (30 - k) (omega (arith, u.few)) in
    let pk : 2 ^ k ≡ 2 ^ l * 2 ^ d = powers k l d (omega (arith, le)) in
    let below_s : qs < 2 ^ l = div_below (first_of s) ws (2 ^ l) some (subst (λ (z : ℕ). first_of s < z) p30 r.small) in
    let below_t : qt < 2 ^ k = div_below (first_of t) wt (2 ^ k) some' (subst (λ (z : ℕ). first_of t < z) q30 u.small) in
    let below : qt / 2 ^ d < 2 ^ l = div_below qt (2 ^ d) (2 ^ l) (pow_pos d) (subst (λ (z : ℕ). qt < z) pk below_t) in
    let same : qs ≡ qt / 2 ^ d = same_bits l qs (qt / 2 ^ d) below_s below heads in
    let wide : ws ≡ wt * 2 ^ d = powers (30 - l) (30 - k) d (omega (arith, le, u.few)) in
    let high : first_of t / ws ≡ qs = ap (λ (z : ℕ). first_of t / z) wide ∙ sym (div-div-eq-div-mul (first_of t) wt (2 ^ d)) ∙ sym same in
    let low_t : first_of t / ws * ws ≤ first_of t = div-mul-le_self (first_of t) ws in
    let high_t : first_of t < first_of t / ws * ws + ws = lt-div-mul-add some in
    let parts : first_of s ≡ first_of t / ws * ws = r.whole ∙ ap (λ (z : ℕ). z * ws) (sym high) in
    (one_symbol s t (first_of t) p q (omega (arith, parts, low_t)) (omega (arith, parts, high_t)) (omega arith) (omega (arith, some'))).0

code_front : (s t : ℕ) (x y : List ℕ) → s < 256 → t < 256 → code_of s ++ x ≡ code_of t ++ y → (s ≡ t) × (x ≡ y)
code_front s t x y p q e =
    let same : s ≡ t = elim (cases_lt (length_of t) (length_of s)) [
      | inl lt ↦ sym (code_within t s y x q p (omega (arith, lt)) (sym e))
      | inr le ↦ code_within s t x y p q le e
    ] in
    (same, append_cancel_left (code_of t) x y (ap (λ (k : ℕ). code_of k ++ x) (sym same) ∙ e))

-- ---- the symbols in front

one_split : (t u l m : List ℕ) → IsText t → IsText u → codes_of t ++ l ≡ codes_of u ++ m → HasNoCode l → HasNoCode m → (t ≡ u) × (l ≡ m)
one_split [] [] l m p q e n k = (refl, e)
one_split [] (y ∷ u) l m p q e n k = absurd (n y (All-head (λ s. s < 256) y u q) (codes_of u ++ m) (e ∙ append_assoc (code_of y) (codes_of u) m))
one_split (x ∷ t) [] l m p q e n k = absurd (k x (All-head (λ s. s < 256) x t p) (codes_of t ++ l) (sym e ∙ append_assoc (code_of x) (codes_of t) l))
one_split (x ∷ t) (y ∷ u) l m p q e n k =
    let f = code_front x y (codes_of t ++ l) (codes_of u ++ m) (All-head (λ s. s < 256) x t p) (All-head (λ s. s < 256) y u q)
    (sym (append_assoc (code_of x) (codes_of t) l) ∙ e ∙ append_assoc (code_of y) (codes_of u) m) in
    let r = one_split t u l m (All-tail (λ s. s < 256) x t p) (All-tail (λ s. s < 256) y u q) f.1 n k in
    (ap (λ (z : ℕ). z ∷ t) f.0 ∙ ap (λ (z : List ℕ). y ∷ z) r.0, r.1)

same_splits : (bytes t l u m : List ℕ) → Splits bytes t l → Splits bytes u m → (t ≡ u) × (l ≡ m)
same_splits bytes t l u m s r = one_split t u l m s.symbols r.symbols (sym s.bits ∙ r.bits) s.no_code r.no_code

-- ---- the padding

ones_window : (n : ℕ) → n < 8 → IsEnd (window_of n (2 ^ n - 1))
ones_window zero lt = refl
ones_window (suc zero) lt = refl
ones_window (suc (suc zero)) lt = refl
ones_window (suc (suc (suc zero))) lt = refl
ones_window (suc (suc (suc (suc zero)))) lt = refl
ones_window (suc (suc (suc (suc (suc zero))))) lt = refl
ones_window (suc (suc (suc (suc (suc (suc zero)))))) lt = refl
ones_window (suc (suc (suc (suc (suc (suc (suc zero))))))) lt = refl
ones_window (suc (suc (suc (suc (suc (suc (suc (suc n)))))))) lt = absurd (omega arith)

padding_no_code : (n : ℕ) → n < 8 → HasNoCode (replicate n 1)
padding_no_code n lt s small more e =
    let some : 0 < 2 ^ n = pow_pos n in
    no_code_at_end n (2 ^ n - 1) [] (omega (arith, some)) (inr refl) (ones_window n lt) s small more (append-nil (to_bits n (2 ^ n - 1)) ∙ ones_bits n ∙ e)

splits_of : (bytes text : List ℕ) (t : IsText text) (h : IsHuffman bytes text) → Splits bytes text (replicate h.0 1)
splits_of bytes text t h = record { symbols = t; bits = h.2; no_code = padding_no_code h.0 h.1 }

not_both : (fault : HuffFault) (left : List ℕ) → IsPadding left → Judged (Err fault) left → ⊥
not_both BadPadding left p j = j.0 p
not_both EosInside left p j =
    let one : ℕ = 1 in
    omega (arith, p.1, ap length p.2, ap length j.1, length-replicate p.0 one, length-append (replicate 30 one) j.0, length-replicate 30 one)

-- a text that has this string leaves no fault
pub no_fault : (bytes text : List ℕ) (fault : HuffFault) → IsText text → IsHuffman bytes text → Ends bytes fault → ⊥
no_fault bytes text fault t h e =
    let s = same_splits bytes text (replicate h.0 1) e.0 e.1 (splits_of bytes text t h) e.2 in
    not_both fault e.1 (h.0, h.1, sym s.1) e.3

pub one_text : (bytes text other : List ℕ) → IsText text → IsHuffman bytes text → IsText other → IsHuffman bytes other → text ≡ other
one_text bytes text other t h u k =
    (same_splits bytes text (replicate h.0 1) other (replicate k.0 1) (splits_of bytes text t h) (splits_of bytes other u k)).0

-- the text that was added is the only one that has this string
pub only_text : (bytes old new text left : List ℕ) → new ≡ old ++ text → Splits bytes text left → (other : List ℕ) → IsText other → IsHuffman bytes other → new ≡ old ++ other
only_text bytes old new text left is s other t h =
    is ∙ ap (λ (z : List ℕ). old ++ z) (same_splits bytes text left other (replicate h.0 1) s (splits_of bytes other t h)).0

same_fault : (f g : HuffFault) (l m : List ℕ) → l ≡ m → Judged (Err f) l → Judged (Err g) m → f ≡ g
same_fault BadPadding BadPadding l m e j k = refl
same_fault BadPadding EosInside l m e j k = absurd (j.1 (subst BeginsWithEnd (sym e) k))
same_fault EosInside BadPadding l m e j k = absurd (k.1 (subst BeginsWithEnd e j))
same_fault EosInside EosInside l m e j k = refl

abbrev read_text : List ℕ → Result (List ℕ) HuffFault
read_text text = Ok text

abbrev read_fault : HuffFault → Result (List ℕ) HuffFault
read_fault fault = Err fault

pub unique : (bytes : List ℕ) (r s : Result (List ℕ) HuffFault) → Reading bytes r → Reading bytes s → r ≡ s
unique bytes (Ok t) (Ok u) h k = ap read_text (one_text bytes t u h.0 h.1 k.0 k.1)
unique bytes (Ok t) (Err f) h k = absurd (no_fault bytes t f h.0 h.1 k)
unique bytes (Err f) (Ok t) h k = absurd (no_fault bytes t f k.0 k.1 h)
unique bytes (Err f) (Err g) h k =
    ap read_fault (same_fault f g h.1 k.1 (same_splits bytes h.0 h.1 k.0 k.1 h.2 k.2).1 h.3 k.3)

-- ---- one text has one string

bits_length : (bytes : List ℕ) → length (bits_of bytes) ≡ 8 * length bytes
bits_length [] = refl
bits_length (b ∷ bytes) = omega (arith, length-append (to_bits 8 b) (bits_of bytes), length_bits 8 b, bits_length bytes)

same_bytes : (xs ys : List ℕ) → IsText xs → IsText ys → bits_of xs ≡ bits_of ys → xs ≡ ys
same_bytes [] [] p q e = refl
same_bytes [] (y ∷ ys) p q e = absurd (omega (arith, ap length e, bits_length (y ∷ ys)))
same_bytes (x ∷ xs) [] p q e = absurd (omega (arith, ap length e, bits_length (x ∷ xs)))
same_bytes (x ∷ xs) (y ∷ ys) p q e =
    let heads = same_fronts (to_bits 8 x) (to_bits 8 y) (bits_of xs) (bits_of ys) (length_bits 8 x ∙ sym (length_bits 8 y)) e in
    let first : x ≡ y = same_bits 8 x y (All-head (λ s. s < 256) x xs p) (All-head (λ s. s < 256) y ys q) heads in
    let rest = append_cancel_left (to_bits 8 y) (bits_of xs) (bits_of ys) (ap (λ (z : ℕ). to_bits 8 z ++ bits_of xs) (sym first) ∙ e) in
    ap (λ (z : ℕ). z ∷ xs) first ∙ ap (λ (z : List ℕ). y ∷ z) (same_bytes xs ys (All-tail (λ s. s < 256) x xs p) (All-tail (λ s. s < 256) y ys q) rest)

pub one_string : (text bytes other : List ℕ) → IsText bytes → IsText other → IsHuffman bytes text → IsHuffman other text → bytes ≡ other
one_string text bytes other b o h k =
    let one : ℕ = 1 in
    let first : 8 * length bytes ≡ length (codes_of text) + h.0 = sym (bits_length bytes) ∙ ap length h.2 ∙ length-append (codes_of text) (replicate h.0 one) ∙ ap (λ (n : ℕ). length (codes_of text) + n) (length-replicate h.0 one) in
    let second : 8 * length other ≡ length (codes_of text) + k.0 = sym (bits_length other) ∙ ap length k.2 ∙ length-append (codes_of text) (replicate k.0 one) ∙ ap (λ (n : ℕ). length (codes_of text) + n) (length-replicate k.0 one) in
    let same : h.0 ≡ k.0 = as_many (length bytes) (length other) (length (codes_of text)) h.0 k.0 h.1 k.1 first second in
    same_bytes bytes other b o (h.2 ∙ ap (λ (n : ℕ). codes_of text ++ replicate n 1) same ∙ sym k.2)
  where
    as_many : (a b c n m : ℕ) → n < 8 → m < 8 → 8 * a ≡ c + n → 8 * b ≡ c + m → n ≡ m
    as_many a b c n m p q e f = omega arith
