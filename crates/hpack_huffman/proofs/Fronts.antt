-- A code in front of the bits that are left, and the window over them.
use Rattle.std.proofs.Common.{◌≡◌, ◌⊎◌, ℕ, zero, suc, ◌+◌, ◌-◌, ◌*◌, ◌/◌, ◌%◌, ◌^◌, ◌<◌, ◌≤◌, List, [], ◌∷◌, ◌++◌, length, take, refl, sym, ap, subst, ◌∙◌, arith, inl, inr, append_assoc, Option, Some, None}
use Rattle.std.specs.Prelude.{replicate}
use Rattle.std.proofs.lemmas.List.{append-nil, length-append, take_at, length-replicate, replicate_more}
use Rattle.std.proofs.lemmas.Nat.{div_below, pow_pos}
use Rattle.std.proofs.Math.Nat.{div-mul-le_self, lt-div-mul-add, pow-succ'}
use Rattle.hpack_huffman.specs.declared.tables.LengthClass.{LengthClass}
use Rattle.hpack_huffman.specs.declared.tables.TheConstants.{CLASSES}
use Rattle.hpack_huffman.specs.Code.{to_bits, code_of, length_of, first_of}
use Rattle.hpack_huffman.specs.Bits.{window_of}
use Rattle.hpack_huffman.specs.Faults.{HasNoCode, IsPadding, BeginsWithEnd}
use Rattle.hpack_huffman.specs.Tables.{HasCodeAt, IsEnd, class_at}
use Rattle.hpack_huffman.proofs.BitLaws.{bits_split, same_bits, window_top, powers, window_high}
use Rattle.hpack_huffman.proofs.TableTest.{range_of, in_class, one_symbol}

pub length_bits : (m n : ℕ) → length (to_bits m n) ≡ m
length_bits zero n = refl
length_bits (suc m) n = length-append (to_bits m (n / 2)) (n % 2 ∷ []) ∙ ap (λ (k : ℕ). k + 1) (length_bits m (n / 2)) ∙ up m
  where
    up : (m : ℕ) → m + 1 ≡ suc m
    up m = omega arith

pub length_code : (s : ℕ) → length (code_of s) ≡ length_of s
unfolding code_of
length_code s = length_bits (length_of s) (first_of s / 2 ^ (30 - length_of s))

pub code_bits : (s : ℕ) → code_of s ≡ to_bits (length_of s) (first_of s / 2 ^ (30 - length_of s))
unfolding code_of
code_bits s = refl

-- lists with fronts of one length
pub same_fronts : (a b x y : List ℕ) → length a ≡ length b → a ++ x ≡ b ++ y → a ≡ b
same_fronts a b x y l e = sym (take_at a x (length b) l) ∙ ap (take (length b)) e ∙ take_at b y (length b) refl

-- what a code in front of them says of so many bits
pub record Fronts (s count ahead : ℕ) : Type 0 where
  pub short : length_of s ≤ count
  pub from : first_of s ≤ window_of count ahead
  pub upto : window_of count ahead < first_of s + 2 ^ (30 - length_of s)

pub fronts : (s count ahead : ℕ) (behind more : List ℕ) → s < 256 → ahead < 2 ^ count → (30 ≤ count) ⊎ (behind ≡ []) → to_bits count ahead ++ behind ≡ code_of s ++ more → Fronts s count ahead
fronts s count ahead behind more lt small enough e =
    let r = range_of s lt in
    let l = length_of s in
    let width = 2 ^ (30 - l) in
    let some : 0 < width = pow_pos (30 - l) in
    let q = first_of s / width in
    let lengths : length (to_bits count ahead) + length behind ≡ length (code_of s) + length more =
    sym (length-append (to_bits count ahead) behind) ∙ ap length e ∙ length-append (code_of s) more in
    let short : l ≤ count = elim enough [
      | inl le ↦ omega (arith, le, r.few)
      | inr none ↦ omega (arith, lengths, length_bits count ahead, length_code s, ap length none)
    ] in
    let m = count - l in
    let split : to_bits count ahead ++ behind ≡ to_bits l (ahead / 2 ^ m) ++ (to_bits m ahead ++ behind) =
    ap (λ (x : List ℕ). x ++ behind) (bits_split count l m ahead (omega (arith, short))) ∙ append_assoc (to_bits l (ahead / 2 ^ m)) (to_bits m ahead) behind in
    let heads : to_bits l (ahead / 2 ^ m) ≡ to_bits l q =
    same_fronts (to_bits l (ahead / 2 ^ m)) (to_bits l q) (to_bits m ahead ++ behind) more (length_bits l (ahead / 2 ^ m) ∙ sym (length_bits l q)) (sym split ∙ e ∙ ap (λ (x : List ℕ). x ++ more) (code_bits s)) in
    let p : 2 ^ count ≡ 2 ^ l * 2 ^ m = powers count l m (omega (arith, short)) in
    let p30 : 2 ^ 30 ≡ 2 ^ l * width = powers 30 l (30 - l) (omega (arith, r.few)) in
    let top : ahead / 2 ^ m ≡ q = same_bits l (ahead / 2 ^ m) q (div_below ahead (2 ^ m) (2 ^ l) (pow_pos m) (subst (λ (k : ℕ). ahead < k) p small)) (div_below (first_of s) width (2 ^ l) some (subst (λ (k : ℕ). first_of s < k) p30 r.small)) heads in
    let w = window_of count ahead in
    let same : w / width ≡ q = window_top count ahead l short r.few ∙ top in
    let low : w / width * width ≤ w = div-mul-le_self w width in
    let high : w < w / width * width + width = lt-div-mul-add some in
    let parts : first_of s ≡ w / width * width = r.whole ∙ ap (λ (k : ℕ). k * width) (sym same) in
    record { short = short; from = omega (arith, parts, low); upto = omega (arith, parts, high) }

abbrev none_class : Option LengthClass
none_class = None

nothing : (c : LengthClass) → none_class ≡ Some c → ⊥
nothing c e = absurd cc

-- thirty one bits begin no code
pub no_code_at_end : (count ahead : ℕ) (behind : List ℕ) → ahead < 2 ^ count → (30 ≤ count) ⊎ (behind ≡ []) → IsEnd (window_of count ahead) → HasNoCode (to_bits count ahead ++ behind)
no_code_at_end count ahead behind small enough end s lt more e =
    let f = fronts s count ahead behind more lt small enough e in
    let i = (in_class s (window_of count ahead) lt f.from f.upto).1 in
    nothing i.0 (sym (ap (class_at CLASSES) end) ∙ i.1.here)

-- nor do bits that are fewer than those of the one symbol that they could be
pub no_code_short : (count ahead symbol l : ℕ) (behind : List ℕ) → ahead < 2 ^ count → (30 ≤ count) ⊎ (behind ≡ []) → HasCodeAt symbol l (window_of count ahead) → count < l → HasNoCode (to_bits count ahead ++ behind)
no_code_short count ahead symbol l behind small enough at long s lt more e =
    let f = fronts s count ahead behind more lt small enough e in
    let upto : window_of count ahead < first_of symbol + 2 ^ (30 - length_of symbol) = subst (λ (n : ℕ). window_of count ahead < first_of symbol + 2 ^ (30 - n)) (sym at.length_is) at.upto in
    let one = one_symbol s symbol (window_of count ahead) lt at.small f.from f.upto at.from upto in
    omega (arith, one.1, at.length_is, f.short, long)

-- ---- the bits that are left

pub ones_bits : (m : ℕ) → to_bits m (2 ^ m - 1) ≡ replicate m 1
ones_bits zero = refl
ones_bits (suc m) =
    let e : 2 ^ suc m ≡ 2 * 2 ^ m = pow-succ' 2 m in
    let some : 0 < 2 ^ m = pow_pos m in
    let half : (2 ^ suc m - 1) / 2 ≡ 2 ^ m - 1 = omega (arith, e, some) in
    let odd : (2 ^ suc m - 1) % 2 ≡ 1 = omega (arith, e, some) in
    ap (λ (k : ℕ). to_bits m k ++ (2 ^ suc m - 1) % 2 ∷ []) half ∙ ap (λ (k : ℕ). to_bits m (2 ^ m - 1) ++ k ∷ []) odd ∙ ap (λ (x : List ℕ). x ++ 1 ∷ []) (ones_bits m) ∙ replicate_more m 1 ∙ ap (λ (k : ℕ). replicate k 1) (up m)
  where
    up : (m : ℕ) → m + 1 ≡ suc m
    up m = omega arith

pub begins_with_end : (count ahead : ℕ) (behind : List ℕ) → 30 ≤ count → IsEnd (window_of count ahead) → BeginsWithEnd (to_bits count ahead ++ behind)
begins_with_end count ahead behind le end =
    let m = count - 30 in
    let high : ahead / 2 ^ m ≡ 2 ^ 30 - 1 = sym (window_high count ahead le) ∙ end in (
      to_bits m ahead ++ behind,
      ap (λ (x : List ℕ). x ++ behind) (bits_split count 30 m ahead (omega (arith, le)) ∙ ap (λ (k : ℕ). to_bits 30 k ++ to_bits m ahead) high ∙ ap (λ (x : List ℕ). x ++ to_bits m ahead) (ones_bits 30))
          ∙ append_assoc (replicate 30 1) (to_bits m ahead) behind,
    )

pub is_padding : (count ahead : ℕ) (behind : List ℕ) → behind ≡ [] → count < 8 → ahead ≡ 2 ^ count - 1 → IsPadding (to_bits count ahead ++ behind)
is_padding count ahead behind none few all =
    (count, few, ap (λ (x : List ℕ). to_bits count ahead ++ x) none ∙ append-nil (to_bits count ahead) ∙ ap (to_bits count) all ∙ ones_bits count)

pub not_padding : (count ahead : ℕ) (behind : List ℕ) → behind ≡ [] → ahead < 2 ^ count → (count < 8 → ahead ≡ 2 ^ count - 1 → ⊥) → IsPadding (to_bits count ahead ++ behind) → ⊥
not_padding count ahead behind none small other p =
    let left : to_bits count ahead ≡ replicate p.0 1 = sym (append-nil (to_bits count ahead)) ∙ ap (λ (x : List ℕ). to_bits count ahead ++ x) (sym none) ∙ p.2 in
    let n : count ≡ p.0 = sym (length_bits count ahead) ∙ ap length left ∙ length-replicate p.0 1 in
    let some : 0 < 2 ^ count = pow_pos count in
    let all : ahead ≡ 2 ^ count - 1 = same_bits count ahead (2 ^ count - 1) small (omega (arith, some)) (left ∙ ap (λ (k : ℕ). replicate k 1) (sym n) ∙ sym (ones_bits count)) in
    other (omega (arith, n, p.1)) all

pub not_end : (count ahead : ℕ) (behind : List ℕ) → behind ≡ [] → count < 30 → BeginsWithEnd (to_bits count ahead ++ behind) → ⊥
not_end count ahead behind none few b =
    let one : ℕ = 1 in
    let lengths : length (to_bits count ahead) + length behind ≡ length (replicate 30 one) + length b.0 = sym (length-append (to_bits count ahead) behind) ∙ ap length b.1 ∙ length-append (replicate 30 one) b.0 in
    omega (arith, lengths, length_bits count ahead, ap length none, length-replicate 30 one, few)
