-- A block has one reading.
use Rattle.std.proofs.Common.{◌≡◌, ◌⊎◌, ℕ, zero, suc, Bool, true, false, List, [], ◌∷◌, length, take, drop, get_or, refl, sym, ap, subst, ◌∙◌, inl, inr, Result, Ok, Err, Option, Some, None}
use Rattle.std.specs.Prelude.{MatchBool, MatchResult, MatchOption, nat_lt, nat_le}
use Rattle.hpack_huffman.proofs.Uniqueness.{one_text, no_fault}
use Rattle.hpack_tables.specs.declared.field.Field.{Field}
use Rattle.hpack_tables.specs.declared.fault.HpackFault.{HpackFault}
use Rattle.hpack_tables.specs.declared.fault.HpackFault.TheVariants.{BadIndex, BadInteger, BadString}
use Rattle.hpack_tables.specs.Reading.{State, integer_at, is_coded, DecodesTo, BodyAt, StringAt, entry_at, with_field, before, resized, Then, NameAt, LiteralAt, IndexedAt, ResizeAt, ItemAt, BlockAt}
use Rattle.hpack_tables.specs.Reading.BlockAt.{ends, fails, goes}
use Rattle.hpack_tables.specs.Laws.{OneReading}

-- ---- one answer of a choice

by_bool : {A : Type 0} (b : Bool) (P Q : A → Type 0) (x y : A) → (P x → P y → x ≡ y) → (Q x → Q y → x ≡ y) → MatchBool b (P x) (Q x) → MatchBool b (P y) (Q y) → x ≡ y
by_bool true P Q x y p q h k = p h k
by_bool false P Q x y p q h k = q h k

by_result : {A B : Type 0} (r : Result A HpackFault) (P : A → Result B HpackFault → Type 0) (x y : Result B HpackFault) → ((a : A) → P a x → P a y → x ≡ y) →
    MatchResult r (λ a. P a x) (λ e. x ≡ Err e) → MatchResult r (λ a. P a y) (λ e. y ≡ Err e) → x ≡ y
by_result (Ok a) P x y p h k = p a h k
by_result (Err e) P x y p h k = h ∙ sym k

by_option : {B : Type 0} (o : Option Field) (value : Field → Result B HpackFault) (x y : Result B HpackFault) → MatchOption o (x ≡ Err BadIndex) (λ f. x ≡ value f) → MatchOption o (y ≡ Err BadIndex) (λ f. y ≡ value f) → x ≡ y
by_option None value x y h k = h ∙ sym k
by_option (Some f) value x y h k = h ∙ sym k

then_one : {A B : Type 0} (first : Result A HpackFault → Type 0) (next : A → Result B HpackFault → Type 0) (x y : Result B HpackFault) →
    ((r s : Result A HpackFault) → first r → first s → r ≡ s) → ((a : A) → next a x → next a y → x ≡ y) → Then first next x → Then first next y → x ≡ y
then_one {A} first next x y one more (r, f, h) (s, g, k) =
    by_result r next x y more h (subst (λ (z : Result A HpackFault). MatchResult z (λ a. next a y) (λ e. y ≡ Err e)) (one s r g f) k)

-- ---- strings

abbrev read : List ℕ → List ℕ → Result (List ℕ × List ℕ) HpackFault
read text rest = Ok (text, rest)

code_one : (code rest : List ℕ) (x y : Result (List ℕ × List ℕ) HpackFault) → DecodesTo code rest x → DecodesTo code rest y → x ≡ y
code_one code rest (Ok (a, r)) (Ok (b, s)) (h, t, e) (k, u, f) = ap (λ (z : List ℕ). read z r) (one_text code a b t h u k) ∙ ap (read b) (e ∙ sym f)
code_one code rest (Ok (a, r)) (Err g) (h, t, e) ((fault, k), f) = absurd (no_fault code a fault t h k)
code_one code rest (Err g) (Ok (b, s)) ((fault, h), e) (k, u, f) = absurd (no_fault code b fault u k h)
code_one code rest (Err g) (Err i) (h, e) (k, f) = ap (λ (z : HpackFault). fault_of z) (e ∙ sym f)
  where
    fault_of : HpackFault → Result (List ℕ × List ℕ) HpackFault
    fault_of z = Err z

body_one : (coded : Bool) (n : ℕ) (bytes : List ℕ) (x y : Result (List ℕ × List ℕ) HpackFault) → BodyAt coded n bytes x → BodyAt coded n bytes y → x ≡ y
body_one coded n bytes x y h k =
    by_bool (nat_lt (length bytes) n) (λ (z : Result (List ℕ × List ℕ) HpackFault). z ≡ Err BadString)
    (λ (z : Result (List ℕ × List ℕ) HpackFault). MatchBool coded (DecodesTo (take n bytes) (drop n bytes) z) (z ≡ Ok (take n bytes, drop n bytes))) x y
    (λ e f. e ∙ sym f)
    (λ e f. by_bool coded (DecodesTo (take n bytes) (drop n bytes)) (λ (z : Result (List ℕ × List ℕ) HpackFault). z ≡ Ok (take n bytes, drop n bytes)) x y (code_one (take n bytes) (drop n bytes) x y) (λ e f. e ∙ sym f) e f)
    h k

string_one : (bytes : List ℕ) (x y : Result (List ℕ × List ℕ) HpackFault) → StringAt bytes x → StringAt bytes y → x ≡ y
string_one bytes x y h k =
    by_result (integer_at BadString 7 bytes) (λ (n : ℕ × List ℕ) (z : Result (List ℕ × List ℕ) HpackFault). BodyAt (is_coded bytes) n.0 n.1 z) x y
    (λ n. body_one (is_coded bytes) n.0 n.1 x y) h k

-- ---- items

name_one : (s : State) (i : ℕ) (rest : List ℕ) (x y : Result (List ℕ × List ℕ) HpackFault) → NameAt s i rest x → NameAt s i rest y → x ≡ y
name_one s zero rest x y h k = string_one rest x y h k
name_one s (suc i) rest x y h k = by_option (entry_at s.entries (suc i)) (λ f. Ok (f.name, rest)) x y h k

literal_one : (taken : Bool) (n : ℕ) (s : State) (bytes : List ℕ) (x y : Result (State × List ℕ) HpackFault) → LiteralAt taken n s bytes x → LiteralAt taken n s bytes y → x ≡ y
literal_one taken n s bytes x y h k =
    by_result (integer_at BadInteger n bytes) P x y one h k
  where
    value_of : List ℕ × List ℕ → List ℕ × List ℕ → Result (State × List ℕ) HpackFault → Type 0
    value_of name value z = z ≡ before value.1 (with_field taken s (record { name = name.0; value = value.0 }))

    P : ℕ × List ℕ → Result (State × List ℕ) HpackFault → Type 0
    P i z = Then (NameAt s i.0 i.1) (λ name. Then (StringAt name.1) (value_of name)) z

    one : (i : ℕ × List ℕ) → P i x → P i y → x ≡ y
    one i h k =
        then_one (NameAt s i.0 i.1) (λ name. Then (StringAt name.1) (value_of name)) x y (name_one s i.0 i.1)
        (λ name. then_one (StringAt name.1) (value_of name) x y (string_one name.1) (λ value e f. e ∙ sym f)) h k

indexed_one : (s : State) (bytes : List ℕ) (x y : Result (State × List ℕ) HpackFault) → IndexedAt s bytes x → IndexedAt s bytes y → x ≡ y
indexed_one s bytes x y h k =
    by_result (integer_at BadInteger 7 bytes) (λ (i : ℕ × List ℕ) (z : Result (State × List ℕ) HpackFault). MatchOption (entry_at s.entries i.0) (z ≡ Err BadIndex) (λ f. z ≡ before i.1 (with_field false s f))) x y
    (λ i. by_option (entry_at s.entries i.0) (λ f. before i.1 (with_field false s f)) x y) h k

resize_one : (limit : ℕ) (s : State) (bytes : List ℕ) (x y : Result (State × List ℕ) HpackFault) → ResizeAt limit s bytes x → ResizeAt limit s bytes y → x ≡ y
resize_one limit s bytes x y h k =
    by_result (integer_at BadInteger 5 bytes) (λ (n : ℕ × List ℕ) (z : Result (State × List ℕ) HpackFault). z ≡ before n.1 (resized limit s n.0)) x y (λ n e f. e ∙ sym f) h k

item_one : (limit : ℕ) (s : State) (first : ℕ) (bytes : List ℕ) (x y : Result (State × List ℕ) HpackFault) → ItemAt limit s first bytes x → ItemAt limit s first bytes y → x ≡ y
item_one limit s first bytes x y h k =
    by_bool (nat_le 128 first) (IndexedAt s bytes) (λ z. MatchBool (nat_le 64 first) (LiteralAt true 6 s bytes z) (MatchBool (nat_le 32 first) (ResizeAt limit s bytes z) (LiteralAt false 4 s bytes z))) x y (indexed_one s bytes x y)
    (by_bool (nat_le 64 first) (LiteralAt true 6 s bytes) (λ z. MatchBool (nat_le 32 first) (ResizeAt limit s bytes z) (LiteralAt false 4 s bytes z)) x y (literal_one true 6 s bytes x y)
    (by_bool (nat_le 32 first) (ResizeAt limit s bytes) (LiteralAt false 4 s bytes) x y (resize_one limit s bytes x y) (literal_one false 4 s bytes x y)))
    h k

-- ---- blocks

abbrev FirstItem : ℕ → State → List ℕ → Result (State × List ℕ) HpackFault → Type 0
FirstItem limit s bytes out = ItemAt limit s (get_or bytes 0 0) bytes out

ends_only : (limit : ℕ) (s : State) (bytes : List ℕ) (y : Result State HpackFault) → BlockAt limit s bytes y → bytes ≡ [] → Ok s ≡ y
ends_only limit s bytes y (ends s') e = refl
ends_only limit s bytes y (fails s' b bs f i) e = absurd cc
ends_only limit s bytes y (goes s' b bs next rest out i h) e = absurd cc

-- what a block that is not empty begins with
opened : (limit : ℕ) (s : State) (bytes : List ℕ) (y : Result State HpackFault) → BlockAt limit s bytes y → (bytes ≡ [] → ⊥) →
    ((f : HpackFault) × FirstItem limit s bytes (Err f) × (y ≡ Err f)) ⊎ ((next : State) × (rest : List ℕ) × FirstItem limit s bytes (Ok (next, rest)) × BlockAt limit next rest y)
opened limit s bytes y (ends s') some = absurd (some refl)
opened limit s bytes y (fails s' b bs f i) some = inl (f, i, refl)
opened limit s bytes y (goes s' b bs next rest out i h) some = inr (next, rest, i, h)

failed_twice : (limit : ℕ) (s : State) (b : ℕ) (bs : List ℕ) (f : HpackFault) (y : Result State HpackFault) → ItemAt limit s b (b ∷ bs) (Err f) → BlockAt limit s (b ∷ bs) y → Err f ≡ y
failed_twice limit s b bs f y i k =
    elim (opened limit s (b ∷ bs) y k (λ e. absurd cc)) [
      | inl (g, j, e) ↦ let same : Err f ≡ Err g = item_one limit s b (b ∷ bs) (Err f) (Err g) i j in ap fault_of (same_fault f g same) ∙ sym e
      | inr (next, rest, j, h) ↦ absurd (mixed f next rest (item_one limit s b (b ∷ bs) (Err f) (Ok (next, rest)) i j))
    ]
  where
    fault_of : HpackFault → Result State HpackFault
    fault_of z = Err z

    item_fault : HpackFault → Result (State × List ℕ) HpackFault
    item_fault z = Err z

    same_fault : (f g : HpackFault) → item_fault f ≡ item_fault g → f ≡ g
    same_fault f g e = cc

    mixed : (f : HpackFault) (next : State) (rest : List ℕ) → item_fault f ≡ Ok (next, rest) → ⊥
    mixed f next rest e = absurd cc

same_next : (next : State) (rest : List ℕ) (next' : State) (rest' : List ℕ) (fault : HpackFault) → (x : Result (State × List ℕ) HpackFault) → x ≡ Ok (next, rest) → x ≡ Ok (next', rest') → (next' ≡ next) × (rest' ≡ rest)
same_next next rest next' rest' fault x e f =
    let same : ◌≡◌ {A = State × List ℕ} (next', rest') (next, rest) = cc in
    (ap (λ (p : State × List ℕ). p.0) same, ap (λ (p : State × List ℕ). p.1) same)

no_mix : (next : State) (rest : List ℕ) (fault : HpackFault) (x : Result (State × List ℕ) HpackFault) → x ≡ Ok (next, rest) → x ≡ Err fault → ⊥
no_mix next rest fault x e f = absurd cc

block_one : (limit : ℕ) (s : State) (bytes : List ℕ) (x : Result State HpackFault) → BlockAt limit s bytes x → (y : Result State HpackFault) → BlockAt limit s bytes y → x ≡ y
block_one limit s bytes x (ends s') y k = ends_only limit s' [] y k refl
block_one limit s bytes x (fails s' b bs f i) y k = failed_twice limit s' b bs f y i k
block_one limit s bytes x (goes s' b bs next rest out i h) y k =
    elim (opened limit s' (b ∷ bs) y k (λ e. absurd cc)) [
      | inl (g, j, e) ↦ absurd (no_mix next rest g (Ok (next, rest)) refl (item_one limit s' b (b ∷ bs) (Ok (next, rest)) (Err g) i j))
      | inr (next', rest', j, h') ↦
          let same = same_next next rest next' rest' BadIndex (Ok (next, rest)) refl (item_one limit s' b (b ∷ bs) (Ok (next, rest)) (Ok (next', rest')) i j) in
          block_one limit next rest out h y (subst (λ (z : State). BlockAt limit z rest y) same.0 (subst (λ (z : List ℕ). BlockAt limit next' z y) same.1 h'))
    ]

pub one_reading : OneReading
one_reading limit s bytes x y h k = block_one limit s bytes x h y k
