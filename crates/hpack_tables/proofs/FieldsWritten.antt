-- Fields that are written, one after another.
use Rattle.std.proofs.Common.{◌≡◌, ℕ, zero, suc, ◌+◌, ◌<◌, ◌≤◌, List, [], ◌∷◌, ◌++◌, length, drop, get_or, sum_by, refl, sym, ap, subst, ◌∙◌, arith, append_assoc}
use Rattle.std.proofs.lemmas.List.{append-nil}
use Rattle.std.proofs.lemmas.List.Sums.{sum_by-cons}
use Rattle.hpack_tables.specs.declared.field.Field.{Field}
use Rattle.hpack_tables.specs.declared.encoder.Style.{Style}
use Rattle.hpack_tables.specs.EntrySizes.{size_of}
use Rattle.hpack_tables.specs.Writing.{IsFieldText, AreFieldTexts}

-- what the fields that are left make of what was written so far is what all of them make
abbrev pub GoesOn : Style → ℕ → List Field → List Field → List ℕ → List Field → List ℕ → List Field → Type 0
GoesOn style max all entries start now_entries now left =
    (text : List ℕ) (after : List Field) → AreFieldTexts style max left now_entries text after →
    (whole : List ℕ) × AreFieldTexts style max all entries whole after × (start ++ whole ≡ now ++ text)

pub goes_at_first : (style : Style) (max : ℕ) (all entries : List Field) (start : List ℕ) → GoesOn style max all entries start entries start all
goes_at_first style max all entries start text after are = (text, are, refl)

pub one_front : (fs : List Field) (i : ℕ) (f : Field) → i < length fs → f ≡ get_or fs i f → drop i fs ≡ f ∷ drop (i + 1) fs
one_front [] i f lt e = absurd (omega arith)
one_front (x ∷ xs) zero f lt e = rw e refl
one_front (x ∷ xs) (suc i) f lt e = one_front xs i f (omega (arith, lt)) e ∙ ap (λ (n : ℕ). f ∷ drop n (x ∷ xs)) same
  where
    same : suc (i + 1) ≡ suc i + 1
    same = omega arith

pub none_left : (fs : List Field) (i : ℕ) → length fs ≤ i → drop i fs ≡ []
none_left [] zero le = refl
none_left [] (suc i) le = refl
none_left (x ∷ xs) zero le = absurd (omega arith)
none_left (x ∷ xs) (suc i) le = none_left xs i (omega (arith, le))

pub one_more : (style : Style) (max : ℕ) (all entries : List Field) (start : List ℕ) (now_entries : List Field) (now : List ℕ) (i : ℕ) (f : Field) (own_max : ℕ) (next_entries : List Field) (next : List ℕ) →
    own_max ≡ max → GoesOn style max all entries start now_entries now (drop i all) → i < length all → f ≡ get_or all i f →
    (first : List ℕ) × IsFieldText style own_max f now_entries first next_entries × (next ≡ now ++ first) →
    GoesOn style max all entries start next_entries next (drop (i + 1) all)
one_more style max all entries start now_entries now i f own_max next_entries next same so_far lt item (first, written, grown) text after are =
    let is : IsFieldText style max f now_entries first next_entries = subst (λ (m : ℕ). IsFieldText style m f now_entries first next_entries) same written in
    let left : AreFieldTexts style max (drop i all) now_entries (first ++ text) after = rw (one_front all i f lt item) (first, text, next_entries, is, are, refl) in
    let w = so_far (first ++ text) after left in
    (w.0, w.1, w.2 ∙ sym (append_assoc now first text) ∙ ap (λ (x : List ℕ). x ++ text) (sym grown))

pub all_written : (style : Style) (max : ℕ) (all entries : List Field) (start : List ℕ) (now_entries : List Field) (now : List ℕ) (i : ℕ) → GoesOn style max all entries start now_entries now (drop i all) → length all ≤ i →
    (text : List ℕ) × AreFieldTexts style max all entries text now_entries × (now ≡ start ++ text)
all_written style max all entries start now_entries now i so_far le =
    let left : AreFieldTexts style max (drop i all) now_entries [] now_entries = rw (none_left all i le) (refl, refl) in
    let w = so_far [] now_entries left in
    (w.0, w.1, sym (w.2 ∙ append-nil now))

-- one field is no larger than all of them
pub item_small : (fs : List Field) (i : ℕ) (f : Field) → i < length fs → f ≡ get_or fs i f → size_of f ≤ sum_by size_of fs
item_small [] i f lt e = absurd (omega arith)
item_small (x ∷ xs) zero f lt e = rw e (omega (arith, sum_by-cons size_of x xs))
item_small (x ∷ xs) (suc i) f lt e = omega (arith, sum_by-cons size_of x xs, item_small xs i f (omega (arith, lt)) e)

-- a field and those behind it
pub sum_here : (fs : List Field) (i : ℕ) (f : Field) → i < length fs → f ≡ get_or fs i f → sum_by size_of (drop i fs) ≡ size_of f + sum_by size_of (drop (i + 1) fs)
sum_here fs i f lt e = ap (sum_by size_of) (one_front fs i f lt e) ∙ sum_by-cons size_of f (drop (i + 1) fs)
