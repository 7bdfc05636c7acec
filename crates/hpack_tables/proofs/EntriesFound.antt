-- The least index of an entry, and the entry that stands there.
use Rattle.std.proofs.Common.{◌≡◌, ℕ, zero, suc, ◌+◌, ◌-◌, ◌<◌, ◌≤◌, ◌||◌, Bool, true, false, not, List, [], ◌∷◌, ◌++◌, length, drop, refl, sym, ap, ◌∙◌, arith, inl, inr, Option, Some, None}
use Rattle.std.specs.Prelude.{slice_get, bytes_eq}
use Rattle.std.proofs.lemmas.Bool.{cases_Bool, and_parts}
use Rattle.std.proofs.lemmas.Slice.Eq.{bytes_eq-Decides}
use Rattle.hpack_tables.specs.declared.field.Field.{Field}
use Rattle.hpack_tables.specs.declared.encoder.Style.{Style}
use Rattle.hpack_tables.specs.declared.encoder.Style.TheVariants.{Plain, Indexed}
use Rattle.hpack_tables.specs.StaticTable.{static_table}
use Rattle.hpack_tables.specs.Reading.{entry_at}
use Rattle.hpack_tables.specs.Writing.{fits, index_from, index_of}
use Rattle.hpack_tables.proofs.Places.{at_static, at_dynamic}

-- ---- a search from a place on

pub index_here : (p : Field → Bool) (i place : ℕ) (fs : List Field) (f : Field) → slice_get fs place ≡ Some f → p f ≡ true → index_from p i (drop place fs) ≡ Some i
index_here p i place [] f at passes = absurd cc
index_here p i zero (g ∷ fs) f at passes = let e : g ≡ f = cc in rw (e, passes) refl
index_here p i (suc place) (g ∷ fs) f at passes = index_here p i place fs f at passes

pub index_later : (p : Field → Bool) (i place : ℕ) (fs : List Field) (f : Field) → slice_get fs place ≡ Some f → p f ≡ false → index_from p i (drop place fs) ≡ index_from p (suc i) (drop (suc place) fs)
index_later p i place [] f at other = absurd cc
index_later p i zero (g ∷ fs) f at other = let e : g ≡ f = cc in rw (e, other) refl
index_later p i (suc place) (g ∷ fs) f at other = index_later p i place fs f at other

pub index_past : (p : Field → Bool) (i place : ℕ) (fs : List Field) → length fs ≤ place → index_from p i (drop place fs) ≡ None
index_past p i zero [] le = refl
index_past p i (suc place) [] le = refl
index_past p i zero (g ∷ fs) le = absurd (omega arith)
index_past p i (suc place) (g ∷ fs) le = index_past p i place fs (omega (arith, le))

-- one entry more that does not pass
pub search_step : (p : Field → Bool) (first place : ℕ) (fs : List Field) (f : Field) → slice_get fs place ≡ Some f → p f ≡ false → index_from p first fs ≡ index_from p (first + place) (drop place fs) → index_from p first fs ≡ index_from p (first + (place + 1)) (drop (place + 1) fs)
search_step p first place fs f at other so_far =
    so_far ∙ index_later p (first + place) place fs f at other ∙ ap (λ (n : ℕ). index_from p n (drop (suc place) fs)) index ∙ ap (λ (n : ℕ). index_from p (first + (place + 1)) (drop n fs)) next
  where
    index : suc (first + place) ≡ first + (place + 1)
    index = omega arith

    next : suc place ≡ place + 1
    next = omega arith

pub search_found : (p : Field → Bool) (first place index : ℕ) (fs : List Field) (f : Field) → slice_get fs place ≡ Some f → p f ≡ true → index_from p first fs ≡ index_from p (first + place) (drop place fs) → index ≡ first + place → Some index ≡ index_from p first fs
search_found p first place index fs f at passes so_far e = rw e (sym (so_far ∙ index_here p (first + place) place fs f at passes))

pub search_end : (p : Field → Bool) (first place : ℕ) (fs : List Field) → length fs ≤ place → index_from p first fs ≡ index_from p (first + place) (drop place fs) → None ≡ index_from p first fs
search_end p first place fs le so_far = sym (so_far ∙ index_past p (first + place) place fs le)

-- ---- two lists

pub index_first : (p : Field → Bool) (i : ℕ) (fs gs : List Field) (j : ℕ) → index_from p i fs ≡ Some j → index_from p i (fs ++ gs) ≡ Some j
index_first p i [] gs j e = absurd cc
index_first p i (f ∷ fs) gs j e =
    elim (cases_Bool (p f)) [
      | inl passes ↦ rw passes (rw passes at e)
      | inr other ↦ rw other (index_first p (suc i) fs gs j (rw other at e))
    ]

pub index_second : (p : Field → Bool) (i : ℕ) (fs gs : List Field) → index_from p i fs ≡ None → index_from p i (fs ++ gs) ≡ index_from p (i + length fs) gs
index_second p i [] gs e = ap (λ (n : ℕ). index_from p n gs) parts
  where
    parts : i ≡ i + 0
    parts = omega arith
index_second p i (f ∷ fs) gs e =
    elim (cases_Bool (p f)) [
      | inl passes ↦ absurd (nothing i (sym (rw passes at e)))
      | inr other ↦ rw other (index_second p (suc i) fs gs (rw other at e) ∙ ap (λ (n : ℕ). index_from p n gs) (parts i (length fs)))
    ]
  where
    nothing : (i : ℕ) → None ≡ Some i → ⊥
    nothing i e = absurd cc

    parts : (i n : ℕ) → suc i + n ≡ i + suc n
    parts i n = omega arith

-- ---- the entry of an index

pub record Found (p : Field → Bool) (i : ℕ) (fs : List Field) (j : ℕ) : Type 0 where
  pub entry : Field
  pub from : i ≤ j
  pub upto : j < i + length fs
  pub at : slice_get fs (j - i) ≡ Some entry
  pub passes : p entry ≡ true

pub found : (p : Field → Bool) (i : ℕ) (fs : List Field) (j : ℕ) → index_from p i fs ≡ Some j → Found p i fs j
found p i [] j e = absurd cc
found p i (f ∷ fs) j e =
    elim (cases_Bool (p f)) [
      | inl passes ↦
          let s : Some i ≡ Some j = rw passes at e in
          let same : i ≡ j = cc in
          let place : j - i ≡ 0 = omega (arith, same) in
          record { entry = f; from = omega (arith, same); upto = omega (arith, same); at = rw place refl; passes = passes }
      | inr other ↦
          let r = found p (suc i) fs j (rw other at e) in
          let place : j - i ≡ suc (j - suc i) = omega (arith, r.from) in
          record { entry = r.entry; from = omega (arith, r.from); upto = omega (arith, r.upto); at = rw place r.at; passes = r.passes }
    ]

-- an entry of the two tables that passes
pub record Entry (p : Field → Bool) (entries : List Field) (j : ℕ) : Type 0 where
  pub entry : Field
  pub some : 1 ≤ j
  pub upto : j < 62 + length entries
  pub at : entry_at entries j ≡ Some entry
  pub passes : p entry ≡ true

pub static_length : length static_table ≡ 61
unfolding static_table
static_length = refl

in_static : (p : Field → Bool) (entries : List Field) (j : ℕ) → index_from p 1 static_table ≡ Some j → Entry p entries j
in_static p entries j e =
    let r = found p 1 static_table j e in
    let some : j ≡ 0 → ⊥ = λ z. omega (arith, r.from, z) in
    let few : j < 62 = omega (arith, r.upto, static_length) in
    record { entry = r.entry; some = r.from; upto = omega (arith, few); at = at_static entries j some few ∙ r.at; passes = r.passes }

in_dynamic : (p : Field → Bool) (entries : List Field) (j : ℕ) → index_from p 62 entries ≡ Some j → Entry p entries j
in_dynamic p entries j e =
    let r = found p 62 entries j e in
    record { entry = r.entry; some = omega (arith, r.from); upto = r.upto; at = at_dynamic entries j r.from ∙ r.at; passes = r.passes }

pub static_then_dynamic : (p : Field → Bool) (entries : List Field) → index_from p 1 static_table ≡ None → index_from p 1 (static_table ++ entries) ≡ index_from p 62 entries
static_then_dynamic p entries none = index_second p 1 static_table entries none ∙ ap (λ (n : ℕ). index_from p n entries) parts
  where
    parts : 1 + length static_table ≡ 62
    parts = omega (arith, static_length)

in_both : (p : Field → Bool) (entries : List Field) (j : ℕ) (o : Option ℕ) → index_from p 1 static_table ≡ o → index_from p 1 (static_table ++ entries) ≡ Some j → Entry p entries j
in_both p entries j None none e = in_dynamic p entries j (sym (static_then_dynamic p entries none) ∙ e)
in_both p entries j (Some k) some e = in_static p entries j (some ∙ sym (index_first p 1 static_table entries k some) ∙ e)

pub entry_of : (style : Style) (whole : Bool) (f : Field) (entries : List Field) (j : ℕ) → index_of style whole f entries ≡ Some j → Entry (fits whole f) entries j
unfolding index_of
entry_of Plain whole f entries j e = in_static (fits whole f) entries j e
entry_of Indexed whole f entries j e = in_both (fits whole f) entries j (index_from (fits whole f) 1 static_table) refl e

-- ---- the least index where a style looks

pub static_found : (style : Style) (whole : Bool) (f : Field) (entries : List Field) (j : ℕ) → index_from (fits whole f) 1 static_table ≡ Some j → Some j ≡ index_of style whole f entries
unfolding index_of
static_found Plain whole f entries j e = sym e
static_found Indexed whole f entries j e = sym (index_first (fits whole f) 1 static_table entries j e)

pub nothing_found : (whole : Bool) (f : Field) (entries : List Field) → index_from (fits whole f) 1 static_table ≡ None → None ≡ index_of Plain whole f entries
unfolding index_of
nothing_found whole f entries none = sym none

pub dynamic_found : (whole : Bool) (f : Field) (entries own : List Field) (r : Option ℕ) → index_from (fits whole f) 1 static_table ≡ None → r ≡ index_from (fits whole f) 62 entries → entries ≡ own → r ≡ index_of Indexed whole f own
unfolding index_of
dynamic_found whole f entries own r none e same = e ∙ ap (index_from (fits whole f) 62) same ∙ sym (static_then_dynamic (fits whole f) own none)

-- ---- what passing means

same_bytes : (a b : List ℕ) → bytes_eq a b ≡ true → a ≡ b
same_bytes a b e = (bytes_eq-Decides a b).0 e

pub same_name : (whole : Bool) (f g : Field) → fits whole f g ≡ true → g.name ≡ f.name
same_name whole f g e = same_bytes g.name f.name (and_parts (bytes_eq g.name f.name) (not whole || bytes_eq g.value f.value) e).0

pub same_field : (f g : Field) → fits true f g ≡ true → g ≡ f
same_field f g e =
    let name : g.name ≡ f.name = same_name true f g e in
    let value : g.value ≡ f.value = same_bytes g.value f.value (and_parts (bytes_eq g.name f.name) (bytes_eq g.value f.value) e).1 in
    ap (λ (n : List ℕ). field_of n g.value) name ∙ ap (field_of f.name) value
  where
    field_of : List ℕ → List ℕ → Field
    field_of name value = record { name = name; value = value }
