-- What a device in memory has under each key, behind a call.
use Rattle.std.proofs.Common.{◌≡◌, Bool, true, false, List, [], ◌∷◌, ◌++◌, Some, None, Option, refl, sym, ap, ◌∙◌}
use Rattle.std.specs.Prelude.{not, filter, find, cond}
use Rattle.std.specs.Option.{option_or}
use Rattle.std.proofs.lemmas.List.Folds.{find-append}
use Rattle.aft_entries.specs.declared.entry.Entry.{Entry}
use Rattle.aft_entries.specs.declared.key.Key.{Key}
use Rattle.aft_entries.specs.Order.{key_eq}
use Rattle.aft_entries.specs.Devices.{IsAbsent, KeysDiffer, SetsTo, entry_at, without, placed}
use Rattle.aft_entries.proofs.OrderLemmas.{key_eq_same, key_eq_symm}

module _ (p q : Entry → Bool) where
  skip_in : (b c : Bool) (x : Entry) (xs : List Entry) → (b ≡ true → c ≡ true) → p x ≡ b → find p (filter q xs) ≡ find p xs
      → find p (cond c (x ∷ filter q xs) (filter q xs)) ≡ cond b (Some x) (find p xs)
  skip_in true true x xs h is rest = rw is refl
  skip_in true false x xs h is rest = let no_way : false ≡ true = h refl in cc
  skip_in false true x xs h is rest = rw is rest
  skip_in false false x xs h is rest = rest

  -- a filter that keeps what is looked for
  find_in : (xs : List Entry) → ((x : Entry) → p x ≡ true → q x ≡ true) → find p (filter q xs) ≡ find p xs
  find_in [] h = refl
  find_in (x ∷ xs) h = skip_in (p x) (q x) x xs (h x) refl (find_in xs h)

  skip_out : (b c : Bool) (x : Entry) (xs : List Entry) → (b ≡ true → c ≡ false) → p x ≡ b → find p (filter q xs) ≡ None
      → find p (cond c (x ∷ filter q xs) (filter q xs)) ≡ None
  skip_out true true x xs h is rest = let no_way : true ≡ false = h refl in cc
  skip_out true false x xs h is rest = rest
  skip_out false true x xs h is rest = rw is rest
  skip_out false false x xs h is rest = rest

  -- a filter that drops it
  find_out : (xs : List Entry) → ((x : Entry) → p x ≡ true → q x ≡ false) → find p (filter q xs) ≡ None
  find_out [] h = refl
  find_out (x ∷ xs) h = skip_out (p x) (q x) x xs (h x) refl (find_out xs h)

or_none : (o : Option Entry) → option_or o None ≡ o
or_none None = refl
or_none (Some e) = refl

module _ (key k : Key) where
  gone_by : (b : Bool) (before : List Entry) → key_eq k key ≡ b
      → find (λ e. key_eq k e.key) (filter (λ e. not (key_eq key e.key)) before) ≡ cond b None (find (λ e. key_eq k e.key) before)
  gone_by true before is =
      find_out (λ e. key_eq k e.key) (λ e. not (key_eq key e.key)) before
      (λ x h. ap not (ap (λ (y : Key). key_eq y x.key) (sym (key_eq_same k key is)) ∙ h))
  gone_by false before is =
      find_in (λ e. key_eq k e.key) (λ e. not (key_eq key e.key)) before
      (λ x h. ap not (ap (λ (y : Key). key_eq key y) (sym (key_eq_same k x.key h)) ∙ (key_eq_symm key k ∙ is)))

-- what a removal leaves
pub removes : (key : Key) (before : List Entry) → SetsTo key None (Some before) (Some (without key before))
unfolding entry_at without
removes key before k = gone_by key k (key_eq k key) before refl

module _ (e : Entry) (k : Key) where
  put_by : (b : Bool) (others before : List Entry) → key_eq k e.key ≡ b
      → find (λ x. key_eq k x.key) others ≡ cond b None (find (λ x. key_eq k x.key) before)
      → find (λ x. key_eq k x.key) (others ++ e ∷ []) ≡ cond b (Some e) (find (λ x. key_eq k x.key) before)
  put_by true others before is gone =
      find-append (λ x. key_eq k x.key) others (e ∷ [])
      ∙ (ap (λ (o : Option Entry). option_or o (cond (key_eq k e.key) (Some e) None)) gone ∙ ap (λ (b : Bool). cond b (Some e) None) is)
  put_by false others before is gone =
      find-append (λ x. key_eq k x.key) others (e ∷ [])
      ∙ (ap (λ (o : Option Entry). option_or o (cond (key_eq k e.key) (Some e) None)) gone
      ∙ (ap (λ (b : Bool). option_or (find (λ x. key_eq k x.key) before) (cond b (Some e) None)) is
      ∙ or_none (find (λ x. key_eq k x.key) before)))

-- and an installation
pub installs : (e : Entry) (before : List Entry) → SetsTo e.key (Some e) (Some before) (Some (placed e before))
unfolding entry_at without
installs e before k = put_by e k (key_eq k e.key) (filter (λ x. not (key_eq e.key x.key)) before) before refl (gone_by e.key k (key_eq k e.key) before refl)

-- ---- keys that differ

absent_kept : (b : Bool) (key : Key) (x : Entry) (xs : List Entry) → key_eq key x.key ≡ false → IsAbsent key xs → IsAbsent key (cond b (x ∷ xs) xs)
absent_kept true key x xs h rest = (h, rest)
absent_kept false key x xs h rest = rest

absent_filter : (q : Entry → Bool) (key : Key) (es : List Entry) → IsAbsent key es → IsAbsent key (filter q es)
absent_filter q key [] h = tt
absent_filter q key (x ∷ xs) h = absent_kept (q x) key x (filter q xs) h.0 (absent_filter q key xs h.1)

differ_kept : (b : Bool) (x : Entry) (xs : List Entry) → IsAbsent x.key xs → KeysDiffer xs → KeysDiffer (cond b (x ∷ xs) xs)
differ_kept true x xs h rest = (h, rest)
differ_kept false x xs h rest = rest

differ_filter : (q : Entry → Bool) (es : List Entry) → KeysDiffer es → KeysDiffer (filter q es)
differ_filter q [] h = tt
differ_filter q (x ∷ xs) h = differ_kept (q x) x (filter q xs) (absent_filter q x.key xs h.0) (differ_filter q xs h.1)

dropped : (b : Bool) (key : Key) (x : Entry) (xs : List Entry) → key_eq key x.key ≡ b → IsAbsent key xs → IsAbsent key (cond (not b) (x ∷ xs) xs)
dropped true key x xs is rest = rest
dropped false key x xs is rest = (is, rest)

absent_without : (key : Key) (es : List Entry) → IsAbsent key (filter (λ e. not (key_eq key e.key)) es)
absent_without key [] = tt
absent_without key (x ∷ xs) = dropped (key_eq key x.key) key x (filter (λ e. not (key_eq key e.key)) xs) refl (absent_without key xs)

absent_append : (key : Key) (es : List Entry) (e : Entry) → IsAbsent key es → key_eq key e.key ≡ false → IsAbsent key (es ++ e ∷ [])
absent_append key [] e h is = (is, tt)
absent_append key (x ∷ xs) e h is = (h.0, absent_append key xs e h.1 is)

differ_append : (es : List Entry) (e : Entry) → KeysDiffer es → IsAbsent e.key es → KeysDiffer (es ++ e ∷ [])
differ_append [] e h a = (tt, tt)
differ_append (x ∷ xs) e h a = (absent_append x.key xs e h.0 (key_eq_symm x.key e.key ∙ a.0), differ_append xs e h.1 a.1)

pub differ_without : (key : Key) (es : List Entry) → KeysDiffer es → KeysDiffer (without key es)
unfolding without
differ_without key es h = differ_filter (λ e. not (key_eq key e.key)) es h

pub differ_placed : (e : Entry) (es : List Entry) → KeysDiffer es → KeysDiffer (placed e es)
unfolding without
differ_placed e es h = differ_append _ e (differ_filter (λ x. not (key_eq e.key x.key)) es h) (absent_without e.key es)
