-- One more entry of a pass.
use Rattle.std.proofs.Common.{◌≡◌, ◌<◌, ℕ, zero, suc, ◌+◌, Bool, true, false, List, [], ◌∷◌, ◌++◌, length, map, take, get_or, Some, refl, sym, ap, ◌∙◌, arith, add-one}
use Rattle.std.specs.Prelude.{slice_get, option_map, ◌&&◌, ◌||◌, not}
use mathlib.Core.Bool.{beq}
use Rattle.std.specs.List.{list_any}
use Rattle.std.proofs.lemmas.List.{take_more, map-append}
use Rattle.std.proofs.lemmas.Option.{slice_get_within, get_or_from_slice_get, slice_get-map}
use Rattle.aft_entries.specs.declared.entry.Entry.{Entry}
use Rattle.aft_entries.specs.declared.key.Key.{Key}
use Rattle.aft_entries.specs.References.{refers}
use Rattle.aft_store.proofs.Scans.{scan_found}
use Rattle.flush_get.specs.Marking as marking

pub some_same : {X : Type 0} (x y : X) → Some x ≡ Some y → x ≡ y
some_same x y e = cc

-- the list of what a function makes of the entries, one longer
pub grown : {X Y : Type 0} (f : X → Y) (xs : List X) (n : ℕ) (x : X) (before after : List Y) (y : Y) → slice_get xs n ≡ Some x → before ≡ map f (take n xs) → after ≡ before ++ y ∷ [] → y ≡ f x → after ≡ map f (take (n + 1) xs)
grown f xs n x before after y is so_far more here =
    more ∙ rw (so_far, here) (sym (ap (map f) (take_more xs n x (slice_get_within xs n x is)) ∙ rw (get_or_from_slice_get xs n x x is) (map-append f (take n xs) (x ∷ []))))

-- the same where the entry is known by its place alone
grown_at : {X Y : Type 0} (f : X → Y) (xs : List X) (n : ℕ) (y : Y) → n < length xs → ((x : X) → slice_get xs n ≡ Some x → y ≡ f x) → map f (take n xs) ++ y ∷ [] ≡ map f (take (suc n) xs)
grown_at f [] n y lt here = absurd (omega arith)
grown_at f (x ∷ xs) zero y lt here = rw (here x refl) refl
grown_at f (x ∷ xs) (suc n) y lt here = ap (λ l. f x ∷ l) (grown_at f xs n y (omega arith) here)

or_none : (a b : Bool) → (a || b) ≡ false → (a ≡ false) × (b ≡ false)
or_none true b h = cc
or_none false b h = (refl, h)

pub none_next : {X : Type 0} (p : X → Bool) (xs : List X) (n : ℕ) → list_any p (take n xs) ≡ false → ((x : X) → slice_get xs n ≡ Some x → p x ≡ false) → list_any p (take (suc n) xs) ≡ false
none_next p [] n h here = refl
none_next p (x ∷ xs) zero h here = rw (here x refl) refl
none_next p (x ∷ xs) (suc n) h here =
    let parts : (p x ≡ false) × (list_any p (take n xs) ≡ false) = or_none (p x) (list_any p (take n xs)) h in
    rw (parts.0, none_next p xs n parts.1 here) refl

pub and_false : (a b : Bool) → b ≡ false → (a && b) ≡ false
and_false true b h = h
and_false false b h = refl

-- marks of the entries that a test marks
module _ (marked : Entry → Bool) (table : List Entry) (marks : List Bool) (same : marks ≡ map marked table) (n : ℕ) where
  pub mark_is : (x : Entry) → slice_get table n ≡ Some x → get_or marks n false ≡ marked x
  mark_is x is = ap (λ l. get_or l n false) same ∙ get_or_from_slice_get (map marked table) n (marked x) false (slice_get-map marked table n ∙ ap (option_map marked) is)

  module _ (key : Key) where
    pub held_by : (e : Entry) → slice_get table n ≡ Some e → get_or marks n false ≡ true → refers e key ≡ true → marking.is_referenced marked table key ≡ true
    held_by e is here named = scan_found (λ x. marked x && refers x key) table n e is (rw (sym (mark_is e is) ∙ here, named) refl)

    pub not_by : (e : Entry) → slice_get table n ≡ Some e → refers e key ≡ false → marking.is_referenced marked (take n table) key ≡ false → marking.is_referenced marked (take (n + 1) table) key ≡ false
    not_by e is free so_far =
        rw add-one (none_next (λ x. marked x && refers x key) table n so_far (λ x one. and_false (marked x) (refers x key) (ap (λ y. refers y key) (some_same x e (sym one ∙ is)) ∙ free)))

    pub not_marked : get_or marks n false ≡ false → marking.is_referenced marked (take n table) key ≡ false → marking.is_referenced marked (take (n + 1) table) key ≡ false
    not_marked free so_far =
        rw add-one (none_next (λ x. marked x && refers x key) table n so_far (λ x one. rw (sym (mark_is x one) ∙ free) refl))

-- what a pass has done of both lists of marks
pub record IsPassed (table : List Entry) (before after : List Bool) (n : ℕ) (more : Bool) : Type 0 where
  pub marks : (marked : Entry → Bool) → before ≡ map marked table → after ≡ map (marking.marked_after_pass marked table) (take n table)
  pub settled : more ≡ false → after ≡ take n before

same_marks : (a b : Bool) → not (beq a b) ≡ false → a ≡ b
same_marks true true h = refl
same_marks true false h = cc
same_marks false true h = cc
same_marks false false h = refl

-- what is known of the marks where a pass brought none so far
pub more_already : {X : Type 0} (more next : Bool) → more ≡ true → next ≡ more → next ≡ false → X
more_already more next has same none = cc

pub none_here : (more next has had : Bool) → more ≡ false → next ≡ not (beq has had) → next ≡ false → (more ≡ false) × (has ≡ had)
none_here more next has had not_yet is none = (not_yet, same_marks has had (sym is ∙ none))

module _ (table : List Entry) (before after longer : List Bool) (n : ℕ) (has : Bool) where
  pub pass_on : (more next : Bool) → n < length table → length before ≡ length table → IsPassed table before after n more → longer ≡ after ++ has ∷ [] → ((marked : Entry → Bool) (e : Entry) → before ≡ map marked table → slice_get table n ≡ Some e → has ≡ marking.marked_after_pass marked table e) → (next ≡ false → (more ≡ false) × (has ≡ get_or before n false)) → IsPassed table before longer (n + 1) next
  pass_on more next lt len passed more_is reached settled = record {
    marks = λ marked same. more_is ∙ rw (passed.marks marked same, add-one) (grown_at (marking.marked_after_pass marked table) table n has lt (λ x is. reached marked x same is));
    settled = λ e. let now : (more ≡ false) × (has ≡ get_or before n false) = settled e in more_is ∙ rw (passed.settled now.0, now.1) (sym (take_more before n false (omega arith)));
  }
