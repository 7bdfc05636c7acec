-- What further elements add to what a list gives.
use Rattle.std.proofs.Common.{◌≡◌, Bool, ◌||◌, true, false, List, [], ◌∷◌, ◌++◌, Option, Some, None, refl, sym, ap, ◌∙◌, append_assoc}
use Rattle.std.specs.Prelude.{is_some, if◌then◌else◌}
use Rattle.std.specs.Option.{option_or}
use Rattle.std.proofs.Math.Bool.{or_assoc}
use Rattle.std.proofs.lemmas.List.{append-nil}
use Rattle.h2_exchange.specs.Exchange.{collect, some_step, front_before, first_given}

pub or_nothing : (a : Bool) → (a || false) ≡ a
or_nothing true = refl
or_nothing false = refl

module _ {S : Type 0} where
  -- ---- what each gives

  pub collect_more : {A : Type 0} (g : List S → S → List A) (past x more : List S) → collect g past (x ++ more) ≡ collect g past x ++ collect g (past ++ x) more
  collect_more {A} g past [] more = ap (λ (p : List S). collect g p more) (sym (append-nil past))
  collect_more {A} g past (s ∷ x) more =
      ap (λ (r : List A). g past s ++ r) (collect_more g (past ++ s ∷ []) x more ∙ ap (λ (p : List S). collect g (past ++ s ∷ []) x ++ collect g p more) (append_assoc past (s ∷ []) x))
      ∙ sym (append_assoc (g past s) (collect g (past ++ s ∷ []) x) (collect g (past ++ s ∷ x) more))

  -- one more, at the end
  pub collect_push : {A : Type 0} (g : List S → S → List A) (x : List S) (s : S) → collect g [] (x ++ s ∷ []) ≡ collect g [] x ++ g x s
  collect_push {A} g x s = collect_more g [] x (s ∷ []) ∙ ap (λ (r : List A). collect g [] x ++ r) (append-nil (g x s))

  -- ---- whether one passes

  pub some_more : (p : List S → S → Bool) (past x more : List S) → some_step p past (x ++ more) ≡ (some_step p past x || some_step p (past ++ x) more)
  some_more p past [] more = ap (λ (q : List S). some_step p q more) (sym (append-nil past))
  some_more p past (s ∷ x) more =
      ap (λ (r : Bool). p past s || r) (some_more p (past ++ s ∷ []) x more ∙ ap (λ (q : List S). some_step p (past ++ s ∷ []) x || some_step p q more) (append_assoc past (s ∷ []) x))
      ∙ sym (or_assoc (p past s) (some_step p (past ++ s ∷ []) x) (some_step p (past ++ s ∷ x) more))

  pub some_push : (p : List S → S → Bool) (x : List S) (s : S) → some_step p [] (x ++ s ∷ []) ≡ (some_step p [] x || p x s)
  some_push p x s = some_more p [] x (s ∷ []) ∙ ap (λ (r : Bool). some_step p [] x || r) (or_nothing (p x s))

  -- ---- the first that gives something

  module _ {A : Type 0} (g : List S → S → Option A) where
    if_stopped : (o later : Option A) (s : S) (a b : List S) (v : A) → (later ≡ Some v → a ≡ b) → option_or o later ≡ Some v → (if is_some o then [] else s ∷ a) ≡ (if is_some o then [] else s ∷ b)
    if_stopped None later s a b v k e = ap (λ (l : List S). s ∷ l) (k e)
    if_stopped (Some w) later s a b v k e = refl

    -- behind what stops it nothing counts
    pub front_stays : (past x more : List S) (v : A) → first_given g past x ≡ Some v → front_before g past (x ++ more) ≡ front_before g past x
    front_stays past [] more v e = absurd cc
    front_stays past (s ∷ x) more v e =
        if_stopped (g past s) (first_given g (past ++ s ∷ []) x) s (front_before g (past ++ s ∷ []) (x ++ more)) (front_before g (past ++ s ∷ []) x) v (front_stays (past ++ s ∷ []) x more v) e

    if_goes : (o later : Option A) (s : S) (a b : List S) → (later ≡ None → a ≡ b) → option_or o later ≡ None → (if is_some o then [] else s ∷ a) ≡ s ∷ b
    if_goes None later s a b k e = ap (λ (l : List S). s ∷ l) (k e)
    if_goes (Some w) later s a b k e = absurd cc

    pub front_goes_on : (past x more : List S) → first_given g past x ≡ None → front_before g past (x ++ more) ≡ x ++ front_before g (past ++ x) more
    front_goes_on past [] more e = ap (λ (p : List S). front_before g p more) (sym (append-nil past))
    front_goes_on past (s ∷ x) more e =
        if_goes (g past s) (first_given g (past ++ s ∷ []) x) s (front_before g (past ++ s ∷ []) (x ++ more)) (x ++ front_before g (past ++ s ∷ x) more)
        (λ k. front_goes_on (past ++ s ∷ []) x more k ∙ ap (λ (p : List S). x ++ front_before g p more) (append_assoc past (s ∷ []) x)) e

    pub front_whole : (past x : List S) → first_given g past x ≡ None → front_before g past x ≡ x
    front_whole past [] e = refl
    front_whole past (s ∷ x) e = if_goes (g past s) (first_given g (past ++ s ∷ []) x) s (front_before g (past ++ s ∷ []) x) x (front_whole (past ++ s ∷ []) x) e

    or_assoc_option : (a b c : Option A) → option_or a (option_or b c) ≡ option_or (option_or a b) c
    or_assoc_option None b c = refl
    or_assoc_option (Some a) b c = refl

    pub given_more : (past x more : List S) → first_given g past (x ++ more) ≡ option_or (first_given g past x) (first_given g (past ++ x) more)
    given_more past [] more = ap (λ (p : List S). first_given g p more) (sym (append-nil past))
    given_more past (s ∷ x) more =
        ap (option_or (g past s)) (given_more (past ++ s ∷ []) x more ∙ ap (λ (p : List S). option_or (first_given g (past ++ s ∷ []) x) (first_given g p more)) (append_assoc past (s ∷ []) x))
        ∙ or_assoc_option (g past s) (first_given g (past ++ s ∷ []) x) (first_given g (past ++ s ∷ x) more)
