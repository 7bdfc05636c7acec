-- How often sessions are begun and left, on a stream and on the connection.
use Rattle.std.proofs.Common.{◌≡◌, ◌⊎◌, ℕ, ◌+◌, ◌==◌, ◌≤◌, ◌<◌, Bool, true, false, List, [], ◌∷◌, ◌++◌, Option, refl, sym, ap, ◌∙◌, eq-eqb, inl, inr, arith, if◌then◌else◌}
use Rattle.std.specs.Prelude.{filter_map}
use Rattle.std.proofs.lemmas.Bool.{eqb-true, cases_lt}
use Rattle.std.proofs.lemmas.List.Elements.{filter_map-append}
use Rattle.table_model.specs.Event.{Event}
use Rattle.call_answers.specs.declared.orders.Setting.{Setting}
use Rattle.call_orders.specs.Calls.{Action, stream_of, events_of, after, standing}
use Rattle.call_orders.specs.Actions.{events_in}
use Rattle.call_orders.specs.Orders.{actions_on, events_on}
use Rattle.call_orders.specs.Laws.{count}

pub count_append : (k : ℕ) (xs ys : List ℕ) → count k (xs ++ ys) ≡ count k xs + count k ys
count_append k [] ys = omega arith
count_append k (x ∷ xs) ys = let e = count_append k xs ys in omega (arith, e)

pub count_self : (k : ℕ) → count k (k ∷ []) ≡ 1
count_self k = ap (λ (b : Bool). (if b then 1 else 0) + 0) (eq-eqb k k refl)

-- ---- the actions on a stream

if_same : (b c : Bool) (a : Action) (l : List Action) → b ≡ c → (if b then a ∷ l else l) ≡ (if c then a ∷ l else l)
if_same b c a l e = ap (λ (x : Bool). if x then a ∷ l else l) e

pub on_here : (a : Action) (earlier : List Action) (id : ℕ) → (stream_of a == id) ≡ true → actions_on (a ∷ earlier) id ≡ a ∷ actions_on earlier id
on_here a earlier id e = if_same (stream_of a == id) true a (actions_on earlier id) e

pub on_other : (a : Action) (earlier : List Action) (id : ℕ) → (stream_of a == id) ≡ false → actions_on (a ∷ earlier) id ≡ actions_on earlier id
on_other a earlier id e = if_same (stream_of a == id) false a (actions_on earlier id) e

pub events_here : (a : Action) (earlier : List Action) (id : ℕ) → (stream_of a == id) ≡ true → events_on (a ∷ earlier) id ≡ events_on earlier id ++ events_of a
unfolding events_in
events_here a earlier id e = ap events_in (on_here a earlier id e)

pub events_other : (a : Action) (earlier : List Action) (id : ℕ) → (stream_of a == id) ≡ false → events_on (a ∷ earlier) id ≡ events_on earlier id
events_other a earlier id e = ap events_in (on_other a earlier id e)

pub events_more : (a : Action) (earlier : List Action) → events_in (a ∷ earlier) ≡ events_in earlier ++ events_of a
unfolding events_in
events_more a earlier = refl

pub standing_here : (s : Setting) (a : Action) (earlier : List Action) (id : ℕ) → (stream_of a == id) ≡ true → standing s (a ∷ earlier) id ≡ after s (standing s earlier id) a
unfolding standing
standing_here s a earlier id e = ap (λ (b : Bool). if b then after s (standing s earlier id) a else standing s earlier id) e

pub standing_other : (s : Setting) (a : Action) (earlier : List Action) (id : ℕ) → (stream_of a == id) ≡ false → standing s (a ∷ earlier) id ≡ standing s earlier id
unfolding standing
standing_other s a earlier id e = ap (λ (b : Bool). if b then after s (standing s earlier id) a else standing s earlier id) e

-- ---- what an action adds

module _ (h : Event → Option ℕ) (k : ℕ) where
  abbrev pub of_all : List Action → ℕ
  of_all actions = count k (filter_map h (events_in actions))

  abbrev pub of_stream : List Action → ℕ → ℕ
  of_stream actions id = count k (filter_map h (events_on actions id))

  abbrev pub of_one : Action → ℕ
  of_one a = count k (filter_map h (events_of a))

  pub counted : (xs ys : List Event) → count k (filter_map h (xs ++ ys)) ≡ count k (filter_map h xs) + count k (filter_map h ys)
  counted xs ys = ap (count k) (filter_map-append h xs ys) ∙ count_append k (filter_map h xs) (filter_map h ys)

  all_more : (a : Action) (earlier : List Action) → of_all (a ∷ earlier) ≡ of_all earlier + of_one a
  all_more a earlier = ap (λ (l : List Event). count k (filter_map h l)) (events_more a earlier) ∙ counted (events_in earlier) (events_of a)

  here_more : (a : Action) (earlier : List Action) (id : ℕ) → (stream_of a == id) ≡ true → of_stream (a ∷ earlier) id ≡ of_stream earlier id + of_one a
  here_more a earlier id e = ap (λ (l : List Event). count k (filter_map h l)) (events_here a earlier id e) ∙ counted (events_on earlier id) (events_of a)

  other_same : (a : Action) (earlier : List Action) (id : ℕ) → (stream_of a == id) ≡ false → of_stream (a ∷ earlier) id ≡ of_stream earlier id
  other_same a earlier id e = ap (λ (l : List Event). count k (filter_map h l)) (events_other a earlier id e)

  -- an action adds to its own stream alone
  stream_more : (a : Action) (earlier : List Action) (id : ℕ) (b : Bool) → (stream_of a == id) ≡ b → of_stream (a ∷ earlier) id ≡ of_stream earlier id + (if b then of_one a else 0)
  stream_more a earlier id true e = here_more a earlier id e
  stream_more a earlier id false e = let f = other_same a earlier id e in omega (arith, f)

  none_yet : of_all [] ≡ 0
  unfolding events_in
  none_yet = refl

  none_on : (id : ℕ) → of_stream [] id ≡ 0
  unfolding events_in
  none_on id = refl

  not_both : (n i j : ℕ) → (i == j) ≡ false → (n == i) ≡ true → (n == j) ≡ true → ⊥
  not_both n i j apart at_i at_j =
      let e : i ≡ j = sym (eqb-true n i at_i) ∙ eqb-true n j at_j in
      let f : (i == j) ≡ true = eq-eqb i j e in
      cc

  two_step : (a : Action) (earlier : List Action) (i j : ℕ) (b c : Bool) → (i == j) ≡ false → (stream_of a == i) ≡ b → (stream_of a == j) ≡ c
      → of_stream earlier i + of_stream earlier j ≤ of_all earlier → of_stream (a ∷ earlier) i + of_stream (a ∷ earlier) j ≤ of_all (a ∷ earlier)
  two_step a earlier i j true true apart e f before = absurd (not_both (stream_of a) i j apart e f)
  two_step a earlier i j true false apart e f before =
      let x = here_more a earlier i e in let y = other_same a earlier j f in let z = all_more a earlier in omega (arith, x, y, z)
  two_step a earlier i j false true apart e f before =
      let x = other_same a earlier i e in let y = here_more a earlier j f in let z = all_more a earlier in omega (arith, x, y, z)
  two_step a earlier i j false false apart e f before =
      let x = other_same a earlier i e in let y = other_same a earlier j f in let z = all_more a earlier in omega (arith, x, y, z)

  -- what stands on two streams stands on the connection
  pub two_streams : (actions : List Action) (i j : ℕ) → (i == j) ≡ false → of_stream actions i + of_stream actions j ≤ of_all actions
  two_streams [] i j apart = let x = none_on i in let y = none_on j in let z = none_yet in omega (arith, x, y, z)
  two_streams (a ∷ earlier) i j apart = two_step a earlier i j (stream_of a == i) (stream_of a == j) apart refl refl (two_streams earlier i j apart)

  one_step : (a : Action) (earlier : List Action) (i : ℕ) (b : Bool) → (stream_of a == i) ≡ b → of_stream earlier i ≤ of_all earlier → of_stream (a ∷ earlier) i ≤ of_all (a ∷ earlier)
  one_step a earlier i true e before = let x = here_more a earlier i e in let z = all_more a earlier in omega (arith, x, z)
  one_step a earlier i false e before = let x = other_same a earlier i e in let z = all_more a earlier in omega (arith, x, z)

  pub one_stream : (actions : List Action) (i : ℕ) → of_stream actions i ≤ of_all actions
  one_stream [] i = let x = none_on i in omega (arith, x)
  one_stream (a ∷ earlier) i = one_step a earlier i (stream_of a == i) refl (one_stream earlier i)

  -- an action adds nothing where nothing stands on its stream
  earlier_less : (a : Action) (earlier : List Action) (j : ℕ) (b : Bool) → (stream_of a == j) ≡ b → of_stream earlier j ≤ of_stream (a ∷ earlier) j
  earlier_less a earlier j true e = let x = here_more a earlier j e in omega (arith, x)
  earlier_less a earlier j false e = let x = other_same a earlier j e in omega (arith, x)

  only_step : (a : Action) (earlier : List Action) (i : ℕ) (b : Bool) → (stream_of a == i) ≡ b → ((j : ℕ) → (j == i) ≡ false → of_stream (a ∷ earlier) j ≡ 0)
      → of_all earlier ≡ of_stream earlier i → of_all (a ∷ earlier) ≡ of_stream (a ∷ earlier) i
  only_step a earlier i true e none before = let x = here_more a earlier i e in let z = all_more a earlier in omega (arith, x, z)
  only_step a earlier i false e none before =
      let x = other_same a earlier i e in
      let z = all_more a earlier in
      let w = here_more a earlier (stream_of a) (eq-eqb (stream_of a) (stream_of a) refl) in
      let v = none (stream_of a) e in
      omega (arith, x, z, w, v)

  -- where no other stream has any, all stand on this one
  pub only_stream : (actions : List Action) (i : ℕ) → ((j : ℕ) → (j == i) ≡ false → of_stream actions j ≡ 0) → of_all actions ≡ of_stream actions i
  only_stream [] i none = let x = none_on i in let z = none_yet in omega (arith, x, z)
  only_stream (a ∷ earlier) i none =
      only_step a earlier i (stream_of a == i) refl none
      (only_stream earlier i (λ (j : ℕ) (apart : (j == i) ≡ false). (let x = none j apart in let y = earlier_less a earlier j (stream_of a == j) refl in omega (arith, x, y))))

  -- it stands on some stream, or on none
  found_step : (a : Action) (earlier : List Action) → ((id : ℕ) × (1 ≤ of_stream earlier id)) ⊎ ((id : ℕ) → of_stream earlier id ≡ 0)
      → (0 < of_one a) ⊎ (of_one a ≤ 0) → ((id : ℕ) × (1 ≤ of_stream (a ∷ earlier) id)) ⊎ ((id : ℕ) → of_stream (a ∷ earlier) id ≡ 0)
  found_step a earlier (inl one) more = inl (one.0, (let y = earlier_less a earlier one.0 (stream_of a == one.0) refl in let z = one.1 in omega (arith, y, z)))
  found_step a earlier (inr none) (inl more) = inl (stream_of a, (let w = here_more a earlier (stream_of a) (eq-eqb (stream_of a) (stream_of a) refl) in omega (arith, w, more)))
  found_step a earlier (inr none) (inr less) = inr (λ (id : ℕ). absent id (stream_of a == id) refl)
    where
      absent : (id : ℕ) (b : Bool) → (stream_of a == id) ≡ b → of_stream (a ∷ earlier) id ≡ 0
      absent id true e = let x = here_more a earlier id e in let y = none id in omega (arith, x, y, less)
      absent id false e = let x = other_same a earlier id e in let y = none id in omega (arith, x, y)

  pub found : (actions : List Action) → ((id : ℕ) × (1 ≤ of_stream actions id)) ⊎ ((id : ℕ) → of_stream actions id ≡ 0)
  found [] = inr none_on
  found (a ∷ earlier) = found_step a earlier (found earlier) (cases_lt 0 (of_one a))
