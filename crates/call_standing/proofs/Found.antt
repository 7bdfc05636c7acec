-- The call on a stream, where it stands, and what becomes of the calls where it is changed.
use Rattle.std.proofs.Common.{◌≡◌, ℕ, zero, suc, ◌+◌, ◌<◌, ◌==◌, Bool, true, false, cond, List, [], ◌∷◌, length, map, sum_by, slice_index_or, slice_set, Option, Some, None, refl, sym, ap, ◌∙◌, arith}
use Rattle.std.specs.Prelude.{if◌then◌else◌, nat_lt, not}
use Rattle.std.specs.List.{position, position_or_len}
use Rattle.std.proofs.lemmas.Bool.{eqb-true}
use Rattle.std.proofs.lemmas.Bool.Decides.{nat_tests}
use Rattle.std.proofs.lemmas.List.Sums.{sum_by-append}
use Rattle.h2_exchange.proofs.Places.{same_self}
use Rattle.kept_calls.specs.declared.call.Call.{Call}
use Rattle.kept_calls.specs.CallState.{CallState, call_on, state_of, states}

abbrev pub held_of : CallState → ℕ
held_of c = length c.cutter.held

sum_first : (c : CallState) (cs : List CallState) → sum_by held_of (c ∷ cs) ≡ held_of c + sum_by held_of cs
sum_first c cs =
    let alone : sum_by held_of (c ∷ []) ≡ 0 + held_of c = refl in
    omega (arith, alone, sum_by-append held_of (c ∷ []) cs)

-- the call on a stream was old, and is new
pub record IsChanged (id : ℕ) (old new : CallState) (before now : List CallState) : Type 0 where
  pub was : call_on id before ≡ Some old
  pub on : old.stream ≡ id
  pub here : call_on id now ≡ Some new
  pub other : (k : ℕ) → (id == k) ≡ false → call_on k now ≡ call_on k before
  pub streams : map (λ (c : CallState). c.stream) now ≡ map (λ (c : CallState). c.stream) before
  pub held : held_of new ≡ held_of old → sum_by held_of now ≡ sum_by held_of before

module _ (id : ℕ) (new : Call) (on : new.stream ≡ id) where
  here_now : (new.stream == id) ≡ true
  here_now = ap (λ (k : ℕ). k == id) on ∙ same_self id

  changed_from : (items : List Call) (n : ℕ) (call : Call) → position_or_len (λ (c : Call). c.stream == id) items ≡ n → n < length items → call ≡ slice_index_or items n call →
      IsChanged id (state_of call) (state_of new) (states items) (states (slice_set items n new))
  changed_from [] n call p inside is = absurd (omega (arith, inside))
  changed_from (x ∷ xs) zero call p inside is = by (x.stream == id) refl
    where
      by : (b : Bool) → (x.stream == id) ≡ b → IsChanged id (state_of call) (state_of new) (states (x ∷ xs)) (states (new ∷ xs))
      by true e =
          let same : x.stream ≡ id = eqb-true x.stream id e in
          record {
            was = ap (λ (b : Bool). if b then Some (state_of x) else call_on id (states xs)) e ∙ ap (λ (c : Call). Some (state_of c)) (sym is);
            on = ap (λ (c : Call). c.stream) is ∙ same;
            here = ap (λ (b : Bool). if b then Some (state_of new) else call_on id (states xs)) here_now;
            other = λ k apart.
                ap (λ (b : Bool). if b then Some (state_of new) else call_on k (states xs)) (ap (λ (s : ℕ). s == k) on ∙ apart)
                ∙ sym (ap (λ (b : Bool). if b then Some (state_of x) else call_on k (states xs)) (ap (λ (s : ℕ). s == k) same ∙ apart));
            streams = ap (λ (s : ℕ). s ∷ map (λ (c : CallState). c.stream) (states xs)) (on ∙ sym same);
            held = λ h.
                let one = sum_first (state_of new) (states xs) in
                let two = sum_first (state_of x) (states xs) in
                let at : held_of (state_of call) ≡ held_of (state_of x) = ap (λ (c : Call). held_of (state_of c)) is in
                omega (arith, one, two, h, at);
          }
      by false e =
          let none : 0 ≡ 1 + position_or_len (λ (c : Call). c.stream == id) xs =
          sym p ∙ ap (λ (b : Bool). cond (not b) (1 + position_or_len (λ (c : Call). c.stream == id) xs) 0) e in
          absurd (omega (arith, none))
  changed_from (x ∷ xs) (suc n) call p inside is = by (λ q. changed_from xs n call q (omega (arith, inside)) is) (x.stream == id) refl
    where
      by : (position_or_len (λ (c : Call). c.stream == id) xs ≡ n → IsChanged id (state_of call) (state_of new) (states xs) (states (slice_set xs n new))) → (b : Bool) → (x.stream == id) ≡ b → IsChanged id (state_of call) (state_of new) (states (x ∷ xs)) (states (x ∷ slice_set xs n new))
      by rest true e =
          let none : suc n ≡ 0 = sym p ∙ ap (λ (b : Bool). cond (not b) (1 + position_or_len (λ (c : Call). c.stream == id) xs) 0) e in
          absurd (omega (arith, none))
      by rest false e =
          let next : suc n ≡ 1 + position_or_len (λ (c : Call). c.stream == id) xs =
          sym p ∙ ap (λ (b : Bool). cond (not b) (1 + position_or_len (λ (c : Call). c.stream == id) xs) 0) e in
          step e (rest (omega (arith, next)))
        where
          step : (x.stream == id) ≡ false → IsChanged id (state_of call) (state_of new) (states xs) (states (slice_set xs n new)) →
              IsChanged id (state_of call) (state_of new) (states (x ∷ xs)) (states (x ∷ slice_set xs n new))
          step e r = record {
            was = ap (λ (b : Bool). if b then Some (state_of x) else call_on id (states xs)) e ∙ r.was;
            on = r.on;
            here = ap (λ (b : Bool). if b then Some (state_of x) else call_on id (states (slice_set xs n new))) e ∙ r.here;
            other = λ k apart. ap (λ (o : Option CallState). if x.stream == k then Some (state_of x) else o) (r.other k apart);
            streams = ap (λ (ids : List ℕ). x.stream ∷ ids) r.streams;
            held = λ h.
                let one = sum_first (state_of x) (states xs) in
                let two = sum_first (state_of x) (states (slice_set xs n new)) in
                let rest = r.held h in
                omega (arith, one, two, rest);
          }

at_place : {X : Type 0} (p : X → Bool) (xs : List X) (at : ℕ) → position p xs ≡ Some at → (position_or_len p xs ≡ at) × (at < length xs)
at_place p xs at e = by (nat_lt (position_or_len p xs) (length xs)) refl e
  where
    by : (b : Bool) → nat_lt (position_or_len p xs) (length xs) ≡ b → cond b (Some (position_or_len p xs)) None ≡ Some at → (position_or_len p xs ≡ at) × (at < length xs)
    by true h e = let same : position_or_len p xs ≡ at = cc in (same, grind (arith, nat_tests))
    by false h e = absurd cc

pub changed : (items : List Call) (id at : ℕ) (call new : Call) → position (λ (c : Call). c.stream == id) items ≡ Some at → call ≡ slice_index_or items at call → new.stream ≡ id →
    IsChanged id (state_of call) (state_of new) (states items) (states (slice_set items at new))
changed items id at call new p is on =
    let place = at_place (λ (c : Call). c.stream == id) items at p in
    changed_from id new on items at call place.0 place.1 is

-- no call stands on the stream
pub absent : (items : List Call) (id : ℕ) → position (λ (c : Call). c.stream == id) items ≡ None → call_on id (states items) ≡ None
absent items id e = none items (short (nat_lt (position_or_len (λ (c : Call). c.stream == id) items) (length items)) refl e)
  where
    short : (b : Bool) → nat_lt (position_or_len (λ (c : Call). c.stream == id) items) (length items) ≡ b → cond b (Some (position_or_len (λ (c : Call). c.stream == id) items)) None ≡ None →
        nat_lt (position_or_len (λ (c : Call). c.stream == id) items) (length items) ≡ false
    short true h e = absurd cc
    short false h e = h

    none : (xs : List Call) → nat_lt (position_or_len (λ (c : Call). c.stream == id) xs) (length xs) ≡ false → call_on id (states xs) ≡ None
    none [] h = refl
    none (x ∷ xs) h = by (none xs) (x.stream == id) refl
      where
        by : (nat_lt (position_or_len (λ (c : Call). c.stream == id) xs) (length xs) ≡ false → call_on id (states xs) ≡ None) → (b : Bool) → (x.stream == id) ≡ b → call_on id (states (x ∷ xs)) ≡ None
        by rest true f =
            let zero : position_or_len (λ (c : Call). c.stream == id) (x ∷ xs) ≡ 0 = ap (λ (b : Bool). cond (not b) (1 + position_or_len (λ (c : Call). c.stream == id) xs) 0) f in
            absurd (grind (arith, nat_tests))
        by rest false f =
            let more : position_or_len (λ (c : Call). c.stream == id) (x ∷ xs) ≡ 1 + position_or_len (λ (c : Call). c.stream == id) xs =
            ap (λ (b : Bool). cond (not b) (1 + position_or_len (λ (c : Call). c.stream == id) xs) 0) f in
            let later : nat_lt (position_or_len (λ (c : Call). c.stream == id) xs) (length xs) ≡ false = grind (arith, nat_tests) in
            ap (λ (b : Bool). if b then Some (state_of x) else call_on id (states xs)) f ∙ rest later

pub found : (items : List Call) (id at : ℕ) (call : Call) → position (λ (c : Call). c.stream == id) items ≡ Some at → call ≡ slice_index_or items at call →
    (call_on id (states items) ≡ Some (state_of call)) × (call.stream ≡ id)
found items id at call p is =
    let r = changed items id at call (record call { stream = id }) p is refl in
    (r.was, r.on)

-- what stands there is one call, whatever it is read as
pub same_call : (items : List Call) (id at : ℕ) (a b : Call) → position (λ (c : Call). c.stream == id) items ≡ Some at → a ≡ slice_index_or items at a → b ≡ slice_index_or items at b → state_of a ≡ state_of b
same_call items id at a b p is also =
    let one : Some (state_of a) ≡ Some (state_of b) = sym (found items id at a p is).0 ∙ (found items id at b p also).0 in
    cc
