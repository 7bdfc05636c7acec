-- What the seats of a history say of its sessions.
use Rattle.std.proofs.Common.{◌≡◌, ℕ, Bool, true, false, List, [], ◌∷◌, ◌++◌, map, Some, None, Option, refl, ap}
use Rattle.std.specs.Prelude.{◌||◌, not, nat_eq, cond, filter, find, filter_map, option_and_then}
use Rattle.std.specs.List.{list_any, cons_option}
use Rattle.std.proofs.lemmas.Bool.{eqb-true}
use Rattle.table_model.specs.declared.params.Params.{Params}
use Rattle.table_model.specs.Event.{Event}
use Rattle.table_model.specs.Sessions.{live, is_live, params_of, differing, same_params}
use Rattle.session_params.specs.declared.SessionRecord.{SessionRecord}
use Rattle.session_params.specs.Rows.{is_of, is_entered, params_in, differing_in}
use Rattle.session_params.specs.Book.{session_record_of, session_records_of}

pub map_same : {X Y : Type 0} (f g : X → Y) (xs : List X) → ((x : X) → f x ≡ g x) → map f xs ≡ map g xs
map_same f g [] same = refl
map_same f g (x ∷ xs) same = rw (same x) (ap (λ ys. g x ∷ ys) (map_same f g xs same))

pub map-append : {X Y : Type 0} (f : X → Y) (xs ys : List X) → map f (xs ++ ys) ≡ map f xs ++ map f ys
map-append f [] ys = refl
map-append f (x ∷ xs) ys = ap (λ zs. f x ∷ zs) (map-append f xs ys)

module _ (past : List Event) (session : ℕ) where
  entered : (xs : List ℕ) → is_entered session (map (session_record_of past) xs) ≡ list_any (λ other. nat_eq other session) xs
  entered [] = refl
  entered (x ∷ xs) = ap (λ b. nat_eq x session || b) (entered xs)

  pub entered_live : is_entered session (session_records_of past) ≡ is_live past session
  unfolding session_records_of
  entered_live = entered (live past)

  session_record_here : (b : Bool) (x : ℕ) (rest : Option SessionRecord) (more : Bool) → nat_eq x session ≡ b → rest ≡ cond more (Some (session_record_of past session)) None
      → cond (nat_eq x session) (Some (session_record_of past x)) rest ≡ cond (nat_eq x session || more) (Some (session_record_of past session)) None
  session_record_here true x rest more same h = rw (same, eqb-true x session same) refl
  session_record_here false x rest more differ h = rw differ h

  session_record_among : (xs : List ℕ) → find (is_of session) (map (session_record_of past) xs) ≡ cond (list_any (λ other. nat_eq other session) xs) (Some (session_record_of past session)) None
  session_record_among [] = refl
  session_record_among (x ∷ xs) = session_record_here (nat_eq x session) x (find (is_of session) (map (session_record_of past) xs)) (list_any (λ other. nat_eq other session) xs) refl (session_record_among xs)

  pub session_record_live : find (is_of session) (session_records_of past) ≡ cond (is_live past session) (Some (session_record_of past session)) None
  unfolding session_records_of
  session_record_live = session_record_among (live past)

  params_here : (b : Bool) (x : ℕ) (rest : Option SessionRecord) (more : Bool) → nat_eq x session ≡ b → option_and_then (λ (session_record : SessionRecord). session_record.params) rest ≡ cond more (params_of past session) None
      → option_and_then (λ (session_record : SessionRecord). session_record.params) (cond (nat_eq x session) (Some (session_record_of past x)) rest) ≡ cond (nat_eq x session || more) (params_of past session) None
  params_here true x rest more same h = rw (same, eqb-true x session same) refl
  params_here false x rest more differ h = rw differ h

  params_among : (xs : List ℕ) → params_in session (map (session_record_of past) xs) ≡ cond (list_any (λ other. nat_eq other session) xs) (params_of past session) None
  params_among [] = refl
  params_among (x ∷ xs) = params_here (nat_eq x session) x (find (is_of session) (map (session_record_of past) xs)) (list_any (λ other. nat_eq other session) xs) refl (params_among xs)

  pub params_live : is_live past session ≡ true → params_in session (session_records_of past) ≡ params_of past session
  unfolding session_records_of
  params_live alive = rw (params_among (live past), alive) refl

  others : (xs : List ℕ) → filter_map (λ (session_record : SessionRecord). session_record.params) (filter (λ session_record. not (is_of session session_record)) (map (session_record_of past) xs)) ≡ filter_map (params_of past) (filter (λ other. not (nat_eq other session)) xs)
  others [] = refl
  others (x ∷ xs) = elim (nat_eq x session) as (λ b. filter_map (λ (session_record : SessionRecord). session_record.params) (cond (not b) (session_record_of past x ∷ filter (λ session_record. not (is_of session session_record)) (map (session_record_of past) xs)) (filter (λ session_record. not (is_of session session_record)) (map (session_record_of past) xs))) ≡ filter_map (params_of past) (cond (not b) (x ∷ filter (λ other. not (nat_eq other session)) xs) (filter (λ other. not (nat_eq other session)) xs))) [
    | true ↦ others xs
    | false ↦ ap (cons_option (params_of past x)) (others xs)
  ]

  pub differing_live : (params : Params) → differing_in session params (session_records_of past) ≡ differing past session params
  unfolding session_records_of
  differing_live params = ap (find (λ other. not (same_params params other))) (others (live past))

  pub session_records_without : (xs : List ℕ) → filter (λ session_record. not (is_of session session_record)) (map (session_record_of past) xs) ≡ map (session_record_of past) (filter (λ other. not (nat_eq other session)) xs)
  session_records_without [] = refl
  session_records_without (x ∷ xs) = elim (nat_eq x session) as (λ b. cond (not b) (session_record_of past x ∷ filter (λ session_record. not (is_of session session_record)) (map (session_record_of past) xs)) (filter (λ session_record. not (is_of session session_record)) (map (session_record_of past) xs)) ≡ map (session_record_of past) (cond (not b) (x ∷ filter (λ other. not (nat_eq other session)) xs) (filter (λ other. not (nat_eq other session)) xs))) [
    | true ↦ session_records_without xs
    | false ↦ ap (λ ys. session_record_of past x ∷ ys) (session_records_without xs)
  ]
