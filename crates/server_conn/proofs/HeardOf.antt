-- A call that goes on was told to have begun.
use Rattle.std.proofs.Common.{◌≡◌, ◌⊎◌, ℕ, ◌==◌, ◌||◌, Bool, true, false, map, List, [], ◌∷◌, ◌++◌, Some, None, refl, sym, ap, subst, ◌∙◌, inl, inr, eqb-true, if◌then◌else◌}
use Rattle.std.specs.List.{list_any}
use Rattle.std.proofs.lemmas.List.{map-append}
use Rattle.std.proofs.lemmas.List.Folds.{list_any-append}
use Rattle.grpc_heads.specs.CallEnd.{CallEnd}
use Rattle.grpc_heads.specs.declared.head.Method.{Method}
use Rattle.h2_exchange.specs.Calls.{Call, Begun, Request, Finished, Dropped, Declined, stream_in}
use Rattle.h2_exchange.proofs.Places.{first_true, same_self, second_true}
use Rattle.grpc_stream.specs.CallTrace.{Asked, PeerEvent, begins_on}
use Rattle.table_model.specs.Event.{Event}
use Rattle.call_answers.specs.declared.orders.Setting.{Setting}
use Rattle.call_orders.specs.Calls.{Action, CallState, Collects, Continues, Handles, NotBegun, Over, Standing, after, calls_of, next_state, standing, stream_of, without_leaves}
use Rattle.call_orders.specs.Actions.{AreActions, IsAction, calls_in}

abbrev was_begun : ℕ → List (Call Method CallEnd) → Bool
was_begun id cs = list_any (begins_on id) (map Asked cs)

-- nothing was heard of it, it is over, or it was told to have begun
abbrev IsHeardOf : ℕ → CallState → List (Call Method CallEnd) → Type 0
IsHeardOf id state cs = ((state ≡ NotBegun) ⊎ (state ≡ Over)) ⊎ (was_begun id cs ≡ true)

begun_more : (id : ℕ) (cs more : List (Call Method CallEnd)) → was_begun id cs ≡ true → was_begun id (cs ++ more) ≡ true
begun_more id cs more e = ap (list_any (begins_on id)) (map-append Asked cs more) ∙ list_any-append (begins_on id) (map Asked cs) (map Asked more)
    ∙ first_true (was_begun id cs) (was_begun id more) e

begun_last : (id : ℕ) (cs more : List (Call Method CallEnd)) → was_begun id more ≡ true → was_begun id (cs ++ more) ≡ true
begun_last id cs more e = ap (list_any (begins_on id)) (map-append Asked cs more) ∙ list_any-append (begins_on id) (map Asked cs) (map Asked more)
    ∙ second_true (was_begun id cs) (was_begun id more) e

-- an unbegun call stays so, is over, or begins
unbegun : (s : Setting) (id : ℕ) (call : Call Method CallEnd) (did : List Event) → stream_in call ≡ id →
    ((next_state s NotBegun call did ≡ NotBegun) ⊎ (next_state s NotBegun call did ≡ Over)) ⊎ (was_begun id (call ∷ []) ≡ true)
unbegun s id (Begun stream method) did is =
    inr (first_true (stream == id) false (ap (λ (n : ℕ). n == id) is ∙ same_self id))
unbegun s id (Request stream message) did is = inl (inl refl)
unbegun s id (Finished stream) did is = inl (inl refl)
unbegun s id (Dropped stream) did is = inl (inr refl)
unbegun s id (Declined stream answer) did is = inl (inl refl)

module _ (id : ℕ) (past more : List (Call Method CallEnd)) where
  -- an end that is owed ends the call
  by_end : (state : CallState) (over : Bool) → IsHeardOf id state (past ++ more) → IsHeardOf id (if over then Over else state) (past ++ more)
  by_end state true h = inl (inr refl)
  by_end state false h = h

  still : (state : CallState) → IsHeardOf id state past → IsHeardOf id state (past ++ more)
  still state (inl h) = inl h
  still state (inr begun) = inr (begun_more id past more begun)

by_next : (s : Setting) (id : ℕ) (past : List (Call Method CallEnd)) (state : CallState) (call : Call Method CallEnd) (did : List Event) → stream_in call ≡ id →
    IsHeardOf id state past → IsHeardOf id (next_state s state call did) (past ++ call ∷ [])
by_next s id past state call did is (inr begun) = inr (begun_more id past (call ∷ []) begun)
by_next s id past state call did is (inl (inr over)) = inl (inr (subst (λ (x : CallState). next_state s x call did ≡ Over) (sym over) refl))
by_next s id past state call did is (inl (inl none)) =
    subst (λ (x : CallState). IsHeardOf id (next_state s x call did) (past ++ call ∷ [])) (sym none)
    (elim (unbegun s id call did is) [ inl h ↦ inl h | inr begun ↦ inr (begun_last id past (call ∷ []) begun) ])

heard_after : (s : Setting) (id : ℕ) (past : List (Call Method CallEnd)) (st : Standing) (a : Action) → stream_of a ≡ id → IsAction s st a →
    IsHeardOf id st.state past → IsHeardOf id (after s st a).state (past ++ calls_of a)
heard_after s id past st (Handles call did None) is right h =
    by_end id past (call ∷ []) (next_state s st.state call (without_leaves did)) _ (by_next s id past st.state call (without_leaves did) is h)
heard_after s id past st (Handles call did (Some made)) is right h = inl (inr refl)
heard_after s id past st (Collects stream did None) is right h = by_end id past [] st.state _ (still id past [] st.state h)
heard_after s id past st (Collects stream did (Some made)) is right h = inl (inr refl)
heard_after s id past st (Continues stream None) is right (inl (inl none)) = absurd (cc (sym none ∙ right.state_is))
heard_after s id past st (Continues stream None) is right (inl (inr over)) = absurd (cc (sym over ∙ right.state_is))
heard_after s id past st (Continues stream None) is right (inr begun) = inr (begun_more id past [] begun)
heard_after s id past st (Continues stream (Some made)) is right h = inl (inr refl)

heard_by : (s : Setting) (id : ℕ) (a : Action) (earlier : List Action) (b : Bool) → (stream_of a == id) ≡ b →
    IsAction s (standing s earlier (stream_of a)) a → IsHeardOf id (standing s earlier id).state (calls_in earlier) →
    IsHeardOf id (if b then after s (standing s earlier id) a else standing s earlier id).state (calls_in earlier ++ calls_of a)
heard_by s id a earlier true e right before = heard_after s id (calls_in earlier) (standing s earlier id) a (eqb-true (stream_of a) id e)
    (subst (λ (n : ℕ). IsAction s (standing s earlier n) a) (eqb-true (stream_of a) id e) right) before
heard_by s id a earlier false e right before = still id (calls_in earlier) (calls_of a) (standing s earlier id).state before

pub heard_of : (s : Setting) (id : ℕ) (actions : List Action) → AreActions s actions → IsHeardOf id (standing s actions id).state (calls_in actions)
unfolding standing calls_in AreActions
heard_of s id [] all = inl (inl refl)
heard_of s id (a ∷ earlier) all = heard_by s id a earlier (stream_of a == id) refl all.0 (heard_of s id earlier all.1)

pub told_begun : (s : Setting) (id : ℕ) (actions : List Action) (reported : List PeerEvent) → AreActions s actions → reported ≡ map Asked (calls_in actions) →
    ((standing s actions id).state ≡ NotBegun → ⊥) → ((standing s actions id).state ≡ Over → ⊥) → list_any (begins_on id) reported ≡ true
told_begun s id actions reported all is begun going =
    elim (heard_of s id actions all) [
      | inl (inl none) ↦ absurd (begun none)
      | inl (inr over) ↦ absurd (going over)
      | inr told ↦ ap (list_any (begins_on id)) is ∙ told
    ]
