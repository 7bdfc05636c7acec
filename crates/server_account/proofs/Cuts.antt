-- Each call that was cut for want of memory is one of those that are counted.
use Rattle.std.proofs.Common.{◌≡◌, ◌⊎◌, inl, inr, ℕ, ◌+◌, ◌≤◌, Bool, ◌&&◌, ◌||◌, true, false, not, List, [], ◌∷◌, length, take, Option, Some, None, refl, sym, ap, subst, ◌∙◌, arith, length-append, is_some, eqb-true}
use Rattle.std.specs.Prelude.{if◌then◌else◌, ◌==◌}
use Rattle.std.specs.List.{list_any}
use Rattle.std.specs.Option.{option_map_or}
use Rattle.std.proofs.lemmas.List.Folds.{list_any-append}
use Rattle.grpc_heads.specs.CallEnd.{CallEnd, Status}
use Rattle.grpc_heads.specs.declared.head.Method.{Method}
use Rattle.h2_exchange.specs.Calls.{Call}
use Rattle.h2_exchange.specs.StreamParts.{Item, Message, Finish}
use Rattle.h2_exchange.proofs.Places.{same_self, second_true}
use Rattle.call_answers.specs.declared.orders.Setting.{Setting}
use Rattle.call_orders.specs.Owed.{has_end, is_end, want_of_memory}
use Rattle.call_orders.specs.Calls.{Action, Handles, Collects, Continues, CallState, NotBegun, Modifies, Receives, Responds, Over, Standing, after, collected, continued, handled, cut_by, cut_of, next_state, owing, standing, stream_of, without_leaves}
use Rattle.call_orders.specs.Actions.{AreActions, IsAction, may_be_cut}
use Rattle.call_orders.specs.Orders.{Cut, cuts}
use Rattle.call_orders.proofs.Counts.{standing_here, standing_other}
use Rattle.call_orders.proofs.Standing.{actions_parts}
use Rattle.session_engine.specs.Stands.{IsUnended}
use Rattle.server_turns.specs.Serving.{is_want_of_memory, refused_in, wants_memory}

-- an end for want of memory is an end
unended_wants_none : (items : List (Item CallEnd)) → has_end items ≡ false → list_any is_want_of_memory items ≡ false
unended_wants_none [] e = refl
unended_wants_none (Message m ∷ items) e = unended_wants_none items e
unended_wants_none (Finish end ∷ items) e = absurd cc

cut_wants : (made : ℕ) (st : Standing) → wants_memory (cut_by (Some made) st) ≡ true
cut_wants made st = list_any-append is_want_of_memory (take made st.items) (Finish (Status want_of_memory) ∷ []) ∙ second_true (list_any is_want_of_memory (take made st.items)) true refl

cut_after : (s : Setting) (st : Standing) (a : Action) (made : ℕ) → cut_of a ≡ Some made → wants_memory (after s st a) ≡ true
cut_after s st (Handles call did (Some n)) made e = cut_wants n (handled s st call (without_leaves did))
cut_after s st (Handles call did None) made e = absurd cc
cut_after s st (Collects id did (Some n)) made e = cut_wants n (collected s st (without_leaves did))
cut_after s st (Collects id did None) made e = absurd cc
cut_after s st (Continues id (Some n)) made e = cut_wants n (continued st)
cut_after s st (Continues id None) made e = absurd cc

-- ---- a call that isn't over is owed no end

owing_unended : (st : Standing) (state : CallState) (more : List (Item CallEnd)) → (st.state ≡ Over → state ≡ Over) → IsUnended st → IsUnended (owing st state more)
owing_unended st state more keeps unended = by (has_end more) refl unended
  where
    by : (b : Bool) → has_end more ≡ b → (st.state ≡ Over) ⊎ (has_end st.items ≡ false) → IsUnended (owing st state more)
    by true e h = inl (ap (λ (x : Bool). if x then Over else state) e)
    by false e (inl over) = inl (ap (λ (x : Bool). if x then Over else state) e ∙ keeps over)
    by false e (inr none) = inr (list_any-append is_end st.items more ∙ (ap (λ (x : Bool). x || list_any is_end more) none ∙ e))

unended_after : (s : Setting) (st : Standing) (a : Action) → IsAction s st a → IsUnended st → IsUnended (after s st a)
unended_after s st (Handles call did None) right unended =
    owing_unended st (next_state s st.state call (without_leaves did)) _ (λ over. subst (λ (x : CallState). next_state s x call (without_leaves did) ≡ Over) (sym over) refl) unended
unended_after s st (Handles call did (Some made)) right unended = inl refl
unended_after s st (Collects id did None) right unended = owing_unended st st.state _ (λ over. over) unended
unended_after s st (Collects id did (Some made)) right unended = inl refl
unended_after s st (Continues id None) right unended = owing_unended st _ _ (λ over. absurd (cc (sym right.state_is ∙ over))) unended
unended_after s st (Continues id (Some made)) right unended = inl refl

unended_all : (s : Setting) (actions : List Action) → AreActions s actions → (id : ℕ) → IsUnended (standing s actions id)
unfolding standing
unended_all s [] h id = inr refl
unended_all s (a ∷ earlier) h id =
    let parts = actions_parts s a earlier h in
    by parts.0 (unended_all s earlier parts.1) (stream_of a == id) refl
  where
    by : IsAction s (standing s earlier (stream_of a)) a → ((k : ℕ) → IsUnended (standing s earlier k)) → (b : Bool) → (stream_of a == id) ≡ b → IsUnended (standing s (a ∷ earlier) id)
    by act before true e =
        let at : stream_of a ≡ id = eqb-true (stream_of a) id e in
        subst IsUnended (sym (standing_here s a earlier id e))
        (unended_after s (standing s earlier id) a (subst (λ (n : ℕ). IsAction s (standing s earlier n) a) at act) (before id))
    by act before false e = subst IsUnended (sym (standing_other s a earlier id e)) (before id)

-- ---- a call that is cut was not over

not_over : (state : CallState) (call : Call Method CallEnd) → may_be_cut state call ≡ true → state ≡ Over → ⊥
not_over Over call may over = let wrong : false ≡ true = may in absurd cc
not_over NotBegun call may over = absurd cc
not_over (Modifies session is_finished) call may over = absurd cc
not_over (Receives method first is_more) call may over = absurd cc
not_over (Responds waiting) call may over = absurd cc

cut_before : (s : Setting) (st : Standing) (a : Action) (made : ℕ) → IsAction s st a → cut_of a ≡ Some made → st.state ≡ Over → ⊥
cut_before s st (Handles call did (Some n)) made act e over = not_over st.state call act.made.0 over
cut_before s st (Handles call did None) made act e over = absurd cc
cut_before s st (Collects id did cut) made act e over = absurd (cc (sym act.state_is ∙ over))
cut_before s st (Continues id cut) made act e over = absurd (cc (sym act.state_is ∙ over))

unwanted : (st : Standing) → IsUnended st → (st.state ≡ Over → ⊥) → wants_memory st ≡ false
unwanted st (inl over) going = absurd (going over)
unwanted st (inr none) going = unended_wants_none st.items none

one_or_none : (f : ℕ → List Cut) → ((n : ℕ) → length (f n) ≡ 1) → (o : Option ℕ) → length (option_map_or f o []) ≡ (if is_some o then 1 else 0)
one_or_none f one None = refl
one_or_none f one (Some n) = one n

count_cut : (a : Action) (rest : List Action) → length (cuts (a ∷ rest)) ≡ length (cuts rest) + (if is_some (cut_of a) then 1 else 0)
unfolding cuts
count_cut a rest = length-append (cuts rest) _ ∙ ap (λ (n : ℕ). length (cuts rest) + n) (one_or_none _ (λ n. refl) (cut_of a))

abbrev newly : Setting → Action → List Action → Bool
newly s a earlier = wants_memory (standing s (a ∷ earlier) (stream_of a)) && not (wants_memory (standing s earlier (stream_of a)))

count_refused : (s : Setting) (a : Action) (earlier : List Action) → refused_in s (a ∷ earlier) ≡ refused_in s earlier + (if newly s a earlier then 1 else 0)
unfolding refused_in
count_refused s a earlier = refl

pub cuts_are_counted : (s : Setting) (actions : List Action) → AreActions s actions → length (cuts actions) ≤ refused_in s actions
unfolding cuts refused_in
cuts_are_counted s [] h = omega arith
cuts_are_counted s (a ∷ earlier) h =
    let parts = actions_parts s a earlier h in
    by parts.0 (unended_all s earlier parts.1 (stream_of a)) (cuts_are_counted s earlier parts.1) (cut_of a) refl
  where
    by : IsAction s (standing s earlier (stream_of a)) a → IsUnended (standing s earlier (stream_of a)) → length (cuts earlier) ≤ refused_in s earlier → (o : Option ℕ) → cut_of a ≡ o → length (cuts (a ∷ earlier)) ≤ refused_in s (a ∷ earlier)
    by act before le None e = omega (arith, count_cut a earlier, ap {B = ℕ} (λ (c : Option ℕ). if is_some c then 1 else 0) e, count_refused s a earlier, le)
    by act before le (Some made) e =
        let now : wants_memory (standing s (a ∷ earlier) (stream_of a)) ≡ true =
        ap wants_memory (standing_here s a earlier (stream_of a) (same_self (stream_of a))) ∙ cut_after s (standing s earlier (stream_of a)) a made e in
        let before_it : wants_memory (standing s earlier (stream_of a)) ≡ false = unwanted (standing s earlier (stream_of a)) before (cut_before s (standing s earlier (stream_of a)) a made act e) in
        let one : newly s a earlier ≡ true = rw (now, before_it) refl in
        omega (arith, count_cut a earlier, ap {B = ℕ} (λ (c : Option ℕ). if is_some c then 1 else 0) e, count_refused s a earlier, ap {B = ℕ} (λ (b : Bool). if b then 1 else 0) one, le)
