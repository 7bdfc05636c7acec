-- One more action over all that was done.
use Rattle.std.proofs.Common.{◌≡◌, ℕ, ◌==◌, Bool, true, false, ◌||◌, if◌then◌else◌, List, ◌∷◌, ◌++◌, Option, Some, None, refl, sym, ap, ◌∙◌, subst, eq-eqb, inl, inr, ◌⊎◌}
use Rattle.std.specs.List.{list_any}
use Rattle.std.proofs.lemmas.Bool.{eqb-true}
use Rattle.std.proofs.lemmas.List.Folds.{list_any-append}
use Rattle.grpc_heads.specs.CallEnd.{CallEnd}
use Rattle.grpc_heads.specs.declared.head.Method.{Method}
use Rattle.h2_exchange.specs.Calls.{Call}
use Rattle.h2_exchange.specs.StreamParts.{Item}
use Rattle.table_model.specs.Event.{Event}
use Rattle.call_answers.specs.declared.orders.Setting.{Setting}
use Rattle.call_orders.specs.Owed.{has_end, is_end}
use Rattle.call_orders.specs.Calls.{CallState, Over, Standing, Action, Handles, Collects, Continues, after, next_state, owing, standing, stream_of, without_leaves}
use Rattle.call_orders.specs.Actions.{AreActions, IsAction}
use Rattle.call_orders.specs.Orders.{IsRunning, IsSpent}
use Rattle.session_engine.specs.declared.open_calls.OpenCall.{OpenCall}
use Rattle.session_engine.specs.Laws.{ActionsFollow, AreOpen, BeginsFollow, FollowsBy, SpentBeginsFollow, SpentFollows}
use Rattle.session_engine.specs.Queries.{OpenCallsView, call_on}
use Rattle.session_engine.specs.Stands.{AreSameElsewhere, IsUnended, Stands, StopsIn, Takes}

owing_unended : (st : Standing) (state : CallState) (more : List (Item CallEnd)) → (st.state ≡ Over → state ≡ Over) → IsUnended st → IsUnended (owing st state more)
owing_unended st state more keeps unended = by (has_end more) refl unended
  where
    by : (b : Bool) → has_end more ≡ b → (st.state ≡ Over) ⊎ (has_end st.items ≡ false) → IsUnended (owing st state more)
    by true e h = inl (ap (λ (x : Bool). if x then Over else state) e)
    by false e (inl over) = inl (ap (λ (x : Bool). if x then Over else state) e ∙ keeps over)
    by false e (inr none) = inr (list_any-append is_end st.items more ∙ (ap (λ (x : Bool). x || list_any is_end more) none ∙ e))

unended_after : (s : Setting) (st : Standing) (a : Action) → IsAction s st a → IsUnended st → IsUnended (after s st a)
unended_after s st (Handles call did None) right unended =
    owing_unended st (next_state s st.state call (without_leaves did)) _ (λ over. subst (λ (x : CallState). next_state s x call (without_leaves did) ≡ Over) (sym over) refl) unended
unended_after s st (Handles call did (Some made)) right unended = inl refl
unended_after s st (Collects id did None) right unended = owing_unended st st.state _ (λ over. over) unended
unended_after s st (Collects id did (Some made)) right unended = inl refl
unended_after s st (Continues id None) right unended = owing_unended st _ _ (λ over. absurd (cc (sym right.state_is ∙ over))) unended
unended_after s st (Continues id (Some made)) right unended = inl refl

module _ (s : Setting) (old new : OpenCallsView) (actions : List Action) (stream : ℕ) (a : Action) (is : stream_of a ≡ stream) (h : AreOpen s old actions) (others : AreSameElsewhere stream old new)
    (right : IsAction s (standing s actions stream) a) (here : Stands s (call_on new stream) (after s (standing s actions stream) a).state) where
  stands_by : (id : ℕ) (b : Bool) → (stream_of a == id) ≡ b → Stands s (call_on new id) (if b then after s (standing s actions id) a else standing s actions id).state
  stands_by id true e = subst (λ (n : ℕ). Stands s (call_on new n) (after s (standing s actions n) a).state) (sym is ∙ eqb-true (stream_of a) id e) here
  stands_by id false e =
      subst (λ (x : Option OpenCall). Stands s x (standing s actions id).state) (sym (others id (subst (λ (n : ℕ). (n == id) ≡ false) is e))) (h.stands id)

  unended_by : (id : ℕ) (b : Bool) → (stream_of a == id) ≡ b → IsUnended (if b then after s (standing s actions id) a else standing s actions id)
  unended_by id true e = subst (λ (n : ℕ). IsUnended (after s (standing s actions n) a)) (sym is ∙ eqb-true (stream_of a) id e) (unended_after s (standing s actions stream) a right (h.unended stream))
  unended_by id false e = h.unended id

  opens_more : AreOpen s new (a ∷ actions)
  unfolding standing AreActions
  opens_more = record {
    stands = λ id. stands_by id (stream_of a == id) refl;
    unended = λ id. unended_by id (stream_of a == id) refl;
    each = (subst (λ (n : ℕ). IsAction s (standing s actions n) a) (sym is) right, h.each);
  }

  standing_more : standing s (a ∷ actions) stream ≡ after s (standing s actions stream) a
  unfolding standing
  standing_more = ap (λ (b : Bool). if b then after s (standing s actions stream) a else standing s actions stream) (eq-eqb (stream_of a) stream is)

follows_by : (s : Setting) (old new : OpenCallsView) (actions : List Action) (stream : ℕ) (action : Option ℕ → Action) (items : CallState → List (Item CallEnd)) → AreOpen s old actions → AreSameElsewhere stream old new
    → ((cut : Option ℕ) → stream_of (action cut) ≡ stream) → Takes s (standing s actions stream) (call_on new stream) action (items (standing s actions stream).state) → FollowsBy s new actions stream action items
follows_by s old new actions stream action items h others is k = record {
  cut = k.cut;
  open_now = opens_more s old new actions stream (action k.cut) (is k.cut) h others k.right k.stands;
  items_are = ap (λ (x : Standing). x.items) (standing_more s old new actions stream (action k.cut) (is k.cut) h others k.right k.stands) ∙ k.items_are;
}

pub actions_follow : (s : Setting) → ActionsFollow s
actions_follow s old new actions stream action items h takes others is = follows_by s old new actions stream action items h others is (takes (standing s actions stream) (h.stands stream) (h.unended stream))

pub begins_follow : (s : Setting) → BeginsFollow s
begins_follow s old new actions stream action items h at takes others is = follows_by s old new actions stream action items h others is (takes (standing s actions stream) at (h.unended stream))

-- ---- a call that was Spent

spent_by : (s : Setting) (actions : List Action) (stream : ℕ) (handled others : List (Call Method CallEnd)) (did : List Event) → StopsIn s (standing s actions stream) stream handled did → IsRunning actions
    → IsSpent s actions (handled ++ others) did
spent_by s actions stream handled others did h running = inl (
  running,
  h.action,
  h.next,
  h.behind,
  others,
  h.events_are,
  subst (λ (n : ℕ). IsAction s (standing s actions n) h.action) (sym h.stream_is) h.right,
  ap (λ (l : List (Call Method CallEnd)). l ++ others) (sym h.calls_are),
)

pub spent_follows : (s : Setting) → SpentFollows s
spent_follows s calls actions stream handled others did h stops running = spent_by s actions stream handled others did (stops (standing s actions stream) (h.stands stream) (h.unended stream)) running

pub spent_begins_follow : (s : Setting) → SpentBeginsFollow s
spent_begins_follow s calls actions stream handled others did h at stops running = spent_by s actions stream handled others did (stops (standing s actions stream) at (h.unended stream)) running
