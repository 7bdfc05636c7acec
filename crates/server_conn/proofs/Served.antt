-- All is served.
use Rattle.std.proofs.lemmas.Bool.Decides.{nat_tests}
use Rattle.std.proofs.Common.{◌≡◌, ◌==◌, ℕ, Bool, true, false, arith, length, List, [], ◌∷◌, Option, Some, None, inl, inr, refl, sym, ap, ◌∙◌}
use Rattle.rig_io.specs.Link.{Piece}
use Rattle.grpc_stream.specs.CallTrace.{CallTrace}
use Rattle.table_model.specs.Event.{Event}
use Rattle.call_answers.specs.declared.orders.Setting.{Setting}
use Rattle.call_orders.specs.Calls.{Action, CallState, Modifies, Receives, Responds, standing, waiting_in}
use Rattle.session_engine.specs.declared.open_calls.OpenCall.{OpenCall}
use Rattle.session_engine.specs.declared.open_calls.OpenCall.TheVariants as opened
use Rattle.session_engine.specs.Queries.{OpenCallsView, call_on, is_responding, session_in}
use Rattle.session_engine.specs.Stands.{Stands}
use Rattle.server_turns.specs.declared.outcome.Outcome.TheVariants as over
use Rattle.server_turns.specs.Serving.{EndsWhole, is_going, is_open_call}
use Rattle.server_account.specs.Agreeing.{IsSettled, account_of}
use Rattle.session_engine.specs.Queries.{is_asking}
use Rattle.server_conn.specs.Standing.{MayEnd, Works, past_of}
use Rattle.server_conn.specs.Turns.{AreAnsweredIfIdle}
use Rattle.server_conn.proofs.MayEnd.{served_may_end, unbroken}

pub false_true : {A : Type 0} → false ≡ true → A
false_true e = absurd (refuted e)
  where
    refuted : false ≡ true → ⊥
    refuted f = cc

pub true_false : {A : Type 0} → true ≡ false → A
true_false e = false_true (sym e)

pub empty_is : (xs ys : List ℕ) (b : Bool) → b ≡ true → b ≡ (length xs == 0) → xs ≡ ys → ys ≡ []
empty_is [] ys b e f g = sym g
empty_is (x ∷ xs) ys b e f g = absurd (grind (arith, nat_tests))

-- ---- a call of the engine, and where it stands

pub none_goes : (s : Setting) (call : Option OpenCall) (state : CallState) → call ≡ None → Stands s call state → is_going state ≡ false
none_goes s None state e (inl at) = ap is_going at
none_goes s None state e (inr at) = ap is_going at
none_goes s (Some call) state e h = absurd (some_none call e)
  where
    some_none : (call : OpenCall) → Some call ≡ None → ⊥
    some_none call f = cc

pub none_open : (s : Setting) (call : Option OpenCall) (state : CallState) → is_asking call ≡ false → Stands s call state → is_open_call state ≡ false
none_open s None state e (inl at) = ap is_open_call at
none_open s None state e (inr at) = ap is_open_call at
none_open s (Some (opened.Modifies session true)) state e at = ap is_open_call at
none_open s (Some (opened.Modifies session false)) state e at = true_false e
none_open s (Some (opened.Receives method first is_more)) state e at = true_false e
none_open s (Some (opened.Responds rows)) state e at = ap is_open_call at

pub none_waits : (s : Setting) (call : Option OpenCall) (state : CallState) → is_responding call ≡ false → Stands s call state → waiting_in state ≡ []
none_waits s None state e (inl at) = ap waiting_in at
none_waits s None state e (inr at) = ap waiting_in at
none_waits s (Some (opened.Modifies session is_finished)) state e at = ap waiting_in at
none_waits s (Some (opened.Receives method first is_more)) state e at = ap waiting_in at
none_waits s (Some (opened.Responds rows)) state e at = true_false e

-- a call that asks no more, is given no responses and has no session whose client has ended its side is over
pub is_none : (call : Option OpenCall) → is_asking call ≡ false → is_responding call ≡ false →
    ((session : ℕ) → session_in call ≡ Some (session, true) → ⊥) → call ≡ None
is_none None e f h = refl
is_none (Some (opened.Modifies session true)) e f h = absurd (h session refl)
is_none (Some (opened.Modifies session false)) e f h = true_false e
is_none (Some (opened.Receives method first is_more)) e f h = true_false e
is_none (Some (opened.Responds rows)) e f h = true_false f

module _ {K : Type 0} (uses : K → CallTrace → Type 0) (output : K → List ℕ) (s : Setting) (calls : K) (open_calls : OpenCallsView) (refused : ℕ)
    (t : CallTrace) (actions : List Action) (pieces : List Piece) (own : List Event) (rest : List ℕ) (is_ended : Bool) where
  pub served_by : is_ended ≡ true → ((id : ℕ) → call_on open_calls id ≡ None) → output calls ≡ [] →
      Works uses output s calls open_calls refused t actions pieces own → IsSettled t rest →
      (is_ended ≡ true → EndsWhole s (past_of pieces own true) (account_of t (output calls) rest actions)) →
      (is_ended ≡ true → AreAnsweredIfIdle s open_calls (past_of pieces own true) (account_of t (output calls) rest actions)) →
      MayEnd s t (output calls) open_calls refused (past_of pieces own is_ended) over.Served
  served_by ended idle empty works settled whole answered =
      served_may_end uses output s calls open_calls refused t actions pieces own works rest settled is_ended (
        unbroken uses output s calls open_calls refused t actions pieces own works rest settled is_ended,
        ended,
        whole ended,
        (λ id. none_goes s (call_on open_calls id) (standing s actions id).state (idle id) (works.agrees.handled.open_now.stands id)),
        empty,
        answered ended idle,
      )
