-- What a connection comes to where the engine handles what a client did on a call, and what the engine has for the call is given.
use Rattle.std.proofs.Common.{◌≡◌, ℕ, Bool, true, false, List, [], ◌∷◌, ◌++◌, Option, Some, None, IsSome, refl, sym, subst, ◌∙◌}
use Rattle.rig_io.specs.Link.{Piece}
use Rattle.grpc_heads.specs.CallEnd.{CallEnd}
use Rattle.grpc_heads.specs.declared.head.Method.{Method}
use Rattle.h2_exchange.specs.Calls.{Call, Begun, is_in_place, stream_in}
use Rattle.grpc_stream.specs.declared.event.CallEvent.{CallEvent}
use Rattle.grpc_stream.specs.CallTrace.{CallTrace}
use Rattle.table_lock.specs.Passes.{IsPassOf, IsSound, LockView, PassView}
use Rattle.rib_core.specs.Recorded.{IsLawful}
use Rattle.table_model.specs.declared.command.Command.{Command}
use Rattle.table_model.specs.declared.command.Config.{Config}
use Rattle.table_model.specs.declared.reply.Reply.{Reply}
use Rattle.table_model.specs.Event.{Event}
use Rattle.call_answers.specs.declared.orders.Setting.{Setting}
use Rattle.call_orders.specs.Calls.{Action, CallState, Handles, standing}
use Rattle.call_orders.specs.Actions.{calls_in}
use Rattle.session_engine.specs.declared.open_calls.OpenCall.{OpenCall}
use Rattle.session_engine.specs.declared.step.Step.{Step}
use Rattle.session_engine.specs.Laws.{FollowsBy}
use Rattle.session_engine.specs.Queries.{OpenCallsView, call_on}
use Rattle.session_engine.specs.Stands.{AreSameElsewhere, DoesAction, HandlesCall, IsNotBegun, IsSpentIn, Stands, TakesFrom, items_in}
use Rattle.session_engine.proofs.Follows.{actions_follow, begins_follow, spent_begins_follow, spent_follows}
use Rattle.server_turns.specs.Making.{MadeLast, Makes}
use Rattle.server_account.specs.Agreeing.{none_left}
use Rattle.server_account.proofs.Begins.{begins}
use Rattle.server_conn.specs.declared.conn.Cause.{Cause}
use Rattle.server_conn.specs.declared.conn.Cause.TheVariants.{Spent}
use Rattle.server_conn.specs.Standing.{EndsBy, Works, is_spent_by, past_of}
use Rattle.server_conn.specs.Steps.{GoesTo, Hears, Owes, StopsBy}
use Rattle.server_conn.proofs.ClientCalls.{GoesOnWith, call_owes, call_stops, with_stream}
use Rattle.server_conn.proofs.Handed.{grows_beside}
use Rattle.server_conn.proofs.Passing.{makes_pass, makes_sound}

-- ---- what the engine did, of which its step is still to be given

pub record IsDone {K : Type 0} (uses : K → CallTrace → Type 0) (output : K → List ℕ) (s : Setting) (config : Config) (p q : PassView Command Reply Config)
    (calls : K) (open_calls : OpenCallsView) (refused stream : ℕ) (step : Step) (t : CallTrace) (pieces : List Piece) (own : List Event) : Type 0 where
  pub did : List Event
  pub made : Makes config false p q did
  pub actions : List Action
  pub owes : Owes uses output s calls open_calls refused stream step t actions pieces (own ++ did)

module _ {K : Type 0} (uses : K → CallTrace → Type 0) (output : K → List ℕ) (s : Setting) (config : Config) (p q : PassView Command Reply Config)
    (calls : K) (old : OpenCallsView) (refused stream : ℕ) (event : CallEvent) (t : CallTrace) (actions : List Action) (pieces : List Piece) (own : List Event)
    (h : Hears uses output s calls old refused event t actions pieces own) (call : Call Method CallEnd) (is : h.next.client_call ≡ call)
    (goes : GoesOnWith stream call) where
  goes_on : GoesOnWith stream h.next.client_call
  goes_on = subst (GoesOnWith stream) (sym is) goes

  -- it is done to the call that was told
  done : (new : OpenCallsView) (step : Step) (from : CallState → Type 0) → MadeLast p own →
      ((did : List Event) → TakesFrom s from (call_on new stream) (Handles h.next.client_call did) (λ _. items_in step) → AreSameElsewhere stream old new →
      FollowsBy s new h.next.earlier stream (Handles h.next.client_call did) (λ _. items_in step)) →
      DoesAction IsLawful config s old new p q stream from (Handles h.next.client_call) step →
      IsDone uses output s config p q calls new refused stream step t pieces own
  done new step from last follows k =
      (let f = follows k.did k.takes k.others in record {
        did = k.did;
        made = k.entries;
        actions = Handles h.next.client_call k.did f.cut ∷ h.next.earlier;
        owes = call_owes uses output s config p q calls old refused stream event t actions pieces own h goes_on new step k.did last k.entries f k.halted;
      })

  on : stream_in h.next.client_call ≡ stream
  on = with_stream stream h.next.client_call goes_on

  -- a call that had begun
  pub done_for : (new : OpenCallsView) (step : Step) → MadeLast p own → HandlesCall IsLawful config s old new p q stream call step →
      IsDone uses output s config p q calls new refused stream step t pieces own
  done_for new step last k =
      done new step (Stands s (call_on old stream)) last
      (λ did takes others. actions_follow s old new h.next.earlier stream (Handles h.next.client_call did) (λ _. items_in step) h.next.handled.open_now takes
      others (λ cut. on))
      (subst (λ (x : Call Method CallEnd). HandlesCall IsLawful config s old new p q stream x step) (sym is) k)

  -- the same, where a call under the lock was Spent
  pub spent_for : (new : OpenCallsView) (is_ended : Bool) → IsSpentIn IsLawful config s p q stream (Stands s (call_on old stream)) (call ∷ []) →
      StopsBy uses output s config p q calls new refused t pieces own is_ended Spent
  spent_for new is_ended spent = call_stops uses output s config p q calls old refused stream event t actions pieces own h goes_on is_ended k.did k.spent
      (λ others. spent_follows s old h.next.earlier stream (h.next.client_call ∷ []) others k.did h.next.handled.open_now k.stops h.next.handled.running) new
    where
      k : IsSpentIn IsLawful config s p q stream (Stands s (call_on old stream)) (h.next.client_call ∷ [])
      k = subst (λ (x : Call Method CallEnd). IsSpentIn IsLawful config s p q stream (Stands s (call_on old stream)) (x ∷ [])) (sym is) spent

  -- a call that begins
  module _ (method : Method) (begin : call ≡ Begun stream method) where
    unheard : (call_on old stream ≡ None) × IsNotBegun (standing s h.next.earlier stream).state
    unheard = begins s h.next.before old h.next.earlier own none_left stream method h.next.handled
        (subst (λ (x : Call Method CallEnd). is_in_place (calls_in h.next.earlier) x ≡ true) (is ∙ begin) h.next.place)

    pub unopened : call_on old stream ≡ None
    unopened = unheard.0

    pub done_first : (new : OpenCallsView) (step : Step) → MadeLast p own →
        DoesAction IsLawful config s old new p q stream IsNotBegun (Handles (Begun stream method)) step →
        IsDone uses output s config p q calls new refused stream step t pieces own
    done_first new step last k =
        done new step IsNotBegun last
        (λ did takes others. begins_follow s old new h.next.earlier stream (Handles h.next.client_call did) (λ _. items_in step) h.next.handled.open_now
        unheard.1 takes others (λ cut. on))
        (subst (λ (x : Call Method CallEnd). DoesAction IsLawful config s old new p q stream IsNotBegun (Handles x) step) (sym (is ∙ begin)) k)

    pub spent_first : (new : OpenCallsView) (is_ended : Bool) → IsSpentIn IsLawful config s p q stream IsNotBegun (Begun stream method ∷ []) →
        StopsBy uses output s config p q calls new refused t pieces own is_ended Spent
    spent_first new is_ended spent = call_stops uses output s config p q calls old refused stream event t actions pieces own h goes_on is_ended k.did k.spent
        (λ others. spent_begins_follow s old h.next.earlier stream (h.next.client_call ∷ []) others k.did h.next.handled.open_now unheard.1 k.stops
        h.next.handled.running) new
      where
        k : IsSpentIn IsLawful config s p q stream IsNotBegun (h.next.client_call ∷ [])
        k = subst (λ (x : Call Method CallEnd). IsSpentIn IsLawful config s p q stream IsNotBegun (x ∷ [])) (sym (is ∙ begin)) spent

-- ---- what the engine has for it is given

module _ {K : Type 0} (uses : K → CallTrace → Type 0) (output : K → List ℕ) (s : Setting) (config : Config) (p q : PassView Command Reply Config)
    (calls later : K) (open_calls open_now : OpenCallsView) (refused refused_now stream : ℕ) (step : Step) (t : CallTrace) (pieces : List Piece)
    (own : List Event) (d : IsDone uses output s config p q calls open_calls refused stream step t pieces own) where
  pub given : (u : CallTrace) → u.connection_trace ≡ t.connection_trace →
      Works uses output s later open_now refused_now u d.actions pieces (own ++ d.did) →
      GoesTo uses output s config p q later open_now refused_now t pieces own
  given u same works = record {
    trace = u;
    grows = grows_beside t u same;
    actions = d.actions;
    did = d.did;
    made = d.made;
    works = works;
  }

  pub not_given : (is_ended : Bool) (cause : Cause) → is_spent_by cause ≡ false →
      EndsBy s t (output later) open_now refused_now (past_of pieces (own ++ d.did) is_ended) cause →
      StopsBy uses output s config p q later open_now refused_now t pieces own is_ended cause
  not_given is_ended cause unspent ends = record {
    did = d.did;
    made = subst (λ (b : Bool). Makes config b p q d.did) (sym unspent) d.made;
    ends = ends;
  }

-- ---- the pass

-- A call that was open already makes no entry.
pub begin_pass : (lock : LockView Config) (p q : PassView Command Reply Config) (spent : Bool) (was : Option OpenCall) → IsPassOf lock p →
    IsSound IsLawful lock.setup p → (was ≡ None → (did : List Event) × Makes lock.setup spent p q did) → (IsSome was → q ≡ p) →
    IsPassOf lock q × IsSound IsLawful lock.setup q
begin_pass lock p q spent None of_lock sound made still =
    (let k = made refl in (makes_pass lock.setup p q k.0 lock spent of_lock k.1, makes_sound lock.setup p q k.0 spent k.1))
begin_pass lock p q spent (Some call) of_lock sound made still = subst (λ (x : PassView Command Reply Config).
    IsPassOf lock x × IsSound IsLawful lock.setup x) (sym (still refl)) (of_lock, sound)
