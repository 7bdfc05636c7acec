-- A call that begins, a message that is kept, and a call that is dropped.
use Rattle.std.proofs.Common.{◌≡◌, ℕ, ◌≤◌, Bool, true, false, ◌||◌, if◌then◌else◌, map, take, length, List, [], ◌∷◌, ◌++◌, Option, Some, None, refl, sym, ap, ◌∙◌, subst, append-nil, arith, length-append, inl, inr}
use Rattle.std.specs.List.{list_any}
use Rattle.std.specs.Option.{option_map}
use Rattle.std.proofs.lemmas.List.{take_at}
use Rattle.grpc_heads.specs.GrpcStatus.{GrpcStatus}
use Rattle.grpc_heads.specs.CallEnd.{CallEnd}
use Rattle.grpc_heads.specs.declared.head.Method.{Method}
use Rattle.grpc_heads.specs.declared.head.Method.TheVariants.{Modify, Get, Flush}
use Rattle.h2_exchange.specs.Calls.{Call, Begun, Request, Dropped, Declined}
use Rattle.h2_exchange.specs.StreamParts.{Item, Message}
use Rattle.table_lock.specs.declared.machine.Entry.{Entry}
use Rattle.table_lock.specs.Passes.{PassView, IsSound}
use Rattle.table_lock.proofs.Extends.{extended_none}
use Rattle.table_model.specs.declared.command.Command.{Command}
use Rattle.table_model.specs.declared.command.Command.TheVariants as command
use Rattle.table_model.specs.declared.reply.Reply.{Reply}
use Rattle.table_model.specs.declared.reply.Reply.TheVariants as reply
use Rattle.table_model.specs.Event.{Event}
use Rattle.call_answers.specs.Ends.{status_by}
use Rattle.call_answers.specs.declared.orders.Setting.{Setting}
use Rattle.call_orders.specs.Owed.{end_items, has_end, want_of_memory}
use Rattle.call_orders.specs.Calls.{CallState, NotBegun, Modifies, Over, Standing, Action, Handles, begun_by_reply, refusal_for, stream_of, without_leaves}
use Rattle.call_orders.specs.Actions.{AreDone, AreDoneUnless, Leaves, leave, session_in}
use Rattle.call_orders.specs.Laws.{is_single}
use Rattle.call_orders.specs.Orders.{is_stopped, is_stopped_by}
use Rattle.session_engine.specs.declared.open_calls.OpenCall.{OpenCall}
use Rattle.session_engine.specs.declared.open_calls.OpenCall.TheVariants as opened
use Rattle.session_engine.specs.declared.step.Step.{Step}
use Rattle.session_engine.specs.Queries.{OpenCallsView, call_on, open_session, receiving, session_in as session_of_call}
use Rattle.session_engine.specs.Stands.{AreSameElsewhere, DoesAction, DropsCall, HandlesCall, IsDropOf, dropped_is, declined_is, IsNotBegun, IsSpentBehind, IsSpentIn, IsUnended, MakesEntries, Opens, Stands, StopsIn, Takes, items_in}
use Rattle.session_engine.specs.Steps.{BeginsSession, begin_entry, session_begun}
use Rattle.session_engine.proofs.CommandRuns.{can_be_done, or_false}

abbrev pub at_state : CallState → List (Item CallEnd) → Standing
at_state state its = record { state = state; items = its }

pub same_state : (st : Standing) (state : CallState) → st.state ≡ state → at_state state st.items ≡ st
same_state st state at = ap (λ (x : CallState). at_state x st.items) (sym at)

-- what an action makes of a call in this state, whatever it was owed before
pub takes_at : (s : Setting) (st : Standing) (state : CallState) (to : Option OpenCall) (action : Option ℕ → Action) (items : List (Item CallEnd)) → st.state ≡ state
    → Takes s (at_state state st.items) to action items → Takes s st to action items
takes_at s st state to action items at h = subst (λ (x : Standing). Takes s x to action items) (same_state st state at) h

pub unended_at : (st : Standing) (state : CallState) → st.state ≡ state → (state ≡ Over → ⊥) → IsUnended st → has_end st.items ≡ false
unended_at st state at alive (inl over) = absurd (alive (sym at ∙ over))
unended_at st state at alive (inr e) = e

pub kept_items : (its more : List (Item CallEnd)) → take (length its) (its ++ more) ≡ its
kept_items its more = take_at its more (length its) refl

pub longer : (its more : List (Item CallEnd)) → length its ≤ length (its ++ more)
longer its more = omega (arith, length-append its more)

-- the calls as the engine has them
pub elsewhere_view : (stream : ℕ) (inside old new : OpenCallsView) → inside ≡ old → AreSameElsewhere stream inside new → AreSameElsewhere stream old new
elsewhere_view stream inside old new e h = subst (λ (l : OpenCallsView). AreSameElsewhere stream l new) e h

-- ---- a call that begins

pub done_any : (s : Setting) (b : Bool) → AreDoneUnless b [] (AreDone s [] [])
done_any s true = refl
done_any s false = refl

state_none : (said : Reply) → session_begun said ≡ None → begun_by_reply said ≡ Over
state_none (reply.Began session) e = absurd (cc e)
state_none said e = refl

reply_some : (said : Reply) (session : ℕ) → session_begun said ≡ Some session → said ≡ reply.Began session
reply_some (reply.Began n) session e = (let f : n ≡ session = cc e in ap reply.Began f)
reply_some said session e = absurd (cc e)

pub over_either : (b : Bool) (state : CallState) → state ≡ Over → (if b then Over else state) ≡ Over
over_either true state e = refl
over_either false state e = e

no_session : (state other : CallState) → state ≡ Over → Leaves (session_in state) other []
no_session state other e = subst (λ (x : CallState). Leaves (session_in x) other []) (sym e) refl

-- memory was wanting before the Begin
begin_cut_before : (s : Setting) (id : ℕ) (its : List (Item CallEnd)) → has_end its ≡ false → Takes s (at_state NotBegun its) None (Handles (Begun id Modify) []) (end_items (Some want_of_memory))
begin_cut_before s id its none = record {
  cut = Some (length its);
  right = record {
    last = [];
    did_is = refl;
    made = (refl, can_be_done s (command.Begin ∷ []), (omega arith, longer its [], ap has_end (kept_items its []) ∙ none));
    leaves = refl;
  };
  stands = inr refl;
  items_are = ap (λ (l : List (Item CallEnd)). l ++ end_items (Some want_of_memory)) (kept_items its []);
}

-- no session was begun, and the reply ends the call
begin_ended : (s : Setting) (id : ℕ) (its : List (Item CallEnd)) (said : Reply) → session_begun said ≡ None → Takes s (at_state NotBegun its) None (Handles (Begun id Modify) (begin_entry said ∷ [])) (end_items (status_by false said))
begin_ended s id its said e = record {
  cut = None;
  right = record { last = []; did_is = refl; made = (refl, done_any s _); leaves = no_session (begun_by_reply said) _ (state_none said e) };
  stands = inr (over_either _ (begun_by_reply said) (state_none said e));
  items_are = ap (λ (l : List (Item CallEnd)). its ++ l) (append-nil _ ∙ append-nil _);
}

-- or there was no memory for that end
begin_cut_behind : (s : Setting) (id : ℕ) (its : List (Item CallEnd)) (said : Reply) → has_end its ≡ false → session_begun said ≡ None → Takes s (at_state NotBegun its) None (Handles (Begun id Modify) (begin_entry said ∷ [])) (end_items (Some want_of_memory))
begin_cut_behind s id its said none e = record {
  cut = Some (length its);
  right = record {
    last = [];
    did_is = refl;
    made = (refl, ([], (refl, done_any s _)), (omega arith, longer its _, ap has_end (kept_items its _) ∙ none));
    leaves = no_session (begun_by_reply said) _ (state_none said e);
  };
  stands = inr refl;
  items_are = ap (λ (l : List (Item CallEnd)). l ++ end_items (Some want_of_memory)) (kept_items its _);
}

-- a session was begun
begin_goes : (s : Setting) (id session : ℕ) (its : List (Item CallEnd)) → Takes s (at_state NotBegun its) (Some (opened.Modifies session false)) (Handles (Begun id Modify) (begin_entry (reply.Began session) ∷ [])) []
begin_goes s id session its = record {
  cut = None;
  right = record { last = []; did_is = refl; made = (refl, refl); leaves = refl };
  stands = refl;
  items_are = refl;
}

pub empty_end : (step : Step) (end : Option GrpcStatus) → step.answers ≡ [] → step.end ≡ end → items_in step ≡ end_items end
empty_end step end none e = ap (λ (l : List (List ℕ)). map Message l ++ end_items step.end) none ∙ ap end_items e

module _ {G : Type 0} (lawful : G → List (Entry Command Reply) → Type 0) (setup : G) where
  -- there was no memory for the call
  pub begun_without : (s : Setting) (p : PassView Command Reply G) (old new : OpenCallsView) (stream : ℕ) (step : Step) → IsSound lawful setup p → call_on old stream ≡ None → new ≡ old
      → items_in step ≡ end_items (Some want_of_memory) → step.halted ≡ false → DoesAction lawful setup s old new p p stream IsNotBegun (Handles (Begun stream Modify)) step
  begun_without s p old new stream step sound off same got quiet = record {
    did = [];
    entries = extended_none lawful setup p sound;
    takes = λ st from unended. takes_at s st NotBegun (call_on new stream) _ _ from
        (subst (λ (l : List (Item CallEnd)). Takes s (at_state NotBegun st.items) (call_on new stream) (Handles (Begun stream Modify) []) l) (sym got)
        (subst (λ (x : Option OpenCall). Takes s (at_state NotBegun st.items) x (Handles (Begun stream Modify) []) (end_items (Some want_of_memory))) (sym (ap (λ (f : OpenCallsView). call_on f stream) same ∙ off))
        (begin_cut_before s stream st.items (unended_at st NotBegun from (λ e. cc e) unended))));
    others = λ id apart. ap (λ (f : OpenCallsView). call_on f id) same;
    halted = quiet;
  }

  -- no session was begun
  pub begun_ended : (s : Setting) (p q : PassView Command Reply G) (old mid new : OpenCallsView) (stream : ℕ) (a step : Step) → AreSameElsewhere stream old mid → call_on new stream ≡ None → AreSameElsewhere stream mid new
      → a.answers ≡ [] → a.halted ≡ false → BeginsSession lawful setup p q None a step → DoesAction lawful setup s old new p q stream IsNotBegun (Handles (Begun stream Modify)) step
  begun_ended s p q old mid new stream a step first off second none quiet began =
      let said : Reply = began.0 in
      record {
        did = begin_entry said ∷ [];
        entries = began.1;
        takes = λ st from unended. takes_at s st NotBegun (call_on new stream) _ _ from
            (subst (λ (x : Option OpenCall). Takes s (at_state NotBegun st.items) x (Handles (Begun stream Modify) (begin_entry said ∷ [])) (items_in step)) (sym off)
            (elim began.2.2 [
              | inl e ↦ subst (λ (l : List (Item CallEnd)). Takes s (at_state NotBegun st.items) None (Handles (Begun stream Modify) (begin_entry said ∷ [])) l)
                  (sym (empty_end step (status_by false said) (began.2.1 ∙ none) e)) (begin_ended s stream st.items said began.3)
              | inr e ↦ subst (λ (l : List (Item CallEnd)). Takes s (at_state NotBegun st.items) None (Handles (Begun stream Modify) (begin_entry said ∷ [])) l)
                  (sym (empty_end step (Some want_of_memory) (began.2.1 ∙ none) e)) (begin_cut_behind s stream st.items said (unended_at st NotBegun from (λ f. cc f) unended) began.3)
            ]));
        others = λ id apart. second id apart ∙ first id apart;
        halted = began.2.0 ∙ (ap (λ (b : Bool). b || is_stopped_by said) quiet ∙ sym (or_false (is_stopped_by said)));
      }

  -- a session was begun
  pub begun_goes : (s : Setting) (p q : PassView Command Reply G) (old mid new : OpenCallsView) (stream session : ℕ) (a step : Step) → AreSameElsewhere stream old mid → call_on new stream ≡ Some (opened.Modifies session false)
      → AreSameElsewhere stream mid new → items_in a ≡ [] → a.halted ≡ false → BeginsSession lawful setup p q (Some session) a step → DoesAction lawful setup s old new p q stream IsNotBegun (Handles (Begun stream Modify)) step
  begun_goes s p q old mid new stream session a step first on second none quiet began =
      let said : Reply = began.0 in
      let is : said ≡ reply.Began session = reply_some said session began.3 in
      record {
        did = begin_entry said ∷ [];
        entries = began.1;
        takes = λ st from unended. takes_at s st NotBegun (call_on new stream) _ _ from
            (subst (λ (x : Option OpenCall). Takes s (at_state NotBegun st.items) x (Handles (Begun stream Modify) (begin_entry said ∷ [])) (items_in step)) (sym on)
            (subst (λ (l : List (Item CallEnd)). Takes s (at_state NotBegun st.items) (Some (opened.Modifies session false)) (Handles (Begun stream Modify) (begin_entry said ∷ [])) l) (sym (ap items_in began.2 ∙ none))
            (subst (λ (r : Reply). Takes s (at_state NotBegun st.items) (Some (opened.Modifies session false)) (Handles (Begun stream Modify) (begin_entry r ∷ [])) []) (sym is) (begin_goes s stream session st.items))));
        others = λ id apart. second id apart ∙ first id apart;
        halted = ap (λ (x : Step). x.halted) began.2 ∙ (quiet ∙ sym (ap (λ (r : Reply). list_any is_stopped (without_leaves (begin_entry r ∷ []))) is));
      }

  -- the call for the Begin was Spent
  pub begin_spent : (s : Setting) (p q : PassView Command Reply G) (stream : ℕ) → IsSpentBehind lawful setup p q [] → IsSpentIn lawful setup s p q stream IsNotBegun (Begun stream Modify ∷ [])
  begin_spent s p q stream spent = record {
    did = [];
    spent = spent;
    stops = λ st from unended. subst (λ (x : Standing). StopsIn s x stream (Begun stream Modify ∷ []) []) (same_state st NotBegun from)
        (record {
          action = Handles (Begun stream Modify) (begin_entry (reply.Began 0) ∷ []) (begin_goes s stream 0 st.items).cut;
          next = begin_entry (reply.Began 0);
          behind = [];
          events_are = refl;
          calls_are = refl;
          stream_is = refl;
          right = (begin_goes s stream 0 st.items).right;
        });
  }

-- ---- a Get or a Flush begins

single_goes : (s : Setting) (id : ℕ) (method : Method) (its : List (Item CallEnd)) → is_single method ≡ true → Takes s (at_state NotBegun its) (Some (opened.Receives method None false)) (Handles (Begun id method) []) []
single_goes s id Modify its e = absurd (cc e)
single_goes s id Get its e = record { cut = None; right = record { last = []; did_is = refl; made = refl; leaves = refl }; stands = refl; items_are = refl }
single_goes s id Flush its e = record { cut = None; right = record { last = []; did_is = refl; made = refl; leaves = refl }; stands = refl; items_are = refl }

single_cut : (s : Setting) (id : ℕ) (method : Method) (its : List (Item CallEnd)) → is_single method ≡ true → has_end its ≡ false → Takes s (at_state NotBegun its) None (Handles (Begun id method) []) (end_items (Some want_of_memory))
single_cut s id Modify its e none = absurd (cc e)
single_cut s id Get its e none = record {
  cut = Some (length its);
  right = record { last = []; did_is = refl; made = (refl, ([], refl), (omega arith, longer its [], ap has_end (kept_items its []) ∙ none)); leaves = refl };
  stands = inr refl;
  items_are = ap (λ (l : List (Item CallEnd)). l ++ end_items (Some want_of_memory)) (kept_items its []);
}
single_cut s id Flush its e none = record {
  cut = Some (length its);
  right = record { last = []; did_is = refl; made = (refl, ([], refl), (omega arith, longer its [], ap has_end (kept_items its []) ∙ none)); leaves = refl };
  stands = inr refl;
  items_are = ap (λ (l : List (Item CallEnd)). l ++ end_items (Some want_of_memory)) (kept_items its []);
}

pub opens : (s : Setting) (old new : OpenCallsView) (stream : ℕ) (method : Method) (step : Step) → is_single method ≡ true → call_on new stream ≡ Some (opened.Receives method None false) → AreSameElsewhere stream old new
    → items_in step ≡ [] → step.halted ≡ false → Opens s old new stream method step
opens s old new stream method step single on off none quiet = record {
  takes = λ st from unended. takes_at s st NotBegun (call_on new stream) _ _ from
      (subst (λ (x : Option OpenCall). Takes s (at_state NotBegun st.items) x (Handles (Begun stream method) []) (items_in step)) (sym on)
      (subst (λ (l : List (Item CallEnd)). Takes s (at_state NotBegun st.items) (Some (opened.Receives method None false)) (Handles (Begun stream method) []) l) (sym none) (single_goes s stream method st.items single)));
  others = off;
  quiet = quiet;
}

pub opens_without : (s : Setting) (old new : OpenCallsView) (stream : ℕ) (method : Method) (step : Step) → is_single method ≡ true → call_on old stream ≡ None → new ≡ old
    → items_in step ≡ end_items (Some want_of_memory) → step.halted ≡ false → Opens s old new stream method step
opens_without s old new stream method step single off same got quiet = record {
  takes = λ st from unended. takes_at s st NotBegun (call_on new stream) _ _ from
      (subst (λ (x : Option OpenCall). Takes s (at_state NotBegun st.items) x (Handles (Begun stream method) []) (items_in step)) (sym (ap (λ (f : OpenCallsView). call_on f stream) same ∙ off))
      (subst (λ (l : List (Item CallEnd)). Takes s (at_state NotBegun st.items) None (Handles (Begun stream method) []) l) (sym got)
      (single_cut s stream method st.items single (unended_at st NotBegun from (λ e. cc e) unended))));
  others = λ id apart. ap (λ (f : OpenCallsView). call_on f id) same;
  quiet = quiet;
}

-- ---- a message that orders nothing

request_other : (s : Setting) (t : Option OpenCall) (stream : ℕ) (m : List ℕ) (state : CallState) (its : List (Item CallEnd)) → open_session t ≡ None → Stands s t state
    → Takes s (at_state state its) (option_map (receiving m) t) (Handles (Request stream m) []) []
request_other s None stream m state its e (inl h) = subst (λ (x : CallState). Takes s (at_state x its) None (Handles (Request stream m) []) []) (sym h)
    (record { cut = None; right = record { last = []; did_is = refl; made = refl; leaves = refl }; stands = inl refl; items_are = refl })
request_other s None stream m state its e (inr h) = subst (λ (x : CallState). Takes s (at_state x its) None (Handles (Request stream m) []) []) (sym h)
    (record { cut = None; right = record { last = []; did_is = refl; made = refl; leaves = refl }; stands = inr refl; items_are = refl })
request_other s (Some (opened.Modifies n false)) stream m state its e h = absurd (cc e)
request_other s (Some (opened.Modifies n true)) stream m state its e h = subst (λ (x : CallState). Takes s (at_state x its) (Some (opened.Modifies n true)) (Handles (Request stream m) []) []) (sym h)
    (record { cut = None; right = record { last = []; did_is = refl; made = refl; leaves = refl }; stands = refl; items_are = refl })
request_other s (Some (opened.Receives method None is_more)) stream m state its e h = subst (λ (x : CallState). Takes s (at_state x its) (Some (opened.Receives method (Some m) false)) (Handles (Request stream m) []) []) (sym h)
    (record { cut = None; right = record { last = []; did_is = refl; made = refl; leaves = refl }; stands = refl; items_are = refl })
request_other s (Some (opened.Receives method (Some first) is_more)) stream m state its e h = subst (λ (x : CallState). Takes s (at_state x its) (Some (opened.Receives method (Some first) true)) (Handles (Request stream m) []) []) (sym h)
    (record { cut = None; right = record { last = []; did_is = refl; made = refl; leaves = refl }; stands = refl; items_are = refl })
request_other s (Some (opened.Responds rows)) stream m state its e h = subst (λ (x : CallState). Takes s (at_state x its) (Some (opened.Responds rows)) (Handles (Request stream m) []) []) (sym h)
    (record { cut = None; right = record { last = []; did_is = refl; made = refl; leaves = refl }; stands = refl; items_are = refl })

-- ---- a call that is dropped

drop_other : (s : Setting) (t : Option OpenCall) (id : ℕ) (call : Call Method CallEnd) (state : CallState) (its : List (Item CallEnd)) → IsDropOf id call → session_of_call t ≡ None → Stands s t state
    → Takes s (at_state state its) None (Handles call []) (refusal_for s state call)
drop_other s None id call state its dropped_is e (inl h) = subst (λ (x : CallState). Takes s (at_state x its) None (Handles (Dropped id) []) (refusal_for s x (Dropped id))) (sym h)
    (record { cut = None; right = record { last = []; did_is = refl; made = refl; leaves = refl }; stands = inr refl; items_are = refl })
drop_other s None id call state its (declined_is answer) e (inl h) = subst (λ (x : CallState). Takes s (at_state x its) None (Handles (Declined id answer) []) (refusal_for s x (Declined id answer))) (sym h)
    (record { cut = None; right = record { last = []; did_is = refl; made = refl; leaves = refl }; stands = inr refl; items_are = refl })
drop_other s None id call state its dropped_is e (inr h) = subst (λ (x : CallState). Takes s (at_state x its) None (Handles (Dropped id) []) (refusal_for s x (Dropped id))) (sym h)
    (record { cut = None; right = record { last = []; did_is = refl; made = refl; leaves = refl }; stands = inr refl; items_are = refl })
drop_other s None id call state its (declined_is answer) e (inr h) = subst (λ (x : CallState). Takes s (at_state x its) None (Handles (Declined id answer) []) (refusal_for s x (Declined id answer))) (sym h)
    (record { cut = None; right = record { last = []; did_is = refl; made = refl; leaves = refl }; stands = inr refl; items_are = refl })
drop_other s (Some (opened.Modifies n b)) id call state its d e h = absurd (cc e)
drop_other s (Some (opened.Receives method None is_more)) id call state its dropped_is e h = subst (λ (x : CallState). Takes s (at_state x its) None (Handles (Dropped id) []) (refusal_for s x (Dropped id))) (sym h)
    (record { cut = None; right = record { last = []; did_is = refl; made = refl; leaves = refl }; stands = inr refl; items_are = refl })
drop_other s (Some (opened.Receives method (Some first) is_more)) id call state its dropped_is e h = subst (λ (x : CallState). Takes s (at_state x its) None (Handles (Dropped id) []) (refusal_for s x (Dropped id))) (sym h)
    (record { cut = None; right = record { last = []; did_is = refl; made = refl; leaves = refl }; stands = inr refl; items_are = refl })
drop_other s (Some (opened.Receives method None is_more)) id call state its (declined_is answer) e h = subst (λ (x : CallState). Takes s (at_state x its) None (Handles (Declined id answer) []) (refusal_for s x (Declined id answer))) (sym h)
    (record { cut = None; right = record { last = []; did_is = refl; made = refl; leaves = refl }; stands = inr refl; items_are = refl })
drop_other s (Some (opened.Receives method (Some first) is_more)) id call state its (declined_is answer) e h = subst (λ (x : CallState). Takes s (at_state x its) None (Handles (Declined id answer) []) (refusal_for s x (Declined id answer))) (sym h)
    (record { cut = None; right = record { last = []; did_is = refl; made = refl; leaves = refl }; stands = inr refl; items_are = refl })
drop_other s (Some (opened.Responds rows)) id call state its dropped_is e h = subst (λ (x : CallState). Takes s (at_state x its) None (Handles (Dropped id) []) (refusal_for s x (Dropped id))) (sym h)
    (record { cut = None; right = record { last = []; did_is = refl; made = refl; leaves = refl }; stands = inr refl; items_are = refl })
drop_other s (Some (opened.Responds rows)) id call state its (declined_is answer) e h = subst (λ (x : CallState). Takes s (at_state x its) None (Handles (Declined id answer) []) (refusal_for s x (Declined id answer))) (sym h)
    (record { cut = None; right = record { last = []; did_is = refl; made = refl; leaves = refl }; stands = inr refl; items_are = refl })

-- a session leaves
drop_leaves : (s : Setting) (id session : ℕ) (fin : Bool) (call : Call Method CallEnd) (said : Reply) (its : List (Item CallEnd)) → IsDropOf id call
    → Takes s (at_state (Modifies session fin) its) None (Handles call (leave session said ∷ [])) (refusal_for s (Modifies session fin) call)
drop_leaves s id session true call said its dropped_is = record { cut = None; right = record { last = leave session said ∷ []; did_is = refl; made = refl; leaves = (said, refl) }; stands = inr refl; items_are = refl }
drop_leaves s id session true call said its (declined_is answer) = record { cut = None; right = record { last = leave session said ∷ []; did_is = refl; made = refl; leaves = (said, refl) }; stands = inr refl; items_are = refl }
drop_leaves s id session false call said its dropped_is = record { cut = None; right = record { last = leave session said ∷ []; did_is = refl; made = refl; leaves = (said, refl) }; stands = inr refl; items_are = refl }
drop_leaves s id session false call said its (declined_is answer) = record { cut = None; right = record { last = leave session said ∷ []; did_is = refl; made = refl; leaves = (said, refl) }; stands = inr refl; items_are = refl }

drop_stream : (id : ℕ) (call : Call Method CallEnd) (did : List Event) (cut : Option ℕ) → IsDropOf id call → stream_of (Handles call did cut) ≡ id
drop_stream id call did cut dropped_is = refl
drop_stream id call did cut (declined_is answer) = refl

module _ {G : Type 0} (lawful : G → List (Entry Command Reply) → Type 0) (setup : G) where
  pub request_kept : (s : Setting) (p : PassView Command Reply G) (old new : OpenCallsView) (stream : ℕ) (m : List ℕ) (step : Step) → IsSound lawful setup p → None ≡ open_session (call_on old stream)
      → call_on new stream ≡ option_map (receiving m) (call_on old stream) → AreSameElsewhere stream old new → items_in step ≡ [] → step.halted ≡ false → HandlesCall lawful setup s old new p p stream (Request stream m) step
  request_kept s p old new stream m step sound off on others none quiet = record {
    did = [];
    entries = extended_none lawful setup p sound;
    takes = λ st from unended.
        subst (λ (l : List (Item CallEnd)). Takes s st (call_on new stream) (Handles (Request stream m) []) l) (sym none)
        (subst (λ (x : Option OpenCall). Takes s st x (Handles (Request stream m) []) []) (sym on)
        (request_other s (call_on old stream) stream m st.state st.items (sym off) from));
    others = others;
    halted = quiet;
  }

  pub drops_without : (s : Setting) (p : PassView Command Reply G) (old new : OpenCallsView) (stream : ℕ) (call : Call Method CallEnd) → IsSound lawful setup p → IsDropOf stream call → None ≡ session_of_call (call_on old stream)
      → call_on new stream ≡ None → AreSameElsewhere stream old new → DropsCall lawful setup s old new p p stream call
  drops_without s p old new stream call sound d off over others = record {
    did = [];
    entries = extended_none lawful setup p sound;
    takes = λ st from unended. subst (λ (x : Option OpenCall). Takes s st x (Handles call []) (refusal_for s st.state call)) (sym over)
        (drop_other s (call_on old stream) stream call st.state st.items d (sym off) from);
    others = others;
  }

  pub drops_session : (s : Setting) (p q : PassView Command Reply G) (old new : OpenCallsView) (stream session : ℕ) (fin : Bool) (call : Call Method CallEnd) (said : Reply) → IsDropOf stream call
      → call_on old stream ≡ Some (opened.Modifies session fin) → MakesEntries lawful setup p q (leave session said ∷ []) → call_on new stream ≡ None → AreSameElsewhere stream old new → DropsCall lawful setup s old new p q stream call
  drops_session s p q old new stream session fin call said d was left_by over others = record {
    did = leave session said ∷ [];
    entries = left_by;
    takes = λ st from unended.
        (let at : st.state ≡ Modifies session fin = subst (λ (x : Option OpenCall). Stands s x st.state) was from in
        subst (λ (x : Option OpenCall). Takes s st x (Handles call (leave session said ∷ [])) (refusal_for s st.state call)) (sym over)
        (subst (λ (x : Standing). Takes s x None (Handles call (leave session said ∷ [])) (refusal_for s x.state call)) (same_state st (Modifies session fin) at)
        (drop_leaves s stream session fin call said st.items d)));
    others = others;
  }

  pub drop_spent : (s : Setting) (p q : PassView Command Reply G) (old : OpenCallsView) (stream session : ℕ) (fin : Bool) (call : Call Method CallEnd) → IsDropOf stream call
      → call_on old stream ≡ Some (opened.Modifies session fin) → IsSpentBehind lawful setup p q [] → IsSpentIn lawful setup s p q stream (Stands s (call_on old stream)) (call ∷ [])
  drop_spent s p q old stream session fin call d was spent = record {
    did = [];
    spent = spent;
    stops = λ st from unended.
        (let at : st.state ≡ Modifies session fin = subst (λ (x : Option OpenCall). Stands s x st.state) was from in
        subst (λ (x : Standing). StopsIn s x stream (call ∷ []) []) (same_state st (Modifies session fin) at)
        (let t = drop_leaves s stream session fin call reply.Left st.items d in
        record {
          action = Handles call (leave session reply.Left ∷ []) t.cut;
          next = leave session reply.Left;
          behind = [];
          events_are = refl;
          calls_are = refl;
          stream_is = drop_stream stream call (leave session reply.Left ∷ []) t.cut d;
          right = t.right;
        }));
  }

  -- a Get or a Flush that began makes no entry
  pub opening : (s : Setting) (p : PassView Command Reply G) (old new : OpenCallsView) (stream : ℕ) (method : Method) (step : Step) → IsSound lawful setup p → Opens s old new stream method step
      → DoesAction lawful setup s old new p p stream IsNotBegun (Handles (Begun stream method)) step
  opening s p old new stream method step sound h = record {
    did = [];
    entries = extended_none lawful setup p sound;
    takes = h.takes;
    others = h.others;
    halted = h.quiet;
  }
