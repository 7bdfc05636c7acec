-- A Get and a Flush whose client ends its side.
use Rattle.std.specs.Prelude.{Result, Ok, Err, IfOk, IfErr}
use Rattle.std.proofs.Common.{◌≡◌, ℕ, Bool, true, false, ◌||◌, if◌then◌else◌, map, length, List, [], ◌∷◌, ◌++◌, Option, Some, None, refl, sym, ap, ◌∙◌, subst, append-nil, arith, inl, inr}
use Rattle.std.specs.List.{flat_map, list_any}
use Rattle.std.specs.Option.{option_map}
use Rattle.aft_entries.specs.declared.operation.Row.{Row}
use Rattle.grpc_heads.specs.GrpcStatus.{GrpcStatus}
use Rattle.grpc_heads.specs.CallEnd.{CallEnd}
use Rattle.grpc_heads.specs.declared.head.Method.{Method}
use Rattle.h2_exchange.specs.Calls.{Finished}
use Rattle.h2_exchange.specs.StreamParts.{Item, Message}
use Rattle.table_lock.specs.declared.machine.Entry.{Entry}
use Rattle.table_lock.specs.Passes.{PassView, IsCalled, IsSound}
use Rattle.table_lock.proofs.Extends.{extended_call, extended_none}
use Rattle.table_model.specs.declared.command.Command.{Command}
use Rattle.table_model.specs.declared.command.Command.TheVariants as command
use Rattle.table_model.specs.declared.reply.Reply.{Reply}
use Rattle.table_model.specs.declared.reply.Reply.TheVariants as reply
use Rattle.table_model.specs.Event.{Event}
use Rattle.call_answers.specs.declared.orders.Setting.{Setting}
use Rattle.call_orders.specs.Owed.{end_items, has_end, items_for, want_of_memory}
use Rattle.call_orders.specs.Calls.{CallState, Receives, Over, Standing, Handles, after, asked_by, command_of, cut_by, handled, next_state, owing, refusal_of, selected_by_reply, selected_state, without_leaves}
use Rattle.call_orders.specs.Actions.{AreDone, AreDoneOrCut, IsHandled, Leaves, session_in, timeless}
use Rattle.call_orders.specs.Orders.{is_stopped, is_stopped_by}
use Rattle.call_orders.proofs.Idle.{idle_session, next_idle, options_none}
use Rattle.session_engine.specs.declared.open_calls.OpenCall.{OpenCall}
use Rattle.session_engine.specs.declared.open_calls.OpenCall.TheVariants as opened
use Rattle.session_engine.specs.declared.singles.SingleEnd.{SingleEnd}
use Rattle.session_engine.specs.declared.singles.SingleEnd.TheVariants as single
use Rattle.session_engine.specs.declared.step.Step.{Step}
use Rattle.session_engine.specs.Queries.{OpenCallsView, call_on, finishing, received_by}
use Rattle.session_engine.specs.Singles.{AddsOrNone, DoesSingle, EndsSingle, IsReceiving, SingleGoes, flush_moment, is_single_command, single_entry, single_items}
use Rattle.session_engine.specs.Stands.{AreSameElsewhere, DoesAction, HandlesCall, IsSpentBehind, IsSpentIn, MakesEntries, Stands, StopsIn, Takes, items_in}
use Rattle.session_engine.specs.Steps.{rows_selected}
use Rattle.session_engine.proofs.CommandRuns.{can_be_done, or_false, timeless_twice}
use Rattle.session_engine.proofs.Taking.{lacking_items}
use Rattle.session_engine.proofs.Opening.{at_state, done_any, same_state, kept_items, longer, over_either, takes_at, unended_at}

-- ---- one command

pub items_single : (s : Setting) (c : Command) (said : Reply) → is_single_command c ≡ true → items_for s (single_entry c said) ≡ single_items s (flush_moment c) said
items_single s (command.Select which kinds) said e = refl
items_single s (command.Flush by which now) (reply.Flushed remains) e = refl
items_single s (command.Flush by which now) said e = refl
items_single s c said e = absurd (cc e)

plain_single : (c : Command) (said : Reply) → is_single_command c ≡ true → without_leaves (single_entry c said ∷ []) ≡ single_entry c said ∷ []
plain_single (command.Select which kinds) said e = refl
plain_single (command.Flush by which now) said e = refl
plain_single c said e = absurd (cc e)

no_rows : (s : Setting) (said : Reply) → rows_selected said ≡ None → selected_by_reply s said ≡ Over
no_rows s (reply.Selected rows) e = absurd (cc e)
no_rows s said e = refl

rows_is : (said : Reply) (rows : List Row) → rows_selected said ≡ Some rows → said ≡ reply.Selected rows
rows_is (reply.Selected rs) rows e = (let f : rs ≡ rows = cc e in ap reply.Selected f)
rows_is said rows e = absurd (cc e)

pub owes_none : (s : Setting) (c : Command) (rows : List Row) → is_single_command c ≡ true → items_for s (single_entry c (reply.Selected rows)) ≡ []
owes_none s (command.Select which kinds) rows e = refl
owes_none s (command.Flush by which now) rows e = refl
owes_none s c rows e = absurd (cc e)

-- ---- a call that receives

module _ (s : Setting) (id : ℕ) (method : Method) (first : Option (List ℕ)) (is_more : Bool) (its : List (Item CallEnd)) where
  abbrev receiving_with : Standing
  receiving_with = at_state (Receives method first is_more) its

  abbrev finish_items : List Event → List (Item CallEnd)
  finish_items done = flat_map (items_for s) done ++ end_items (refusal_of (asked_by s method first is_more))

  finish_handled : (done : List Event) → handled s receiving_with (Finished id) done ≡ owing receiving_with (selected_state s done) (finish_items done)
  finish_handled done = by first
    where
      by : (o : Option (List ℕ)) → handled s (at_state (Receives method o is_more) its) (Finished id) done
          ≡ owing (at_state (Receives method o is_more) its) (selected_state s done) (flat_map (items_for s) done ++ end_items (refusal_of (asked_by s method o is_more)))
      by None = refl
      by (Some m) = refl

  finish_right : (did : List Event) (cut : Option ℕ) → without_leaves did ≡ did
      → AreDoneOrCut s cut receiving_with (Finished id) (command_of (asked_by s method first is_more)) (without_leaves did) (handled s receiving_with (Finished id) (without_leaves did)).items
      → IsHandled s receiving_with (Finished id) did cut
  finish_right did cut plain made = record {
    last = [];
    did_is = sym (append-nil (without_leaves did) ∙ plain);
    made = made;
    leaves = subst (λ (o : Option ℕ). Leaves o (after s receiving_with (Handles (Finished id) did cut)).state [])
        (sym (options_none (session_in (Receives method first is_more)) (session_in (next_state s (Receives method first is_more) (Finished id) (without_leaves did))) refl
        (idle_session _ (next_idle s (Receives method first is_more) (Finished id) (without_leaves did) tt))))
        refl;
  }

  finish_after : (did : List Event) (cut : Option ℕ) → without_leaves did ≡ did → after s receiving_with (Handles (Finished id) did cut) ≡ cut_by cut (owing receiving_with (selected_state s did) (finish_items did))
  finish_after did cut plain = ap (λ (l : List Event). cut_by cut (handled s receiving_with (Finished id) l)) plain ∙ ap (cut_by cut) (finish_handled did)

  -- it is refused
  finish_refused : (status : GrpcStatus) → asked_by s method first is_more ≡ Err status → Takes s receiving_with None (Handles (Finished id) []) (end_items (Some status))
  finish_refused status e = record {
    cut = None;
    right = finish_right [] None refl (subst (λ (r : Result Command GrpcStatus). AreDone s (command_of r) []) (sym e) refl);
    stands = inr (ap (λ (x : Standing). x.state) (finish_after [] None refl) ∙ over_either (has_end (finish_items [])) Over refl);
    items_are = ap (λ (x : Standing). x.items) (finish_after [] None refl) ∙ ap (λ (r : Result Command GrpcStatus). its ++ end_items (refusal_of r)) e;
  }

  -- there was no memory to read it
  finish_cut_before : has_end its ≡ false → Takes s receiving_with None (Handles (Finished id) []) (end_items (Some want_of_memory))
  finish_cut_before none = record {
    cut = Some (length its);
    right = finish_right [] (Some (length its)) refl
        (refl, can_be_done s (command_of (asked_by s method first is_more)), (omega arith, longer its _, ap has_end (kept_items its _) ∙ none));
    stands = inr refl;
    items_are = ap (λ (l : List (Item CallEnd)). l ++ end_items (Some want_of_memory)) (kept_items its _);
  }

  module _ (c : Command) (said : Reply) (one : is_single_command c ≡ true) (asks : asked_by s method first is_more ≡ Ok (timeless c)) where
    abbrev entries_done : List Event
    entries_done = single_entry c said ∷ []

    done_once : AreDone s (command_of (asked_by s method first is_more)) (without_leaves entries_done)
    done_once =
        subst (λ (l : List Event). AreDone s (command_of (asked_by s method first is_more)) l) (sym (plain_single c said one))
        (subst (λ (r : Result Command GrpcStatus). AreDone s (command_of r) entries_done) (sym asks) (timeless_twice c, done_any s _))

    items_once : finish_items entries_done ≡ items_for s (single_entry c said)
    items_once = ap (λ (r : Result Command GrpcStatus). flat_map (items_for s) entries_done ++ end_items (refusal_of r)) asks ∙ (append-nil _ ∙ append-nil _)

    -- it is over by its reply
    finish_over : rows_selected said ≡ None → Takes s receiving_with None (Handles (Finished id) entries_done) (items_for s (single_entry c said))
    finish_over none = record {
      cut = None;
      right = finish_right entries_done None (plain_single c said one) done_once;
      stands = inr (ap (λ (x : Standing). x.state) (finish_after entries_done None (plain_single c said one)) ∙ over_either (has_end (finish_items entries_done)) _ (no_rows s said none));
      items_are = ap (λ (x : Standing). x.items) (finish_after entries_done None (plain_single c said one)) ∙ ap (λ (l : List (Item CallEnd)). its ++ l) items_once;
    }

    -- there was no memory for what its reply brings
    finish_cut_behind : has_end its ≡ false → Takes s receiving_with None (Handles (Finished id) entries_done) (end_items (Some want_of_memory))
    finish_cut_behind none = record {
      cut = Some (length its);
      right = finish_right entries_done (Some (length its)) (plain_single c said one)
          (refl, ([], subst (λ (l : List Event). AreDone s (command_of (asked_by s method first is_more)) l) (sym (append-nil _)) done_once), (omega arith, longer its _, ap has_end (kept_items its _) ∙ none));
      stands = inr refl;
      items_are = ap (λ (l : List (Item CallEnd)). l ++ end_items (Some want_of_memory)) (kept_items its _);
    }

    -- rows were selected
    finish_selected : (rows : List Row) → rows_selected said ≡ Some rows → Takes s receiving_with (Some (opened.Responds rows)) (Handles (Finished id) entries_done) []
    finish_selected rows is =
        let none : finish_items entries_done ≡ [] = items_once ∙ (ap (λ (r : Reply). items_for s (single_entry c r)) (rows_is said rows is) ∙ owes_none s c rows one) in
        record {
          cut = None;
          right = finish_right entries_done None (plain_single c said one) done_once;
          stands = ap (λ (x : Standing). x.state) (finish_after entries_done None (plain_single c said one))
              ∙ (ap (λ (l : List (Item CallEnd)). if has_end l then Over else selected_by_reply s said) none ∙ ap (selected_by_reply s) (rows_is said rows is));
          items_are = ap (λ (x : Standing). x.items) (finish_after entries_done None (plain_single c said one)) ∙ ap (λ (l : List (Item CallEnd)). its ++ l) none;
        }

-- ---- under the lock

module _ {G : Type 0} (lawful : G → List (Entry Command Reply) → Type 0) (setup : G) where
  abbrev pub Finishes : Setting → OpenCallsView → OpenCallsView → PassView Command Reply G → PassView Command Reply G → ℕ → Method → Option (List ℕ) → Bool → Step → Type 0
  Finishes s old new p q stream method first is_more step = DoesAction lawful setup s old new p q stream (IsReceiving method first is_more) (Handles (Finished stream)) step

  pub finishes_refused : (s : Setting) (p : PassView Command Reply G) (calls : OpenCallsView) (stream : ℕ) (method : Method) (first : Option (List ℕ)) (is_more : Bool) (status : GrpcStatus) (step : Step)
      → IsSound lawful setup p → call_on calls stream ≡ None → asked_by s method first is_more ≡ Err status → items_in step ≡ end_items (Some status) → step.halted ≡ false
      → Finishes s calls calls p p stream method first is_more step
  finishes_refused s p calls stream method first is_more status step sound off asks got quiet = record {
    did = [];
    entries = extended_none lawful setup p sound;
    takes = λ st from unended. takes_at s st (Receives method first is_more) (call_on calls stream) _ _ from
        (subst (λ (x : Option OpenCall). Takes s (at_state (Receives method first is_more) st.items) x (Handles (Finished stream) []) (items_in step)) (sym off)
        (subst (λ (l : List (Item CallEnd)). Takes s (at_state (Receives method first is_more) st.items) None (Handles (Finished stream) []) l) (sym got)
        (finish_refused s stream method first is_more st.items status asks)));
    others = λ id apart. refl;
    halted = quiet;
  }

  pub finishes_unread : (s : Setting) (p : PassView Command Reply G) (calls : OpenCallsView) (stream : ℕ) (method : Method) (first : Option (List ℕ)) (is_more : Bool) (step : Step)
      → IsSound lawful setup p → call_on calls stream ≡ None → items_in step ≡ end_items (Some want_of_memory) → step.halted ≡ false
      → Finishes s calls calls p p stream method first is_more step
  finishes_unread s p calls stream method first is_more step sound off got quiet = record {
    did = [];
    entries = extended_none lawful setup p sound;
    takes = λ st from unended. takes_at s st (Receives method first is_more) (call_on calls stream) _ _ from
        (subst (λ (x : Option OpenCall). Takes s (at_state (Receives method first is_more) st.items) x (Handles (Finished stream) []) (items_in step)) (sym off)
        (subst (λ (l : List (Item CallEnd)). Takes s (at_state (Receives method first is_more) st.items) None (Handles (Finished stream) []) l) (sym got)
        (finish_cut_before s stream method first is_more st.items (unended_at st (Receives method first is_more) from (λ e. cc e) unended))));
    others = λ id apart. refl;
    halted = quiet;
  }

  -- the halted of a step with one entry
  halted_once : (c : Command) (said : Reply) (b : Bool) → is_single_command c ≡ true → b ≡ is_stopped_by said → b ≡ list_any is_stopped (without_leaves (single_entry c said ∷ []))
  halted_once c said b one e = e ∙ (sym (or_false (is_stopped_by said)) ∙ ap (list_any is_stopped) (sym (plain_single c said one)))

  pub finishes_over : (s : Setting) (p q : PassView Command Reply G) (calls : OpenCallsView) (stream : ℕ) (method : Method) (first : Option (List ℕ)) (is_more : Bool) (c : Command) (said : Reply) (step : Step)
      → call_on calls stream ≡ None → is_single_command c ≡ true → asked_by s method first is_more ≡ Ok (timeless c) → MakesEntries lawful setup p q (single_entry c said ∷ []) → rows_selected said ≡ None
      → items_in step ≡ items_for s (single_entry c said) → step.halted ≡ is_stopped_by said → Finishes s calls calls p q stream method first is_more step
  finishes_over s p q calls stream method first is_more c said step off one asks entries none got halted = record {
    did = single_entry c said ∷ [];
    entries = entries;
    takes = λ st from unended. takes_at s st (Receives method first is_more) (call_on calls stream) _ _ from
        (subst (λ (x : Option OpenCall). Takes s (at_state (Receives method first is_more) st.items) x (Handles (Finished stream) (single_entry c said ∷ [])) (items_in step)) (sym off)
        (subst (λ (l : List (Item CallEnd)). Takes s (at_state (Receives method first is_more) st.items) None (Handles (Finished stream) (single_entry c said ∷ [])) l) (sym got)
        (finish_over s stream method first is_more st.items c said one asks none)));
    others = λ id apart. refl;
    halted = halted_once c said step.halted one halted;
  }

  pub finishes_cut : (s : Setting) (p q : PassView Command Reply G) (old new : OpenCallsView) (stream : ℕ) (method : Method) (first : Option (List ℕ)) (is_more : Bool) (c : Command) (said : Reply) (step : Step)
      → call_on new stream ≡ None → AreSameElsewhere stream old new → is_single_command c ≡ true → asked_by s method first is_more ≡ Ok (timeless c) → MakesEntries lawful setup p q (single_entry c said ∷ [])
      → items_in step ≡ end_items (Some want_of_memory) → step.halted ≡ is_stopped_by said → Finishes s old new p q stream method first is_more step
  finishes_cut s p q old new stream method first is_more c said step off others one asks entries got halted = record {
    did = single_entry c said ∷ [];
    entries = entries;
    takes = λ st from unended. takes_at s st (Receives method first is_more) (call_on new stream) _ _ from
        (subst (λ (x : Option OpenCall). Takes s (at_state (Receives method first is_more) st.items) x (Handles (Finished stream) (single_entry c said ∷ [])) (items_in step)) (sym off)
        (subst (λ (l : List (Item CallEnd)). Takes s (at_state (Receives method first is_more) st.items) None (Handles (Finished stream) (single_entry c said ∷ [])) l) (sym got)
        (finish_cut_behind s stream method first is_more st.items c said one asks (unended_at st (Receives method first is_more) from (λ e. cc e) unended))));
    others = others;
    halted = halted_once c said step.halted one halted;
  }

  pub finishes_selected : (s : Setting) (p q : PassView Command Reply G) (old new : OpenCallsView) (stream : ℕ) (method : Method) (first : Option (List ℕ)) (is_more : Bool) (c : Command) (said : Reply) (rows : List Row) (step : Step)
      → call_on new stream ≡ Some (opened.Responds rows) → AreSameElsewhere stream old new → is_single_command c ≡ true → asked_by s method first is_more ≡ Ok (timeless c) → MakesEntries lawful setup p q (single_entry c said ∷ [])
      → rows_selected said ≡ Some rows → items_in step ≡ [] → step.halted ≡ is_stopped_by said → Finishes s old new p q stream method first is_more step
  finishes_selected s p q old new stream method first is_more c said rows step on others one asks entries is got halted = record {
    did = single_entry c said ∷ [];
    entries = entries;
    takes = λ st from unended. takes_at s st (Receives method first is_more) (call_on new stream) _ _ from
        (subst (λ (x : Option OpenCall). Takes s (at_state (Receives method first is_more) st.items) x (Handles (Finished stream) (single_entry c said ∷ [])) (items_in step)) (sym on)
        (subst (λ (l : List (Item CallEnd)). Takes s (at_state (Receives method first is_more) st.items) (Some (opened.Responds rows)) (Handles (Finished stream) (single_entry c said ∷ [])) l) (sym got)
        (finish_selected s stream method first is_more st.items c said one asks rows is)));
    others = others;
    halted = halted_once c said step.halted one halted;
  }

  pub finish_spent : (s : Setting) (p q : PassView Command Reply G) (stream : ℕ) (method : Method) (first : Option (List ℕ)) (is_more : Bool) (c : Command)
      → is_single_command c ≡ true → asked_by s method first is_more ≡ Ok (timeless c) → IsSpentBehind lawful setup p q [] → IsSpentIn lawful setup s p q stream (IsReceiving method first is_more) (Finished stream ∷ [])
  finish_spent s p q stream method first is_more c one asks spent = record {
    did = [];
    spent = spent;
    stops = λ st from unended. subst (λ (x : Standing). StopsIn s x stream (Finished stream ∷ []) []) (same_state st (Receives method first is_more) from)
        (record {
          action = Handles (Finished stream) (single_entry c reply.Stopped ∷ []) (finish_over s stream method first is_more st.items c reply.Stopped one asks refl).cut;
          next = single_entry c reply.Stopped;
          behind = [];
          events_are = refl;
          calls_are = refl;
          stream_is = refl;
          right = (finish_over s stream method first is_more st.items c reply.Stopped one asks refl).right;
        });
  }

abbrev receives_for : Option (Method × Option (List ℕ) × Bool) → CallState
receives_for None = Over
receives_for (Some asked) = Receives asked.0 asked.1 asked.2

-- ---- what a command of a Get or a Flush brings its step

no_front : {A : Type 0} (xs ys : List A) → xs ++ ys ≡ [] → xs ≡ []
no_front [] ys e = refl
no_front (x ∷ xs) ys e = absurd (cc e)

-- a step without messages gets the end for want of memory
pub ended_step : (b : Step) → map {B = Item CallEnd} Message b.answers ≡ [] → items_in (record b { end = Some want_of_memory }) ≡ end_items (Some want_of_memory)
ended_step b e = ap (λ (l : List (Item CallEnd)). l ++ end_items (Some want_of_memory)) e

module _ {G : Type 0} (lawful : G → List (Entry Command Reply) → Type 0) (setup : G) where
  pub asked_over : (s : Setting) (p q : PassView Command Reply G) (calls : OpenCallsView) (stream : ℕ) (method : Method) (first : Option (List ℕ)) (is_more : Bool) (c : Command) (a b : Step)
      → call_on calls stream ≡ None → is_single_command c ≡ true → asked_by s method first is_more ≡ Ok (timeless c) → items_in a ≡ [] → a.halted ≡ false
      → SingleGoes lawful setup s p q c single.Over a b → Finishes lawful setup s calls calls p q stream method first is_more b
  asked_over s p q calls stream method first is_more c a b off one asks none quiet h = by h.1 h.2
    where
      by : (told : Bool) → DoesSingle lawful setup s p q c h.0 told single.Over a b → Finishes lawful setup s calls calls p q stream method first is_more b
      by true d = finishes_over lawful setup s p q calls stream method first is_more c h.0 b off one asks d.entries d.ends
          (d.items ∙ ap (λ (l : List (Item CallEnd)). l ++ items_for s (single_entry c h.0)) none) (d.halted ∙ ap (λ (x : Bool). x || is_stopped_by h.0) quiet)
      by false d = absurd (cc d.ends)

  pub asked_cut : (s : Setting) (p q : PassView Command Reply G) (calls : OpenCallsView) (stream : ℕ) (method : Method) (first : Option (List ℕ)) (is_more : Bool) (c : Command) (a b : Step)
      → call_on calls stream ≡ None → is_single_command c ≡ true → asked_by s method first is_more ≡ Ok (timeless c) → items_in a ≡ [] → a.halted ≡ false
      → SingleGoes lawful setup s p q c single.OutOfMemory a b → Finishes lawful setup s calls calls p q stream method first is_more (record b { end = Some want_of_memory })
  asked_cut s p q calls stream method first is_more c a b off one asks none quiet h = by h.1 h.2
    where
      by : (told : Bool) → DoesSingle lawful setup s p q c h.0 told single.OutOfMemory a b → Finishes lawful setup s calls calls p q stream method first is_more (record b { end = Some want_of_memory })
      by true d = absurd d.ends
      by false d = finishes_cut lawful setup s p q calls calls stream method first is_more c h.0 (record b { end = Some want_of_memory }) off (λ id apart. refl) one asks d.entries
          (ended_step b (lacking_items b d.items.0 ∙ (d.items.1 ∙ none))) (d.halted ∙ ap (λ (x : Bool). x || is_stopped_by h.0) quiet)

  abbrev selected_none : Setting → PassView Command Reply G → PassView Command Reply G → Command → List Row → Step → Step → Type 0
  selected_none s p q c rows a b = (said : Reply) × MakesEntries lawful setup p q (single_entry c said ∷ []) × (rows_selected said ≡ Some rows) × (items_in b ≡ []) × (b.halted ≡ is_stopped_by said)

  selected_step : (s : Setting) (p q : PassView Command Reply G) (c : Command) (rows : List Row) (a b : Step) → is_single_command c ≡ true → items_in a ≡ [] → a.halted ≡ false
      → SingleGoes lawful setup s p q c (single.Selects rows) a b → selected_none s p q c rows a b
  selected_step s p q c rows a b one none quiet h = by h.1 h.2
    where
      by : (told : Bool) → DoesSingle lawful setup s p q c h.0 told (single.Selects rows) a b → selected_none s p q c rows a b
      by true d = (
        h.0,
        d.entries,
        d.ends,
        d.items ∙ (ap (λ (l : List (Item CallEnd)). l ++ items_for s (single_entry c h.0)) none ∙ (ap (λ (r : Reply). items_for s (single_entry c r)) (rows_is h.0 rows d.ends) ∙ owes_none s c rows one)),
        d.halted ∙ ap (λ (x : Bool). x || is_stopped_by h.0) quiet,
      )
      by false d = absurd (cc d.ends)

  pub asked_selects : (s : Setting) (p q : PassView Command Reply G) (old new : OpenCallsView) (stream : ℕ) (method : Method) (first : Option (List ℕ)) (is_more : Bool) (c : Command) (rows : List Row) (a b : Step)
      → call_on new stream ≡ Some (opened.Responds rows) → AreSameElsewhere stream old new → is_single_command c ≡ true → asked_by s method first is_more ≡ Ok (timeless c) → items_in a ≡ [] → a.halted ≡ false
      → SingleGoes lawful setup s p q c (single.Selects rows) a b → Finishes lawful setup s old new p q stream method first is_more b
  asked_selects s p q old new stream method first is_more c rows a b on others one asks none quiet h =
      let k = selected_step s p q c rows a b one none quiet h in
      finishes_selected lawful setup s p q old new stream method first is_more c k.0 rows b on others one asks k.1 k.2 k.3 k.4

  -- there was no memory to keep the rows
  pub asked_loses : (s : Setting) (p q : PassView Command Reply G) (old new : OpenCallsView) (stream : ℕ) (method : Method) (first : Option (List ℕ)) (is_more : Bool) (c : Command) (rows : List Row) (a b : Step)
      → call_on old stream ≡ None → new ≡ old → is_single_command c ≡ true → asked_by s method first is_more ≡ Ok (timeless c) → items_in a ≡ [] → a.halted ≡ false
      → SingleGoes lawful setup s p q c (single.Selects rows) a b → Finishes lawful setup s old new p q stream method first is_more (record b { end = Some want_of_memory })
  asked_loses s p q old new stream method first is_more c rows a b off same one asks none quiet h =
      let k = selected_step s p q c rows a b one none quiet h in
      finishes_cut lawful setup s p q old new stream method first is_more c k.0 (record b { end = Some want_of_memory }) (ap (λ (l : OpenCallsView). call_on l stream) same ∙ off)
      (λ id apart. ap (λ (l : OpenCallsView). call_on l id) same) one asks k.1 (ended_step b (no_front (map Message b.answers) (end_items b.end) k.3)) k.4

  receives_from : (s : Setting) (t : Option OpenCall) (method : Method) (first : Option (List ℕ)) (is_more : Bool) (state : CallState) → Some (method, first, is_more) ≡ received_by t → Stands s t state → state ≡ Receives method first is_more
  receives_from s None method first is_more state e h = absurd (cc e)
  receives_from s (Some (opened.Modifies n b)) method first is_more state e h = absurd (cc e)
  receives_from s (Some (opened.Receives m f b)) method first is_more state e h = h ∙ ap receives_for (sym e)
  receives_from s (Some (opened.Responds rows)) method first is_more state e h = absurd (cc e)

  -- ---- the call that was taken out, as it stood

  pub finishes_taken : (s : Setting) (p q : PassView Command Reply G) (old mid new : OpenCallsView) (stream : ℕ) (method : Method) (first : Option (List ℕ)) (is_more : Bool) (step : Step)
      → Some (method, first, is_more) ≡ received_by (call_on old stream) → AreSameElsewhere stream old mid → Finishes lawful setup s mid new p q stream method first is_more step
      → HandlesCall lawful setup s old new p q stream (Finished stream) step
  finishes_taken s p q old mid new stream method first is_more step is others h = record {
    did = h.did;
    entries = h.entries;
    takes = λ st from unended. h.takes st (receives_from s (call_on old stream) method first is_more st.state is from) unended;
    others = λ id apart. h.others id apart ∙ others id apart;
    halted = h.halted;
  }

  pub taken_spent : (s : Setting) (p q : PassView Command Reply G) (old : OpenCallsView) (stream : ℕ) (method : Method) (first : Option (List ℕ)) (is_more : Bool)
      → Some (method, first, is_more) ≡ received_by (call_on old stream) → IsSpentIn lawful setup s p q stream (IsReceiving method first is_more) (Finished stream ∷ [])
      → IsSpentIn lawful setup s p q stream (Stands s (call_on old stream)) (Finished stream ∷ [])
  taken_spent s p q old stream method first is_more is h = record {
    did = h.did;
    spent = h.spent;
    stops = λ st from unended. h.stops st (receives_from s (call_on old stream) method first is_more st.state is from) unended;
  }

-- ---- a call that waits for nothing

finish_other : (s : Setting) (t : Option OpenCall) (stream : ℕ) (state : CallState) (its : List (Item CallEnd)) → received_by t ≡ None → Stands s t state → Takes s (at_state state its) (option_map finishing t) (Handles (Finished stream) []) []
finish_other s None stream state its e (inl h) = subst (λ (x : CallState). Takes s (at_state x its) None (Handles (Finished stream) []) []) (sym h)
    (record { cut = None; right = record { last = []; did_is = refl; made = refl; leaves = refl }; stands = inl refl; items_are = refl })
finish_other s None stream state its e (inr h) = subst (λ (x : CallState). Takes s (at_state x its) None (Handles (Finished stream) []) []) (sym h)
    (record { cut = None; right = record { last = []; did_is = refl; made = refl; leaves = refl }; stands = inr refl; items_are = refl })
finish_other s (Some (opened.Modifies n false)) stream state its e h = subst (λ (x : CallState). Takes s (at_state x its) (Some (opened.Modifies n true)) (Handles (Finished stream) []) []) (sym h)
    (record { cut = None; right = record { last = []; did_is = refl; made = refl; leaves = refl }; stands = refl; items_are = refl })
finish_other s (Some (opened.Modifies n true)) stream state its e h = subst (λ (x : CallState). Takes s (at_state x its) (Some (opened.Modifies n true)) (Handles (Finished stream) []) []) (sym h)
    (record { cut = None; right = record { last = []; did_is = refl; made = refl; leaves = refl }; stands = refl; items_are = refl })
finish_other s (Some (opened.Receives method first is_more)) stream state its e h = absurd (cc e)
finish_other s (Some (opened.Responds rows)) stream state its e h = subst (λ (x : CallState). Takes s (at_state x its) (Some (opened.Responds rows)) (Handles (Finished stream) []) []) (sym h)
    (record { cut = None; right = record { last = []; did_is = refl; made = refl; leaves = refl }; stands = refl; items_are = refl })

module _ {G : Type 0} (lawful : G → List (Entry Command Reply) → Type 0) (setup : G) where
  pub finish_kept : (s : Setting) (p : PassView Command Reply G) (old mid new : OpenCallsView) (stream : ℕ) (step : Step) → IsSound lawful setup p → None ≡ received_by (call_on old stream) → mid ≡ old
      → call_on new stream ≡ option_map finishing (call_on mid stream) → AreSameElsewhere stream mid new → items_in step ≡ [] → step.halted ≡ false → HandlesCall lawful setup s old new p p stream (Finished stream) step
  finish_kept s p old mid new stream step sound off same on others none quiet = record {
    did = [];
    entries = extended_none lawful setup p sound;
    takes = λ st from unended.
        subst (λ (l : List (Item CallEnd)). Takes s st (call_on new stream) (Handles (Finished stream) []) l) (sym none)
        (subst (λ (x : Option OpenCall). Takes s st x (Handles (Finished stream) []) []) (sym (on ∙ ap (λ (l : OpenCallsView). option_map finishing (call_on l stream)) same))
        (finish_other s (call_on old stream) stream st.state st.items (sym off) from));
    others = λ id apart. others id apart ∙ ap (λ (l : OpenCallsView). call_on l id) same;
    halted = quiet;
  }

module _ {G : Type 0} (lawful : G → List (Entry Command Reply) → Type 0) (setup : G) where
  -- the command of a Get or a Flush was called
  pub single_done : (s : Setting) (p q : PassView Command Reply G) (c : Command) (end : SingleEnd) (said : Reply) (told : Bool) (a b : Step) → is_single_command c ≡ true → IsCalled lawful setup p q c said
      → AddsOrNone told (single_items s (flush_moment c) said) a b → b.halted ≡ (a.halted || is_stopped_by said) → EndsSingle said told end → SingleGoes lawful setup s p q c end a b
  single_done s p q c end said told a b one called adds halted ends = by end ends
    where
      does : (e : SingleEnd) → EndsSingle said told e → DoesSingle lawful setup s p q c said told e a b
      does e h = record {
        entries = extended_call lawful setup p q c said called;
        items = subst (λ (l : List (Item CallEnd)). AddsOrNone told l a b) (sym (items_single s c said one)) adds;
        ends = h;
        halted = halted;
      }

      never : (t : Bool) → EndsSingle said t single.Spent → ⊥
      never true h = h
      never false h = cc h

      by : (e : SingleEnd) → EndsSingle said told e → SingleGoes lawful setup s p q c e a b
      by (single.Selects rows) h = (said, told, does (single.Selects rows) h)
      by single.Over h = (said, told, does single.Over h)
      by single.OutOfMemory h = (said, told, does single.OutOfMemory h)
      by single.Spent h = absurd (never told h)

  -- over an answer of either kind
  pub finishes_taken_ok : (s : Setting) (p q : PassView Command Reply G) (old mid new : OpenCallsView) (stream : ℕ) (method : Method) (first : Option (List ℕ)) (is_more : Bool) {E : Type 0} (r : Result Step E)
      → Some (method, first, is_more) ≡ received_by (call_on old stream) → AreSameElsewhere stream old mid → IfOk r (λ step. Finishes lawful setup s mid new p q stream method first is_more step)
      → IfOk r (λ step. HandlesCall lawful setup s old new p q stream (Finished stream) step)
  finishes_taken_ok s p q old mid new stream method first is_more (Ok step) is others h = finishes_taken lawful setup s p q old mid new stream method first is_more step is others h
  finishes_taken_ok s p q old mid new stream method first is_more (Err e) is others h = tt

  pub taken_spent_err : (s : Setting) (p q : PassView Command Reply G) (old : OpenCallsView) (stream : ℕ) (method : Method) (first : Option (List ℕ)) (is_more : Bool) {E : Type 0} (r : Result Step E)
      → Some (method, first, is_more) ≡ received_by (call_on old stream) → IfErr r (λ x. IsSpentIn lawful setup s p q stream (IsReceiving method first is_more) (Finished stream ∷ []))
      → IfErr r (λ x. IsSpentIn lawful setup s p q stream (Stands s (call_on old stream)) (Finished stream ∷ []))
  taken_spent_err s p q old stream method first is_more (Ok step) is h = tt
  taken_spent_err s p q old stream method first is_more (Err e) is h = taken_spent lawful setup s p q old stream method first is_more is h
