-- A message and a Collect of a Modify call under the lock.
use Rattle.std.proofs.Common.{◌≡◌, ℕ, Bool, true, false, ◌||◌, List, [], ◌∷◌, ◌++◌, Option, Some, None, Result, Ok, Err, IfErr, refl, sym, ap, ◌∙◌, subst, append_assoc, append-nil, inl, inr}
use Rattle.std.specs.List.{flat_map, list_any}
use Rattle.grpc_heads.specs.CallEnd.{CallEnd}
use Rattle.h2_exchange.specs.Calls.{Request}
use Rattle.h2_exchange.specs.StreamParts.{Item}
use Rattle.table_lock.specs.declared.machine.Entry.{Entry}
use Rattle.table_lock.specs.Passes.{PassView, IsSound}
use Rattle.table_lock.proofs.Extends.{extended_none}
use Rattle.table_model.specs.declared.command.Command.{Command}
use Rattle.table_model.specs.declared.reply.Reply.{Reply}
use Rattle.table_model.specs.declared.reply.Reply.TheVariants as reply
use Rattle.table_model.specs.Event.{Event}
use Rattle.call_answers.specs.declared.orders.Setting.{Setting}
use Rattle.call_orders.specs.Owed.{has_end, is_leave, items_for, want_of_memory}
use Rattle.call_orders.specs.Calls.{CallState, Modifies, Standing, Handles, Collects, good_end, without_leaves}
use Rattle.call_orders.specs.Actions.{leave}
use Rattle.call_orders.specs.Orders.{is_stopped, is_stopped_by}
use Rattle.session_engine.specs.declared.open_calls.OpenCall.{OpenCall}
use Rattle.session_engine.specs.declared.open_calls.OpenCall.TheVariants as opened
use Rattle.session_engine.specs.declared.step.Step.{Step}
use Rattle.session_engine.specs.declared.step.Progress.{Progress}
use Rattle.session_engine.specs.declared.step.Progress.TheVariants.{GoesOn, Ended, OutOfMemory, Spent}
use Rattle.session_engine.specs.Queries.{OpenCallsView, call_on, open_session, session_in}
use Rattle.session_engine.specs.Stands.{AreSameElsewhere, CollectsFor, HandlesCall, IsSpentBehind, IsSpentIn, IsUnended, MakesEntries, Stands, StopsIn, items_in, leaves_by}
use Rattle.session_engine.specs.Steps.{ClosesCall, CollectsResults, DoesMessage, PassGoes, StopsClosing, asked_by_message, collect_entry, refused_by_message}
use Rattle.session_engine.proofs.CommandRuns.{entries_then, or_false}
use Rattle.session_engine.proofs.Taking.{CollectMakes, IsClosedStep, IsLast, RequestMakes, at_session, collect_makes, no_leaves, request_makes, settled_state, without_tail}

-- a Modify call that is owed no end
unended_modify : (st : Standing) (session : ℕ) (fin : Bool) → st.state ≡ Modifies session fin → IsUnended st → has_end st.items ≡ false
unended_modify st session fin at (inl over) = absurd (cc (sym at ∙ over))
unended_modify st session fin at (inr e) = e

stands_modify : (s : Setting) (o : Option OpenCall) (st : Standing) (session : ℕ) (fin : Bool) → o ≡ Some (opened.Modifies session fin) → Stands s o st.state → st.state ≡ Modifies session fin
stands_modify s o st session fin was h = subst (λ (x : Option OpenCall). Stands s x st.state) was h

same_standing : (st : Standing) (session : ℕ) (fin : Bool) → st.state ≡ Modifies session fin → at_session session fin st.items ≡ st
same_standing st session fin at = ap (λ (x : CallState). (let r : Standing = record { state = x; items = st.items } in r)) (sym at)

module _ {G : Type 0} (lawful : G → List (Entry Command Reply) → Type 0) (setup : G) where
  -- where the call stands behind the closing
  closed_stands : (s : Setting) (w : Progress) (stream session : ℕ) (fin : Bool) (q r : PassView Command Reply G) (old new : OpenCallsView) (b c : Step) (state : CallState)
      → call_on old stream ≡ Some (opened.Modifies session fin) → ClosesCall lawful setup w stream session q r old new b c → state ≡ settled_state w (Modifies session fin) → Stands s (call_on new stream) state
  closed_stands s GoesOn stream session fin q r old new b c state was h at = subst (λ (x : Option OpenCall). Stands s x state) (sym (ap (λ (f : OpenCallsView). call_on f stream) h.1 ∙ was)) at
  closed_stands s Ended stream session fin q r old new b c state was h at = subst (λ (x : Option OpenCall). Stands s x state) (sym h.0.over) (inr at)
  closed_stands s OutOfMemory stream session fin q r old new b c state was h at = subst (λ (x : Option OpenCall). Stands s x state) (sym h.0.over) (inr at)
  closed_stands s Spent stream session fin q r old new b c state was h at = absurd h

  closed_others : (w : Progress) (stream session : ℕ) (q r : PassView Command Reply G) (old new : OpenCallsView) (b c : Step) → ClosesCall lawful setup w stream session q r old new b c → AreSameElsewhere stream old new
  closed_others GoesOn stream session q r old new b c h = λ id off. ap (λ (f : OpenCallsView). call_on f id) h.1
  closed_others Ended stream session q r old new b c h = h.0.others
  closed_others OutOfMemory stream session q r old new b c h = h.0.others
  closed_others Spent stream session q r old new b c h = absurd h

  closing_last : (w : Progress) (stream session : ℕ) (q r : PassView Command Reply G) (old new : OpenCallsView) (b c : Step) → IsSound lawful setup q → ClosesCall lawful setup w stream session q r old new b c
      → (last : List Event) × MakesEntries lawful setup q r last × IsLast w session last × IsClosedStep w b c
  closing_last GoesOn stream session q r old new b c sound h = ([], subst (λ (x : PassView Command Reply G). MakesEntries lawful setup q x []) (sym h.0) (extended_none lawful setup q sound), refl, h.2)
  closing_last Ended stream session q r old new b c sound h = (leave session h.0.leaves.0 ∷ [], h.0.leaves.1, (h.0.leaves.0, refl), h.1)
  closing_last OutOfMemory stream session q r old new b c sound h = (leave session h.0.leaves.0 ∷ [], h.0.leaves.1, (h.0.leaves.0, refl), h.1)
  closing_last Spent stream session q r old new b c sound h = absurd h

  not_spent : (w : Progress) (stream session : ℕ) (q r : PassView Command Reply G) (old new : OpenCallsView) (b c : Step) → ClosesCall lawful setup w stream session q r old new b c → w ≡ Spent → ⊥
  not_spent GoesOn stream session q r old new b c h e = cc e
  not_spent Ended stream session q r old new b c h e = cc e
  not_spent OutOfMemory stream session q r old new b c h e = cc e
  not_spent Spent stream session q r old new b c h e = h

  goes_alive : (w : Progress) (p q : PassView Command Reply G) (did : List Event) → (w ≡ Spent → ⊥) → PassGoes lawful setup w p q did → MakesEntries lawful setup p q did
  goes_alive GoesOn p q did alive h = h
  goes_alive Ended p q did alive h = h
  goes_alive OutOfMemory p q did alive h = h
  goes_alive Spent p q did alive h = absurd (alive refl)

  halted_by : (w : Progress) (b c : Step) → IsClosedStep w b c → c.halted ≡ b.halted
  halted_by GoesOn b c h = ap (λ (x : Step). x.halted) h
  halted_by Ended b c h = ap (λ (x : Step). x.halted) h
  halted_by OutOfMemory b c h = ap (λ (x : Step). x.halted) h
  halted_by Spent b c h = ap (λ (x : Step). x.halted) h

  pub closes_view : (w : Progress) (stream session : ℕ) (q r : PassView Command Reply G) (inside old new : OpenCallsView) (b c : Step) → inside ≡ old
      → ClosesCall lawful setup w stream session q r inside new b c → ClosesCall lawful setup w stream session q r old new b c
  closes_view w stream session q r inside old new b c e h = subst (λ (l : OpenCallsView). ClosesCall lawful setup w stream session q r l new b c) e h

  -- a message is handled
  pub requested : (s : Setting) (p q r : PassView Command Reply G) (old new : OpenCallsView) (stream session : ℕ) (m : List ℕ) (w : Progress) (a b c : Step)
      → items_in a ≡ [] → a.halted ≡ false → call_on old stream ≡ Some (opened.Modifies session false)
      → DoesMessage lawful setup s p q (asked_by_message s session m) (refused_by_message s m) w a b → ClosesCall lawful setup w stream session q r old new b c
      → HandlesCall lawful setup s old new p r stream (Request stream m) c
  requested s p q r old new stream session m w a b c none quiet was done closes =
      let l = closing_last w stream session q r old new b c done.sound closes in
      let last : List Event = l.0 in
      let alive = not_spent w stream session q r old new b c closes in
      let same : without_leaves (done.did ++ last) ≡ done.did = without_tail done.did last done.plain ∙ (ap (λ (x : List Event). done.did ++ x) (no_leaves w session last l.2) ∙ append-nil done.did) in
      record {
        did = done.did ++ last;
        entries = entries_then lawful setup p q r done.did last (goes_alive w p q done.did alive done.calls) l.1;
        takes = λ st from unended.
            (let at : st.state ≡ Modifies session false = stands_modify s (call_on old stream) st session false was from in
            let k = subst (λ (x : Standing). RequestMakes s x stream m session w (done.did ++ last) c) (same_standing st session false at)
            (request_makes s st.items stream m session w done.did last a b c (unended_modify st session false at unended) done.answers done.plain none done.told l.3 l.2 alive) in
            record {
              cut = k.0;
              right = k.1;
              stands = closed_stands s w stream session false q r old new b c _ was closes k.3;
              items_are = k.2;
            });
        others = closed_others w stream session q r old new b c closes;
        halted = halted_by w b c l.3 ∙ (done.halted ∙ (ap (λ (x : Bool). x || list_any is_stopped done.did) quiet ∙ ap (list_any is_stopped) (sym same)));
      }

  -- results are collected
  pub collects : (s : Setting) (p q r : PassView Command Reply G) (old new : OpenCallsView) (stream session : ℕ) (fin : Bool) (w : Progress) (has_left : Bool) (a b c : Step)
      → items_in a ≡ [] → a.halted ≡ false → call_on old stream ≡ Some (opened.Modifies session fin)
      → CollectsResults lawful setup s p q session fin w has_left a b → ClosesCall lawful setup w stream session q r old new b c
      → CollectsFor lawful setup s old new p r stream c has_left
  collects s p q r old new stream session fin w has_left a b c none quiet was done closes =
      let l = closing_last w stream session q r old new b c done.sound closes in
      let last : List Event = l.0 in
      let alive = not_spent w stream session q r old new b c closes in
      let d : List Event = collect_entry session done.said ∷ [] in
      let same : without_leaves (d ++ last) ≡ d = without_tail d last refl ∙ (ap (λ (x : List Event). d ++ x) (no_leaves w session last l.2) ∙ append-nil d) in (
        record {
          did = d ++ last;
          entries = entries_then lawful setup p q r d last (done.calls alive) l.1;
          takes = λ st from unended.
              (let at : st.state ≡ Modifies session fin = stands_modify s (call_on old stream) st session fin was from in
              let k = subst (λ (x : Standing). CollectMakes s x stream session fin w (d ++ last) c) (same_standing st session fin at)
              (collect_makes s st.items stream session fin w done.said last a b c (unended_modify st session fin at unended) none done.told l.3 l.2 alive) in
              record {
                cut = k.0;
                right = k.1;
                stands = closed_stands s w stream session fin q r old new b c _ was closes k.3;
                items_are = k.2;
              });
          others = closed_others w stream session q r old new b c closes;
          halted = halted_by w b c l.3 ∙ (done.halted ∙ (ap (λ (x : Bool). x || is_stopped_by done.said) quiet ∙ (sym (or_false (is_stopped_by done.said)) ∙ ap (list_any is_stopped) (sym same))));
        },
        done.left alive ∙ (sym (or_false (leaves_by done.said)) ∙ ap (list_any (λ (e : Event). leaves_by e.reply)) (sym same)),
      )

  -- ---- a call under the lock was Spent

  -- behind the entries of before
  pub spent_then : (p q r : PassView Command Reply G) (did : List Event) → MakesEntries lawful setup p q did → IsSpentBehind lawful setup q r [] → IsSpentBehind lawful setup p r did
  spent_then p q r did h k = (k.0, subst (λ (l : List Event). MakesEntries lawful setup p k.0 l) (append-nil did) (entries_then lawful setup p q k.0 did [] h k.1), k.2, k.3)

  request_stops : (s : Setting) (st : Standing) (stream : ℕ) (m : List ℕ) (session : ℕ) (w : Progress) (did : List Event) (next : Event) (behind whole : List Event) (c : Step)
      → whole ≡ did ++ next ∷ behind → RequestMakes s st stream m session w whole c → StopsIn s st stream (Request stream m ∷ []) did
  request_stops s st stream m session w did next behind whole c e k = record {
    action = Handles (Request stream m) whole k.0;
    next = next;
    behind = behind;
    events_are = e;
    calls_are = refl;
    stream_is = refl;
    right = k.1;
  }

  plain_step : (b rest more : Bool) → (b || rest) ≡ false → (rest ≡ false → more ≡ false) → (b || more) ≡ false
  plain_step true rest more h ih = absurd (cc h)
  plain_step false rest more h ih = ih h

  plain_more : (d : List Event) (next : Event) → list_any (λ (e : Event). is_leave e.command) d ≡ false → is_leave next.command ≡ false → list_any (λ (e : Event). is_leave e.command) (d ++ next ∷ []) ≡ false
  plain_more [] next h k = or_false (is_leave next.command) ∙ k
  plain_more (e ∷ d) next h k =
      plain_step (is_leave e.command) (list_any (λ (x : Event). is_leave x.command) d) (list_any (λ (x : Event). is_leave x.command) (d ++ next ∷ [])) h (λ r. plain_more d next r k)

  -- for a message
  pub request_spent : (s : Setting) (p q r : PassView Command Reply G) (old : OpenCallsView) (stream session : ℕ) (m : List ℕ) (w : Progress) (a b : Step)
      → items_in a ≡ [] → a.end ≡ None → call_on old stream ≡ Some (opened.Modifies session false)
      → DoesMessage lawful setup s p q (asked_by_message s session m) (refused_by_message s m) w a b → StopsClosing lawful setup w q r
      → IsSpentIn lawful setup s p r stream (Stands s (call_on old stream)) (Request stream m ∷ [])
  request_spent s p q r old stream session m GoesOn a b none no_end was done stops = absurd stops
  request_spent s p q r old stream session m Ended a b none no_end was done stops = record {
    did = done.did;
    spent = spent_then p q r done.did done.calls stops;
    stops = λ st from unended.
        (let at : st.state ≡ Modifies session false = stands_modify s (call_on old stream) st session false was from in
        let last : List Event = leave session reply.Left ∷ [] in
        request_stops s st stream m session Ended done.did (leave session reply.Left) [] (done.did ++ last) b refl
        (subst (λ (x : Standing). RequestMakes s x stream m session Ended (done.did ++ last) b) (same_standing st session false at)
        (request_makes s st.items stream m session Ended done.did last a b b (unended_modify st session false at unended) done.answers done.plain none done.told refl (reply.Left, refl) (λ e. cc e))));
  }
  request_spent s p q r old stream session m OutOfMemory a b none no_end was done stops = record {
    did = done.did;
    spent = spent_then p q r done.did done.calls stops;
    stops = λ st from unended.
        (let at : st.state ≡ Modifies session false = stands_modify s (call_on old stream) st session false was from in
        let last : List Event = leave session reply.Left ∷ [] in
        let c : Step = record b { end = Some want_of_memory } in
        request_stops s st stream m session OutOfMemory done.did (leave session reply.Left) [] (done.did ++ last) c refl
        (subst (λ (x : Standing). RequestMakes s x stream m session OutOfMemory (done.did ++ last) c) (same_standing st session false at)
        (request_makes s st.items stream m session OutOfMemory done.did last a b c (unended_modify st session false at unended) done.answers done.plain none done.told refl (reply.Left, refl) (λ e. cc e))));
  }
  request_spent s p q r old stream session m Spent a b none no_end was done stops = record {
    did = done.did;
    spent = subst (λ (x : PassView Command Reply G). IsSpentBehind lawful setup p x done.did) (sym stops) done.calls;
    stops = λ st from unended.
        (let at : st.state ≡ Modifies session false = stands_modify s (call_on old stream) st session false was from in
        let next : Event = done.answers.0 in
        let d : List Event = done.did ++ next ∷ [] in
        let last : List Event = leave session reply.Left ∷ [] in
        let c : Step = record a { end = Some want_of_memory } in
        let all : List (Item CallEnd) = flat_map (items_for s) d ++ refused_by_message s m in
        request_stops s st stream m session OutOfMemory done.did next last (d ++ last) c (append_assoc done.did (next ∷ []) last)
        (subst (λ (x : Standing). RequestMakes s x stream m session OutOfMemory (d ++ last) c) (same_standing st session false at)
        (request_makes s st.items stream m session OutOfMemory d last a a c (unended_modify st session false at unended) done.answers.2 (plain_more done.did next done.plain done.answers.1) none
        (no_end, ([], all, refl, sym (append-nil (items_in a)))) refl (reply.Left, refl) (λ e. cc e))));
  }

  collect_stops : (s : Setting) (st : Standing) (stream session : ℕ) (fin : Bool) (w : Progress) (did : List Event) (next : Event) (behind whole : List Event) (c : Step)
      → whole ≡ did ++ next ∷ behind → CollectMakes s st stream session fin w whole c → StopsIn s st stream [] did
  collect_stops s st stream session fin w did next behind whole c e k = record {
    action = Collects stream whole k.0;
    next = next;
    behind = behind;
    events_are = e;
    calls_are = refl;
    stream_is = refl;
    right = k.1;
  }

  -- for a Collect
  pub collect_spent_in : (s : Setting) (p q r : PassView Command Reply G) (old : OpenCallsView) (stream session : ℕ) (fin : Bool) (w : Progress) (has_left : Bool) (a b : Step)
      → items_in a ≡ [] → a.end ≡ None → call_on old stream ≡ Some (opened.Modifies session fin)
      → CollectsResults lawful setup s p q session fin w has_left a b → StopsClosing lawful setup w q r
      → IsSpentIn lawful setup s p r stream (Stands s (call_on old stream)) []
  collect_spent_in s p q r old stream session fin GoesOn has_left a b none no_end was done stops = absurd stops
  collect_spent_in s p q r old stream session fin Ended has_left a b none no_end was done stops =
      let d : List Event = collect_entry session done.said ∷ [] in
      let last : List Event = leave session reply.Left ∷ [] in
      record {
        did = d;
        spent = spent_then p q r d (done.calls (λ e. cc e)) stops;
        stops = λ st from unended.
            (let at : st.state ≡ Modifies session fin = stands_modify s (call_on old stream) st session fin was from in
            collect_stops s st stream session fin Ended d (leave session reply.Left) [] (d ++ last) b refl
            (subst (λ (x : Standing). CollectMakes s x stream session fin Ended (d ++ last) b) (same_standing st session fin at)
            (collect_makes s st.items stream session fin Ended done.said last a b b (unended_modify st session fin at unended) none done.told refl (reply.Left, refl) (λ e. cc e))));
      }
  collect_spent_in s p q r old stream session fin OutOfMemory has_left a b none no_end was done stops =
      let d : List Event = collect_entry session done.said ∷ [] in
      let last : List Event = leave session reply.Left ∷ [] in
      let c : Step = record b { end = Some want_of_memory } in
      record {
        did = d;
        spent = spent_then p q r d (done.calls (λ e. cc e)) stops;
        stops = λ st from unended.
            (let at : st.state ≡ Modifies session fin = stands_modify s (call_on old stream) st session fin was from in
            collect_stops s st stream session fin OutOfMemory d (leave session reply.Left) [] (d ++ last) c refl
            (subst (λ (x : Standing). CollectMakes s x stream session fin OutOfMemory (d ++ last) c) (same_standing st session fin at)
            (collect_makes s st.items stream session fin OutOfMemory done.said last a b c (unended_modify st session fin at unended) none done.told refl (reply.Left, refl) (λ e. cc e))));
      }
  collect_spent_in s p q r old stream session fin Spent has_left a b none no_end was done stops =
      let next : Event = collect_entry session reply.Left in
      let last : List Event = leave session reply.Left ∷ [] in
      let c : Step = record a { end = Some want_of_memory } in
      record {
        did = [];
        spent = subst (λ (x : PassView Command Reply G). IsSpentBehind lawful setup p x []) (sym stops) (done.spent refl);
        stops = λ st from unended.
            (let at : st.state ≡ Modifies session fin = stands_modify s (call_on old stream) st session fin was from in
            let all : List (Item CallEnd) = flat_map (items_for s) (next ∷ []) ++ good_end (Modifies session fin) (next ∷ []) in
            collect_stops s st stream session fin OutOfMemory [] next last (next ∷ last) c refl
            (subst (λ (x : Standing). CollectMakes s x stream session fin OutOfMemory (next ∷ last) c) (same_standing st session fin at)
            (collect_makes s st.items stream session fin OutOfMemory reply.Left last a a c (unended_modify st session fin at unended) none
            (no_end, ([], all, refl, sym (append-nil (items_in a)))) refl (reply.Left, refl) (λ e. cc e))));
      }

pub if_err : {T E : Type 0} (r : Result T E) (P : Type 0) → P → IfErr r (λ x. P)
if_err (Ok x) P h = tt
if_err (Err x) P h = h

-- ---- which call it is

abbrev call_for : Option (ℕ × Bool) → Option OpenCall
call_for None = None
call_for (Some asked) = Some (opened.Modifies asked.0 asked.1)

abbrev open_for : Option ℕ → Option OpenCall
open_for None = None
open_for (Some session) = Some (opened.Modifies session false)

pub session_is : (o : Option OpenCall) (session : ℕ) (fin : Bool) → Some (session, fin) ≡ session_in o → o ≡ Some (opened.Modifies session fin)
session_is None session fin e = absurd (cc e)
session_is (Some (opened.Modifies n b)) session fin e = ap call_for (sym e)
session_is (Some (opened.Receives method first is_more)) session fin e = absurd (cc e)
session_is (Some (opened.Responds rows)) session fin e = absurd (cc e)

pub open_is : (o : Option OpenCall) (session : ℕ) → Some session ≡ open_session o → o ≡ Some (opened.Modifies session false)
open_is None session e = absurd (cc e)
open_is (Some (opened.Modifies n true)) session e = absurd (cc e)
open_is (Some (opened.Modifies n false)) session e = ap open_for (sym e)
open_is (Some (opened.Receives method first is_more)) session e = absurd (cc e)
open_is (Some (opened.Responds rows)) session e = absurd (cc e)
