-- What Modify calls are owed, over all actions.
use Rattle.std.proofs.Common.{◌≡◌, ◌⊎◌, ℕ, ◌==◌, ◌≤◌, Bool, true, false, ◌||◌, take, length, List, [], ◌∷◌, ◌++◌, Option, Some, None, refl, sym, ap, ◌∙◌, subst, inl, inr, append-nil, append_assoc, eq-eqb, arith, if◌then◌else◌}
use Rattle.std.specs.Prelude.{not, is_some, map}
use Rattle.std.specs.List.{list_any, flat_map, cons_option}
use Rattle.std.proofs.lemmas.Bool.{or_left, or_right, or_parts, and_parts, eqb-true}
use Rattle.std.proofs.lemmas.List.{map-append}
use Rattle.std.proofs.lemmas.List.Concat.{flat_map-append}
use Rattle.std.proofs.lemmas.List.Elements.{filter-append}
use Rattle.grpc_heads.specs.CallEnd.{CallEnd}
use Rattle.grpc_heads.specs.declared.head.Method.{Method}
use Rattle.grpc_heads.specs.declared.head.Method.TheVariants.{Modify, Get, Flush}
use Rattle.h2_exchange.specs.Calls.{Call, Begun, Request, Finished, Dropped, Declined, ends_asking, is_begun_call, stream_in, ends_call as drops_call}
use Rattle.h2_exchange.specs.StreamParts.{Item, Message, Finish}
use Rattle.table_model.specs.declared.command.Command.TheVariants as command
use Rattle.table_model.specs.declared.reply.Reply.{Reply}
use Rattle.table_model.specs.Event.{Event}
use Rattle.call_answers.specs.declared.orders.Setting.{Setting}
use Rattle.call_orders.specs.Owed.{is_leave, items_for}
use Rattle.call_orders.specs.Calls.{CallState, NotBegun, Modifies, Receives, Responds, Over, Standing, Action, Handles, Collects, Continues, cut_of, stream_of, events_of, calls_of, without_leaves, begun_by_reply, begun_state, commands_for, handled, next_state, owing, waiting_in, after, standing}
use Rattle.call_orders.specs.Actions.{AreActions, IsAction, IsHandled, Leaves, session_in, calls_in, events_in}
use Rattle.call_orders.specs.Orders.{actions_on, begun_in, events_on}
use Rattle.call_orders.specs.Laws.{ModifyIsAnswered, call_ends, ends_by, ends_in, entry_ends, is_cut, is_finish_of, is_stray, modify_ends, responses_to}
use Rattle.call_orders.proofs.Answering.{OwesAction, Responses, dropped_without, goes_without, is_drop, owes_action}
use Rattle.call_orders.proofs.Counts.{events_here, events_other, on_here, on_other, standing_here, standing_other}
use Rattle.call_orders.proofs.Doing.{in_part, none_done}
use Rattle.call_orders.proofs.Following.{proper}
use Rattle.call_orders.proofs.Holding.{Holds, HoldsUnbegun, Placed, any_more, begun_here, join, not_late, placed_parts, unbegun_begun, without_leave}
use Rattle.call_orders.proofs.Idle.{Idle, idles, no_last, over_stays}
use Rattle.call_orders.proofs.Open.{asks_late, is_finish, is_good, open_after, open_with, state_behind}
use Rattle.call_orders.proofs.Standing.{BegunBy, Proper, SaidBy, actions_parts, begun_only, began, began_none, by_reply, holds, not_heard, plain_of, proper_earlier, said_by, unbegun_by}

abbrev pub Work : List Action → ℕ → List Event
Work actions id = without_leaves (events_on actions id)

-- what an open Modify call is owed
pub record OwedOpen (s : Setting) (actions : List Action) (id : ℕ) (items : List (Item CallEnd)) : Type 0 where
  pub items_are : items ≡ Responses s (Work actions id)
  pub no_end : modify_ends s actions id ≡ []

-- and one that is over; where no end came its client dropped it
pub record OwedOver (s : Setting) (actions : List Action) (id : ℕ) (items : List (Item CallEnd)) : Type 0 where
  pub items_are : items ≡ Responses s (Work actions id) ++ map Finish (take 1 (modify_ends s actions id))
  pub dropped : modify_ends s actions id ≡ [] → list_any (ends_asking id) (calls_in actions) ≡ true

abbrev pub Owed : Setting → List Action → ℕ → CallState → List (Item CallEnd) → Type 0
Owed s actions id NotBegun items = items ≡ []
Owed s actions id (Modifies session f) items = OwedOpen s actions id items
Owed s actions id (Receives method first is_more) items = Unit {0}
Owed s actions id (Responds waiting) items = Unit {0}
Owed s actions id Over items = (begun_in (events_on actions id) ≡ []) ⊎ OwedOver s actions id items

-- ---- one more action

work_here : (a : Action) (earlier : List Action) (id : ℕ) → (stream_of a == id) ≡ true → Work (a ∷ earlier) id ≡ Work earlier id ++ without_leaves (events_of a)
work_here a earlier id e = ap without_leaves (events_here a earlier id e) ∙ filter-append (λ (x : Event). not (is_leave x.command)) (events_on earlier id) (events_of a)

ends_here : (s : Setting) (a : Action) (earlier : List Action) (id : ℕ) → (stream_of a == id) ≡ true → modify_ends s (a ∷ earlier) id ≡ modify_ends s earlier id ++ ends_in s earlier a
unfolding modify_ends
ends_here s a earlier id e = ap (λ (b : Bool). modify_ends s earlier id ++ (if b then ends_in s earlier a else [])) e

ends_other : (s : Setting) (a : Action) (earlier : List Action) (id : ℕ) → (stream_of a == id) ≡ false → modify_ends s (a ∷ earlier) id ≡ modify_ends s earlier id
unfolding modify_ends
ends_other s a earlier id e = ap (λ (b : Bool). modify_ends s earlier id ++ (if b then ends_in s earlier a else [])) e ∙ append-nil (modify_ends s earlier id)

responses_more : (s : Setting) (w v : List Event) → Responses s (w ++ v) ≡ Responses s w ++ Responses s v
responses_more s w v = ap (map Message) (flat_map-append (responses_to s) w v) ∙ map-append Message (flat_map (responses_to s) w) (flat_map (responses_to s) v)

one_at_most : (l : List CallEnd) → length l ≤ 1 → take 1 l ≡ l
one_at_most [] e = refl
one_at_most (x ∷ []) e = refl
one_at_most (x ∷ y ∷ l) e = absurd (omega arith)

-- ---- an open call

open_owed : (s : Setting) (earlier : List Action) (a : Action) (id session : ℕ) (f : Bool) (its : List (Item CallEnd)) (b : Bool) (state : CallState) → (stream_of a == id) ≡ true → stream_of a ≡ id
    → state ≡ state_behind session (f || is_finish a) b → (ends_by s a || is_good f a) ≡ b → IsAction s (open_with session f its) a → asks_late f a ≡ false
    → list_any (is_finish_of (stream_of a)) (calls_in earlier) ≡ f → cut_of a ≡ None → OwedOpen s earlier id its → Owed s (a ∷ earlier) id state (after s (open_with session f its) a).items
open_owed s earlier a id session f its b state e at is b_is act late finished none h = by b is b_is
  where
    w : List Event
    w = without_leaves (events_of a)

    more : OwesAction s earlier a session f its
    more = owes_action s earlier a session f its act late finished none

    items_are : (after s (open_with session f its) a).items ≡ Responses s (Work (a ∷ earlier) id) ++ map Finish (ends_in s earlier a)
    items_are = more.items ∙ (ap (λ (l : List (Item CallEnd)). l ++ (Responses s (without_leaves (events_of a)) ++ map Finish (ends_in s earlier a))) h.items_are
        ∙ (sym (append_assoc (Responses s (Work earlier id)) (Responses s (without_leaves (events_of a))) (map Finish (ends_in s earlier a)))
        ∙ ap (λ (l : List (Item CallEnd)). l ++ map Finish (ends_in s earlier a)) (sym (ap (Responses s) (work_here a earlier id e) ∙ responses_more s (Work earlier id) (without_leaves (events_of a))))))

    ends_are : modify_ends s (a ∷ earlier) id ≡ ends_in s earlier a
    ends_are = ends_here s a earlier id e ∙ ap (λ (l : List CallEnd). l ++ ends_in s earlier a) h.no_end

    drop_asks : (c : Action) → stream_of c ≡ id → is_drop c ≡ true → list_any (ends_asking id) (calls_of c) ≡ true
    drop_asks (Handles (Dropped n) did cut) k d = or_left (n == id) false (eq-eqb n id k)
    drop_asks (Handles (Begun n method) did cut) k d = absurd cc
    drop_asks (Handles (Request n m) did cut) k d = absurd cc
    drop_asks (Handles (Finished n) did cut) k d = absurd cc
    drop_asks (Handles (Declined n answer) did cut) k d = absurd cc
    drop_asks (Collects n did cut) k d = absurd cc
    drop_asks (Continues n cut) k d = absurd cc

    by : (x : Bool) → state ≡ state_behind session (f || is_finish a) x → (ends_by s a || is_good f a) ≡ x → Owed s (a ∷ earlier) id state (after s (open_with session f its) a).items
    by true st x_is = subst (λ (c : CallState). Owed s (a ∷ earlier) id c (after s (open_with session f its) a).items) (sym st) (inr (record {
      items_are = items_are ∙ ap (λ (l : List CallEnd). Responses s (Work (a ∷ earlier) id) ++ map Finish l) (sym (ap (take 1) ends_are ∙ one_at_most (ends_in s earlier a) more.one));
      dropped = λ ended. any_more (ends_asking id) a earlier ∙ or_right (list_any (ends_asking id) (calls_in earlier)) (list_any (ends_asking id) (calls_of a))
          (drop_asks a at (dropped_without s earlier a session f its act none finished x_is (sym ends_are ∙ ended)));
    }))
    by false st x_is =
        let without : ends_in s earlier a ≡ [] = goes_without s earlier a session f its act finished x_is in
        subst (λ (c : CallState). Owed s (a ∷ earlier) id c (after s (open_with session f its) a).items) (sym st) (record {
          items_are = items_are ∙ (ap (λ (l : List CallEnd). Responses s (Work (a ∷ earlier) id) ++ map Finish l) without ∙ append-nil (Responses s (Work (a ∷ earlier) id)));
          no_end = ends_are ∙ without;
        })

-- ---- a call that is over

over_call : (s : Setting) (earlier : List Action) (call : Call Method CallEnd) (did : List Event) (cut : Option ℕ) → Placed (calls_in earlier) (Handles call did cut)
    → list_any (ends_asking (stream_in call)) (calls_in earlier) ≡ true → call_ends s call ≡ []
over_call s earlier (Begun id method) did cut placed asked = refl
over_call s earlier (Finished id) did cut placed asked = refl
over_call s earlier (Dropped id) did cut placed asked = refl
over_call s earlier (Request id m) did cut placed asked =
    absurd (not_both (list_any (ends_asking id) (calls_in earlier)) asked (and_parts (list_any (is_begun_call id) (calls_in earlier)) (not (list_any (ends_asking id) (calls_in earlier))) placed).1)
  where
    not_both : (b : Bool) → b ≡ true → not b ≡ true → ⊥
    not_both true e f = cc
    not_both false e f = cc
over_call s earlier (Declined id answer) did cut placed asked = absurd (not_both (list_any (ends_asking id) (calls_in earlier)) asked placed)
  where
    not_both : (b : Bool) → b ≡ true → not b ≡ true → ⊥
    not_both true e f = cc
    not_both false e f = cc

first_stays : (x : CallEnd) (l more : List CallEnd) → take 1 (x ∷ l ++ more) ≡ take 1 (x ∷ l)
first_stays x l more = refl

over_owed : (s : Setting) (earlier : List Action) (call : Call Method CallEnd) (did : List Event) (id : ℕ) (its : List (Item CallEnd)) → (stream_in call == id) ≡ true → stream_in call ≡ id
    → IsAction s (record { state = Over; items = its }) (Handles call did None) → Placed (calls_in earlier) (Handles call did None) → OwedOver s earlier id its
    → OwedOver s (Handles call did None ∷ earlier) id (after s (record { state = Over; items = its }) (Handles call did None)).items
over_owed s earlier call did id its e at act placed h = by (modify_ends s earlier id) refl
  where
    a : Action
    a = Handles call did None

    no_work : without_leaves did ≡ []
    no_work = none_done s [] (without_leaves did) refl (in_part s None (record { state = Over; items = its }) call [] (without_leaves did) (handled s (record { state = Over; items = its }) call (without_leaves did)).items act.made)

    same_items : its ++ (flat_map (items_for s) (without_leaves did) ++ []) ≡ its
    same_items = ap (λ (l : List Event). its ++ (flat_map (items_for s) l ++ [])) no_work ∙ append-nil its

    same_work : Work (Handles call did None ∷ earlier) id ≡ Work earlier id
    same_work = work_here (Handles call did None) earlier id e ∙ (ap (λ (l : List Event). Work earlier id ++ l) no_work ∙ append-nil (Work earlier id))

    with_ends : (l : List CallEnd) → take 1 l ≡ take 1 (modify_ends s earlier id) → modify_ends s (Handles call did None ∷ earlier) id ≡ l
        → its ++ (flat_map (items_for s) (without_leaves did) ++ []) ≡ Responses s (Work (Handles call did None ∷ earlier) id) ++ map Finish (take 1 (modify_ends s (Handles call did None ∷ earlier) id))
    with_ends l same is =
        same_items ∙ (h.items_are ∙ (ap (λ (w : List Event). Responses s w ++ map Finish (take 1 (modify_ends s earlier id))) (sym same_work)
        ∙ ap (λ (x : List CallEnd). Responses s (Work (Handles call did None ∷ earlier) id) ++ map Finish x) (sym (ap (take 1) is ∙ same))))

    no_first : (x : CallEnd) (l m : List CallEnd) → x ∷ l ++ m ≡ [] → ⊥
    no_first x l m k = cc

    by : (l : List CallEnd) → modify_ends s earlier id ≡ l → OwedOver s (Handles call did None ∷ earlier) id (its ++ (flat_map (items_for s) (without_leaves did) ++ []))
    by [] is =
        let asked = h.dropped is in
        let none : ends_in s earlier (Handles call did None) ≡ [] =
        ap (λ (w : List Event). flat_map entry_ends w ++ call_ends s call) no_work ∙ over_call s earlier call did None placed (subst (λ (n : ℕ). list_any (ends_asking n) (calls_in earlier) ≡ true) (sym at) asked) in
        let ends : modify_ends s (Handles call did None ∷ earlier) id ≡ [] =
        ends_here s (Handles call did None) earlier id e ∙ (ap (λ (x : List CallEnd). x ++ ends_in s earlier (Handles call did None)) is ∙ none) in
        record {
          items_are = with_ends [] (sym (ap (take 1) is)) ends;
          dropped = λ k. any_more (ends_asking id) (Handles call did None) earlier ∙ or_left (list_any (ends_asking id) (calls_in earlier)) (list_any (ends_asking id) (calls_of (Handles call did None))) asked;
        }
    by (x ∷ l) is =
        let ends : modify_ends s (Handles call did None ∷ earlier) id ≡ x ∷ l ++ ends_in s earlier (Handles call did None) =
        ends_here s (Handles call did None) earlier id e ∙ ap (λ (y : List CallEnd). y ++ ends_in s earlier (Handles call did None)) is in
        record {
          items_are = with_ends (x ∷ l ++ ends_in s earlier (Handles call did None)) (first_stays x l (ends_in s earlier (Handles call did None)) ∙ sym (ap (take 1) is)) ends;
          dropped = λ k. absurd (no_first x l (ends_in s earlier (Handles call did None)) (sym ends ∙ k));
        }

-- ---- a call without a session

without_session : (s : Setting) (earlier : List Action) (a : Action) (id : ℕ) (state : CallState) (items : List (Item CallEnd)) → (stream_of a == id) ≡ true → Holds s (a ∷ earlier) id state
    → begun_in (events_on (a ∷ earlier) id) ≡ [] → Owed s (a ∷ earlier) id state items
without_session s earlier a id NotBegun items e h none = absurd (no_list (sym (on_here a earlier id e) ∙ h.none))
  where
    no_list : a ∷ actions_on earlier id ≡ [] → ⊥
    no_list k = cc
without_session s earlier a id (Modifies session f) items e h none = absurd (no_list (sym h.begun ∙ none))
  where
    no_list : session ∷ [] ≡ [] → ⊥
    no_list k = cc
without_session s earlier a id (Receives method first is_more) items e h none = tt
without_session s earlier a id (Responds waiting) items e h none = tt
without_session s earlier a id Over items e h none = inl none

begun_nothing_here : (a : Action) (earlier : List Action) (id : ℕ) → (stream_of a == id) ≡ true → begun_in (events_on earlier id) ≡ [] → begun_in (events_of a) ≡ [] → begun_in (events_on (a ∷ earlier) id) ≡ []
begun_nothing_here a earlier id e before more = begun_here a earlier id e ∙ join (begun_in (events_on earlier id)) (begun_in (events_of a)) [] [] before more

-- ---- a call that begins

none_before : (s : Setting) (earlier : List Action) (id : ℕ) → actions_on earlier id ≡ [] → modify_ends s earlier id ≡ []
unfolding modify_ends
none_before s [] id e = refl
none_before s (a ∷ earlier) id e = by (stream_of a == id) refl (none_before s earlier id)
  where
    no_list : (l : List Action) → a ∷ l ≡ [] → ⊥
    no_list l k = cc

    by : (b : Bool) → (stream_of a == id) ≡ b → (actions_on earlier id ≡ [] → modify_ends s earlier id ≡ []) → modify_ends s (a ∷ earlier) id ≡ []
    by true at k = absurd (no_list (actions_on earlier id) (sym (on_here a earlier id at) ∙ e))
    by false at k = ends_other s a earlier id at ∙ k (sym (on_other a earlier id at) ∙ e)

work_before : (earlier : List Action) (id : ℕ) → actions_on earlier id ≡ [] → Work earlier id ≡ []
unfolding events_in
work_before earlier id e = ap (λ (l : List Action). without_leaves (events_in l)) e

module _ (s : Setting) (earlier : List Action) (id : ℕ) (its : List (Item CallEnd)) (h : HoldsUnbegun earlier id) (nothing : its ≡ []) (here : (id == id) ≡ true) where
  abbrev behind_begin : List Event → Standing
  behind_begin w = owing (record { state = NotBegun; items = its }) (begun_state w) (flat_map (items_for s) w ++ [])

  begun_owed : (did last : List Event) (said : Reply) → SaidBy said → did ≡ record { command = command.Begin; reply = said } ∷ last → without_leaves did ≡ record { command = command.Begin; reply = said } ∷ []
      → Leaves (session_in (begun_by_reply said)) (behind_begin (record { command = command.Begin; reply = said } ∷ [])).state last
      → Holds s (Handles (Begun id Modify) did None ∷ earlier) id (behind_begin (record { command = command.Begin; reply = said } ∷ [])).state
      → Owed s (Handles (Begun id Modify) did None ∷ earlier) id (behind_begin (record { command = command.Begin; reply = said } ∷ [])).state (behind_begin (record { command = command.Begin; reply = said } ∷ [])).items
  begun_owed did last said (began session) did_is work l k =
      let a : Action = Handles (Begun id Modify) did None in
      record {
        items_are = append-nil its ∙ (nothing ∙ sym (ap (Responses s) (work_here a earlier id here ∙ (ap (λ (x : List Event). x ++ without_leaves did) (work_before earlier id h.none) ∙ work))));
        no_end = ends_here s a earlier id here ∙ (ap (λ (x : List CallEnd). x ++ ends_in s earlier a) (none_before s earlier id h.none) ∙ ap (λ (w : List Event). flat_map entry_ends w ++ []) work);
      }
  begun_owed did last x (began_none said over none) did_is work l k =
      let a : Action = Handles (Begun id Modify) did None in
      let w = record { command = command.Begin; reply = said } ∷ [] in
      let last_none : last ≡ [] = no_last (session_in (begun_by_reply said)) (behind_begin w).state last (ap session_in over) l in
      let same : did ≡ w = did_is ∙ ap (λ (y : List Event). record { command = command.Begin; reply = said } ∷ y) last_none in
      without_session s earlier a id (behind_begin w).state (behind_begin w).items here k
      (begun_nothing_here a earlier id here (unbegun_begun earlier id h) (ap begun_in same ∙ ap (λ (o : Option ℕ). cons_option o []) none))

  begin_owed : (did w last : List Event) → BegunBy w → did ≡ w ++ last → without_leaves did ≡ w → Leaves (session_in (begun_state w)) (behind_begin w).state last
      → Holds s (Handles (Begun id Modify) did None ∷ earlier) id (behind_begin w).state → Owed s (Handles (Begun id Modify) did None ∷ earlier) id (behind_begin w).state (behind_begin w).items
  begin_owed did w last unbegun_by did_is work l k =
      without_session s earlier (Handles (Begun id Modify) did None) id (behind_begin []).state (behind_begin []).items here k
      (begun_nothing_here (Handles (Begun id Modify) did None) earlier id here (unbegun_begun earlier id h) (ap begun_in (did_is ∙ l)))
  begin_owed did w last (by_reply said) did_is work l k = begun_owed did last said (said_by said) did_is work l k

  -- a call that gives nothing
  quiet_owed : (call : Call Method CallEnd) (did : List Event) (state : CallState) (items : List (Item CallEnd)) → stream_in call ≡ id → commands_for s NotBegun call ≡ [] → ((done : List Event) → session_in (next_state s NotBegun call done) ≡ None)
      → IsHandled s (record { state = NotBegun; items = its }) call did None → Holds s (Handles call did None ∷ earlier) id state → Owed s (Handles call did None ∷ earlier) id state items
  quiet_owed call did state items at none no_session act k =
      let a : Action = Handles call did None in
      let e : (stream_in call == id) ≡ true = eq-eqb (stream_in call) id at in
      let w_none : without_leaves did ≡ [] = none_done s (commands_for s NotBegun call) (without_leaves did) none (in_part s None (record { state = NotBegun; items = its }) call (commands_for s NotBegun call) (without_leaves did) (handled s (record { state = NotBegun; items = its }) call (without_leaves did)).items act.made) in
      let last_none : act.last ≡ [] = no_last (session_in (next_state s NotBegun call (without_leaves did))) (after s (record { state = NotBegun; items = its }) a).state act.last (no_session (without_leaves did)) act.leaves in
      let same : did ≡ [] = without_leave did act.last act.did_is last_none ∙ w_none in
      without_session s earlier a id state items e k (begun_nothing_here a earlier id e (unbegun_begun earlier id h) (ap begun_in same))

-- ---- all actions

pub no_cut : (a : Action) (earlier : List Action) (id : ℕ) → (stream_of a == id) ≡ true → is_cut (a ∷ earlier) id ≡ false → (cut_of a ≡ None) × (is_cut earlier id ≡ false)
no_cut a earlier id e none =
    let parts = or_parts (is_some (cut_of a)) (is_cut earlier id) (sym (ap (list_any (λ (x : Action). is_some (cut_of x))) (on_here a earlier id e)) ∙ none) in
    (none_of (cut_of a) parts.0, parts.1)
  where
    none_of : (o : Option ℕ) → is_some o ≡ false → o ≡ None
    none_of None k = refl
    none_of (Some made) k = absurd cc

unbegun_owed : (s : Setting) (earlier : List Action) (a : Action) (its : List (Item CallEnd)) → Placed (calls_in earlier) a → IsAction s (record { state = NotBegun; items = its }) a → cut_of a ≡ None
    → HoldsUnbegun earlier (stream_of a) → its ≡ [] → Holds s (a ∷ earlier) (stream_of a) (after s (record { state = NotBegun; items = its }) a).state
    → Owed s (a ∷ earlier) (stream_of a) (after s (record { state = NotBegun; items = its }) a).state (after s (record { state = NotBegun; items = its }) a).items
unbegun_owed s earlier (Collects id did cut) its placed act none h nothing k = absurd (cc act.state_is)
unbegun_owed s earlier (Continues id cut) its placed act none h nothing k = absurd (cc act.state_is)
unbegun_owed s earlier (Handles call did (Some made)) its placed act none h nothing k = absurd cc
unbegun_owed s earlier (Handles (Begun id Modify) did None) its placed act none h nothing k =
    begin_owed s earlier id its h nothing (eq-eqb id id refl) did (without_leaves did) act.last
    (begun_only s (without_leaves did) (in_part s None (record { state = NotBegun; items = its }) (Begun id Modify) (command.Begin ∷ []) (without_leaves did) (handled s (record { state = NotBegun; items = its }) (Begun id Modify) (without_leaves did)).items act.made))
    act.did_is refl act.leaves k
unbegun_owed s earlier (Handles (Begun id Get) did None) its placed act none h nothing k = quiet_owed s earlier id its h nothing (eq-eqb id id refl) (Begun id Get) did _ _ refl refl (λ done. refl) act k
unbegun_owed s earlier (Handles (Begun id Flush) did None) its placed act none h nothing k = quiet_owed s earlier id its h nothing (eq-eqb id id refl) (Begun id Flush) did _ _ refl refl (λ done. refl) act k
unbegun_owed s earlier (Handles (Request id m) did None) its placed act none h nothing k = absurd (not_heard id (calls_in earlier) (not (list_any (ends_asking id) (calls_in earlier))) placed h.unheard)
unbegun_owed s earlier (Handles (Finished id) did None) its placed act none h nothing k = absurd (not_heard id (calls_in earlier) (not (list_any (ends_asking id) (calls_in earlier))) placed h.unheard)
unbegun_owed s earlier (Handles (Dropped id) did None) its placed act none h nothing k = absurd (not_heard id (calls_in earlier) (not (list_any (drops_call id) (calls_in earlier))) placed h.unheard)
unbegun_owed s earlier (Handles (Declined id answer) did None) its placed act none h nothing k = quiet_owed s earlier id its h nothing (eq-eqb id id refl) (Declined id answer) did _ _ refl refl (λ done. refl) act k

idle_owed : (s : Setting) (earlier : List Action) (a : Action) (state : CallState) (its : List (Item CallEnd)) → Idle state → IsAction s (record { state = state; items = its }) a → list_any is_stray (events_of a) ≡ false
    → begun_in (events_on earlier (stream_of a)) ≡ [] → Holds s (a ∷ earlier) (stream_of a) (after s (record { state = state; items = its }) a).state
    → Owed s (a ∷ earlier) (stream_of a) (after s (record { state = state; items = its }) a).state (after s (record { state = state; items = its }) a).items
idle_owed s earlier a state its i act plain none k =
    let e : (stream_of a == stream_of a) ≡ true = eq-eqb (stream_of a) (stream_of a) refl in
    without_session s earlier a (stream_of a) (after s (record { state = state; items = its }) a).state (after s (record { state = state; items = its }) a).items e k
    (begun_nothing_here a earlier (stream_of a) e none (idles s state its a i act plain).begun)

over_owed_by : (s : Setting) (earlier : List Action) (a : Action) (its : List (Item CallEnd)) → IsAction s (record { state = Over; items = its }) a → cut_of a ≡ None → Placed (calls_in earlier) a
    → OwedOver s earlier (stream_of a) its → OwedOver s (a ∷ earlier) (stream_of a) (after s (record { state = Over; items = its }) a).items
over_owed_by s earlier (Collects id did cut) its act none placed h = absurd (cc act.state_is)
over_owed_by s earlier (Continues id cut) its act none placed h = absurd (cc act.state_is)
over_owed_by s earlier (Handles call did (Some made)) its act none placed h = absurd cc
over_owed_by s earlier (Handles call did None) its act none placed h = over_owed s earlier call did (stream_in call) its (eq-eqb (stream_in call) (stream_in call) refl) refl act placed h

here_owed : (s : Setting) (earlier : List Action) (a : Action) (state : CallState) (its : List (Item CallEnd)) → Placed (calls_in earlier) a → IsAction s (record { state = state; items = its }) a → cut_of a ≡ None
    → list_any is_stray (events_of a) ≡ false → Holds s earlier (stream_of a) state → Owed s earlier (stream_of a) state its
    → Holds s (a ∷ earlier) (stream_of a) (after s (record { state = state; items = its }) a).state
    → Owed s (a ∷ earlier) (stream_of a) (after s (record { state = state; items = its }) a).state (after s (record { state = state; items = its }) a).items
here_owed s earlier a NotBegun its placed act none plain h o k = unbegun_owed s earlier a its placed act none h o k
here_owed s earlier a (Modifies session f) its placed act none plain h o k =
    let late = not_late earlier a f placed h.finished in
    open_owed s earlier a (stream_of a) session f its (ends_by s a || is_good f a) (after s (open_with session f its) a).state (eq-eqb (stream_of a) (stream_of a) refl) refl
    (open_after s session f its a act late) refl act late h.finished none o
here_owed s earlier a (Receives method first is_more) its placed act none plain h o k = idle_owed s earlier a (Receives method first is_more) its tt act plain h.begun k
here_owed s earlier a (Responds waiting) its placed act none plain h o k = idle_owed s earlier a (Responds waiting) its tt act plain h.begun k
here_owed s earlier a Over its placed act none plain h (inl begun) k = idle_owed s earlier a Over its tt act plain begun k
here_owed s earlier a Over its placed act none plain h (inr o) k =
    subst (λ (x : CallState). Owed s (a ∷ earlier) (stream_of a) x (after s (record { state = Over; items = its }) a).items) (sym (over_stays s its a act)) (inr (over_owed_by s earlier a its act none placed o))

other_owed : (s : Setting) (earlier : List Action) (a : Action) (id : ℕ) (state : CallState) (its : List (Item CallEnd)) → (stream_of a == id) ≡ false → Owed s earlier id state its → Owed s (a ∷ earlier) id state its
other_owed s earlier a id NotBegun its e o = o
other_owed s earlier a id (Modifies session f) its e o = record {
  items_are = o.items_are ∙ ap (λ (l : List Event). Responses s (without_leaves l)) (sym (events_other a earlier id e));
  no_end = ends_other s a earlier id e ∙ o.no_end;
}
other_owed s earlier a id (Receives method first is_more) its e o = tt
other_owed s earlier a id (Responds waiting) its e o = tt
other_owed s earlier a id Over its e (inl none) = inl (ap begun_in (events_other a earlier id e) ∙ none)
other_owed s earlier a id Over its e (inr o) = inr (record {
  items_are = o.items_are ∙ (ap (λ (l : List Event). Responses s (without_leaves l) ++ map Finish (take 1 (modify_ends s earlier id))) (sym (events_other a earlier id e))
      ∙ ap (λ (l : List CallEnd). Responses s (Work (a ∷ earlier) id) ++ map Finish (take 1 l)) (sym (ends_other s a earlier id e)));
  dropped = λ k. any_more (ends_asking id) a earlier ∙ or_left (list_any (ends_asking id) (calls_in earlier)) (list_any (ends_asking id) (calls_of a)) (o.dropped (sym (ends_other s a earlier id e) ∙ k));
})

nothing_owed : (s : Setting) (id : ℕ) → Owed s [] id (standing s [] id).state (standing s [] id).items
unfolding standing
nothing_owed s id = refl

more_owed : (s : Setting) (a : Action) (earlier : List Action) → AreActions s (a ∷ earlier) → Proper (a ∷ earlier) → (id : ℕ) (b : Bool) → (stream_of a == id) ≡ b → is_cut (a ∷ earlier) id ≡ false
    → (is_cut earlier id ≡ false → Owed s earlier id (standing s earlier id).state (standing s earlier id).items) → Owed s (a ∷ earlier) id (standing s (a ∷ earlier) id).state (standing s (a ∷ earlier) id).items
more_owed s a earlier h p id false e none before =
    subst (λ (st : Standing). Owed s (a ∷ earlier) id st.state st.items) (sym (standing_other s a earlier id e))
    (other_owed s earlier a id (standing s earlier id).state (standing s earlier id).items e (before (sym (ap (list_any (λ (x : Action). is_some (cut_of x))) (on_other a earlier id e)) ∙ none)))
more_owed s a earlier h p id true e none before =
    let at : stream_of a ≡ id = eqb-true (stream_of a) id e in
    let here : (stream_of a == stream_of a) ≡ true = eq-eqb (stream_of a) (stream_of a) refl in
    let cut = no_cut a earlier id e none in
    let parts = actions_parts s a earlier h in
    let st : Standing = standing s earlier (stream_of a) in
    let all = holds s earlier parts.1 (proper_earlier a earlier p) in
    let k = subst (λ (x : Standing). Holds s (a ∷ earlier) (stream_of a) x.state) (standing_here s a earlier (stream_of a) here) (holds s (a ∷ earlier) h p (stream_of a)) in
    let o : Owed s earlier (stream_of a) st.state st.items = subst (λ (n : ℕ). Owed s earlier n (standing s earlier n).state (standing s earlier n).items) (sym at) (before cut.1) in
    subst (λ (n : ℕ). Owed s (a ∷ earlier) n (standing s (a ∷ earlier) n).state (standing s (a ∷ earlier) n).items) at
    (subst (λ (x : Standing). Owed s (a ∷ earlier) (stream_of a) x.state x.items) (sym (standing_here s a earlier (stream_of a) here))
    (here_owed s earlier a st.state st.items (placed_parts a earlier p.placed).0 parts.0 cut.0 (plain_of a earlier p) (all (stream_of a)) o k))

owed : (s : Setting) (actions : List Action) → AreActions s actions → Proper actions → (id : ℕ) → is_cut actions id ≡ false → Owed s actions id (standing s actions id).state (standing s actions id).items
owed s [] h p id none = nothing_owed s id
owed s (a ∷ earlier) h p id none =
    more_owed s a earlier h p id (stream_of a == id) refl none (λ k. owed s earlier (actions_parts s a earlier h).1 (proper_earlier a earlier p) id k)

-- ---- the law

no_session : {l : List ℕ} {session : ℕ} → l ≡ [] → l ≡ session ∷ [] → ⊥
no_session e f = cc

by_state : (s : Setting) (actions : List Action) (id session : ℕ) (state : CallState) (items : List (Item CallEnd)) → Holds s actions id state → begun_in (events_on actions id) ≡ session ∷ [] → Owed s actions id state items
    → items ++ waiting_in state ≡ Responses s (Work actions id) ++ map Finish (take 1 (modify_ends s actions id))
by_state s actions id session NotBegun items h begun o = absurd (no_session (unbegun_begun actions id h) begun)
by_state s actions id session (Receives method first is_more) items h begun o = absurd (no_session h.begun begun)
by_state s actions id session (Responds waiting) items h begun o = absurd (no_session h.begun begun)
by_state s actions id session (Modifies n f) items h begun o =
    append-nil items ∙ (o.items_are ∙ (sym (append-nil (Responses s (Work actions id))) ∙ ap (λ (l : List CallEnd). Responses s (Work actions id) ++ map Finish (take 1 l)) (sym o.no_end)))
by_state s actions id session Over items h begun (inl none) = absurd (no_session none begun)
by_state s actions id session Over items h begun (inr o) = append-nil items ∙ o.items_are

pub modify_is_answered : (s : Setting) → ModifyIsAnswered s
modify_is_answered s calls own end actions o u id session begun none =
    let p = proper s calls own end actions o u in
    by_state s actions id session (standing s actions id).state (standing s actions id).items (holds s actions o.each p id) begun (owed s actions o.each p id none)
