-- Where calls stand behind all actions, and what holds of them.
use Rattle.std.proofs.Common.{◌≡◌, ℕ, ◌==◌, ◌≤◌, Bool, true, false, ◌&&◌, List, [], ◌∷◌, ◌++◌, Option, Some, None, refl, sym, ap, ◌∙◌, subst, eq-eqb, arith, if◌then◌else◌}
use Rattle.std.specs.Prelude.{not}
use Rattle.std.specs.List.{list_any, flat_map, cons_option}
use Rattle.std.proofs.lemmas.Bool.{eqb-true, or_parts, or_from, and_parts, both_ways}
use Rattle.grpc_heads.specs.CallEnd.{CallEnd}
use Rattle.grpc_heads.specs.declared.head.Method.{Method}
use Rattle.grpc_heads.specs.declared.head.Method.TheVariants.{Modify, Get, Flush}
use Rattle.h2_exchange.specs.Calls.{Call, Begun, Request, Finished, Dropped, Declined, stream_in, is_begun_call, ends_asking, ends_call as drops_call}
use Rattle.h2_exchange.specs.StreamParts.{Item, Finish}
use Rattle.table_model.specs.declared.command.Command.{Command}
use Rattle.table_model.specs.declared.command.Command.TheVariants as command
use Rattle.table_model.specs.declared.reply.Reply.{Reply}
use Rattle.table_model.specs.declared.reply.Reply.TheVariants as reply
use Rattle.table_model.specs.Event.{Event}
use Rattle.call_answers.specs.declared.orders.Setting.{Setting}
use Rattle.call_orders.specs.Owed.{ends_call, has_end, items_for}
use Rattle.call_orders.specs.Calls.{cut_by, owing, CallState, NotBegun, Modifies, Receives, Responds, Over, Standing, Action, Handles, Collects, Continues, stream_of, events_of, without_leaves, begun_by_reply, begun_state, commands_for, next_state, refusal_for, after, standing}
use Rattle.call_orders.specs.Actions.{timeless, AreActions, AreDone, AreDoneUnless, AreDoneInPart, IsAction, IsHandled, Leaves, leave, session_in, calls_in, events_in}
use Rattle.call_orders.specs.Orders.{actions_on, begun_by, begun_in, events_on, left_in}
use Rattle.call_orders.specs.Laws.{count, ends_by, is_finish_of, is_stray}
use Rattle.call_orders.proofs.Counts.{counted, events_more, on_here, standing_here, standing_other}
use Rattle.call_orders.proofs.Doing.{Bears, end_behind, begun_nothing, each_one, stray_parts, in_part, none_done}
use Rattle.call_orders.proofs.Holding.{any_more, begun_here, finish_stream, join, left_here, none_here, unbegun_begun, unbegun_left, ArePlaced, Holds, HoldsNone, HoldsOpen, HoldsOver, HoldsUnbegun, Placed, idle_here, holds_other, open_here, over_here, placed_parts, without_leave}
use Rattle.call_orders.proofs.Idle.{at_state, no_last}
use Rattle.call_orders.proofs.Open.{or_true}

-- ---- a call that is not begun is not asked for

begun_heard : (id : ℕ) (cs : List (Call Method CallEnd)) → list_any (λ c. stream_in c == id) cs ≡ false → list_any (is_begun_call id) cs ≡ false
begun_heard id [] e = refl
begun_heard id (c ∷ cs) e = let r = or_parts (stream_in c == id) (list_any (λ c. stream_in c == id) cs) e in or_from (is_begun_call id c) (list_any (is_begun_call id) cs) (one c r.0) (begun_heard id cs r.1)
  where
    one : (c : Call Method CallEnd) → (stream_in c == id) ≡ false → is_begun_call id c ≡ false
    one (Begun stream method) e = e
    one (Request stream m) e = refl
    one (Finished stream) e = refl
    one (Dropped stream) e = refl
    one (Declined stream answer) e = refl

pub not_heard : (id : ℕ) (cs : List (Call Method CallEnd)) (b : Bool) → (list_any (is_begun_call id) cs && b) ≡ true → list_any (λ c. stream_in c == id) cs ≡ false → ⊥
not_heard id cs b placed none = both_ways (list_any (is_begun_call id) cs) (begun_heard id cs none) (and_parts (list_any (is_begun_call id) cs) b placed).0

-- ---- a Begin

is_begin_command : (c : Command) → timeless c ≡ command.Begin → c ≡ command.Begin
is_begin_command command.Begin e = refl
is_begin_command (command.Operate session operation now) e = absurd cc
is_begin_command (command.Flush by which now) e = absurd cc
is_begin_command (command.SetParams session asked) e = absurd cc
is_begin_command (command.Announce session id) e = absurd cc
is_begin_command (command.Collect session) e = absurd cc
is_begin_command (command.Leave session) e = absurd cc
is_begin_command (command.Select which kinds) e = absurd cc
is_begin_command (command.Take worker now) e = absurd cc
is_begin_command (command.Report job verdict now) e = absurd cc
is_begin_command command.Halt e = absurd cc

-- what is done of one Begin: nothing, or it
pub data BegunBy : List Event → Type 0 where
  unbegun_by : BegunBy []
  by_reply : (said : Reply) → BegunBy (record { command = command.Begin; reply = said } ∷ [])

one_alone : (s : Setting) (e : Event) (done : List Event) → AreDone s (command.Begin ∷ []) (e ∷ done) → (e.command ≡ command.Begin) × (done ≡ [])
one_alone s e done h = (is_begin_command e.command h.0, by (ends_call s e) h.1)
  where
    by : (b : Bool) → AreDoneUnless b done (done ≡ []) → done ≡ []
    by true k = k
    by false k = k

pub begun_only : (s : Setting) (w : List Event) → AreDoneInPart s (command.Begin ∷ []) w → BegunBy w
begun_only s [] h = unbegun_by
begun_only s (e ∷ []) h =
    let one = one_alone s e h.0 h.1 in
    subst BegunBy (ap (λ (c : Command). record { command = c; reply = e.reply } ∷ []) (sym one.0)) (by_reply e.reply)
begun_only s (e ∷ d ∷ more) h = absurd (two h.0 (one_alone s e (d ∷ more ++ h.0) h.1).1)
  where
    two : (l : List Event) → d ∷ more ++ l ≡ [] → ⊥
    two l k = cc

-- the reply to a Begin begins a session, or none
pub data SaidBy : Reply → Type 0 where
  began : (session : ℕ) → SaidBy (reply.Began session)
  began_none : (said : Reply) → begun_by_reply said ≡ Over → begun_by (record { command = command.Begin; reply = said }) ≡ None → SaidBy said

pub said_by : (said : Reply) → SaidBy said
said_by (reply.Began session) = began session
said_by said = began_none said refl refl

pub any_over : (b : Bool) (state : CallState) → state ≡ Over → (if b then Over else state) ≡ Over
any_over true state e = refl
any_over false state e = e

none_finished : (id : ℕ) (cs : List (Call Method CallEnd)) → list_any (λ c. stream_in c == id) cs ≡ false → list_any (is_finish_of id) cs ≡ false
none_finished id [] e = refl
none_finished id (c ∷ cs) e =
    let r = or_parts (stream_in c == id) (list_any (λ c. stream_in c == id) cs) e in
    or_from (is_finish_of id c) (list_any (is_finish_of id) cs) (finish_stream id c r.0) (none_finished id cs r.1)

module _ (s : Setting) (earlier : List Action) (id : ℕ) (its : List (Item CallEnd)) (h : HoldsUnbegun earlier id) where
  -- a call of which nothing is done is without a session
  pub none_done_here : (a : Action) → (stream_of a == id) ≡ true → begun_in (events_of a) ≡ [] → left_in (events_of a) ≡ [] → HoldsNone (a ∷ earlier) id
  none_done_here a e begun left = none_here earlier a id e (unbegun_begun earlier id h) (unbegun_left earlier id h) begun left

  over_by_none : (a : Action) (state : CallState) → state ≡ Over → HoldsNone (a ∷ earlier) id → Holds s (a ∷ earlier) id state
  over_by_none a state e k = subst (Holds s (a ∷ earlier) id) (sym e) (record { same = k.left ∙ sym k.begun })

  abbrev Begins : List Event → Option ℕ → Action
  Begins did cut = Handles (Begun id Modify) did cut

  abbrev behind_begin : List Event → Option ℕ → Standing
  behind_begin w cut = cut_by cut (owing (at_state NotBegun its) (begun_state w) (flat_map (items_for s) w ++ []))

  opens : (did last : List Event) (session : ℕ) → did ≡ record { command = command.Begin; reply = reply.Began session } ∷ last → last ≡ []
      → without_leaves did ≡ record { command = command.Begin; reply = reply.Began session } ∷ [] → (id == id) ≡ true → HoldsOpen s (Begins did None ∷ earlier) id session false
  opens did last session did_is none work here =
      let same : did ≡ record { command = command.Begin; reply = reply.Began session } ∷ [] = did_is ∙ ap (λ (l : List Event). record { command = command.Begin; reply = reply.Began session } ∷ l) none in
      record {
        begun = begun_here (Begins did None) earlier id here ∙ join (begun_in (events_on earlier id)) (begun_in did) [] (session ∷ []) (unbegun_begun earlier id h) (ap begun_in same);
        left = left_here (Begins did None) earlier id here ∙ join (left_in (events_on earlier id)) (left_in did) [] [] (unbegun_left earlier id h) (ap left_in same);
        unended = ap (list_any (ends_by s)) (on_here (Begins did None) earlier id here)
            ∙ or_from (ends_by s (Begins did None)) (list_any (ends_by s) (actions_on earlier id)) (ap (list_any (ends_call s)) work) (ap (list_any (ends_by s)) h.none);
        finished = any_more (is_finish_of id) (Begins did None) earlier ∙ or_from (list_any (is_finish_of id) (calls_in earlier)) false (none_finished id (calls_in earlier) h.unheard) refl;
      }

  -- a session that was begun leaves at once for want of memory
  cut_begin : (did : List Event) (made session : ℕ) (said : Reply) → did ≡ record { command = command.Begin; reply = reply.Began session } ∷ leave session said ∷ [] → (id == id) ≡ true
      → list_any is_stray did ≡ false → HoldsOver (Begins did (Some made) ∷ earlier) id
  cut_begin did made session said did_is here plain =
      let last = leave session said ∷ [] in
      let first = record { command = command.Begin; reply = reply.Began session } ∷ [] in
      let plain_last : list_any is_stray last ≡ false = (stray_parts first last (subst (λ (l : List Event). list_any is_stray l ≡ false) did_is plain)).1 in
      let last_begun : begun_in last ≡ [] = begun_nothing None last (each_one (λ (x : Event). Bears None x.command) (leave session said) (refl, refl)) plain_last in
      let begun_all : begun_in did ≡ session ∷ [] = ap begun_in did_is ∙ ap (λ (l : List ℕ). session ∷ l) last_begun in
      let left_all : left_in did ≡ session ∷ [] = ap left_in did_is in
      let a : Action = Begins did (Some made) in
      record {
        same = left_here a earlier id here ∙ (join (left_in (events_on earlier id)) (left_in did) (begun_in (events_on earlier id)) (begun_in did)
            (unbegun_left earlier id h ∙ sym (unbegun_begun earlier id h)) (left_all ∙ sym begun_all) ∙ sym (begun_here a earlier id here));
      }

  by_said : (did last : List Event) (cut : Option ℕ) (said : Reply) → SaidBy said → did ≡ record { command = command.Begin; reply = said } ∷ last
      → without_leaves did ≡ record { command = command.Begin; reply = said } ∷ [] → (id == id) ≡ true → list_any is_stray did ≡ false
      → Leaves (session_in (begun_by_reply said)) (behind_begin (record { command = command.Begin; reply = said } ∷ []) cut).state last
      → Holds s (Begins did cut ∷ earlier) id (behind_begin (record { command = command.Begin; reply = said } ∷ []) cut).state
  by_said did last None said (began session) did_is work here plain l = opens did last session did_is l work here
  by_said did last (Some made) said (began session) did_is work here plain l =
      cut_begin did made session l.0 (did_is ∙ ap (λ (x : List Event). record { command = command.Begin; reply = reply.Began session } ∷ x) l.1) here plain
  by_said did last cut x (began_none said over none) did_is work here plain l =
      let w = record { command = command.Begin; reply = said } ∷ [] in
      let state : CallState = (behind_begin w cut).state in
      let last_none : last ≡ [] = no_last (session_in (begun_by_reply said)) state last (ap session_in over) l in
      let same : did ≡ w = did_is ∙ ap (λ (x : List Event). record { command = command.Begin; reply = said } ∷ x) last_none in
      over_by_none (Begins did cut) state (is_over cut) (none_done_here (Begins did cut) here (ap begun_in same ∙ ap (λ (o : Option ℕ). cons_option o []) none) (ap left_in same))
    where
      is_over : (o : Option ℕ) → (behind_begin (record { command = command.Begin; reply = said } ∷ []) o).state ≡ Over
      is_over None = any_over (has_end (flat_map (items_for s) (record { command = command.Begin; reply = said } ∷ []) ++ [])) (begun_by_reply said) over
      is_over (Some made) = refl

  begin_by : (did w last : List Event) (cut : Option ℕ) → BegunBy w → did ≡ w ++ last → without_leaves did ≡ w → (id == id) ≡ true → list_any is_stray did ≡ false
      → Leaves (session_in (begun_state w)) (behind_begin w cut).state last → Holds s (Begins did cut ∷ earlier) id (behind_begin w cut).state
  begin_by did w last cut unbegun_by did_is work here plain l =
      let same : did ≡ [] = did_is ∙ l in
      over_by_none (Begins did cut) (behind_begin [] cut).state (is_over cut) (none_done_here (Begins did cut) here (ap begun_in same) (ap left_in same))
    where
      is_over : (o : Option ℕ) → (behind_begin [] o).state ≡ Over
      is_over None = refl
      is_over (Some made) = refl
  begin_by did w last cut (by_reply said) did_is work here plain l = by_said did last cut said (said_by said) did_is work here plain l

  -- a Modify call that begins
  pub begin_here : (did : List Event) (cut : Option ℕ) → IsHandled s (at_state NotBegun its) (Begun id Modify) did cut → (id == id) ≡ true → list_any is_stray did ≡ false
      → Holds s (Begins did cut ∷ earlier) id (after s (at_state NotBegun its) (Begins did cut)).state
  begin_here did cut act here plain =
      begin_by did (without_leaves did) act.last cut (begun_only s (without_leaves did) (in_part s cut (at_state NotBegun its) (Begun id Modify) (command.Begin ∷ []) (without_leaves did) _ act.made))
      act.did_is refl here plain act.leaves

  -- and a Get or a Flush
  quiet_lists : (a : Action) (did last : List Event) → events_of a ≡ did → did ≡ without_leaves did ++ last → without_leaves did ≡ [] → last ≡ [] → (begun_in (events_of a) ≡ []) × (left_in (events_of a) ≡ [])
  quiet_lists a did last e did_is work none =
      let same : events_of a ≡ [] = e ∙ (without_leave did last did_is none ∙ work) in
      (ap begun_in same, ap left_in same)

  -- a call that is declined before it begins
  pub decline_here : (did : List Event) (cut : Option ℕ) (answer : CallEnd) → IsHandled s (at_state NotBegun its) (Declined id answer) did cut → (id == id) ≡ true
      → Holds s (Handles (Declined id answer) did cut ∷ earlier) id (after s (at_state NotBegun its) (Handles (Declined id answer) did cut)).state
  decline_here did cut answer act here =
      let a : Action = Handles (Declined id answer) did cut in
      let lists = quiet_lists a did act.last refl act.did_is (none_done s [] (without_leaves did) refl (in_part s cut (at_state NotBegun its) (Declined id answer) [] (without_leaves did) _ act.made)) act.leaves in
      over_by_none a (after s (at_state NotBegun its) a).state (is_over cut) (none_done_here a here lists.0 lists.1)
    where
      is_over : (o : Option ℕ) → (after s (at_state NotBegun its) (Handles (Declined id answer) did o)).state ≡ Over
      is_over (Some made) = refl
      is_over None = ap (λ (b : Bool). if b then Over else NotBegun) (end_behind s (without_leaves did) (Finish answer ∷ []) ∙ or_true (list_any (ends_call s) (without_leaves did)))

  -- a Get or a Flush that begins
  pub receive_here : (did : List Event) (cut : Option ℕ) (method : Method) → commands_for s NotBegun (Begun id method) ≡ [] → ((done : List Event) → next_state s NotBegun (Begun id method) done ≡ Receives method None false)
      → refusal_for s NotBegun (Begun id method) ≡ [] → IsHandled s (at_state NotBegun its) (Begun id method) did cut → (id == id) ≡ true
      → Holds s (Handles (Begun id method) did cut ∷ earlier) id (after s (at_state NotBegun its) (Handles (Begun id method) did cut)).state
  receive_here did cut method none next refusal act here =
      let a : Action = Handles (Begun id method) did cut in
      let w_none : without_leaves did ≡ [] = none_done s (commands_for s NotBegun (Begun id method)) (without_leaves did) none
      (in_part s cut (at_state NotBegun its) (Begun id method) (commands_for s NotBegun (Begun id method)) (without_leaves did) _ act.made) in
      let last_none : act.last ≡ [] = no_last (session_in (next_state s NotBegun (Begun id method) (without_leaves did))) (after s (at_state NotBegun its) a).state act.last (ap session_in (next (without_leaves did))) act.leaves in
      let lists = quiet_lists a did act.last refl act.did_is w_none last_none in
      let kept : HoldsNone (a ∷ earlier) id = none_done_here a here lists.0 lists.1 in
      by cut kept
    where
      by : (o : Option ℕ) → HoldsNone (Handles (Begun id method) did cut ∷ earlier) id → Holds s (Handles (Begun id method) did cut ∷ earlier) id (after s (at_state NotBegun its) (Handles (Begun id method) did o)).state
      by (Some made) kept = record { same = kept.left ∙ sym kept.begun }
      by None kept = either (has_end (flat_map (items_for s) (without_leaves did) ++ refusal_for s NotBegun (Begun id method))) kept
        where
          either : (b : Bool) → HoldsNone (Handles (Begun id method) did cut ∷ earlier) id → Holds s (Handles (Begun id method) did cut ∷ earlier) id (if b then Over else next_state s NotBegun (Begun id method) (without_leaves did))
          either true k = record { same = k.left ∙ sym k.begun }
          either false k = subst (Holds s (Handles (Begun id method) did cut ∷ earlier) id) (sym (next (without_leaves did))) k

-- ---- all actions

-- what is usual of these actions
pub record Proper (actions : List Action) : Type 0 where
  pub differ : (session : ℕ) → count session (begun_in (events_in actions)) ≤ 1
  pub begins : list_any is_stray (events_in actions) ≡ false
  pub placed : ArePlaced actions

pub proper_earlier : (a : Action) (earlier : List Action) → Proper (a ∷ earlier) → Proper earlier
proper_earlier a earlier p = record {
  differ = λ session. (let x = p.differ session in let y = ap (λ (l : List Event). count session (begun_in l)) (events_more a earlier) in let z = counted begun_by session (events_in earlier) (events_of a) in omega (arith, x, y, z));
  begins = (stray_parts (events_in earlier) (events_of a) (subst (λ (l : List Event). list_any is_stray l ≡ false) (events_more a earlier) p.begins)).0;
  placed = (placed_parts a earlier p.placed).1;
}

pub plain_of : (a : Action) (earlier : List Action) → Proper (a ∷ earlier) → list_any is_stray (events_of a) ≡ false
plain_of a earlier p = (stray_parts (events_in earlier) (events_of a) (subst (λ (l : List Event). list_any is_stray l ≡ false) (events_more a earlier) p.begins)).1

unbegun_here : (s : Setting) (earlier : List Action) (a : Action) (its : List (Item CallEnd)) → Placed (calls_in earlier) a → IsAction s (at_state NotBegun its) a → list_any is_stray (events_of a) ≡ false
    → HoldsUnbegun earlier (stream_of a) → Holds s (a ∷ earlier) (stream_of a) (after s (at_state NotBegun its) a).state
unbegun_here s earlier (Collects id did cut) its placed act plain h = absurd (cc act.state_is)
unbegun_here s earlier (Continues id cut) its placed act plain h = absurd (cc act.state_is)
unbegun_here s earlier (Handles (Begun id Modify) did cut) its placed act plain h = begin_here s earlier id its h did cut act (eq-eqb id id refl) plain
unbegun_here s earlier (Handles (Begun id Get) did cut) its placed act plain h = receive_here s earlier id its h did cut Get refl (λ done. refl) refl act (eq-eqb id id refl)
unbegun_here s earlier (Handles (Begun id Flush) did cut) its placed act plain h = receive_here s earlier id its h did cut Flush refl (λ done. refl) refl act (eq-eqb id id refl)
unbegun_here s earlier (Handles (Request id m) did cut) its placed act plain h = absurd (not_heard id (calls_in earlier) (not (list_any (ends_asking id) (calls_in earlier))) placed h.unheard)
unbegun_here s earlier (Handles (Finished id) did cut) its placed act plain h = absurd (not_heard id (calls_in earlier) (not (list_any (ends_asking id) (calls_in earlier))) placed h.unheard)
unbegun_here s earlier (Handles (Dropped id) did cut) its placed act plain h = absurd (not_heard id (calls_in earlier) (not (list_any (drops_call id) (calls_in earlier))) placed h.unheard)
unbegun_here s earlier (Handles (Declined id answer) did cut) its placed act plain h = decline_here s earlier id its h did cut answer act (eq-eqb id id refl)

any_here : (s : Setting) (earlier : List Action) (a : Action) (state : CallState) (its : List (Item CallEnd)) → Placed (calls_in earlier) a → IsAction s (at_state state its) a → list_any is_stray (events_of a) ≡ false
    → Holds s earlier (stream_of a) state → Holds s (a ∷ earlier) (stream_of a) (after s (at_state state its) a).state
any_here s earlier a NotBegun its placed act plain h = unbegun_here s earlier a its placed act plain h
any_here s earlier a (Modifies session f) its placed act plain h = open_here s earlier a (stream_of a) session f its (eq-eqb (stream_of a) (stream_of a) refl) placed act plain h
any_here s earlier a (Receives method first is_more) its placed act plain h = idle_here s earlier a (stream_of a) (Receives method first is_more) its tt (eq-eqb (stream_of a) (stream_of a) refl) act plain h
any_here s earlier a (Responds waiting) its placed act plain h = idle_here s earlier a (stream_of a) (Responds waiting) its tt (eq-eqb (stream_of a) (stream_of a) refl) act plain h
any_here s earlier a Over its placed act plain h = over_here s earlier a (stream_of a) its (eq-eqb (stream_of a) (stream_of a) refl) act plain h

pub actions_parts : (s : Setting) (a : Action) (earlier : List Action) → AreActions s (a ∷ earlier) → IsAction s (standing s earlier (stream_of a)) a × AreActions s earlier
unfolding AreActions
actions_parts s a earlier h = h

nothing_yet : (s : Setting) (id : ℕ) → Holds s [] id (standing s [] id).state
unfolding standing calls_in
nothing_yet s id = record { none = refl; unheard = refl }

more_holds : (s : Setting) (a : Action) (earlier : List Action) → IsAction s (standing s earlier (stream_of a)) a → Proper (a ∷ earlier) → ((id : ℕ) → Holds s earlier id (standing s earlier id).state)
    → (id : ℕ) (b : Bool) → (stream_of a == id) ≡ b → Holds s (a ∷ earlier) id (standing s (a ∷ earlier) id).state
more_holds s a earlier act p before id false e = subst (λ (st : Standing). Holds s (a ∷ earlier) id st.state) (sym (standing_other s a earlier id e)) (holds_other s earlier a id (standing s earlier id).state e (before id))
more_holds s a earlier act p before id true e =
    let at : stream_of a ≡ id = eqb-true (stream_of a) id e in
    let st : Standing = standing s earlier (stream_of a) in
    let k = any_here s earlier a st.state st.items (placed_parts a earlier p.placed).0 act (plain_of a earlier p) (before (stream_of a)) in
    subst (λ (n : ℕ). Holds s (a ∷ earlier) n (standing s (a ∷ earlier) n).state) at
    (subst (λ (x : Standing). Holds s (a ∷ earlier) (stream_of a) x.state) (sym (standing_here s a earlier (stream_of a) (eq-eqb (stream_of a) (stream_of a) refl))) k)

-- each call stands as it is said
pub holds : (s : Setting) (actions : List Action) → AreActions s actions → Proper actions → (id : ℕ) → Holds s actions id (standing s actions id).state
holds s [] h p id = nothing_yet s id
holds s (a ∷ earlier) h p id =
    let parts = actions_parts s a earlier h in
    more_holds s a earlier parts.0 p (holds s earlier parts.1 (proper_earlier a earlier p)) id (stream_of a == id) refl
