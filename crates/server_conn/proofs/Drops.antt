-- A call that is dropped or declined.
use Rattle.std.proofs.Common.{◌≡◌, ◌⊎◌, inl, inr, ℕ, ◌+◌, ◌==◌, ◌||◌, ◌&&◌, not, Bool, true, false, List, [], ◌∷◌, ◌++◌, Option, Some, None, refl, sym, ap, subst, ◌∙◌, append-nil, arith, if◌then◌else◌, eqb-true}
use Rattle.std.specs.Prelude.{take}
use Rattle.std.specs.List.{flat_map, list_any}
use Rattle.std.specs.Option.{option_or}
use Rattle.std.proofs.lemmas.Bool.{or_parts}
use Rattle.std.proofs.lemmas.List.Folds.{list_any-append}
use Rattle.grpc_heads.specs.CallEnd.{CallEnd, Status}
use Rattle.grpc_heads.specs.declared.head.Method.{Method}
use Rattle.grpc_heads.specs.declared.head.Method.TheVariants.{Modify, Get, Flush}
use Rattle.h2_exchange.specs.Calls.{Call, Begun, Request, Finished, Dropped, Declined, ends_asking, stream_in}
use Rattle.h2_exchange.specs.StreamParts.{Item, Finish}
use Rattle.h2_exchange.proofs.Places.{clash, first_true, same_self, second_true}
use Rattle.table_model.specs.declared.command.Command.TheVariants as command
use Rattle.table_model.specs.declared.command.Config.{Config}
use Rattle.table_model.specs.declared.reply.Reply.{Reply}
use Rattle.table_model.specs.Event.{Event}
use Rattle.call_answers.specs.declared.orders.Setting.{Setting}
use Rattle.call_orders.specs.Owed.{ends_call, has_end, is_end, items_for, want_of_memory}
use Rattle.call_orders.specs.Calls.{Action, Handles, Collects, Continues, CallState, NotBegun, Modifies, Receives, Responds, Over, Standing, after, begun_by_reply, begun_state, calls_of, collected, commands_for, continued, events_of, good_end, handled, next_items, next_state, refusal_for, standing, stream_of, waiting_behind, waiting_in, without_leaves}
use Rattle.call_orders.specs.Actions.{AreActions, AreDone, IsAction, IsHandled, Leaves, calls_in, events_in, leave, session_in}
use Rattle.call_orders.specs.Orders.{is_stopped}
use Rattle.call_orders.proofs.Counts.{events_more, standing_here, standing_other}
use Rattle.call_orders.proofs.Doing.{Each, each_at, each_first, end_behind, in_part, none_done}
use Rattle.call_orders.proofs.Holding.{any_more}
use Rattle.call_orders.proofs.Standing.{BegunBy, actions_parts, begun_only, by_reply, unbegun_by}
use Rattle.session_engine.specs.Stands.{IsDropOf, declined_is, dropped_is}
use Rattle.server_turns.specs.Serving.{is_want_of_memory, refused_in, wants_memory}
use Rattle.server_conn.proofs.Replies.{BeginsOrEnds, IsAnswered, begin_answered, each_behind, leave_unstopped}

-- ---- what is done for it

-- what ends a handled call is a Leave at most
pub last_leaves : (o : Option ℕ) (state : CallState) (last : List Event) → Leaves o state last →
    (last ≡ []) ⊎ ((session : ℕ) × (said : Reply) × (last ≡ leave session said ∷ []))
last_leaves None state last h = inl h
last_leaves (Some session) Over last h = inr (session, h.0, h.1)
last_leaves (Some session) other last h = inl h

module _ (s : Setting) where
  drop_commands : (state : CallState) (id : ℕ) (c : Call Method CallEnd) → IsDropOf id c → commands_for s state c ≡ []
  drop_commands NotBegun id c dropped_is = refl
  drop_commands (Modifies session true) id c dropped_is = refl
  drop_commands (Modifies session false) id c dropped_is = refl
  drop_commands (Receives method first is_more) id c dropped_is = refl
  drop_commands (Responds waiting) id c dropped_is = refl
  drop_commands Over id c dropped_is = refl
  drop_commands NotBegun id c (declined_is answer) = refl
  drop_commands (Modifies session true) id c (declined_is answer) = refl
  drop_commands (Modifies session false) id c (declined_is answer) = refl
  drop_commands (Receives method first is_more) id c (declined_is answer) = refl
  drop_commands (Responds waiting) id c (declined_is answer) = refl
  drop_commands Over id c (declined_is answer) = refl

  -- a Leave at most
  drop_works : (st : Standing) (id : ℕ) (c : Call Method CallEnd) (did : List Event) (cut : Option ℕ) → IsDropOf id c → IsHandled s st c did cut →
      without_leaves did ≡ []
  drop_works st id c did cut is act =
      none_done s (commands_for s st.state c) (without_leaves did) (drop_commands st.state id c is)
      (in_part s cut st c (commands_for s st.state c) (without_leaves did) (handled s st c (without_leaves did)).items act.made)

  pub drop_quiet : (config : Config) (st : Standing) (id : ℕ) (c : Call Method CallEnd) (did : List Event) (cut : Option ℕ) → IsDropOf id c →
      IsHandled s st c did cut → Each (IsAnswered config) did → list_any is_stopped did ≡ false
  drop_quiet config st id c did cut is act fair =
      by (last_leaves (option_or (session_in st.state) (session_in (next_state s st.state c (without_leaves did)))) (after s st (Handles c did cut)).state act.last
      act.leaves)
    where
      same : did ≡ act.last
      same = act.did_is ∙ ap (λ (w : List Event). w ++ act.last) (drop_works st id c did cut is act)

      by : (act.last ≡ []) ⊎ ((session : ℕ) × (said : Reply) × (act.last ≡ leave session said ∷ [])) → list_any is_stopped did ≡ false
      by (inl none) = ap (list_any is_stopped) (same ∙ none)
      by (inr (session, said, one)) =
          ap (list_any is_stopped) (same ∙ one) ∙ ap (λ (b : Bool). b || false) (leave_unstopped config session said
          (each_at (IsAnswered config) [] (leave session said) [] (subst (Each (IsAnswered config)) (same ∙ one) fair)))

  -- ---- ends for want of memory

  pub drop_spares : (state : CallState) (id : ℕ) (c : Call Method CallEnd) → IsDropOf id c →
      ((stream : ℕ) (answer : CallEnd) → c ≡ Declined stream answer → is_want_of_memory (Finish answer) ≡ false) →
      list_any is_want_of_memory (refusal_for s state c) ≡ false
  drop_spares NotBegun id c dropped_is spared = refl
  drop_spares (Modifies session true) id c dropped_is spared = refl
  drop_spares (Modifies session false) id c dropped_is spared = refl
  drop_spares (Receives method first is_more) id c dropped_is spared = refl
  drop_spares (Responds waiting) id c dropped_is spared = refl
  drop_spares Over id c dropped_is spared = refl
  drop_spares NotBegun id c (declined_is answer) spared = ap (λ (b : Bool). b || false) (spared id answer refl)
  drop_spares (Modifies session true) id c (declined_is answer) spared = ap (λ (b : Bool). b || false) (spared id answer refl)
  drop_spares (Modifies session false) id c (declined_is answer) spared = ap (λ (b : Bool). b || false) (spared id answer refl)
  drop_spares (Receives method first is_more) id c (declined_is answer) spared = ap (λ (b : Bool). b || false) (spared id answer refl)
  drop_spares (Responds waiting) id c (declined_is answer) spared = ap (λ (b : Bool). b || false) (spared id answer refl)
  drop_spares Over id c (declined_is answer) spared = refl

  plus_zero : (n : ℕ) → n + 0 ≡ n
  plus_zero n = omega arith

  not_new : (x y : Bool) → y ≡ false → ((x || y) && not x) ≡ false
  not_new true y none = refl
  not_new false y none = ap (λ (b : Bool). b && true) none

  -- no more calls are ended so where the items that an action adds are no such end
  pub none_refused : (a : Action) (earlier : List Action) (stream : ℕ) (more : List (Item CallEnd)) → stream_of a ≡ stream →
      (standing s (a ∷ earlier) stream).items ≡ (standing s earlier stream).items ++ more → list_any is_want_of_memory more ≡ false →
      refused_in s (a ∷ earlier) ≡ refused_in s earlier
  unfolding refused_in
  none_refused a earlier stream more on items none =
      ap (λ (n : ℕ). refused_in s earlier + (if wants_memory (standing s (a ∷ earlier) n) && not (wants_memory (standing s earlier n)) then 1 else 0)) on
      ∙ ap (λ (b : Bool). refused_in s earlier + (if b then 1 else 0)) (ap (λ (x : Bool). x && not (wants_memory (standing s earlier stream)))
      (ap (list_any is_want_of_memory) items ∙ list_any-append is_want_of_memory (standing s earlier stream).items more)
      ∙ not_new (wants_memory (standing s earlier stream)) (list_any is_want_of_memory more) none) ∙ plus_zero (refused_in s earlier)

-- ---- a call that is over

module _ (s : Setting) (config : Config) where
  -- a Begin that begins no session ends its call
  begun_over : (w : List Event) → BegunBy w → AreDone s (command.Begin ∷ []) w → (did last : List Event) → did ≡ w ++ last →
      Each (IsAnswered config) did → begun_state w ≡ Over → has_end (flat_map (items_for s) w ++ []) ≡ false → ⊥
  begun_over w unbegun_by done did last is fair over none = done
  begun_over w (by_reply said) done did last is fair over none =
      by (begin_answered config said (each_at (IsAnswered config) [] (record { command = command.Begin; reply = said }) last
      (subst (Each (IsAnswered config)) is fair)))
    where
      unended : ends_call s (record { command = command.Begin; reply = said }) ≡ false
      unended = let e : Event = record { command = command.Begin; reply = said } in
          (or_parts (ends_call s e) false (or_parts (ends_call s e || false) false (sym (end_behind s (e ∷ []) []) ∙ none)).0).0

      never : (session : ℕ) → Modifies session false ≡ Over → ⊥
      never session e = cc

      by : BeginsOrEnds said → ⊥
      by (inl (session, began)) = never session (sym (ap begun_by_reply began) ∙ over)
      by (inr ends) = clash (ends_call s (record { command = command.Begin; reply = said })) ends unended

  -- where no end is owed a call is over because it was, or its client asks no more
  next_over : (state : CallState) (call : Call Method CallEnd) (did last : List Event) → did ≡ without_leaves did ++ last →
      AreDone s (commands_for s state call) (without_leaves did) → Each (IsAnswered config) did →
      has_end (flat_map (items_for s) (without_leaves did) ++ refusal_for s state call) ≡ false → next_state s state call (without_leaves did) ≡ Over →
      (state ≡ Over) ⊎ (ends_asking (stream_in call) call ≡ true)
  next_over Over call did last is done fair none over = inl refl
  next_over NotBegun (Begun id Modify) did last is done fair none over =
      absurd (begun_over (without_leaves did) (begun_only s (without_leaves did)
      ([], subst (AreDone s (command.Begin ∷ [])) (sym (append-nil (without_leaves did))) done)) done did last is fair over none)
  next_over NotBegun (Begun id Get) did last is done fair none over = absurd cc
  next_over NotBegun (Begun id Flush) did last is done fair none over = absurd cc
  next_over NotBegun (Request id m) did last is done fair none over = absurd cc
  next_over NotBegun (Finished id) did last is done fair none over = inr (same_self id)
  next_over NotBegun (Dropped id) did last is done fair none over = inr (same_self id)
  next_over NotBegun (Declined id answer) did last is done fair none over = inr (same_self id)
  next_over (Modifies session true) (Begun id method) did last is done fair none over = absurd cc
  next_over (Modifies session true) (Request id m) did last is done fair none over = absurd cc
  next_over (Modifies session true) (Finished id) did last is done fair none over = inr (same_self id)
  next_over (Modifies session true) (Dropped id) did last is done fair none over = inr (same_self id)
  next_over (Modifies session true) (Declined id answer) did last is done fair none over = inr (same_self id)
  next_over (Modifies session false) (Begun id method) did last is done fair none over = absurd cc
  next_over (Modifies session false) (Request id m) did last is done fair none over = absurd cc
  next_over (Modifies session false) (Finished id) did last is done fair none over = inr (same_self id)
  next_over (Modifies session false) (Dropped id) did last is done fair none over = inr (same_self id)
  next_over (Modifies session false) (Declined id answer) did last is done fair none over = inr (same_self id)
  next_over (Receives method None is_more) (Begun id m) did last is done fair none over = absurd cc
  next_over (Receives method None is_more) (Request id m) did last is done fair none over = absurd cc
  next_over (Receives method None is_more) (Finished id) did last is done fair none over = inr (same_self id)
  next_over (Receives method None is_more) (Dropped id) did last is done fair none over = inr (same_self id)
  next_over (Receives method None is_more) (Declined id answer) did last is done fair none over = inr (same_self id)
  next_over (Receives method (Some first) is_more) (Begun id m) did last is done fair none over = absurd cc
  next_over (Receives method (Some first) is_more) (Request id m) did last is done fair none over = absurd cc
  next_over (Receives method (Some first) is_more) (Finished id) did last is done fair none over = inr (same_self id)
  next_over (Receives method (Some first) is_more) (Dropped id) did last is done fair none over = inr (same_self id)
  next_over (Receives method (Some first) is_more) (Declined id answer) did last is done fair none over = inr (same_self id)
  next_over (Responds waiting) (Begun id m) did last is done fair none over = absurd cc
  next_over (Responds waiting) (Request id m) did last is done fair none over = absurd cc
  next_over (Responds waiting) (Finished id) did last is done fair none over = inr (same_self id)
  next_over (Responds waiting) (Dropped id) did last is done fair none over = inr (same_self id)
  next_over (Responds waiting) (Declined id answer) did last is done fair none over = inr (same_self id)

  -- owed an end, or asked no more
  abbrev IsOwedEnd : Standing → Bool → Type 0
  IsOwedEnd st asked = st.state ≡ Over → (has_end st.items ≡ true) ⊎ (asked ≡ true)

  ends_last : (items : List (Item CallEnd)) (answer : CallEnd) → has_end (items ++ Finish answer ∷ []) ≡ true
  ends_last items answer = list_any-append is_end items (Finish answer ∷ []) ∙ second_true (has_end items) true refl

  -- behind items that are added
  behind_items : (state : CallState) (items more : List (Item CallEnd)) (asked now : Bool) →
      (has_end more ≡ false → state ≡ Over → (has_end items ≡ true) ⊎ ((asked || now) ≡ true)) →
      (if has_end more then Over else state) ≡ Over → (has_end (items ++ more) ≡ true) ⊎ ((asked || now) ≡ true)
  behind_items state items more asked now step over = by (has_end more) refl
    where
      by : (b : Bool) → has_end more ≡ b → (has_end (items ++ more) ≡ true) ⊎ ((asked || now) ≡ true)
      by true e = inl (list_any-append is_end items more ∙ second_true (has_end items) (has_end more) e)
      by false e = elim (step e (sym (ap (λ (b : Bool). if b then Over else state) e) ∙ over)) [
        | inl ends ↦ inl (list_any-append is_end items more ∙ first_true (has_end items) (has_end more) ends)
        | inr asks ↦ inr asks
      ]

  over_after : (st : Standing) (a : Action) → IsAction s st a → Each (IsAnswered config) (events_of a) → (asked : Bool) → IsOwedEnd st asked →
      (after s st a).state ≡ Over → (has_end (after s st a).items ≡ true) ⊎ ((asked || list_any (ends_asking (stream_of a)) (calls_of a)) ≡ true)
  over_after st (Handles call did (Some made)) act fair asked h over = inl (ends_last (take made (handled s st call (without_leaves did)).items) (Status want_of_memory))
  over_after st (Collects id did (Some made)) act fair asked h over = inl (ends_last (take made (collected s st (without_leaves did)).items) (Status want_of_memory))
  over_after st (Continues id (Some made)) act fair asked h over = inl (ends_last (take made (continued st).items) (Status want_of_memory))
  over_after st (Handles call did None) act fair asked h over =
      behind_items (next_state s st.state call (without_leaves did)) st.items (flat_map (items_for s) (without_leaves did) ++ refusal_for s st.state call) asked
      (ends_asking (stream_in call) call || false) step over
    where
      step : has_end (flat_map (items_for s) (without_leaves did) ++ refusal_for s st.state call) ≡ false →
          next_state s st.state call (without_leaves did) ≡ Over → (has_end st.items ≡ true) ⊎ ((asked || (ends_asking (stream_in call) call || false)) ≡ true)
      step none next = elim (next_over st.state call did act.last act.did_is act.made fair none next) [
        | inl was ↦ elim (h was) [ inl ends ↦ inl ends | inr asks ↦ inr (first_true asked (ends_asking (stream_in call) call || false) asks) ]
        | inr asks ↦ inr (second_true asked (ends_asking (stream_in call) call || false) (first_true (ends_asking (stream_in call) call) false asks))
      ]
  over_after st (Collects id did None) act fair asked h over =
      behind_items st.state st.items (flat_map (items_for s) (without_leaves did) ++ good_end st.state (without_leaves did)) asked false
      (λ none was. absurd (never act.session act.is_finished (sym act.state_is ∙ was))) over
    where
      never : (session : ℕ) (f : Bool) → Modifies session f ≡ Over → ⊥
      never session f e = cc
  over_after st (Continues id None) act fair asked h over =
      behind_items (Responds (waiting_behind (waiting_in st.state))) st.items (next_items (waiting_in st.state)) asked false (λ none was. absurd (never _ was)) over
    where
      never : (waiting : List (Item CallEnd)) → Responds waiting ≡ Over → ⊥
      never waiting e = cc

  over_more : (a : Action) (earlier : List Action) (id : ℕ) → IsAction s (standing s earlier (stream_of a)) a → Each (IsAnswered config) (events_of a) →
      ((k : ℕ) → IsOwedEnd (standing s earlier k) (list_any (ends_asking k) (calls_in earlier))) →
      (standing s (a ∷ earlier) id).state ≡ Over →
      (has_end (standing s (a ∷ earlier) id).items ≡ true) ⊎ (list_any (ends_asking id) (calls_in (a ∷ earlier)) ≡ true)
  over_more a earlier id act fair before over = by (stream_of a == id) refl
    where
      here : (standing s (a ∷ earlier) (stream_of a)).state ≡ Over →
          (has_end (standing s (a ∷ earlier) (stream_of a)).items ≡ true) ⊎ (list_any (ends_asking (stream_of a)) (calls_in (a ∷ earlier)) ≡ true)
      here over_now =
          let same = standing_here s a earlier (stream_of a) (same_self (stream_of a)) in
          let k = over_after (standing s earlier (stream_of a)) a act fair (list_any (ends_asking (stream_of a)) (calls_in earlier)) (before (stream_of a))
          (sym (ap (λ (st : Standing). st.state) same) ∙ over_now) in
          elim k [
            | inl ends ↦ inl (ap (λ (st : Standing). has_end st.items) same ∙ ends)
            | inr asks ↦ inr (any_more (ends_asking (stream_of a)) a earlier ∙ asks)
          ]

      by : (b : Bool) → (stream_of a == id) ≡ b → (has_end (standing s (a ∷ earlier) id).items ≡ true) ⊎ (list_any (ends_asking id) (calls_in (a ∷ earlier)) ≡ true)
      by true e =
          subst (λ (n : ℕ). IsOwedEnd (standing s (a ∷ earlier) n) (list_any (ends_asking n) (calls_in (a ∷ earlier)))) (eqb-true (stream_of a) id e) here over
      by false e =
          let same = standing_other s a earlier id e in
          elim (before id (sym (ap (λ (st : Standing). st.state) same) ∙ over)) [
            | inl ends ↦ inl (ap (λ (st : Standing). has_end st.items) same ∙ ends)
            | inr asks ↦ inr (any_more (ends_asking id) a earlier ∙ first_true (list_any (ends_asking id) (calls_in earlier))
                (list_any (ends_asking id) (calls_of a)) asks)
          ]

  pub over_ended : (actions : List Action) (id : ℕ) → AreActions s actions → Each (IsAnswered config) (events_in actions) →
      (standing s actions id).state ≡ Over → (has_end (standing s actions id).items ≡ true) ⊎ (list_any (ends_asking id) (calls_in actions) ≡ true)
  unfolding standing
  over_ended [] id each fair over = absurd cc
  over_ended (a ∷ earlier) id each fair over =
      over_more a earlier id parts.0 (each_behind (IsAnswered config) (events_in earlier) (events_of a) all)
      (λ k. over_ended earlier k parts.1 (each_first (IsAnswered config) (events_in earlier) (events_of a) all)) over
    where
      parts : IsAction s (standing s earlier (stream_of a)) a × AreActions s earlier
      parts = actions_parts s a earlier each

      all : Each (IsAnswered config) (events_in earlier ++ events_of a)
      all = subst (Each (IsAnswered config)) (events_more a earlier) fair
