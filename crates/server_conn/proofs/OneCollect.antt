-- What one Collect shows: that it was made, whether it gave results or ended its call, and what it left outstanding.
use Rattle.std.proofs.Common.{◌≡◌, ◌⊎◌, inl, inr, ℕ, pos, ◌==◌, Bool, ◌||◌, ◌&&◌, not, true, false, map, List, [], ◌∷◌, ◌++◌, Option, Some, None, take, refl, sym, ap, subst, ◌∙◌, append-nil, if◌then◌else◌}
use Rattle.std.specs.List.{flat_map, list_any}
use Rattle.std.proofs.lemmas.List.{append_cancel_left}
use Rattle.std.proofs.lemmas.List.Folds.{list_any-append}
use Rattle.grpc_heads.specs.CallEnd.{CallEnd, Status}
use Rattle.h2_exchange.specs.StreamParts.{Item, Finish, Message}
use Rattle.h2_exchange.proofs.Places.{clash, first_true, or_parts, same_self, second_true}
use Rattle.table_model.specs.declared.command.Command.TheVariants as command
use Rattle.table_model.specs.declared.command.Config.{Config}
use Rattle.table_model.specs.declared.reply.Reply.{Reply}
use Rattle.table_model.specs.declared.reply.Reply.TheVariants as reply
use Rattle.table_model.specs.declared.results.FibResult.{FibResult}
use Rattle.table_model.specs.Event.{Event}
use Rattle.table_model.specs.Reply.{is_gone, is_halted, reply_to}
use Rattle.table_model.specs.Results.{batch, outstanding}
use Rattle.call_answers.specs.Ends.{status_by}
use Rattle.call_answers.specs.declared.orders.Setting.{Setting}
use Rattle.call_orders.specs.Actions.{IsCollected, Leaves, leave}
use Rattle.call_orders.specs.Calls.{CallState, Collects, Modifies, NotBegun, Over, Receives, Responds, Standing, after, collected, cut_by, good_end, is_clear, without_leaves}
use Rattle.call_orders.specs.Orders.{is_stopped}
use Rattle.call_orders.specs.Owed.{end_items, ends_call, has_end, is_end, items_for, modify_responses, ok, want_of_memory}
use Rattle.call_orders.proofs.Doing.{Each, each_at, end_behind}
use Rattle.session_engine.specs.Stands.{leaves_by}
use Rattle.server_turns.specs.Past.{awaits_from, collects, is_progress, leaves_some}
use Rattle.server_conn.specs.Gathering.{IsCleared}
use Rattle.server_conn.specs.Steps.{has_items}
use Rattle.server_conn.proofs.Replies.{IsAnswered, each_behind, leave_unstopped}

-- ---- its reply

abbrev GivesOrEnds : Reply → Type 0
GivesOrEnds said = ((given : List FibResult) × (left : ℕ) × (said ≡ reply.Collected given left)) ⊎ (has_end (end_items (status_by false said)) ≡ true)

abbrev collect : ℕ → Reply → Event
collect session said = record { command = command.Collect session; reply = said }

-- a Collect is answered with results, or so that its call ends
collect_answered : (config : Config) (session : ℕ) (said : Reply) → IsAnswered config (collect session said) → GivesOrEnds said
unfolding reply_to
collect_answered config session said (past, inl is) = subst GivesOrEnds (sym is) (by (is_halted past) (is_gone past (command.Collect session)))
  where
    by : (b c : Bool) → GivesOrEnds (if b then reply.Stopped else if c then reply.Gone else reply.Collected (batch past session) (outstanding past session))
    by true c = inr refl
    by false true = inr refl
    by false false = inl (batch past session, outstanding past session, refl)
collect_answered config session said (past, inr (is, may)) = let wrong : false ≡ true = may in absurd cc

-- ---- items and ends

items_of_end : (items : List (Item CallEnd)) → has_end items ≡ true → has_items items ≡ true
items_of_end [] e = absurd cc
items_of_end (item ∷ items) e = refl

more_behind : (before items : List (Item CallEnd)) → has_end before ≡ false → has_end (before ++ items) ≡ true → has_items items ≡ true
more_behind before [] none e = absurd (clash (has_end before) (subst (λ (l : List (Item CallEnd)). has_end l ≡ true) (append-nil before) e) none)
more_behind before (item ∷ items) none e = refl

ends_behind : (items : List (Item CallEnd)) (end : CallEnd) → has_end (items ++ Finish end ∷ []) ≡ true
ends_behind items end = list_any-append is_end items (Finish end ∷ []) ∙ second_true (has_end items) (has_end (Finish end ∷ [])) refl

good_items : (state : CallState) (done : List Event) → has_items (good_end state done) ≡ has_end (good_end state done)
good_items (Modifies session true) done = by (list_any (λ e. is_clear e.reply) done)
  where
    by : (b : Bool) → has_items (if b then Finish (Status ok) ∷ [] else []) ≡ has_end (if b then Finish (Status ok) ∷ [] else [])
    by true = refl
    by false = refl
good_items (Modifies session false) done = refl
good_items NotBegun done = refl
good_items (Receives method first is_more) done = refl
good_items (Responds waiting) done = refl
good_items Over done = refl

-- ---- what a Collect owes

module _ (s : Setting) (session : ℕ) (is_finished : Bool) where
  abbrev good : Reply → List (Item CallEnd)
  good said = good_end (Modifies session is_finished) (collect session said ∷ [])

  abbrev owed : Reply → List (Item CallEnd)
  owed said = flat_map (items_for s) (collect session said ∷ []) ++ good said

  abbrev messages : Reply → List (Item CallEnd)
  messages said = map Message (modify_responses s.numbering 0 (pos 0) said)

  owes_end : (said : Reply) → has_end (end_items (status_by false said)) ≡ true → has_end (owed said) ≡ true
  owes_end said ends =
      end_behind s (collect session said ∷ []) (good said)
      ∙ first_true (ends_call s (collect session said) || false) (has_end (good said)) (first_true (ends_call s (collect session said)) false
      (list_any-append is_end (messages said) (end_items (status_by false said))
      ∙ second_true (has_end (messages said)) (has_end (end_items (status_by false said))) ends))

  -- it owes something where it gives results or ends the call
  owes_any : (said : Reply) → GivesOrEnds said → has_items (owed said) ≡ (is_progress (collect session said) || has_end (owed said))
  owes_any said (inr ends) =
      items_of_end (owed said) (owes_end said ends) ∙ sym (second_true (is_progress (collect session said)) (has_end (owed said)) (owes_end said ends))
  owes_any said (inl (given, left, is)) =
      subst (λ (r : Reply). has_items (owed r) ≡ (is_progress (collect session r) || has_end (owed r))) (sym is) (by given)
    where
      by : (given : List FibResult) →
          has_items (owed (reply.Collected given left))
          ≡ (is_progress (collect session (reply.Collected given left)) || has_end (owed (reply.Collected given left)))
      by [] = good_items (Modifies session is_finished) (collect session (reply.Collected [] left) ∷ [])
      by (r ∷ rs) = refl

  not_over : (b : Bool) → b ≡ true → (if b then Over else Modifies session is_finished) ≡ Modifies session true → ⊥
  not_over true e f = absurd cc
  not_over false e f = absurd cc

  abbrev is_told : CallState → Bool
  is_told (Modifies n b) = b
  is_told other = false

  still_on : (b : Bool) → (if b then Over else Modifies session is_finished) ≡ Modifies session true → (b ≡ false) × (is_finished ≡ true)
  still_on true e = absurd cc
  still_on false e = (refl, ap is_told e)

  not_clear : (b : Bool) → has_end (if b || false then Finish (Status ok) ∷ [] else []) ≡ false → not b ≡ true
  not_clear true e = absurd cc
  not_clear false e = refl

  -- a call whose client has ended its side goes on where results are outstanding
  leaves_results : (said : Reply) → GivesOrEnds said → (if has_end (owed said) then Over else Modifies session is_finished) ≡ Modifies session true →
      leaves_some (collect session said) ≡ true
  leaves_results said (inr ends) e = absurd (not_over (has_end (owed said)) (owes_end said ends) e)
  leaves_results said (inl (given, left, is)) e = subst (λ (r : Reply). leaves_some (collect session r) ≡ true) (sym is) (not_clear (left == 0) none)
    where
      on : (has_end (owed (reply.Collected given left)) ≡ false) × (is_finished ≡ true)
      on = still_on (has_end (owed (reply.Collected given left)))
          (subst (λ (r : Reply). (if has_end (owed r) then Over else Modifies session is_finished) ≡ Modifies session true) is e)

      none : has_end (good_end (Modifies session true) (collect session (reply.Collected given left) ∷ [])) ≡ false
      none = subst (λ (b : Bool). has_end (good_end (Modifies session b) (collect session (reply.Collected given left) ∷ [])) ≡ false) on.1
          (or_parts (list_any (ends_call s) (collect session (reply.Collected given left) ∷ [])) (has_end (good (reply.Collected given left)))
          (sym (end_behind s (collect session (reply.Collected given left) ∷ []) (good (reply.Collected given left))) ∙ on.0)).1

  still_as : (b f : Bool) → (if b then Over else Modifies session is_finished) ≡ Modifies session f → (b ≡ false) × (is_finished ≡ f)
  still_as true f e = absurd cc
  still_as false f e = (refl, ap is_told e)

-- ---- what it leaves to wait for

not_false : (b : Bool) → not b ≡ false → b ≡ true
not_false true e = refl
not_false false e = absurd (cc e)

cleared : (a b awaits : Bool) → a ≡ true → b ≡ true → (if a && b then false else awaits) ≡ false
cleared true true awaits e f = refl
cleared true false awaits e f = absurd (cc f)
cleared false b awaits e f = absurd (cc e)

either_false : (b : Bool) → (if b then false else false) ≡ false
either_false true = refl
either_false false = refl

unfinished : (is_finished some : Bool) → some ≡ false → (is_finished ≡ true → some ≡ true) → is_finished ≡ false
unfinished true some e h = absurd (clash some (h refl) e)
unfinished false some e h = refl

-- a Leave makes no session wait
leave_awaits : (session n : ℕ) (state : CallState) (last : List Event) → Leaves (Some session) state last → awaits_from false n last ≡ false
leave_awaits session n Over last h = ap (awaits_from false n) h.1
leave_awaits session n NotBegun last h = ap (awaits_from false n) h
leave_awaits session n (Modifies m b) last h = ap (awaits_from false n) h
leave_awaits session n (Receives method first is_more) last h = ap (awaits_from false n) h
leave_awaits session n (Responds waiting) last h = ap (awaits_from false n) h

-- nor does a Collect
collect_awaits : (session n : ℕ) (said : Reply) (state : CallState) (last : List Event) → Leaves (Some session) state last →
    awaits_from false n (collect session said ∷ last) ≡ false
collect_awaits session n said state last h = by said
  where
    stays : (b : Bool) → awaits_from (if b then false else false) n last ≡ false
    stays b = ap (λ (x : Bool). awaits_from x n last) (either_false b) ∙ leave_awaits session n state last h

    by : (said : Reply) → awaits_from false n (collect session said ∷ last) ≡ false
    by (reply.Collected given outstanding) = stays ((session == n) && (outstanding == 0))
    by other = stays ((session == n) && false)

module _ (s : Setting) (session : ℕ) (is_finished : Bool) (said : Reply) (answered : GivesOrEnds said) (last : List Event)
    (leaves : Leaves (Some session) (if has_end (owed s session is_finished said) then Over else Modifies session is_finished) last)
    (none : leaves_by said ≡ false) where
  -- a call that goes on behind a Collect that left nothing awaits nothing
  clears : (f : Bool) → (if has_end (owed s session is_finished said) then Over else Modifies session is_finished) ≡ Modifies session f →
      IsCleared session f (collect session said ∷ last)
  clears f e = by answered
    where
      on : (has_end (owed s session is_finished said) ≡ false) × (is_finished ≡ f)
      on = still_as s session is_finished (has_end (owed s session is_finished said)) f e

      nothing : last ≡ []
      nothing = subst (λ (b : Bool). Leaves (Some session) (if b then Over else Modifies session is_finished) last) on.0 leaves

      by : GivesOrEnds said → IsCleared session f (collect session said ∷ last)
      by (inr ends) = absurd (clash (has_end (owed s session is_finished said)) (owes_end s session is_finished said ends) on.0)
      by (inl (given, left, is)) = (
        unfinished f (leaves_by said) none (λ t. leaves_so t),
        λ awaits. ap (λ (l : List Event). awaits_from awaits session (collect session said ∷ l)) nothing
            ∙ (ap (λ (r : Reply). awaits_from awaits session (collect session r ∷ [])) is
            ∙ cleared (session == session) (left == 0) awaits (same_self session) (not_false (left == 0) (ap leaves_by (sym is) ∙ none))),
      )
        where
          leaves_so : f ≡ true → leaves_by said ≡ true
          leaves_so t = ap leaves_by is ∙ (sym (ap (λ (r : Reply). leaves_some (collect session r)) is)
              ∙ leaves_results s session is_finished said (inl (given, left, is)) (subst (λ (b : Bool).
              (if has_end (owed s session is_finished said) then Over else Modifies session is_finished) ≡ Modifies session b) t e))

-- ---- what it shows

-- what a Collect for a session comes to: its entries, its items, and where it leaves the call
pub record Shows (session : ℕ) (is_finished : Bool) (did : List Event) (items : List (Item CallEnd)) (state : CallState) : Type 0 where
  pub done : list_any (collects session) did ≡ true
  pub moved : has_items items ≡ list_any is_progress did
  pub stays : state ≡ Modifies session true → list_any leaves_some did ≡ true
  pub is_over : Bool
  pub state_is : state ≡ (if is_over then Over else Modifies session is_finished)
  pub quiet : (n : ℕ) → awaits_from false n did ≡ false

leave_progress : (session : ℕ) (is_finished b : Bool) (last : List Event) → Leaves (Some session) (if b then Over else Modifies session is_finished) last →
    list_any is_progress last ≡ b
leave_progress session is_finished true last h = ap (list_any is_progress) h.1
leave_progress session is_finished false last h = ap (list_any is_progress) h

leave_quiet : (config : Config) (session : ℕ) (state : CallState) (last : List Event) → Leaves (Some session) state last → Each (IsAnswered config) last →
    list_any is_stopped last ≡ false
leave_quiet config session Over last h fair =
    ap (list_any is_stopped) h.1 ∙ ap (λ (b : Bool). b || false) (leave_unstopped config session h.0
    (each_at (IsAnswered config) [] (leave session h.0) [] (subst (Each (IsAnswered config)) h.1 fair)))
leave_quiet config session other last h fair = ap (list_any is_stopped) h

module _ (s : Setting) (session : ℕ) (is_finished : Bool) (before : List (Item CallEnd)) (unended : has_end before ≡ false) (said : Reply)
    (answered : GivesOrEnds said) (last : List Event) where
  abbrev behind : Option ℕ → Standing
  behind cut = cut_by cut (collected s (record { state = Modifies session is_finished; items = before }) (collect session said ∷ []))

  shows : (cut : Option ℕ) → Leaves (Some session) (behind cut).state last → (items : List (Item CallEnd)) → (behind cut).items ≡ before ++ items →
      Shows session is_finished (collect session said ∷ last) items (behind cut).state
  shows None leaves items is = record {
    done = first_true (session == session) (list_any (collects session) last) (same_self session);
    moved = ap has_items (sym (append_cancel_left before (owed s session is_finished said) items is)) ∙ (owes_any s session is_finished said answered
        ∙ ap (λ (b : Bool). is_progress (collect session said) || b)
        (sym (leave_progress session is_finished (has_end (owed s session is_finished said)) last leaves)));
    stays = λ e. first_true (leaves_some (collect session said)) (list_any leaves_some last) (leaves_results s session is_finished said answered e);
    is_over = has_end (owed s session is_finished said);
    state_is = refl;
    quiet = λ n. collect_awaits session n said (behind None).state last leaves;
  }
  shows (Some made) leaves items is = record {
    done = first_true (session == session) (list_any (collects session) last) (same_self session);
    moved = more_behind before items unended (subst (λ (l : List (Item CallEnd)). has_end l ≡ true) is
        (ends_behind (take made (before ++ owed s session is_finished said)) (Status want_of_memory)))
        ∙ sym (second_true (is_progress (collect session said)) (list_any is_progress last) (ap (list_any is_progress) leaves.1));
    stays = λ e. absurd cc;
    is_over = true;
    state_is = refl;
    quiet = λ n. collect_awaits session n said Over last leaves;
  }

  -- a call that goes on behind it awaits nothing where it left nothing
  clears_so : (cut : Option ℕ) → Leaves (Some session) (behind cut).state last → leaves_by said ≡ false → (f : Bool) →
      (behind cut).state ≡ Modifies session f → IsCleared session f (collect session said ∷ last)
  clears_so None leaves none f e = clears s session is_finished said answered last leaves none f e
  clears_so (Some made) leaves none f e = absurd cc

module _ (s : Setting) (config : Config) (stream : ℕ) (st : Standing) (unended : has_end st.items ≡ false) (did : List Event) (cut : Option ℕ)
    (right : IsCollected s st did cut) (fair : Each (IsAnswered config) did) where
  abbrev made : CallState → List Event → Standing
  made state done = cut_by cut (collected s (record { state = state; items = st.items }) done)

  made_is : made st.state (without_leaves did) ≡ made (Modifies right.session right.is_finished) (collect right.session right.said ∷ [])
  made_is = ap (λ (x : CallState). made x (without_leaves did)) right.state_is ∙ ap (made (Modifies right.session right.is_finished)) right.works_is

  fair_parts : Each (IsAnswered config) (collect right.session right.said ∷ right.last)
  fair_parts = subst (Each (IsAnswered config)) right.did_is fair

  pub collect_shows : (items : List (Item CallEnd)) → (after s st (Collects stream did cut)).items ≡ st.items ++ items →
      Shows right.session right.is_finished did items (after s st (Collects stream did cut)).state
  collect_shows items more =
      subst (λ (x : Standing). Shows right.session right.is_finished did items x.state) (sym made_is)
      (subst (λ (d : List Event). Shows right.session right.is_finished d items
      (made (Modifies right.session right.is_finished) (collect right.session right.said ∷ [])).state)
      (sym right.did_is)
      (shows s right.session right.is_finished st.items unended right.said
      (collect_answered config right.session right.said (each_at (IsAnswered config) [] (collect right.session right.said) right.last fair_parts))
      right.last cut
      (subst (λ (x : Standing). Leaves (Some right.session) x.state right.last) made_is right.leaves) items
      (ap (λ (x : Standing). x.items) (sym made_is) ∙ more)))

  pub collect_clears : list_any (λ e. leaves_by e.reply) (without_leaves did) ≡ false → (f : Bool) →
      (after s st (Collects stream did cut)).state ≡ Modifies right.session f → IsCleared right.session f did
  collect_clears none f =
      subst (λ (x : Standing). x.state ≡ Modifies right.session f → IsCleared right.session f did) (sym made_is)
      (subst (λ (d : List Event). (made (Modifies right.session right.is_finished) (collect right.session right.said ∷ [])).state ≡ Modifies right.session f →
      IsCleared right.session f d) (sym right.did_is)
      (clears_so s right.session right.is_finished st.items unended right.said
      (collect_answered config right.session right.said (each_at (IsAnswered config) [] (collect right.session right.said) right.last fair_parts))
      right.last cut
      (subst (λ (x : Standing). Leaves (Some right.session) x.state right.last) made_is right.leaves)
      (or_parts (leaves_by right.said) false (ap (list_any (λ (e : Event). leaves_by e.reply)) (sym right.works_is) ∙ none)).0 f))

  -- whether a reply is Stopped is told by the entries without the Leave
  pub collect_quiet : list_any is_stopped (without_leaves did) ≡ list_any is_stopped did
  collect_quiet =
      ap (list_any is_stopped) right.works_is ∙ (ap (λ (b : Bool). is_stopped (collect right.session right.said) || b)
      (sym (leave_quiet config right.session (after s st (Collects stream did cut)).state right.last right.leaves
      (each_behind (IsAnswered config) (collect right.session right.said ∷ []) right.last fair_parts)))
      ∙ ap (list_any is_stopped) (sym right.did_is))
