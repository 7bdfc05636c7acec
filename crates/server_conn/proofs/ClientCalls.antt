-- What a client did on a call that isn't dropped is handled by one more action, or a call under the lock was Spent in it.
use Rattle.std.proofs.Common.{◌≡◌, ◌⊎◌, inl, inr, ℕ, ◌-◌, ◌^◌, ◌==◌, min, Bool, ◌||◌, ◌&&◌, true, false, map, List, [], ◌∷◌, ◌++◌, Option, Some, None, refl, sym, ap, subst, ◌∙◌, append-nil}
use Rattle.std.specs.List.{flat_map, list_any}
use Rattle.std.specs.Option.{option_or}
use Rattle.std.proofs.lemmas.List.{append_cancel_left, map-append}
use Rattle.std.proofs.lemmas.List.Folds.{list_any-append}
use Rattle.rig_io.specs.Link.{Piece}
use Rattle.grpc_heads.specs.CallEnd.{CallEnd}
use Rattle.grpc_heads.specs.declared.head.Method.{Method}
use Rattle.h2_exchange.specs.Calls.{Call, Begun, Request, Finished, Dropped, Declined, is_begun_call, is_in_place, stream_in}
use Rattle.h2_exchange.specs.StreamParts.{Item}
use Rattle.h2_exchange.proofs.Places.{first_true, neither, same_self, second_true}
use Rattle.grpc_stream.specs.declared.event.CallEvent.{CallEvent}
use Rattle.grpc_stream.specs.CallTrace.{CallTrace, Asked, PeerEvent, begins_on, queued_on}
use Rattle.grpc_stream.specs.NextEvent.{answer_to}
use Rattle.table_lock.specs.Passes.{PassView}
use Rattle.table_model.specs.declared.command.Command.{Command}
use Rattle.table_model.specs.declared.command.Config.{Config}
use Rattle.table_model.specs.declared.reply.Reply.{Reply}
use Rattle.table_model.specs.Event.{Event}
use Rattle.call_answers.specs.declared.orders.Setting.{Setting}
use Rattle.call_orders.specs.Owed.{items_for}
use Rattle.call_orders.specs.Calls.{Action, CallState, Handles, Over, Standing, after, commands_for, handled, next_state, refusal_for, standing, without_leaves}
use Rattle.call_orders.specs.Actions.{AreDone, AreDoneOrCut, IsHandled, calls_in, events_in, leave, may_be_cut, session_in}
use Rattle.call_orders.specs.Orders.{IsSpent, is_stopped}
use Rattle.call_orders.proofs.Counts.{events_more, standing_here}
use Rattle.call_orders.proofs.Doing.{Each, each_at}
use Rattle.call_orders.proofs.Standing.{actions_parts}
use Rattle.session_engine.specs.declared.step.Step.{Step}
use Rattle.session_engine.specs.Laws.{FollowsBy}
use Rattle.session_engine.specs.Queries.{OpenCallsView}
use Rattle.session_engine.specs.Stands.{items_in}
use Rattle.server_turns.specs.Making.{MadeLast, Makes}
use Rattle.server_account.specs.Agreeing.{AreBrought, IsTaken, left_on, told_more}
use Rattle.server_account.proofs.Hears.{brought_hears}
use Rattle.server_conn.specs.declared.conn.Cause.TheVariants.{Spent}
use Rattle.server_conn.specs.Standing.{AreCounted}
use Rattle.server_conn.specs.Steps.{Hears, Owes, StopsBy}
use Rattle.server_conn.proofs.Grown.{made_more}
use Rattle.server_conn.proofs.Drops.{last_leaves}
use Rattle.server_conn.proofs.PartDone.{spent_kept}
use Rattle.server_conn.proofs.Replies.{IsAnswered, answered, each_behind, leave_unstopped}

-- ---- a call that is over takes nothing

over_done : (s : Setting) (state : CallState) (c : Call Method CallEnd) (did : List Event) (cut : Option ℕ) (st : Standing) (items : List (Item CallEnd)) →
    st.state ≡ Over → AreDoneOrCut s cut st c (commands_for s st.state c) did items → (did ≡ []) × (cut ≡ None)
over_done s state c did None st items over made = (subst (λ (x : CallState). AreDone s (commands_for s x c) did) over made, refl)
over_done s state c did (Some made) st items over cut_so =
    let wrong : false ≡ true = subst (λ (x : CallState). may_be_cut x c ≡ true) over cut_so.0 in absurd cc

over_takes_none : (s : Setting) (st : Standing) (c : Call Method CallEnd) (did : List Event) (cut : Option ℕ) (items : List (Item CallEnd)) →
    st.state ≡ Over → IsHandled s st c did cut → (after s st (Handles c did cut)).items ≡ st.items ++ items → items ≡ []
over_takes_none s st c did cut items over act more =
    let k = over_done s st.state c (without_leaves did) cut st (handled s st c (without_leaves did)).items over act.made in
    sym (append_cancel_left st.items [] items (sym (here cut k.1) ∙ more))
  where
    none : without_leaves did ≡ []
    none = (over_done s st.state c (without_leaves did) cut st (handled s st c (without_leaves did)).items over act.made).0

    here : (o : Option ℕ) → o ≡ None → (after s st (Handles c did o)).items ≡ st.items ++ []
    here None is = ap (λ (w : List Event). st.items ++ (flat_map (items_for s) w ++ refusal_for s st.state c)) none
        ∙ ap (λ (x : CallState). st.items ++ refusal_for s x c) over
    here (Some made) is = absurd cc

-- ---- a command was answered Stopped where the step halts

hears_quiet : (s : Setting) (config : Config) (st : Standing) (c : Call Method CallEnd) (did : List Event) (cut : Option ℕ) → IsHandled s st c did cut →
    Each (IsAnswered config) did → list_any is_stopped (without_leaves did) ≡ false → list_any is_stopped did ≡ false
hears_quiet s config st c did cut act fair works =
    ap (list_any is_stopped) act.did_is ∙ (list_any-append is_stopped (without_leaves did) act.last
    ∙ neither (list_any is_stopped (without_leaves did)) (list_any is_stopped act.last) works
    (by (last_leaves (option_or (session_in st.state) (session_in (next_state s st.state c (without_leaves did)))) (after s st (Handles c did cut)).state
    act.last act.leaves)))
  where
    by : (act.last ≡ []) ⊎ ((session : ℕ) × (said : Reply) × (act.last ≡ leave session said ∷ [])) → list_any is_stopped act.last ≡ false
    by (inl none) = ap (list_any is_stopped) none
    by (inr (session, said, one)) =
        ap (list_any is_stopped) one ∙ ap (λ (b : Bool). b || false) (leave_unstopped config session said
        (each_at (IsAnswered config) (without_leaves did) (leave session said) []
        (subst (Each (IsAnswered config)) (act.did_is ∙ ap (λ (l : List Event). without_leaves did ++ l) one) fair)))

works_stopped : (did works last : List Event) → did ≡ works ++ last → list_any is_stopped works ≡ true → list_any is_stopped did ≡ true
works_stopped did works last is stopped =
    ap (list_any is_stopped) is ∙ (list_any-append is_stopped works last ∙ first_true (list_any is_stopped works) (list_any is_stopped last) stopped)

-- ---- what was told

-- nothing answers what isn't declined
taken_told : (t : CallTrace) (c : Call Method CallEnd) → answer_to t (Asked c) ≡ [] → (id : ℕ) (items : List (Item CallEnd)) → IsTaken t id items [] →
    IsTaken (told_more t c) id items []
taken_told t c none id items h = by h
  where
    same : queued_on (told_more t c) id ≡ queued_on t id
    same = ap (λ (l : List (ℕ × Item CallEnd)). queued_on (record t { taken = l }) id)
        (ap (λ (l : List (ℕ × Item CallEnd)). t.taken ++ l) none ∙ append-nil t.taken)

    by : IsTaken t id items [] → IsTaken (told_more t c) id items []
    by (inl all) = inl (ap (λ (l : List (Item CallEnd)). l ++ []) same ∙ all)
    by (inr cut) = inr (record {
      taken = cut.taken;
      missing = cut.missing;
      items_are = cut.items_are;
      unended = cut.unended;
      queued = elim cut.queued [ inl q ↦ inl (same ∙ q) | inr q ↦ inr (q.0, same ∙ q.1) ];
      early = cut.early;
      later = cut.later;
      frames_are = cut.frames_are;
      reset = cut.reset;
      unclosed = cut.unclosed;
    })

asked_begins : (id : ℕ) (cs : List (Call Method CallEnd)) → list_any (begins_on id) (map Asked cs) ≡ list_any (is_begun_call id) cs
asked_begins id [] = refl
asked_begins id (Begun stream method ∷ cs) = ap (λ (b : Bool). stream == id || b) (asked_begins id cs)
asked_begins id (Request stream message ∷ cs) = asked_begins id cs
asked_begins id (Finished stream ∷ cs) = asked_begins id cs
asked_begins id (Dropped stream ∷ cs) = asked_begins id cs
asked_begins id (Declined stream answer ∷ cs) = asked_begins id cs

first_of_both : (a b : Bool) → (a && b) ≡ true → a ≡ true
first_of_both true b e = refl
first_of_both false b e = absurd cc

-- a client goes on with a call that it began, or begins it
pub data GoesOnWith (stream : ℕ) : Call Method CallEnd → Type 0 where
  begins_is : (method : Method) → GoesOnWith stream (Begun stream method)
  asks_is : (message : List ℕ) → GoesOnWith stream (Request stream message)
  finishes_is : GoesOnWith stream (Finished stream)

pub with_stream : (stream : ℕ) (c : Call Method CallEnd) → GoesOnWith stream c → stream_in c ≡ stream
with_stream stream c (begins_is method) = refl
with_stream stream c (asks_is message) = refl
with_stream stream c finishes_is = refl

with_none : (t : CallTrace) (stream : ℕ) (c : Call Method CallEnd) → GoesOnWith stream c → answer_to t (Asked c) ≡ []
with_none t stream c (begins_is method) = refl
with_none t stream c (asks_is message) = refl
with_none t stream c finishes_is = refl

with_begun : (stream : ℕ) (past : List (Call Method CallEnd)) (c : Call Method CallEnd) → GoesOnWith stream c → is_in_place past c ≡ true →
    list_any (begins_on stream) (map Asked past ++ Asked c ∷ []) ≡ true
with_begun stream past c (begins_is method) place =
    list_any-append (begins_on stream) (map Asked past) (Asked c ∷ [])
    ∙ second_true (list_any (begins_on stream) (map Asked past)) (stream == stream || false) (first_true (stream == stream) false (same_self stream))
with_begun stream past c (asks_is message) place =
    list_any-append (begins_on stream) (map Asked past) (Asked c ∷ [])
    ∙ first_true (list_any (begins_on stream) (map Asked past)) false (asked_begins stream past ∙ first_of_both (list_any (is_begun_call stream) past) _ place)
with_begun stream past c finishes_is place =
    list_any-append (begins_on stream) (map Asked past) (Asked c ∷ [])
    ∙ first_true (list_any (begins_on stream) (map Asked past)) false (asked_begins stream past ∙ first_of_both (list_any (is_begun_call stream) past) _ place)

-- ---- the step

module _ {K : Type 0} (uses : K → CallTrace → Type 0) (output : K → List ℕ) (s : Setting) (config : Config) (p q : PassView Command Reply Config)
    (calls : K) (old : OpenCallsView) (refused stream : ℕ) (event : CallEvent) (t : CallTrace) (actions : List Action) (pieces : List Piece) (own : List Event)
    (h : Hears uses output s calls old refused event t actions pieces own) (goes : GoesOnWith stream h.next.client_call) where
  abbrev c : Call Method CallEnd
  c = h.next.client_call

  abbrev before : CallTrace
  before = h.next.before

  abbrev earlier : List Action
  earlier = h.next.earlier

  count_before : AreCounted s earlier refused
  count_before = h.count ∙ ap (λ (n : ℕ). min n (2 ^ 64 - 1)) (sym h.next.count)

  told_is : t.reported ≡ map Asked (calls_in earlier) ++ Asked c ∷ []
  told_is = ap (λ (v : CallTrace). v.reported) h.next.told ∙ ap (λ (l : List PeerEvent). l ++ Asked c ∷ []) h.next.handled.reported

  pub call_owes : (new : OpenCallsView) (step : Step) (did : List Event) → MadeLast p own → Makes config false p q did →
      (k : FollowsBy s new earlier stream (Handles c did) (λ _. items_in step)) → step.halted ≡ list_any is_stopped (without_leaves did) →
      Owes uses output s calls new refused stream step t (Handles c did k.cut ∷ earlier) pieces (own ++ did)
  call_owes new step did last made k halted = record {
    used = h.used;
    alive = h.alive;
    server = h.server;
    told = h.told;
    brought = subst (λ (v : CallTrace). AreBrought s v new (Handles c did k.cut ∷ earlier) (own ++ did) (left_on stream (items_in step))) (sym h.next.told)
        (brought_hears s before old new earlier own h.next.handled did stream c (items_in step) k (with_stream stream c goes) (with_none before stream c goes));
    begun = ap (list_any (begins_on stream)) told_is ∙ with_begun stream (calls_in earlier) c goes h.next.place;
    action = Handles c did k.cut;
    earlier = earlier;
    actions_are = refl;
    rest = [];
    settled = λ id said cut is. absurd cc;
    on = with_stream stream c goes;
    going = k.items_are;
    unended = elim (h.next.handled.open_now.unended stream) [ inl over ↦ inr (spared over) | inr none ↦ inl none ];
    running = λ going. ap (list_any is_stopped) (events_more (Handles c did k.cut) earlier) ∙ (list_any-append is_stopped (events_in earlier) did
        ∙ neither (list_any is_stopped (events_in earlier)) (list_any is_stopped did) h.next.handled.running
        (hears_quiet s config (standing s earlier (stream_in c)) c did k.cut act
        (each_behind (IsAnswered config) own did (answered config q (own ++ did) made.sound (made_more config p q own did last made))) (sym halted ∙ going)));
    stopped = λ stopped. (works_stopped did (without_leaves did) act.last act.did_is (sym halted ∙ stopped), h.next.handled.running);
    count = count_before;
  }
    where
      act : IsHandled s (standing s earlier (stream_in c)) c did k.cut
      act = (actions_parts s (Handles c did k.cut) earlier k.open_now.each).0

      spared : (standing s earlier stream).state ≡ Over → items_in step ≡ []
      spared over =
          let here : (stream_in c == stream) ≡ true = ap (λ (n : ℕ). n == stream) (with_stream stream c goes) ∙ same_self stream in
          over_takes_none s (standing s earlier stream) c did k.cut (items_in step) over
          (subst (λ (n : ℕ). IsHandled s (standing s earlier n) c did k.cut) (with_stream stream c goes) act)
          (sym (ap (λ (st : Standing). st.items) (standing_here s (Handles c did k.cut) earlier stream here)) ∙ k.items_are)

  pub call_stops : (is_ended : Bool) (did : List Event) → Makes config true p q did →
      ((others : List (Call Method CallEnd)) → IsSpent s earlier (c ∷ others) did) → (new : OpenCallsView) →
      StopsBy uses output s config p q calls new refused t pieces own is_ended Spent
  call_stops is_ended did made spent new = record {
    did = did;
    made = made;
    ends = spent_kept s t (output calls) old refused earlier (c ∷ []) pieces own did is_ended h.server h.told h.alive h.next.handled.open_now
        (told_is ∙ sym (map-append Asked (calls_in earlier) (c ∷ [])))
        (λ id. inl (subst (λ (v : CallTrace). IsTaken v id (standing s earlier id).items []) (sym h.next.told)
        (taken_told before c (with_none before stream c goes) id (standing s earlier id).items (h.next.handled.taken id))))
        h.next.handled.did spent count_before;
  }
