-- What becomes of a connection where a call is dropped or declined.
use Rattle.std.proofs.Common.{◌≡◌, ◌⊎◌, inl, inr, ℕ, ◌-◌, ◌^◌, ◌==◌, min, Bool, true, false, List, [], ◌∷◌, ◌++◌, refl, sym, ap, subst, ◌∙◌, append-nil, if◌then◌else◌, eqb-true}
use Rattle.std.specs.List.{list_any}
use Rattle.std.proofs.lemmas.List.{map-append}
use Rattle.std.proofs.lemmas.List.Folds.{list_any-append}
use Rattle.rig_io.specs.Link.{Piece}
use Rattle.grpc_heads.specs.CallEnd.{CallEnd}
use Rattle.grpc_heads.specs.declared.head.Method.{Method}
use Rattle.h2_exchange.specs.Calls.{Call, Dropped, Declined, ends_asking, is_in_place, stream_in}
use Rattle.h2_exchange.specs.Exchange.{sent}
use Rattle.h2_exchange.specs.StreamParts.{Item, Finish}
use Rattle.h2_exchange.specs.Streams.{is_ended_by}
use Rattle.h2_exchange.proofs.Places.{clash, second_true}
use Rattle.grpc_stream.specs.declared.event.CallEvent.TheVariants as says
use Rattle.grpc_stream.specs.CallTrace as trace
use Rattle.grpc_stream.specs.CallTrace.{CallTrace, Asked, PeerEvent, is_ended, queued_on}
use Rattle.table_lock.specs.Passes.{PassView}
use Rattle.rib_core.specs.Recorded.{IsLawful}
use Rattle.table_model.specs.declared.command.Command.{Command}
use Rattle.table_model.specs.declared.command.Config.{Config}
use Rattle.table_model.specs.declared.reply.Reply.{Reply}
use Rattle.table_model.specs.Event.{Event}
use Rattle.call_answers.specs.declared.orders.Setting.{Setting}
use Rattle.call_orders.specs.Owed.{has_end}
use Rattle.call_orders.specs.Calls.{Action, Handles, Over, refusal_for, standing, stream_of}
use Rattle.call_orders.specs.Actions.{calls_in}
use Rattle.call_orders.specs.Orders.{is_stopped}
use Rattle.call_orders.proofs.Doing.{Each, each_first}
use Rattle.call_orders.proofs.Standing.{actions_parts}
use Rattle.session_engine.specs.Laws.{FollowsBy}
use Rattle.session_engine.specs.Queries.{OpenCallsView, call_on}
use Rattle.session_engine.specs.Stands.{DropsCall, IsDropOf, IsSpentIn, Stands, declined_is, dropped_is}
use Rattle.session_engine.proofs.Follows.{actions_follow, spent_follows}
use Rattle.server_turns.specs.Making.{MadeLast}
use Rattle.server_turns.specs.Serving.{refused_in}
use Rattle.server_account.specs.Agreeing.{AreHandled, IsAhead, IsTaken, none_left, told_more}
use Rattle.server_account.proofs.Hears.{handled_declines, handled_drops}
use Rattle.server_account.proofs.Places.{not_false}
use Rattle.server_account.proofs.Prefixes.{same_ends}
use Rattle.server_account.proofs.Takes.{queued_more}
use Rattle.server_conn.specs.declared.conn.Cause.TheVariants.{Spent}
use Rattle.server_conn.specs.Steps.{GoesTo, Hears, StopsBy}
use Rattle.server_conn.proofs.Drops.{drop_quiet, drop_spares, none_refused, over_ended}
use Rattle.server_conn.proofs.Grown.{grows_refl, made_more}
use Rattle.server_conn.proofs.PartDone.{spent_kept}
use Rattle.server_conn.proofs.Replies.{IsAnswered, answered, each_behind}

-- ---- what was taken where it is not handled

module _ (t : CallTrace) (c : Call Method CallEnd) where
  abbrev told : CallTrace
  told = told_more t c

  -- the same was taken
  taken_still : (id : ℕ) (items : List (Item CallEnd)) → queued_on told id ≡ queued_on t id → IsTaken t id items [] → IsTaken told id items []
  taken_still id items same (inl all) = inl (ap (λ (l : List (Item CallEnd)). l ++ []) same ∙ all)
  taken_still id items same (inr cut) = inr (record {
    taken = cut.taken;
    missing = cut.missing;
    items_are = cut.items_are;
    unended = cut.unended;
    queued = elim cut.queued [ inl q ↦ inl (same ∙ q) | inr q ↦ inr (q.0, same ∙ q.1) ];
    early = cut.early;
    later = cut.later;
    frames_are = cut.frames_are;
    reset = cut.reset;
    unclosed = cut.unclosed;
  })

  -- the answer to a refusal was taken behind it
  taken_ahead : (id : ℕ) (items : List (Item CallEnd)) (answer : CallEnd) → queued_on told id ≡ queued_on t id ++ Finish answer ∷ [] → is_ended t id ≡ false →
      is_ended_by (sent t.connection_trace.frames) id ≡ false → IsTaken t id items [] → IsTaken told id items [] ⊎ IsAhead told id items
  taken_ahead id items answer queued unended unclosed (inl all) =
      let queue : queued_on t id ≡ items = sym (append-nil (queued_on t id)) ∙ all in
      inr (record {
        answer = answer;
        queued = queued ∙ ap (λ (l : List (Item CallEnd)). l ++ Finish answer ∷ []) queue;
        unended = sym (same_ends items) ∙ sym (ap (list_any trace.is_end) queue) ∙ unended;
        unclosed = unclosed;
      })
  taken_ahead id items answer queued unended unclosed (inr cut) = inl (inr (record {
    taken = cut.taken;
    missing = cut.missing;
    items_are = cut.items_are;
    unended = cut.unended;
    queued = elim cut.queued [
      | inl q ↦ inr (answer, queued ∙ ap (λ (l : List (Item CallEnd)). l ++ Finish answer ∷ []) q)
      | inr q ↦ absurd (clash (is_ended t id) (ap (list_any trace.is_end) q.1 ∙ list_any-append trace.is_end cut.taken (Finish q.0 ∷ [])
          ∙ second_true (list_any trace.is_end cut.taken) true refl) unended)
    ];
    early = cut.early;
    later = cut.later;
    frames_are = cut.frames_are;
    reset = cut.reset;
    unclosed = cut.unclosed;
  }))

-- What is declined is answered by the calls before it is handled.
taken_unread : (t : CallTrace) (stream : ℕ) (c : Call Method CallEnd) → IsDropOf stream c →
    (is_ended t (stream_in c) ≡ false → is_ended_by (sent t.connection_trace.frames) (stream_in c) ≡ false) →
    (id : ℕ) (items : List (Item CallEnd)) → IsTaken t id items [] → IsTaken (told_more t c) id items [] ⊎ IsAhead (told_more t c) id items
taken_unread t stream c dropped_is unclosed id items taken =
    inl (taken_still t (Dropped stream) id items (ap (λ (l : List (ℕ × Item CallEnd)). queued_on (record t { taken = l }) id) (append-nil t.taken)) taken)
taken_unread t stream c (declined_is answer) unclosed id items taken = by (is_ended t stream) refl (stream == id) refl
  where
    none : is_ended t stream ≡ true → queued_on (told_more t (Declined stream answer)) id ≡ queued_on t id
    none e =
        ap (λ (b : Bool). queued_on (record t { taken = t.taken ++ (if b then [] else (stream, Finish answer) ∷ []) }) id) e
        ∙ ap (λ (l : List (ℕ × Item CallEnd)). queued_on (record t { taken = l }) id) (append-nil t.taken)

    more : (b : Bool) → is_ended t stream ≡ false → (stream == id) ≡ b →
        queued_on (told_more t (Declined stream answer)) id ≡ queued_on t id ++ (if b then Finish answer ∷ [] else [])
    more b e at =
        ap (λ (b : Bool). queued_on (record t { taken = t.taken ++ (if b then [] else (stream, Finish answer) ∷ []) }) id) e
        ∙ (queued_more t stream id (Finish answer) ∙ ap (λ (b : Bool). queued_on t id ++ (if b then Finish answer ∷ [] else [])) at)

    by : (e : Bool) → is_ended t stream ≡ e → (b : Bool) → (stream == id) ≡ b →
        IsTaken (told_more t (Declined stream answer)) id items [] ⊎ IsAhead (told_more t (Declined stream answer)) id items
    by true e b at = inl (taken_still t (Declined stream answer) id items (none e) taken)
    by false e false at = inl (taken_still t (Declined stream answer) id items (more false e at ∙ append-nil (queued_on t id)) taken)
    by false e true at = taken_ahead t (Declined stream answer) id items answer (more true e at)
        (subst (λ (n : ℕ). is_ended t n ≡ false) (eqb-true stream id at) e)
        (subst (λ (n : ℕ). is_ended_by (sent t.connection_trace.frames) n ≡ false) (eqb-true stream id at) (unclosed e)) taken

-- ---- the step

drop_stream : (stream : ℕ) (c : Call Method CallEnd) → IsDropOf stream c → stream_in c ≡ stream
drop_stream stream c dropped_is = refl
drop_stream stream c (declined_is answer) = refl

module _ {K : Type 0} (uses : K → CallTrace → Type 0) (output : K → List ℕ) (s : Setting) (config : Config) (p q : PassView Command Reply Config)
    (calls : K) (old : OpenCallsView) (refused stream : ℕ) (t : CallTrace) (actions : List Action) (pieces : List Piece) (own : List Event)
    (h : Hears uses output s calls old refused (says.Dropped stream) t actions pieces own) where
  abbrev c : Call Method CallEnd
  c = h.next.client_call

  abbrev before : CallTrace
  before = h.next.before

  abbrev earlier : List Action
  earlier = h.next.earlier

  pub drop_goes : (new : OpenCallsView) → MadeLast p own → ((call : Call Method CallEnd) → IsDropOf stream call → DropsCall IsLawful config s old new p q stream call) →
      GoesTo uses output s config p q calls new refused t pieces own
  drop_goes new last drops = record {
    trace = t;
    grows = grows_refl t;
    actions = now;
    did = k.did;
    made = k.entries;
    works = record {
      used = h.used;
      alive = h.alive;
      agrees = record { server = h.server; told = h.told; handled = subst (λ (v : CallTrace). AreHandled s v new now (own ++ k.did) none_left) (sym h.next.told) all_handled };
      count = h.count ∙ ap (λ (n : ℕ). min n (2 ^ 64 - 1)) (sym h.next.count ∙ sym same_count);
    };
  }
    where
      k : DropsCall IsLawful config s old new p q stream c
      k = drops c h.next.shows

      on : stream_in c ≡ stream
      on = drop_stream stream c h.next.shows

      f : FollowsBy s new earlier stream (Handles c k.did) (λ state. refusal_for s state c)
      f = actions_follow s old new earlier stream (Handles c k.did) (λ state. refusal_for s state c) h.next.handled.open_now k.takes k.others (λ cut. on)

      now : List Action
      now = Handles c k.did f.cut ∷ earlier

      -- all entries of the connection are answered as the table answers
      fair : Each (IsAnswered config) (own ++ k.did)
      fair = answered config q (own ++ k.did) k.entries.sound (made_more config p q own k.did last k.entries)

      quiet : list_any is_stopped k.did ≡ false
      quiet =
          drop_quiet s config (standing s earlier (stream_of (Handles c k.did f.cut))) stream c k.did f.cut h.next.shows
          (actions_parts s (Handles c k.did f.cut) earlier f.open_now.each).0 (each_behind (IsAnswered config) own k.did fair)

      same_count : refused_in s now ≡ refused_in s earlier
      same_count =
          none_refused s (Handles c k.did f.cut) earlier stream (refusal_for s (standing s earlier stream).state c) on f.items_are
          (drop_spares s (standing s earlier stream).state stream c h.next.shows h.next.declined)

      closed : (answer : CallEnd) → c ≡ Declined stream answer → (standing s earlier stream).state ≡ Over → has_end (standing s earlier stream).items ≡ true
      closed answer is over =
          elim (over_ended s config earlier stream h.next.handled.open_now.each
          (subst (Each (IsAnswered config)) h.next.handled.did (each_first (IsAnswered config) own k.did fair)) over) [
            | inl ends ↦ ends
            | inr asks ↦ absurd (clash (list_any (ends_asking stream) (calls_in earlier)) asks (not_false (list_any (ends_asking stream) (calls_in earlier))
                (subst (λ (x : Call Method CallEnd). is_in_place (calls_in earlier) x ≡ true) is h.next.place)))
          ]

      by : (x : Call Method CallEnd) (is : IsDropOf stream x) → c ≡ x →
          (f : FollowsBy s new earlier stream (Handles x k.did) (λ state. refusal_for s state x)) →
          AreHandled s (told_more before x) new (Handles x k.did f.cut ∷ earlier) (own ++ k.did) none_left
      by x dropped_is same f = handled_drops s before old new earlier own k.did stream h.next.handled f quiet
      by x (declined_is answer) same f = handled_declines s before old new earlier own k.did stream answer h.next.handled f quiet (closed answer same)

      all_handled : AreHandled s (told_more before c) new now (own ++ k.did) none_left
      all_handled = by c h.next.shows refl f

  pub drop_stops : (new : OpenCallsView) (is_ended : Bool) →
      ((call : Call Method CallEnd) → IsDropOf stream call → IsSpentIn IsLawful config s p q stream (Stands s (call_on old stream)) (call ∷ [])) →
      StopsBy uses output s config p q calls new refused t pieces own is_ended Spent
  drop_stops new is_ended spent = record {
    did = k.did;
    made = k.spent;
    ends = spent_kept s t (output calls) old refused earlier (c ∷ []) pieces own k.did is_ended h.server h.told h.alive h.next.handled.open_now
        (ap (λ (v : CallTrace). v.reported) h.next.told ∙ ap (λ (l : List PeerEvent). l ++ Asked c ∷ []) h.next.handled.reported
        ∙ sym (map-append Asked (calls_in earlier) (c ∷ [])))
        (λ id. subst (λ (v : CallTrace). IsTaken v id (standing s earlier id).items [] ⊎ IsAhead v id (standing s earlier id).items) (sym h.next.told)
        (taken_unread before stream c h.next.shows unclosed id (standing s earlier id).items (h.next.handled.taken id)))
        h.next.handled.did
        (λ others. spent_follows s old earlier stream (c ∷ []) others k.did h.next.handled.open_now k.stops h.next.handled.running)
        (h.count ∙ ap (λ (n : ℕ). min n (2 ^ 64 - 1)) (sym h.next.count));
  }
    where
      k : IsSpentIn IsLawful config s p q stream (Stands s (call_on old stream)) (c ∷ [])
      k = spent c h.next.shows

      unclosed : trace.is_ended before (stream_in c) ≡ false → is_ended_by (sent before.connection_trace.frames) (stream_in c) ≡ false
      unclosed e = subst (λ (v : CallTrace). is_ended_by (sent v.connection_trace.frames) (stream_in c) ≡ false) h.next.told (h.next.unclosed e)
