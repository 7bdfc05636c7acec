-- What a client did is handled: one more action stands behind the others, and what it brings is left to be taken.
use Rattle.std.proofs.Common.{◌≡◌, ◌⊎◌, inl, inr, ℕ, ◌==◌, Bool, true, false, List, [], ◌∷◌, ◌++◌, map, Option, refl, sym, ap, subst, ◌∙◌, append_assoc, append-nil, eqb-true}
use Rattle.std.specs.Prelude.{if◌then◌else◌}
use Rattle.std.specs.List.{list_any}
use Rattle.std.proofs.lemmas.List.{map-append}
use Rattle.std.proofs.lemmas.List.Folds.{list_any-append}
use Rattle.grpc_heads.specs.CallEnd.{CallEnd}
use Rattle.grpc_heads.specs.declared.head.Method.{Method}
use Rattle.h2_exchange.specs.Calls.{Call, Dropped, Declined, stream_in}
use Rattle.h2_exchange.specs.StreamParts.{Item, Finish}
use Rattle.h2_exchange.proofs.Places.{clash, neither, same_self, second_true}
use Rattle.grpc_stream.specs.CallTrace as trace
use Rattle.grpc_stream.specs.CallTrace.{CallTrace, Asked, PeerEvent, is_ended, queued_on}
use Rattle.grpc_stream.specs.NextEvent.{answer_to}
use Rattle.table_model.specs.Event.{Event}
use Rattle.call_answers.specs.declared.orders.Setting.{Setting}
use Rattle.call_orders.specs.Calls.{Action, Handles, Collects, Continues, CallState, NotBegun, Modifies, Receives, Responds, Over, Standing, refusal_for, standing, stream_of}
use Rattle.call_orders.specs.Owed.{has_end}
use Rattle.call_orders.specs.Actions.{calls_in, events_in}
use Rattle.call_orders.specs.Orders.{IsRunning, is_stopped}
use Rattle.call_orders.proofs.Counts.{events_more, standing_other}
use Rattle.call_orders.proofs.Holding.{calls_more}
use Rattle.session_engine.specs.Laws.{FollowsBy}
use Rattle.session_engine.specs.Queries.{OpenCallsView}
use Rattle.session_engine.specs.Stands.{IsUnended}
use Rattle.server_account.specs.Agreeing.{AreBrought, AreHandled, IsCutOff, IsTaken, left_on, none_left, told_more}
use Rattle.server_account.proofs.Prefixes.{same_ends}
use Rattle.server_account.proofs.Takes.{queued_more}

-- more is owed to a stream that was cut off
cut_more : (t : CallTrace) (id : ℕ) (items more now : List (Item CallEnd)) → now ≡ items ++ more → IsCutOff t id items → IsCutOff t id now
cut_more t id items more now is cut = record {
  taken = cut.taken;
  missing = cut.missing ++ more;
  items_are = is ∙ ap (λ (l : List (Item CallEnd)). l ++ more) cut.items_are ∙ append_assoc cut.taken cut.missing more;
  unended = cut.unended;
  queued = cut.queued;
  early = cut.early;
  later = cut.later;
  frames_are = cut.frames_are;
  reset = cut.reset;
  unclosed = cut.unclosed;
}

pub taken_more : (t : CallTrace) (id : ℕ) (items more now : List (Item CallEnd)) → now ≡ items ++ more → IsTaken t id items [] → IsTaken t id now more
taken_more t id items more now is (inl all) = inl (ap (λ (l : List (Item CallEnd)). l ++ more) (sym (append-nil (queued_on t id)) ∙ all) ∙ sym is)
taken_more t id items more now is (inr cut) = inr (cut_more t id items more now is cut)

-- the trace with nothing more taken
same_queue : (t : CallTrace) (c : Call Method CallEnd) → answer_to t (Asked c) ≡ [] → (id : ℕ) → queued_on (told_more t c) id ≡ queued_on t id
same_queue t c none id = ap (λ (l : List (ℕ × Item CallEnd)). queued_on (record t { taken = l }) id) (ap (λ (l : List (ℕ × Item CallEnd)). t.taken ++ l) none ∙ append-nil t.taken)

same_taken : (t : CallTrace) (c : Call Method CallEnd) → answer_to t (Asked c) ≡ [] → (id : ℕ) (items left : List (Item CallEnd)) → IsTaken t id items left → IsTaken (told_more t c) id items left
same_taken t c none id items left (inl all) = inl (ap (λ (l : List (Item CallEnd)). l ++ left) (same_queue t c none id) ∙ all)
same_taken t c none id items left (inr cut) = inr (record {
  taken = cut.taken;
  missing = cut.missing;
  items_are = cut.items_are;
  unended = cut.unended;
  queued = elim cut.queued [ inl q ↦ inl (same_queue t c none id ∙ q) | inr q ↦ inr (q.0, same_queue t c none id ∙ q.1) ];
  early = cut.early;
  later = cut.later;
  frames_are = cut.frames_are;
  reset = cut.reset;
  unclosed = cut.unclosed;
})

module _ (s : Setting) (t : CallTrace) (calls new : OpenCallsView) (actions : List Action) (own did : List Event) (stream : ℕ) (action : Option ℕ → Action) (items : List (Item CallEnd))
    (h : AreHandled s t calls actions own none_left) (k : FollowsBy s new actions stream action (λ _. items)) (on : stream_of (action k.cut) ≡ stream) where
  abbrev latest : Action
  latest = action k.cut

  taken_by : (u : CallTrace) → ((id : ℕ) (its left : List (Item CallEnd)) → IsTaken t id its left → IsTaken u id its left) → (id : ℕ) (b : Bool) → (stream == id) ≡ b → IsTaken u id (standing s (latest ∷ actions) id).items (if b then items else [])
  taken_by u same id true e =
      subst (λ (n : ℕ). IsTaken u n (standing s (latest ∷ actions) n).items items) (eqb-true stream id e)
      (taken_more u stream (standing s actions stream).items items (standing s (latest ∷ actions) stream).items k.items_are (same stream (standing s actions stream).items [] (h.taken stream)))
  taken_by u same id false e =
      subst (λ (st : Standing). IsTaken u id st.items []) (sym (standing_other s latest actions id (ap (λ (n : ℕ). n == id) on ∙ e))) (same id (standing s actions id).items [] (h.taken id))

  did_more : (events : List Event) → events ≡ did → own ++ did ≡ events_in actions ++ events
  did_more events is = ap (λ (l : List Event). l ++ did) h.did ∙ ap (λ (l : List Event). events_in actions ++ l) (sym is)

  still_running : (events : List Event) → events ≡ did → list_any is_stopped did ≡ false → list_any is_stopped (events_in actions ++ events) ≡ false
  still_running events is quiet =
      list_any-append is_stopped (events_in actions) events ∙ neither (list_any is_stopped (events_in actions)) (list_any is_stopped events) h.running (ap (list_any is_stopped) is ∙ quiet)

-- where no command was answered Stopped, what was brought was handled
runs : (s : Setting) (t : CallTrace) (calls : OpenCallsView) (actions : List Action) (own : List Event) (left : ℕ → List (Item CallEnd)) → AreBrought s t calls actions own left → IsRunning actions → AreHandled s t calls actions own left
runs s t calls actions own left h running = record { open_now = h.open_now; reported = h.reported; did = h.did; running = running; taken = h.taken }

-- ---- each kind of action

module _ (s : Setting) (t : CallTrace) (calls new : OpenCallsView) (actions : List Action) (own : List Event) (h : AreHandled s t calls actions own none_left) where
  -- what a client did but for what is declined
  pub brought_hears : (did : List Event) (stream : ℕ) (c : Call Method CallEnd) (items : List (Item CallEnd)) (k : FollowsBy s new actions stream (Handles c did) (λ _. items)) → stream_in c ≡ stream →
      answer_to t (Asked c) ≡ [] → AreBrought s (told_more t c) new (Handles c did k.cut ∷ actions) (own ++ did) (left_on stream items)
  brought_hears did stream c items k on none = record {
    open_now = k.open_now;
    reported = ap (λ (l : List PeerEvent). l ++ Asked c ∷ []) h.reported ∙ sym (ap (map Asked) (calls_more (Handles c did k.cut) actions) ∙ map-append Asked (calls_in actions) (c ∷ []));
    did = did_more s t calls new actions own did stream (Handles c did) items h k on did refl ∙ sym (events_more (Handles c did k.cut) actions);
    taken = λ id. taken_by s t calls new actions own did stream (Handles c did) items h k on (told_more t c) (λ n its left. same_taken t c none n its left) id (stream == id) refl;
  }

  pub handled_hears : (did : List Event) (stream : ℕ) (c : Call Method CallEnd) (items : List (Item CallEnd)) (k : FollowsBy s new actions stream (Handles c did) (λ _. items)) → stream_in c ≡ stream →
      answer_to t (Asked c) ≡ [] → list_any is_stopped did ≡ false → AreHandled s (told_more t c) new (Handles c did k.cut ∷ actions) (own ++ did) (left_on stream items)
  handled_hears did stream c items k on none quiet =
      runs s (told_more t c) new (Handles c did k.cut ∷ actions) (own ++ did) (left_on stream items) (brought_hears did stream c items k on none)
      (ap (list_any is_stopped) (events_more (Handles c did k.cut) actions) ∙ still_running s t calls new actions own did stream (Handles c did) items h k on did refl quiet)

  pub brought_collects : (did : List Event) (stream : ℕ) (items : List (Item CallEnd)) (k : FollowsBy s new actions stream (Collects stream did) (λ _. items)) →
      AreBrought s t new (Collects stream did k.cut ∷ actions) (own ++ did) (left_on stream items)
  brought_collects did stream items k = record {
    open_now = k.open_now;
    reported = h.reported ∙ sym (ap (map Asked) (calls_more (Collects stream did k.cut) actions ∙ append-nil (calls_in actions)));
    did = did_more s t calls new actions own did stream (Collects stream did) items h k refl did refl ∙ sym (events_more (Collects stream did k.cut) actions);
    taken = λ id. taken_by s t calls new actions own did stream (Collects stream did) items h k refl t (λ n its left j. j) id (stream == id) refl;
  }

  pub handled_collects : (did : List Event) (stream : ℕ) (items : List (Item CallEnd)) (k : FollowsBy s new actions stream (Collects stream did) (λ _. items)) → list_any is_stopped did ≡ false →
      AreHandled s t new (Collects stream did k.cut ∷ actions) (own ++ did) (left_on stream items)
  handled_collects did stream items k quiet =
      runs s t new (Collects stream did k.cut ∷ actions) (own ++ did) (left_on stream items) (brought_collects did stream items k)
      (ap (list_any is_stopped) (events_more (Collects stream did k.cut) actions) ∙ still_running s t calls new actions own did stream (Collects stream did) items h k refl did refl quiet)

  pub handled_continues : (stream : ℕ) (items : List (Item CallEnd)) (k : FollowsBy s new actions stream (Continues stream) (λ _. items)) → AreHandled s t new (Continues stream k.cut ∷ actions) own (left_on stream items)
  handled_continues stream items k = record {
    open_now = k.open_now;
    reported = h.reported ∙ sym (ap (map Asked) (calls_more (Continues stream k.cut) actions ∙ append-nil (calls_in actions)));
    did = h.did ∙ sym (events_more (Continues stream k.cut) actions ∙ append-nil (events_in actions));
    running = ap (list_any is_stopped) (events_more (Continues stream k.cut) actions ∙ append-nil (events_in actions)) ∙ h.running;
    taken = λ id. taken_by s t calls new actions own [] stream (Continues stream) items h k refl t (λ n its left j. j) id (stream == id) refl;
  }

-- ---- a call that is dropped

drops_none : (s : Setting) (state : CallState) (id : ℕ) → refusal_for s state (Dropped id) ≡ []
drops_none s NotBegun id = refl
drops_none s (Modifies session true) id = refl
drops_none s (Modifies session false) id = refl
drops_none s (Receives method first is_more) id = refl
drops_none s (Responds waiting) id = refl
drops_none s Over id = refl

all_left : (s : Setting) (t : CallTrace) (calls : OpenCallsView) (actions : List Action) (own : List Event) (stream : ℕ) → AreHandled s t calls actions own (left_on stream []) → AreHandled s t calls actions own none_left
all_left s t calls actions own stream h = record {
  open_now = h.open_now;
  reported = h.reported;
  did = h.did;
  running = h.running;
  taken = λ id. by id (stream == id) (h.taken id);
}
  where
    by : (id : ℕ) (b : Bool) → IsTaken t id (standing s actions id).items (if b then [] else []) → IsTaken t id (standing s actions id).items []
    by id true k = k
    by id false k = k

pub handled_drops : (s : Setting) (t : CallTrace) (calls new : OpenCallsView) (actions : List Action) (own did : List Event) (id : ℕ) → AreHandled s t calls actions own none_left →
    (k : FollowsBy s new actions id (Handles (Dropped id) did) (λ state. refusal_for s state (Dropped id))) → list_any is_stopped did ≡ false →
    AreHandled s (told_more t (Dropped id)) new (Handles (Dropped id) did k.cut ∷ actions) (own ++ did) none_left
handled_drops s t calls new actions own did id h k quiet =
    all_left s (told_more t (Dropped id)) new (Handles (Dropped id) did k.cut ∷ actions) (own ++ did) id
    (handled_hears s t calls new actions own h did id (Dropped id) [] (record {
      cut = k.cut;
      open_now = k.open_now;
      items_are = k.items_are ∙ ap (λ (l : List (Item CallEnd)). (standing s actions id).items ++ l) (drops_none s (standing s actions id).state id);
    }) refl refl quiet)

-- ---- a call that is declined

declined_owes : (s : Setting) (state : CallState) (id : ℕ) (answer : CallEnd) → (state ≡ Over → ⊥) → refusal_for s state (Declined id answer) ≡ Finish answer ∷ []
declined_owes s NotBegun id answer going = refl
declined_owes s (Modifies session true) id answer going = refl
declined_owes s (Modifies session false) id answer going = refl
declined_owes s (Receives method first is_more) id answer going = refl
declined_owes s (Responds waiting) id answer going = refl
declined_owes s Over id answer going = absurd (going refl)

over_owes_none : (s : Setting) (state : CallState) (c : Call Method CallEnd) → state ≡ Over → refusal_for s state c ≡ []
over_owes_none s Over c over = refl
over_owes_none s NotBegun c over = absurd cc
over_owes_none s (Modifies session is_finished) c over = absurd cc
over_owes_none s (Receives method first is_more) c over = absurd cc
over_owes_none s (Responds waiting) c over = absurd cc

module _ (t : CallTrace) (id : ℕ) (answer : CallEnd) where
  abbrev told : CallTrace
  told = told_more t (Declined id answer)

  declined_elsewhere : (k : ℕ) → (id == k) ≡ false → queued_on told k ≡ queued_on t k
  declined_elsewhere k other = by (is_ended t id)
    where
      by : (b : Bool) → queued_on (record t { taken = t.taken ++ (if b then [] else (id, Finish answer) ∷ []) }) k ≡ queued_on t k
      by true = ap (λ (l : List (ℕ × Item CallEnd)). queued_on (record t { taken = l }) k) (append-nil t.taken)
      by false = queued_more t id k (Finish answer) ∙ ap (λ (b : Bool). queued_on t k ++ (if b then Finish answer ∷ [] else [])) other ∙ append-nil (queued_on t k)

  declined_ended : is_ended t id ≡ true → queued_on told id ≡ queued_on t id
  declined_ended e =
      ap (λ (b : Bool). queued_on (record t { taken = t.taken ++ (if b then [] else (id, Finish answer) ∷ []) }) id) e
      ∙ ap (λ (l : List (ℕ × Item CallEnd)). queued_on (record t { taken = l }) id) (append-nil t.taken)

  declined_open : is_ended t id ≡ false → queued_on told id ≡ queued_on t id ++ Finish answer ∷ []
  declined_open e =
      ap (λ (b : Bool). queued_on (record t { taken = t.taken ++ (if b then [] else (id, Finish answer) ∷ []) }) id) e
      ∙ (queued_more t id id (Finish answer) ∙ ap (λ (b : Bool). queued_on t id ++ (if b then Finish answer ∷ [] else [])) (same_self id))

  ends_behind : (taken : List (Item CallEnd)) (e : CallEnd) → queued_on t id ≡ taken ++ Finish e ∷ [] → is_ended t id ≡ true
  ends_behind taken e same = ap (list_any trace.is_end) same ∙ list_any-append trace.is_end taken (Finish e ∷ []) ∙ second_true (list_any trace.is_end taken) true refl

  declined_cut : (items more now : List (Item CallEnd)) → now ≡ items ++ more → IsCutOff t id items → IsCutOff told id now
  declined_cut items more now is cut = record {
    taken = cut.taken;
    missing = cut.missing ++ more;
    items_are = is ∙ ap (λ (l : List (Item CallEnd)). l ++ more) cut.items_are ∙ append_assoc cut.taken cut.missing more;
    unended = cut.unended;
    queued = by (is_ended t id) refl cut.queued;
    early = cut.early;
    later = cut.later;
    frames_are = cut.frames_are;
    reset = cut.reset;
    unclosed = cut.unclosed;
  }
    where
      by : (b : Bool) → is_ended t id ≡ b → (queued_on t id ≡ cut.taken) ⊎ ((e : CallEnd) × (queued_on t id ≡ cut.taken ++ Finish e ∷ [])) → (queued_on told id ≡ cut.taken) ⊎ ((e : CallEnd) × (queued_on told id ≡ cut.taken ++ Finish e ∷ []))
      by true ended (inl q) = inl (declined_ended ended ∙ q)
      by true ended (inr (e, q)) = inr (e, declined_ended ended ∙ q)
      by false ended (inl q) = inr (answer, declined_open ended ∙ ap (λ (l : List (Item CallEnd)). l ++ Finish answer ∷ []) q)
      by false ended (inr (e, q)) = absurd (clash (is_ended t id) (ends_behind cut.taken e q) ended)

  -- A call that is over is owed an end, which answers it; any other is owed the answer.
  declined_here : (s : Setting) (st : Standing) (now : List (Item CallEnd)) → now ≡ st.items ++ refusal_for s st.state (Declined id answer) → IsUnended st → (st.state ≡ Over → has_end st.items ≡ true) →
      IsTaken t id st.items [] → IsTaken told id now []
  declined_here s st now is unended closed (inr cut) = inr (declined_cut st.items (refusal_for s st.state (Declined id answer)) now is cut)
  declined_here s st now is unended closed (inl all) = by (has_end st.items) refl
    where
      queue : queued_on t id ≡ st.items
      queue = sym (append-nil (queued_on t id)) ∙ all

      by : (b : Bool) → has_end st.items ≡ b → IsTaken told id now []
      by true e =
          let over : st.state ≡ Over = elim unended [ inl over ↦ over | inr none ↦ absurd (clash (has_end st.items) e none) ] in
          inl (append-nil (queued_on told id) ∙ declined_ended (ap (list_any trace.is_end) queue ∙ same_ends st.items ∙ e) ∙ queue ∙ sym (append-nil st.items)
          ∙ ap (λ (l : List (Item CallEnd)). st.items ++ l) (sym (over_owes_none s st.state (Declined id answer) over)) ∙ sym is)
      by false e =
          inl (append-nil (queued_on told id) ∙ declined_open (ap (list_any trace.is_end) queue ∙ same_ends st.items ∙ e) ∙ ap (λ (l : List (Item CallEnd)). l ++ Finish answer ∷ []) queue
          ∙ ap (λ (l : List (Item CallEnd)). st.items ++ l) (sym (declined_owes s st.state id answer (λ over. clash (has_end st.items) (closed over) e))) ∙ sym is)

  declined_other : (k : ℕ) (items : List (Item CallEnd)) → (id == k) ≡ false → IsTaken t k items [] → IsTaken told k items []
  declined_other k items other (inl all) = inl (ap (λ (l : List (Item CallEnd)). l ++ []) (declined_elsewhere k other) ∙ all)
  declined_other k items other (inr cut) = inr (record {
    taken = cut.taken;
    missing = cut.missing;
    items_are = cut.items_are;
    unended = cut.unended;
    queued = elim cut.queued [ inl q ↦ inl (declined_elsewhere k other ∙ q) | inr q ↦ inr (q.0, declined_elsewhere k other ∙ q.1) ];
    early = cut.early;
    later = cut.later;
    frames_are = cut.frames_are;
    reset = cut.reset;
    unclosed = cut.unclosed;
  })

pub handled_declines : (s : Setting) (t : CallTrace) (calls new : OpenCallsView) (actions : List Action) (own did : List Event) (id : ℕ) (answer : CallEnd) → AreHandled s t calls actions own none_left →
    (k : FollowsBy s new actions id (Handles (Declined id answer) did) (λ state. refusal_for s state (Declined id answer))) → list_any is_stopped did ≡ false →
    ((standing s actions id).state ≡ Over → has_end (standing s actions id).items ≡ true) →
    AreHandled s (told_more t (Declined id answer)) new (Handles (Declined id answer) did k.cut ∷ actions) (own ++ did) none_left
handled_declines s t calls new actions own did id answer h k quiet closed = record {
  open_now = k.open_now;
  reported = ap (λ (l : List PeerEvent). l ++ Asked (Declined id answer) ∷ []) h.reported ∙ sym (ap (map Asked) (calls_more latest actions) ∙ map-append Asked (calls_in actions) (Declined id answer ∷ []));
  did = ap (λ (l : List Event). l ++ did) h.did ∙ sym (events_more latest actions);
  running = ap (list_any is_stopped) (events_more latest actions) ∙ list_any-append is_stopped (events_in actions) did ∙ neither (list_any is_stopped (events_in actions)) (list_any is_stopped did) h.running quiet;
  taken = λ n. by n (id == n) refl;
}
  where
    latest : Action
    latest = Handles (Declined id answer) did k.cut

    by : (n : ℕ) (b : Bool) → (id == n) ≡ b → IsTaken (told_more t (Declined id answer)) n (standing s (latest ∷ actions) n).items []
    by n true e =
        subst (λ (m : ℕ). IsTaken (told_more t (Declined id answer)) m (standing s (latest ∷ actions) m).items []) (eqb-true id n e)
        (declined_here t id answer s (standing s actions id) (standing s (latest ∷ actions) id).items k.items_are (h.open_now.unended id) closed (h.taken id))
    by n false e =
        subst (λ (st : Standing). IsTaken (told_more t (Declined id answer)) n st.items []) (sym (standing_other s latest actions n e)) (declined_other t id answer n (standing s actions n).items e (h.taken n))
