-- Calls of which one more item was taken.
use Rattle.std.proofs.Common.{◌≡◌, ℕ, zero, suc, ◌+◌, ◌<◌, ◌≤◌, ◌^◌, ◌==◌, Bool, true, false, List, [], ◌∷◌, ◌++◌, length, sum_by, slice_index_or, slice_set, Option, Some, None, Ok, inl, inr, refl, sym, ap, subst, ◌∙◌, arith}
use Rattle.std.specs.List.{position}
use Rattle.std.proofs.lemmas.Bool.{eqb-true}
use Rattle.grpc_heads.specs.CallEnd.{CallEnd, HalfClose, Status}
use Rattle.grpc_heads.specs.GrpcStatus.{GrpcStatus}
use Rattle.grpc_heads.specs.Trailers.{status_in_trailers}
use Rattle.grpc_heads.specs.Written.{response_fields, trailer_fields}
use Rattle.schema_numbers.specs.Numbers.{Numbers}
use Rattle.h2_exchange.specs.Malformed.{is_malformed_head}
use Rattle.std.specs.Prelude.{not}
use Rattle.grpc_framing.specs.CutterState.{CutterState}
use Rattle.hpack_tables.specs.declared.field.Field.{Field}
use Rattle.hpack_tables.specs.EntrySizes.{size_of}
use Rattle.h2_exchange.specs.declared.role.Role.{Role}
use Rattle.h2_exchange.specs.declared.role.Role.TheVariants.{Client, Server}
use Rattle.h2_exchange.specs.Calls.{cut}
use Rattle.h2_exchange.specs.Streams.{is_open}
use Rattle.h2_exchange.specs.StreamParts.{Item, Message, Finish, IsMessageFirst}
use Rattle.h2_exchange.proofs.Places.{and_parts, not_true}
use Rattle.http_connection.specs.ConnectionTrace.{ConnectionTrace, IsSound}
use Rattle.grpc_stream.specs.CallTrace.{CallTrace, PeerEvent, is_ended, is_taking, is_told_of, queued_on, took}
use Rattle.kept_calls.specs.declared.call.Call.{Call}
use Rattle.kept_calls.specs.declared.call.Ending.{Ending}
use Rattle.kept_calls.specs.declared.call.Ending.TheVariants as end
use Rattle.kept_calls.specs.declared.call.Receiving.{Receiving}
use Rattle.kept_calls.specs.CallState.{CallState, call_on, closed_by, ended, is_sent, state_of, states, with_message}
use Rattle.call_hearing.specs.declared.pending.Pending.{Pending}
use Rattle.call_hearing.specs.declared.pending.Pending.TheVariants.{Nothing, Cut, End}
use Rattle.call_hearing.specs.Listening.{Hears, cut_tells, held_by, held_while, steps_of, still_told, told_later}
use Rattle.call_sending.specs.Spelling.{AreSuited, Prepares, Sends}
use Rattle.call_sending.proofs.Kept.{IsUntouched, sends_kept, speaks_same}
use Rattle.call_sending.proofs.Taking.{queued_elsewhere, sends_end, sends_message, taken_untouched}
use Rattle.call_standing.specs.declared.fate.Fate.{Fate}
use Rattle.call_standing.specs.declared.fate.Fate.TheVariants.{Going}
use Rattle.call_standing.specs.Standing.{Holds, IsGoing, IsUnkept, StandsFor, StandsOn, State, bare, is_once}
use Rattle.call_standing.proofs.Found.{IsChanged, changed, found}
use Rattle.call_standing.proofs.Rest.{rest_of}
use Rattle.call_standing.proofs.Taking.{going}
use Rattle.call_standing.specs.Ends.{last_block, last_ending}
use Rattle.call_standing.proofs.Takes.{half_prepared, status_prepared}
use Rattle.call_standing.proofs.Went.{hears_same}

-- what is kept of the peer of a call stays
pub record KeepsPeer (c d : CallState) : Type 0 where
  pub stream_is : d.stream ≡ c.stream
  pub receiving_is : d.receiving ≡ c.receiving
  pub cutter_is : d.cutter ≡ c.cutter

-- ---- other streams

module _ (t : CallTrace) (id k : ℕ) (what : Item CallEnd) (apart : (id == k) ≡ false) where
  abbrev taken : CallTrace
  taken = took id what t

  untouched : IsUntouched t taken k
  untouched = taken_untouched t id k what apart

  unkept_beside : (role : Role) → IsUnkept role t k → IsUnkept role taken k
  unkept_beside Server h = record {
    no_head = h.no_head;
    no_bytes = h.no_bytes;
    no_end = h.no_end;
    untold = h.untold;
    nothing = queued_elsewhere t id k what apart ∙ h.nothing;
    speaks = speaks_same t taken k untouched [] h.speaks;
    ahead = h.ahead;
  }
  unkept_beside Client h = record { unbegun = h.unbegun; no_event = h.no_event; speaks = speaks_same t taken k untouched [] h.speaks }

  beside : (pending : Pending) (o : Option CallState) → StandsOn t pending k o → StandsOn taken pending k o
  beside pending None (inl h) = inl (unkept_beside t.connection_trace.role h)
  beside pending None (inr h) = inr (record { begun = h.begun; over = h.over; rest = h.rest; speaks = speaks_same t taken k untouched h.rest h.speaks; silent = h.silent })
  beside pending (Some c) (on, begun, h) = (
    on,
    begun,
    record { sends = sends_kept t taken c (subst (λ (s : ℕ). IsUntouched t taken s) (sym on) untouched) h.sends; hears = h.hears; told = h.told },
  )

-- ---- all

module _ (before now : List CallState) (id : ℕ) (c d : CallState) (is : IsChanged id c d before now) (peer : KeepsPeer c d) where
  held_same : (k : ℕ) (b : Bool) → (id == k) ≡ b → held_by (call_on k now) ≡ held_by (call_on k before)
  held_same k true e =
      let same : id ≡ k = eqb-true id k e in
      subst (λ (s : ℕ). held_by (call_on s now) ≡ held_by (call_on s before)) same
      (ap held_by is.here ∙ ap (λ (r : Receiving). held_while r d.cutter.held) peer.receiving_is
      ∙ ap (λ (x : CutterState). held_while c.receiving x.held) peer.cutter_is ∙ sym (ap held_by is.was))
  held_same k false e = ap held_by (is.other k e)

  still_same : (role : Role) (p : Pending) → still_told role now p ≡ still_told role before p
  still_same role Nothing = refl
  still_same role (End k) = refl
  still_same role (Cut k) = ap (λ (bytes : List ℕ). cut_tells role k (cut bytes)) (held_same k (id == k) refl)

  pub later_same : (p : Pending) → told_later now p ≡ told_later before p
  later_same p = ap (λ (n : ℕ). n + steps_of p) (is.held (ap (λ (x : CutterState). length x.held) peer.cutter_is))

  module _ (t : CallTrace) (role : Role) (pending : Pending) (what : Item CallEnd) (told : ended d.ending ≡ false → is_told_of t.connection_trace.role t.reported d.stream ≡ true)
      (sends : Sends t c → Sends (took id what t) d) where
    here : StandsOn t pending id (Some c) → StandsOn (took id what t) pending id (Some d)
    here (on, begun, h) = (
      peer.stream_is ∙ on,
      begun,
      record {
        sends = sends h.sends;
        hears = subst (λ (r : Receiving). Hears t.connection_trace.role t.connection_trace.given t.reported pending d r) (sym peer.receiving_is)
            (hears_same t.connection_trace.role t.connection_trace.given t.reported pending c d peer.stream_is peer.cutter_is c.receiving h.hears);
        told = told;
      },
    )

    each : (k : ℕ) (b : Bool) → (id == k) ≡ b → StandsOn t pending k (call_on k before) → StandsOn (took id what t) pending k (call_on k now)
    each k true e h =
        let same : id ≡ k = eqb-true id k e in
        subst (λ (s : ℕ). StandsOn (took id what t) pending s (call_on s now)) same
        (subst (StandsOn (took id what t) pending id) (sym is.here)
        (here (subst (StandsOn t pending id) is.was (subst (λ (s : ℕ). StandsOn t pending s (call_on s before)) (sym same) h))))
    each k false e h = subst (StandsOn (took id what t) pending k) (sym (is.other k e)) (beside t id k what e pending (call_on k before) h)

    pub taken_holds : Holds (record { role = role; calls = before; pending = pending }) t → Holds (record { role = role; calls = now; pending = pending }) (took id what t)
    taken_holds h = record {
      role_is = h.role_is;
      told = h.told ∙ ap (λ (later : List PeerEvent). t.reported ++ later) (sym (still_same t.connection_trace.role pending));
      each = λ k. each k (id == k) refl (h.each k);
      once = λ k. ap (is_once k) is.streams ∙ h.once k;
      only = h.only;
      unpadded = h.unpadded;
      calls = h.calls;
    }

-- ---- the object

abbrev pub state_with : Role → Pending → List Call → State
state_with role pending items = record { role = role; calls = states items; pending = pending }

pub none_changed : (items : List Call) (at : ℕ) (call new : Call) → call ≡ slice_index_or items at call → state_of new ≡ state_of call → states (slice_set items at new) ≡ states items
none_changed [] at call new is same = refl
none_changed (x ∷ xs) zero call new is same = ap (λ (s : CallState). s ∷ states xs) (same ∙ ap state_of is)
none_changed (x ∷ xs) (suc n) call new is same = ap (λ (cs : List CallState). state_of x ∷ cs) (none_changed xs n call new is same)

module _ (items : List Call) (role : Role) (pending : Pending) (stream at : ℕ) (call new : Call) (p : position (λ (c : Call). c.stream == stream) items ≡ Some at)
    (is : call ≡ slice_index_or items at call) (on_new : new.stream ≡ stream) (peer : KeepsPeer (state_of call) (state_of new)) where
  abbrev change : IsChanged stream (state_of call) (state_of new) (states items) (states (slice_set items at new))
  change = changed items stream at call new p is on_new

  pub later_is : told_later (states (slice_set items at new)) pending ≡ told_later (states items) pending
  later_is = later_same (states items) (states (slice_set items at new)) stream (state_of call) (state_of new) change peer pending

  module _ {C : Type 0} (stands : C → ConnectionTrace → Type 0) (output : C → List ℕ) (law : (conn : C) (c : ConnectionTrace) → stands conn c → IsSound c (output conn)) (conn : C)
      (fate : Fate) (e : fate ≡ Going) (t : CallTrace) (what : Item CallEnd) where
    takes_going : ended call.ending ≡ false → (Sends (bare t) (state_of call) → Sends (took stream what (bare t)) (state_of new)) →
        IsGoing stands output conn (state_with role pending items) t → IsGoing stands output conn (state_with role pending (slice_set items at new)) (took stream what t)
    takes_going unended sends h =
        let stood : StandsOn (bare t) pending stream (Some (state_of call)) = subst (StandsOn (bare t) pending stream) change.was (h.holds.each stream) in
        let known : is_told_of t.connection_trace.role t.reported new.stream ≡ true =
        subst (λ (k : ℕ). is_told_of t.connection_trace.role t.reported k ≡ true) (sym peer.stream_is) (stood.2.told unended) in
        let holds : Holds (state_with role pending (slice_set items at new)) (bare (took stream what t)) =
        taken_holds (states items) (states (slice_set items at new)) stream (state_of call) (state_of new) change peer (bare t) role pending what (λ q. known) sends h.holds in
        record {
          connected = h.connected;
          alive = h.alive;
          holds = holds;
          rest = rest_of (state_with role pending (slice_set items at new)) (bare (took stream what t)) (law conn t.connection_trace h.connected).given holds;
        }

    pub takes : ended call.ending ≡ false → (is_open t.connection_trace.role t.connection_trace.frames stream ≡ true → Sends (bare t) (state_of call) → Sends (took stream what (bare t)) (state_of new)) →
        is_open t.connection_trace.role t.connection_trace.frames stream ≡ true →
        StandsFor stands output fate conn (state_with role pending items) t → StandsFor stands output fate conn (state_with role pending (slice_set items at new)) (took stream what t)
    takes unended sends opened h =
        subst (λ (f : Fate). StandsFor stands output f conn (state_with role pending (slice_set items at new)) (took stream what t)) (sym e)
        (takes_going unended (sends opened) (going stands output conn (state_with role pending items) fate t e h))

module _ (items : List Call) (role : Role) (pending : Pending) (stream at : ℕ) (call new : Call) (p : position (λ (c : Call). c.stream == stream) items ≡ Some at)
    (is : call ≡ slice_index_or items at call)
    {C : Type 0} (stands : C → ConnectionTrace → Type 0) (output : C → List ℕ) (law : (conn : C) (c : ConnectionTrace) → stands conn c → IsSound c (output conn)) (conn : C)
    (fate : Fate) (e : fate ≡ Going) (t : CallTrace) (taking : is_taking t stream ≡ true) (h : StandsFor stands output fate conn (state_with role pending items) t) where
  on : call.stream ≡ stream
  on = (found items stream at call p is).1

  opened : is_open t.connection_trace.role t.connection_trace.frames stream ≡ true
  opened = (and_parts _ _ (and_parts _ _ (and_parts _ _ taking).0).0).1

  unended : ended call.ending ≡ false
  unended =
      let is_going = going stands output conn (state_with role pending items) fate t e h in
      let stood : StandsOn (bare t) pending stream (Some (state_of call)) = subst (StandsOn (bare t) pending stream) (found items stream at call p is).0 (is_going.holds.each stream) in
      let none : is_ended t call.stream ≡ false = subst (λ (k : ℕ). is_ended t k ≡ false) (sym on) (not_true _ (and_parts _ _ taking).1) in
      sym stood.2.sends.ended_is ∙ none

  open_call : is_open t.connection_trace.role t.connection_trace.frames call.stream ≡ true
  open_call = subst (λ (k : ℕ). is_open t.connection_trace.role t.connection_trace.frames k ≡ true) (sym on) opened

  kept_peer : (d : CallState) → state_of new ≡ d → KeepsPeer (state_of call) d → KeepsPeer (state_of call) (state_of new)
  kept_peer d same k = subst (KeepsPeer (state_of call)) (sym same) k

  takes_so : (what : Item CallEnd) (d : CallState) → state_of new ≡ d → KeepsPeer (state_of call) d → (Sends (bare t) (state_of call) → Sends (took call.stream what (bare t)) d) →
      StandsFor stands output fate conn (state_with role pending (slice_set items at new)) (took stream what t)
  takes_so what d same k sends =
      takes items role pending stream at call new p is (ap (λ (s : CallState). s.stream) same ∙ k.stream_is ∙ on) (kept_peer d same k) stands output law conn fate e t what unended
      (λ o s. subst (λ (x : CallState). Sends (took stream what (bare t)) x) (sym same) (subst (λ (n : ℕ). Sends (took n what (bare t)) d) on (sends s))) opened h

  pub takes_message : (m : List ℕ) → length m < 2 ^ 32 → state_of new ≡ with_message m (state_of call) →
      StandsFor stands output fate conn (state_with role pending (slice_set items at new)) (took stream (Message m) t)
  takes_message m small same =
      takes_so (Message m) (with_message m (state_of call)) same (record { stream_is = refl; receiving_is = refl; cutter_is = refl })
      (λ s. sends_message (bare t) (state_of call) open_call unended s m (omega (arith, small)))

  pub takes_end : (close : CallEnd) (ending : Ending) (fields : List Field) → ended ending ≡ true → is_sent ending ≡ false → sum_by size_of fields ≤ 65536 →
      state_of new ≡ closed_by ending fields (state_of call) →
      (AreSuited (took call.stream (Finish close) (bare t)) call.stream → (call.has_message ≡ false → queued_on t call.stream ≡ []) → (call.has_message ≡ true → IsMessageFirst (queued_on t call.stream)) →
      Prepares t.connection_trace.role (took call.stream (Finish close) (bare t)) call.stream ending fields) →
      StandsFor stands output fate conn (state_with role pending (slice_set items at new)) (took stream (Finish close) t)
  takes_end close ending fields ends unsent fits same prepares =
      takes_so (Finish close) (closed_by ending fields (state_of call)) same (record { stream_is = refl; receiving_is = refl; cutter_is = refl })
      (λ s. sends_end (bare t) (state_of call) open_call unended s close ending fields ends unsent fits prepares)

  pub takes_half_close : (fields : List Field) → fields ≡ [] → state_of new ≡ closed_by end.HalfClose fields (state_of call) →
      StandsFor stands output fate conn (state_with role pending (slice_set items at new)) (took stream (Finish HalfClose) t)
  takes_half_close fields none same =
      takes_end HalfClose end.HalfClose fields refl refl (subst (λ (fs : List Field). sum_by size_of fs ≤ 65536) (sym none) (omega arith)) same
      (λ suited q r. half_prepared t.connection_trace.role (bare t) call.stream fields suited)

  none_ended : is_ended t call.stream ≡ false
  none_ended = subst (λ (k : ℕ). is_ended t k ≡ false) (sym on) (not_true _ (and_parts _ _ taking).1)

  -- a status, with the header block that says it
  pub takes_status : (n : Numbers) (status : GrpcStatus) (is_alone : Bool) (fields : List Field) → t.numbers ≡ n → status_in_trailers n (trailer_fields n status) ≡ Ok status →
      is_malformed_head Client (response_fields ++ trailer_fields n status) ≡ false → is_alone ≡ not call.has_message → fields ≡ last_block is_alone n status → sum_by size_of fields ≤ 65536 →
      state_of new ≡ closed_by (last_ending is_alone) fields (state_of call) → StandsFor stands output fate conn (state_with role pending (slice_set items at new)) (took stream (Finish (Status status)) t)
  takes_status n status is_alone fields numbers read sound alone same fits now =
      takes_end (Status status) (last_ending is_alone) fields (ends is_alone) (unsent is_alone) fits now
      (λ suited empty first. subst (Prepares t.connection_trace.role (took call.stream (Finish (Status status)) (bare t)) call.stream (last_ending is_alone)) (sym same)
      (status_prepared n status read sound (bare t) call.stream numbers t.connection_trace.role is_alone none_ended (λ e. empty (was_none call.has_message (sym alone ∙ e))) (λ e. first (was_some call.has_message (sym alone ∙ e))) suited))
    where
      ends : (b : Bool) → ended (last_ending b) ≡ true
      ends true = refl
      ends false = refl

      unsent : (b : Bool) → is_sent (last_ending b) ≡ false
      unsent true = refl
      unsent false = refl

      was_none : (b : Bool) → not b ≡ true → b ≡ false
      was_none true e = absurd cc
      was_none false e = refl

      was_some : (b : Bool) → not b ≡ false → b ≡ true
      was_some true e = refl
      was_some false e = absurd cc

-- what is kept of peers stays, so no event comes nearer
pub later_kept : (items : List Call) (pending : Pending) (stream at : ℕ) (call new : Call) → position (λ (c : Call). c.stream == stream) items ≡ Some at → call ≡ slice_index_or items at call →
    new.stream ≡ call.stream → new.cutter ≡ call.cutter → told_later (states (slice_set items at new)) pending ≡ told_later (states items) pending
later_kept items pending stream at call new p is same cutter =
    let change = changed items stream at call new p is (same ∙ (found items stream at call p is).1) in
    ap (λ (n : ℕ). n + steps_of pending) (change.held (ap (λ (x : CutterState). length x.held) cutter))
