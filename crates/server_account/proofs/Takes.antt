-- An item that is owed is taken to be sent, or its stream was reset before.
use Rattle.std.proofs.Common.{◌≡◌, inl, inr, ℕ, ◌==◌, Bool, ◌&&◌, ◌||◌, true, false, not, List, [], ◌∷◌, ◌++◌, map, Option, Some, refl, sym, ap, subst, ◌∙◌, append_assoc, append-nil, eqb-true}
use Rattle.std.specs.Prelude.{filter, if◌then◌else◌}
use Rattle.std.specs.List.{All, list_any}
use Rattle.std.proofs.lemmas.List.Elements.{All-append, All-cons, All-nil}
use Rattle.grpc_heads.specs.CallEnd.{CallEnd, call_end_of}
use Rattle.grpc_heads.specs.Written.{response_fields}
use Rattle.hpack_tables.specs.declared.field.Field.{Field}
use Rattle.h2_exchange.specs.declared.role.Role.{Role}
use Rattle.h2_exchange.specs.declared.role.Role.TheVariants.{Server}
use Rattle.h2_exchange.specs.Exchange.{Step, received, sent}
use Rattle.h2_exchange.specs.StreamParts.{Item, StreamEnd, Trailers, end_by, parts}
use Rattle.h2_exchange.specs.Streams.{is_begun, is_ended_by, is_open, is_reset}
use Rattle.h2_exchange.proofs.Compressing.{written_blocks_are_read}
use Rattle.h2_exchange.proofs.Places.{clash, same_self}
use Rattle.http_connection.specs.ConnectionTrace.{is_alive}
use Rattle.grpc_stream.specs.CallTrace.{CallTrace, CarriesResponseOn, IsSoundCallTrace, begins_on, is_ended, is_taking, is_told_of, queued_on, suits, took}
use Rattle.grpc_stream.specs.Laws.{AreSuited}
use Rattle.grpc_stream.proofs.Pieces.{as_many, parts_end, response_end}
use Rattle.grpc_stream.proofs.Spoken.{read, spelled_as}
use Rattle.table_model.specs.Event.{Event}
use Rattle.call_answers.specs.declared.orders.Setting.{Setting}
use Rattle.call_orders.specs.Owed.{has_end}
use Rattle.call_orders.specs.Calls.{Action, standing}
use Rattle.session_engine.specs.Queries.{OpenCallsView}
use Rattle.server_account.specs.Agreeing.{AreHandled, IsCutOff, IsServer, IsTaken, left_on}
use Rattle.server_account.proofs.Begun.{told_is_begun}
use Rattle.server_account.proofs.Prefixes.{end_is_owed, same_ends}
use Rattle.server_account.proofs.Resets.{reset_not_open, reset_stays}

-- ---- what was taken

abbrev on_stream : ℕ → ℕ × Item CallEnd → Bool
on_stream id x = x.0 == id

pub queued_more : (t : CallTrace) (stream id : ℕ) (what : Item CallEnd) → queued_on (took stream what t) id ≡ queued_on t id ++ (if stream == id then what ∷ [] else [])
queued_more t stream id what = pushed t.taken
  where
    last : (b : Bool) → map (λ (x : ℕ × Item CallEnd). x.1) (if b then (stream, what) ∷ [] else []) ≡ (if b then what ∷ [] else [])
    last true = refl
    last false = refl

    pushed : (l : List (ℕ × Item CallEnd)) → map (λ x. x.1) (filter (on_stream id) (l ++ (stream, what) ∷ [])) ≡ map (λ x. x.1) (filter (on_stream id) l) ++ (if stream == id then what ∷ [] else [])
    pushed [] = last (stream == id)
    pushed (x ∷ l) = by (on_stream id x) (pushed l)
      where
        by : (b : Bool) → map (λ x. x.1) (filter (on_stream id) (l ++ (stream, what) ∷ [])) ≡ map (λ x. x.1) (filter (on_stream id) l) ++ (if stream == id then what ∷ [] else []) →
            map (λ (y : ℕ × Item CallEnd). y.1) (if b then x ∷ filter (on_stream id) (l ++ (stream, what) ∷ []) else filter (on_stream id) (l ++ (stream, what) ∷ []))
            ≡ map (λ (y : ℕ × Item CallEnd). y.1) (if b then x ∷ filter (on_stream id) l else filter (on_stream id) l) ++ (if stream == id then what ∷ [] else [])
        by true e = ap (λ (r : List (Item CallEnd)). x.1 ∷ r) e
        by false e = e

queued_here : (t : CallTrace) (stream : ℕ) (what : Item CallEnd) → queued_on (took stream what t) stream ≡ queued_on t stream ++ what ∷ []
queued_here t stream what = queued_more t stream stream what ∙ ap (λ (b : Bool). queued_on t stream ++ (if b then what ∷ [] else [])) (same_self stream)

queued_elsewhere : (t : CallTrace) (stream id : ℕ) (what : Item CallEnd) → (stream == id) ≡ false → queued_on (took stream what t) id ≡ queued_on t id
queued_elsewhere t stream id what other = queued_more t stream id what ∙ ap (λ (b : Bool). queued_on t id ++ (if b then what ∷ [] else [])) other ∙ append-nil (queued_on t id)

-- ---- it is taken where the stream is open

and_true : (a b : Bool) → (a && b) ≡ true → (a ≡ true) × (b ≡ true)
and_true true b e = (refl, e)
and_true false b e = absurd cc

taking_open : (t : CallTrace) (id : ℕ) → t.connection_trace.role ≡ Server → is_taking t id ≡ true → is_open Server t.connection_trace.frames id ≡ true
taking_open t id is e =
    subst (λ (r : Role). is_open r t.connection_trace.frames id ≡ true) is
    (and_true (is_alive t.connection_trace) (is_open t.connection_trace.role t.connection_trace.frames id)
    (and_true (is_alive t.connection_trace && is_open t.connection_trace.role t.connection_trace.frames id) (is_told_of t.connection_trace.role t.reported id)
    (and_true (is_alive t.connection_trace && is_open t.connection_trace.role t.connection_trace.frames id && is_told_of t.connection_trace.role t.reported id) (not (is_ended t id)) e).0).0).1

module _ (s : Setting) (t : CallTrace) (output later : List ℕ) (stream : ℕ) (what : Item CallEnd) (more : List (Item CallEnd)) (h : IsServer s t output) (taking : is_taking t stream ≡ true) where
  abbrev now : CallTrace
  now = took stream what t

  not_cut : (items : List (Item CallEnd)) → IsCutOff t stream items → ⊥
  not_cut items cut =
      reset_not_open t.connection_trace.frames stream (ap (λ (x : List Step). is_reset x stream) cut.frames_are ∙ reset_stays cut.early cut.later stream cut.reset) (taking_open t stream h.role taking)

  taken_here : (items : List (Item CallEnd)) → IsTaken t stream items (what ∷ more) → IsTaken now stream items more
  taken_here items (inl all) = inl (ap (λ (l : List (Item CallEnd)). l ++ more) (queued_here t stream what) ∙ append_assoc (queued_on t stream) (what ∷ []) more ∙ all)
  taken_here items (inr cut) = absurd (not_cut items cut)

  taken_elsewhere : (id : ℕ) (items : List (Item CallEnd)) → (stream == id) ≡ false → IsTaken t id items [] → IsTaken now id items []
  taken_elsewhere id items other (inl all) = inl (ap (λ (l : List (Item CallEnd)). l ++ []) (queued_elsewhere t stream id what other) ∙ all)
  taken_elsewhere id items other (inr cut) = inr (record {
    taken = cut.taken;
    missing = cut.missing;
    items_are = cut.items_are;
    unended = cut.unended;
    queued = elim cut.queued [ inl q ↦ inl (queued_elsewhere t stream id what other ∙ q) | inr q ↦ inr (q.0, queued_elsewhere t stream id what other ∙ q.1) ];
    early = cut.early;
    later = cut.later;
    frames_are = cut.frames_are;
    reset = cut.reset;
    unclosed = cut.unclosed;
  })

  taken_by : (id : ℕ) (items : List (Item CallEnd)) (b : Bool) → (stream == id) ≡ b → IsTaken t id items (if b then what ∷ more else []) → IsTaken now id items (if b then more else [])
  taken_by id items true same k = subst (λ (n : ℕ). IsTaken t n items (what ∷ more) → IsTaken now n items more) (eqb-true stream id same) (taken_here items) k
  taken_by id items false other k = taken_elsewhere id items other k

  pub handled_takes : (calls : OpenCallsView) (actions : List Action) (own : List Event) → AreHandled s t calls actions own (left_on stream (what ∷ more)) → AreHandled s now calls actions own (left_on stream more)
  handled_takes calls actions own k = record {
    open_now = k.open_now;
    reported = k.reported;
    did = k.did;
    running = k.running;
    taken = λ id. taken_by id (standing s actions id).items (stream == id) refl (k.taken id);
  }

  suited_takes : suits Server what ≡ true → AreSuited now
  suited_takes suits_too id =
      subst (All (λ (i : Item CallEnd). suits t.connection_trace.role i ≡ true)) (sym (queued_more t stream id what))
      (All-append (λ (i : Item CallEnd). suits t.connection_trace.role i ≡ true) (queued_on t id) (if stream == id then what ∷ [] else []) (h.suited id) (one (stream == id)))
    where
      as_role : suits t.connection_trace.role what ≡ true
      as_role = ap (λ (r : Role). suits r what) h.role ∙ suits_too

      one : (b : Bool) → All (λ (i : Item CallEnd). suits t.connection_trace.role i ≡ true) (if b then what ∷ [] else [])
      one true = All-cons (λ (i : Item CallEnd). suits t.connection_trace.role i ≡ true) what [] as_role (All-nil (λ (i : Item CallEnd). suits t.connection_trace.role i ≡ true))
      one false = All-nil (λ (i : Item CallEnd). suits t.connection_trace.role i ≡ true)

  pub server_takes : IsSoundCallTrace now later → suits Server what ≡ true → IsServer s now later
  server_takes sound suits_too = record {
    sound = sound;
    role = h.role;
    numbers = h.numbers;
    limits = h.limits;
    first = h.first;
    sends = h.sends;
    suited = suited_takes suits_too;
  }

-- ---- else the stream was reset

no_end_read : (read_end : List Field → CallEnd) (close : StreamEnd) (end : Option CallEnd) (fields : List Field) → end ≡ end_by response_fields read_end close → close ≡ Trailers fields → (e : CallEnd) × (end ≡ Some e)
no_end_read read_end close end fields e is = (read_end fields, e ∙ ap (end_by response_fields read_end) is)

-- this side has not ended a stream whose end was not taken
pub unclosed_unless_taken : (t : CallTrace) (output : List ℕ) (id : ℕ) → IsSoundCallTrace t output → AreSuited t → t.connection_trace.role ≡ Server → has_end (queued_on t id) ≡ false → is_ended_by (sent t.connection_trace.frames) id ≡ false
unclosed_unless_taken t output id sound suited is unended = by (spelled_as Server t output sound suited is id) (is_ended_by (sent t.connection_trace.frames) id) refl
  where
    by : CarriesResponseOn t id → (b : Bool) → is_ended_by (sent t.connection_trace.frames) id ≡ b → b ≡ false
    by on false e = refl
    by on true e =
        let fs = sent t.connection_trace.frames in
        let heads = t.connection_trace.written in
        let last = response_end response_fields (parts id heads fs) on.spells.bytes on.spells.close on.spells.response (parts_end id heads fs (as_many fs heads (read written_blocks_are_read t output sound)) e) in
        let end = no_end_read (call_end_of t.numbers) on.spells.close on.end last.0 on.spells.end_is last.1 in
        absurd (clash (has_end (queued_on t id)) (end_is_owed on.messages on.rest on.end end.0 (queued_on t id) end.1 on.front) unended)

reset_of : (begun reset other ended : Bool) → begun ≡ true → ended ≡ false → ((begun && not (reset || other && ended)) && not ended) ≡ false → reset ≡ true
reset_of true true other ended b e none = refl
reset_of true false true false b e none = absurd cc
reset_of true false false false b e none = absurd cc
reset_of true false true true b e none = absurd cc
reset_of true false false true b e none = absurd cc
reset_of false reset other ended b e none = absurd cc

open_is_false : (a o t n : Bool) → a ≡ true → t ≡ true → n ≡ true → (a && o && t && n) ≡ false → o ≡ false
open_is_false true true true true a t n e = absurd cc
open_is_false true false t n p q r e = refl
open_is_false true true true false a t n e = absurd cc
open_is_false true true false n a t r e = absurd cc
open_is_false false o t n p q r e = absurd cc

module _ (s : Setting) (t : CallTrace) (output : List ℕ) (id : ℕ) (h : IsServer s t output) (refused : is_taking t id ≡ false) (alive : is_alive t.connection_trace ≡ true)
    (told : list_any (begins_on id) t.reported ≡ true) (unended : has_end (queued_on t id) ≡ false) where
  not_open : is_open Server t.connection_trace.frames id ≡ false
  not_open =
      let told_too : is_told_of t.connection_trace.role t.reported id ≡ true = ap (λ (r : Role). is_told_of r t.reported id) h.role ∙ told in
      let going : not (is_ended t id) ≡ true = ap not (same_ends (queued_on t id) ∙ unended) in
      sym (ap (λ (r : Role). is_open r t.connection_trace.frames id) h.role)
      ∙ open_is_false (is_alive t.connection_trace) (is_open t.connection_trace.role t.connection_trace.frames id) (is_told_of t.connection_trace.role t.reported id) (not (is_ended t id)) alive told_too going refused

  unclosed : is_ended_by (sent t.connection_trace.frames) id ≡ false
  unclosed = unclosed_unless_taken t output id h.sound h.suited h.role unended

  was_reset : is_reset t.connection_trace.frames id ≡ true
  was_reset =
      reset_of (is_begun Server t.connection_trace.frames id) (is_reset t.connection_trace.frames id) (is_ended_by (received t.connection_trace.frames) id) (is_ended_by (sent t.connection_trace.frames) id)
      (told_is_begun t output id h.sound h.role told) unclosed not_open

  -- nothing more is taken for it
  pub cut_off : (items left : List (Item CallEnd)) → IsTaken t id items left → IsTaken t id items []
  cut_off items left (inr cut) = inr cut
  cut_off items left (inl all) = inr (record {
    taken = queued_on t id;
    missing = left;
    items_are = sym all;
    unended = unended;
    queued = inl refl;
    early = t.connection_trace.frames;
    later = [];
    frames_are = sym (append-nil t.connection_trace.frames);
    reset = was_reset;
    unclosed = unclosed;
  })

  left_by : (k : ℕ) (items left : List (Item CallEnd)) (b : Bool) → (id == k) ≡ b → IsTaken t k items (if b then left else []) → IsTaken t k items (if b then [] else [])
  left_by k items left true same j = subst (λ (n : ℕ). IsTaken t n items left → IsTaken t n items []) (eqb-true id k same) (cut_off items left) j
  left_by k items left false other j = j

  pub handled_refuses : (left : List (Item CallEnd)) (calls : OpenCallsView) (actions : List Action) (own : List Event) → AreHandled s t calls actions own (left_on id left) → AreHandled s t calls actions own (left_on id [])
  handled_refuses left calls actions own k = record {
    open_now = k.open_now;
    reported = k.reported;
    did = k.did;
    running = k.running;
    taken = λ n. left_by n (standing s actions n).items left (id == n) refl (k.taken n);
  }
