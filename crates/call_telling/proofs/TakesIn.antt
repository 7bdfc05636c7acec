-- An event is taken in: what holds of the streams that it is not of, and of all where it holds of its own.
use Rattle.std.proofs.Common.{◌≡◌, ℕ, Bool, true, false, List, [], ◌∷◌, ◌++◌, map, Option, Some, None, refl, sym, ap, subst, ◌∙◌, inl, inr, append_assoc}
use Rattle.std.specs.List.{list_any}
use Rattle.std.proofs.lemmas.List.{append-nil, append_cancel_left}
use Rattle.std.proofs.lemmas.List.Folds.{list_any-append}
use Rattle.grpc_heads.specs.CallEnd.{CallEnd}
use Rattle.grpc_framing.specs.CutterState.{CutterState}
use Rattle.h2_exchange.specs.declared.role.Role.{Role}
use Rattle.h2_exchange.specs.declared.role.Role.TheVariants.{Client, Server}
use Rattle.h2_exchange.specs.Calls.{is_ended_on}
use Rattle.h2_exchange.specs.Events.{Event}
use Rattle.h2_exchange.specs.StreamParts.{Item}
use Rattle.h2_exchange.proofs.Places.{first_true, neither, or_parts}
use Rattle.http_connection.specs.ConnectionTrace.{events_in}
use Rattle.grpc_stream.specs.CallTrace.{CallTrace, PeerEvent, begins_on, is_told_of, queued_on}
use Rattle.kept_calls.specs.declared.call.Receiving.{Receiving}
use Rattle.kept_calls.specs.CallState.{CallState, call_on}
use Rattle.call_hearing.specs.declared.pending.Pending.{Pending}
use Rattle.call_hearing.specs.declared.pending.Pending.TheVariants.{Nothing}
use Rattle.call_hearing.specs.Laws.{tells}
use Rattle.call_hearing.specs.Listening.{has_event, heads_on, is_on, still_told, told_by}
use Rattle.call_hearing.proofs.Lasting.{listening_lasts, no_more_bytes, off_bytes, off_end, off_head, still_none}
use Rattle.call_hearing.proofs.Telling.{events_tell}
use Rattle.call_sending.specs.Spelling.{Sends}
use Rattle.call_sending.proofs.Kept.{IsUntouched, sends_kept, speaks_same}
use Rattle.call_telling.specs.Giving.{took_in}
use Rattle.call_standing.specs.Standing.{Holds, IsGone, IsSilent, IsUnkept, StandsOn, State, is_once}

module _ (t : CallTrace) (e : Event) (ps : List PeerEvent) (taken : List (ℕ × Item CallEnd)) where
  abbrev next : CallTrace
  next = took_in t e ps taken

  pub untouched : (id : ℕ) → queued_on next id ≡ queued_on t id → IsUntouched t next id
  untouched id queued = record {
    role_is = refl;
    numbers_are = refl;
    queued_is = queued;
    head_is = refl;
    parts_are = refl;
    spent_is = refl;
    ended_is = refl;
    begun = λ b. b;
    begun_before = λ r b. b;
    opened = λ o. o;
  }

  pub told_still : (role : Role) (id : ℕ) → is_told_of role t.reported id ≡ true → is_told_of role (t.reported ++ ps) id ≡ true
  told_still Server id h = list_any-append (begins_on id) t.reported ps ∙ first_true (list_any (begins_on id) t.reported) (list_any (begins_on id) ps) h
  told_still Client id h = refl

  -- ---- other streams

  module _ (id : ℕ) (off : is_on id e ≡ false) (none : list_any (begins_on id) ps ≡ false) (queued : queued_on next id ≡ queued_on t id) where
    unkept_beside : (role : Role) → IsUnkept role t id → IsUnkept role next id
    unkept_beside Server h = record {
      no_head = still_none (heads_on id) t.connection_trace.given e (off_head id e off) ∙ h.no_head;
      no_bytes = no_more_bytes id t.connection_trace.given e (off_bytes id e off) ∙ h.no_bytes;
      no_end = still_none (is_ended_on id) t.connection_trace.given e (off_end id e off) ∙ h.no_end;
      untold = list_any-append (begins_on id) t.reported ps ∙ neither (list_any (begins_on id) t.reported) (list_any (begins_on id) ps) h.untold none;
      nothing = queued ∙ h.nothing;
      speaks = speaks_same t next id (untouched id queued) [] h.speaks;
      ahead = h.ahead;
    }
    unkept_beside Client h = record {
      unbegun = h.unbegun;
      no_event = still_none (is_on id) t.connection_trace.given e off ∙ h.no_event;
      speaks = speaks_same t next id (untouched id queued) [] h.speaks;
    }

  -- ---- streams that are over

  module _ (later : List Event) (split : events_in t.connection_trace ≡ (t.connection_trace.given ++ e ∷ []) ++ later) where
    pub gone_silent : (id : ℕ) → IsGone t id → (is_on id e ≡ false) × IsSilent next.connection_trace id
    gone_silent id h =
        let same : h.silent.0 ≡ e ∷ later =
        append_cancel_left t.connection_trace.given h.silent.0 (e ∷ later) (sym h.silent.1 ∙ split ∙ append_assoc t.connection_trace.given (e ∷ []) later) in
        let none = or_parts (is_on id e) (has_event later id) (sym (ap (λ (es : List Event). has_event es id) same) ∙ h.silent.2) in
        (none.0, (later, split, none.1))

    pub gone_still : (id : ℕ) → queued_on next id ≡ queued_on t id → IsGone t id → IsGone next id
    gone_still id queued h = record {
      begun = h.begun;
      over = h.over;
      rest = h.rest;
      speaks = speaks_same t next id (untouched id queued) h.rest h.speaks;
      silent = (gone_silent id h).1;
    }

    beside : (now : Pending) (id : ℕ) (o : Option CallState) → is_on id e ≡ false → list_any (begins_on id) ps ≡ false → queued_on next id ≡ queued_on t id → StandsOn t Nothing id o → StandsOn next now id o
    beside now id None off none queued (inl h) = inl (unkept_beside id off none queued t.connection_trace.role h)
    beside now id None off none queued (inr h) = inr (gone_still id queued h)
    beside now id (Some c) off none queued (on, begun, h) = (
      on,
      begun,
      record {
        sends = sends_kept t next c (subst (IsUntouched t next) (sym on) (untouched id queued)) h.sends;
        hears = listening_lasts.pending t.connection_trace.role next.connection_trace.given next.reported Nothing now c c.receiving (λ q. refl)
            (listening_lasts.reported t.connection_trace.role next.connection_trace.given t.reported ps Nothing c c.receiving
            (listening_lasts.elsewhere t.connection_trace.role t.connection_trace.given e t.reported Nothing c c.receiving (subst (λ (k : ℕ). is_on k e ≡ false) (sym on) off) h.hears));
        told = λ u. told_still t.connection_trace.role c.stream (h.told u);
      },
    )

    -- ---- all

    -- what holds of a stream that the event is not of
    pub record IsBesides (before cs : List CallState) (id : ℕ) : Type 0 where
      pub same : call_on id cs ≡ call_on id before
      pub none_begins : list_any (begins_on id) ps ≡ false
      pub none_queued : queued_on next id ≡ queued_on t id

    module _ (s : State) (cs : List CallState) (now : Pending) (quiet : s.pending ≡ Nothing) (told_is : tells t.connection_trace.role t.numbers t.connection_trace.given e ≡ ps ++ still_told t.connection_trace.role cs now)
        (besides : (id : ℕ) → is_on id e ≡ false → IsBesides s.calls cs id) (here : (id : ℕ) → is_on id e ≡ true → StandsOn t Nothing id (call_on id s.calls) → StandsOn next now id (call_on id cs))
        (once : (id : ℕ) → is_once id (map (λ (c : CallState). c.stream) cs) ≡ true) (h : Holds s t) where
      stood : (id : ℕ) → StandsOn t Nothing id (call_on id s.calls)
      stood id = subst (λ (p : Pending). StandsOn t p id (call_on id s.calls)) quiet (h.each id)

      each_now : (id : ℕ) (b : Bool) → is_on id e ≡ b → StandsOn next now id (call_on id cs)
      each_now id true on = here id on (stood id)
      each_now id false off =
          let b = besides id off in
          subst (StandsOn next now id) (sym b.same) (beside now id (call_on id s.calls) off b.none_begins b.none_queued (stood id))

      told_before : told_by t.connection_trace.role t.numbers t.connection_trace.given ≡ t.reported
      told_before = h.told ∙ ap (λ (p : Pending). t.reported ++ still_told t.connection_trace.role s.calls p) quiet ∙ append-nil t.reported

      pub takes_in : Holds (record { role = s.role; calls = cs; pending = now }) next
      takes_in = record {
        role_is = h.role_is;
        told =
            events_tell t.connection_trace.role t.numbers t.connection_trace.given e
            ∙ ap (λ (l : List PeerEvent). l ++ tells t.connection_trace.role t.numbers t.connection_trace.given e) told_before
            ∙ ap (λ (l : List PeerEvent). t.reported ++ l) told_is
            ∙ sym (append_assoc t.reported ps (still_told t.connection_trace.role cs now));
        each = λ id. each_now id (is_on id e) refl;
        once = once;
        only = h.only;
        unpadded = h.unpadded;
        calls = h.calls;
      }

-- ---- what is kept of a peer changes, and nothing is taken to be sent

abbrev pub with_peer : Receiving → CutterState → CallState → CallState
with_peer r k c = record c { receiving = r; cutter = k }

pub sends_as : (t : CallTrace) (c : CallState) (r : Receiving) (k : CutterState) → Sends t c → Sends t (with_peer r k c)
sends_as t c r k h = record {
  speaks = h.speaks;
  ended_is = h.ended_is;
  sent_is = h.sent_is;
  fits = h.fits;
  message_is = h.message_is;
  first_is = h.first_is;
  ahead = h.ahead;
  prepared = h.prepared;
}
