-- The reset that answers a stream error keeps what holds of calls, also where its stream is over.
use Rattle.std.proofs.Common.{◌≡◌, ℕ, ◌==◌, Bool, true, false, ◌&&◌, ◌||◌, List, [], ◌∷◌, ◌++◌, Option, Some, None, refl, sym, ap, subst, ◌∙◌, inl, inr, arith}
use Rattle.std.specs.Prelude.{not, option_map}
use Rattle.std.specs.List.{list_any}
use Rattle.std.proofs.lemmas.Bool.{eqb-true}
use Rattle.std.proofs.lemmas.List.Folds.{list_any-append}
use Rattle.h2_frames.specs.declared.frame.Frame.{Frame}
use Rattle.h2_exchange.specs.declared.role.Role.{Role}
use Rattle.h2_exchange.specs.declared.role.Role.TheVariants.{Client, Server}
use Rattle.h2_exchange.specs.Blocks.{open_block}
use Rattle.h2_exchange.specs.Exchange.{received, sent}
use Rattle.h2_exchange.specs.Frames.{code_of, is_rst_stream, stream_of}
use Rattle.h2_exchange.specs.Outgoing.{IsErrorReset}
use Rattle.h2_exchange.specs.Requests.{IsRequest}
use Rattle.h2_exchange.specs.StreamParts.{Part, Stopped, IsResponse, has_begun, parts}
use Rattle.h2_exchange.specs.Streams.{has_rst_stream, is_begun, is_ended_by, is_open, is_over}
use Rattle.h2_exchange.specs.Windows.{spent_on}
use Rattle.h2_exchange.proofs.Places.{clash, first_true, same_self, second_true}
use Rattle.h2_exchange.proofs.Steps.{sent_push}
use Rattle.grpc_heads.specs.CallEnd.{call_end_of}
use Rattle.grpc_heads.specs.Written.{response_fields}
use Rattle.grpc_stream.specs.CallTrace.{CallTrace, asked_on}
use Rattle.kept_calls.specs.CallState.{CallState, call_on}
use Rattle.call_hearing.specs.declared.pending.Pending.{Pending}
use Rattle.call_sending.specs.Spelling.{IsHeaded, Sends, Speaks, Spells, parts_on}
use Rattle.call_sending.proofs.Kept.{prepared_same}
use Rattle.call_standing.specs.Standing.{Holds, IsUnkept, StandsOn, State}
use Rattle.call_standing.proofs.Pushed.{holds_pushed, on_kept, parts_beside, pushed}
use Rattle.call_sending.proofs.Sent.{begun_same, ended_same, no_headers, parts_stop, reset_is_plain, spent_same}
use Rattle.call_standing.proofs.Sent.{events_kept}
use Rattle.call_sending.proofs.Stopping.{end_is, headed_more, is_stopped, request_stop, response_stop, same_begun, unstopped}

not_open : (begun over ended : Bool) → over ≡ true → ((begun && not over) && not ended) ≡ true → ⊥
not_open true true ended e h = cc
not_open false true ended e h = cc
not_open begun false ended e h = cc

-- the reset of a stream that began and was not reset by this side
module _ (t : CallTrace) (f : Frame) (opened : open_block (sent t.connection_trace.frames) ≡ None) (rst : is_rst_stream f ≡ true)
    (begun : is_begun t.connection_trace.role t.connection_trace.frames (stream_of f) ≡ true) (unreset : has_rst_stream (sent t.connection_trace.frames) (stream_of f) ≡ false) where
  abbrev next : CallTrace
  next = pushed f t.resets t

  here : (is_rst_stream f && stream_of f == stream_of f) ≡ true
  here = ap (λ (b : Bool). b && stream_of f == stream_of f) rst ∙ same_self (stream_of f)

  parts_now : parts_on next (stream_of f) ≡ parts_on t (stream_of f) ++ Stopped (code_of f) ∷ []
  parts_now =
      ap (λ (fs : List Frame). parts (stream_of f) t.connection_trace.written fs) (sent_push t.connection_trace.frames f)
      ∙ parts_stop (sent t.connection_trace.frames) f opened (reset_is_plain f rst) (stream_of f) t.connection_trace.written here

  no_stop : list_any is_stopped (parts_on t (stream_of f)) ≡ false
  no_stop = unstopped (stream_of f) t.connection_trace.written (sent t.connection_trace.frames) unreset

  over_now : is_over next.connection_trace.frames (stream_of f) ≡ true
  over_now =
      let there : has_rst_stream (sent next.connection_trace.frames) (stream_of f) ≡ true =
      ap (λ (fs : List Frame). has_rst_stream fs (stream_of f)) (sent_push t.connection_trace.frames f)
      ∙ list_any-append (λ (g : Frame). is_rst_stream g && stream_of g == stream_of f) (sent t.connection_trace.frames) (f ∷ [])
      ∙ ap (λ (b : Bool). has_rst_stream (sent t.connection_trace.frames) (stream_of f) || (b || false)) here
      ∙ second_true (has_rst_stream (sent t.connection_trace.frames) (stream_of f)) true refl in
      first_true _ _ (second_true (has_rst_stream (received next.connection_trace.frames) (stream_of f)) _ there)

  closed_now : is_open t.connection_trace.role next.connection_trace.frames (stream_of f) ≡ true → ⊥
  closed_now o =
      not_open (is_begun t.connection_trace.role next.connection_trace.frames (stream_of f)) (is_over next.connection_trace.frames (stream_of f))
      (is_ended_by (sent next.connection_trace.frames) (stream_of f)) over_now o

  spells_on : (role : Role) (rest : List ℕ) → t.connection_trace.role ≡ role → Spells role t (stream_of f) rest → Spells role next (stream_of f) rest
  spells_on Server rest e h =
      let r = response_stop response_fields (parts_on t (stream_of f)) h.bytes h.close (code_of f) h.response no_stop in
      record {
        bytes = h.bytes;
        close = r.0;
        response = subst (λ (ps : List Part). IsResponse response_fields ps h.bytes r.0) (sym parts_now) r.1;
        text = h.text;
        begins = λ b. h.begins (sym (same_begun (parts_on t (stream_of f)) (code_of f)) ∙ ap has_begun (sym parts_now) ∙ b);
        closes = λ c q.
            h.closes c (end_is (call_end_of t.numbers) h.close ∙ ap (option_map (call_end_of t.numbers)) (sym r.2) ∙ sym (end_is (call_end_of t.numbers) r.0) ∙ q);
      }
  spells_on Client rest e h =
      let some : IsHeaded (parts_on t (stream_of f)) = h.headed (ap (λ (r : Role). is_begun r t.connection_trace.frames (stream_of f)) (sym e) ∙ begun) in
      record {
        bytes = h.bytes;
        is_last = h.is_last;
        headed = λ b. subst IsHeaded (sym parts_now) (headed_more (parts_on t (stream_of f)) (Stopped (code_of f)) some);
        request = subst (λ (ps : List Part). IsRequest (asked_on t (stream_of f)).head ps h.bytes h.is_last) (sym parts_now)
            (request_stop (asked_on t (stream_of f)).head (parts_on t (stream_of f)) h.bytes h.is_last (code_of f) some h.request no_stop);
        text = h.text;
        closes = h.closes;
      }

  begun_next : (id : ℕ) → is_begun t.connection_trace.role next.connection_trace.frames id ≡ is_begun t.connection_trace.role t.connection_trace.frames id
  begun_next id = begun_same t.connection_trace.role t.connection_trace.frames f id (no_headers f (reset_is_plain f rst))

  ended_now : is_ended_by (sent next.connection_trace.frames) (stream_of f) ≡ is_ended_by (sent t.connection_trace.frames) (stream_of f)
  ended_now =
      ap (λ (fs : List Frame). is_ended_by fs (stream_of f)) (sent_push t.connection_trace.frames f)
      ∙ ended_same (sent t.connection_trace.frames) f opened (reset_is_plain f rst) (stream_of f)

  speaks_on : (rest : List ℕ) → Speaks t (stream_of f) rest → Speaks next (stream_of f) rest
  speaks_on rest h =
      let spent : spent_on (stream_of f) (sent next.connection_trace.frames) ≡ spent_on (stream_of f) (sent t.connection_trace.frames) =
      ap (spent_on (stream_of f)) (sent_push t.connection_trace.frames f) ∙ spent_same (sent t.connection_trace.frames) f opened (reset_is_plain f rst) (stream_of f) in
      record {
        taken = h.taken;
        begun_first = λ e. absurd (clash _ begun (sym (begun_next (stream_of f)) ∙ e));
        count = omega (arith, h.count, spent);
        whole = λ e. h.whole (sym ended_now ∙ e);
        spelled = λ suited. spells_on t.connection_trace.role rest refl (h.spelled suited);
      }

  unkept_on : (role : Role) → t.connection_trace.role ≡ role → IsUnkept role t (stream_of f) → IsUnkept role next (stream_of f)
  unkept_on Server e h = record {
    no_head = h.no_head;
    no_bytes = h.no_bytes;
    no_end = h.no_end;
    untold = h.untold;
    nothing = h.nothing;
    speaks = speaks_on [] h.speaks;
    ahead = λ o. absurd (closed_now o);
  }
  unkept_on Client e h = absurd (clash _ begun (ap (λ (r : Role). is_begun r t.connection_trace.frames (stream_of f)) e ∙ h.unbegun))

  sends_on : (c : CallState) → c.stream ≡ stream_of f → Sends t c → Sends next c
  sends_on c on h =
      let ended : is_ended_by (sent next.connection_trace.frames) c.stream ≡ is_ended_by (sent t.connection_trace.frames) c.stream =
      subst (λ (k : ℕ). is_ended_by (sent next.connection_trace.frames) k ≡ is_ended_by (sent t.connection_trace.frames) k) (sym on) ended_now in
      record {
        speaks = subst (λ (k : ℕ). Speaks next k c.unsent) (sym on) (speaks_on c.unsent (subst (λ (k : ℕ). Speaks t k c.unsent) on h.speaks));
        ended_is = h.ended_is;
        sent_is = λ e. ended ∙ h.sent_is e;
        fits = h.fits;
        message_is = h.message_is;
        first_is = h.first_is;
        ahead = λ o. absurd (closed_now (subst (λ (k : ℕ). is_open t.connection_trace.role next.connection_trace.frames k ≡ true) on o));
        prepared = λ suited. prepared_same t.connection_trace.role t next c.stream c.ending c.fields refl refl (h.prepared suited);
      }

  reset_on : (pending : Pending) (o : Option CallState) → StandsOn t pending (stream_of f) o → StandsOn next pending (stream_of f) o
  reset_on pending None (inl h) = inl (unkept_on t.connection_trace.role refl h)
  reset_on pending None (inr h) = inr (record {
    begun = begun_next (stream_of f) ∙ h.begun;
    over = over_now;
    rest = h.rest;
    speaks = speaks_on h.rest h.speaks;
    silent = (h.silent.0, events_kept t.connection_trace.role t.connection_trace.limits t.connection_trace.heads t.connection_trace.frames (f ∷ []) ∙ h.silent.1, h.silent.2);
  })
  reset_on pending (Some c) (on, begins, h) = (on, begun_next (stream_of f) ∙ begins, record { sends = sends_on c on h.sends; hears = h.hears; told = h.told })

  on_any : (pending : Pending) (id : ℕ) (o : Option CallState) (b : Bool) → (stream_of f == id) ≡ b → StandsOn t pending id o → StandsOn next pending id o
  on_any pending id o true e h =
      let same : stream_of f ≡ id = eqb-true (stream_of f) id e in
      subst (λ (k : ℕ). StandsOn next pending k o) same (reset_on pending o (subst (λ (k : ℕ). StandsOn t pending k o) (sym same) h))
  on_any pending id o false e h =
      on_kept t f t.resets opened (reset_is_plain f rst) pending id o
      (parts_beside t f t.resets opened (reset_is_plain f rst) id (ap (λ (b : Bool). b && stream_of f == id) rst ∙ e)) h

  pub error_reset_holds : (s : State) → IsErrorReset t.connection_trace.role t.connection_trace.limits t.connection_trace.heads t.connection_trace.frames f → Holds s t → Holds s next
  error_reset_holds s why h =
      holds_pushed t f t.resets opened (reset_is_plain f rst) s (λ id. on_any s.pending id (call_on id s.calls) (stream_of f == id) refl) (λ r. inl why) (λ k inside. inside) h
