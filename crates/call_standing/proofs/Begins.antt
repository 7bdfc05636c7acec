-- A call that a client begins.
use Rattle.std.proofs.Common.{◌≡◌, ◌⊎◌, ℕ, ◌==◌, Bool, true, false, ◌||◌, List, [], ◌∷◌, ◌++◌, map, Option, Some, None, inl, inr, refl, sym, ap, subst, ◌∙◌, append_assoc, arith}
use Rattle.std.specs.Prelude.{not, if◌then◌else◌}
use Rattle.std.specs.List.{Contains, find, flat_map, list_any}
use Rattle.std.proofs.lemmas.Bool.{eqb-true, false≢true}
use Rattle.std.proofs.lemmas.Bool.Decides.{nat_tests}
use Rattle.std.proofs.lemmas.List.{append-nil, map-append}
use Rattle.std.proofs.lemmas.List.Folds.{list_any-append}
use Rattle.h2_frames.specs.declared.frame.Frame.{Frame}
use Rattle.h2_frames.specs.declared.frame.Frame.TheVariants.{Content, RstStream}
use Rattle.h2_frames.specs.declared.frame.FrameBody.{FrameBody}
use Rattle.hpack_tables.specs.declared.field.Field.{Field}
use Rattle.h2_exchange.specs.declared.role.Role.{Role}
use Rattle.h2_exchange.specs.declared.role.Role.TheVariants.{Client, Server}
use Rattle.h2_exchange.specs.Calls.{cut}
use Rattle.h2_exchange.specs.Events.{Event, Head, Data, Ended, Reset, GoneAway, bytes_of, bytes_on}
use Rattle.h2_exchange.specs.Exchange.{Step, Sent, sent}
use Rattle.h2_exchange.specs.Frames.{has_padding, is_rst_stream, stream_of}
use Rattle.h2_exchange.specs.Outgoing.{IsErrorReset}
use Rattle.h2_exchange.specs.Requests.{IsRequest}
use Rattle.h2_exchange.specs.StreamParts.{Part, Fields, parts}
use Rattle.h2_exchange.specs.Streams.{begun, is_begun}
use Rattle.h2_exchange.proofs.Looking.{or_nothing}
use Rattle.h2_exchange.proofs.Places.{and_parts, clash, or_parts, same_self, second_true, weaker}
use Rattle.h2_exchange.proofs.Steps.{begun_has, over_stays}
use Rattle.grpc_framing.specs.Framing.{front_at}
use Rattle.grpc_heads.specs.Written.{request_fields}
use Rattle.grpc_heads.specs.declared.head.Method.{Method}
use Rattle.http_connection.specs.ConnectionTrace.{wrote}
use Rattle.grpc_stream.specs.CallTrace.{CallTrace, PeerEvent, changed, head_by, is_end, is_told_of, queued_on, text_of}
use Rattle.kept_calls.specs.declared.call.Ending.TheVariants as end
use Rattle.kept_calls.specs.declared.call.Receiving.TheVariants.{Open}
use Rattle.kept_calls.specs.CallState.{CallState, began, call_on, fresh_cutter}
use Rattle.call_hearing.specs.declared.pending.Pending.{Pending}
use Rattle.call_hearing.specs.declared.pending.Pending.TheVariants.{Nothing, Cut, End}
use Rattle.call_hearing.specs.Listening.{Cuts, Hears, cut_tells, ends_answers, has_event, held_by, is_on, still_told}
use Rattle.call_hearing.proofs.Beginning.{nothing_cut}
use Rattle.call_sending.specs.Spelling.{Asks, IsAhead, IsHeaded, Prepares, Sends, Speaks, Spells, parts_on}
use Rattle.call_sending.proofs.Begins.{AreBlock, Begins}
use Rattle.call_sending.proofs.Kept.{IsUntouched, sends_kept, speaks_same}
use Rattle.call_sending.proofs.Moved.{open_back}
use Rattle.call_sending.proofs.Moving.{is_block}
use Rattle.call_standing.specs.Standing.{Holds, IsGone, IsUnbegun, IsUnkept, StandsOn, is_once}
use Rattle.call_standing.proofs.Sent.{events_kept}
use Rattle.call_standing.proofs.Went.{last_split, streams}

-- ---- one more at the end of a list

module _ {A : Type 0} (p : A → Bool) where
  find_beside : (xs : List A) (y : A) → p y ≡ false → find p (xs ++ y ∷ []) ≡ find p xs
  find_beside [] y e = ap (λ (b : Bool). if b then Some y else None) e
  find_beside (x ∷ xs) y e = ap (λ (o : Option A). if p x then Some x else o) (find_beside xs y e)

  find_last : (xs : List A) (y : A) → list_any p xs ≡ false → p y ≡ true → find p (xs ++ y ∷ []) ≡ Some y
  find_last [] y none e = ap (λ (b : Bool). if b then Some y else None) e
  find_last (x ∷ xs) y none e =
      let both = or_parts (p x) (list_any p xs) none in
      ap (λ (b : Bool). if b then Some x else find p (xs ++ y ∷ [])) both.0 ∙ find_last xs y both.1 e

  none_found : (xs : List A) → find p xs ≡ None → list_any p xs ≡ false
  none_found [] e = refl
  none_found (x ∷ xs) e = by (p x) e (none_found xs)
    where
      by : (b : Bool) → (if b then Some x else find p xs) ≡ None → (find p xs ≡ None → list_any p xs ≡ false) → (b || list_any p xs) ≡ false
      by true e later = absurd cc
      by false e later = later e

any_stream : (k : ℕ) (cs : List CallState) → list_any (λ (i : ℕ). i == k) (streams cs) ≡ list_any (λ (c : CallState). c.stream == k) cs
any_stream k [] = refl
any_stream k (c ∷ cs) = ap (λ (b : Bool). (c.stream == k) || b) (any_stream k cs)

any_call : (k : ℕ) (xs : List (ℕ × Method)) → list_any (λ (call : ℕ × Method). call.0 == k) xs ≡ list_any (λ (i : ℕ). i == k) (map (λ (call : ℕ × Method). call.0) xs)
any_call k [] = refl
any_call k (x ∷ xs) = ap (λ (b : Bool). (x.0 == k) || b) (any_call k xs)

once_more : (k id : ℕ) (ids : List ℕ) → is_once k ids ≡ true → list_any (λ (i : ℕ). i == id) ids ≡ false → is_once k (ids ++ id ∷ []) ≡ true
once_more k id [] once none = by (id == k)
  where
    by : (b : Bool) → (if b then true else true) ≡ true
    by true = refl
    by false = refl
once_more k id (i ∷ ids) once none = by (i == k) refl once (λ again. once_more k id ids again apart.1)
  where
    apart : ((i == id) ≡ false) × (list_any (λ (j : ℕ). j == id) ids ≡ false)
    apart = or_parts (i == id) (list_any (λ (j : ℕ). j == id) ids) none

    other : (i == k) ≡ true → (id == k) ≡ false
    other e = let off : (i == id) ≡ false = apart.0 in grind (arith, nat_tests)

    by : (b : Bool) → (i == k) ≡ b → (if b then not (list_any (λ (j : ℕ). j == k) ids) else is_once k ids) ≡ true → (is_once k ids ≡ true → is_once k (ids ++ id ∷ []) ≡ true) →
        (if b then not (list_any (λ (j : ℕ). j == k) (ids ++ id ∷ [])) else is_once k (ids ++ id ∷ [])) ≡ true
    by true e h later =
        ap not (list_any-append (λ (j : ℕ). j == k) ids (id ∷ []) ∙ ap (λ (b : Bool). list_any (λ (j : ℕ). j == k) ids || (b || false)) (other e) ∙ or_nothing (list_any (λ (j : ℕ). j == k) ids)) ∙ h
    by false e h later = later h

-- ---- a stream of which nothing was heard

no_bytes : (id : ℕ) (e : Event) → is_on id e ≡ false → bytes_of id e ≡ []
no_bytes id (Data stream bytes) e = ap (λ (b : Bool). if b then bytes else []) e
no_bytes id other e = refl

silent_bytes : (id : ℕ) (es : List Event) → has_event es id ≡ false → bytes_on id es ≡ []
silent_bytes id [] none = refl
silent_bytes id (e ∷ es) none =
    let both = or_parts (is_on id e) (has_event es id) none in
    ap (λ (bytes : List ℕ). bytes ++ bytes_on id es) (no_bytes id e both.0) ∙ silent_bytes id es both.1

ends_on : (id : ℕ) (e : Event) → ends_answers id e ≡ true → is_on id e ≡ true
ends_on id (Head stream fields last) e = (and_parts last (stream == id) e).1
ends_on id (Ended stream) e = e
ends_on id (Reset stream why) e = e
ends_on id (Data stream bytes) e = absurd cc
ends_on id (GoneAway stream why) e = absurd cc

-- ---- a frame of the block that begins the stream

-- a sent frame stands among the earlier steps, or is one of the block
block_at : (x : List Step) (fs : List Frame) (past behind : List Step) (f : Frame) → x ++ map Sent fs ≡ past ++ Sent f ∷ behind → AreBlock fs → ((more : List Step) × (x ≡ past ++ Sent f ∷ more)) ⊎ (is_block f ≡ true)
block_at x [] past behind f e h = inl (behind, sym (append-nil x) ∙ e)
block_at x (g ∷ fs) past behind f e (now, h) = by (block_at (x ++ Sent g ∷ []) fs past behind f (append_assoc x (Sent g ∷ []) (map Sent fs) ∙ e) h)
  where
    is_it : ((x ≡ past) × (Sent g ≡ Sent f)) ⊎ ((rest : List Step) × (x ≡ past ++ Sent f ∷ rest)) → ((more : List Step) × (x ≡ past ++ Sent f ∷ more)) ⊎ (is_block f ≡ true)
    is_it (inl (front, same)) = let frame : g ≡ f = cc in inr (sym (ap is_block frame) ∙ now)
    is_it (inr found) = inl found

    by : ((more : List Step) × (x ++ Sent g ∷ [] ≡ past ++ Sent f ∷ more)) ⊎ (is_block f ≡ true) → ((more : List Step) × (x ≡ past ++ Sent f ∷ more)) ⊎ (is_block f ≡ true)
    by (inl (more, split)) = is_it (last_split x past more (Sent g) (Sent f) split)
    by (inr is) = inr is

not_reset : (f : Frame) → is_block f ≡ true → is_rst_stream f ≡ true → ⊥
not_reset (RstStream b) is rst = absurd (false≢true is)
not_reset other is rst = absurd (false≢true rst)

-- ---- all calls

module _ (t : CallTrace) (id : ℕ) (method : Method) (fs : List Frame) (client : t.connection_trace.role ≡ Client)
    (b : Begins t.connection_trace.frames t.connection_trace.written id (request_fields method) fs) (blocks : AreBlock fs) (unbegun : is_begun Client t.connection_trace.frames id ≡ false) where
  abbrev pub next : CallTrace
  next = record (changed (wrote fs (request_fields method ∷ [])) t) { begun = t.begun ++ (id, method) ∷ [] }

  here_unbegun : is_begun t.connection_trace.role t.connection_trace.frames id ≡ false
  here_unbegun = ap (λ (r : Role). is_begun r t.connection_trace.frames id) client ∙ unbegun

  begun_at : (k : ℕ) → is_begun t.connection_trace.role next.connection_trace.frames k ≡ (is_begun t.connection_trace.role t.connection_trace.frames k || id == k)
  begun_at k = subst (λ (r : Role). is_begun r next.connection_trace.frames k ≡ (is_begun r t.connection_trace.frames k || id == k)) (sym client) (b.begun_is k)

  begun_now : is_begun t.connection_trace.role next.connection_trace.frames id ≡ true
  begun_now = begun_at id ∙ second_true (is_begun t.connection_trace.role t.connection_trace.frames id) (id == id) (same_self id)

  -- ---- other streams

  module _ (k : ℕ) (apart : (id == k) ≡ false) where
    begun_beside : is_begun t.connection_trace.role next.connection_trace.frames k ≡ is_begun t.connection_trace.role t.connection_trace.frames k
    begun_beside =
        begun_at k ∙ ap (λ (c : Bool). is_begun t.connection_trace.role t.connection_trace.frames k || c) apart ∙ or_nothing (is_begun t.connection_trace.role t.connection_trace.frames k)

    client_beside : is_begun Client next.connection_trace.frames k ≡ is_begun Client t.connection_trace.frames k
    client_beside = b.begun_is k ∙ ap (λ (c : Bool). is_begun Client t.connection_trace.frames k || c) apart ∙ or_nothing (is_begun Client t.connection_trace.frames k)

    untouched : IsUntouched t next k
    untouched = record {
      role_is = refl;
      numbers_are = refl;
      queued_is = refl;
      head_is = ap head_by (find_beside (λ (call : ℕ × Method). call.0 == k) t.begun (id, method) apart);
      parts_are =
          b.parts_are k
          ∙ ap (λ (c : Bool). parts k t.connection_trace.written (sent t.connection_trace.frames) ++ (if c then Fields (request_fields method) false ∷ [] else [])) apart
          ∙ append-nil (parts k t.connection_trace.written (sent t.connection_trace.frames));
      spent_is = b.spent_is k;
      ended_is = b.ended_is k;
      begun = λ e. sym begun_beside ∙ e;
      begun_before = λ role e. sym client_beside ∙ e;
      opened = open_back t.connection_trace.role t.connection_trace.frames fs k begun_beside;
    }

    unkept_still : (role : Role) → IsUnkept role t k → IsUnkept role next k
    unkept_still Server h = record {
      no_head = h.no_head;
      no_bytes = h.no_bytes;
      no_end = h.no_end;
      untold = h.untold;
      nothing = h.nothing;
      speaks = speaks_same t next k untouched [] h.speaks;
      ahead = λ o. untouched.parts_are ∙ h.ahead (untouched.opened o);
    }
    unkept_still Client h = record { unbegun = client_beside ∙ h.unbegun; no_event = h.no_event; speaks = speaks_same t next k untouched [] h.speaks }

    gone_still : IsGone t k → IsGone next k
    gone_still h = record {
      begun = begun_beside ∙ h.begun;
      over = over_stays t.connection_trace.frames (map Sent fs) k h.over;
      rest = h.rest;
      speaks = speaks_same t next k untouched h.rest h.speaks;
      silent = (h.silent.0, events_kept t.connection_trace.role t.connection_trace.limits t.connection_trace.heads t.connection_trace.frames fs ∙ h.silent.1, h.silent.2);
    }

    beside : (pending : Pending) (o : Option CallState) → StandsOn t pending k o → StandsOn next pending k o
    beside pending None (inl h) = inl (unkept_still t.connection_trace.role h)
    beside pending None (inr h) = inr (gone_still h)
    beside pending (Some c) (on, begun, h) = (
      on,
      begun_beside ∙ begun,
      record { sends = sends_kept t next c (subst (IsUntouched t next) (sym on) untouched) h.sends; hears = h.hears; told = h.told },
    )

  -- ---- the new one

  abbrev new : CallState
  new = began id Open true

  parts_now : parts_on t id ≡ [] → parts_on next id ≡ Fields (request_fields method) false ∷ []
  parts_now none =
      b.parts_are id
      ∙ ap (λ (c : Bool). parts_on t id ++ (if c then Fields (request_fields method) false ∷ [] else [])) (same_self id)
      ∙ ap (λ (ps : List Part). ps ++ Fields (request_fields method) false ∷ []) none

  head_now : list_any (λ (call : ℕ × Method). call.0 == id) t.begun ≡ false → head_by (find (λ (call : ℕ × Method). call.0 == id) next.begun) ≡ request_fields method
  head_now none = ap head_by (find_last (λ (call : ℕ × Method). call.0 == id) t.begun (id, method) none (same_self id))

  module _ (was : IsUnbegun t id) (uncalled : list_any (λ (call : ℕ × Method). call.0 == id) t.begun ≡ false) where
    none_queued : queued_on t id ≡ []
    none_queued = (was.speaks.begun_first here_unbegun).0

    head_alone : parts_on next id ≡ Fields (request_fields method) false ∷ []
    head_alone = parts_now (was.speaks.begun_first here_unbegun).1

    asks : Asks next id []
    asks = record {
      bytes = [];
      is_last = false;
      headed = λ e. subst IsHeaded (sym head_alone) tt;
      request = subst (λ (ps : List Part). IsRequest (head_by (find (λ (call : ℕ × Method). call.0 == id) next.begun)) ps [] false) (sym head_alone)
          (subst (λ (head : List Field). IsRequest head (Fields (request_fields method) false ∷ []) [] false) (sym (head_now uncalled)) (refl, (refl, refl)));
      text = ap (flat_map text_of) none_queued;
      closes = λ e. absurd (false≢true e);
    }

    speaks : Speaks next id []
    speaks = record {
      taken = was.speaks.taken;
      begun_first = λ e. absurd (clash _ begun_now e);
      count = omega (arith, was.speaks.count, b.spent_is id);
      whole = λ e. refl;
      spelled = λ suited. subst (λ (r : Role). Spells r next id []) (sym client) asks;
    }

    prepares : (role : Role) → Prepares role next id end.Open []
    prepares Server = tt
    prepares Client = tt

    sends : Sends next new
    sends = record {
      speaks = speaks;
      ended_is = ap (list_any is_end) none_queued;
      sent_is = λ e. absurd (false≢true e);
      fits = omega arith;
      message_is = λ e. ap (flat_map text_of) none_queued;
      first_is = λ e. absurd (false≢true e);
      ahead = λ o. subst (IsAhead true) (sym head_alone) tt;
      prepared = λ suited. prepares t.connection_trace.role;
    }

    hears : (role : Role) (pending : Pending) → role ≡ Client → Hears role t.connection_trace.given t.reported pending new Open
    unfolding front_at
    hears Server pending is = absurd cc
    hears Client pending is = record {
      unended = weaker (is_on id) (ends_answers id) (ends_on id) t.connection_trace.given was.no_event;
      cuts = subst (λ (bytes : List ℕ). Cuts bytes fresh_cutter) (sym (silent_bytes id t.connection_trace.given was.no_event)) nothing_cut;
      drained = λ e. refl;
    }

    stands : (pending : Pending) → StandsOn next pending id (Some new)
    stands pending = (
      refl,
      begun_now,
      record { sends = sends; hears = hears t.connection_trace.role pending client; told = λ e. subst (λ (r : Role). is_told_of r t.reported id ≡ true) (sym client) refl },
    )

  -- ---- all

  none_kept : (pending : Pending) (o : Option CallState) → StandsOn t pending id o → (o ≡ None) × IsUnbegun t id
  none_kept pending None (inl h) = (refl, subst (λ (r : Role). IsUnkept r t id) client h)
  none_kept pending None (inr h) = absurd (clash _ h.begun here_unbegun)
  none_kept pending (Some c) (on, begun, h) = absurd (clash _ begun here_unbegun)

  module _ (cs : List CallState) (role : Role) (pending : Pending) (h : Holds (record { role = role; calls = cs; pending = pending }) t) where
    was : (call_on id cs ≡ None) × IsUnbegun t id
    was = none_kept pending (call_on id cs) (h.each id)

    absent : list_any (λ (c : CallState). c.stream == id) cs ≡ false
    absent = none_found (λ (c : CallState). c.stream == id) cs was.0

    uncalled : list_any (λ (call : ℕ × Method). call.0 == id) t.begun ≡ false
    uncalled = any_call id t.begun ∙ ap (list_any (λ (i : ℕ). i == id)) (h.calls client) ∙ begun_has Client t.connection_trace.frames id ∙ unbegun

    here : call_on id (cs ++ new ∷ []) ≡ Some new
    here = find_last (λ (c : CallState). c.stream == id) cs new absent (same_self id)

    elsewhere : (k : ℕ) → (id == k) ≡ false → call_on k (cs ++ new ∷ []) ≡ call_on k cs
    elsewhere k e = find_beside (λ (c : CallState). c.stream == k) cs new e

    each : (k : ℕ) (c : Bool) → (id == k) ≡ c → StandsOn next pending k (call_on k (cs ++ new ∷ []))
    each k true e =
        subst (λ (s : ℕ). StandsOn next pending s (call_on s (cs ++ new ∷ []))) (eqb-true id k e) (subst (StandsOn next pending id) (sym here) (stands was.1 uncalled pending))
    each k false e = subst (StandsOn next pending k) (sym (elsewhere k e)) (beside k e pending (call_on k cs) (h.each k))

    held_same : (k : ℕ) (c : Bool) → (id == k) ≡ c → held_by (call_on k (cs ++ new ∷ [])) ≡ held_by (call_on k cs)
    held_same k true e = subst (λ (s : ℕ). held_by (call_on s (cs ++ new ∷ [])) ≡ held_by (call_on s cs)) (eqb-true id k e) (ap held_by here ∙ sym (ap held_by was.0))
    held_same k false e = ap held_by (elsewhere k e)

    still_same : (r : Role) (p : Pending) → still_told r (cs ++ new ∷ []) p ≡ still_told r cs p
    still_same r Nothing = refl
    still_same r (End k) = refl
    still_same r (Cut k) = ap (λ (bytes : List ℕ). cut_tells r k (cut bytes)) (held_same k (id == k) refl)

    pub begun_holds : Holds (record { role = role; calls = cs ++ new ∷ []; pending = pending }) next
    begun_holds = record {
      role_is = h.role_is;
      told = h.told ∙ ap (λ (later : List PeerEvent). t.reported ++ later) (sym (still_same t.connection_trace.role pending));
      each = λ k. each k (id == k) refl;
      once = λ k.
          ap (is_once k) (map-append (λ (c : CallState). c.stream) cs (new ∷ []))
          ∙ once_more k id (streams cs) (h.once k) (any_stream id cs ∙ absent);
      only = λ past behind f split rst. only_by past f rst (block_at t.connection_trace.frames fs past behind f split blocks);
      unpadded = λ past behind body split. unpadded_by past body (block_at t.connection_trace.frames fs past behind (Content body) split blocks);
      calls = λ is. map-append (λ (call : ℕ × Method). call.0) t.begun ((id, method) ∷ []) ∙ ap (λ (ids : List ℕ). ids ++ id ∷ []) (h.calls is) ∙ sym b.list_is;
    }
      where
        only_by : (past : List Step) (f : Frame) → is_rst_stream f ≡ true → ((more : List Step) × (t.connection_trace.frames ≡ past ++ Sent f ∷ more)) ⊎ (is_block f ≡ true) →
            IsErrorReset t.connection_trace.role t.connection_trace.limits t.connection_trace.heads past f ⊎ Contains t.resets (stream_of f)
        only_by past f rst (inl (more, split)) = h.only past more f split rst
        only_by past f rst (inr is) = absurd (not_reset f is rst)

        unpadded_by : (past : List Step) (body : FrameBody) → ((more : List Step) × (t.connection_trace.frames ≡ past ++ Sent (Content body) ∷ more)) ⊎ (is_block (Content body) ≡ true) → has_padding (Content body) ≡ false
        unpadded_by past body (inl (more, split)) = h.unpadded past more body split
        unpadded_by past body (inr is) = absurd (false≢true is)
