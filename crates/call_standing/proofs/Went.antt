-- What a turn of one call leaves of what is kept of all.
use Rattle.std.proofs.Common.{◌≡◌, ◌⊎◌, ℕ, ◌==◌, Bool, true, false, List, [], ◌∷◌, ◌++◌, map, Option, Some, None, inl, inr, refl, sym, ap, subst, ◌∙◌, append_assoc, arith}
use Rattle.std.specs.Prelude.{not, if◌then◌else◌}
use Rattle.std.specs.List.{Contains, flat_map, list_any}
use Rattle.std.proofs.lemmas.Bool.{false≢true}
use Rattle.std.proofs.lemmas.Bool.Decides.{nat_tests}
use Rattle.std.proofs.lemmas.List.{append-nil, map-append}
use Rattle.h2_frames.specs.declared.frame.Frame.{Frame}
use Rattle.h2_frames.specs.declared.frame.Frame.TheVariants.{Content, RstStream}
use Rattle.h2_frames.specs.declared.frame.FrameBody.{FrameBody}
use Rattle.h2_exchange.specs.declared.role.Role.{Role}
use Rattle.h2_exchange.specs.declared.role.Role.TheVariants.{Client, Server}
use Rattle.h2_exchange.specs.Calls.{cut, is_begun_call, is_ended_on}
use Rattle.h2_exchange.specs.Events.{Event, bytes_on}
use Rattle.h2_exchange.specs.Exchange.{Step, Sent}
use Rattle.h2_exchange.specs.Frames.{has_padding, is_rst_stream, stream_of}
use Rattle.h2_exchange.specs.Outgoing.{IsErrorReset}
use Rattle.h2_exchange.specs.Streams.{begun, is_begun}
use Rattle.h2_exchange.proofs.Places.{first_true, same_self, second_true}
use Rattle.h2_exchange.proofs.Steps.{over_stays}
use Rattle.http_connection.specs.ConnectionTrace.{ConnectionTrace, wrote}
use Rattle.grpc_framing.specs.Framing.{front_at}
use Rattle.grpc_stream.specs.CallTrace.{CallTrace, PeerEvent, changed, is_ended, is_told_of}
use Rattle.grpc_stream.specs.NextEvent.{asked_of}
use Rattle.grpc_stream.specs.Sends.{AreCarried, IsCarried}
use Rattle.kept_calls.specs.declared.call.Receiving.{Receiving}
use Rattle.kept_calls.specs.declared.call.Receiving.TheVariants.{Open, Closed}
use Rattle.kept_calls.specs.CallState.{CallState, call_on, ended}
use Rattle.call_hearing.specs.declared.pending.Pending.{Pending}
use Rattle.call_hearing.specs.declared.pending.Pending.TheVariants.{Nothing, Cut, End}
use Rattle.call_hearing.specs.Listening.{Cuts, Hears, cut_tells, held_by, held_while, still_told}
use Rattle.call_hearing.specs.Listening as hear
use Rattle.grpc_framing.specs.CutterState.{CutterState}
use Rattle.call_sending.specs.Moves.{Turned}
use Rattle.call_sending.specs.Spelling.{Sends}
use Rattle.call_sending.proofs.Kept.{IsUntouched, sends_kept, speaks_same}
use Rattle.call_sending.proofs.Spoke.{untouched}
use Rattle.call_sending.proofs.Turned.{at_behind}
use Rattle.call_standing.specs.Standing.{AreUnpadded, Holds, IsGone, IsUnkept, OnlyTheseReset, StandsOn, is_once}
use Rattle.call_standing.proofs.Sent.{events_kept}

abbrev pub streams : List CallState → List ℕ
streams cs = map (λ (c : CallState). c.stream) cs

pub streams_same : (done olds : List CallState) (old new : CallState) → new.stream ≡ old.stream → streams (done ++ new ∷ olds) ≡ streams (done ++ old ∷ olds)
streams_same done olds old new same =
    map-append (λ (c : CallState). c.stream) done (new ∷ olds) ∙ ap (λ (id : ℕ). streams done ++ id ∷ streams olds) same ∙ sym (map-append (λ (c : CallState). c.stream) done (old ∷ olds))

is_on : (s id : ℕ) → s ≡ id → (s == id) ≡ true
is_on s id same = ap (λ (n : ℕ). n == id) same ∙ same_self id

stands_there : (id : ℕ) (done olds : List CallState) (old : CallState) → old.stream ≡ id → list_any (λ i. i == id) (streams (done ++ old ∷ olds)) ≡ true
stands_there id [] olds old same = first_true (old.stream == id) (list_any (λ i. i == id) (streams olds)) (is_on old.stream id same)
stands_there id (c ∷ done) olds old same = second_true (c.stream == id) (list_any (λ i. i == id) (streams (done ++ old ∷ olds))) (stands_there id done olds old same)

pub here : (id : ℕ) (done olds : List CallState) (old : CallState) → old.stream ≡ id → is_once id (streams (done ++ old ∷ olds)) ≡ true → call_on id (done ++ old ∷ olds) ≡ Some old
here id [] olds old same once = ap (λ (b : Bool). if b then Some old else call_on id olds) (is_on old.stream id same)
here id (c ∷ done) olds old same once = by (c.stream == id) (list_any (λ i. i == id) (streams (done ++ old ∷ olds))) (stands_there id done olds old same) once (here id done olds old same)
  where
    by : (b any : Bool) → any ≡ true → (if b then not any else is_once id (streams (done ++ old ∷ olds))) ≡ true → (is_once id (streams (done ++ old ∷ olds)) ≡ true → call_on id (done ++ old ∷ olds) ≡ Some old) →
        (if b then Some c else call_on id (done ++ old ∷ olds)) ≡ Some old
    by true true there e later = absurd (false≢true e)
    by true false there e later = absurd (false≢true there)
    by false any there e later = later e

pub elsewhere : (k : ℕ) (done olds : List CallState) (old new : CallState) → (old.stream == k) ≡ false → new.stream ≡ old.stream → call_on k (done ++ new ∷ olds) ≡ call_on k (done ++ old ∷ olds)
elsewhere k [] olds old new other same =
    ap (λ (b : Bool). if b then Some new else call_on k olds) (ap (λ (s : ℕ). s == k) same ∙ other) ∙ sym (ap (λ (b : Bool). if b then Some old else call_on k olds) other)
elsewhere k (c ∷ done) olds old new other same = ap (λ (r : Option CallState). if c.stream == k then Some c else r) (elsewhere k done olds old new other same)

-- ---- what is heard

cuts_as : (es : List Event) (s r : ℕ) (k l : CutterState) → s ≡ r → k ≡ l → Cuts (bytes_on r es) l → Cuts (bytes_on s es) k
cuts_as es s r k l same cutter h = subst (λ (c : CutterState). Cuts (bytes_on s es) c) (sym cutter) (subst (λ (id : ℕ). Cuts (bytes_on id es) l) (sym same) h)

pub hears_same : (role : Role) (es : List Event) (reported : List PeerEvent) (pending : Pending) (old new : CallState) → new.stream ≡ old.stream → new.cutter ≡ old.cutter → (r : Receiving) → Hears role es reported pending old r → Hears role es reported pending new r
hears_same Server es reported pending old new stream cutter Open h = record {
  begun = subst (λ (s : ℕ). hear.has_method es s ≡ true) (sym stream) h.begun;
  shown = subst (λ (s : ℕ). list_any (is_begun_call s) (flat_map asked_of reported) ≡ true) (sym stream) h.shown;
  cuts = cuts_as es new.stream old.stream new.cutter old.cutter stream cutter h.cuts;
  drained = λ e. ap (λ (c : CutterState). front_at 4194304 c.held) cutter ∙ h.drained (ap (hear.is_cut pending) (sym stream) ∙ e);
  whole = λ e. ap (λ (c : CutterState). c.held) cutter ∙ h.whole (ap (λ (s : ℕ). list_any (is_ended_on s) es) (sym stream) ∙ e);
}
hears_same Client es reported pending old new stream cutter Open h = record {
  unended = ap (λ (s : ℕ). list_any (hear.ends_answers s) es) stream ∙ h.unended;
  cuts = cuts_as es new.stream old.stream new.cutter old.cutter stream cutter h.cuts;
  drained = λ e. ap (λ (c : CutterState). front_at 4194304 c.held) cutter ∙ h.drained (ap (hear.is_cut pending) (sym stream) ∙ e);
}
hears_same Server es reported pending old new stream cutter Closed (first, over) =
    (ap (λ (s : ℕ). list_any (hear.heads_on s) es) stream ∙ first, ap (hear.is_asking es) stream ∙ over)
hears_same Client es reported pending old new stream cutter Closed h = ap (hear.awaits_answers es) stream ∙ h

-- ---- where a frame stands

pub last_split : {A : Type 0} (x past more : List A) (s r : A) → x ++ s ∷ [] ≡ past ++ r ∷ more → ((x ≡ past) × (s ≡ r)) ⊎ ((rest : List A) × (x ≡ past ++ r ∷ rest))
last_split [] [] more s r e = inl (refl, cc)
last_split [] (p ∷ []) more s r e = absurd cc
last_split [] (p ∷ q ∷ past) more s r e = absurd cc
last_split (y ∷ x) [] more s r e = let same : y ≡ r = cc in inr (x, ap (λ z. z ∷ x) same)
last_split (y ∷ x) (p ∷ past) more s r e =
    let same : y ≡ p = cc in
    let rest : x ++ s ∷ [] ≡ past ++ r ∷ more = cc in
    by same (last_split x past more s r rest)
  where
    by : y ≡ p → ((x ≡ past) × (s ≡ r)) ⊎ ((rest : List _) × (x ≡ past ++ r ∷ rest)) → (((y ∷ x) ≡ (p ∷ past)) × (s ≡ r)) ⊎ ((rest : List _) × ((y ∷ x) ≡ (p ∷ past) ++ r ∷ rest))
    by same (inl (front, now)) = inl (ap (λ z. z ∷ x) same ∙ ap (λ l. p ∷ l) front, now)
    by same (inr (rest, front)) = inr (rest, ap (λ z. z ∷ x) same ∙ ap (λ l. p ∷ l) front)

-- a sent frame stands among the earlier steps, or is one of those that are carried
pub carried_at : (role : Role) (x : List Step) (fs : List Frame) (past behind : List Step) (f : Frame) → x ++ map Sent fs ≡ past ++ Sent f ∷ behind → AreCarried role x fs →
    ((more : List Step) × (x ≡ past ++ Sent f ∷ more)) ⊎ IsCarried role past f
carried_at role x [] past behind f e h = inl (behind, sym (append-nil x) ∙ e)
carried_at role x (g ∷ fs) past behind f e (now, h) =
    by (carried_at role (x ++ Sent g ∷ []) fs past behind f (append_assoc x (Sent g ∷ []) (map Sent fs) ∙ e) h)
  where
    is_it : ((x ≡ past) × (Sent g ≡ Sent f)) ⊎ ((rest : List Step) × (x ≡ past ++ Sent f ∷ rest)) → ((more : List Step) × (x ≡ past ++ Sent f ∷ more)) ⊎ IsCarried role past f
    is_it (inl (front, same)) =
        let frame : g ≡ f = cc in
        inr (subst (λ (y : List Step). IsCarried role y f) front (subst (IsCarried role x) frame now))
    is_it (inr found) = inl found

    by : ((more : List Step) × (x ++ Sent g ∷ [] ≡ past ++ Sent f ∷ more)) ⊎ IsCarried role past f → ((more : List Step) × (x ≡ past ++ Sent f ∷ more)) ⊎ IsCarried role past f
    by (inl (more, split)) = is_it (last_split x past more (Sent g) (Sent f) split)
    by (inr carried) = inr carried

no_reset : (role : Role) (past : List Step) (f : Frame) → is_rst_stream f ≡ true → IsCarried role past f → ⊥
no_reset role past (RstStream b) is h = h
no_reset role past other is h = absurd (false≢true is)

-- what is kept of one of them
pub sends_of : (t : CallTrace) (role : Role) (pending : Pending) (done olds : List CallState) (old : CallState) → Holds (record { role = role; calls = done ++ old ∷ olds; pending = pending }) t → Sends t old
sends_of t role pending done olds old h = (subst (StandsOn t pending old.stream) (here old.stream done olds old refl (h.once old.stream)) (h.each old.stream)).2.sends

-- ---- frames of one stream, behind what is kept of all

module _ (t : CallTrace) (old new : CallState) (d : ConnectionTrace) (p : Turned t old new d) where
  abbrev next : CallTrace
  next = changed (wrote p.fs p.lists) t

  begun_still : (k : ℕ) → is_begun t.connection_trace.role next.connection_trace.frames k ≡ is_begun t.connection_trace.role t.connection_trace.frames k
  begun_still k = p.moves.begun_is k

  module _ (k : ℕ) (same : IsUntouched t next k) where
    unkept_still : (role : Role) → t.connection_trace.role ≡ role → IsUnkept role t k → IsUnkept role next k
    unkept_still Server role_is h = record {
      no_head = h.no_head;
      no_bytes = h.no_bytes;
      no_end = h.no_end;
      untold = h.untold;
      nothing = h.nothing;
      speaks = speaks_same t next k same [] h.speaks;
      ahead = λ o. same.parts_are ∙ h.ahead (same.opened o);
    }
    unkept_still Client role_is h = record {
      unbegun = subst (λ (r : Role). is_begun r next.connection_trace.frames k ≡ is_begun r t.connection_trace.frames k) role_is (begun_still k) ∙ h.unbegun;
      no_event = h.no_event;
      speaks = speaks_same t next k same [] h.speaks;
    }

    gone_still : IsGone t k → IsGone next k
    gone_still h = record {
      begun = begun_still k ∙ h.begun;
      over = over_stays t.connection_trace.frames (map Sent p.fs) k h.over;
      rest = h.rest;
      speaks = speaks_same t next k same h.rest h.speaks;
      silent = (h.silent.0, events_kept t.connection_trace.role t.connection_trace.limits t.connection_trace.heads t.connection_trace.frames p.fs ∙ h.silent.1, h.silent.2);
    }

    on_kept : (pending : Pending) (o : Option CallState) → StandsOn t pending k o → StandsOn next pending k o
    on_kept pending None (inl h) = inl (unkept_still t.connection_trace.role refl h)
    on_kept pending None (inr h) = inr (gone_still h)
    on_kept pending (Some c) (on, begun, h) = (
      on,
      begun_still k ∙ begun,
      record {
        sends = sends_kept t next c (subst (IsUntouched t next) (sym on) same) h.sends;
        hears = h.hears;
        told = h.told;
      },
    )

  -- the call whose turn it was
  on_turned : (pending : Pending) → (ended new.ending ≡ false → ended old.ending ≡ false) → StandsOn t pending old.stream (Some old) → StandsOn next pending old.stream (Some new)
  on_turned pending ended_before (on, begun, h) = (
    p.stream_is,
    begun_still old.stream ∙ begun,
    record {
      sends = p.sends;
      hears = subst (Hears t.connection_trace.role t.connection_trace.given t.reported pending new) (sym p.receiving_is)
          (hears_same t.connection_trace.role t.connection_trace.given t.reported pending old new p.stream_is p.cutter_is old.receiving h.hears);
      told = λ e. ap (is_told_of t.connection_trace.role t.reported) p.stream_is ∙ h.told (ended_before e);
    },
  )

  module _ (role : Role) (pending : Pending) (done olds : List CallState) (h : Holds (record { role = role; calls = done ++ old ∷ olds; pending = pending }) t) where
    now_once : (id : ℕ) → is_once id (streams (done ++ new ∷ olds)) ≡ true
    now_once id = ap (is_once id) (streams_same done olds old new p.stream_is) ∙ h.once id

    was_here : call_on old.stream (done ++ old ∷ olds) ≡ Some old
    was_here = here old.stream done olds old refl (h.once old.stream)

    now_here : call_on old.stream (done ++ new ∷ olds) ≡ Some new
    now_here = here old.stream done olds new p.stream_is (now_once old.stream)

    pub stood : StandsOn t pending old.stream (Some old)
    stood = subst (StandsOn t pending old.stream) was_here (h.each old.stream)

    not_yet : ended new.ending ≡ false → ended old.ending ≡ false
    not_yet e = sym stood.2.sends.ended_is ∙ ap (is_ended t) (sym p.stream_is) ∙ p.sends.ended_is ∙ e

    each_now : (k : ℕ) (b : Bool) → (old.stream == k) ≡ b → StandsOn next pending k (call_on k (done ++ new ∷ olds))
    each_now k true e =
        let on : old.stream ≡ k = grind (arith, nat_tests) in
        subst (λ (id : ℕ). StandsOn next pending id (call_on id (done ++ new ∷ olds))) on (subst (StandsOn next pending old.stream) (sym now_here) (on_turned pending not_yet stood))
    each_now k false e =
        subst (StandsOn next pending k) (sym (elsewhere k done olds old new e p.stream_is))
        (on_kept k (untouched t old.stream p.ps p.n p.ends p.fs p.lists p.moves k e) pending (call_on k (done ++ old ∷ olds)) (h.each k))

    held_same : (id : ℕ) (b : Bool) → (old.stream == id) ≡ b → held_by (call_on id (done ++ new ∷ olds)) ≡ held_by (call_on id (done ++ old ∷ olds))
    held_same id true e =
        let on : old.stream ≡ id = grind (arith, nat_tests) in
        subst (λ (k : ℕ). held_by (call_on k (done ++ new ∷ olds)) ≡ held_by (call_on k (done ++ old ∷ olds))) on
        (ap held_by now_here ∙ ap (λ (r : Receiving). held_while r new.cutter.held) p.receiving_is
        ∙ ap (λ (c : CutterState). held_while old.receiving c.held) p.cutter_is ∙ sym (ap held_by was_here))
    held_same id false e = ap held_by (elsewhere id done olds old new e p.stream_is)

    still_same : (q : Pending) → still_told t.connection_trace.role (done ++ new ∷ olds) q ≡ still_told t.connection_trace.role (done ++ old ∷ olds) q
    still_same Nothing = refl
    still_same (End id) = refl
    still_same (Cut id) = ap (λ (bytes : List ℕ). cut_tells t.connection_trace.role id (cut bytes)) (held_same id (old.stream == id) refl)

    only_still : OnlyTheseReset next
    only_still = λ past behind f split is. by past f is (carried_at t.connection_trace.role t.connection_trace.frames p.fs past behind f split p.moves.carried)
      where
        by : (past : List Step) (f : Frame) → is_rst_stream f ≡ true → ((more : List Step) × (t.connection_trace.frames ≡ past ++ Sent f ∷ more)) ⊎ IsCarried t.connection_trace.role past f →
            IsErrorReset t.connection_trace.role t.connection_trace.limits t.connection_trace.heads past f ⊎ Contains t.resets (stream_of f)
        by past f is (inl (more, split)) = h.only past more f split is
        by past f is (inr carried) = absurd (no_reset t.connection_trace.role past f is carried)

    unpadded_still : AreUnpadded next
    unpadded_still = λ past behind b split. by past b (carried_at t.connection_trace.role t.connection_trace.frames p.fs past behind (Content b) split p.moves.carried)
      where
        by : (past : List Step) (b : FrameBody) → ((more : List Step) × (t.connection_trace.frames ≡ past ++ Sent (Content b) ∷ more)) ⊎ IsCarried t.connection_trace.role past (Content b) → has_padding (Content b) ≡ false
        by past b (inl (more, split)) = h.unpadded past more b split
        by past b (inr carried) = carried.1

    turn_holds : Holds (record { role = role; calls = done ++ new ∷ olds; pending = pending }) next
    turn_holds = record {
      role_is = h.role_is;
      told = h.told ∙ ap (λ (later : List PeerEvent). t.reported ++ later) (sym (still_same pending));
      each = λ k. each_now k (old.stream == k) refl;
      once = now_once;
      only = only_still;
      unpadded = unpadded_still;
      calls = λ role_is. h.calls role_is ∙ subst (λ (r : Role). begun r t.connection_trace.frames ≡ begun r next.connection_trace.frames) role_is (sym p.moves.list_is);
    }

    -- it holds of the connection behind the turn
    pub turned_holds : Holds (record { role = role; calls = done ++ new ∷ olds; pending = pending }) (at_behind t d)
    turned_holds = subst (λ (c : ConnectionTrace). Holds (record { role = role; calls = done ++ new ∷ olds; pending = pending }) (at_behind t c)) (sym p.goes_on) turn_holds
