-- A pump: what it sends, and what it leaves waiting.
use Rattle.std.proofs.Common.{◌≡◌, ℕ, ◌+◌, ◌-◌, ◌^◌, ◌<◌, ◌==◌, Bool, true, false, List, [], ◌∷◌, ◌++◌, length, take, map, min, sum_by, Option, Some, None, inl, inr, refl, sym, ap, subst, ◌∙◌, append_assoc, arith}
use Rattle.std.specs.Prelude.{not, is_some, option_to_list, if◌then◌else◌}
use Rattle.std.specs.List.{flat_map, list_any}
use Rattle.std.proofs.lemmas.Bool.{false≢true}
use Rattle.std.proofs.lemmas.List.{append_cancel_left, length-append, take_at}
use Rattle.std.proofs.lemmas.List.Concat.{flat_map-append}
use Rattle.std.proofs.lemmas.List.Sums.{sum_by-cons}
use Rattle.hpack_tables.specs.declared.field.Field.{Field}
use Rattle.h2_frames.specs.declared.frame.Frame.{Frame}
use Rattle.h2_frames.specs.Layout.{frame_text}
use Rattle.h2_exchange.specs.declared.role.Role.{Role}
use Rattle.h2_exchange.specs.declared.role.Role.TheVariants.{Client, Server}
use Rattle.h2_exchange.specs.Exchange.{Step, Received, Sent, received, sent, sent_text}
use Rattle.h2_exchange.specs.Blocks.{Block, blocks_behind, completed, left_open, open_block}
use Rattle.h2_exchange.specs.Compression.{AreWritten, IsWritten, limited_by}
use Rattle.h2_exchange.specs.Order.{own_preface}
use Rattle.h2_exchange.specs.Streams.{is_begun, is_ended_by, is_live}
use Rattle.h2_exchange.specs.Windows.{may_send}
use Rattle.h2_exchange.proofs.Places.{and_parts, clash, not_true}
use Rattle.h2_exchange.proofs.Steps.{header_blocks_grow, sent_push, sent_received}
use Rattle.hpack_tables.specs.Writing.{Encoder, fresh}
use Rattle.http_connection.specs.ConnectionTrace.{ConnectionTrace, IsSound, Refusal, is_alive, style_of, wrote}
use Rattle.grpc_stream.specs.CallTrace.{CallTrace, is_end, is_ended, queued_on, text_of, unsent_on, waiting_in}
use Rattle.grpc_stream.specs.Sends.{Pumps}
use Rattle.kept_calls.specs.CallState.{CallState, call_on}
use Rattle.grpc_framing.specs.CutterState.{CutterState}
use Rattle.call_hearing.specs.declared.pending.Pending.{Pending}
use Rattle.call_hearing.specs.Listening.{told_later}
use Rattle.call_sending.specs.Moves.{IsDone, IsReady}
use Rattle.call_sending.specs.Pumping.{PumpsCalls, WentOn}
use Rattle.call_sending.proofs.Kept.{IsUntouched, sends_kept, speaks_same}
use Rattle.call_sending.proofs.Moved.{received_kept, sent_behind}
use Rattle.call_sending.proofs.Turned.{at_behind, nothing}
use Rattle.call_standing.specs.declared.fate.Fate.{Fate}
use Rattle.call_standing.specs.declared.fate.Fate.TheVariants.{Dead, Going, Refused, Starved}
use Rattle.call_standing.specs.Standing.{Holds, IsGoing, IsUnkept, StandsFor, StandsOn, State, bare}
use Rattle.call_standing.proofs.Pumped.{AreDone, Pumped, calls_hold}
use Rattle.call_standing.proofs.Rest.{rest_of}

-- ---- what was fed, dropped, held and refused is beside the point

abbrev pub with_rest : List ℕ → List ℕ → Bool → Option Refusal → CallTrace → CallTrace
with_rest fed dropped hold refusal t = record t { connection_trace = record t.connection_trace { fed = fed; dropped = dropped; is_holding = hold; refusal = refusal } }

module _ (fed dropped : List ℕ) (hold : Bool) (refusal : Option Refusal) (t : CallTrace) where
  abbrev u : CallTrace
  u = with_rest fed dropped hold refusal t

  same_on : (k : ℕ) → IsUntouched t u k
  same_on k = record {
    role_is = refl;
    numbers_are = refl;
    queued_is = refl;
    head_is = refl;
    parts_are = refl;
    spent_is = refl;
    ended_is = refl;
    begun = λ e. e;
    begun_before = λ role_is e. e;
    opened = λ e. e;
  }

  unkept_as : (role : Role) (k : ℕ) → IsUnkept role t k → IsUnkept role u k
  unkept_as Server k h = record { no_head = h.no_head; no_bytes = h.no_bytes; no_end = h.no_end; untold = h.untold; nothing = h.nothing; speaks = speaks_same t u k (same_on k) [] h.speaks; ahead = h.ahead }
  unkept_as Client k h = record { unbegun = h.unbegun; no_event = h.no_event; speaks = speaks_same t u k (same_on k) [] h.speaks }

  stands_as : (pending : Pending) (k : ℕ) (o : Option CallState) → StandsOn t pending k o → StandsOn u pending k o
  stands_as pending k None (inl h) = inl (unkept_as t.connection_trace.role k h)
  stands_as pending k None (inr h) = inr (record { begun = h.begun; over = h.over; rest = h.rest; speaks = speaks_same t u k (same_on k) h.rest h.speaks; silent = h.silent })
  stands_as pending k (Some c) (on, begun, h) = (on, begun, record { sends = sends_kept t u c (same_on c.stream) h.sends; hears = h.hears; told = h.told })

  pub holds_as : (s : State) → Holds s t → Holds s u
  holds_as s h = record {
    role_is = h.role_is;
    told = h.told;
    each = λ k. stands_as s.pending k (call_on k s.calls) (h.each k);
    once = h.once;
    only = h.only;
    unpadded = h.unpadded;
    calls = h.calls;
  }

-- ---- what a pump leaves of each stream

done_in : (d : ConnectionTrace) (cs : List CallState) (k : ℕ) (c : CallState) → AreDone d cs → call_on k cs ≡ Some c → IsDone d c
done_in d [] k c h e = absurd cc
done_in d (x ∷ cs) k c (now, h) e = by (x.stream == k) e (λ later. done_in d cs k c h later)
  where
    by : (b : Bool) → (if b then Some x else call_on k cs) ≡ Some c → (call_on k cs ≡ Some c → IsDone d c) → IsDone d c
    by true e later = let same : x ≡ c = cc in subst (IsDone d) same now
    by false e later = later e

module _ (t : CallTrace) (id : ℕ) (lives : is_live t.connection_trace.role t.connection_trace.frames id ≡ true) where
  abbrev Full : Type 0
  Full = (0 < unsent_on t id → may_send t.connection_trace.frames id ≡ 0) × (unsent_on t id ≡ 0 → is_ended t id ≡ true → is_ended_by (sent t.connection_trace.frames) id ≡ true)

  none_queued : queued_on t id ≡ [] → Full
  none_queued none = (
    (λ some. absurd (omega (arith, some, ap (λ items. length (flat_map text_of items)) none))),
    (λ e k. absurd (false≢true (sym (ap (list_any is_end) none) ∙ k))),
  )

  full_unkept : (role : Role) → t.connection_trace.role ≡ role → IsUnkept role t id → Full
  full_unkept Server role_is h = none_queued h.nothing
  full_unkept Client role_is h = absurd (clash _ (subst (λ (r : Role). is_begun r t.connection_trace.frames id ≡ true) role_is (and_parts _ _ lives).0) h.unbegun)

  full_on : (pending : Pending) (o : Option CallState) → StandsOn t pending id o → ((c : CallState) → o ≡ Some c → IsDone t.connection_trace c) → Full
  full_on pending None (inl h) done = full_unkept t.connection_trace.role refl h
  full_on pending None (inr h) done = absurd (clash _ h.over (not_true _ (and_parts _ _ lives).1))
  full_on pending (Some c) (on, begun, h) done =
      let d : IsDone t.connection_trace c = done c refl in
      let live_here : is_live t.connection_trace.role t.connection_trace.frames c.stream ≡ true = ap (is_live t.connection_trace.role t.connection_trace.frames) on ∙ lives in
      let left : unsent_on t c.stream ≡ length c.unsent = omega (arith, h.sends.speaks.count) in
      let left_here : unsent_on t id ≡ length c.unsent = ap (unsent_on t) (sym on) ∙ left in (
        (λ some. ap (may_send t.connection_trace.frames) (sym on) ∙ d.full live_here (omega (arith, some, left_here))),
        (λ none k. ap (is_ended_by (sent t.connection_trace.frames)) (sym on) ∙ d.closed live_here (omega (arith, none, left_here)) (sym h.sends.ended_is ∙ ap (is_ended t) on ∙ k)),
      )

-- ---- as many lists of fields as header blocks

written_by : (e next : Encoder) (o : Option Block) (lists more : List (List Field)) → IsWritten e o lists more next → length (option_to_list o) + length more ≡ length lists
written_by e next None lists more h = omega (arith, ap length h.0)
written_by e next (Some b) lists more h = omega (arith, ap length h.1)

written_from : (e last : Encoder) (past x : List Step) (lists : List (List Field)) → AreWritten e past x lists last → length (blocks_behind (open_block (sent past)) (sent x)) ≡ length lists
written_from e last past [] lists h = sym (ap length h.0)
written_from e last past (Received f ∷ x) lists h =
    ap (λ (fs : List Frame). length (blocks_behind (open_block fs) (sent x))) (sym (sent_received past f)) ∙ written_from (limited_by f e) last (past ++ Received f ∷ []) x lists h
written_from e last past (Sent f ∷ x) lists (more, next, now, rest) =
    let later = written_from next last (past ++ Sent f ∷ []) x more rest in
    let opened : open_block (sent (past ++ Sent f ∷ [])) ≡ left_open (open_block (sent past)) f = ap open_block (sent_push past f) ∙ header_blocks_grow.open_push (sent past) f in
    omega (
      arith,
      written_by e next (completed (sent past) f) lists more now,
      later,
      ap (λ (o : Option Block). length (blocks_behind o (sent x))) opened,
      length-append (option_to_list (completed (sent past) f)) (blocks_behind (left_open (open_block (sent past)) f) (sent x)),
    )

pub ready_of : (c : ConnectionTrace) (output : List ℕ) → IsSound c output → IsReady c.frames c.written
ready_of c output h = (written_from (fresh (style_of c.role)) h.last [] c.frames c.written h.spelled, h.closed)

-- ---- the output grows

grown : (c d : ConnectionTrace) (fs : List Frame) (lists : List (List Field)) (a b : List ℕ) → d ≡ wrote fs lists c → own_preface c.role ++ sent_text c.frames ≡ c.dropped ++ a → own_preface d.role ++ sent_text d.frames ≡ d.dropped ++ b →
    b ≡ a ++ flat_map frame_text fs
grown c d fs lists a b same old new =
    let now : own_preface c.role ++ sent_text (c.frames ++ map Sent fs) ≡ c.dropped ++ b =
    subst (λ (k : ConnectionTrace). own_preface k.role ++ sent_text k.frames ≡ k.dropped ++ b) same new in
    let text : sent_text (c.frames ++ map Sent fs) ≡ sent_text c.frames ++ flat_map frame_text fs = ap (flat_map frame_text) (sent_behind c.frames fs) ∙ flat_map-append frame_text (sent c.frames) fs in
    append_cancel_left c.dropped b (a ++ flat_map frame_text fs)
    (sym now ∙ ap (λ (l : List ℕ). own_preface c.role ++ l) text ∙ sym (append_assoc (own_preface c.role) (sent_text c.frames) (flat_map frame_text fs))
    ∙ ap (λ (l : List ℕ). l ++ flat_map frame_text fs) old ∙ append_assoc c.dropped a (flat_map frame_text fs))

module _ {C : Type 0} (stands : C → ConnectionTrace → Type 0) (output : C → List ℕ) (law : (conn : C) (c : ConnectionTrace) → stands conn c → IsSound c (output conn)) (old new : C) where
  pub pumps_going : (s : State) (news : List CallState) (t : CallTrace) (d : ConnectionTrace) → IsGoing stands output old s t → PumpsCalls t.connection_trace s.calls news d → stands new d →
      (u : CallTrace) × IsGoing stands output new (record s { calls = news }) u × Pumps t u
  pumps_going s news t d h pumps now =
      let c = t.connection_trace in
      let here : Holds s t = holds_as c.fed c.dropped c.is_holding c.refusal (bare t) s h.holds in
      let p : Pumped t s.role s.pending [] s.calls false news d = calls_hold t s.role s.pending s.calls news c d pumps refl (ready_of c (output old) (law old c h.connected)) here in
      let bare_now : Holds (record s { calls = news }) (bare (at_behind t d)) = holds_as [] [] false None (at_behind t d) (record s { calls = news }) p.holds in
      let on = λ (id : ℕ) (lives : is_live d.role d.frames id ≡ true). full_on (at_behind t d) id lives s.pending (call_on id news) (p.holds.each id) (λ call e. done_in d news id call (p.are_done refl) e) in (
        at_behind t d,
        record {
          connected = now;
          alive = ap (λ (k : ConnectionTrace). k.refusal) p.goes.goes_on ∙ h.alive;
          holds = bare_now;
          rest = rest_of (record s { calls = news }) (bare (at_behind t d)) (law new d now).given bare_now;
        },
        record {
          fs = p.goes.fs;
          lists = p.goes.lists;
          goes_on = ap (at_behind t) p.goes.goes_on;
          carried = p.goes.carried;
          refused = λ e. absurd (clash _ (ap (λ (r : Option Refusal). not (is_some r)) h.alive) e);
          full = λ a id lives some. (on id lives).0 some;
          ended = λ a id lives none k. (on id lives).1 none k;
        },
      )

  pub hides_rest : (s : State) (t : CallTrace) (d : ConnectionTrace) (waiting : ℕ) (now : State) → IsGoing stands output old s t → WentOn t.connection_trace d → stands new d → waiting ≡ min (waiting_in t) (2 ^ 64 - 1) →
      StandsFor stands output (Starved (length (output old)) waiting) new now t
  hides_rest s t d waiting now h went stood waits =
      let c = t.connection_trace in
      let sound = law old c h.connected in
      let more : output new ≡ output old ++ flat_map frame_text went.fs = grown c d went.fs went.lists (output old) (output new) went.goes_on sound.text (law new d stood).text in
      let shown : take (length (output old)) (output new) ≡ output old = ap (take (length (output old))) more ∙ take_at (output old) (flat_map frame_text went.fs) (length (output old)) refl in (
        record {
          hidden = d;
          connected = stood;
          hides = record {
            role_is = ap (λ (k : ConnectionTrace). k.role) went.goes_on;
            fed_is = ap (λ (k : ConnectionTrace). k.fed) went.goes_on;
            dropped_is = ap (λ (k : ConnectionTrace). k.dropped) went.goes_on;
            received_is = ap (λ (k : ConnectionTrace). received k.frames) went.goes_on ∙ received_kept c.frames went.fs;
            alive = ap (λ (k : ConnectionTrace). k.refusal) went.goes_on ∙ h.alive;
          };
          within = omega (arith, ap length more, length-append (output old) (flat_map frame_text went.fs));
          sound = subst (IsSound c) (sym shown) sound;
          rest = h.rest;
        },
        h.alive,
        waits,
      )

-- ---- what is still to be told

held_of : (cs : List CallState) → sum_by (λ (c : CallState). length c.cutter.held) cs ≡ sum_by (λ (k : CutterState). length k.held) (map (λ (c : CallState). c.cutter) cs)
held_of [] = refl
held_of (c ∷ cs) = omega (
  arith,
  sum_by-cons (λ (x : CallState). length x.cutter.held) c cs,
  sum_by-cons (λ (k : CutterState). length k.held) c.cutter (map (λ (x : CallState). x.cutter) cs),
  held_of cs,
)

pub later_kept : (a b : List CallState) (pending : Pending) → map (λ (c : CallState). c.cutter) a ≡ map (λ (c : CallState). c.cutter) b → told_later a pending ≡ told_later b pending
later_kept a b pending same = omega (arith, held_of a, held_of b, ap (sum_by (λ (k : CutterState). length k.held)) same)

pub as_going : {C : Type 0} (stands : C → ConnectionTrace → Type 0) (output : C → List ℕ) (fate : Fate) (conn : C) (s : State) (t : CallTrace) → fate ≡ Going → StandsFor stands output fate conn s t → IsGoing stands output conn s t
as_going stands output fate conn s t is h = subst (λ (f : Fate). StandsFor stands output f conn s t) is h

pub going_as : {C : Type 0} (stands : C → ConnectionTrace → Type 0) (output : C → List ℕ) (fate : Fate) (conn : C) (s : State) (t : CallTrace) → fate ≡ Going → IsGoing stands output conn s t → StandsFor stands output fate conn s t
going_as stands output fate conn s t is h = subst (λ (f : Fate). StandsFor stands output f conn s t) (sym is) h

pub starved_as : {C : Type 0} (stands : C → ConnectionTrace → Type 0) (output : C → List ℕ) (conn : C) (s : State) (t : CallTrace) (a b waiting : ℕ) → b ≡ a → StandsFor stands output (Starved a waiting) conn s t → StandsFor stands output (Starved b waiting) conn s t
starved_as stands output conn s t a b waiting same h = subst (λ (n : ℕ). StandsFor stands output (Starved n waiting) conn s t) (sym same) h

-- ---- calls that have refused

pub nothing_sent : (t : CallTrace) → is_alive t.connection_trace ≡ false → Pumps t t
nothing_sent t over = record {
  fs = [];
  lists = [];
  goes_on = ap (at_behind t) (nothing t.connection_trace);
  carried = tt;
  refused = λ e. refl;
  full = λ a id lives some. absurd (clash _ a over);
  ended = λ a id lives none k. absurd (clash _ a over);
}

pub refused_over : {C : Type 0} (stands : C → ConnectionTrace → Type 0) (output : C → List ℕ) (fate : Fate) (conn : C) (s : State) (t : CallTrace) → fate ≡ Refused → StandsFor stands output fate conn s t → is_alive t.connection_trace ≡ false
refused_over stands output fate conn s t is h = (subst (λ (f : Fate). StandsFor stands output f conn s t) is h).refused

pub dead_over : {C : Type 0} (stands : C → ConnectionTrace → Type 0) (output : C → List ℕ) (fate : Fate) (conn : C) (s : State) (t : CallTrace) (shown : ℕ) → fate ≡ Dead shown → StandsFor stands output fate conn s t → is_alive t.connection_trace ≡ false
dead_over stands output fate conn s t shown is h = ap (λ (r : Option Refusal). not (is_some r)) (subst (λ (f : Fate). StandsFor stands output f conn s t) is h).1
