-- How a client goes on: what it hears, reads and writes.
use Rattle.std.proofs.Common.{◌⊎◌, ◌≡◌, inl, inr, ℕ, Bool, true, false, List, [], ◌∷◌, ◌++◌, Option, Some, None, refl, sym, ap, subst, ◌∙◌, append_assoc, append-nil}
use Rattle.std.proofs.lemmas.List.{map-append}
use Rattle.std.specs.Prelude.{if◌then◌else◌}
use Rattle.rig_io.specs.Link.{Piece}
use Rattle.schema_numbers.specs.Numbers.{Numbers}
use Rattle.grpc_heads.specs.declared.head.Method.{Method}
use Rattle.grpc_heads.specs.GrpcStatus.{GrpcStatus}
use Rattle.h2_exchange.specs.Calls.{Answer}
use Rattle.h2_exchange.specs.Calls as call
use Rattle.h2_exchange.specs.Stops.{Stop}
use Rattle.http_connection.specs.ConnectionTrace.{ConnectionTrace, NoMemory, Stopped}
use Rattle.grpc_stream.specs.CallTrace.{CallTrace, Answered, IsSoundCallTrace, Keeps, PeerEvent}
use Rattle.grpc_stream.specs.NextEvent.{GivesCallEvent, IsShownAs, NeedsMore, RepeatsRefusal, RunsOutOfMemory, Stops}
use Rattle.grpc_stream.specs.declared.event.CallEvent.{CallEvent}
use Rattle.grpc_stream.specs.declared.event.CallEvent.TheVariants as says
use Rattle.line_verdicts.specs.declared.tally.Tally.{Tally}
use Rattle.compliance_client.specs.declared.over.ClientOver.{ClientOver}
use Rattle.compliance_client.specs.declared.over.ClientOver.TheVariants as over
use Rattle.compliance_client.specs.Deeds.{CallView, Deed, Hears, calls_hearing, calls_in, is_refused, stream_in, tally_hearing}
use Rattle.compliance_client.specs.Asks.{heard_in}
use Rattle.compliance_client.specs.Standing.{Past, StandsAs, Starves, Works}
use Rattle.compliance_client.specs.Turns.{AreHearings, HearsAll, IsCauseOf, MayReset, Resets, StopsAt, Turned}
use Rattle.compliance_client.proofs.NextAnswer.{HearsNext, Quiet, Went, needs_quiet, next_heard, starves_quiet, stops_quiet}

-- a trace goes on from another by an answer that was heard, with the reset of its call or not
pub record Heard (t : CallTrace) (answer : Answer GrpcStatus) (is_reset : Bool) (u : CallTrace) : Type 0 where
  pub reported : u.reported ≡ t.reported ++ Answered answer ∷ []
  pub taken : u.taken ≡ t.taken
  pub begun : u.begun ≡ t.begun
  pub numbers : u.numbers ≡ t.numbers
  pub resets : u.resets ≡ t.resets ++ (if is_reset then stream_in answer ∷ [] else [])
  pub went : Went t.connection_trace u.connection_trace

module _ {K : Type 0} (uses : K → CallTrace → Type 0) (n : Numbers) where
  -- ---- want of memory

  pub starves : (calls later : K) (kept : List CallView) (tally : Tally) (past : Past) (u : CallTrace) → Works uses n calls kept tally past →
      uses later u → u ≡ record past.trace { connection_trace = u.connection_trace; reported = u.reported } → Went past.trace.connection_trace u.connection_trace →
      Starves uses n later (record { trace = u; deeds = past.deeds; pieces = past.pieces })
  starves calls later kept tally past u h used same gone = record {
    used = used;
    role = gone.role ∙ h.role;
    numbers = ap (λ (x : CallTrace). x.numbers) same ∙ h.numbers;
    taken = ([], sym h.taken ∙ sym (ap (λ (x : CallTrace). x.taken) same) ∙ sym (append-nil u.taken));
    begun = ap (λ (x : CallTrace). x.begun) same ∙ h.begun;
    resets = ap (λ (x : CallTrace). x.resets) same ∙ h.resets;
    own = h.own;
    fed = ([], sym h.fed ∙ sym gone.fed ∙ sym (append-nil u.connection_trace.fed));
    dropped = gone.dropped ∙ h.dropped;
  }

  -- ---- hearing

  pub works_quiet : (calls later : K) (kept : List CallView) (tally : Tally) (past : Past) (u : CallTrace) → Works uses n calls kept tally past →
      uses later u → Quiet past.trace u → Works uses n later kept tally (record { trace = u; deeds = past.deeds; pieces = past.pieces })
  works_quiet calls later kept tally past u h used quiet = record {
    used = used;
    role = quiet.went.role ∙ h.role;
    numbers = ap (λ (x : CallTrace). x.numbers) quiet.after ∙ h.numbers;
    kept_are = h.kept_are;
    tally_is = h.tally_is;
    told = ap (λ (x : CallTrace). x.reported) quiet.after ∙ h.told;
    taken = ap (λ (x : CallTrace). x.taken) quiet.after ∙ h.taken;
    begun = ap (λ (x : CallTrace). x.begun) quiet.after ∙ h.begun;
    resets = ap (λ (x : CallTrace). x.resets) quiet.after ∙ h.resets;
    own = h.own;
    fed = quiet.went.fed ∙ h.fed;
    dropped = quiet.went.dropped ∙ h.dropped;
  }

  pub works_heard : (calls later : K) (kept kept_now : List CallView) (tally tally_now : Tally) (past : Past) (u : CallTrace) (answer : Answer GrpcStatus)
      (is_reset : Bool) → Works uses n calls kept tally past → uses later u → Heard past.trace answer is_reset u →
      kept_now ≡ calls_hearing n answer kept → tally_now ≡ tally_hearing n answer kept tally → (is_reset ≡ true → is_refused n answer kept ≡ true) →
      Works uses n later kept_now tally_now (record { trace = u; deeds = Hears answer is_reset ∷ past.deeds; pieces = past.pieces })
  works_heard calls later kept kept_now tally tally_now past u answer is_reset h used heard kept_is tally_is refused = record {
    used = used;
    role = heard.went.role ∙ h.role;
    numbers = heard.numbers ∙ h.numbers;
    kept_are = kept_is ∙ ap (calls_hearing n answer) h.kept_are;
    tally_is = tally_is ∙ ap (λ cs. tally_hearing n answer cs tally) h.kept_are ∙ ap (tally_hearing n answer (calls_in n past.deeds)) h.tally_is;
    told = heard.reported ∙ ap (λ l. l ++ Answered answer ∷ []) h.told ∙ sym (map-append Answered (heard_in past.deeds) (answer ∷ []));
    taken = heard.taken ∙ h.taken;
    begun = heard.begun ∙ h.begun;
    resets = heard.resets ∙ ap (λ l. l ++ (if is_reset then stream_in answer ∷ [] else [])) h.resets;
    own = (λ e. subst (λ cs. is_refused n answer cs ≡ true) h.kept_are (refused e), h.own);
    fed = heard.went.fed ∙ h.fed;
    dropped = heard.went.dropped ∙ h.dropped;
  }

  -- an answer was told, and its call is reset or not
  pub heard_next : (t u v : CallTrace) (answer : Answer GrpcStatus) (is_reset : Bool) →
      u ≡ record t { connection_trace = u.connection_trace; reported = t.reported ++ Answered answer ∷ [] } → Went t.connection_trace u.connection_trace →
      Resets is_reset (stream_in answer) u v → Heard t answer is_reset v
  heard_next t u v answer true after gone (fs, carry, same) = record {
    reported = ap (λ (x : CallTrace). x.reported) same ∙ ap (λ (x : CallTrace). x.reported) after;
    taken = ap (λ (x : CallTrace). x.taken) same ∙ ap (λ (x : CallTrace). x.taken) after;
    begun = ap (λ (x : CallTrace). x.begun) same ∙ ap (λ (x : CallTrace). x.begun) after;
    numbers = ap (λ (x : CallTrace). x.numbers) same ∙ ap (λ (x : CallTrace). x.numbers) after;
    resets = ap (λ (x : CallTrace). x.resets) same ∙ ap (λ (x : CallTrace). x.resets ++ stream_in answer ∷ []) after;
    went = record {
      role = ap (λ (x : CallTrace). x.connection_trace.role) same ∙ gone.role;
      fed = ap (λ (x : CallTrace). x.connection_trace.fed) same ∙ gone.fed;
      dropped = ap (λ (x : CallTrace). x.connection_trace.dropped) same ∙ gone.dropped;
    };
  }
  heard_next t u v answer false after gone same = record {
    reported = ap (λ (x : CallTrace). x.reported) same ∙ ap (λ (x : CallTrace). x.reported) after;
    taken = ap (λ (x : CallTrace). x.taken) same ∙ ap (λ (x : CallTrace). x.taken) after;
    begun = ap (λ (x : CallTrace). x.begun) same ∙ ap (λ (x : CallTrace). x.begun) after;
    numbers = ap (λ (x : CallTrace). x.numbers) same ∙ ap (λ (x : CallTrace). x.numbers) after;
    resets = ap (λ (x : CallTrace). x.resets) same ∙ ap (λ (x : CallTrace). x.resets) after ∙ sym (append-nil t.resets);
    went = record {
      role = ap (λ (x : CallTrace). x.connection_trace.role) same ∙ gone.role;
      fed = ap (λ (x : CallTrace). x.connection_trace.fed) same ∙ gone.fed;
      dropped = ap (λ (x : CallTrace). x.connection_trace.dropped) same ∙ gone.dropped;
    };
  }

  -- ---- as a part of a turn

  abbrev pub turned_none : (why : Option ClientOver) (calls : K) (kept : List CallView) (tally : Tally) (past : Past) (u : CallTrace) (heard : List Deed) →
      AreHearings heard → StandsAs uses n why calls kept tally (record { trace = u; deeds = heard ++ past.deeds; pieces = past.pieces }) →
      IsCauseOf why u → Turned uses n why calls kept tally past []
  turned_none why calls kept tally past u heard only stands cause = record {
    trace = u;
    heard = heard;
    only = only;
    stands = subst (λ ps. StandsAs uses n why calls kept tally (record { trace = u; deeds = heard ++ past.deeds; pieces = ps })) (sym (append-nil past.pieces)) stands;
    cause = cause;
  }

  pub hearings_then : (ds es : List Deed) → AreHearings ds → AreHearings es → AreHearings (ds ++ es)
  hearings_then [] es h k = k
  hearings_then (Hears answer is_reset ∷ ds) es h k = hearings_then ds es h k
  hearings_then (other ∷ ds) es h k = absurd h

  abbrev pub past_in : (why : Option ClientOver) (calls : K) (kept : List CallView) (tally : Tally) (past : Past) (more : List Piece) →
      Turned uses n why calls kept tally past more → Past
  past_in why calls kept tally past more h = record { trace = h.trace; deeds = h.heard ++ past.deeds; pieces = past.pieces ++ more }

  abbrev pub turned_then : (why : Option ClientOver) (calls later : K) (kept kept_now : List CallView) (tally tally_now : Tally) (past : Past) (more next : List Piece)
      (h : Turned uses n None calls kept tally past more) →
      Turned uses n why later kept_now tally_now (past_in None calls kept tally past more h) next → Turned uses n why later kept_now tally_now past (more ++ next)
  turned_then why calls later kept kept_now tally tally_now past more next h k = record {
    trace = k.trace;
    heard = k.heard ++ h.heard;
    only = hearings_then k.heard h.heard k.only h.only;
    stands = subst (λ ds. StandsAs uses n why later kept_now tally_now (record { trace = k.trace; deeds = ds; pieces = past.pieces ++ (more ++ next) }))
        (sym (append_assoc k.heard h.heard past.deeds))
        (subst (λ ps. StandsAs uses n why later kept_now tally_now (record { trace = k.trace; deeds = k.heard ++ (h.heard ++ past.deeds); pieces = ps }))
        (append_assoc past.pieces more next) k.stands);
    cause = k.cause;
  }

-- ---- which answer an event shows

pub answered_is : (stream : ℕ) (bytes : List ℕ) (a : Answer GrpcStatus) → IsShownAs (Answered a) (says.Answered stream bytes) → a ≡ call.Answered stream bytes
answered_is stream bytes (call.Answered id message) h = ap (λ i. call.Answered i message) (sym h.0) ∙ ap (call.Answered stream) (sym h.1)
answered_is stream bytes (call.Closed id status) h = absurd h
answered_is stream bytes (call.Broken id) h = absurd h

pub closed_is : (stream : ℕ) (status : GrpcStatus) (a : Answer GrpcStatus) → IsShownAs (Answered a) (says.Closed stream status) → a ≡ call.Closed stream status
closed_is stream status (call.Answered id message) h = absurd h
closed_is stream status (call.Closed id s) h = ap (λ i. call.Closed i s) (sym h.0) ∙ ap (call.Closed stream) (sym h.1)
closed_is stream status (call.Broken id) h = absurd h

pub broken_is : (stream : ℕ) (a : Answer GrpcStatus) → IsShownAs (Answered a) (says.Dropped stream) → a ≡ call.Broken stream
broken_is stream (call.Answered id message) h = absurd h
broken_is stream (call.Closed id s) h = absurd h
broken_is stream (call.Broken id) h = ap (λ i. call.Broken i) (sym h)

pub begun_never : (stream : ℕ) (method : Method) (a : Answer GrpcStatus) → IsShownAs (Answered a) (says.Begun stream method) → ⊥
begun_never stream method (call.Answered id message) h = h
begun_never stream method (call.Closed id s) h = h
begun_never stream method (call.Broken id) h = h

pub request_never : (stream : ℕ) (bytes : List ℕ) (a : Answer GrpcStatus) → IsShownAs (Answered a) (says.Request stream bytes) → ⊥
request_never stream bytes (call.Answered id message) h = h
request_never stream bytes (call.Closed id s) h = h
request_never stream bytes (call.Broken id) h = h

pub finished_never : (stream : ℕ) (a : Answer GrpcStatus) → IsShownAs (Answered a) (says.Finished stream) → ⊥
finished_never stream (call.Answered id message) h = h
finished_never stream (call.Closed id s) h = h
finished_never stream (call.Broken id) h = h

same_quiet : (t u : CallTrace) → u ≡ t → Quiet t u
same_quiet t u e = record {
  after = e ∙ ap (λ (c : ConnectionTrace). record t { connection_trace = c }) (sym (ap (λ (x : CallTrace). x.connection_trace) e));
  went = record {
    role = ap (λ (x : CallTrace). x.connection_trace.role) e;
    fed = ap (λ (x : CallTrace). x.connection_trace.fed) e;
    dropped = ap (λ (x : CallTrace). x.connection_trace.dropped) e;
  };
}

-- ---- the arms of an event

module _ {K : Type 0} (uses : K → CallTrace → Type 0) (output : K → List ℕ) (sound : (calls : K) (t : CallTrace) → uses calls t → IsSoundCallTrace t (output calls))
    (n : Numbers) (calls mid : K) (kept : List CallView) (tally : Tally) (past : Past) (h : Works uses n calls kept tally past) where
  abbrev Says : (CallTrace → CallTrace → Type 0) → Type 0
  Says leads = (t : CallTrace) → uses calls t → t.numbers ≡ n → (u : CallTrace) × uses mid u × leads t u

  pub hears_all : Says NeedsMore → HearsAll uses n mid kept tally past
  hears_all says =
      let k = says past.trace h.used h.numbers in
      record {
        turned = turned_none uses n None mid kept tally past k.0 [] tt
            (works_quiet uses n calls mid kept tally past k.0 h k.1 (needs_quiet past.trace k.0 (output mid) (sound mid k.0 k.1) h.role k.2)) tt;
        settled = record { reported = k.2.reported; rest = k.2.waits.rest; whole = k.2.waits.whole };
      }

  stop_quiet : (stop : Stop) (u : CallTrace) → uses mid u → RepeatsRefusal past.trace (Stopped stop) u ⊎ Stops past.trace stop u →
      Quiet past.trace u × (StopsAt stop u.connection_trace ⊎ (u.connection_trace.refusal ≡ Some (Stopped stop)))
  stop_quiet stop u used (inl (refused, same)) = (same_quiet past.trace u same, inr (ap (λ (x : CallTrace). x.connection_trace.refusal) same ∙ refused))
  stop_quiet stop u used (inr stops) = (stops_quiet past.trace u (output mid) (sound mid u used) h.role stop stops, inl (stops.before, u.connection_trace, stops.stops, refl))

  pub hears_stop : (stop : Stop) → Says (λ t u. RepeatsRefusal t (Stopped stop) u ⊎ Stops t stop u) →
      (u : CallTrace) × Works uses n mid kept tally (record { trace = u; deeds = past.deeds; pieces = past.pieces })
      × (StopsAt stop u.connection_trace ⊎ (u.connection_trace.refusal ≡ Some (Stopped stop)))
  hears_stop stop says =
      let k = says past.trace h.used h.numbers in
      let q = stop_quiet stop k.0 k.1 k.2 in
      (k.0, works_quiet uses n calls mid kept tally past k.0 h k.1 q.0, q.1)

  memory_quiet : (u : CallTrace) → uses mid u → RepeatsRefusal past.trace NoMemory u ⊎ RunsOutOfMemory past.trace u → Quiet past.trace u
  memory_quiet u used (inl (refused, same)) = same_quiet past.trace u same
  memory_quiet u used (inr out) = starves_quiet past.trace u (output mid) (sound mid u used) h.role out

  pub hears_none : Says (λ t u. RepeatsRefusal t NoMemory u ⊎ RunsOutOfMemory t u) → Turned uses n (Some over.NoMemory) mid kept tally past []
  hears_none says =
      let k = says past.trace h.used h.numbers in
      let q = memory_quiet k.0 k.1 k.2 in
      turned_none uses n (Some over.NoMemory) mid kept tally past k.0 [] tt
      (starves uses n calls mid kept tally past k.0 h k.1
      (q.after ∙ ap (λ (r : List PeerEvent). record past.trace { connection_trace = k.0.connection_trace; reported = r }) (sym (ap (λ (x : CallTrace). x.reported) q.after)))
      q.went) tt

  module _ (event : CallEvent) (says : Says (λ t u. GivesCallEvent t event u)) where
    told : (u : CallTrace) × uses mid u × HearsNext past.trace event u
    told =
        let k = says past.trace h.used h.numbers in (k.0, k.1, next_heard past.trace k.0 (output mid) (sound mid k.0 k.1) h.role event k.2)

    -- it shows no answer, which can't be
    pub hears_no_other : {A : Type 0} → ((a : Answer GrpcStatus) → IsShownAs (Answered a) event → ⊥) → A
    hears_no_other never = absurd (never told.2.answer told.2.shown)

    pub hears_event : (later : K) (kept_now : List CallView) (tally_now : Tally) (answer : Answer GrpcStatus) (is_reset : Bool) →
        ((a : Answer GrpcStatus) → IsShownAs (Answered a) event → a ≡ answer) → MayReset uses is_reset (stream_in answer) mid later →
        kept_now ≡ calls_hearing n answer kept → tally_now ≡ tally_hearing n answer kept tally → (is_reset ≡ true → is_refused n answer kept ≡ true) →
        Turned uses n None later kept_now tally_now past []
    hears_event later kept_now tally_now answer is_reset is resets kept_is tally_is refused =
        let k = told in
        let v = resets k.0 k.1 in
        let e : k.2.answer ≡ answer = is k.2.answer k.2.shown in
        let after : k.0 ≡ record past.trace { connection_trace = k.0.connection_trace; reported = past.trace.reported ++ Answered answer ∷ [] } =
        k.2.after ∙ ap (λ a. record past.trace { connection_trace = k.0.connection_trace; reported = past.trace.reported ++ Answered a ∷ [] }) e in
        turned_none uses n None later kept_now tally_now past v.0 (Hears answer is_reset ∷ []) tt
        (works_heard uses n calls later kept kept_now tally tally_now past v.0 answer is_reset h v.1
        (heard_next uses n past.trace k.0 v.0 answer is_reset after k.2.went v.2) kept_is tally_is refused) tt

    pub hears_starved : (later : K) (kept_now : List CallView) (tally_now : Tally) → Keeps (uses mid) (uses later) →
        Turned uses n (Some over.NoMemory) later kept_now tally_now past []
    hears_starved later kept_now tally_now keeps =
        let k = told in
        turned_none uses n (Some over.NoMemory) later kept_now tally_now past k.0 [] tt
        (starves uses n calls later kept tally past k.0 h (keeps k.0 k.1)
        (k.2.after ∙ ap (λ (r : List PeerEvent). record past.trace { connection_trace = k.0.connection_trace; reported = r }) (sym (ap (λ (x : CallTrace). x.reported) k.2.after)))
        k.2.went) tt
