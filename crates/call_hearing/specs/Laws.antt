-- What one more event tells, and what is kept of a call behind it.
use Rattle.std.specs.Prelude.{◌≡◌, ◌⊎◌, ℕ, ◌<◌, Bool, true, false, map, List, [], ◌∷◌, ◌++◌, length, None, Ok, Err}
use Rattle.std.specs.List.{flat_map, list_any}
use Rattle.grpc_framing.specs.CutterState.{CutterState}
use Rattle.grpc_framing.specs.NextMessage.{NextMessage}
use Rattle.grpc_framing.specs.declared.cutter.Cut.TheVariants as answer
use Rattle.grpc_heads.specs.declared.head.Method.{Method}
use Rattle.grpc_heads.specs.CallEnd.{CallEnd, compressed, method_by, status_by, too_long, truncated, unknown}
use Rattle.grpc_heads.specs.Heads.{head_of}
use Rattle.grpc_heads.specs.Trailers.{status_in_trailers}
use Rattle.hpack_tables.specs.declared.field.Field.{Field}
use Rattle.h2_frames.specs.declared.code.ErrorCode.{ErrorCode}
use Rattle.h2_exchange.specs.declared.limits.H2Limits.{H2Limits}
use Rattle.h2_exchange.specs.declared.role.Role.{Role}
use Rattle.h2_exchange.specs.declared.role.Role.TheVariants.{Client, Server}
use Rattle.h2_exchange.specs.Calls.{Begun, Request, Dropped, Declined, Closed, Broken, answers_of, calls_of, cut, end_calls, is_begun_call, is_ended_on}
use Rattle.h2_exchange.specs.Calls as call
use Rattle.h2_exchange.specs.Events.{Event, Head, Data, Ended, Reset, GoneAway, bytes_of, bytes_on}
use Rattle.h2_exchange.specs.Content.{Outcome}
use Rattle.h2_exchange.specs.Exchange.{Step}
use Rattle.h2_exchange.specs.Outcomes.{AreKnown}
use Rattle.h2_exchange.specs.Sending.{ResetsErrors}
use Rattle.h2_exchange.specs.Stops.{events, stop_of}
use Rattle.h2_exchange.specs.Streams.{is_begun, is_over}
use Rattle.grpc_stream.specs.CallTrace as trace
use Rattle.grpc_stream.specs.CallTrace.{PeerEvent, Asked}
use Rattle.grpc_stream.specs.NextEvent.{asked_of}
use Rattle.schema_numbers.specs.Numbers.{Numbers}
use Rattle.kept_calls.specs.declared.call.Receiving.{Receiving}
use Rattle.kept_calls.specs.declared.call.Receiving.TheVariants as was
use Rattle.kept_calls.specs.CallState.{CallState, began, with_piece}
use Rattle.call_hearing.specs.declared.pending.Pending.{Pending}
use Rattle.call_hearing.specs.declared.pending.Pending.TheVariants.{Nothing, Cut}
use Rattle.call_hearing.specs.Listening.{Hears, HearsAnswered, HearsAsked, awaits_answers, brings_on, cut_tells, ends_answers, has_event, heads_on, is_asking, is_cut, is_on, told_by}

-- what an event tells, in the light of those before it
abbrev pub tells : Role → Numbers → List Event → Event → List PeerEvent
tells Server n es e = map Asked (calls_of (λ fields. method_by (head_of fields)) compressed too_long truncated es e)
tells Client n es e = map trace.Answered (answers_of (λ fields. status_by (status_in_trailers n fields)) unknown es e)

-- an event adds what it tells
abbrev pub EventsTell : Type 0
EventsTell = (role : Role) (n : Numbers) (es : List Event) (e : Event) → told_by role n (es ++ e ∷ []) ≡ told_by role n es ++ tells role n es e

-- ---- what is told of a call that is kept

-- At a server the DATA of a call tell what the bytes behind its messages hold, its end that it is finished or cut off, and its reset that it is dropped.
pub record OpenCallsAsk : Type 0 where
  pub data_tell : (n : Numbers) (es : List Event) (reported : List PeerEvent) (pending : Pending) (c : CallState) (bytes : List ℕ) →
      is_cut pending c.stream ≡ false → HearsAsked es reported pending c →
      tells Server n es (Data c.stream bytes) ≡ cut_tells Server c.stream (cut (c.cutter.held ++ bytes))
  pub end_tells : (n : Numbers) (es : List Event) (reported : List PeerEvent) (pending : Pending) (c : CallState) →
      is_cut pending c.stream ≡ false → HearsAsked es reported pending c →
      tells Server n es (Ended c.stream) ≡ map Asked (end_calls (λ fields. method_by (head_of fields)) compressed too_long truncated c.stream c.cutter.held)
  pub reset_tells : (n : Numbers) (es : List Event) (reported : List PeerEvent) (pending : Pending) (c : CallState) (why : ErrorCode) →
      is_cut pending c.stream ≡ false → HearsAsked es reported pending c → tells Server n es (Reset c.stream why) ≡ Asked (Dropped c.stream) ∷ []

-- At a client the DATA of a call tell what the bytes behind its messages hold, and its end the status of its trailers, or UNKNOWN without any.
pub record OpenCallsAnswer : Type 0 where
  pub data_tell : (n : Numbers) (es : List Event) (pending : Pending) (c : CallState) (bytes : List ℕ) →
      is_cut pending c.stream ≡ false → HearsAnswered es pending c →
      tells Client n es (Data c.stream bytes) ≡ cut_tells Client c.stream (cut (c.cutter.held ++ bytes))
  pub trailers_tell : (n : Numbers) (es : List Event) (pending : Pending) (c : CallState) (fields : List Field) →
      is_cut pending c.stream ≡ false → HearsAnswered es pending c →
      tells Client n es (Head c.stream fields true) ≡ trace.Answered (Closed c.stream (status_by (status_in_trailers n fields))) ∷ []
  pub end_tells : (n : Numbers) (es : List Event) (pending : Pending) (c : CallState) →
      is_cut pending c.stream ≡ false → HearsAnswered es pending c → tells Client n es (Ended c.stream) ≡ trace.Answered (Closed c.stream unknown) ∷ []
  pub reset_tells : (n : Numbers) (es : List Event) (pending : Pending) (c : CallState) (why : ErrorCode) →
      is_cut pending c.stream ≡ false → HearsAnswered es pending c → tells Client n es (Reset c.stream why) ≡ trace.Answered (Closed c.stream unknown) ∷ []

-- Of a call that was refused nothing is told, of a response's head neither, nor by GOAWAY.
pub record OthersTellNothing : Type 0 where
  pub refused : (n : Numbers) (es : List Event) (id : ℕ) (e : Event) → is_on id e ≡ true → heads_on id e ≡ false → is_asking es id ≡ false →
      tells Server n es e ≡ []
  pub closed : (n : Numbers) (es : List Event) (id : ℕ) (e : Event) → is_on id e ≡ true → awaits_answers es id ≡ false → tells Client n es e ≡ []
  pub response : (n : Numbers) (es : List Event) (id : ℕ) (fields : List Field) → tells Client n es (Head id fields false) ≡ []
  pub goaway : (role : Role) (n : Numbers) (es : List Event) (last : ℕ) (why : ErrorCode) → tells role n es (GoneAway last why) ≡ []

-- ---- what is kept behind an event

-- What is heard on a stream is the same behind an event of another one, and behind more that was told.
pub record ListeningLasts : Type 0 where
  pub elsewhere : (role : Role) (es : List Event) (e : Event) (reported : List PeerEvent) (pending : Pending) (c : CallState) (r : Receiving) →
      is_on c.stream e ≡ false → Hears role es reported pending c r → Hears role (es ++ e ∷ []) reported pending c r
  pub reported : (role : Role) (es : List Event) (reported more : List PeerEvent) (pending : Pending) (c : CallState) (r : Receiving) →
      Hears role es reported pending c r → Hears role es (reported ++ more) pending c r
  pub pending : (role : Role) (es : List Event) (reported : List PeerEvent) (before now : Pending) (c : CallState) (r : Receiving) →
      (is_cut now c.stream ≡ false → is_cut before c.stream ≡ false) → Hears role es reported before c r → Hears role es reported now c r

-- A server's open call is one still behind its DATA, whose bytes are to be cut, behind its end where no part of a message is held, and behind its reset.
-- Where a part is held, its end refuses it.
pub record OpenCallsLast : Type 0 where
  pub fed : (es : List Event) (reported : List PeerEvent) (c : CallState) (bytes : List ℕ) → list_any (is_ended_on c.stream) es ≡ false →
      HearsAsked es reported Nothing c → HearsAsked (es ++ Data c.stream bytes ∷ []) reported (Cut c.stream) (with_piece bytes c)
  pub ended : (es : List Event) (reported : List PeerEvent) (c : CallState) → c.cutter.held ≡ [] →
      HearsAsked es reported Nothing c → HearsAsked (es ++ Ended c.stream ∷ []) reported Nothing c
  pub cut_off : (es : List Event) (reported : List PeerEvent) (c : CallState) → (c.cutter.held ≡ [] → ⊥) →
      HearsAsked es reported Nothing c → Hears Server (es ++ Ended c.stream ∷ []) reported Nothing c was.Closed
  pub reset : (es : List Event) (reported : List PeerEvent) (c : CallState) (why : ErrorCode) →
      HearsAsked es reported Nothing c → HearsAsked (es ++ Reset c.stream why ∷ []) reported Nothing c

-- A client's open call is one still behind a head that is not the last, and behind DATA, and is over behind an end.
pub record OpenAnswersLast : Type 0 where
  pub fed : (es : List Event) (c : CallState) (bytes : List ℕ) →
      HearsAnswered es Nothing c → HearsAnswered (es ++ Data c.stream bytes ∷ []) (Cut c.stream) (with_piece bytes c)
  pub response : (es : List Event) (c : CallState) (fields : List Field) → HearsAnswered es Nothing c →
      HearsAnswered (es ++ Head c.stream fields false ∷ []) Nothing c
  pub over : (es : List Event) (id : ℕ) (e : Event) → ends_answers id e ≡ true → awaits_answers (es ++ e ∷ []) id ≡ false

-- A call that was refused or is over stays so. On a server's stream no second head comes, and no bytes behind its end.
pub record ClosedCallsLast : Type 0 where
  pub asked : (es : List Event) (e : Event) (id : ℕ) → heads_on id e ≡ false → (bytes_of id e ≡ []) ⊎ (list_any (is_ended_on id) es ≡ false) →
      is_asking es id ≡ false → is_asking (es ++ e ∷ []) id ≡ false
  pub answered : (es : List Event) (e : Event) (id : ℕ) → awaits_answers es id ≡ false → awaits_answers (es ++ e ∷ []) id ≡ false

-- a call that begins, and a head that is refused
pub record HeadsBeginCalls : Type 0 where
  pub begins : (es : List Event) (reported : List PeerEvent) (id : ℕ) (fields : List Field) (last : Bool) (method : Method) →
      method_by (head_of fields) ≡ Ok method → bytes_on id es ≡ [] →
      HearsAsked (es ++ Head id fields last ∷ []) (reported ++ Asked (Begun id method) ∷ []) Nothing (began id was.Open false)
  pub refused : (es : List Event) (id : ℕ) (fields : List Field) (last : Bool) (answer : CallEnd) →
      method_by (head_of fields) ≡ Err answer → list_any (heads_on id) es ≡ false → is_asking (es ++ Head id fields last ∷ []) id ≡ false
  pub unshown : (n : Numbers) (es : List Event) (id : ℕ) → list_any (heads_on id) es ≡ false →
      list_any (is_begun_call id) (flat_map asked_of (told_by Server n es)) ≡ false

-- ---- bytes that are cut

abbrev pub message_told : Role → ℕ → List ℕ → PeerEvent
message_told Server id m = Asked (Request id m)
message_told Client id m = trace.Answered (call.Answered id m)

abbrev pub refusal_told : Role → ℕ → CallEnd → PeerEvent
refusal_told Server id answer = Asked (Declined id answer)
refusal_told Client id answer = trace.Answered (Broken id)

-- a message is cut from the bytes that a call holds: it is the next that is told, fewer bytes are left, and of them the others are told
pub record MessageIsCut (role : Role) (es : List Event) (reported : List PeerEvent) (c : CallState) (m : List ℕ) (new : CutterState) : Type 0 where
  pub tells : cut_tells role c.stream (cut c.cutter.held) ≡ message_told role c.stream m ∷ cut_tells role c.stream (cut new.held)
  pub hears : Hears role es reported (Cut c.stream) (record c { cutter = new }) was.Open
  pub less : length new.held < length c.cutter.held

-- no message is left, and nothing is told
pub record AllIsCut (role : Role) (es : List Event) (reported : List PeerEvent) (c : CallState) (new : CutterState) : Type 0 where
  pub same : new ≡ c.cutter
  pub tells : cut_tells role c.stream (cut c.cutter.held) ≡ []
  pub hears : Hears role es reported Nothing c was.Open

-- the bytes are refused, which is told alone, and nothing more is heard of the call
pub record CutIsRefused (role : Role) (es : List Event) (reported : List PeerEvent) (c : CallState) (answer : CallEnd) : Type 0 where
  pub tells : cut_tells role c.stream (cut c.cutter.held) ≡ refusal_told role c.stream answer ∷ []
  pub hears : Hears role es reported Nothing c was.Closed

pub record CutsGoOn : Type 0 where
  pub nothing : (role : Role) (id : ℕ) → cut_tells role id (cut []) ≡ []
  pub message : (role : Role) (es : List Event) (reported : List PeerEvent) (c : CallState) (m : List ℕ) (new : CutterState) →
      NextMessage c.cutter (answer.Message m) new → Hears role es reported (Cut c.stream) c was.Open → MessageIsCut role es reported c m new
  pub drained : (role : Role) (es : List Event) (reported : List PeerEvent) (c : CallState) (new : CutterState) →
      NextMessage c.cutter answer.NeedMore new → Hears role es reported (Cut c.stream) c was.Open → AllIsCut role es reported c new
  pub compressed : (role : Role) (es : List Event) (reported : List PeerEvent) (c : CallState) (new : CutterState) →
      NextMessage c.cutter answer.Compressed new → Hears role es reported (Cut c.stream) c was.Open → CutIsRefused role es reported c compressed
  pub too_long : (role : Role) (es : List Event) (reported : List PeerEvent) (c : CallState) (new : CutterState) →
      NextMessage c.cutter answer.TooLong new → Hears role es reported (Cut c.stream) c was.Open → CutIsRefused role es reported c too_long

-- ---- what comes on a stream

-- where this event stands in an exchange that was read, whose stream errors were answered
abbrev pub ComesIn : Role → List Event → Event → Type 0
ComesIn role past e =
    (limits : H2Limits) × (heads : List Outcome) × (x : List Step) × (later : List Event) × AreKnown role limits heads x × ResetsErrors role limits heads x
    × (events role limits heads x ≡ past ++ e ∷ later)

-- At a server a stream has one head, and neither DATA nor an end before it or behind an end.
pub record ServersHear : Type 0 where
  pub one_head : (past : List Event) (e : Event) (id : ℕ) → ComesIn Server past e → heads_on id e ≡ true → list_any (heads_on id) past ≡ false
  pub head_first : (past : List Event) (e : Event) (id : ℕ) → ComesIn Server past e → brings_on id e ≡ true → list_any (heads_on id) past ≡ true
  pub end_last : (past : List Event) (e : Event) (id : ℕ) → ComesIn Server past e → brings_on id e ≡ true → list_any (is_ended_on id) past ≡ false

-- Nothing comes on a stream that is over, and at a client nothing on one that was not begun.
pub record OthersAreSilent : Type 0 where
  pub over : (role : Role) (limits : H2Limits) (heads : List Outcome) (x more : List Step) (id : ℕ) → stop_of role limits heads x ≡ None →
      is_begun role x id ≡ true → is_over x id ≡ true →
      (later : List Event) × (events role limits heads (x ++ more) ≡ events role limits heads x ++ later) × (has_event later id ≡ false)
  pub unbegun : (limits : H2Limits) (heads : List Outcome) (x : List Step) (id : ℕ) → is_begun Client x id ≡ false →
      has_event (events Client limits heads x) id ≡ false
