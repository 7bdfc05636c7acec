-- Steps of which nothing is shown, and what is told behind them.
use Rattle.std.proofs.Common.{◌≡◌, ◌⊎◌, inl, inr, ℕ, List, [], ◌∷◌, ◌++◌, Option, Some, None, refl, sym, ap, subst, ◌∙◌, append_assoc}
use Rattle.std.proofs.lemmas.List.{append-nil}
use Rattle.h2_exchange.specs.Exchange.{collect}
use Rattle.h2_exchange.specs.Stops.{Stop, Error, Calm}
use Rattle.h2_exchange.proofs.Looking.{collect_more}
use Rattle.http_connection.specs.Answers as conn
use Rattle.http_connection.specs.ConnectionTrace.{ConnectionTrace, IsSound, NoMemory, Refusal, Stopped}
use Rattle.grpc_stream.specs.declared.event.CallEvent.{CallEvent}
use Rattle.grpc_stream.specs.declared.event.CallEvent.TheVariants as says
use Rattle.grpc_stream.specs.CallTrace.{CallTrace, PeerEvent}
use Rattle.grpc_stream.specs.NextEvent as next
use Rattle.grpc_stream.specs.NextEvent.{AppendsPeerEvents, AreHidden, GivesCallEvent, GoesOn, NextEvent, ReportsPeerEvents, RepeatsRefusal, Stops, answer_to, shown_events_of}
use Rattle.call_standing.specs.Steps.{GoesQuietly}

abbrev pub at : CallTrace → ConnectionTrace → CallTrace
at t d = record t { connection_trace = d }

-- what was told leaves the connection, and goes behind what was told before
pub rebased : (t u : CallTrace) (told : List PeerEvent) (d : ConnectionTrace) → AppendsPeerEvents t told u → AppendsPeerEvents (at t d) told (at u d)
rebased t u told d (next.none s) = next.none (at s d)
rebased t u told d (next.one s v reported more later) =
    next.one (at s d) (at v d) reported more (rebased (record s { reported = s.reported ++ reported ∷ []; taken = s.taken ++ answer_to s reported }) v more d later)

pub reported_is : (t u : CallTrace) (told : List PeerEvent) → AppendsPeerEvents t told u → u.reported ≡ t.reported ++ told
reported_is t u told (next.none s) = sym (append-nil s.reported)
reported_is t u told (next.one s v reported more later) =
    reported_is (record s { reported = s.reported ++ reported ∷ []; taken = s.taken ++ answer_to s reported }) v more later ∙ append_assoc s.reported (reported ∷ []) more

pub numbers_are : (t u : CallTrace) (told : List PeerEvent) → AppendsPeerEvents t told u → u.numbers ≡ t.numbers
numbers_are t u told (next.none s) = refl
numbers_are t u told (next.one s v reported more later) =
    numbers_are (record s { reported = s.reported ++ reported ∷ []; taken = s.taken ++ answer_to s reported }) v more later

pub connection_is : (t u : CallTrace) (told : List PeerEvent) → AppendsPeerEvents t told u → u.connection_trace ≡ t.connection_trace
connection_is t u told (next.none s) = refl
connection_is t u told (next.one s v reported more later) =
    connection_is (record s { reported = s.reported ++ reported ∷ []; taken = s.taken ++ answer_to s reported }) v more later

pub appended : (t u v : CallTrace) (told more : List PeerEvent) → AppendsPeerEvents t told u → AppendsPeerEvents u more v → AppendsPeerEvents t (told ++ more) v
appended t u v told more (next.none s) later = later
appended t u v told more (next.one s w reported rest now) later =
    next.one s v reported (rest ++ more) (appended (record s { reported = s.reported ++ reported ∷ []; taken = s.taken ++ answer_to s reported }) w v rest more now later)

pub went_on : (c d e : ConnectionTrace) → GoesOn c d → GoesOn d e → GoesOn c e
went_on c d e (next.stays a) later = later
went_on c d e (next.goes a b f es output gives sound now) later = next.goes a b e es output gives sound (went_on b f e now later)

pub gave : (c d : ConnectionTrace) (es : List _) (output : List ℕ) → conn.GivesEvents c es d → IsSound d output → GoesOn c d
gave c d es output gives sound = next.goes c d d es output gives sound (next.stays d)

pub hidden_more : (past now later : List PeerEvent) → AreHidden past now → AreHidden (past ++ now) later → AreHidden past (now ++ later)
hidden_more past now later h k =
    collect_more shown_events_of past now later ∙ ap (λ (l : List PeerEvent). l ++ collect shown_events_of (past ++ now) later) h ∙ k

-- ---- behind a quiet step

module _ (t u : CallTrace) (quiet : GoesQuietly t u) where
  told_is : u.reported ≡ t.reported ++ quiet.hidden
  told_is = reported_is (at t u.connection_trace) u quiet.hidden quiet.tells.takes

  still_hidden : (later : List PeerEvent) → AreHidden u.reported later → AreHidden t.reported (quiet.hidden ++ later)
  still_hidden later k = hidden_more t.reported quiet.hidden later quiet.quiet (subst (λ (l : List PeerEvent). AreHidden l later) told_is k)

  tells_more : (v : CallTrace) (later : List PeerEvent) (c : ConnectionTrace) → ReportsPeerEvents u later c v → ReportsPeerEvents t (quiet.hidden ++ later) c v
  tells_more v later c h = record {
    alive = quiet.tells.alive;
    goes_on = went_on t.connection_trace u.connection_trace c quiet.tells.goes_on h.goes_on;
    takes = appended (at t v.connection_trace) (at u v.connection_trace) v quiet.hidden later
        (rebased (at t u.connection_trace) u quiet.hidden v.connection_trace quiet.tells.takes) h.takes;
  }

  pub quiet_more : (v : CallTrace) → GoesQuietly u v → GoesQuietly t v
  quiet_more v h = record { hidden = quiet.hidden ++ h.hidden; quiet = still_hidden h.hidden h.quiet; tells = tells_more v h.hidden v.connection_trace h.tells }

  pub quiet_numbers : u.numbers ≡ t.numbers
  quiet_numbers = numbers_are (at t u.connection_trace) u quiet.hidden quiet.tells.takes

  not_repeated : (o : Option Refusal) (why : Refusal) → o ≡ None → o ≡ Some why → ⊥
  not_repeated None why e f = absurd cc
  not_repeated (Some other) why e f = absurd cc

  given_later : (event : CallEvent) (v : CallTrace) → GivesCallEvent u event v → GivesCallEvent t event v
  given_later event v h = record {
    hidden = quiet.hidden ++ h.hidden;
    last = h.last;
    shown = h.shown;
    quiet = still_hidden h.hidden h.quiet;
    visible = ap (λ (l : List PeerEvent). shown_events_of l h.last) (sym (append_assoc t.reported quiet.hidden h.hidden) ∙ ap (λ (l : List PeerEvent). l ++ h.hidden) (sym told_is)) ∙ h.visible;
    tells = subst (λ (l : List PeerEvent). ReportsPeerEvents t l v.connection_trace v) (sym (append_assoc quiet.hidden h.hidden (h.last ∷ []))) (tells_more v (h.hidden ++ h.last ∷ []) v.connection_trace h.tells);
    event_is = h.event_is;
  }

  stops_later : (stop : Stop) (v : CallTrace) → Stops u stop v → Stops t stop v
  stops_later stop v h = record {
    before = h.before;
    hidden = quiet.hidden ++ h.hidden;
    quiet = still_hidden h.hidden h.quiet;
    tells = tells_more v h.hidden h.before h.tells;
    reported = h.reported;
    stops = h.stops;
  }

  module _ (alive : u.connection_trace.refusal ≡ None) where
    stopped_later : (stop : Stop) (v : CallTrace) → RepeatsRefusal u (Stopped stop) v ⊎ Stops u stop v → RepeatsRefusal t (Stopped stop) v ⊎ Stops t stop v
    stopped_later stop v (inl r) = absurd (not_repeated u.connection_trace.refusal (Stopped stop) alive r.0)
    stopped_later stop v (inr s) = inr (stops_later stop v s)

    pub next_later : (event : CallEvent) (v : CallTrace) → NextEvent u event v → NextEvent t event v
    next_later says.NeedMore v h = record {
      before = h.before;
      hidden = quiet.hidden ++ h.hidden;
      quiet = still_hidden h.hidden h.quiet;
      tells = tells_more v h.hidden h.before h.tells;
      reported = h.reported;
      waits = h.waits;
    }
    next_later (says.Refused why place) v h = stopped_later (Error why place) v h
    next_later (says.Calm cause) v h = stopped_later (Calm cause) v h
    next_later says.NoMemory v (inl r) = absurd (not_repeated u.connection_trace.refusal NoMemory alive r.0)
    next_later says.NoMemory v (inr r) = inr (record {
      before = r.before;
      hidden = quiet.hidden ++ r.hidden;
      quiet = still_hidden r.hidden r.quiet;
      tells = tells_more v r.hidden r.before r.tells;
      out = r.out;
    })
    next_later (says.Begun stream method) v h = given_later (says.Begun stream method) v h
    next_later (says.Request stream bytes) v h = given_later (says.Request stream bytes) v h
    next_later (says.Finished stream) v h = given_later (says.Finished stream) v h
    next_later (says.Dropped stream) v h = given_later (says.Dropped stream) v h
    next_later (says.Answered stream bytes) v h = given_later (says.Answered stream bytes) v h
    next_later (says.Closed stream status) v h = given_later (says.Closed stream status) v h

-- nothing yet
pub quiet_start : (t : CallTrace) → t.connection_trace.refusal ≡ None → GoesQuietly t t
quiet_start t alive = record { hidden = []; quiet = refl; tells = record { alive = alive; goes_on = next.stays t.connection_trace; takes = next.none t } }
