-- What the next event of a client's calls is: an answer, which is all that was told, or nothing.
use Rattle.std.proofs.Common.{◌⊎◌, ◌≡◌, inl, inr, ℕ, List, [], ◌∷◌, ◌++◌, map, Some, refl, sym, ap, subst, ◌∙◌, append_assoc, append-nil}
use Rattle.grpc_heads.specs.CallEnd.{status_by, unknown}
use Rattle.grpc_heads.specs.Trailers.{status_in_trailers}
use Rattle.grpc_heads.specs.GrpcStatus.{GrpcStatus}
use Rattle.h2_exchange.specs.declared.role.Role.{Role}
use Rattle.h2_exchange.specs.declared.role.Role.TheVariants.{Client}
use Rattle.h2_exchange.specs.Calls.{Answer, answers}
use Rattle.h2_exchange.specs.Events as happened
use Rattle.h2_exchange.specs.Stops.{Stop}
use Rattle.http_connection.specs.Answers as conn
use Rattle.http_connection.specs.ConnectionTrace.{ConnectionTrace, NoMemory, events_in}
use Rattle.grpc_stream.specs.declared.event.CallEvent.{CallEvent}
use Rattle.grpc_stream.specs.CallTrace.{CallTrace, Answered, Asked, IsSoundCallTrace, PeerEvent, reported_by, reported_in}
use Rattle.grpc_stream.specs.NextEvent.{AppendsPeerEvents, none, one, AreHidden, GivesCallEvent, GoesOn, stays, goes, IsShownAs, NeedsMore, RunsOutOfMemory, Stops, answer_to, shown_events_of}

-- ---- what a connection that gives events keeps

pub record Went (c d : ConnectionTrace) : Type 0 where
  pub role : d.role ≡ c.role
  pub fed : d.fed ≡ c.fed
  pub dropped : d.dropped ≡ c.dropped

went_then : (c d e : ConnectionTrace) → Went c d → Went d e → Went c e
went_then c d e p q = record { role = q.role ∙ p.role; fed = q.fed ∙ p.fed; dropped = q.dropped ∙ p.dropped }

went_now : (c d : ConnectionTrace) (es : List happened.Event) → conn.GivesEvents c es d → Went c d
went_now c d es now = record {
  role = ap (λ (x : ConnectionTrace). x.role) now.goes_on;
  fed = ap (λ (x : ConnectionTrace). x.fed) now.goes_on;
  dropped = ap (λ (x : ConnectionTrace). x.dropped) now.goes_on;
}

went : (c d : ConnectionTrace) → GoesOn c d → Went c d
went c d (stays _) = record { role = refl; fed = refl; dropped = refl }
went c e (goes _ d _ es output now sound later) = went_then c d e (went_now c d es now) (went d e later)

went_stop : (c d : ConnectionTrace) (stop : Stop) → conn.Stops c stop d → Went c d
went_stop c d stop h = went_then c h.at d (went_now c h.at [] h.goes) (record {
  role = ap (λ (x : ConnectionTrace). x.role) h.ends;
  fed = ap (λ (x : ConnectionTrace). x.fed) h.ends;
  dropped = ap (λ (x : ConnectionTrace). x.dropped) h.ends;
})

went_out : (c d : ConnectionTrace) → conn.RunsOutOfMemory c d ⊎ (d ≡ record c { refusal = Some NoMemory }) → Went c d
went_out c d (inl h) = record {
  role = ap (λ (x : ConnectionTrace). x.role) h.ends;
  fed = ap (λ (x : ConnectionTrace). x.fed) h.ends;
  dropped = ap (λ (x : ConnectionTrace). x.dropped) h.ends;
}
went_out c d (inr same) = record {
  role = ap (λ (x : ConnectionTrace). x.role) same;
  fed = ap (λ (x : ConnectionTrace). x.fed) same;
  dropped = ap (λ (x : ConnectionTrace). x.dropped) same;
}

-- ---- a client is told answers alone

abbrev pub AreAnswers : List PeerEvent → Type 0
AreAnswers [] = Unit {0}
AreAnswers (Answered a ∷ ps) = AreAnswers ps
AreAnswers (Asked c ∷ ps) = ⊥

answers_first : (ps rest : List PeerEvent) (given : List (Answer GrpcStatus)) → map Answered given ≡ ps ++ rest → AreAnswers ps
answers_first [] rest given e = tt
answers_first (Answered a ∷ ps) rest [] e = absurd cc
answers_first (Answered a ∷ ps) rest (b ∷ given) e = answers_first ps rest given cc
answers_first (Asked c ∷ ps) rest [] e = absurd cc
answers_first (Asked c ∷ ps) rest (b ∷ given) e = absurd cc

answers_behind : (ps qs : List PeerEvent) → AreAnswers (ps ++ qs) → AreAnswers qs
answers_behind [] qs h = h
answers_behind (Answered a ∷ ps) qs h = answers_behind ps qs h
answers_behind (Asked c ∷ ps) qs h = absurd h

answers_before : (ps qs : List PeerEvent) → AreAnswers (ps ++ qs) → AreAnswers ps
answers_before [] qs h = tt
answers_before (Answered a ∷ ps) qs h = answers_before ps qs h
answers_before (Asked c ∷ ps) qs h = absurd h

all_answers : (u : CallTrace) (output : List ℕ) → IsSoundCallTrace u output → u.connection_trace.role ≡ Client → AreAnswers u.reported
all_answers u output sound is =
    let given = answers (λ fields. status_by (status_in_trailers u.numbers fields)) unknown (events_in u.connection_trace) in
    let told : reported_in u ≡ map Answered given = ap (λ (r : Role). reported_by r u.numbers u.connection_trace) is in
    answers_first u.reported sound.reported.0 given (sym told ∙ sound.reported.1)

none_hidden : (past hidden : List PeerEvent) → AreAnswers hidden → AreHidden past hidden → hidden ≡ []
none_hidden past [] h quiet = refl
none_hidden past (Answered a ∷ ps) h quiet = absurd cc
none_hidden past (Asked c ∷ ps) h quiet = absurd h

-- answers are told, and nothing is taken for them
appended : (more : List PeerEvent) (t u : CallTrace) → AppendsPeerEvents t more u → u.reported ≡ t.reported ++ more
appended [] t u (none _) = sym (append-nil t.reported)
appended (p ∷ more) t u (one _ _ _ _ h) =
    appended more (record t { reported = t.reported ++ p ∷ []; taken = t.taken ++ answer_to t p }) u h ∙ append_assoc t.reported (p ∷ []) more

nothing_appended : (t u : CallTrace) → AppendsPeerEvents t [] u → u ≡ t
nothing_appended t u (none _) = refl

one_appended : (t u : CallTrace) (a : Answer GrpcStatus) → AppendsPeerEvents t (Answered a ∷ []) u → u ≡ record t { reported = t.reported ++ Answered a ∷ [] }
one_appended t u a (one _ _ _ _ h) =
    nothing_appended _ u h ∙ ap (λ l. record t { reported = t.reported ++ Answered a ∷ []; taken = l }) (append-nil t.taken)

-- ---- what comes next

-- an answer was told
pub record HearsNext (t : CallTrace) (event : CallEvent) (u : CallTrace) : Type 0 where
  pub answer : Answer GrpcStatus
  pub shown : IsShownAs (Answered answer) event
  pub after : u ≡ record t { connection_trace = u.connection_trace; reported = t.reported ++ Answered answer ∷ [] }
  pub went : Went t.connection_trace u.connection_trace

-- nothing was told
pub record Quiet (t u : CallTrace) : Type 0 where
  pub after : u ≡ record t { connection_trace = u.connection_trace }
  pub went : Went t.connection_trace u.connection_trace

module _ (t u : CallTrace) (output : List ℕ) (sound : IsSoundCallTrace u output) (is : t.connection_trace.role ≡ Client) where
  told_answers : (more : List PeerEvent) → Went t.connection_trace u.connection_trace → AppendsPeerEvents (record t { connection_trace = u.connection_trace }) more u →
      AreAnswers more
  told_answers more gone takes =
      answers_behind t.reported more (subst AreAnswers (appended more (record t { connection_trace = u.connection_trace }) u takes)
      (all_answers u output sound (gone.role ∙ is)))

  quiet_of : (hidden : List PeerEvent) → Went t.connection_trace u.connection_trace → AreHidden t.reported hidden →
      AppendsPeerEvents (record t { connection_trace = u.connection_trace }) hidden u → Quiet t u
  quiet_of hidden gone quiet takes =
      let none : hidden ≡ [] = none_hidden t.reported hidden (told_answers hidden gone takes) quiet in
      record {
        after = nothing_appended (record t { connection_trace = u.connection_trace }) u
            (subst (λ l. AppendsPeerEvents (record t { connection_trace = u.connection_trace }) l u) none takes);
        went = gone;
      }

  pub needs_quiet : NeedsMore t u → Quiet t u
  needs_quiet h = quiet_of h.hidden (went_then t.connection_trace h.before u.connection_trace (went t.connection_trace h.before h.tells.goes_on)
      (went_now h.before u.connection_trace [] h.waits.goes)) h.quiet h.tells.takes

  pub stops_quiet : (stop : Stop) → Stops t stop u → Quiet t u
  stops_quiet stop h = quiet_of h.hidden (went_then t.connection_trace h.before u.connection_trace (went t.connection_trace h.before h.tells.goes_on)
      (went_stop h.before u.connection_trace stop h.stops)) h.quiet h.tells.takes

  pub starves_quiet : RunsOutOfMemory t u → Quiet t u
  starves_quiet h = quiet_of h.hidden (went_then t.connection_trace h.before u.connection_trace (went t.connection_trace h.before h.tells.goes_on)
      (went_out h.before u.connection_trace h.out)) h.quiet h.tells.takes

  shown_answer : (event : CallEvent) (past : List PeerEvent) (last shown : PeerEvent) → AreAnswers (last ∷ []) → shown_events_of past last ≡ shown ∷ [] →
      IsShownAs shown event → (a : Answer GrpcStatus) × (last ≡ Answered a) × IsShownAs (Answered a) event
  shown_answer event past (Answered a) shown h visible is_event =
      let e : shown ≡ Answered a = cc in (a, refl, subst (λ p. IsShownAs p event) e is_event)
  shown_answer event past (Asked c) shown h visible is_event = absurd h

  pub next_heard : (event : CallEvent) → GivesCallEvent t event u → HearsNext t event u
  next_heard event h =
      let gone = went t.connection_trace u.connection_trace h.tells.goes_on in
      let all = told_answers (h.hidden ++ h.last ∷ []) gone h.tells.takes in
      let none : h.hidden ≡ [] = none_hidden t.reported h.hidden (answers_before h.hidden (h.last ∷ []) all) h.quiet in
      let k = shown_answer event (t.reported ++ h.hidden) h.last h.shown (answers_behind h.hidden (h.last ∷ []) all) h.visible h.event_is in
      let one_more : h.hidden ++ h.last ∷ [] ≡ Answered k.0 ∷ [] = ap (λ l. l ++ h.last ∷ []) none ∙ ap (λ p. p ∷ []) k.1 in
      record {
        answer = k.0;
        shown = k.2;
        after = one_appended (record t { connection_trace = u.connection_trace }) u k.0
            (subst (λ l. AppendsPeerEvents (record t { connection_trace = u.connection_trace }) l u) one_more h.tells.takes);
        went = gone;
      }
