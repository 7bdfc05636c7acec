-- The end that refuses a call is taken for it, whether its stream is open or not.
use Rattle.std.proofs.Common.{◌≡◌, ℕ, ◌≤◌, ◌==◌, Bool, true, false, List, [], ◌∷◌, ◌++◌, length, sum_by, Some, refl, sym, ap, subst, ◌∙◌, arith}
use Rattle.std.specs.Prelude.{if◌then◌else◌}
use Rattle.std.specs.List.{All, flat_map, list_any}
use Rattle.std.proofs.lemmas.List.{append-nil}
use Rattle.std.proofs.lemmas.List.Concat.{flat_map-append}
use Rattle.std.proofs.lemmas.List.Elements.{All-cons, All-head, All-nil, All-tail}
use Rattle.std.proofs.lemmas.List.Folds.{list_any-append}
use Rattle.grpc_heads.specs.CallEnd.{CallEnd}
use Rattle.hpack_tables.specs.declared.field.Field.{Field}
use Rattle.hpack_tables.specs.EntrySizes.{size_of}
use Rattle.grpc_framing.specs.CutterState.{CutterState}
use Rattle.h2_exchange.specs.declared.role.Role.{Role}
use Rattle.h2_exchange.specs.declared.role.Role.TheVariants.{Client, Server}
use Rattle.h2_exchange.specs.Calls.{Declined}
use Rattle.h2_exchange.specs.StreamParts.{Finish, IsMessageFirst, Item, Message}
use Rattle.h2_exchange.specs.Streams.{is_begun}
use Rattle.h2_exchange.proofs.Places.{clash, second_true}
use Rattle.grpc_stream.specs.CallTrace.{CallTrace, Asked, is_end, is_ended, queued_on, suits, text_of, took}
use Rattle.grpc_stream.specs.NextEvent.{answer_to}
use Rattle.kept_calls.specs.declared.call.Ending.{Ending}
use Rattle.kept_calls.specs.declared.call.Receiving.TheVariants as was
use Rattle.kept_calls.specs.CallState.{CallState, close_unless, closed_by, ended, is_sent, refused_by}
use Rattle.call_sending.specs.Spelling.{AreSuited, AreTaken, EndsIn, Prepares, Sends, Speaks, Spells}
use Rattle.call_sending.proofs.Kept.{IsUntouched, sends_kept}
use Rattle.call_sending.proofs.Taking.{none_taken, queued_elsewhere, queued_here}
use Rattle.call_hearing.specs.declared.pending.Pending.TheVariants.{Nothing}
use Rattle.call_hearing.specs.Listening.{Hears}
use Rattle.call_standing.specs.Standing.{StandsOn}
use Rattle.call_telling.proofs.TakesIn.{sends_as, with_peer}

text_more : (items : List (Item CallEnd)) (e : CallEnd) → flat_map text_of (items ++ Finish e ∷ []) ≡ flat_map text_of items
text_more items e = flat_map-append text_of items (Finish e ∷ []) ∙ append-nil (flat_map text_of items)

taken_more : (items : List (Item CallEnd)) (e : CallEnd) → AreTaken items → list_any is_end items ≡ false → AreTaken (items ++ Finish e ∷ [])
taken_more [] e h none = tt
taken_more (Message m ∷ items) e (size, h) none = (size, taken_more items e h none)
taken_more (Finish x ∷ items) e h none = absurd cc

end_any : (e : CallEnd) (items : List (Item CallEnd)) → EndsIn e items → list_any is_end items ≡ true
end_any e [] h = absurd h
end_any e (Message m ∷ items) h = end_any e items h
end_any e (Finish x ∷ []) h = refl
end_any e (Finish x ∷ item ∷ items) h = refl

first_more : (items : List (Item CallEnd)) (e : CallEnd) → IsMessageFirst items → IsMessageFirst (items ++ Finish e ∷ [])
first_more [] e h = absurd h
first_more (Message m ∷ items) e h = tt
first_more (Finish x ∷ items) e h = absurd h

suited_front : (P : Item CallEnd → Type 0) (xs ys : List (Item CallEnd)) → All P (xs ++ ys) → All P xs
suited_front P [] ys h = All-nil P
suited_front P (x ∷ xs) ys h = All-cons P x xs (All-head P x (xs ++ ys) h) (suited_front P xs ys (All-tail P x (xs ++ ys) h))

-- ---- a stream that was begun, and whose end was not taken

module _ (t : CallTrace) (id : ℕ) (e : CallEnd) (begun : is_begun t.connection_trace.role t.connection_trace.frames id ≡ true) (unended : is_ended t id ≡ false) where
  abbrev next : CallTrace
  next = took id (Finish e) t

  all_is : queued_on next id ≡ queued_on t id ++ Finish e ∷ []
  all_is = queued_here t id (Finish e)

  suited_before : AreSuited next id → AreSuited t id
  suited_before h =
      suited_front (λ (x : Item CallEnd). suits t.connection_trace.role x ≡ true) (queued_on t id) (Finish e ∷ [])
      (subst (All (λ (x : Item CallEnd). suits t.connection_trace.role x ≡ true)) all_is h)

  text_same : flat_map text_of (queued_on next id) ≡ flat_map text_of (queued_on t id)
  text_same = ap (flat_map text_of) all_is ∙ text_more (queued_on t id) e

  spells_finished : (role : Role) (rest : List ℕ) → Spells role t id rest → Spells role next id rest
  spells_finished Server rest a = record {
    bytes = a.bytes;
    close = a.close;
    response = a.response;
    text = text_same ∙ a.text;
    begins = λ b. subst IsMessageFirst (sym all_is) (first_more (queued_on t id) e (a.begins b));
    closes = λ x q. absurd (clash _ (end_any x (queued_on t id) (a.closes x q).1) unended);
  }
  spells_finished Client rest a = record {
    bytes = a.bytes;
    is_last = a.is_last;
    headed = a.headed;
    request = a.request;
    text = text_same ∙ a.text;
    closes = λ q. let over = (a.closes q).1 in absurd (clash _ (end_any over.0 (queued_on t id) over.1) unended);
  }

  speaks_finished : (rest : List ℕ) → Speaks t id rest → Speaks next id rest
  speaks_finished rest h = record {
    taken = subst AreTaken (sym all_is) (taken_more (queued_on t id) e h.taken unended);
    begun_first = λ none. absurd (clash _ begun none);
    count = omega (arith, h.count, ap length text_same);
    whole = h.whole;
    spelled = λ suited. spells_finished t.connection_trace.role rest (h.spelled (suited_before suited));
  }

-- what a last header block needs, so that it says the end of a call that has none
abbrev pub IsReady : CallTrace → CallState → CallEnd → Ending → List Field → Type 0
IsReady t c e ending fields =
    is_ended t c.stream ≡ false → AreSuited (took c.stream (Finish e) t) c.stream → (c.has_message ≡ false → queued_on t c.stream ≡ []) → (c.has_message ≡ true → IsMessageFirst (queued_on t c.stream)) →
    Prepares t.connection_trace.role (took c.stream (Finish e) t) c.stream ending fields

module _ (t : CallTrace) (c : CallState) (e : CallEnd) (ending : Ending) (fields : List Field) (ends : ended ending ≡ true) (unsent : is_sent ending ≡ false) (fits : sum_by size_of fields ≤ 65536)
    (begun : is_begun t.connection_trace.role t.connection_trace.frames c.stream ≡ true) (ready : IsReady t c e ending fields) (h : Sends t c) where
  pub sends_finished : ended c.ending ≡ false → Sends (took c.stream (Finish e) t) (closed_by ending fields c)
  sends_finished going =
      let unended : is_ended t c.stream ≡ false = h.ended_is ∙ going in
      let all = all_is t c.stream e begun unended in
      record {
        speaks = speaks_finished t c.stream e begun unended c.unsent h.speaks;
        ended_is = ap (list_any is_end) all ∙ list_any-append is_end (queued_on t c.stream) (Finish e ∷ []) ∙ second_true (list_any is_end (queued_on t c.stream)) true refl ∙ sym ends;
        sent_is = λ s. absurd (clash _ s unsent);
        fits = fits;
        message_is = λ k. text_same t c.stream e begun unended ∙ h.message_is k;
        first_is = λ k. subst IsMessageFirst (sym all) (first_more (queued_on t c.stream) e (h.first_is k));
        ahead = h.ahead;
        prepared = λ suited. ready unended suited (λ k. none_taken (queued_on t c.stream) unended (h.message_is k)) h.first_is;
      }

-- ---- a call that is refused

-- what is taken by then, where a call is refused with an end
abbrev pub declined_taken : CallTrace → ℕ → CallEnd → List (ℕ × Item CallEnd)
declined_taken t id e = t.taken ++ answer_to t (Asked (Declined id e))

abbrev pub with_taken : List (ℕ × Item CallEnd) → CallTrace → CallTrace
with_taken taken t = record t { taken = taken }

pub taken_by : (t : CallTrace) (id : ℕ) (e : CallEnd) (b : Bool) → is_ended t id ≡ b → declined_taken t id e ≡ t.taken ++ (if b then [] else (id, Finish e) ∷ [])
taken_by t id e b is = ap (λ (x : Bool). t.taken ++ (if x then [] else (id, Finish e) ∷ [])) is

pub declined_elsewhere : (t : CallTrace) (id k : ℕ) (e : CallEnd) → (id == k) ≡ false → queued_on (with_taken (declined_taken t id e) t) k ≡ queued_on t k
declined_elsewhere t id k e apart = by (is_ended t id) refl
  where
    by : (b : Bool) → is_ended t id ≡ b → queued_on (with_taken (declined_taken t id e) t) k ≡ queued_on t k
    by true is =
        ap (λ (l : List (ℕ × Item CallEnd)). queued_on (with_taken l t) k) (taken_by t id e true is ∙ append-nil t.taken)
    by false is =
        ap (λ (l : List (ℕ × Item CallEnd)). queued_on (with_taken l t) k) (taken_by t id e false is) ∙ queued_elsewhere t id k (Finish e) apart

pub declined_sends : (t : CallTrace) (c : CallState) (k : CutterState) (e : CallEnd) (ending : Ending) (fields : List Field) → ended ending ≡ true → is_sent ending ≡ false → sum_by size_of fields ≤ 65536 →
    is_begun t.connection_trace.role t.connection_trace.frames c.stream ≡ true → IsReady t c e ending fields → Sends t c →
    Sends (with_taken (declined_taken t c.stream e) t) (refused_by ending fields (with_peer c.receiving k c))
declined_sends t c k e ending fields ends unsent fits begun ready h = by (ended c.ending) refl
  where
    by : (b : Bool) → ended c.ending ≡ b → Sends (with_taken (declined_taken t c.stream e) t) (close_unless (ended c.ending) ending fields (with_peer was.Closed k c))
    by true is =
        let same : declined_taken t c.stream e ≡ t.taken = taken_by t c.stream e true (h.ended_is ∙ is) ∙ append-nil t.taken in
        subst (λ (b : Bool). Sends (with_taken (declined_taken t c.stream e) t) (close_unless b ending fields (with_peer was.Closed k c))) (sym is)
        (subst (λ (l : List (ℕ × Item CallEnd)). Sends (with_taken l t) (with_peer was.Closed k c)) (sym same) (sends_as t c was.Closed k h))
    by false is =
        let same : declined_taken t c.stream e ≡ (took c.stream (Finish e) t).taken = taken_by t c.stream e false (h.ended_is ∙ is) in
        subst (λ (b : Bool). Sends (with_taken (declined_taken t c.stream e) t) (close_unless b ending fields (with_peer was.Closed k c))) (sym is)
        (subst (λ (l : List (ℕ × Item CallEnd)). Sends (with_taken l t) (closed_by ending fields (with_peer was.Closed k c))) (sym same)
        (sends_finished t (with_peer was.Closed k c) e ending fields ends unsent fits begun ready (sends_as t c was.Closed k h) is))

-- its end is taken
pub refused_ended : (c : CallState) (ending : Ending) (fields : List Field) → ended ending ≡ true → ended (refused_by ending fields c).ending ≡ true
refused_ended c ending fields ends = by (ended c.ending) refl
  where
    by : (b : Bool) → ended c.ending ≡ b → ended (close_unless b ending fields (record c { receiving = was.Closed })).ending ≡ true
    by true is = is
    by false is = ends

pub refused_stream : (c : CallState) (k : CutterState) (ending : Ending) (fields : List Field) → (refused_by ending fields (with_peer c.receiving k c)).stream ≡ c.stream
refused_stream c k ending fields = by (ended c.ending)
  where
    by : (b : Bool) → (close_unless b ending fields (with_peer was.Closed k c)).stream ≡ c.stream
    by true = refl
    by false = refl

refused_receiving : (c : CallState) (k : CutterState) (ending : Ending) (fields : List Field) → (refused_by ending fields (with_peer c.receiving k c)).receiving ≡ was.Closed
refused_receiving c k ending fields = by (ended c.ending)
  where
    by : (b : Bool) → (close_unless b ending fields (with_peer was.Closed k c)).receiving ≡ was.Closed
    by true = refl
    by false = refl

-- it stands behind its refusal
pub stands_refused : (t u : CallTrace) (c : CallState) (k : CutterState) (e : CallEnd) (ending : Ending) (fields : List Field) → ended ending ≡ true → is_sent ending ≡ false → sum_by size_of fields ≤ 65536 →
    is_begun t.connection_trace.role t.connection_trace.frames c.stream ≡ true → IsReady t c e ending fields → Sends t c → IsUntouched (with_taken (declined_taken t c.stream e) t) u c.stream →
    is_begun u.connection_trace.role u.connection_trace.frames c.stream ≡ true →
    Hears u.connection_trace.role u.connection_trace.given u.reported Nothing (refused_by ending fields (with_peer c.receiving k c)) was.Closed →
    StandsOn u Nothing c.stream (Some (refused_by ending fields (with_peer c.receiving k c)))
stands_refused t u c k e ending fields ends unsent fits begun ready h same begun_now hears = (
  refused_stream c k ending fields,
  begun_now,
  record {
    sends = sends_kept (with_taken (declined_taken t c.stream e) t) u (refused_by ending fields (with_peer c.receiving k c))
        (subst (IsUntouched (with_taken (declined_taken t c.stream e) t) u) (sym (refused_stream c k ending fields)) same) (declined_sends t c k e ending fields ends unsent fits begun ready h);
    hears = subst (Hears u.connection_trace.role u.connection_trace.given u.reported Nothing (refused_by ending fields (with_peer c.receiving k c))) (sym (refused_receiving c k ending fields)) hears;
    told = λ going. absurd (clash _ (refused_ended (with_peer c.receiving k c) ending fields ends) going);
  },
)
