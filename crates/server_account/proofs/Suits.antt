-- The answers to what is declined are ends of a server, and none is for want of memory.
use Rattle.std.proofs.Common.{◌≡◌, ℕ, ◌==◌, Bool, true, false, List, [], ◌∷◌, ◌++◌, map, Result, Ok, Err, refl, sym, ap, subst, ◌∙◌, append-nil}
use Rattle.std.specs.Prelude.{Option, Some, None, if◌then◌else◌, not}
use Rattle.std.specs.List.{All, flat_map}
use Rattle.std.proofs.lemmas.List.Concat.{flat_map-append}
use Rattle.std.proofs.lemmas.List.Elements.{All-append, All-cons, All-nil}
use Rattle.grpc_framing.specs.declared.front.Front.{Front}
use Rattle.grpc_framing.specs.declared.front.Front.TheVariants as front
use Rattle.grpc_heads.specs.CallEnd.{CallEnd, compressed, method_by, too_long, truncated}
use Rattle.grpc_heads.specs.Heads.{call_of, head_of, served}
use Rattle.grpc_heads.specs.declared.head.HeadRead.{HeadRead}
use Rattle.grpc_heads.specs.declared.head.HeadRead.TheVariants as head
use Rattle.grpc_heads.specs.declared.head.Method.{Method}
use Rattle.hpack_tables.specs.Malformed.{is_malformed_request}
use Rattle.hpack_tables.specs.declared.field.Field.{Field}
use Rattle.h2_exchange.specs.declared.role.Role.{Role}
use Rattle.h2_exchange.specs.declared.role.Role.TheVariants.{Server}
use Rattle.h2_exchange.specs.Calls.{Call, Begun, Request, Finished, Dropped, Declined, calls, calls_of, cut, end_calls, further, head_calls, is_going, refusals}
use Rattle.h2_exchange.specs.Events.{Event, Head, Data, Ended, Reset, GoneAway, bytes_on}
use Rattle.h2_exchange.specs.Exchange.{collect}
use Rattle.h2_exchange.specs.StreamParts.{Item, Finish}
use Rattle.h2_exchange.specs.Stops.{events}
use Rattle.grpc_stream.specs.CallTrace.{CallTrace, Answered, Asked, IsSoundCallTrace, PeerEvent, is_ended, queued_on, reported_by, reported_in, suits}
use Rattle.grpc_stream.specs.Laws.{AreSuited}
use Rattle.grpc_stream.specs.NextEvent.{AppendsPeerEvents, none, one, answer_to, asked_of}
use Rattle.server_turns.specs.Serving.{is_want_of_memory}
use Rattle.server_account.proofs.Serves.{asked_back}
use Rattle.server_account.proofs.Takes.{queued_more}

-- ---- what events spell

abbrev pub IsSuited : Call Method CallEnd → Type 0
IsSuited (Declined id answer) = (suits Server (Finish answer) ≡ true) × (is_want_of_memory (Finish answer) ≡ false)
IsSuited other = Unit {0}

abbrev pub Each : List (Call Method CallEnd) → Type 0
Each [] = Unit {0}
Each (c ∷ cs) = IsSuited c × Each cs

each_append : (cs ds : List (Call Method CallEnd)) → Each cs → Each ds → Each (cs ++ ds)
each_append [] ds h k = k
each_append (c ∷ cs) ds (now, others) k = (now, each_append cs ds others k)

each_if : (b : Bool) (cs : List (Call Method CallEnd)) → Each cs → Each (if b then cs else [])
each_if true cs h = h
each_if false cs h = tt

-- a head is refused with such an end
abbrev SuitsIfErr : Result Method CallEnd → Type 0
SuitsIfErr (Ok method) = Unit {0}
SuitsIfErr (Err answer) = (suits Server (Finish answer) ≡ true) × (is_want_of_memory (Finish answer) ≡ false)

served_suits : (m : Option Method) (is_compressed is_late : Bool) → SuitsIfErr (method_by (served m is_compressed is_late))
served_suits None is_compressed is_late = (refl, refl)
served_suits (Some method) true is_late = (refl, refl)
served_suits (Some method) false true = (refl, refl)
served_suits (Some method) false false = tt

first_suits : (malformed post grpc : Bool) (h : HeadRead) → SuitsIfErr (method_by h) → SuitsIfErr (method_by (if malformed then head.Malformed else if not post then head.Http 405 else if not grpc then head.Http 415 else h))
first_suits true post grpc h fits = (refl, refl)
first_suits false false grpc h fits = (refl, refl)
first_suits false true false h fits = (refl, refl)
first_suits false true true h fits = fits

head_suits : (fields : List Field) → SuitsIfErr (method_by (head_of fields))
unfolding head_of
head_suits fields = first_suits (is_malformed_request fields) _ _ (call_of fields) (served_suits _ _ _)

abbrev method_of : List Field → Result Method CallEnd
method_of fields = method_by (head_of fields)

abbrev spells : List Event → Event → List (Call Method CallEnd)
spells past e = calls_of (λ fields. method_by (head_of fields)) compressed too_long truncated past e

head_each : (id : ℕ) (last : Bool) (m : Result Method CallEnd) → SuitsIfErr m → Each (head_calls (λ fields. method_by (head_of fields)) compressed too_long truncated id last m)
head_each id last (Err answer) h = (h, tt)
head_each id true (Ok method) h = (tt, (tt, tt))
head_each id false (Ok method) h = (tt, tt)

refusals_each : (id : ℕ) (f : Front) → Each (refusals (λ fields. method_by (head_of fields)) compressed too_long truncated id f)
refusals_each id (front.Message n) = tt
refusals_each id front.NeedMore = tt
refusals_each id front.Compressed = ((refl, refl), tt)
refusals_each id front.TooLong = ((refl, refl), tt)

requests_each : (id : ℕ) (ms : List (List ℕ)) (f : Front) → Each (map (Request id) ms ++ refusals (λ fields. method_by (head_of fields)) compressed too_long truncated id f)
requests_each id [] f = refusals_each id f
requests_each id (m ∷ ms) f = (tt, requests_each id ms f)

end_each : (id : ℕ) (rest : List ℕ) → Each (end_calls (λ fields. method_by (head_of fields)) compressed too_long truncated id rest)
end_each id [] = (tt, tt)
end_each id (b ∷ rest) = ((refl, refl), tt)

event_each : (past : List Event) (e : Event) → Each (spells past e)
event_each past (Head id fields last) = head_each id last (method_by (head_of fields)) (head_suits fields)
event_each past (Data id bytes) =
    each_if (is_going (λ fields. method_by (head_of fields)) compressed too_long truncated id past)
    (map (Request id) (further (bytes_on id past) bytes) ++ refusals (λ fields. method_by (head_of fields)) compressed too_long truncated id (cut (bytes_on id past ++ bytes)).ending)
    (requests_each id (further (bytes_on id past) bytes) (cut (bytes_on id past ++ bytes)).ending)
event_each past (Ended id) =
    each_if (is_going (λ fields. method_by (head_of fields)) compressed too_long truncated id past) (end_calls (λ fields. method_by (head_of fields)) compressed too_long truncated id (cut (bytes_on id past)).rest)
    (end_each id (cut (bytes_on id past)).rest)
event_each past (Reset id why) = each_if (is_going (λ fields. method_by (head_of fields)) compressed too_long truncated id past) (Dropped id ∷ []) (tt, tt)
event_each past (GoneAway id why) = tt

all_each : (past es : List Event) → Each (collect spells past es)
all_each past [] = tt
all_each past (e ∷ es) = each_append (spells past e) (collect spells (past ++ e ∷ []) es) (event_each past e) (all_each (past ++ e ∷ []) es)

-- ---- what is reported

pub each_front : (cs ds : List (Call Method CallEnd)) → Each (cs ++ ds) → Each cs
each_front [] ds h = tt
each_front (c ∷ cs) ds (now, others) = (now, each_front cs ds others)

pub each_behind : (cs ds : List (Call Method CallEnd)) → Each (cs ++ ds) → Each ds
each_behind [] ds h = h
each_behind (c ∷ cs) ds (now, others) = each_behind cs ds others

pub reported_each : (u : CallTrace) (later : List ℕ) → IsSoundCallTrace u later → u.connection_trace.role ≡ Server → Each (flat_map asked_of u.reported)
reported_each u later sound is =
    let spelled = calls (λ fields. method_by (head_of fields)) compressed too_long truncated (events Server u.connection_trace.limits u.connection_trace.heads u.connection_trace.frames) in
    let as_server : reported_in u ≡ map Asked spelled = ap (λ (r : Role). reported_by r u.numbers (record u.connection_trace { role = r })) is in
    let split : spelled ≡ flat_map asked_of u.reported ++ flat_map asked_of sound.reported.0 =
    sym (asked_back spelled) ∙ ap (flat_map asked_of) (sym as_server ∙ sound.reported.1) ∙ flat_map-append asked_of u.reported sound.reported.0 in
    each_front (flat_map asked_of u.reported) (flat_map asked_of sound.reported.0) (subst Each split (all_each [] (events Server u.connection_trace.limits u.connection_trace.heads u.connection_trace.frames)))

-- ---- what is taken with it

module _ (t : CallTrace) (is : t.connection_trace.role ≡ Server) (h : AreSuited t) where
  abbrev Fits : Item CallEnd → Type 0
  Fits what = suits t.connection_trace.role what ≡ true

  nothing_taken : (now : List PeerEvent) → AreSuited (record t { reported = now; taken = t.taken ++ [] })
  nothing_taken now = subst (λ (l : List (ℕ × Item CallEnd)). AreSuited (record t { reported = now; taken = l })) (sym (append-nil t.taken)) h

  answer_taken : (now : List PeerEvent) (id : ℕ) (answer : CallEnd) → suits Server (Finish answer) ≡ true → AreSuited (record t { reported = now; taken = t.taken ++ (id, Finish answer) ∷ [] })
  answer_taken now id answer fits k =
      subst (All Fits) (sym (queued_more t id k (Finish answer))) (All-append Fits (queued_on t k) (if id == k then Finish answer ∷ [] else []) (h k) (last (id == k)))
    where
      last : (b : Bool) → All Fits (if b then Finish answer ∷ [] else [])
      last true = All-cons Fits (Finish answer) [] (ap (λ (r : Role). suits r (Finish answer)) is ∙ fits) (All-nil Fits)
      last false = All-nil Fits

  suited_after : (p : PeerEvent) → Each (asked_of p) → AreSuited (record t { reported = t.reported ++ p ∷ []; taken = t.taken ++ answer_to t p })
  suited_after (Asked (Declined id answer)) (fits, others) = by (is_ended t id)
    where
      by : (b : Bool) → AreSuited (record t { reported = t.reported ++ Asked (Declined id answer) ∷ []; taken = t.taken ++ (if b then [] else (id, Finish answer) ∷ []) })
      by true = nothing_taken (t.reported ++ Asked (Declined id answer) ∷ [])
      by false = answer_taken (t.reported ++ Asked (Declined id answer) ∷ []) id answer fits.0
  suited_after (Asked (Begun id method)) fits = nothing_taken (t.reported ++ Asked (Begun id method) ∷ [])
  suited_after (Asked (Request id message)) fits = nothing_taken (t.reported ++ Asked (Request id message) ∷ [])
  suited_after (Asked (Finished id)) fits = nothing_taken (t.reported ++ Asked (Finished id) ∷ [])
  suited_after (Asked (Dropped id)) fits = nothing_taken (t.reported ++ Asked (Dropped id) ∷ [])
  suited_after (Answered a) fits = nothing_taken (t.reported ++ Answered a ∷ [])

pub suited_appends : (more : List PeerEvent) (t u : CallTrace) → t.connection_trace.role ≡ Server → Each (flat_map asked_of more) → AreSuited t → AppendsPeerEvents t more u → AreSuited u
suited_appends [] t u is fits h (none _) = h
suited_appends (p ∷ more) t u is fits h (one _ _ _ _ rest) =
    let parts : Each (asked_of p ++ flat_map asked_of more) = subst Each (flat_map-append asked_of (p ∷ []) more ∙ ap (λ (l : List (Call Method CallEnd)). l ++ flat_map asked_of more) (append-nil (asked_of p))) fits in
    suited_appends more (record t { reported = t.reported ++ p ∷ []; taken = t.taken ++ answer_to t p }) u is (each_behind (asked_of p) (flat_map asked_of more) parts)
    (suited_after t is h p (each_front (asked_of p) (flat_map asked_of more) parts)) rest
