-- Calls that begin.
use Rattle.std.proofs.Common.{◌≡◌, ℕ, Bool, ◌&&◌, ◌||◌, false, true, List, [], ◌∷◌, ◌++◌, refl, ap, ◌∙◌, inl, map, Result, Ok, Err}
use Rattle.std.specs.Prelude.{if◌then◌else◌, ◌==◌, is_ok}
use Rattle.std.specs.List.{flat_map, list_any}
use Rattle.std.proofs.lemmas.List.Concat.{flat_map-append}
use Rattle.std.proofs.lemmas.List.Folds.{list_any-append}
use Rattle.grpc_framing.specs.declared.front.Front.{Front}
use Rattle.grpc_framing.specs.declared.front.Front.TheVariants.{Message, NeedMore, Compressed, TooLong}
use Rattle.grpc_framing.proofs.Fronts.{front_at-nil}
use Rattle.grpc_heads.specs.declared.head.Method.{Method}
use Rattle.grpc_heads.specs.CallEnd.{CallEnd, compressed, method_by, too_long, truncated}
use Rattle.grpc_heads.specs.Heads.{head_of}
use Rattle.hpack_tables.specs.declared.field.Field.{Field}
use Rattle.h2_exchange.specs.Calls.{Call, Begun, Request, Dropped, calls, calls_of, cut, end_calls, further, head_calls, is_begun_call, is_ended_on, is_refused_cut, refusals}
use Rattle.h2_exchange.specs.Events.{Event, Head, Data, Ended, Reset, GoneAway, bytes_on}
use Rattle.h2_exchange.specs.Exchange.{collect}
use Rattle.h2_exchange.proofs.Places.{any_push, second_true, same_self, neither, weaker, or_parts}
use Rattle.grpc_stream.specs.CallTrace.{Asked}
use Rattle.grpc_stream.specs.NextEvent.{asked_of}
use Rattle.kept_calls.specs.CallState.{fresh_cutter}
use Rattle.call_hearing.specs.Laws.{HeadsBeginCalls}
use Rattle.call_hearing.specs.Listening.{Cuts, has_method, heads_on, is_asking}
use Rattle.call_hearing.proofs.Lasting.{and_not, and_off, asking_push, begins_asking, cuts_same, head_of_call, no_more_bytes}

pub nothing_cut : Cuts [] fresh_cutter
nothing_cut = record { limit_is = refl; alive = refl; given = []; leads = λ more. refl }

abbrev method_of : List Field → Result Method CallEnd
method_of fields = method_by (head_of fields)

abbrev gives : List Event → Event → List (Call Method CallEnd)
gives past e = calls_of (λ (fields : List Field). method_by (head_of fields)) compressed too_long truncated past e

no_begin_if : (id : ℕ) (t : Bool) (cs : List (Call Method CallEnd)) → list_any (is_begun_call id) cs ≡ false → list_any (is_begun_call id) (if t then cs else []) ≡ false
no_begin_if id true cs e = e
no_begin_if id false cs e = refl

requests_begin_none : (id stream : ℕ) (ms : List (List ℕ)) (more : List (Call Method CallEnd)) → list_any (is_begun_call id) more ≡ false → list_any (is_begun_call id) (map (Request stream) ms ++ more) ≡ false
requests_begin_none id stream [] more e = e
requests_begin_none id stream (m ∷ ms) more e = requests_begin_none id stream ms more e

refusals_begin_none : (id stream : ℕ) (f : Front) → list_any (is_begun_call id) (refusals (λ (fields : List Field). method_by (head_of fields)) compressed too_long truncated stream f) ≡ false
refusals_begin_none id stream (Message n) = refl
refusals_begin_none id stream NeedMore = refl
refusals_begin_none id stream Compressed = refl
refusals_begin_none id stream TooLong = refl

ends_begin_none : (id stream : ℕ) (rest : List ℕ) → list_any (is_begun_call id) (end_calls (λ (fields : List Field). method_by (head_of fields)) compressed too_long truncated stream rest) ≡ false
ends_begin_none id stream [] = refl
ends_begin_none id stream (b ∷ rest) = refl

heads_begin_none : (id stream : ℕ) (last : Bool) (m : Result Method CallEnd) → (stream == id) ≡ false →
    list_any (is_begun_call id) (head_calls (λ (fields : List Field). method_by (head_of fields)) compressed too_long truncated stream last m) ≡ false
heads_begin_none id stream last (Err answer) off = refl
heads_begin_none id stream true (Ok method) off = neither (stream == id) false off refl
heads_begin_none id stream false (Ok method) off = neither (stream == id) false off refl

event_begins_none : (id : ℕ) (past : List Event) (e : Event) → heads_on id e ≡ false → list_any (is_begun_call id) (gives past e) ≡ false
event_begins_none id past (Head stream fields last) off = heads_begin_none id stream last (method_by (head_of fields)) off
event_begins_none id past (Data stream bytes) off =
    no_begin_if id (is_asking past stream) (map (Request stream) (further (bytes_on stream past) bytes) ++ refusals (λ (fields : List Field). method_by (head_of fields)) compressed too_long truncated stream (cut (bytes_on stream past ++ bytes)).ending)
    (requests_begin_none id stream (further (bytes_on stream past) bytes) (refusals (λ (fields : List Field). method_by (head_of fields)) compressed too_long truncated stream (cut (bytes_on stream past ++ bytes)).ending)
    (refusals_begin_none id stream (cut (bytes_on stream past ++ bytes)).ending))
event_begins_none id past (Ended stream) off =
    no_begin_if id (is_asking past stream) (end_calls (λ (fields : List Field). method_by (head_of fields)) compressed too_long truncated stream (cut (bytes_on stream past)).rest) (ends_begin_none id stream (cut (bytes_on stream past)).rest)
event_begins_none id past (Reset stream why) off = no_begin_if id (is_asking past stream) (Dropped stream ∷ []) refl
event_begins_none id past (GoneAway stream why) off = refl

none_begun : (id : ℕ) (past es : List Event) → list_any (heads_on id) es ≡ false → list_any (is_begun_call id) (collect gives past es) ≡ false
none_begun id past [] h = refl
none_begun id past (e ∷ es) h =
    let parts = or_parts (heads_on id e) (list_any (heads_on id) es) h in
    list_any-append (is_begun_call id) (gives past e) (collect gives (past ++ e ∷ []) es)
    ∙ neither (list_any (is_begun_call id) (gives past e)) (list_any (is_begun_call id) (collect gives (past ++ e ∷ []) es)) (event_begins_none id past e parts.0) (none_begun id (past ++ e ∷ []) es parts.1)

asked : (cs : List (Call Method CallEnd)) → flat_map asked_of (map Asked cs) ≡ cs
asked [] = refl
asked (c ∷ cs) = ap (λ (more : List (Call Method CallEnd)). c ∷ more) (asked cs)

is_method : (id : ℕ) (r : Result Method CallEnd) (method : Method) → r ≡ Ok method → ((id == id) && is_ok r) ≡ true
is_method id r method e = rw (e, same_self id) refl

is_refusal : (r : Result Method CallEnd) (answer : CallEnd) → r ≡ Err answer → is_ok r ≡ false
is_refusal r answer e = ap is_ok e

pub heads_begin_calls : HeadsBeginCalls
heads_begin_calls = record {
  begins = λ es reported id fields last method is none. record {
    begun = any_push (begins_asking id) es (Head id fields last) ∙ second_true (has_method es id) (begins_asking id (Head id fields last)) (is_method id (method_by (head_of fields)) method is);
    shown = ap (list_any (is_begun_call id)) (flat_map-append asked_of reported (Asked (Begun id method) ∷ []))
        ∙ any_push (is_begun_call id) (flat_map asked_of reported) (Begun id method)
        ∙ second_true (list_any (is_begun_call id) (flat_map asked_of reported)) (id == id) (same_self id);
    cuts = cuts_same [] (bytes_on id (es ++ Head id fields last ∷ [])) fresh_cutter (no_more_bytes id es (Head id fields last) refl ∙ none) nothing_cut;
    drained = λ quiet. front_at-nil 4194304;
    whole = λ ended. refl;
  };
  refused = λ es id fields last answer is none.
      asking_push es (Head id fields last) id
      ∙ and_not (has_method es id || begins_asking id (Head id fields last)) (is_refused_cut (list_any (is_ended_on id) es || false) (cut (bytes_on id es ++ [])))
      (inl (neither (has_method es id) (begins_asking id (Head id fields last)) (weaker (heads_on id) (begins_asking id) (head_of_call id) es none)
      (and_off (id == id) (is_ok (method_by (head_of fields))) (is_refusal (method_by (head_of fields)) answer is))));
  unshown = λ n es id none.
      ap (list_any (is_begun_call id)) (asked (calls (λ fields. method_by (head_of fields)) compressed too_long truncated es)) ∙ none_begun id [] es none;
}
