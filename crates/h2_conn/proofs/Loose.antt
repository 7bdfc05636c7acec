-- A received frame that is no part of a header block: streams, counts and bytes of requests.
use Rattle.std.proofs.Common.{◌≡◌, ℕ, ◌+◌, ◌≤◌, Bool, true, false, ◌||◌, ◌&&◌, List, [], ◌∷◌, ◌++◌, map, Option, Some, None, refl, sym, ap, subst, ◌∙◌, arith}
use Rattle.std.specs.Prelude.{not, nat_lt, ◌==◌, if◌then◌else◌}
use Rattle.std.specs.Option.{option_or}
use Rattle.std.specs.List.{flat_map}
use Rattle.std.proofs.lemmas.List.{append-nil, append_assoc}
use Rattle.std.proofs.lemmas.List.Concat.{flat_map-append}
use Rattle.h2_frames.specs.declared.frame.Frame.{Frame}
use Rattle.h2_frames.specs.declared.frame.Frame.TheVariants as kind
use Rattle.h2_exchange.specs.declared.limits.CalmCause.TheVariants.{Resets}
use Rattle.h2_exchange.specs.declared.limits.H2Limits.{H2Limits}
use Rattle.h2_exchange.specs.declared.role.Role.{Role}
use Rattle.h2_exchange.specs.declared.role.Role.TheVariants.{Client, Server}
use Rattle.h2_exchange.specs.Blocks.{data_of}
use Rattle.h2_exchange.specs.Content.{Outcome}
use Rattle.h2_exchange.specs.Events.{Event, Data, Ended, all_events, bytes_of, bytes_on, events_of}
use Rattle.h2_exchange.specs.Exchange.{Step, Received, Sent}
use Rattle.h2_exchange.specs.Frames.{stream_of, is_data, is_headers, is_rst_stream, is_settings, is_ping, counted}
use Rattle.h2_exchange.specs.Sending.{ResetsErrors}
use Rattle.h2_exchange.specs.Stops.{Calm, Stop, cuts_request, ends_call, frame_stop, request_bytes, stop_at}
use Rattle.h2_exchange.specs.Streams.{begins, is_begun, is_live, is_over}
use Rattle.h2_exchange.proofs.Looking.{collect_push, some_more}
use Rattle.h2_exchange.proofs.Steps.{begun_push, over_stays, sent_received}
use Rattle.h2_conn.specs.Watching.{Watch, IsWatched, IsAsked, asked_on, over_on}
use Rattle.h2_conn.proofs.NextMessage.{asked_apart}
use Rattle.h2_conn.proofs.Plain.{IsLoose}
use Rattle.h2_conn.proofs.Splits.{resets_push}
use Rattle.h2_conn.proofs.Watched.{cuts, ends, by_counts, quiet_count, unbegun}

-- ---- kinds of frames

pub record IsData (f : Frame) : Type 0 where
  pub loose : IsLoose f
  pub no_reset : is_rst_stream f ≡ false
  pub no_settings : is_settings f ≡ false
  pub no_ping : is_ping f ≡ false

pub data_is : (f : Frame) → is_data f ≡ true → IsData f
data_is (kind.Content b) e = record { loose = record { headers = refl; more = refl }; no_reset = refl; no_settings = refl; no_ping = refl }
data_is (kind.Headers b) e = absurd (let t : false ≡ true = e in cc)
data_is (kind.Priority b) e = absurd (let t : false ≡ true = e in cc)
data_is (kind.RstStream b) e = absurd (let t : false ≡ true = e in cc)
data_is (kind.Settings b) e = absurd (let t : false ≡ true = e in cc)
data_is (kind.PushPromise b) e = absurd (let t : false ≡ true = e in cc)
data_is (kind.Ping b) e = absurd (let t : false ≡ true = e in cc)
data_is (kind.GoAway b) e = absurd (let t : false ≡ true = e in cc)
data_is (kind.WindowUpdate b) e = absurd (let t : false ≡ true = e in cc)
data_is (kind.Continuation b) e = absurd (let t : false ≡ true = e in cc)
data_is (kind.Unknown other b) e = absurd (let t : false ≡ true = e in cc)

pub record IsReset (f : Frame) : Type 0 where
  pub loose : IsLoose f
  pub no_data : is_data f ≡ false
  pub no_settings : is_settings f ≡ false
  pub no_ping : is_ping f ≡ false

pub reset_is : (f : Frame) → is_rst_stream f ≡ true → IsReset f
reset_is (kind.Content b) e = absurd (let t : false ≡ true = e in cc)
reset_is (kind.Headers b) e = absurd (let t : false ≡ true = e in cc)
reset_is (kind.Priority b) e = absurd (let t : false ≡ true = e in cc)
reset_is (kind.RstStream b) e = record { loose = record { headers = refl; more = refl }; no_data = refl; no_settings = refl; no_ping = refl }
reset_is (kind.Settings b) e = absurd (let t : false ≡ true = e in cc)
reset_is (kind.PushPromise b) e = absurd (let t : false ≡ true = e in cc)
reset_is (kind.Ping b) e = absurd (let t : false ≡ true = e in cc)
reset_is (kind.GoAway b) e = absurd (let t : false ≡ true = e in cc)
reset_is (kind.WindowUpdate b) e = absurd (let t : false ≡ true = e in cc)
reset_is (kind.Continuation b) e = absurd (let t : false ≡ true = e in cc)
reset_is (kind.Unknown other b) e = absurd (let t : false ≡ true = e in cc)

pub small_count : (f : Frame) → counted f ≤ 16384
small_count (kind.Content b) = b.payload_in_range
small_count (kind.Headers b) = omega arith
small_count (kind.Priority b) = omega arith
small_count (kind.RstStream b) = omega arith
small_count (kind.Settings b) = omega arith
small_count (kind.PushPromise b) = omega arith
small_count (kind.Ping b) = omega arith
small_count (kind.GoAway b) = omega arith
small_count (kind.WindowUpdate b) = omega arith
small_count (kind.Continuation b) = omega arith
small_count (kind.Unknown other b) = omega arith

-- ---- streams

live_or : (b n o q : Bool) → n ≡ false → (o ≡ true → q ≡ true) → ((b || n) && not q) ≡ true → (b && not o) ≡ true
live_or true n true q e stays h = let r : q ≡ true = stays refl in absurd cc
live_or true n false q e stays h = refl
live_or false true o q e stays h = absurd cc
live_or false false o q e stays h = absurd cc

pub begins_none : (role : Role) (x : List Step) (f : Frame) (id : ℕ) → is_headers f ≡ false → begins role id x (Received f) ≡ false
begins_none Server x f id e = rw e refl
begins_none Client x f id e = refl

pub live_back : (role : Role) (x : List Step) (f : Frame) (id : ℕ) → is_headers f ≡ false → is_live role (x ++ Received f ∷ []) id ≡ true → is_live role x id ≡ true
live_back role x f id e live =
    live_or (is_begun role x id) (begins role id x (Received f)) (is_over x id) (is_over (x ++ Received f ∷ []) id) (begins_none role x f id e) (over_stays x (Received f ∷ []) id)
    (sym (ap (λ (b : Bool). b && not (is_over (x ++ Received f ∷ []) id)) (begun_push role x (Received f) id)) ∙ live)

or_true : (a b : Bool) → a ≡ true → (a || b) ≡ true
or_true true b e = refl
or_true false b e = absurd cc

pub begun_stays : (role : Role) (x more : List Step) (id : ℕ) → is_begun role x id ≡ true → is_begun role (x ++ more) id ≡ true
begun_stays role x more id e = some_more (begins role id) [] x more ∙ or_true (is_begun role x id) _ e

front_true : (a b : Bool) → (a && b) ≡ true → a ≡ true
front_true true b e = refl
front_true false b e = absurd cc

pub live_begun : (role : Role) (x : List Step) (id : ℕ) → is_live role x id ≡ true → is_begun role x id ≡ true
live_begun role x id e = front_true (is_begun role x id) (not (is_over x id)) e

-- ---- resets of stream errors

pub resets_sent : (role : Role) (limits : H2Limits) (heads : List Outcome) (x : List Step) (fs : List Frame) → ResetsErrors role limits heads x → ResetsErrors role limits heads (x ++ map Sent fs)
resets_sent role limits heads x [] h = subst (ResetsErrors role limits heads) (sym (append-nil x)) h
resets_sent role limits heads x (f ∷ fs) h =
    subst (ResetsErrors role limits heads) (append_assoc x (Sent f ∷ []) (map Sent fs)) (resets_sent role limits heads (x ++ Sent f ∷ []) fs (resets_push role limits heads x f h))

-- ---- a watch

module _ (role : Role) (limits : H2Limits) (heads : List Outcome) where
  -- nothing stops at a frame that breaks no rule, where the counts allow it
  pub stop_goes : (x : List Step) (f : Frame) (left : ℕ) → frame_stop role limits heads x f ≡ None → left + cuts role limits heads (x ++ Received f ∷ []) ≡ 1000 + ends role limits heads (x ++ Received f ∷ []) → stop_at role limits heads x (Received f) ≡ None
  stop_goes x f left goes e =
      ap (λ (o : Option Stop). option_or o (if nat_lt (1000 + ends role limits heads (x ++ Received f ∷ [])) (cuts role limits heads (x ++ Received f ∷ [])) then Some (Calm Resets) else None)) goes
      ∙ by_counts role limits heads left 0 (x ++ Received f ∷ []) e

  pub quiet_heard : (x : List Step) (f : Frame) (w : Watch) → cuts_request role limits heads x (Received f) ≡ false → ends_call limits heads role x (Received f) ≡ false →
      ((id : ℕ) → request_bytes limits heads role (x ++ Received f ∷ []) id ≡ request_bytes limits heads role x id) → ((id : ℕ) → is_live role (x ++ Received f ∷ []) id ≡ true → is_live role x id ≡ true) →
      IsWatched role limits heads x w → IsWatched role limits heads (x ++ Received f ∷ []) w
  quiet_heard x f w no_cut no_end same back h = record {
    counts = λ p. omega (arith, h.counts p, quiet_count role limits heads (cuts_request role limits heads) x (Received f) no_cut, quiet_count role limits heads (ends_call limits heads role) x (Received f) no_end);
    requests = λ id live. subst (λ (b : List ℕ). IsAsked b (asked_on id w)) (sym (same id)) (h.requests id (back id live));
    idle = λ id none. let i = h.idle id (unbegun role x (Received f) id none) in (same id ∙ i.0, i.1);
  }

  -- a stream that isn't live is forgotten
  pub over_watched : (x : List Step) (k : ℕ) (w : Watch) → is_live role x k ≡ false → is_begun role x k ≡ true → IsWatched role limits heads x w → IsWatched role limits heads x (over_on k w)
  over_watched x k w dead begun h = record {
    counts = h.counts;
    requests = λ id live.
        let other : id ≡ k → ⊥ = λ e. let t : is_live role x id ≡ false = ap (is_live role x) e ∙ dead in let u : true ≡ false = sym live ∙ t in absurd cc in
        subst (IsAsked (request_bytes limits heads role x id)) (sym (asked_apart k id w other)) (h.requests id live);
    idle = λ id none.
        let other : id ≡ k → ⊥ = λ e. let t : is_begun role x id ≡ true = ap (is_begun role x) e ∙ begun in let u : true ≡ false = sym t ∙ none in absurd cc in
        let i = h.idle id none in
        (i.0, asked_apart k id w other ∙ i.1);
  }

-- the bytes of requests behind a received frame
pub server_more : (limits : H2Limits) (heads : List Outcome) (x : List Step) (f : Frame) (es : List Event) (id : ℕ) → events_of Server limits heads x (Received f) ≡ es →
    request_bytes limits heads Server (x ++ Received f ∷ []) id ≡ request_bytes limits heads Server x id ++ bytes_on id es
server_more limits heads x f es id e =
    ap (bytes_on id) (collect_push (events_of Server limits heads) x (Received f))
    ∙ flat_map-append (bytes_of id) (all_events Server limits heads x) (events_of Server limits heads x (Received f))
    ∙ ap (λ (l : List Event). bytes_on id (all_events Server limits heads x) ++ bytes_on id l) e

pub client_same : (limits : H2Limits) (heads : List Outcome) (x : List Step) (f : Frame) (id : ℕ) → request_bytes limits heads Client (x ++ Received f ∷ []) id ≡ request_bytes limits heads Client x id
client_same limits heads x f id = ap (flat_map (λ g. if is_data g && stream_of g == id then data_of g else [])) (sent_received x f)

pub bytes_same : (role : Role) (limits : H2Limits) (heads : List Outcome) (x : List Step) (f : Frame) (es : List Event) (id : ℕ) → events_of role limits heads x (Received f) ≡ es → bytes_on id es ≡ [] →
    request_bytes limits heads role (x ++ Received f ∷ []) id ≡ request_bytes limits heads role x id
bytes_same Server limits heads x f es id e none =
    server_more limits heads x f es id e ∙ ap (λ (b : List ℕ). request_bytes limits heads Server x id ++ b) none ∙ append-nil (request_bytes limits heads Server x id)
bytes_same Client limits heads x f es id e none = client_same limits heads x f id

pub data_bytes : (f : Frame) (k : ℕ) (b : Bool) → bytes_on k (Data (stream_of f) (data_of f) ∷ (if b then Ended (stream_of f) ∷ [] else [])) ≡ (if stream_of f == k then data_of f else [])
data_bytes f k true = append-nil (if stream_of f == k then data_of f else [])
data_bytes f k false = append-nil (if stream_of f == k then data_of f else [])
