-- The object that begins a client's call.
use Rattle.std.proofs.Common.{◌≡◌, ℕ, ◌<◌, ◌≤◌, Bool, true, false, List, [], ◌∷◌, ◌++◌, length, sum_by, refl, sym, ap, subst, ◌∙◌, arith}
use Rattle.std.proofs.lemmas.List.Sums.{sum_by-append}
use Rattle.hpack_tables.specs.declared.field.Field.{Field}
use Rattle.hpack_tables.specs.EntrySizes.{size_of}
use Rattle.h2_frames.specs.declared.frame.Frame.{Frame}
use Rattle.h2_exchange.specs.declared.role.Role.TheVariants.{Client}
use Rattle.h2_exchange.specs.Exchange.{Step, sent}
use Rattle.h2_exchange.specs.Streams.{highest, is_begun, is_odd}
use Rattle.h2_exchange.proofs.Steps.{begun_within}
use Rattle.grpc_heads.specs.Written.{request_fields}
use Rattle.grpc_heads.specs.declared.head.Method.{Method}
use Rattle.grpc_heads.specs.declared.head.Method.TheVariants.{Modify, Get, Flush}
use Rattle.http_connection.specs.ConnectionTrace.{ConnectionTrace, IsSound, wrote}
use Rattle.http_connection.specs.Sends.{CarryBlock, next_id}
use Rattle.grpc_stream.specs.CallTrace.{CallTrace, changed}
use Rattle.kept_calls.specs.declared.call.Receiving.TheVariants.{Open}
use Rattle.kept_calls.specs.CallState.{CallState, began}
use Rattle.call_hearing.specs.declared.pending.Pending.{Pending}
use Rattle.call_hearing.specs.Listening.{told_later}
use Rattle.call_sending.specs.Moves.{IsReady}
use Rattle.call_sending.proofs.Begins.{block_begins, block_frames, next_above, next_odd}
use Rattle.call_standing.specs.declared.fate.Fate.{Fate}
use Rattle.call_standing.specs.declared.fate.Fate.TheVariants.{Going}
use Rattle.call_standing.specs.Standing.{Holds, StandsFor, State, bare}
use Rattle.call_standing.proofs.Begins.{begun_holds}
use Rattle.call_standing.proofs.PumpLaw.{as_going, going_as, ready_of}
use Rattle.call_standing.proofs.Rest.{rest_of}

request_size : (method : Method) → sum_by size_of (request_fields method) ≤ 65536
request_size Modify = let size : sum_by size_of (request_fields Modify) ≡ 295 = refl in omega (arith, size)
request_size Get = let size : sum_by size_of (request_fields Get) ≡ 292 = refl in omega (arith, size)
request_size Flush = let size : sum_by size_of (request_fields Flush) ≡ 294 = refl in omega (arith, size)

-- a request's head may be sent
pub request_is_short : (method : Method) (fields : List Field) → fields ≡ request_fields method → sum_by size_of fields ≤ 65536
request_is_short method fields same = subst (λ (l : List Field). sum_by size_of l ≤ 65536) (sym same) (request_size method)

not_begun : (x : List Step) (id : ℕ) → highest (sent x) < id → is_begun Client x id ≡ false
not_begun x id high = by (is_begun Client x id) refl
  where
    by : (b : Bool) → is_begun Client x id ≡ b → b ≡ false
    by true e = let low : id ≤ highest (sent x) = begun_within Client x id e in absurd (omega (arith, low, high))
    by false e = refl

-- what is still to be told comes no nearer
pub later_begun : (cs all : List CallState) (id : ℕ) (pending : Pending) → all ≡ cs ++ began id Open true ∷ [] → told_later all pending ≡ told_later cs pending
later_begun cs all id pending same =
    let held : CallState → ℕ = λ c. length c.cutter.held in
    let more = sum_by-append held cs (began id Open true ∷ []) in
    let none : sum_by held (began id Open true ∷ []) ≡ 0 = refl in
    omega (arith, ap (sum_by held) same, more, none)

abbrev pub begun_by : ℕ → Method → List Frame → CallTrace → CallTrace
begun_by id method fs t = record (changed (wrote fs (request_fields method ∷ [])) t) { begun = t.begun ++ (id, method) ∷ [] }

module _ {C : Type 0} (stands : C → ConnectionTrace → Type 0) (output : C → List ℕ) (law : (conn : C) (c : ConnectionTrace) → stands conn c → IsSound c (output conn)) (old new : C)
    (s : State) (fate : Fate) (is : fate ≡ Going) where
  -- all that it stands for is of one role
  pub client_too : (t u : CallTrace) → StandsFor stands output fate old s t → StandsFor stands output fate old s u → u.connection_trace.role ≡ Client → t.connection_trace.role ≡ Client
  client_too t u h k client = (as_going stands output fate old s t is h).holds.role_is ∙ sym (as_going stands output fate old s u is k).holds.role_is ∙ client

  pub begins_stands : (id : ℕ) (method : Method) (fields : List Field) (all : List CallState) → fields ≡ request_fields method → all ≡ s.calls ++ began id Open true ∷ [] →
      (t : CallTrace) → t.connection_trace.role ≡ Client → StandsFor stands output fate old s t → id ≡ next_id (highest (sent t.connection_trace.frames)) →
      ((fs : List Frame) × CarryBlock id false fs × stands new (wrote fs (fields ∷ []) t.connection_trace)) →
      (fs : List Frame) × CarryBlock id false fs × StandsFor stands output fate new (record s { calls = all }) (begun_by id method fs t)
  begins_stands id method fields all same made t client h next (fs, carry, stood) =
      let c : ConnectionTrace = t.connection_trace in
      let going = as_going stands output fate old s t is h in
      let ready : IsReady c.frames c.written = ready_of c (output old) (law old c going.connected) in
      let odd : is_odd id ≡ true = ap is_odd next ∙ next_odd (sent c.frames) in
      let high : highest (sent c.frames) < id = omega (arith, next_above (sent c.frames), next) in
      let begins = block_begins c.frames c.written id (request_fields method) fs ready odd high carry in
      let now : stands new (wrote fs (request_fields method ∷ []) c) = subst (λ (l : List Field). stands new (wrote fs (l ∷ []) c)) same stood in
      let holds : Holds (record s { calls = all }) (bare (begun_by id method fs t)) =
      subst (λ (cs : List CallState). Holds (record s { calls = cs }) (bare (begun_by id method fs t))) (sym made)
      (begun_holds (bare t) id method fs client begins (block_frames id false fs carry) (not_begun c.frames id high) s.calls s.role s.pending going.holds) in (
        fs,
        carry,
        going_as stands output fate new (record s { calls = all }) (begun_by id method fs t) is (record {
          connected = now;
          alive = going.alive;
          holds = holds;
          rest = rest_of (record s { calls = all }) (bare (begun_by id method fs t)) (law new (wrote fs (request_fields method ∷ []) c) now).given holds;
        }),
      )
