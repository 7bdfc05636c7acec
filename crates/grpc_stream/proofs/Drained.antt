-- Behind a pump that leaves nothing waiting, frames spell all that is owed.
use Rattle.std.proofs.Common.{◌≡◌, ℕ, ◌+◌, Bool, ◌||◌, ◌&&◌, false, true, List, [], ◌∷◌, length, Option, Some, None, refl, sym, ap, ◌∙◌, arith, sum_by, eqb-true}
use Rattle.std.specs.Prelude.{filter, not, if◌then◌else◌, ◌==◌}
use Rattle.std.specs.List.{flat_map, list_any}
use Rattle.std.proofs.lemmas.List.Sums.{sum_by-append}
use Rattle.grpc_heads.specs.Written.{response_fields}
use Rattle.hpack_tables.specs.declared.field.Field.{Field}
use Rattle.h2_exchange.specs.declared.role.Role.{Role}
use Rattle.h2_exchange.specs.declared.role.Role.TheVariants.{Client, Server}
use Rattle.h2_exchange.specs.Exchange.{Step, received, sent}
use Rattle.h2_exchange.specs.Laws.{WrittenBlocksAreRead}
use Rattle.h2_exchange.specs.Requests.{end_if}
use Rattle.h2_exchange.specs.StreamParts.{Item, Message, Finish, StreamEnd, Trailers, IsPrefixOf, IsAllOf, AnswersAre, end_by, parts}
use Rattle.h2_exchange.specs.Requests.{RequestIs}
use Rattle.h2_exchange.specs.Streams.{begun, is_begun, is_ended_by, is_live, is_over, is_reset}
use Rattle.h2_exchange.proofs.Steps.{begun_has}
use Rattle.grpc_stream.specs.Laws.{AreSuited, PumpedIsAnswered, PumpedIsAsked}
use Rattle.grpc_heads.specs.CallEnd.{call_end_of}
use Rattle.grpc_stream.specs.CallTrace.{CallTrace, CarriesResponseOn, CarriesRequestOn, IsSoundCallTrace, asked_on, is_end, is_ended, queued_on, text_of, unsent_on, waiting_in}
use Rattle.grpc_stream.proofs.Begun.{head_stands}
use Rattle.grpc_stream.proofs.Entire.{all_is_answered, all_is_asked}
use Rattle.grpc_stream.proofs.Pieces.{parts_end, as_many, response_end, request_end}
use Rattle.grpc_stream.proofs.Spoken.{read, spelled_as}

-- ---- a stream that is live has its part in the sum

none_in : (f : ℕ → ℕ) (p : ℕ → Bool) (ids : List ℕ) (id : ℕ) → sum_by f (filter p ids) ≡ 0 → list_any (λ i. i == id) ids ≡ true → p id ≡ true → f id ≡ 0
none_in f p [] id none has is = absurd cc
none_in f p (i ∷ ids) id none has is = by (i == id) (p i) refl refl (λ k h. none_in f p ids id k h is) none has
  where
    step : (rest : List ℕ) → sum_by f (i ∷ rest) ≡ f i + sum_by f rest
    step rest = let alone : sum_by f (i ∷ []) ≡ 0 + f i = refl in omega (arith, alone, sum_by-append f (i ∷ []) rest)

    by : (t q : Bool) → (i == id) ≡ t → p i ≡ q → (sum_by f (filter p ids) ≡ 0 → list_any (λ k. k == id) ids ≡ true → f id ≡ 0) → sum_by f (if q then i ∷ filter p ids else filter p ids) ≡ 0 → (t || list_any (λ k. k == id) ids) ≡ true → f id ≡ 0
    by true true same q deep none has = ap f (sym (eqb-true i id same)) ∙ omega (arith, none, step (filter p ids))
    by true false same q deep none has = let clash : true ≡ false = sym is ∙ ap p (sym (eqb-true i id same)) ∙ q in absurd cc
    by false true same q deep none has = deep (omega (arith, none, step (filter p ids))) has
    by false false same q deep none has = deep none has

both_true : (a b : Bool) → (a && b) ≡ true → a ≡ true
both_true true b e = refl
both_true false b e = absurd cc

none_waits : (u : CallTrace) (id : ℕ) → waiting_in u ≡ 0 → is_live u.connection_trace.role u.connection_trace.frames id ≡ true → unsent_on u id ≡ 0
none_waits u id none is =
    none_in (unsent_on u) (is_live u.connection_trace.role u.connection_trace.frames) (begun u.connection_trace.role u.connection_trace.frames) id none
    (begun_has u.connection_trace.role u.connection_trace.frames id ∙ both_true (is_begun u.connection_trace.role u.connection_trace.frames id) (not (is_over u.connection_trace.frames id)) is) is

-- ---- a stream is live, was never begun, or this side ended it

pub data StateOf (role : Role) (x : List Step) (id : ℕ) : Type 0 where
  lives : is_live role x id ≡ true → StateOf role x id
  idle : is_begun role x id ≡ false → StateOf role x id
  was_ended : is_ended_by (sent x) id ≡ true → StateOf role x id

state_of : (role : Role) (x : List Step) (id : ℕ) → is_reset x id ≡ false → StateOf role x id
state_of role x id kept = by (is_begun role x id) (is_reset x id) (is_ended_by (received x) id) (is_ended_by (sent x) id) refl refl refl refl kept
  where
    by : (b r e f : Bool) → is_begun role x id ≡ b → is_reset x id ≡ r → is_ended_by (received x) id ≡ e → is_ended_by (sent x) id ≡ f → r ≡ false → StateOf role x id
    by false r e f is_b is_r is_e is_f kept = idle is_b
    by true true e f is_b is_r is_e is_f kept = absurd cc
    by true false e true is_b is_r is_e is_f kept = was_ended is_f
    by true false true false is_b is_r is_e is_f kept = lives (rw (is_b, is_r, is_e, is_f) refl)
    by true false false false is_b is_r is_e is_f kept = lives (rw (is_b, is_r, is_e) refl)

-- ---- an end stands only behind all

all_before : {E : Type 0} (messages : List (List ℕ)) (rest : List ℕ) (end : Option E) (e : E) (owed : List (Item E)) → end ≡ Some e → IsPrefixOf messages rest end owed → IsAllOf messages rest end owed
all_before (m ∷ ms) rest end e (Message n ∷ owed) is (same, others) = (same, all_before ms rest end e owed is others)
all_before (m ∷ ms) rest end e (Finish f ∷ owed) is h = absurd h
all_before (m ∷ ms) rest end e [] is h = absurd h
all_before [] rest None e owed is h = absurd cc
all_before [] rest (Some end) e [] is h = absurd h
all_before [] rest (Some end) e (Message n ∷ owed) is h = absurd h
all_before [] rest (Some end) e (Finish f ∷ []) is h = h
all_before [] rest (Some end) e (Finish f ∷ i ∷ owed) is h = absurd h

module _ (u : CallTrace) (id : ℕ) (none : queued_on u id ≡ []) where
  none_unsent : unsent_on u id ≡ 0
  none_unsent = let empty : length (flat_map text_of (queued_on u id)) ≡ 0 = ap (λ owed. length (flat_map text_of owed)) none in omega (arith, empty)

  none_ended : {A : Type 0} → is_ended u id ≡ true → A
  none_ended e = let clash : true ≡ false = sym e ∙ ap (list_any is_end) none in absurd cc

read_end_is : {E : Type 0} (read_end : List Field → E) (end : Option E) (close : StreamEnd) (fields : List Field) → end ≡ end_by response_fields read_end close → close ≡ Trailers fields → end ≡ Some (read_end fields)
read_end_is read_end end close fields e is = e ∙ ap (end_by response_fields read_end) is

pub pumped_is_answered : WrittenBlocksAreRead → PumpedIsAnswered
pumped_is_answered law = λ t u output h suited is alive pumps none id kept. by u output h suited is id
    (λ l. pumps.ended alive id l (none_waits u id none l)) (λ l. none_waits u id none l)
    (state_of Server u.connection_trace.frames id kept)
  where
    by : (u : CallTrace) (output : List ℕ) (h : IsSoundCallTrace u output) (suited : AreSuited u) (is : u.connection_trace.role ≡ Server) (id : ℕ) →
        (is_live u.connection_trace.role u.connection_trace.frames id ≡ true → is_ended u id ≡ true → is_ended_by (sent u.connection_trace.frames) id ≡ true) →
        (is_live u.connection_trace.role u.connection_trace.frames id ≡ true → unsent_on u id ≡ 0) →
        StateOf Server u.connection_trace.frames id → AnswersAre response_fields (call_end_of u.numbers) u.connection_trace.frames id (queued_on u id)
    by u output h suited is id ends sends (lives l) =
        let live : is_live u.connection_trace.role u.connection_trace.frames id ≡ true = ap (λ (r : Role). is_live r u.connection_trace.frames id) is ∙ l in
        all_is_answered law u output h suited is id (sends live) (ends live)
    by u output h suited is id ends sends (idle i) =
        let none = h.begun_first id (ap (λ (r : Role). is_begun r u.connection_trace.frames id) is ∙ i) in
        all_is_answered law u output h suited is id (none_unsent u id none) (none_ended u id none)
    by u output h suited is id ends sends (was_ended e) =
        let fs = sent u.connection_trace.frames in
        let heads = u.connection_trace.written in
        let blocks_read = read law u output h in
        let on : CarriesResponseOn u id = spelled_as Server u output h suited is id in
        let last = response_end response_fields (parts id heads fs) on.spells.bytes on.spells.close on.spells.response (parts_end id heads fs (as_many fs heads blocks_read) e) in
        (heads, blocks_read, on.messages, on.rest, on.end, on.spells, all_before on.messages on.rest on.end (call_end_of u.numbers last.0) (queued_on u id) (read_end_is (call_end_of u.numbers) on.end on.spells.close last.0 on.spells.end_is last.1) on.front)

pub pumped_is_asked : WrittenBlocksAreRead → PumpedIsAsked
pumped_is_asked law = λ t u output h suited is alive pumps none id begun kept. by u output h suited is id begun
    (λ l. pumps.ended alive id l (none_waits u id none l)) (λ l. none_waits u id none l)
    (state_of Client u.connection_trace.frames id kept)
  where
    by : (u : CallTrace) (output : List ℕ) (h : IsSoundCallTrace u output) (suited : AreSuited u) (is : u.connection_trace.role ≡ Client) (id : ℕ) → is_begun Client u.connection_trace.frames id ≡ true →
        (is_live u.connection_trace.role u.connection_trace.frames id ≡ true → is_ended u id ≡ true → is_ended_by (sent u.connection_trace.frames) id ≡ true) →
        (is_live u.connection_trace.role u.connection_trace.frames id ≡ true → unsent_on u id ≡ 0) →
        StateOf Client u.connection_trace.frames id → RequestIs u.connection_trace.frames id (asked_on u id)
    by u output h suited is id begun ends sends (lives l) =
        let live : is_live u.connection_trace.role u.connection_trace.frames id ≡ true = ap (λ (r : Role). is_live r u.connection_trace.frames id) is ∙ l in
        all_is_asked law u output h suited is id begun (sends live) (ends live)
    by u output h suited is id begun ends sends (idle i) = let clash : true ≡ false = sym begun ∙ i in absurd cc
    by u output h suited is id begun ends sends (was_ended e) =
        let fs = sent u.connection_trace.frames in
        let heads = u.connection_trace.written in
        let blocks_read = read law u output h in
        let on : CarriesRequestOn u id = spelled_as Client u output h suited is id in
        let last = request_end (asked_on u id).head (parts id heads fs) on.asks.bytes on.ended on.asks.request (parts_end id heads fs (as_many fs heads blocks_read) e) in (
          heads,
          blocks_read,
          head_stands u.connection_trace.frames id h.connection_trace.placed h.connection_trace.closed begun,
          on.messages,
          on.rest,
          on.ended,
          on.asks,
          all_before on.messages on.rest (end_if on.ended) tt (asked_on u id).items (ap end_if last) on.front,
        )
