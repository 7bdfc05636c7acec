-- What holds of calls makes them sound.
use Rattle.std.proofs.Common.{◌≡◌, ℕ, List, [], ◌++◌, map, Option, Some, None, refl, sym, ap, subst, ◌∙◌, inl, inr, append_assoc}
use Rattle.std.proofs.lemmas.List.{map-append}
use Rattle.h2_exchange.specs.declared.role.Role.{Role}
use Rattle.h2_exchange.specs.declared.role.Role.TheVariants.{Client, Server}
use Rattle.h2_exchange.specs.Events.{Event}
use Rattle.h2_exchange.specs.Sending.{IsPrefix}
use Rattle.h2_exchange.proofs.Staying.{answers_stay, calls_stay}
use Rattle.grpc_heads.specs.CallEnd.{compressed, method_by, status_by, too_long, truncated, unknown}
use Rattle.grpc_heads.specs.Heads.{head_of}
use Rattle.grpc_heads.specs.Trailers.{status_in_trailers}
use Rattle.http_connection.specs.ConnectionTrace.{events_in}
use Rattle.grpc_stream.specs.CallTrace as trace
use Rattle.grpc_stream.specs.CallTrace.{CallTrace, PeerEvent, reported_in}
use Rattle.kept_calls.specs.CallState.{CallState, call_on}
use Rattle.call_hearing.specs.declared.pending.Pending.{Pending}
use Rattle.call_hearing.specs.Listening.{still_told, told_by}
use Rattle.call_sending.specs.Spelling.{Speaks}
use Rattle.call_standing.specs.Standing.{Holds, IsRest, IsUnkept, StandsOn, State}
use Rattle.call_standing.proofs.Spelled.{carries_call}

-- what more events tell stands behind what those before them do
pub tells_more : (role : Role) (t : CallTrace) (es more : List Event) → IsPrefix (told_by role t.numbers es) (told_by role t.numbers (es ++ more))
tells_more Server t es more =
    let h = calls_stay (λ fields. method_by (head_of fields)) compressed too_long truncated es more in
    (map trace.Asked h.0, ap (map trace.Asked) h.1 ∙ map-append trace.Asked _ h.0)
tells_more Client t es more =
    let h = answers_stay (λ fields. status_by (status_in_trailers t.numbers fields)) unknown es more in
    (map trace.Answered h.0, ap (map trace.Answered) h.1 ∙ map-append trace.Answered _ h.0)

all_told : (t : CallTrace) → told_by t.connection_trace.role t.numbers (events_in t.connection_trace) ≡ reported_in t
all_told t = by t.connection_trace.role
  where
    by : (role : Role) → told_by role t.numbers (events_in t.connection_trace) ≡ trace.reported_by role t.numbers t.connection_trace
    by Server = refl
    by Client = refl

told_first : (t : CallTrace) (still : List PeerEvent) → told_by t.connection_trace.role t.numbers t.connection_trace.given ≡ t.reported ++ still →
    IsPrefix t.connection_trace.given (events_in t.connection_trace) → IsPrefix t.reported (reported_in t)
told_first t still told given =
    let role : Role = t.connection_trace.role in
    let later = tells_more t.connection_trace.role t t.connection_trace.given given.0 in (
      still ++ later.0,
      sym (all_told t) ∙ ap (told_by t.connection_trace.role t.numbers) given.1 ∙ later.1 ∙ ap (λ (x : List PeerEvent). x ++ later.0) told
          ∙ append_assoc t.reported still later.0,
    )

-- what is so of each stream
pub record Spoken (t : CallTrace) (id : ℕ) : Type 0 where
  pub left : List ℕ
  pub speaks : Speaks t id left

unkept : (role : Role) (t : CallTrace) (id : ℕ) → IsUnkept role t id → Spoken t id
unkept Server t id h = record { left = []; speaks = h.speaks }
unkept Client t id h = record { left = []; speaks = h.speaks }

pub spoken_on : (t : CallTrace) (pending : Pending) (id : ℕ) (o : Option CallState) → StandsOn t pending id o → Spoken t id
spoken_on t pending id None (inl h) = unkept t.connection_trace.role t id h
spoken_on t pending id None (inr h) = record { left = h.rest; speaks = h.speaks }
spoken_on t pending id (Some c) h = record { left = c.unsent; speaks = subst (λ (k : ℕ). Speaks t k c.unsent) h.0 h.2.sends.speaks }

pub spoken : (s : State) (t : CallTrace) (id : ℕ) → Holds s t → Spoken t id
spoken s t id h = spoken_on t s.pending id (call_on id s.calls) (h.each id)

pub rest_of : (s : State) (t : CallTrace) → IsPrefix t.connection_trace.given (events_in t.connection_trace) → Holds s t → IsRest t
rest_of s t given h = record {
  reported = told_first t (still_told t.connection_trace.role s.calls s.pending) h.told given;
  only = h.only;
  spelled = λ id suited. let on = spoken s t id h in carries_call t id on.left on.speaks suited;
  unpadded = h.unpadded;
  begun_first = λ id unbegun. ((spoken s t id h).speaks.begun_first unbegun).0;
  calls = h.calls;
}
