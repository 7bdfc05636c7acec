-- What the frames of a client spell.
use Rattle.std.specs.Prelude.{◌≡◌, ℕ, true, List}
use Rattle.schema_numbers.specs.Numbers.{Numbers}
use Rattle.h2_exchange.specs.declared.role.Role.TheVariants.{Client}
use Rattle.h2_exchange.specs.Exchange.{sent}
use Rattle.h2_exchange.specs.Requests.{RequestIs, RequestsBegin}
use Rattle.h2_exchange.specs.Streams.{is_begun, is_ended_by}
use Rattle.grpc_stream.specs.CallTrace.{CallTrace, IsSoundCallTrace, is_ended, unsent_on}
use Rattle.compliance_client.specs.Deeds.{Deed}
use Rattle.compliance_client.specs.Asks.{asked_in, begun_in, taken_in}

-- what was taken and begun is what the lines ask
pub record AsksLines (n : Numbers) (t : CallTrace) (deeds : List Deed) : Type 0 where
  pub role : t.connection_trace.role ≡ Client
  pub taken : t.taken ≡ taken_in n deeds
  pub begun : t.begun ≡ begun_in n deeds

-- Then the frames of the client spell on each stream a first part of what the lines ask there.
abbrev pub LinesAreAsked : Type 0
LinesAreAsked =
    (n : Numbers) (t : CallTrace) (deeds : List Deed) (output : List ℕ) → IsSoundCallTrace t output → AsksLines n t deeds →
    RequestsBegin t.connection_trace.frames (asked_in n deeds)

-- and all of it, where nothing of the call waits and its end is sent if it was taken
abbrev pub AllLinesAreAsked : Type 0
AllLinesAreAsked =
    (n : Numbers) (t : CallTrace) (deeds : List Deed) (output : List ℕ) → IsSoundCallTrace t output → AsksLines n t deeds →
    (id : ℕ) → is_begun Client t.connection_trace.frames id ≡ true → unsent_on t id ≡ 0 →
    (is_ended t id ≡ true → is_ended_by (sent t.connection_trace.frames) id ≡ true) → RequestIs t.connection_trace.frames id (asked_in n deeds id)
