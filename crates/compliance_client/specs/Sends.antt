-- What it comes to that a line is sent.
use Rattle.std.specs.Prelude.{◌≡◌, ◌⊎◌, ℕ, ◌<◌, ◌&&◌, Bool, true, false, List, [], ◌∷◌, ◌++◌, Option, Some, None, Result, Ok, Err}
use Rattle.schema_numbers.specs.Numbers.{Numbers}
use Rattle.grpc_heads.specs.declared.head.Method.{Method}
use Rattle.grpc_heads.specs.CallEnd.{HalfClose}
use Rattle.grpc_heads.specs.Written.{request_fields}
use Rattle.h2_frames.specs.declared.frame.Frame.{Frame}
use Rattle.h2_exchange.specs.declared.fault.SendFault.{SendFault}
use Rattle.h2_exchange.specs.declared.fault.SendFault.TheVariants.{NotOpen, IdsSpent, NoMemory}
use Rattle.h2_exchange.specs.Exchange.{sent}
use Rattle.h2_exchange.specs.StreamParts.{Message, Finish}
use Rattle.h2_exchange.specs.Streams.{highest, is_live}
use Rattle.http_connection.specs.ConnectionTrace.{ConnectionTrace, is_alive, wrote}
use Rattle.http_connection.specs.Sends.{CarryBlock, SendsWhere}
use Rattle.grpc_stream.specs.CallTrace.{CallTrace, changed, is_taking, took}
use Rattle.script_lang.specs.declared.line.Line.{Line}
use Rattle.line_requests.specs.declared.ask.LineAsk.{LineAsk}
use Rattle.line_requests.specs.declared.ask.LineAsk.TheVariants as asks
use Rattle.line_verdicts.specs.declared.tally.Tally.{Tally}
use Rattle.compliance_client.specs.Deeds.{CallView, Sends}
use Rattle.compliance_client.specs.Standing.{Past, Starves, Works}

-- ---- when a line is sent

-- A call begins unless the connection has refused or the ids are spent, want of memory apart.
abbrev pub BeginsLine : ConnectionTrace → Result (Unit {0}) SendFault → Type 0
BeginsLine c (Ok x) = (is_alive c ≡ true) × (highest (sent c.frames) < 2147483647)
BeginsLine c (Err NotOpen) = is_alive c ≡ false
BeginsLine c (Err IdsSpent) = (is_alive c ≡ true) × (highest (sent c.frames) ≡ 2147483647)
BeginsLine c (Err NoMemory) = Unit {0}

abbrev pub is_sending : CallTrace → Option CallView → Bool
is_sending t None = false
is_sending t (Some c) = is_taking t c.stream

abbrev pub is_dropping : CallTrace → Option CallView → Bool
is_dropping t None = false
is_dropping t (Some c) = is_alive t.connection_trace && is_live t.connection_trace.role t.connection_trace.frames c.stream

-- A line is refused exactly where its call isn't open for it, and a line that begins a call where none can begin.
abbrev pub AnswersLine : LineAsk → Option CallView → CallTrace → Result (Unit {0}) SendFault → Type 0
AnswersLine asks.Modify c t result = BeginsLine t.connection_trace result
AnswersLine (asks.Get request) c t result = BeginsLine t.connection_trace result
AnswersLine (asks.Flush request) c t result = BeginsLine t.connection_trace result
AnswersLine (asks.Send request) c t result = SendsWhere (is_sending t c) result
AnswersLine asks.Finish c t result = SendsWhere (is_sending t c) result
AnswersLine asks.Reset c t result = SendsWhere (is_dropping t c) result
AnswersLine asks.Nothing c t result = SendsWhere true result

-- ---- what it does

abbrev pub begun_with : List Frame → ℕ → Method → CallTrace → CallTrace
begun_with fs id method t = record (changed (wrote fs (request_fields method ∷ [])) t) { begun = t.begun ++ (id, method) ∷ [] }

abbrev pub took_all : ℕ → List ℕ → CallTrace → CallTrace
took_all id message t = took id (Finish HalfClose) (took id (Message message) t)

module _ {K : Type 0} (uses : K → CallTrace → Type 0) where
  -- a call began on this stream
  abbrev pub Begins : ℕ → Method → K → K → Type 0
  Begins id method before calls = (t : CallTrace) → uses before t → (fs : List Frame) × CarryBlock id false fs × uses calls (begun_with fs id method t)

  -- a whole call began on this stream, and all that it asks was taken
  abbrev pub BeginsWhole : ℕ → Method → List ℕ → K → K → Type 0
  BeginsWhole id method message before calls =
      (t : CallTrace) → uses before t → (fs : List Frame) × CarryBlock id false fs × uses calls (took_all id message (begun_with fs id method t))

  -- or only its head, or its head and message
  abbrev pub BeginsPart : ℕ → Method → List ℕ → K → K → Type 0
  BeginsPart id method message before calls =
      (t : CallTrace) → uses before t → (fs : List Frame) × CarryBlock id false fs
      × (uses calls (begun_with fs id method t) ⊎ uses calls (took id (Message message) (begun_with fs id method t)))

  module _ (n : Numbers) where
    abbrev pub with_line : Past → Line → ℕ → CallTrace → Past
    with_line past line id u = record { trace = u; deeds = Sends line id ∷ past.deeds; pieces = past.pieces }

    -- The line is sent; or it is refused, and nothing has changed but where memory was short within a whole call.
    abbrev pub SendsLine : Line → K → List CallView → Tally → Bool → Past → Result (Unit {0}) SendFault → Type 0
    SendsLine line calls kept tally is_over past (Ok x) = (id : ℕ) × (u : CallTrace) × Works uses n calls kept tally (with_line past line id u)
    SendsLine line calls kept tally is_over past (Err NoMemory) =
        Works uses n calls kept tally past
        ⊎ ((is_over ≡ true) × (id : ℕ) × (u : CallTrace) × Starves uses n calls (with_line past line id u))
    SendsLine line calls kept tally is_over past (Err fault) = Works uses n calls kept tally past
