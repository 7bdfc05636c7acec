-- What the lines of a script and the answers of the server make of the calls of a client.
use Rattle.std.specs.Prelude.{ℕ, ◌==◌, Bool, true, false, cond, is_some, length, List, [], ◌∷◌, ◌++◌, Option, Some, None}
use Rattle.std.specs.List.{count_by, find}
use Rattle.std.specs.Str.{bytes_eq}
use Rattle.schema_numbers.specs.Numbers.{Numbers}
use Rattle.proto_schema.specs.declared.legal.MessageFault.{MessageFault}
use Rattle.proto_schema.specs.Legal.{first_fault as fault_of}
use Rattle.proto_schema.specs.declared.schema.MessageKind.TheVariants as message
use Rattle.grpc_heads.specs.declared.head.Method.{Method}
use Rattle.grpc_heads.specs.declared.head.Method.TheVariants.{Modify, Get, Flush}
use Rattle.grpc_heads.specs.GrpcStatus.{GrpcStatus}
use Rattle.h2_exchange.specs.Calls.{Answer, Answered, Closed, Broken}
use Rattle.gribi_messages.specs.declared.response.ModifyResponse.{ModifyResponse}
use Rattle.gribi_messages.specs.Response.{modify_response}
use Rattle.gribi_messages.specs.Rows.{get_response}
use Rattle.gribi_messages.specs.GetAndFlush.{flush_response}
use Rattle.script_lang.specs.Lines.{line_words}
use Rattle.script_lang.specs.declared.line.Line.{Line}
use Rattle.line_requests.specs.Asks.{asked}
use Rattle.line_requests.specs.declared.ask.LineAsk.{LineAsk}
use Rattle.line_requests.specs.declared.ask.LineAsk.TheVariants as asks
use Rattle.line_verdicts.specs.declared.seen.SeenEnd.{SeenEnd}
use Rattle.line_verdicts.specs.declared.tally.Tally.{Tally}
use Rattle.line_verdicts.specs.Items.{Heard, counted, flush_items, is_failed, is_fib, is_rib, modify_items, with_end, with_entries, with_items}
use Rattle.line_verdicts.specs.Verdicts.{left_by}

-- ---- a call

-- a call that a line began: its name, stream and method, the election id that was sent last, and what it has given
pub record CallView : Type 0 where
  pub name : List ℕ
  pub stream : ℕ
  pub method : Method
  pub elected : Option ℕ
  pub heard : Heard

abbrev pub is_named : List ℕ → CallView → Bool
is_named name c = bytes_eq c.name name

abbrev pub is_on : ℕ → CallView → Bool
is_on stream c = c.stream == stream

-- the first call that passes the test is changed
abbrev pub change_first : (CallView → Bool) → (CallView → CallView) → List CallView → List CallView
change_first test change [] = []
change_first test change (c ∷ cs) = cond (test c) (change c ∷ cs) (c ∷ change_first test change cs)

-- ---- what lines make of calls

-- the call that a line is about is named by its second word
abbrev pub second_of : List (List ℕ) → List ℕ
second_of (first ∷ second ∷ words) = second
second_of other = []

abbrev pub call_name : Line → List ℕ
call_name line = second_of (line_words line)

-- the call that a line is about
abbrev pub call_of : Line → List CallView → Option CallView
call_of line cs = find (is_named (call_name line)) cs

abbrev pub elected_by : Option CallView → Option ℕ
elected_by None = None
elected_by (Some c) = c.elected

-- what a line asks, where the calls are these
abbrev pub ask_of : Numbers → List CallView → Line → LineAsk
ask_of n cs line = asked n (elected_by (call_of line cs)) line

abbrev pub nothing_heard : Heard
nothing_heard = record { unused = []; entries = 0; ended = None }

abbrev pub new_call : Line → ℕ → Method → CallView
new_call line stream method = record { name = call_name line; stream = stream; method = method; elected = None; heard = nothing_heard }

abbrev pub elects : Option ℕ → CallView → CallView
elects None c = c
elects (Some id) c = record c { elected = Some id }

-- CANCELLED, which ends a call that its client drops, and UNKNOWN, which ends one without a status that can be read
abbrev pub cancelled : SeenEnd
cancelled = record { code = 1; reason = None }

abbrev pub unknown : SeenEnd
unknown = record { code = 2; reason = None }

abbrev pub ends : SeenEnd → CallView → CallView
ends ending c = record c { heard = with_end ending c.heard }

-- Behind a line that asks so; a call that it begins has this stream.
abbrev pub calls_behind : LineAsk → Line → ℕ → List CallView → List CallView
calls_behind asks.Modify line stream cs = cs ++ new_call line stream Modify ∷ []
calls_behind (asks.Get request) line stream cs = cs ++ new_call line stream Get ∷ []
calls_behind (asks.Flush request) line stream cs = cs ++ new_call line stream Flush ∷ []
calls_behind (asks.Send request) line stream cs = change_first (is_named (call_name line)) (elects request.election) cs
calls_behind asks.Reset line stream cs = change_first (is_named (call_name line)) (ends cancelled) cs
calls_behind asks.Finish line stream cs = cs
calls_behind asks.Nothing line stream cs = cs

-- ---- what answers make of calls

-- a message that can't be read ends its call
abbrev pub read_or_end : Option MessageFault → Heard → Heard → Heard
read_or_end None read before = read
read_or_end (Some fault) read before = with_end unknown before

abbrev pub fault_in : Numbers → Method → List ℕ → Option MessageFault
fault_in n Modify bytes = fault_of n message.ModifyResponse bytes
fault_in n Get bytes = fault_of n message.GetResponse bytes
fault_in n Flush bytes = fault_of n message.FlushResponse bytes

abbrev pub with_message : Numbers → Method → List ℕ → Heard → Heard
with_message n Modify bytes h = with_items (modify_items n (modify_response n bytes)) h
with_message n Get bytes h = with_entries (length (get_response n bytes).rows) h
with_message n Flush bytes h = with_items (flush_items n (flush_response n bytes).result) h

abbrev pub hears_message : Numbers → List ℕ → CallView → CallView
hears_message n bytes c = record c { heard = read_or_end (fault_in n c.method bytes) (with_message n c.method bytes c.heard) c.heard }

abbrev pub end_of : GrpcStatus → SeenEnd
end_of status = record { code = status.code; reason = status.reason }

abbrev pub stream_in : Answer GrpcStatus → ℕ
stream_in (Answered stream message) = stream
stream_in (Closed stream status) = stream
stream_in (Broken stream) = stream

abbrev pub hears : Numbers → Answer GrpcStatus → CallView → CallView
hears n (Answered stream message) c = hears_message n message c
hears n (Closed stream status) c = ends (end_of status) c
hears n (Broken stream) c = ends unknown c

-- the call of an answer's stream takes it
abbrev pub calls_hearing : Numbers → Answer GrpcStatus → List CallView → List CallView
calls_hearing n answer cs = change_first (is_on (stream_in answer)) (hears n answer) cs

-- an answer that wants the reset of its call: its message is refused, or can't be read
abbrev pub is_refused_by : Numbers → Answer GrpcStatus → Option CallView → Bool
is_refused_by n (Answered stream message) (Some c) = is_some (fault_in n c.method message)
is_refused_by n (Broken stream) c = true
is_refused_by n answer c = false

abbrev pub is_refused : Numbers → Answer GrpcStatus → List CallView → Bool
is_refused n answer cs = is_refused_by n answer (find (is_on (stream_in answer)) cs)

-- ---- counts of results

abbrev pub tally_with : Numbers → ModifyResponse → Tally → Tally
tally_with n r t = record {
  rib = counted t.rib (count_by (is_rib n) r.results);
  fib = counted t.fib (count_by (is_fib n) r.results);
  failed = counted t.failed (count_by (is_failed n) r.results);
}

abbrev pub tally_unless : Option MessageFault → Tally → Tally → Tally
tally_unless None counts before = counts
tally_unless (Some fault) counts before = before

-- a message of a call of this method
abbrev pub tally_message : Numbers → Method → List ℕ → Tally → Tally
tally_message n Modify bytes t = tally_unless (fault_of n message.ModifyResponse bytes) (tally_with n (modify_response n bytes) t) t
tally_message n other bytes t = t

abbrev pub tally_by : Numbers → Answer GrpcStatus → Option CallView → Tally → Tally
tally_by n (Answered stream message) (Some c) t = tally_message n c.method message t
tally_by n answer c t = t

abbrev pub tally_hearing : Numbers → Answer GrpcStatus → List CallView → Tally → Tally
tally_hearing n answer cs t = tally_by n answer (find (is_on (stream_in answer)) cs) t

-- ---- all of it, the latest first

pub data Deed : Type 0 where
  -- a line was sent; a call that it began has this stream
  Sends : (line : Line) (stream : ℕ) → Deed
  -- an answer was heard, and its call was reset for it or not
  Hears : (answer : Answer GrpcStatus) (is_reset : Bool) → Deed
  -- a line was judged
  Judges : (line : Line) → Deed

abbrev pub judges : Line → CallView → CallView
judges line c = record c { heard = left_by line c.heard }

abbrev pub calls_in : Numbers → List Deed → List CallView
calls_in n [] = []
calls_in n (Sends line stream ∷ earlier) = calls_behind (ask_of n (calls_in n earlier) line) line stream (calls_in n earlier)
calls_in n (Hears answer is_reset ∷ earlier) = calls_hearing n answer (calls_in n earlier)
calls_in n (Judges line ∷ earlier) = change_first (is_named (call_name line)) (judges line) (calls_in n earlier)

abbrev pub tally_in : Numbers → List Deed → Tally
tally_in n [] = record { rib = 0; fib = 0; failed = 0 }
tally_in n (Sends line stream ∷ earlier) = tally_in n earlier
tally_in n (Hears answer is_reset ∷ earlier) = tally_hearing n answer (calls_in n earlier) (tally_in n earlier)
tally_in n (Judges line ∷ earlier) = tally_in n earlier
