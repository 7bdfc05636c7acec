-- What is kept of a call of what its peer sent.
use Rattle.std.specs.Prelude.{◌≡◌, ℕ, ◌+◌, ◌==◌, ◌&&◌, Bool, true, false, map, List, [], ◌∷◌, ◌++◌, length, sum_by, Option, Some, None}
use Rattle.std.specs.List.{flat_map, list_any}
use Rattle.grpc_framing.specs.declared.front.Front.TheVariants.{NeedMore}
use Rattle.grpc_framing.specs.CutterState.{CutterState}
use Rattle.grpc_framing.specs.Framing.{Messages, all_then, front_at}
use Rattle.grpc_heads.specs.CallEnd.{compressed, method_by, status_by, too_long, truncated, unknown}
use Rattle.grpc_heads.specs.Heads.{head_of}
use Rattle.grpc_heads.specs.Trailers.{status_in_trailers}
use Rattle.hpack_tables.specs.declared.field.Field.{Field}
use Rattle.h2_exchange.specs.declared.role.Role.{Role}
use Rattle.h2_exchange.specs.declared.role.Role.TheVariants.{Client, Server}
use Rattle.h2_exchange.specs.Calls.{Request, Finished, Answered, answers, calls, closes, cut, is_answering, is_begun_call, is_begun_on, is_ended_on, is_going, refusals}
use Rattle.h2_exchange.specs.Events.{Event, Head, Data, Ended, Reset, GoneAway, bytes_on}
use Rattle.grpc_stream.specs.CallTrace as trace
use Rattle.grpc_stream.specs.CallTrace.{PeerEvent, Asked}
use Rattle.grpc_stream.specs.NextEvent.{asked_of}
use Rattle.schema_numbers.specs.Numbers.{Numbers}
use Rattle.kept_calls.specs.declared.call.Receiving.{Receiving}
use Rattle.kept_calls.specs.declared.call.Receiving.TheVariants.{Open, Closed}
use Rattle.call_hearing.specs.declared.pending.Pending.{Pending}
use Rattle.call_hearing.specs.declared.pending.Pending.TheVariants.{Nothing, Cut, End}
use Rattle.kept_calls.specs.CallState.{CallState, call_on}

-- ---- what events tell

-- the events so far tell this, at a server and at a client
abbrev pub told_by : Role → Numbers → List Event → List PeerEvent
told_by Server n es = map Asked (calls (λ fields. method_by (head_of fields)) compressed too_long truncated es)
told_by Client n es = map trace.Answered (answers (λ fields. status_by (status_in_trailers n fields)) unknown es)

abbrev pub is_on : ℕ → Event → Bool
is_on id (Head stream fields last) = stream == id
is_on id (Data stream bytes) = stream == id
is_on id (Ended stream) = stream == id
is_on id (Reset stream why) = stream == id
is_on id (GoneAway stream why) = false

-- an event of a stream was given
abbrev pub has_event : List Event → ℕ → Bool
has_event es id = list_any (is_on id) es

abbrev pub heads_on : ℕ → Event → Bool
heads_on id (Head stream fields last) = stream == id
heads_on id other = false

-- DATA of a stream, or an end
abbrev pub brings_on : ℕ → Event → Bool
brings_on id (Data stream bytes) = stream == id
brings_on id (Ended stream) = stream == id
brings_on id other = false

-- an end of a server's side
abbrev pub ends_answers : ℕ → Event → Bool
ends_answers id (Head stream fields last) = last && stream == id
ends_answers id (Ended stream) = stream == id
ends_answers id (Reset stream why) = stream == id
ends_answers id other = false

abbrev pub is_asking : List Event → ℕ → Bool
is_asking es id = is_going (λ fields. method_by (head_of fields)) compressed too_long truncated id es

abbrev pub has_method : List Event → ℕ → Bool
has_method es id = list_any (is_begun_on (λ fields. method_by (head_of fields)) compressed too_long truncated id) es

abbrev pub awaits_answers : List Event → ℕ → Bool
awaits_answers es id = is_answering (λ (fields : List Field). unknown) unknown id es

-- ---- what is still to be told

-- the bytes that a call holds of which more is heard
abbrev pub held_while : Receiving → List ℕ → List ℕ
held_while Open bytes = bytes
held_while Closed bytes = []

abbrev pub held_by : Option CallState → List ℕ
held_by None = []
held_by (Some c) = held_while c.receiving c.cutter.held

abbrev pub cut_tells : Role → ℕ → Messages → List PeerEvent
cut_tells Server id m = map Asked (map (Request id) m.messages ++ refusals (λ fields. method_by (head_of fields)) compressed too_long truncated id m.ending)
cut_tells Client id m = map trace.Answered (map (Answered id) m.messages ++ closes (λ (fields : List Field). unknown) unknown id m.ending)

abbrev pub still_told : Role → List CallState → Pending → List PeerEvent
still_told role cs Nothing = []
still_told role cs (Cut id) = cut_tells role id (cut (held_by (call_on id cs)))
still_told role cs (End id) = Asked (Finished id) ∷ []

-- how many steps it takes until all that came is told, at most: each cuts bytes that are held, or is the last
abbrev pub steps_of : Pending → ℕ
steps_of Nothing = 0
steps_of (Cut id) = 1
steps_of (End id) = 1

abbrev pub told_later : List CallState → Pending → ℕ
told_later cs pending = sum_by (λ (c : CallState). length c.cutter.held) cs + steps_of pending

abbrev pub is_cut : Pending → ℕ → Bool
is_cut (Cut stream) id = stream == id
is_cut other id = false

-- ---- a call

-- A cutter holds the bytes of a stream behind messages that were given.
pub record Cuts (bytes : List ℕ) (cutter : CutterState) : Type 0 where
  pub limit_is : cutter.limit ≡ 4194304
  pub alive : cutter.refusal ≡ None
  pub given : List (List ℕ)
  pub leads : (more : List ℕ) → cut (bytes ++ more) ≡ all_then given (cut (cutter.held ++ more))

-- a call of which a server hears more
pub record HearsAsked (es : List Event) (reported : List PeerEvent) (pending : Pending) (c : CallState) : Type 0 where
  pub begun : has_method es c.stream ≡ true
  pub shown : list_any (is_begun_call c.stream) (flat_map asked_of reported) ≡ true
  pub cuts : Cuts (bytes_on c.stream es) c.cutter
  pub drained : is_cut pending c.stream ≡ false → front_at 4194304 c.cutter.held ≡ NeedMore
  pub whole : list_any (is_ended_on c.stream) es ≡ true → c.cutter.held ≡ []

-- and a client
pub record HearsAnswered (es : List Event) (pending : Pending) (c : CallState) : Type 0 where
  pub unended : list_any (ends_answers c.stream) es ≡ false
  pub cuts : Cuts (bytes_on c.stream es) c.cutter
  pub drained : is_cut pending c.stream ≡ false → front_at 4194304 c.cutter.held ≡ NeedMore

abbrev pub Hears : Role → List Event → List PeerEvent → Pending → CallState → Receiving → Type 0
Hears Server es reported pending c Open = HearsAsked es reported pending c
Hears Client es reported pending c Open = HearsAnswered es pending c
Hears Server es reported pending c Closed = (list_any (heads_on c.stream) es ≡ true) × (is_asking es c.stream ≡ false)
Hears Client es reported pending c Closed = awaits_answers es c.stream ≡ false
