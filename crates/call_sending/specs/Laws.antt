-- What a header block, a DATA and a turn of a call add to their stream and to no other, and what other frames and what is taken leave.
use Rattle.std.specs.Prelude.{◌≡◌, ℕ, ◌≤◌, ◌==◌, Bool, true, false, map, List, [], ◌∷◌, ◌++◌, length, sum_by, None}
use Rattle.grpc_heads.specs.CallEnd.{CallEnd}
use Rattle.hpack_tables.specs.declared.field.Field.{Field}
use Rattle.hpack_tables.specs.EntrySizes.{size_of}
use Rattle.h2_frames.specs.declared.frame.Frame.{Frame}
use Rattle.h2_exchange.specs.declared.role.Role.{Role}
use Rattle.h2_exchange.specs.Blocks.{open_block}
use Rattle.h2_exchange.specs.Frames.{is_rst_stream, stream_of}
use Rattle.h2_exchange.specs.Exchange.{Step, Sent, sent}
use Rattle.h2_exchange.specs.StreamParts.{Fields, Finish, IsMessageFirst, Item, Message}
use Rattle.h2_exchange.specs.Streams.{is_begun, is_live, is_open}
use Rattle.http_connection.specs.ConnectionTrace.{ConnectionTrace, wrote}
use Rattle.http_connection.specs.Sends.{CarryBlock}
use Rattle.grpc_stream.specs.CallTrace.{CallTrace, queued_on, took}
use Rattle.kept_calls.specs.declared.call.Ending.{Ending}
use Rattle.kept_calls.specs.CallState.{CallState, closed_by, ended, is_sent, with_message}
use Rattle.call_sending.specs.Moves.{IsDone, IsReady, Moves, Turned, is_control, pushed}
use Rattle.call_sending.specs.Pumping.{PumpsCall}
use Rattle.call_sending.specs.Spelling.{AreSuited, Prepares, Sends}

-- A header block that is sent on an open stream adds its fields to it, and nothing to any other.
abbrev pub BlocksMove : Type 0
BlocksMove =
    (role : Role) (x : List Step) (w : List (List Field)) (id : ℕ) (last : Bool) (fields : List Field) (fs : List Frame) →
    IsReady x w → is_open role x id ≡ true → CarryBlock id last fs → Moves role x w id (Fields fields last ∷ []) 0 last fs (fields ∷ [])

-- A turn of a call sends on its stream alone, and what is sent of every call spells what was taken for it, as before.
abbrev pub TurnsSpell : Type 0
TurnsSpell =
    (t : CallTrace) (old new : CallState) (goes_on : Bool) (d : ConnectionTrace) → IsReady t.connection_trace.frames t.connection_trace.written →
    PumpsCall t.connection_trace old goes_on new d → Sends t old →
    Turned t old new d × ((other : CallState) → (old.stream == other.stream) ≡ false → Sends t other → Sends (record t { connection_trace = d }) other)

-- Behind a turn that no other may follow nothing more may be sent of its call; and that stays so, whatever is sent that begins no stream.
abbrev pub TurnsEnd : Type 0
TurnsEnd =
    (t : CallTrace) (old new : CallState) (d : ConnectionTrace) → IsReady t.connection_trace.frames t.connection_trace.written →
    PumpsCall t.connection_trace old false new d → Sends t old →
    IsDone d new
    × ((call : CallState) (fs : List Frame) (lists : List (List Field)) →
    ((id : ℕ) → is_begun d.role (d.frames ++ map Sent fs) id ≡ is_begun d.role d.frames id) →
    IsDone d call → IsDone (wrote fs lists d) call)

-- Behind a frame of no stream's data or header blocks, as a credit or an acknowledgement, what is sent of every call spells the
-- same; and behind the reset of a live stream too.
pub record OthersSpellOn : Type 0 where
  pub controls : (t : CallTrace) (f : Frame) (c : CallState) → open_block (sent t.connection_trace.frames) ≡ None → is_control f ≡ true →
      Sends t c → Sends (pushed f t) c
  pub resets : (t : CallTrace) (f : Frame) (c : CallState) → open_block (sent t.connection_trace.frames) ≡ None → is_rst_stream f ≡ true →
      is_live t.connection_trace.role t.connection_trace.frames (stream_of f) ≡ true → Sends t c → Sends (pushed f t) c

-- Where a message or an end is taken for an open stream whose end was not taken, it is to be sent behind what is left; what is sent of
-- every other call spells the same. An end is taken with the last header block that says it, if it has one.
pub record TakenIsKept : Type 0 where
  pub messages : (t : CallTrace) (c : CallState) (m : List ℕ) → is_open t.connection_trace.role t.connection_trace.frames c.stream ≡ true →
      ended c.ending ≡ false → length m ≤ 4294967295 → Sends t c → Sends (took c.stream (Message m) t) (with_message m c)
  pub ends : (t : CallTrace) (c : CallState) (e : CallEnd) (ending : Ending) (fields : List Field) →
      is_open t.connection_trace.role t.connection_trace.frames c.stream ≡ true → ended c.ending ≡ false →
      ended ending ≡ true → is_sent ending ≡ false → sum_by size_of fields ≤ 65536 →
      (AreSuited (took c.stream (Finish e) t) c.stream → (c.has_message ≡ false → queued_on t c.stream ≡ []) →
      (c.has_message ≡ true → IsMessageFirst (queued_on t c.stream)) →
      Prepares t.connection_trace.role (took c.stream (Finish e) t) c.stream ending fields) →
      Sends t c → Sends (took c.stream (Finish e) t) (closed_by ending fields c)
  pub others : (t : CallTrace) (c : CallState) (id : ℕ) (what : Item CallEnd) → (id == c.stream) ≡ false → Sends t c → Sends (took id what t) c
