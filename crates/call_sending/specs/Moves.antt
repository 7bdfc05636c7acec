-- What frames that are sent on one stream add to it, and to no other.
use Rattle.std.specs.Prelude.{◌≡◌, ℕ, ◌+◌, ◌<◌, ◌==◌, ◌&&◌, ◌||◌, Bool, true, false, List, [], ◌∷◌, ◌++◌, length, map, None, if◌then◌else◌}
use Rattle.hpack_tables.specs.declared.field.Field.{Field}
use Rattle.h2_frames.specs.declared.frame.Frame.{Frame}
use Rattle.h2_frames.specs.declared.frame.Frame.TheVariants.{Content, Headers, RstStream, Continuation}
use Rattle.h2_exchange.specs.declared.role.Role.{Role}
use Rattle.h2_exchange.specs.Blocks.{blocks, open_block}
use Rattle.h2_exchange.specs.Exchange.{Step, Sent, sent}
use Rattle.h2_exchange.specs.StreamParts.{Part, parts}
use Rattle.h2_exchange.specs.Streams.{begun, is_begun, is_ended_by}
use Rattle.h2_exchange.specs.Windows.{spent_on}
use Rattle.h2_exchange.specs.Streams.{is_live}
use Rattle.h2_exchange.specs.Windows.{may_send}
use Rattle.http_connection.specs.ConnectionTrace.{ConnectionTrace, wrote}
use Rattle.grpc_stream.specs.CallTrace.{CallTrace, changed}
use Rattle.grpc_stream.specs.Sends.{AreCarried}
use Rattle.kept_calls.specs.CallState.{CallState, ended}
use Rattle.call_sending.specs.Spelling.{Sends}

-- no header block is left open, and these are the fields of those that were sent
abbrev pub IsReady : List Step → List (List Field) → Type 0
IsReady x w = (length (blocks (sent x)) ≡ length w) × (open_block (sent x) ≡ None)

-- Behind these steps the frames, whose header blocks have these fields, bring such parts and so many bytes to a stream, and end it or not.
pub record Moves (role : Role) (x : List Step) (w : List (List Field)) (id : ℕ) (ps : List Part) (n : ℕ) (ends : Bool)
    (fs : List Frame) (lists : List (List Field)) : Type 0 where
  pub carried : AreCarried role x fs
  pub parts_are : (k : ℕ) → parts k (w ++ lists) (sent (x ++ map Sent fs)) ≡ parts k w (sent x) ++ (if id == k then ps else [])
  pub spent_is : (k : ℕ) → spent_on k (sent (x ++ map Sent fs)) ≡ spent_on k (sent x) + (if id == k then n else 0)
  pub ended_is : (k : ℕ) → is_ended_by (sent (x ++ map Sent fs)) k ≡ (is_ended_by (sent x) k || (ends && id == k))
  pub begun_is : (k : ℕ) → is_begun role (x ++ map Sent fs) k ≡ is_begun role x k
  pub list_is : begun role (x ++ map Sent fs) ≡ begun role x
  pub ready : IsReady (x ++ map Sent fs) (w ++ lists)

-- What a turn of a call sends moves its stream alone, and spells more of what was taken for it. What is kept of its peer stays.
pub record Turned (t : CallTrace) (old new : CallState) (d : ConnectionTrace) : Type 0 where
  pub ps : List Part
  pub n : ℕ
  pub ends : Bool
  pub fs : List Frame
  pub lists : List (List Field)
  pub goes_on : d ≡ wrote fs lists t.connection_trace
  pub moves : Moves t.connection_trace.role t.connection_trace.frames t.connection_trace.written old.stream ps n ends fs lists
  pub sends : Sends (changed (wrote fs lists) t) new
  pub stream_is : new.stream ≡ old.stream
  pub receiving_is : new.receiving ≡ old.receiving
  pub cutter_is : new.cutter ≡ old.cutter

-- Nothing more may be sent of a call whose stream is live: where bytes are left there is no room, and else its end, if it has one, is sent.
pub record IsDone (d : ConnectionTrace) (c : CallState) : Type 0 where
  pub full : is_live d.role d.frames c.stream ≡ true → 0 < length c.unsent → may_send d.frames c.stream ≡ 0
  pub closed : is_live d.role d.frames c.stream ≡ true → length c.unsent ≡ 0 → ended c.ending ≡ true → is_ended_by (sent d.frames) c.stream ≡ true

-- a frame that is part of no stream's data or header blocks, and resets none
abbrev pub is_control : Frame → Bool
is_control (Content b) = false
is_control (Headers b) = false
is_control (Continuation b) = false
is_control (RstStream b) = false
is_control other = true

-- one frame more was sent, which has no header block
abbrev pub pushed : Frame → CallTrace → CallTrace
pushed f t = changed (wrote (f ∷ []) []) t
