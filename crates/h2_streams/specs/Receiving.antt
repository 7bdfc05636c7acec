-- What a received frame makes of a set, where the content of header blocks is not malformed.
use Rattle.std.specs.Prelude.{ℕ, ◌+◌, ◌-◌, ◌==◌, ◌&&◌, ◌||◌, Bool, true, false, not, nat_lt, List, [], ◌∷◌, length, Option, Some, None, is_some, Result, Ok, Err, if◌then◌else◌}
use Rattle.std.specs.Option.{option_or}
use Rattle.h2_frames.specs.declared.code.ErrorCode.{ErrorCode}
use Rattle.h2_frames.specs.declared.code.TheConstants.ErrorCode as code
use Rattle.h2_frames.specs.declared.frame.Frame.{Frame}
use Rattle.h2_frames.specs.declared.frame.Frame.TheVariants.{Headers, Continuation}
use Rattle.h2_exchange.specs.declared.fault.StreamFault.{StreamFault}
use Rattle.h2_exchange.specs.declared.fault.StreamFault.TheVariants.{Stream as OnStream, Connection}
use Rattle.h2_exchange.specs.Exchange.{first_broken}
use Rattle.h2_exchange.specs.Frames.{stream_of, is_data, is_headers, is_rst_stream, is_window_update, has_end_stream, has_end_headers, increment_of, counted}
use Rattle.h2_exchange.specs.Rules.{is_client}
use Rattle.h2_exchange.specs.Streams.{is_odd}
use Rattle.h2_exchange.specs.Windows.{settings_in, setting}
use Rattle.h2_streams.specs.declared.live.StreamOutcome.{StreamOutcome}
use Rattle.h2_streams.specs.declared.live.StreamOutcome.TheVariants.{NoStream, Over, Alive}
use Rattle.h2_streams.specs.declared.live.Stream.{Stream}
use Rattle.h2_streams.specs.declared.set.receive.SeenStream.{SeenStream}
use Rattle.h2_streams.specs.ConnectionErrors.{frame_error_in, live_error_in}
use Rattle.h2_streams.specs.Live.{place_of, with_outcome}
use Rattle.h2_streams.specs.Set.{Set, at, has_head_in, new_stream}

-- ---- header blocks

-- the header block so far that a frame is part of: its stream, and whether it ends its side
abbrev pub block_with : Option (ℕ × Bool) → Frame → Option (ℕ × Bool)
block_with None (Headers b) = Some (b.stream, has_end_stream (Headers b))
block_with None other = None
block_with (Some block) (Continuation b) = Some block
block_with (Some block) other = None

abbrev pub completed_by : Option (ℕ × Bool) → Frame → Option (ℕ × Bool)
completed_by opened f = if has_end_headers f then block_with opened f else None

abbrev pub left_open : Option (ℕ × Bool) → Frame → Option (ℕ × Bool)
left_open opened f = if has_end_headers f then None else block_with opened f

abbrev pub is_last : Option (ℕ × Bool) → Bool
is_last None = false
is_last (Some block) = block.1

-- ---- the stream of a frame

-- the frame begins a stream, which at a server the client does
abbrev pub is_new_in : Set → Frame → Bool
is_new_in s f = not (is_client s.role) && (is_headers f && is_odd (stream_of f) && nat_lt s.highest (stream_of f)) && not (is_some (at (stream_of f) s))

-- the frame's stream, which is live or new
abbrev pub seen_in : Set → Frame → Option Stream
seen_in s f = if is_new_in s f then Some (new_stream s.limits (stream_of f)) else at (stream_of f) s

-- how many streams are live beside it
abbrev pub others_in : Set → Frame → ℕ
others_in s f = if is_new_in s f then length s.live else length s.live - 1

-- there is no room for one more
abbrev pub is_full_in : Set → Frame → Bool
is_full_in s f = not (is_client s.role) && not (nat_lt (others_in s f) s.limits.streams)

-- the error of a header block that the frame completes
abbrev pub block_error_in : Set → Frame → Stream → Option (ℕ × Bool) → Option ErrorCode
block_error_in s f stream None = None
block_error_in s f stream (Some block) = first_broken (
    (stream.is_closed_remote, code.STREAM_CLOSED)
    ∷ (stream.has_head && not block.1, code.PROTOCOL_ERROR)
    ∷ (not stream.has_head && is_full_in s f, code.REFUSED_STREAM) ∷ [])

abbrev pub fault_on : Set → Frame → Option Stream → Option ErrorCode
fault_on s f None = None
fault_on s f (Some stream) = option_or (live_error_in s f stream) (block_error_in s f stream (completed_by s.block f))

-- the stream error of a frame that is no connection error
abbrev pub fault_in : Set → Frame → Option ErrorCode
fault_in s f = fault_on s f (seen_in s f)

-- ---- the set behind it

-- the frame ends the peer's side of its stream
abbrev pub ends_in : Set → Frame → Bool
ends_in s f = is_data f && has_end_stream f || is_last (completed_by s.block f)

abbrev pub granted_by : Frame → ℕ
granted_by f = if is_window_update f then increment_of f else 0

abbrev pub changed_in : Set → Frame → Stream → Stream
changed_in s f stream = record stream {
  is_closed_remote = stream.is_closed_remote || ends_in s f;
  has_head = stream.has_head || is_some (completed_by s.block f);
  room = stream.room + granted_by f;
  receive = stream.receive - counted f;
}

-- a stream that a frame leaves so is live, or over
abbrev pub left_as : Frame → Stream → StreamOutcome
left_as f stream = if is_rst_stream f || stream.is_closed_remote && stream.is_closed_local then Over else Alive stream

-- what becomes of the frame's stream, which is over where the frame is a stream error
abbrev pub outcome_on : Set → Frame → Option ErrorCode → Option Stream → StreamOutcome
outcome_on s f fault None = NoStream
outcome_on s f (Some why) (Some stream) = Over
outcome_on s f None (Some stream) = left_as f (changed_in s f stream)

abbrev pub live_behind : Set → Frame → List Stream
live_behind s f = with_outcome (is_new_in s f) (stream_of f) (outcome_on s f (fault_in s f) (seen_in s f)) s.live

-- the set behind a frame that is no connection error
abbrev pub taken : Set → Frame → Set
taken s f = record s {
  live = live_behind s f;
  highest = if is_new_in s f then stream_of f else s.highest;
  is_started = true;
  block = left_open s.block f;
  initial = setting 4 s.initial (settings_in f);
  send = s.send + (if stream_of f == 0 then granted_by f else 0);
  receive = s.receive - counted f;
}

-- ---- the answer

-- what is answered at a frame on a stream with this connection error and this stream error
abbrev pub answer_by : ℕ → Option ErrorCode → Option ErrorCode → Result (Unit {0}) StreamFault
answer_by id (Some why) fault = Err (Connection why)
answer_by id None (Some why) = Err (OnStream id why)
answer_by id None None = Ok tt

-- the stream is live behind the frame
abbrev pub is_alive : StreamOutcome → Bool
is_alive NoStream = false
is_alive Over = false
is_alive (Alive stream) = true

abbrev pub is_live_by : Option ErrorCode → Set → Frame → Bool
is_live_by (Some why) s f = is_some (at (stream_of f) s)
is_live_by None s f = is_alive (outcome_on s f (fault_in s f) (seen_in s f))

-- what the frame meets on its stream, and whether that is live behind it
abbrev pub stream_seen : Set → Frame → SeenStream
stream_seen s f = record {
  place = place_of (stream_of f) s.live;
  was_live = is_some (at (stream_of f) s);
  had_head = has_head_in (at (stream_of f) s);
  is_live = is_live_by (frame_error_in s f) s f;
}

abbrev pub taken_by : Option ErrorCode → Set → Frame → Set
taken_by (Some why) s f = s
taken_by None s f = taken s f
