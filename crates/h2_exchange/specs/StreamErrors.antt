-- Stream errors: a received frame ends its stream, and the connection goes on (RFC 9113, section 5.4.2).
use Rattle.std.specs.Prelude.{ℕ, ◌+◌, ◌==◌, ◌&&◌, Bool, not, nat_lt, List, [], ◌∷◌, Option, Some, None, if◌then◌else◌}
use Rattle.std.specs.Option.{option_or}
use Rattle.h2_frames.specs.declared.code.ErrorCode.{ErrorCode}
use Rattle.h2_frames.specs.declared.code.TheConstants.ErrorCode as code
use Rattle.h2_frames.specs.declared.frame.Frame.{Frame}
use Rattle.h2_exchange.specs.declared.limits.H2Limits.{H2Limits}
use Rattle.h2_exchange.specs.declared.role.Role.{Role}
use Rattle.h2_exchange.specs.Blocks.{Block, completed}
use Rattle.h2_exchange.specs.Exchange.{Step, received, sent, first_broken}
use Rattle.h2_exchange.specs.Frames.{stream_of, payload_length, is_data, is_priority, is_window_update, increment_of, counted}
use Rattle.h2_exchange.specs.Rules.{is_client}
use Rattle.h2_exchange.specs.Streams.{is_live, is_live_at, is_ended_by, has_head, others_live}
use Rattle.h2_exchange.specs.Windows.{initial_window, spent_on, granted_on}

-- an increment that raises a stream's window above 2^31 - 1 (section 6.9.1)
abbrev pub overfills_stream : List Step → Frame → Bool
overfills_stream past f =
    nat_lt (2147483647 + spent_on (stream_of f) (sent past)) (initial_window (received past) + granted_on (stream_of f) (received past) + increment_of f)

-- DATA past what was granted to its stream (section 6.9.1)
abbrev pub exceeds_stream : H2Limits → List Step → Frame → Bool
exceeds_stream limits past f =
    nat_lt (limits.window + granted_on (stream_of f) (sent past)) (spent_on (stream_of f) (received past) + counted f)

-- the errors of a frame on a live stream, header blocks apart
abbrev pub live_error : H2Limits → List Step → Frame → Option ErrorCode
live_error limits past f = first_broken (
    (is_priority f && not (payload_length f == 5), code.FRAME_SIZE_ERROR)
    ∷ (is_window_update f && increment_of f == 0, code.PROTOCOL_ERROR)
    ∷ (is_window_update f && overfills_stream past f, code.FLOW_CONTROL_ERROR)
    ∷ (is_data f && exceeds_stream limits past f, code.FLOW_CONTROL_ERROR)
    ∷ (is_data f && is_ended_by (received past) (stream_of f), code.STREAM_CLOSED) ∷ [])

-- there is no room for one more stream: only a server refuses any (section 5.1.2)
abbrev pub is_full : Role → H2Limits → List Step → ℕ → Bool
is_full role limits past id = not (is_client role) && not (nat_lt (others_live role past id) limits.streams)

-- The error of a header block on a live stream, at the frame that completes it: its side had ended the stream; it is the
-- second one and does not end it; it is malformed; or it begins a stream for which there is no room.
abbrev pub block_error : Role → H2Limits → List Step → Block → Bool → Option ErrorCode
block_error role limits past b is_malformed = first_broken (
    (is_ended_by (received past) b.stream, code.STREAM_CLOSED)
    ∷ (has_head (received past) b.stream && not b.last, code.PROTOCOL_ERROR)
    ∷ (is_malformed, code.PROTOCOL_ERROR)
    ∷ (not (has_head (received past) b.stream) && is_full role limits past b.stream, code.REFUSED_STREAM) ∷ [])

abbrev pub completed_error : Role → H2Limits → List Step → Frame → Bool → Option Block → Option ErrorCode
completed_error role limits past f is_malformed None = None
completed_error role limits past f is_malformed (Some b) =
    if is_live_at role past f b.stream then block_error role limits past b is_malformed else None

-- The stream error of a frame that is no connection error, where the header block that it completes is malformed or not.
abbrev pub stream_error_of : Role → H2Limits → List Step → Frame → Bool → Option ErrorCode
stream_error_of role limits past f is_malformed =
    option_or (if is_live role past (stream_of f) then live_error limits past f else None)
    (completed_error role limits past f is_malformed (completed (received past) f))
