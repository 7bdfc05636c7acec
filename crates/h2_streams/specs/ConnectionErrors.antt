-- The connection error of a received frame, by what a set remembers.
use Rattle.std.specs.Prelude.{◌+◌, ◌==◌, ◌&&◌, not, nat_lt, [], ◌∷◌, option_map, Option}
use Rattle.std.specs.List.{list_any}
use Rattle.std.specs.Option.{option_or}
use Rattle.h2_frames.specs.declared.code.ErrorCode.{ErrorCode}
use Rattle.h2_frames.specs.declared.code.TheConstants.ErrorCode as code
use Rattle.h2_frames.specs.declared.frame.Frame.{Frame}
use Rattle.h2_exchange.specs.Exchange.{first_broken}
use Rattle.h2_exchange.specs.Frames.{stream_of, payload_of, payload_length, is_data, is_priority, is_window_update, is_setting, increment_of, counted}
use Rattle.h2_exchange.specs.Rules.{shape_error, value_error}
use Rattle.h2_exchange.specs.Windows.{settings_of}
use Rattle.h2_streams.specs.declared.live.Stream.{Stream}
use Rattle.h2_streams.specs.Live.{is_raising}
use Rattle.h2_streams.specs.Set.{Set}

-- DATA past the connection's window, an increment or a setting that raises a window above 2^31 - 1
abbrev pub window_error_in : Set → Frame → Option ErrorCode
window_error_in s f = first_broken (
    (nat_lt s.receive (counted f), code.FLOW_CONTROL_ERROR)
    ∷ (is_window_update f && stream_of f == 0 && nat_lt 2147483647 (s.send + increment_of f), code.FLOW_CONTROL_ERROR)
    ∷ (is_setting f && list_any (is_raising s.live) (settings_of (payload_of f)), code.FLOW_CONTROL_ERROR) ∷ [])

abbrev pub shape_error_in : Set → Frame → Option ErrorCode
shape_error_in s f = shape_error s.role (not s.is_started && not (is_setting f)) (option_map (λ b. b.0) s.block) s.highest f

abbrev pub frame_error_in : Set → Frame → Option ErrorCode
frame_error_in s f = option_or (shape_error_in s f) (option_or (value_error s.role f) (window_error_in s f))

-- the errors of a frame on a live stream, header blocks apart
abbrev pub live_error_in : Set → Frame → Stream → Option ErrorCode
live_error_in s f stream = first_broken (
    (is_priority f && not (payload_length f == 5), code.FRAME_SIZE_ERROR)
    ∷ (is_window_update f && increment_of f == 0, code.PROTOCOL_ERROR)
    ∷ (is_window_update f && nat_lt 4294967295 (s.initial + stream.room + increment_of f), code.FLOW_CONTROL_ERROR)
    ∷ (is_data f && nat_lt stream.receive (counted f), code.FLOW_CONTROL_ERROR)
    ∷ (is_data f && stream.is_closed_remote, code.STREAM_CLOSED) ∷ [])
