-- The rules that a received frame may break, the content of header blocks apart, in the order in which they decide (RFC 9113).
use Rattle.std.specs.Prelude.{ℕ, ◌+◌, ◌-◌, ◌%◌, ◌==◌, ◌&&◌, ◌||◌, Bool, true, false, not, nat_lt, List, [], ◌∷◌, length, slice_index, option_map, Option, Some, None, if◌then◌else◌}
use Rattle.std.specs.List.{list_any}
use Rattle.std.specs.Option.{option_or}
use Rattle.h2_frames.specs.declared.code.ErrorCode.{ErrorCode}
use Rattle.h2_frames.specs.declared.code.TheConstants.ErrorCode as code
use Rattle.h2_frames.specs.declared.frame.Frame.{Frame}
use Rattle.h2_exchange.specs.declared.role.Role.{Role}
use Rattle.h2_exchange.specs.declared.role.Role.TheVariants.{Client, Server}
use Rattle.h2_exchange.specs.Blocks.{open_block}
use Rattle.h2_exchange.specs.Exchange.{Step, received, sent, first_broken}
use Rattle.h2_exchange.specs.Frames.{stream_of, payload_of, payload_length, is_data, is_headers, is_priority, is_rst_stream, is_settings, is_push_promise, is_ping, is_goaway, is_window_update, is_continuation, is_setting, has_ack, has_padding, has_priority, increment_of, counted}
use Rattle.h2_exchange.specs.Streams.{of_client, highest, is_odd, is_idle_above, live}
use Rattle.h2_exchange.specs.Windows.{settings_of, spent_on, spent, granted_on}

-- ---- the place of a frame in the connection

-- the first frame of a side is SETTINGS, and no acknowledgement (section 3.4)
abbrev pub breaks_start : List Step → Frame → Bool
breaks_start past f = length (received past) == 0 && not (is_setting f)

-- Inside a header block stands only CONTINUATION on its stream, and outside none (sections 4.3 and 6.10).
abbrev pub breaks_block_on : Option ℕ → Frame → Bool
breaks_block_on None f = is_continuation f
breaks_block_on (Some id) f = not (is_continuation f && stream_of f == id)

-- ---- stream numbers

abbrev pub is_client : Role → Bool
is_client Client = true
is_client Server = false

-- frames of a stream, and frames of the connection (sections 6.1 to 6.10)
abbrev pub breaks_zero : Frame → Bool
breaks_zero f =
    (is_data f || is_headers f || is_priority f || is_rst_stream f || is_continuation f) && stream_of f == 0
    || (is_settings f || is_ping f || is_goaway f) && not (stream_of f == 0)

-- HEADERS of a new stream come from the client alone, with an odd id (section 5.1.1)
abbrev pub breaks_parity : Role → ℕ → Frame → Bool
breaks_parity role greatest f = is_headers f && is_idle_above greatest (stream_of f) && (is_client role || not (is_odd (stream_of f)))

-- nothing but HEADERS and PRIORITY stands on an idle stream (section 5.1)
abbrev pub breaks_idle : ℕ → Frame → Bool
breaks_idle greatest f = (is_data f || is_rst_stream f || is_window_update f) && not (stream_of f == 0) && is_idle_above greatest (stream_of f)

-- where this is the greatest id that was begun
abbrev pub breaks_number : Role → ℕ → Frame → Bool
breaks_number role greatest f = breaks_zero f || breaks_parity role greatest f || breaks_idle greatest f

-- ---- lengths and padding

-- the bytes that flags ask for: a length of padding, and a priority
abbrev pub priority_length : Frame → ℕ
priority_length f = if is_headers f && has_priority f then 5 else 0

abbrev pub flagged_length : Frame → ℕ
flagged_length f = (if has_padding f then 1 else 0) + priority_length f

abbrev pub breaks_length : ℕ → Frame → Bool
breaks_length greatest f =
    (is_rst_stream f || is_window_update f) && not (payload_length f == 4)
    || is_ping f && not (payload_length f == 8)
    || is_priority f && not (payload_length f == 5) && is_idle_above greatest (stream_of f)
    || is_goaway f && nat_lt (payload_length f) 8
    || is_settings f && not (if has_ack f then payload_length f == 0 else payload_length f % 6 == 0)
    || (is_data f || is_headers f) && nat_lt (payload_length f) (flagged_length f)

-- padding has room behind its length byte, and behind a priority (sections 6.1 and 6.2)
abbrev pub breaks_padding : Frame → Bool
breaks_padding f = (is_data f || is_headers f) && has_padding f && nat_lt (payload_length f - 1 - priority_length f) (slice_index (payload_of f) 0)

-- ---- values

-- ENABLE_PUSH, MAX_FRAME_SIZE and INITIAL_WINDOW_SIZE out of their range (section 6.5.2)
abbrev pub setting_error : Role → ℕ × ℕ → Option ErrorCode
setting_error role s = first_broken (
    (s.0 == 2 && (nat_lt 1 s.1 || is_client role && s.1 == 1), code.PROTOCOL_ERROR)
    ∷ (s.0 == 5 && (nat_lt s.1 16384 || nat_lt 16777215 s.1), code.PROTOCOL_ERROR)
    ∷ (s.0 == 4 && nat_lt 2147483647 s.1, code.FLOW_CONTROL_ERROR) ∷ [])

-- the first setting of a payload that is out of its range decides
abbrev pub settings_error : Role → List (ℕ × ℕ) → Option ErrorCode
settings_error role [] = None
settings_error role (s ∷ settings) = option_or (setting_error role s) (settings_error role settings)

-- a setting out of its range, or an increment of 0 for the connection (section 6.9)
abbrev pub value_error : Role → Frame → Option ErrorCode
value_error role f =
    if is_setting f then settings_error role (settings_of (payload_of f))
    else first_broken ((is_window_update f && stream_of f == 0 && increment_of f == 0, code.PROTOCOL_ERROR) ∷ [])

-- ---- windows (section 6.9)

-- DATA past what was granted to the connection
abbrev pub exceeds_connection : List Step → Frame → Bool
exceeds_connection past f = nat_lt (65535 + granted_on 0 (sent past)) (spent (received past) + counted f)

-- an increment that raises the connection's window above 2^31 - 1
abbrev pub overfills_connection : List Step → Frame → Bool
overfills_connection past f =
    is_window_update f && stream_of f == 0 && nat_lt (2147483647 + spent (sent past)) (65535 + granted_on 0 (received past) + increment_of f)

-- an INITIAL_WINDOW_SIZE that raises a live stream's window above 2^31 - 1
abbrev pub raises_stream : List Step → ℕ → ℕ → Bool
raises_stream past size id = nat_lt (2147483647 + spent_on id (sent past)) (size + granted_on id (received past))

abbrev pub raises_streams : Role → List Step → Frame → Bool
raises_streams role past f =
    is_setting f && list_any (λ s. s.0 == 4 && list_any (raises_stream past s.1) (live role past)) (settings_of (payload_of f))

-- ---- all of them

-- the rules on the place, the stream number and the length of a frame: it may be no first frame, this header block is
-- open, and this is the greatest id that was begun
abbrev pub shape_error : Role → Bool → Option ℕ → ℕ → Frame → Option ErrorCode
shape_error role bad_start opened greatest f = first_broken (
    (bad_start, code.PROTOCOL_ERROR) ∷ (is_push_promise f, code.PROTOCOL_ERROR) ∷ (breaks_block_on opened f, code.PROTOCOL_ERROR)
    ∷ (breaks_number role greatest f, code.PROTOCOL_ERROR) ∷ (breaks_length greatest f, code.FRAME_SIZE_ERROR) ∷ (breaks_padding f, code.PROTOCOL_ERROR) ∷ [])

-- The connection error of a frame, the content of its header block apart: the first rule that it breaks.
abbrev pub frame_error : Role → List Step → Frame → Option ErrorCode
frame_error role past f =
    option_or (shape_error role (breaks_start past f) (option_map (λ b. b.stream) (open_block (received past))) (highest (of_client role past)) f)
    (option_or (value_error role f) (first_broken (
    (exceeds_connection past f, code.FLOW_CONTROL_ERROR) ∷ (overfills_connection past f, code.FLOW_CONTROL_ERROR)
    ∷ (raises_streams role past f, code.FLOW_CONTROL_ERROR) ∷ [])))
