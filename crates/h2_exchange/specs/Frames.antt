-- What a frame says: its type, its flags and its stream (RFC 9113, sections 4.1 and 6).
use Rattle.std.specs.Prelude.{ℕ, ◌%◌, ◌^◌, ◌==◌, ◌&&◌, Bool, true, false, not, bit_and, List, length, take, drop}
use Rattle.std.specs.Int.{w32, from_be_bytes}
use Rattle.h2_frames.specs.declared.code.ErrorCode.{ErrorCode}
use Rattle.h2_frames.specs.declared.frame.Frame.{Frame}
use Rattle.h2_frames.specs.declared.frame.Frame.TheVariants.{Content, Headers, Priority, RstStream, Settings, PushPromise, Ping, GoAway, WindowUpdate, Continuation}
use Rattle.h2_frames.specs.Layout.{body_of}

abbrev pub stream_of : Frame → ℕ
stream_of f = (body_of f).stream

abbrev pub payload_of : Frame → List ℕ
payload_of f = (body_of f).payload

abbrev pub payload_length : Frame → ℕ
payload_length f = length (payload_of f)

abbrev pub is_data : Frame → Bool
is_data (Content b) = true
is_data other = false

abbrev pub is_headers : Frame → Bool
is_headers (Headers b) = true
is_headers other = false

abbrev pub is_priority : Frame → Bool
is_priority (Priority b) = true
is_priority other = false

abbrev pub is_rst_stream : Frame → Bool
is_rst_stream (RstStream b) = true
is_rst_stream other = false

abbrev pub is_settings : Frame → Bool
is_settings (Settings b) = true
is_settings other = false

abbrev pub is_push_promise : Frame → Bool
is_push_promise (PushPromise b) = true
is_push_promise other = false

abbrev pub is_ping : Frame → Bool
is_ping (Ping b) = true
is_ping other = false

abbrev pub is_goaway : Frame → Bool
is_goaway (GoAway b) = true
is_goaway other = false

abbrev pub is_window_update : Frame → Bool
is_window_update (WindowUpdate b) = true
is_window_update other = false

abbrev pub is_continuation : Frame → Bool
is_continuation (Continuation b) = true
is_continuation other = false

-- ---- flags, by their values as powers of two

abbrev pub has_flag : ℕ → Frame → Bool
has_flag flag f = not (bit_and (body_of f).flags flag == 0)

-- END_STREAM of DATA and HEADERS
abbrev pub has_end_stream : Frame → Bool
has_end_stream f = has_flag 1 f

-- ACK of SETTINGS and PING
abbrev pub has_ack : Frame → Bool
has_ack f = has_flag 1 f

-- END_HEADERS of HEADERS and CONTINUATION
abbrev pub has_end_headers : Frame → Bool
has_end_headers f = has_flag 4 f

-- PADDED of DATA and HEADERS
abbrev pub has_padding : Frame → Bool
has_padding f = has_flag 8 f

-- PRIORITY of HEADERS
abbrev pub has_priority : Frame → Bool
has_priority f = has_flag 32 f

-- settings that aren't an acknowledgement
abbrev pub is_setting : Frame → Bool
is_setting f = is_settings f && not (has_ack f)

-- ---- what a payload says

-- the number in four bytes
abbrev pub word_of : List ℕ → ℕ
word_of bytes = from_be_bytes w32 (take 4 bytes)

-- the increment of a WINDOW_UPDATE, without its reserved bit (section 6.9)
abbrev pub increment_of : Frame → ℕ
increment_of f = word_of (payload_of f) % 2 ^ 31

-- the error code of an RST_STREAM (section 6.4)
abbrev pub code_of : Frame → ErrorCode
code_of f = record { 0 = word_of (payload_of f) }

-- the last stream of a GOAWAY, without its reserved bit, and its error code (section 6.8)
abbrev pub last_stream_of : Frame → ℕ
last_stream_of f = word_of (payload_of f) % 2 ^ 31

abbrev pub goaway_code_of : Frame → ErrorCode
goaway_code_of f = record { 0 = word_of (drop 4 (payload_of f)) }

-- what DATA counts against windows, its padding included (section 6.1)
abbrev pub counted : Frame → ℕ
counted (Content b) = length b.payload
counted other = 0
