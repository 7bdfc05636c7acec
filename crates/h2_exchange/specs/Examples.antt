-- Small exchanges, by the definitions.
use native.Mathlib.Omega.{arith}
use Rattle.std.specs.Prelude.{◌≡◌, ℕ, zero, suc, ◌+◌, ◌*◌, ◌%◌, ◌^◌, Bool, true, false, negsuc, List, [], ◌∷◌, ◌++◌, length, replicate, codes, Option, Some, None, Ok, Err}
use Rattle.h2_frames.specs.declared.code.TheConstants.ErrorCode as code
use Rattle.h2_frames.specs.declared.frame.Frame.{Frame}
use Rattle.h2_frames.specs.declared.frame.Frame.TheVariants.{Content, Headers, RstStream, Settings, PushPromise, GoAway}
use Rattle.h2_frames.specs.declared.frame.FrameBody.{FrameBody}
use Rattle.h2_frames.specs.Layout.{frame_text}
use Rattle.h2_frames.specs.Stream.{preface}
use Rattle.hpack_tables.specs.declared.fault.HpackFault.TheVariants as fault
use Rattle.hpack_tables.specs.declared.field.Field.{Field}
use Rattle.h2_exchange.specs.declared.limits.CalmCause.TheVariants as cause
use Rattle.h2_exchange.specs.declared.role.Role.TheVariants.{Client, Server}
use Rattle.h2_exchange.specs.Blocks.{Block}
use Rattle.h2_exchange.specs.Calls.{Begun, Request, Finished, Dropped, Declined, Answered, Closed, Broken, shown, calls, answers}
use Rattle.h2_exchange.specs.Content.{Outcome}
use Rattle.h2_exchange.specs.Events.{Head, Data, Ended, Reset, GoneAway}
use Rattle.h2_exchange.specs.Exchange.{Step, Received, Sent}
use Rattle.h2_exchange.specs.Malformed.{is_malformed_head, is_malformed_trailers}
use Rattle.h2_exchange.specs.Rules.{frame_error}
use Rattle.h2_exchange.specs.Samples.{limits, body, first_settings, settings, no_settings, initial, head_on, head, last_head, cut_head, rest_of_head, more_of_head, content, thirty_bytes, last_data, update_of_25, update, cancel, cancel_on, empty_message, ping, goaway, field, request, response, trailers, trailers_only, served}
use Rattle.h2_exchange.specs.Outgoing.{MaySend}
use Rattle.h2_exchange.specs.Requests.{IsRequest}
use Rattle.h2_exchange.specs.Sending.{first_text, goaway_text}
use Rattle.h2_exchange.specs.StreamParts.{Unclosed, Trailers, WasReset, IsResponse, parts}
use Rattle.h2_exchange.specs.Stops.{Stop, Error, Calm, block_stop, has_resets_past, before_stop, events, stop_of, IsBroken}
use Rattle.h2_exchange.specs.StreamErrors.{stream_error_of}
use Rattle.h2_exchange.specs.Streams.{is_idle, is_live, is_open, is_over}
use Rattle.h2_exchange.specs.Windows.{stream_window, may_send}

-- A window of 10 becomes one of -20 where INITIAL_WINDOW_SIZE is lowered by 30, and a WINDOW_UPDATE of 25 leaves 5.
abbrev pub lowered : List Step
lowered = Received (initial 40) ∷ Received head ∷ Sent thirty_bytes ∷ []

pub record LoweredWindow : Type 0 where
  pub ten : may_send lowered 1 ≡ 10
  pub below_zero : stream_window (lowered ++ Received (initial 10) ∷ []) 1 ≡ negsuc 19
  pub nothing : may_send (lowered ++ Received (initial 10) ∷ []) 1 ≡ 0
  pub five : may_send (lowered ++ Received (initial 10) ∷ Received update_of_25 ∷ []) 1 ≡ 5

-- The first frames of a server and of a client.
pub record FirstFrames : Type 0 where
  pub server :
      first_text Server (limits 100)
      ≡ 0 ∷ 0 ∷ 18 ∷ 4 ∷ 0 ∷ 0 ∷ 0 ∷ 0 ∷ 0 ∷ 0 ∷ 3 ∷ 0 ∷ 0 ∷ 0 ∷ 100 ∷ 0 ∷ 4 ∷ 0 ∷ 16 ∷ 0 ∷ 0 ∷ 0 ∷ 6 ∷ 0 ∷ 1 ∷ 0 ∷ 0
      ∷ 0 ∷ 0 ∷ 4 ∷ 8 ∷ 0 ∷ 0 ∷ 0 ∷ 0 ∷ 0 ∷ 0 ∷ 15 ∷ 0 ∷ 1 ∷ []
  pub client :
      first_text Client (limits 100)
      ≡ 0 ∷ 0 ∷ 12 ∷ 4 ∷ 0 ∷ 0 ∷ 0 ∷ 0 ∷ 0 ∷ 0 ∷ 2 ∷ 0 ∷ 0 ∷ 0 ∷ 0 ∷ 0 ∷ 4 ∷ 0 ∷ 16 ∷ 0 ∷ 0
      ∷ 0 ∷ 0 ∷ 4 ∷ 8 ∷ 0 ∷ 0 ∷ 0 ∷ 0 ∷ 0 ∷ 0 ∷ 15 ∷ 0 ∷ 1 ∷ []

-- A stream is idle, then live, then ended by its client, then over; one whose id was skipped is neither idle nor live.
abbrev pub begun : List Step
begun = Received no_settings ∷ Received head ∷ []

pub record StreamLife : Type 0 where
  pub idle : is_idle Server (Received no_settings ∷ []) 1 ≡ true
  pub not_live : is_live Server (Received no_settings ∷ []) 1 ≡ false
  pub begins : is_live Server begun 1 ≡ true
  pub next_is_idle : is_idle Server begun 3 ≡ true
  pub half : is_live Server (begun ++ Received last_data ∷ []) 1 ≡ true
  pub may_answer : is_open Server (begun ++ Received last_data ∷ []) 1 ≡ true
  pub ends : is_live Server (begun ++ Received last_data ∷ Sent last_head ∷ []) 1 ≡ false
  pub answered_first : is_live Server (begun ++ Sent last_data ∷ []) 1 ≡ true
  pub closed : is_open Server (begun ++ Sent last_data ∷ []) 1 ≡ false
  pub cut_head_ends_nothing : is_over (begun ++ Received last_data ∷ Sent cut_head ∷ []) 1 ≡ false
  pub whole_head_ends : is_over (begun ++ Received last_data ∷ Sent cut_head ∷ Sent rest_of_head ∷ []) 1 ≡ true
  pub reset : is_live Server (begun ++ Received cancel ∷ []) 1 ≡ false
  pub skipped : is_idle Server (Received no_settings ∷ Received (head_on 3 (omega arith)) ∷ []) 1 ≡ false
  pub skipped_not_live : is_live Server (Received no_settings ∷ Received (head_on 3 (omega arith)) ∷ Received head ∷ []) 1 ≡ false

-- With room for two streams the third is refused, until one of the two is over.
abbrev pub two : List Step
two = begun ++ Received (head_on 3 (omega arith)) ∷ []

pub record RefusedStream : Type 0 where
  pub refused : stream_error_of Server (limits 2) two (head_on 5 (omega arith)) false ≡ Some code.REFUSED_STREAM
  pub malformed_first : stream_error_of Server (limits 2) two (head_on 5 (omega arith)) true ≡ Some code.PROTOCOL_ERROR
  pub taken : stream_error_of Server (limits 2) (two ++ Sent cancel ∷ []) (head_on 5 (omega arith)) false ≡ None
  pub not_by_a_client : stream_error_of Client (limits 0) (Received no_settings ∷ Sent head ∷ []) head false ≡ None
  pub event : events Server (limits 2) (Ok request ∷ Ok request ∷ Ok request ∷ []) (two ++ Received (head_on 5 (omega arith)) ∷ [])
      ≡ Head 1 request false ∷ Head 3 request false ∷ Reset 5 code.REFUSED_STREAM ∷ []

-- so many heads, on 1, 3, 5 and so on
abbrev pub heads_upto : ℕ → List Step
heads_upto zero = Received no_settings ∷ []
heads_upto (suc n) = heads_upto n ++ Received (Headers (body_on n)) ∷ []
  where
    body_on : ℕ → FrameBody
    body_on n = record { flags = 4; stream = (1 + 2 * n) % 2 ^ 31; payload = []; stream_in_range = omega arith; payload_in_range = omega arith }

-- With the limit of 100 the 100th stream is taken and the 101st refused.
pub record FullServer : Type 0 where
  pub taken : stream_error_of Server (limits 100) (heads_upto 99) (head_on 199 (omega arith)) false ≡ None
  pub refused : stream_error_of Server (limits 100) (heads_upto 100) (head_on 201 (omega arith)) false ≡ Some code.REFUSED_STREAM

-- What a stream number breaks.
pub record StreamNumbers : Type 0 where
  pub even : frame_error Server begun (head_on 2 (omega arith)) ≡ Some code.PROTOCOL_ERROR
  pub data_on_idle : frame_error Server (Received no_settings ∷ []) (content 0 [] (omega arith)) ≡ Some code.PROTOCOL_ERROR
  pub data_on_zero : frame_error Server begun (Content (body 0 0 [] (omega arith) (omega arith))) ≡ Some code.PROTOCOL_ERROR
  pub settings_on_one : frame_error Server begun (Settings (body 0 1 [] (omega arith) (omega arith))) ≡ Some code.PROTOCOL_ERROR
  pub head_to_client : frame_error Client (Received no_settings ∷ []) head ≡ Some code.PROTOCOL_ERROR
  pub answer_to_client : frame_error Client (Received no_settings ∷ Sent head ∷ []) head ≡ None
  pub skipped : frame_error Server (Received no_settings ∷ Received (head_on 3 (omega arith)) ∷ []) head ≡ None

-- A second head must end its side of the stream, and is then trailers, whose fields a server drops.
pub record SecondHead : Type 0 where
  pub no_end : stream_error_of Server (limits 100) begun head false ≡ Some code.PROTOCOL_ERROR
  pub as_trailers : events Server (limits 100) (Ok request ∷ Ok trailers ∷ []) (begun ++ Received last_head ∷ []) ≡ Head 1 request false ∷ Ended 1 ∷ []
  pub in_two_frames : events Server (limits 100) (Ok request ∷ Ok trailers ∷ []) (begun ++ Received cut_head ∷ Received rest_of_head ∷ [])
      ≡ Head 1 request false ∷ Ended 1 ∷ []
  pub malformed : events Server (limits 100) (Ok request ∷ Ok request ∷ []) (begun ++ Received last_head ∷ [])
      ≡ Head 1 request false ∷ Reset 1 code.PROTOCOL_ERROR ∷ []
  pub behind_the_end : events Server (limits 100) (Ok request ∷ Ok trailers ∷ []) (begun ++ Received last_data ∷ Received last_head ∷ [])
      ≡ Head 1 request false ∷ Data 1 [] ∷ Ended 1 ∷ Reset 1 code.STREAM_CLOSED ∷ []

-- What stops an exchange, with the place of its frame, where a server was sent the preface and an empty SETTINGS.
abbrev pub stopped : List Outcome → Frame → Option Stop
stopped heads f = stop_of Server (limits 100) heads (Received no_settings ∷ Received f ∷ [])

pub record Stops : Type 0 where
  pub no_settings_first : stop_of Server (limits 100) [] (Received ping ∷ []) ≡ Some (Error code.PROTOCOL_ERROR 24)
  pub half_a_setting : stopped [] (settings (replicate 5 0) (omega arith)) ≡ Some (Error code.FRAME_SIZE_ERROR 33)
  pub data_on_idle : stopped [] (content 0 [] (omega arith)) ≡ Some (Error code.PROTOCOL_ERROR 33)
  pub update_of_nothing : stopped [] (update 0 (replicate 4 0) (omega arith) (omega arith)) ≡ Some (Error code.PROTOCOL_ERROR 33)
  pub large_update : stopped [] (update 0 (127 ∷ 255 ∷ 255 ∷ 255 ∷ []) (omega arith) (omega arith)) ≡ Some (Error code.FLOW_CONTROL_ERROR 33)
  pub bad_index : stopped (Err fault.BadIndex ∷ []) last_head ≡ Some (Error code.COMPRESSION_ERROR 33)
  pub long_list : stopped (Err fault.ListTooLong ∷ []) last_head ≡ Some (Calm cause.HeaderList)
  pub lone_continuation : stopped [] rest_of_head ≡ Some (Error code.PROTOCOL_ERROR 33)
  pub inside_a_block : stop_of Server (limits 100) [] (Received no_settings ∷ Received cut_head ∷ Received ping ∷ []) ≡ Some (Error code.PROTOCOL_ERROR 42)
  pub long_padding : stopped [] (Headers (body 12 1 (5 ∷ 131 ∷ []) (omega arith) (omega arith))) ≡ Some (Error code.PROTOCOL_ERROR 33)
  pub large_window : stopped [] (settings (0 ∷ 4 ∷ 128 ∷ 0 ∷ 0 ∷ 0 ∷ []) (omega arith)) ≡ Some (Error code.FLOW_CONTROL_ERROR 33)
  pub push_promise : stopped [] (PushPromise (body 0 1 [] (omega arith) (omega arith))) ≡ Some (Error code.PROTOCOL_ERROR 33)
  pub many_frames : stop_of Server (limits 100) [] (Received no_settings ∷ Received cut_head ∷ replicate 64 (Received more_of_head))
      ≡ Some (Calm cause.HeaderFrames)
  pub enough_frames : stop_of Server (limits 100) [] (Received no_settings ∷ Received cut_head ∷ replicate 63 (Received more_of_head)) ≡ None
  pub raised_window : stop_of Server (limits 100) (Ok request ∷ [])
      (begun ++ Received update_of_25 ∷ Received (settings (0 ∷ 4 ∷ 127 ∷ 255 ∷ 255 ∷ 255 ∷ []) (omega arith)) ∷ [])
      ≡ Some (Error code.FLOW_CONTROL_ERROR 55)
  pub nothing : stop_of Server (limits 100) (Ok request ∷ []) (begun ++ Received ping ∷ Received goaway ∷ []) ≡ None

-- What the bytes break that are no frame: a preface that is none, and a length of 16,385.
abbrev pub bad_preface : List ℕ
bad_preface = codes "PRI * HTTP/1.1"

abbrev pub long_frame : List ℕ
long_frame = 0 ∷ 64 ∷ 1 ∷ 11 ∷ 0 ∷ 0 ∷ 0 ∷ 0 ∷ 0 ∷ []

pub record RestStops : Type 0 where
  pub preface_is_none : IsBroken Server (limits 100) [] bad_preface [] bad_preface code.PROTOCOL_ERROR 0
  pub long_length : IsBroken Server (limits 100) [] (preface ++ frame_text no_settings ++ long_frame)
      (Received no_settings ∷ []) long_frame code.FRAME_SIZE_ERROR 33

-- A block may have 65,536 bytes and 64 frames, and no more.
pub record BlockLimits : Type 0 where
  pub full : (b : Block) → length b.text ≡ 65536 → b.frames ≡ 64 → block_stop (Some b) ≡ None
  pub long : (b : Block) → length b.text ≡ 65537 → block_stop (Some b) ≡ Some (Calm cause.HeaderBytes)
  pub many : (b : Block) → length b.text ≡ 65536 → b.frames ≡ 65 → block_stop (Some b) ≡ Some (Calm cause.HeaderFrames)

-- Requests that are cut off, where one such is allowed: begun and at once reset; one more for each call that the client
-- ended; none where a whole request stood on the stream, or where the stream was over.
abbrev pub cut_calls : List Step
cut_calls = begun ++ Received cancel ∷ Received (head_on 3 (omega arith)) ∷ []

abbrev pub resets_past_one : List Step → Bool
resets_past_one x = has_resets_past Server (limits 100) (Ok request ∷ Ok request ∷ []) 1 x

pub record CutRequests : Type 0 where
  pub one : resets_past_one cut_calls ≡ false
  pub two : resets_past_one (cut_calls ++ Received (cancel_on 3 (omega arith)) ∷ []) ≡ true
  pub sent_too : resets_past_one (cut_calls ++ Sent (cancel_on 3 (omega arith)) ∷ []) ≡ true
  pub one_stream_twice : resets_past_one (cut_calls ++ Received cancel ∷ []) ≡ false
  pub after_an_end : resets_past_one
      (begun ++ Received last_data ∷ Received cancel ∷ Received (head_on 3 (omega arith)) ∷ Received (cancel_on 3 (omega arith)) ∷ []) ≡ false
  pub end_of_a_dead_stream : resets_past_one (cut_calls ++ Received last_data ∷ Received (cancel_on 3 (omega arith)) ∷ []) ≡ true
  pub whole_request : resets_past_one
      (begun ++ Received empty_message ∷ Received cancel ∷ Received (head_on 3 (omega arith)) ∷ Received (cancel_on 3 (omega arith)) ∷ []) ≡ false

-- What is given of frames that a side need not mind.
pub record QuietFrames : Type 0 where
  pub skipped : events Server (limits 100) (Ok request ∷ Ok request ∷ []) (Received no_settings ∷ Received (head_on 3 (omega arith)) ∷ Received head ∷ [])
      ≡ Head 3 request false ∷ []
  pub behind_an_error : events Server (limits 100) (Ok request ∷ []) (Received no_settings ∷ Received rest_of_head ∷ Received head ∷ []) ≡ []
  pub reset_by_client : events Client (limits 100) (Ok response ∷ []) (Received no_settings ∷ Sent head ∷ Sent cancel ∷ Received head ∷ []) ≡ []
  pub trailers_to_client : events Client (limits 100) (Ok response ∷ Ok trailers ∷ [])
      (Received no_settings ∷ Sent last_head ∷ Received head ∷ Received last_head ∷ []) ≡ Head 1 response false ∷ Head 1 trailers true ∷ []
  pub goes_away : events Server (limits 100) [] (Received no_settings ∷ Received goaway ∷ []) ≡ GoneAway 1 code.NO_ERROR ∷ []

-- Heads that are malformed.
pub record BadHeads : Type 0 where
  pub request_is_sound : is_malformed_head Server request ≡ false
  pub response_is_sound : is_malformed_head Client response ≡ false
  pub no_method : is_malformed_head Server (field (codes ":scheme") (codes "http") ∷ field (codes ":path") (codes "/") ∷ []) ≡ true
  pub late : is_malformed_head Server (request ++ field (codes ":authority") [] ∷ []) ≡ true
  pub doubled : is_malformed_head Server (field (codes ":method") (codes "POST") ∷ request) ≡ true
  pub unknown : is_malformed_head Server response ≡ true
  pub upper_case : is_malformed_head Server (request ++ field (codes "Accept") [] ∷ []) ≡ true
  pub line_break : is_malformed_head Server (request ++ field (codes "accept") (10 ∷ []) ∷ []) ≡ true
  pub upgrade : is_malformed_head Server (request ++ field (codes "upgrade") [] ∷ []) ≡ true
  pub te : is_malformed_head Server (request ++ field (codes "te") (codes "gzip") ∷ []) ≡ true
  pub trailers_are_sound : is_malformed_trailers trailers ≡ false
  pub pseudo_trailer : is_malformed_trailers response ≡ true

-- Calls of one stream, as a server reads them: two messages, a cut one, a flag, a refused head, a reset.
pub record CallsOfEvents : Type 0 where
  pub two_messages :
      calls served 12 8 3 (Head 1 request false ∷ Data 1 (0 ∷ 0 ∷ 0 ∷ []) ∷ Data 1 (0 ∷ 1 ∷ 9 ∷ 0 ∷ 0 ∷ 0 ∷ 0 ∷ 0 ∷ []) ∷ Ended 1 ∷ [])
      ≡ Begun 1 1 ∷ Request 1 (9 ∷ []) ∷ Request 1 [] ∷ Finished 1 ∷ []
  pub cut_message : calls served 12 8 3 (Head 1 request false ∷ Data 1 (0 ∷ 0 ∷ []) ∷ Ended 1 ∷ Reset 1 code.CANCEL ∷ []) ≡ Begun 1 1 ∷ Declined 1 3 ∷ []
  pub flag : calls served 12 8 3 (Head 1 request false ∷ Data 1 (1 ∷ []) ∷ Data 1 (0 ∷ []) ∷ Reset 1 code.CANCEL ∷ []) ≡ Begun 1 1 ∷ Declined 1 12 ∷ []
  pub long_message : calls served 12 8 3 (Head 1 request false ∷ Data 1 (0 ∷ 0 ∷ 64 ∷ 0 ∷ 1 ∷ []) ∷ Ended 1 ∷ []) ≡ Begun 1 1 ∷ Declined 1 8 ∷ []
  pub refused_head : calls served 12 8 3 (Head 1 response false ∷ Data 1 (0 ∷ []) ∷ Reset 1 code.CANCEL ∷ []) ≡ Declined 1 405 ∷ []
  pub reset : calls served 12 8 3 (Head 1 request true ∷ Reset 1 code.CANCEL ∷ []) ≡ Begun 1 1 ∷ Finished 1 ∷ Dropped 1 ∷ []
  pub shown_refusal : shown (calls served 12 8 3 (Head 1 request false ∷ Data 1 (1 ∷ []) ∷ [])) ≡ Begun 1 1 ∷ Dropped 1 ∷ []
  pub hidden_refusal : shown (calls served 12 8 3 (Head 1 response false ∷ [])) ≡ []

-- Answers of one stream, as a client reads them: a message and its end, an end alone, a flag, and a reset behind the end.
pub record AnswersOfEvents : Type 0 where
  pub message :
      answers (λ fields. length fields) 2 (Head 1 response false ∷ Data 1 (0 ∷ 0 ∷ 0 ∷ 0 ∷ 1 ∷ 9 ∷ []) ∷ Head 1 trailers true ∷ Reset 1 code.NO_ERROR ∷ [])
      ≡ Answered 1 (9 ∷ []) ∷ Closed 1 1 ∷ []
  pub end_alone : answers (λ fields. length fields) 2 (Head 1 trailers true ∷ []) ≡ Closed 1 1 ∷ []
  pub flag : answers (λ fields. length fields) 2 (Head 1 response false ∷ Data 1 (1 ∷ []) ∷ Data 1 (0 ∷ []) ∷ Head 1 trailers true ∷ []) ≡ Broken 1 ∷ []
  pub no_trailers : answers (λ fields. length fields) 2 (Head 1 response false ∷ Ended 1 ∷ []) ≡ Closed 1 2 ∷ []

-- a status of HTTP alone
abbrev pub status_alone : List ℕ → List Field
status_alone status = field (codes ":status") status ∷ []

-- What a client reads of a response: a head, DATA and trailers, where a reset may follow them; a status of HTTP alone, which
-- ends the stream too; and what begins no response.
pub record Responses : Type 0 where
  pub whole : IsResponse response (parts 1 (response ∷ trailers ∷ []) (head ∷ thirty_bytes ∷ last_head ∷ [])) (replicate 30 7) (Trailers trailers)
  pub then_reset : IsResponse response (parts 1 (response ∷ trailers ∷ []) (head ∷ thirty_bytes ∷ last_head ∷ cancel ∷ [])) (replicate 30 7) (Trailers trailers)
  pub unfinished : IsResponse response (parts 1 (response ∷ []) (head ∷ thirty_bytes ∷ [])) (replicate 30 7) Unclosed
  pub reset : IsResponse response (parts 1 (response ∷ []) (head ∷ thirty_bytes ∷ cancel ∷ [])) (replicate 30 7) WasReset
  pub head_alone : IsResponse response (parts 1 (trailers_only ∷ []) (last_head ∷ [])) [] (Trailers trailers_only)
  pub wrong_method : IsResponse response (parts 1 (status_alone (codes "405") ∷ []) (last_head ∷ [])) [] (Trailers (status_alone (codes "405")))
  pub wrong_type : IsResponse response (parts 1 (status_alone (codes "415") ∷ []) (last_head ∷ [])) [] (Trailers (status_alone (codes "415")))
  pub not_ended : IsResponse response (parts 1 (status_alone (codes "405") ∷ []) (head ∷ [])) [] Unclosed → ⊥
  pub other_stream : parts 3 (response ∷ []) (head ∷ thirty_bytes ∷ []) ≡ []
  pub no_head : IsResponse response (parts 1 (trailers ∷ []) (head ∷ thirty_bytes ∷ [])) (replicate 30 7) Unclosed → ⊥
  pub behind_the_end : IsResponse response (parts 1 (trailers_only ∷ []) (last_head ∷ thirty_bytes ∷ [])) [] (Trailers trailers_only) → ⊥
  pub no_message : IsResponse response (parts 1 (response ∷ trailers ∷ []) (head ∷ last_head ∷ [])) [] (Trailers trailers) → ⊥
  pub no_status : IsResponse response (parts 1 (trailers ∷ []) (last_head ∷ [])) [] (Trailers trailers) → ⊥
  pub pseudo_trailers : IsResponse response (parts 1 (response ∷ trailers_only ∷ []) (head ∷ thirty_bytes ∷ last_head ∷ []))
      (replicate 30 7) (Trailers trailers_only) → ⊥

-- What a server reads of a request: a head, DATA and an end, where a reset may follow it; and what is no request.
pub record Requests : Type 0 where
  pub whole : IsRequest request (parts 1 (request ∷ []) (head ∷ thirty_bytes ∷ last_data ∷ [])) (replicate 30 7) true
  pub then_reset : IsRequest request (parts 1 (request ∷ []) (head ∷ thirty_bytes ∷ last_data ∷ cancel ∷ [])) (replicate 30 7) true
  pub cut_off : IsRequest request (parts 1 (request ∷ []) (head ∷ thirty_bytes ∷ cancel ∷ [])) (replicate 30 7) false
  pub other_head : IsRequest request (parts 1 (response ∷ []) (head ∷ [])) [] false → ⊥
  pub trailers_behind : IsRequest request (parts 1 (request ∷ trailers ∷ []) (head ∷ last_head ∷ [])) [] true → ⊥

-- The stream that GOAWAY names: the frame that breaks a rule begins none, and a client names none.
abbrev pub padded_head : Frame
padded_head = Headers (body 12 5 (5 ∷ 131 ∷ []) (omega arith) (omega arith))

pub record LastStreams : Type 0 where
  pub server : goaway_text Server begun code.NO_ERROR ≡ 0 ∷ 0 ∷ 8 ∷ 7 ∷ 0 ∷ 0 ∷ 0 ∷ 0 ∷ 0 ∷ 0 ∷ 0 ∷ 0 ∷ 1 ∷ 0 ∷ 0 ∷ 0 ∷ 0 ∷ []
  pub before_the_break : before_stop Server (limits 100) (Ok request ∷ Ok request ∷ []) (begun ++ Received padded_head ∷ []) ≡ begun
  pub client : goaway_text Client (Received no_settings ∷ Sent head ∷ []) code.NO_ERROR ≡ 0 ∷ 0 ∷ 8 ∷ 7 ∷ 0 ∷ 0 ∷ 0 ∷ 0 ∷ 0 ∷ 0 ∷ 0 ∷ 0 ∷ 0 ∷ 0 ∷ 0 ∷ 0 ∷ 0 ∷ []

-- Frames that a server may send: its first ones, an acknowledgement, credit, a head, the reset of a second head, GOAWAY.
abbrev pub greeted : List Step
greeted = Sent first_settings ∷ Sent (update 0 (0 ∷ 15 ∷ 0 ∷ 1 ∷ []) (omega arith) (omega arith)) ∷ []

abbrev pub asked : List Step
asked = greeted ++ Received no_settings ∷ Sent (Settings (body 1 0 [] (omega arith) (omega arith))) ∷ Received head ∷ Received thirty_bytes ∷ []

abbrev pub Allowed : List Step → Frame → Type 0
Allowed past f = MaySend Server (limits 100) (Ok request ∷ Ok request ∷ []) (λ past id why. false) [] [] past f

pub record SentFrames : Type 0 where
  pub settings : Allowed [] first_settings
  pub window : Allowed (Sent first_settings ∷ []) (update 0 (0 ∷ 15 ∷ 0 ∷ 1 ∷ []) (omega arith) (omega arith))
  pub acknowledgement : Allowed (greeted ++ Received no_settings ∷ []) (Settings (body 1 0 [] (omega arith) (omega arith)))
  pub credit : Allowed asked (update 0 (0 ∷ 0 ∷ 0 ∷ 30 ∷ []) (omega arith) (omega arith))
  pub stream_credit : Allowed asked (update 1 (0 ∷ 0 ∷ 0 ∷ 30 ∷ []) (omega arith) (omega arith))
  pub response : Allowed asked head
  pub reset : Allowed (asked ++ Received head ∷ []) (RstStream (body 0 1 (0 ∷ 0 ∷ 0 ∷ 1 ∷ []) (omega arith) (omega arith)))
  pub goaway : Allowed (asked ++ Received rest_of_head ∷ []) (GoAway (body 0 0 (0 ∷ 0 ∷ 0 ∷ 1 ∷ 0 ∷ 0 ∷ 0 ∷ 1 ∷ []) (omega arith) (omega arith)))
