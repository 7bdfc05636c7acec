-- What the state becomes where DATA or RST_STREAM is received, and what was seen of a frame's stream.
use Rattle.std.specs.Prelude.{ℕ, ◌+◌, Bool, true, false, ◌++◌, Option, Some}
use Rattle.h2_frames.specs.declared.code.ErrorCode.{ErrorCode}
use Rattle.h2_frames.specs.declared.frame.Frame.{Frame}
use Rattle.h2_frames.specs.Layout.{size_of}
use Rattle.h2_frames.specs.Stream.{place_at}
use Rattle.h2_exchange.specs.declared.role.Role.{Role}
use Rattle.h2_exchange.specs.declared.role.Role.TheVariants.{Client, Server}
use Rattle.h2_exchange.specs.Blocks.{data_of}
use Rattle.h2_exchange.specs.Frames.{stream_of, has_end_stream}
use Rattle.h2_exchange.specs.Sending.{reset_text}
use Rattle.h2_conn.specs.Credit.{with_credit}
use Rattle.h2_conn.specs.State.{State}
use Rattle.h2_conn.specs.Watching.{Watch, cut_on, ended_if, over_on, taken_on}

-- the frame behind this one is read next
abbrev pub passed : Frame → State → State
passed f s = record s { place = place_at (s.place + size_of f) }

-- a server's DATA on a live stream are those of a request
abbrev pub heard_on : Role → Bool → Frame → Watch → Watch
heard_on Client live f w = w
heard_on Server false f w = w
heard_on Server true f w = ended_if (has_end_stream f) (taken_on (stream_of f) (data_of f) w)

abbrev pub with_heard : Bool → Frame → State → State
with_heard live f s = record s { watch = heard_on s.role live f s.watch }

abbrev pub over_unless : Bool → ℕ → Watch → Watch
over_unless true id w = w
over_unless false id w = over_on id w

abbrev pub ended_by : Bool → ℕ → Option ℕ → Option ℕ
ended_by true id other = Some id
ended_by false id other = other

-- DATA are told, and their stream is live behind them or not
abbrev pub with_told : Bool → Frame → State → State
with_told live f s = record s { ended = ended_by (has_end_stream f) (stream_of f) s.ended; watch = over_unless live (stream_of f) s.watch }

-- DATA are taken and credited
abbrev pub with_data_of : Bool → Frame → State → State
with_data_of live f s = with_credit (stream_of f) (passed f (with_heard live f s))

-- the peer resets the frame's stream
abbrev pub with_cut : Frame → State → State
with_cut f s = record s { watch = cut_on (stream_of f) s.watch }

-- a stream that the streams have dropped is reset
abbrev pub with_reset_of : ℕ → ErrorCode → State → State
with_reset_of id why s = record s { output = s.output ++ reset_text id why; watch = cut_on id s.watch }
