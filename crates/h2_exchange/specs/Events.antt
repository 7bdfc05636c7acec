-- What received frames give to the layer above, each at the frame that completes it.
use Rattle.std.specs.Prelude.{ℕ, ◌==◌, Bool, true, List, [], ◌∷◌, Option, Some, None, Ok, if◌then◌else◌}
use Rattle.std.specs.List.{flat_map}
use Rattle.h2_frames.specs.declared.code.ErrorCode.{ErrorCode}
use Rattle.h2_frames.specs.declared.frame.Frame.{Frame}
use Rattle.hpack_tables.specs.declared.field.Field.{Field}
use Rattle.h2_exchange.specs.declared.limits.H2Limits.{H2Limits}
use Rattle.h2_exchange.specs.declared.role.Role.{Role}
use Rattle.h2_exchange.specs.declared.role.Role.TheVariants.{Client, Server}
use Rattle.h2_exchange.specs.Blocks.{Block, data_of, completed}
use Rattle.h2_exchange.specs.Content.{Outcome, outcome_for, stream_error}
use Rattle.h2_exchange.specs.Exchange.{Step, Received, Sent, received, collect}
use Rattle.h2_exchange.specs.Frames.{stream_of, is_data, is_rst_stream, is_goaway, has_end_stream, code_of, last_stream_of, goaway_code_of}
use Rattle.h2_exchange.specs.Streams.{is_live, is_live_at, has_head}

pub data Event : Type 0 where
  Head : (stream : ℕ) (fields : List Field) (last : Bool) → Event
  Data : (stream : ℕ) (bytes : List ℕ) → Event
  Ended : (stream : ℕ) → Event
  Reset : (stream : ℕ) (why : ErrorCode) → Event
  GoneAway : (stream : ℕ) (why : ErrorCode) → Event

abbrev pub data_events : Frame → List Event
data_events f = Data (stream_of f) (data_of f) ∷ (if has_end_stream f then Ended (stream_of f) ∷ [] else [])

-- a server drops the fields of trailers, and a client is given them as a head that is the last one
abbrev pub trailers_events : Role → ℕ → List Field → List Event
trailers_events Server id fields = Ended id ∷ []
trailers_events Client id fields = Head id fields true ∷ []

abbrev pub read_events : Role → List Step → Block → Option Outcome → List Event
read_events role past b (Some (Ok fields)) =
    if has_head (received past) b.stream then trailers_events role b.stream fields else Head b.stream fields b.last ∷ []
read_events role past b other = []

-- what a completed header block gives on a live stream
abbrev pub block_events : Role → List Outcome → List Step → Frame → Option Block → List Event
block_events role heads past f None = []
block_events role heads past f (Some b) =
    if is_live_at role past f b.stream then read_events role past b (outcome_for heads (received past) (Some b)) else []

-- the events of a frame that breaks no rule
abbrev pub sound_events : Role → List Outcome → List Step → Frame → List Event
sound_events role heads past f =
    if is_data f then (if is_live role past (stream_of f) then data_events f else [])
    else if is_rst_stream f then (if is_live role past (stream_of f) then Reset (stream_of f) (code_of f) ∷ [] else [])
    else if is_goaway f then GoneAway (last_stream_of f) (goaway_code_of f) ∷ []
    else block_events role heads past f (completed (received past) f)

-- a stream error stands in place of the other events of its frame
abbrev pub events_by : List Event → ℕ → Option ErrorCode → List Event
events_by sound id None = sound
events_by sound id (Some why) = Reset id why ∷ []

abbrev pub events_of : Role → H2Limits → List Outcome → List Step → Step → List Event
events_of role limits heads past (Sent f) = []
events_of role limits heads past (Received f) = events_by (sound_events role heads past f) (stream_of f) (stream_error role limits heads past f)

-- the events of all frames, where nothing stops them
abbrev pub all_events : Role → H2Limits → List Outcome → List Step → List Event
all_events role limits heads x = collect (events_of role limits heads) [] x

abbrev pub bytes_of : ℕ → Event → List ℕ
bytes_of id (Data stream bytes) = if stream == id then bytes else []
bytes_of id other = []

-- the bytes that these events give on a stream
abbrev pub bytes_on : ℕ → List Event → List ℕ
bytes_on id es = flat_map (bytes_of id) es
