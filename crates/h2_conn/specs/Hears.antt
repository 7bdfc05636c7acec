-- What is heard of a peer, and what it leads to.
use Rattle.std.specs.Prelude.{◌≡◌, ℕ, ◌<◌, List, [], ◌∷◌, ◌++◌, length, ◌+◌, ◌&&◌, not, Bool, false, Some, None, if◌then◌else◌}
use Rattle.hpack_tables.specs.Writing.{Encoder}
use Rattle.h2_frames.specs.declared.frame.Frame.{Frame}
use Rattle.h2_frames.specs.declared.code.ErrorCode.{ErrorCode}
use Rattle.h2_frames.specs.declared.frame.Frame.TheVariants.{RstStream}
use Rattle.h2_frames.specs.declared.frame.FrameBody.{FrameBody}
use Rattle.h2_frames.specs.Reader.{Reader}
use Rattle.h2_frames.specs.Stream.{Frames}
use Rattle.h2_exchange.specs.declared.fault.StreamFault.{StreamFault}
use Rattle.h2_exchange.specs.declared.fault.StreamFault.TheVariants.{Stream as OnStream, Connection}
use Rattle.h2_exchange.specs.declared.role.Role.{Role}
use Rattle.h2_exchange.specs.declared.role.Role.TheVariants.{Client, Server}
use Rattle.h2_exchange.specs.Blocks.{data_of}
use Rattle.h2_exchange.specs.Events.{Event}
use Rattle.h2_exchange.specs.Events as event
use Rattle.h2_exchange.specs.Exchange.{Received, Sent, received}
use Rattle.h2_exchange.specs.Frames.{stream_of, is_data, is_headers, is_rst_stream, is_continuation, is_goaway, last_stream_of, goaway_code_of}
use Rattle.h2_exchange.specs.Rules.{frame_error}
use Rattle.h2_exchange.specs.Streams.{has_head, is_live}
use Rattle.h2_exchange.specs.StreamErrors.{stream_error_of}
use Rattle.h2_streams.specs.declared.set.receive.SeenStream.{SeenStream}
use Rattle.h2_streams.specs.Set.{Set}
use Rattle.h2_streams.specs.Stands as streams
use Rattle.h2_exchange.specs.Order.{peer_preface}
use Rattle.h2_exchange.specs.Sending.{ResetsErrors, last_begun}
use Rattle.h2_exchange.specs.Stops.{Stop, Error, Calm}
use Rattle.http_connection.specs.declared.event.H2Event.{H2Event}
use Rattle.http_connection.specs.declared.event.H2Event.TheVariants as says
use Rattle.http_connection.specs.Answers.{GivesEvents, HasWork}
use Rattle.http_connection.specs.ConnectionTrace.{ConnectionTrace}
use Rattle.h2_conn.specs.declared.conn.H2Conn.{H2Conn}
use Rattle.h2_conn.specs.declared.conn.Why.{Why}
use Rattle.h2_conn.specs.declared.conn.Why.TheVariants as was
use Rattle.h2_conn.specs.declared.heard.End.{End}
use Rattle.h2_conn.specs.declared.heard.End.TheVariants as by
use Rattle.h2_conn.specs.declared.heard.Heard.{Heard}
use Rattle.h2_conn.specs.declared.heard.Heard.TheVariants as hear
use Rattle.h2_conn.specs.declared.heard.Took.{Took}
use Rattle.h2_conn.specs.declared.heard.Took.TheVariants as take
use Rattle.h2_conn.specs.State.{State}
use Rattle.h2_conn.specs.Standing.{Kept, Stands}
use Rattle.h2_conn.specs.Steps.{Halted, Waiting}

abbrev pub event_of_refusal : Why → H2Event
event_of_refusal (was.Broken why place) = says.Refused why place
event_of_refusal (was.Calm cause) = says.Calm cause
event_of_refusal was.NoMemory = says.NoMemory

abbrev pub with_last : End → Why
with_last (by.Broken why place) = was.Broken why place
with_last (by.Calm cause) = was.Calm cause

abbrev pub stop_by : End → Stop
stop_by (by.Broken why place) = Error why place
stop_by (by.Calm cause) = Calm cause

abbrev pub last_by : Role → ℕ → ℕ
last_by Client greatest = 0
last_by Server greatest = greatest

abbrev pub last_in : State → ℕ
last_in s = last_by s.role s.set.highest

-- ---- what one frame leads to

-- the course behind it
pub record Taken (s : State) (c : ConnectionTrace) (es : List Event) : Type 0 where
  pub next : ConnectionTrace
  pub stands : Stands s next
  pub goes : GivesEvents c es next

-- the same, where no end is still to be told
pub record Quiet (s : State) (c : ConnectionTrace) : Type 0 where
  pub taken : Taken s c []
  pub none_ended : s.ended ≡ None

-- it ends the connection
pub record Ending (s : State) (c : ConnectionTrace) (end : End) (last : ℕ) : Type 0 where
  pub at : ConnectionTrace
  pub goes : GivesEvents c [] at
  pub halted : Halted s last (stop_by end) at

-- no memory is left for it
pub record Starved (s : State) (c : ConnectionTrace) : Type 0 where
  pub alive : c.refusal ≡ None
  pub role_is : c.role ≡ s.role
  pub limits_are : c.limits ≡ s.limits
  pub holding_is : c.is_holding ≡ s.is_holding
  pub enc : Encoder
  pub kept : Kept c s.output enc
  pub resets : ResetsErrors c.role c.limits c.heads c.frames
  pub work : HasWork c

abbrev pub TookSo : ConnectionTrace → Frame → Took → State → Type 0
TookSo c f take.Quiet s = Quiet s c
TookSo c f (take.Data id) s = Taken s c (event.Data id (data_of f) ∷ [])
TookSo c f (take.Head id fields last) s = Taken s c (event.Head id fields last ∷ [])
TookSo c f (take.Ended id) s = Taken s c (event.Ended id ∷ [])
TookSo c f (take.Reset id why) s = Taken s c (event.Reset id why ∷ [])
TookSo c f (take.GoneAway id why) s = Taken s c (event.GoneAway id why ∷ [])
TookSo c f (take.Stopped end last) s = Ending s c end last
TookSo c f take.NoMemory s = Starved s c

-- ---- what is read next

-- it has not refused, no end is still to be told, and no limit of resets is passed
pub record IsOpen (h : H2Conn) (c : ConnectionTrace) : Type 0 where
  pub alive : h.refusal ≡ None
  pub none : h.ended ≡ None
  pub unpassed : h.watch.is_passed ≡ false

-- less than a whole frame is there
pub record Idle (s : State) (c : ConnectionTrace) : Type 0 where
  pub stands : Stands s c
  pub rest : List ℕ
  pub whole : Frames (peer_preface c.role) c.fed (received c.frames) rest
  pub unpassed : s.watch.is_passed ≡ false

abbrev pub HeardSo : ConnectionTrace → Heard → State → Type 0
HeardSo c hear.Quiet s = Quiet s c
HeardSo c hear.NeedMore s = Idle s c
HeardSo c (hear.Piece id bytes) s = Taken s c (event.Data id bytes ∷ [])
HeardSo c (hear.Head id fields last) s = Taken s c (event.Head id fields last ∷ [])
HeardSo c (hear.Ended id) s = Taken s c (event.Ended id ∷ [])
HeardSo c (hear.Reset id why) s = Taken s c (event.Reset id why ∷ [])
HeardSo c (hear.GoneAway id why) s = Taken s c (event.GoneAway id why ∷ [])
HeardSo c (hear.Stopped end last) s = Ending s c end last
HeardSo c hear.NoMemory s = Starved s c

-- what a frame gives is what is heard
abbrev pub Ends : Took → Frame → Heard → Type 0
Ends take.Quiet f heard = heard ≡ hear.Quiet
Ends (take.Data id) f heard = heard ≡ hear.Piece id (data_of f)
Ends (take.Head id fields last) f heard = heard ≡ hear.Head id fields last
Ends (take.Ended id) f heard = heard ≡ hear.Ended id
Ends (take.Reset id why) f heard = heard ≡ hear.Reset id why
Ends (take.GoneAway id why) f heard = heard ≡ hear.GoneAway id why
Ends (take.Stopped end last) f heard = heard ≡ hear.Stopped end last
Ends take.NoMemory f heard = heard ≡ hear.NoMemory

-- how many bytes of data are heard
abbrev pub size_heard : Heard → ℕ
size_heard (hear.Piece id bytes) = length bytes
size_heard other = 0

-- a frame was taken off what is held
abbrev pub IsShorter : Heard → Reader → Reader → Type 0
IsShorter hear.NeedMore old new = Unit {0}
IsShorter (hear.Stopped end last) old new = Unit {0}
IsShorter hear.NoMemory old new = Unit {0}
IsShorter other old new = length new.held + 1 < length old.held

-- ---- one frame, behind what the streams said of it

-- what was seen of its stream, and the peer's last stream before it
pub record SeenSo (c : ConnectionTrace) (f : Frame) (seen : SeenStream) (last : ℕ) : Type 0 where
  pub was_live : seen.was_live ≡ is_live c.role c.frames (stream_of f)
  pub had_head : seen.had_head ≡ (is_live c.role c.frames (stream_of f) && has_head (received c.frames) (stream_of f))
  pub last_is : last_begun c.role c.frames ≡ last

-- it breaks no rule, header blocks apart, and is no stream error
pub record Sound (s : State) (c : ConnectionTrace) (f : Frame) (seen : SeenStream) (last : ℕ) : Type 0 where
  pub before : Set
  pub waits : Waiting (record s { set = before }) c f
  pub set_is : streams.StandsFor s.set (c.frames ++ Received f ∷ [])
  pub set_role : s.set.role ≡ c.role
  pub set_limits : s.set.limits ≡ c.limits
  pub sound : frame_error c.role c.frames f ≡ None
  pub faultless : stream_error_of c.role c.limits c.frames f false ≡ None
  pub seen_so : SeenSo c f seen last
  pub is_live : seen.is_live ≡ is_live c.role (c.frames ++ Received f ∷ []) (stream_of f)

-- it is a stream error
pub record Faulty (s : State) (c : ConnectionTrace) (f : Frame) (why : ErrorCode) (seen : SeenStream) (last : ℕ) : Type 0 where
  pub before : Set
  pub waits : Waiting (record s { set = before }) c f
  pub set_is : (b : FrameBody) → b.stream ≡ stream_of f → streams.StandsFor s.set (c.frames ++ Received f ∷ Sent (RstStream b) ∷ [])
  pub set_role : s.set.role ≡ c.role
  pub set_limits : s.set.limits ≡ c.limits
  pub sound : frame_error c.role c.frames f ≡ None
  pub fault : stream_error_of c.role c.limits c.frames f false ≡ Some why
  pub seen_so : SeenSo c f seen last

-- it breaks a rule of its stream, or of the connection
abbrev pub FailsSo : State → ConnectionTrace → Frame → StreamFault → SeenStream → ℕ → Type 0
FailsSo s c f (OnStream id why) seen last = Faulty s c f why seen last
FailsSo s c f (Connection why) seen last = Ending s c (by.Broken why s.place) last

-- a frame of the connection, and of PRIORITY and WINDOW_UPDATE
abbrev pub is_plain : Frame → Bool
is_plain f = not (is_data f) && not (is_headers f) && not (is_rst_stream f) && not (is_continuation f)

-- what a frame of control tells
abbrev pub SaysSo : Frame → Took → Type 0
SaysSo f took = took ≡ (if is_goaway f then take.GoneAway (last_stream_of f) (goaway_code_of f) else take.Quiet)
