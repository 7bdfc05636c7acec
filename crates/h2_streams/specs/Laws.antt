-- Sent frames that change no stream and no window, and malformed header blocks.
use Rattle.std.specs.Prelude.{◌≡◌, true, false, ◌||◌, ◌⊎◌, List, [], ◌∷◌, ◌++◌, Option, Some, None, ◌==◌, if◌then◌else◌}
use Rattle.h2_frames.specs.declared.code.ErrorCode.{ErrorCode}
use Rattle.h2_frames.specs.declared.code.TheConstants.ErrorCode as code
use Rattle.h2_frames.specs.declared.frame.Frame.{Frame}
use Rattle.h2_frames.specs.declared.frame.Frame.TheVariants.{Settings, Ping, GoAway}
use Rattle.h2_frames.specs.declared.frame.FrameBody.{FrameBody}
use Rattle.h2_exchange.specs.declared.limits.H2Limits.{H2Limits}
use Rattle.h2_exchange.specs.declared.role.Role.{Role}
use Rattle.h2_exchange.specs.declared.role.Role.TheVariants.{Server}
use Rattle.h2_exchange.specs.Blocks.{Block, completed}
use Rattle.h2_exchange.specs.Exchange.{Step, Sent, received, sent}
use Rattle.h2_exchange.specs.Frames.{stream_of, is_headers, is_continuation}
use Rattle.h2_exchange.specs.StreamErrors.{stream_error_of}
use Rattle.h2_exchange.specs.Streams.{is_begun, is_live_at}
use Rattle.h2_streams.specs.Set.{Set}
use Rattle.h2_streams.specs.Stands.{StandsFor}

-- SETTINGS, PING and GOAWAY speak of the connection alone
abbrev pub ControlFramesChangeNothing : Type 0
ControlFramesChangeNothing =
    (s : Set) (x : List Step) (b : FrameBody) (f : Frame) → (f ≡ Settings b) ⊎ ((f ≡ Ping b) ⊎ (f ≡ GoAway b)) → StandsFor s x → StandsFor s (x ++ Sent f ∷ [])

-- HEADERS that begin no stream: a server's, and those on a stream that was begun
abbrev pub BeginsNothing : Role → List Step → Frame → Type 0
BeginsNothing role x f = is_headers f ≡ true → (role ≡ Server) ⊎ (is_begun role x (stream_of f) ≡ true)

-- a frame of a header block, which begins no stream and ends none: CONTINUATION, and such HEADERS
abbrev pub HeaderFramesChangeNothing : Type 0
HeaderFramesChangeNothing =
    (s : Set) (x : List Step) (f : Frame) → (is_headers f || is_continuation f) ≡ true → BeginsNothing s.role x f →
    ((b : Block) → completed (sent x) f ≡ Some b → b.last ≡ false) → StandsFor s x →
    StandsFor s (x ++ Sent f ∷ [])

-- the code of a malformed header block, which is no longer refused for want of room, where it has this error otherwise
abbrev pub with_malformed : Option ErrorCode → ErrorCode
with_malformed None = code.PROTOCOL_ERROR
with_malformed (Some why) = if why.0 == code.REFUSED_STREAM.0 then code.PROTOCOL_ERROR else why

-- What a set answers of a header block on a live stream says what its error is where its fields are malformed.
abbrev pub MalformedBlocks : Type 0
MalformedBlocks =
    (role : Role) (limits : H2Limits) (x : List Step) (f : Frame) (b : Block) → completed (received x) f ≡ Some b → is_live_at role x f b.stream ≡ true →
    stream_error_of role limits x f true ≡ Some (with_malformed (stream_error_of role limits x f false))
