-- What a side sends at all: each sent frame is one of these (RFC 9113; gRPC over HTTP/2).
use Rattle.std.specs.Prelude.{◌≡◌, ℕ, ◌+◌, ◌<◌, ◌≤◌, ◌&&◌, ◌||◌, Bool, true, false, option_map, List, [], ◌∷◌, ◌++◌, Some, None, ◌⊎◌}
use Rattle.std.specs.List.{list_any}
use Rattle.h2_frames.specs.declared.code.ErrorCode.{ErrorCode}
use Rattle.h2_frames.specs.declared.code.TheConstants.ErrorCode as code
use Rattle.h2_frames.specs.declared.frame.Frame.{Frame}
use Rattle.h2_frames.specs.Layout.{text_of, frame_text}
use Rattle.h2_exchange.specs.declared.limits.CalmCause.{CalmCause}
use Rattle.h2_exchange.specs.declared.limits.H2Limits.{H2Limits}
use Rattle.h2_exchange.specs.declared.role.Role.{Role}
use Rattle.h2_exchange.specs.Blocks.{open_block}
use Rattle.h2_exchange.specs.Content.{Outcome, stream_error}
use Rattle.h2_exchange.specs.Exchange.{Step, Received, Sent, received, sent, sent_text}
use Rattle.h2_exchange.specs.Frames.{stream_of, is_data, is_headers, is_settings, is_ping, is_goaway, is_continuation, has_ack}
use Rattle.h2_exchange.specs.Rules.{breaks_block_on}
use Rattle.h2_exchange.specs.Sending.{IsPrefix, AreAcknowledged, first_text, own_settings, update_text, reset_text, goaway_text}
use Rattle.h2_exchange.specs.Stops.{before_stop, stop_of, IsBroken, IsCalm}
use Rattle.h2_exchange.specs.Streams.{begins, is_live, is_open}
use Rattle.h2_exchange.specs.Windows.{granted_on, spent_on, spent}

-- the code with which a connection ends: that of the first connection error, or of a limit that was passed
abbrev pub EndsWith : Role → H2Limits → List Outcome → List ℕ → List Step → List ℕ → ErrorCode → Type 0
EndsWith role limits heads bytes x rest why =
    ((place : ℕ) × IsBroken role limits heads bytes x rest why place)
    ⊎ ((cause : CalmCause) × IsCalm role limits heads x cause × (why ≡ code.ENHANCE_YOUR_CALM))

-- the RST_STREAM of a stream error, right behind its frame
abbrev pub IsErrorReset : Role → H2Limits → List Outcome → List Step → Frame → Type 0
IsErrorReset role limits heads past f =
    (before : List Step) × (g : Frame) × (why : ErrorCode) × (past ≡ before ++ Received g ∷ []) × (stop_of role limits heads past ≡ None)
    × (stream_error role limits heads before g ≡ Some why) × (frame_text f ≡ reset_text (stream_of g) why)

-- A frame that may be sent behind these ones, where these resets are asked for, and these bytes were received, with this
-- rest that is no whole frame.
pub data MaySend (role : Role) (limits : H2Limits) (heads : List Outcome) (is_asked : List Step → ℕ → ErrorCode → Bool)
    (bytes rest : List ℕ) (past : List Step) (f : Frame) : Type 0 where
  -- the settings that a side begins with
  opens : sent past ≡ [] → frame_text f ≡ text_of 4 0 0 (own_settings role limits) → MaySend role limits heads is_asked bytes rest past f
  -- an acknowledgement in its turn
  acknowledges : ((is_settings f || is_ping f) && has_ack f) ≡ true → AreAcknowledged (past ++ Sent f ∷ []) →
      MaySend role limits heads is_asked bytes rest past f
  -- credit for all streams together, up to the whole window
  credits : (n : ℕ) → frame_text f ≡ update_text 0 n → 0 < n → 65535 + granted_on 0 (sent past) + n ≤ limits.window + spent (received past) →
      MaySend role limits heads is_asked bytes rest past f
  -- credit for a live stream, up to the whole window
  credits_stream : (id n : ℕ) → frame_text f ≡ update_text id n → 0 < n → is_live role past id ≡ true →
      granted_on id (sent past) + n ≤ spent_on id (received past) → MaySend role limits heads is_asked bytes rest past f
  -- the reset of a stream error
  resets_error : IsErrorReset role limits heads past f → MaySend role limits heads is_asked bytes rest past f
  -- a reset that is asked for, of a live stream
  resets : (id : ℕ) (why : ErrorCode) → is_live role past id ≡ true → is_asked past id why ≡ true → frame_text f ≡ reset_text id why →
      MaySend role limits heads is_asked bytes rest past f
  -- HEADERS of a new stream
  begins_stream : begins role (stream_of f) past (Sent f) ≡ true → MaySend role limits heads is_asked bytes rest past f
  -- a head, data or trailers on a stream that is open for sending
  carries : (is_data f || is_headers f || is_continuation f) ≡ true → is_open role past (stream_of f) ≡ true →
      MaySend role limits heads is_asked bytes rest past f
  -- GOAWAY, where the connection ends
  goes_away : (why : ErrorCode) → EndsWith role limits heads bytes past rest why → frame_text f ≡ goaway_text role (before_stop role limits heads past) why →
      MaySend role limits heads is_asked bytes rest past f

-- a sent frame stands in no header block of another one, and behind no GOAWAY
pub record HasPlace (past : List Step) (f : Frame) : Type 0 where
  pub block : breaks_block_on (option_map (λ b. b.stream) (open_block (sent past))) f ≡ false
  pub alive : list_any is_goaway (sent past) ≡ false

-- Each sent frame may be sent, and stands where it may.
abbrev pub SendsOnly : Role → H2Limits → List Outcome → (List Step → ℕ → ErrorCode → Bool) → List ℕ → List ℕ → List Step → Type 0
SendsOnly role limits heads is_asked bytes rest x =
    (past behind : List Step) (f : Frame) → x ≡ past ++ Sent f ∷ behind → MaySend role limits heads is_asked bytes rest past f × HasPlace past f

-- A side sends its first frames first.
abbrev pub BeginsFirst : Role → H2Limits → List Step → Type 0
BeginsFirst role limits x = IsPrefix (first_text role limits) (sent_text x)
