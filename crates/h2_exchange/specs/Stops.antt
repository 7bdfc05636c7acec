-- What stops an exchange: a connection error with its code and place, or a counted limit that the peer passed.
use Rattle.std.specs.Prelude.{◌≡◌, ℕ, ◌+◌, ◌==◌, ◌&&◌, ◌||◌, Bool, false, not, nat_lt, List, [], ◌∷◌, ◌++◌, length, sum_by, option_map, is_some, Option, Some, None, Ok, Err, ◌⊎◌, if◌then◌else◌}
use Rattle.std.specs.List.{flat_map}
use Rattle.std.specs.Option.{option_or}
use Rattle.grpc_framing.specs.Framing.{messages_of}
use Rattle.h2_frames.specs.declared.code.ErrorCode.{ErrorCode}
use Rattle.h2_frames.specs.declared.code.TheConstants.ErrorCode as code
use Rattle.h2_frames.specs.declared.frame.Frame.{Frame}
use Rattle.h2_frames.specs.Stream.{place_after}
use Rattle.hpack_tables.specs.declared.fault.HpackFault.TheVariants.{ListTooLong}
use Rattle.hpack_tables.specs.EntrySizes.{size_of}
use Rattle.h2_exchange.specs.declared.limits.CalmCause.{CalmCause}
use Rattle.h2_exchange.specs.declared.limits.CalmCause.TheVariants.{HeaderBytes, HeaderFrames, HeaderList, Resets}
use Rattle.h2_exchange.specs.declared.limits.H2Limits.{H2Limits}
use Rattle.h2_exchange.specs.declared.role.Role.{Role}
use Rattle.h2_exchange.specs.declared.role.Role.TheVariants.{Client, Server}
use Rattle.h2_exchange.specs.Blocks.{Block, block_with, open_block, completed, data_of}
use Rattle.h2_exchange.specs.Content.{Outcome, outcome_at, stream_error}
use Rattle.h2_exchange.specs.Events.{Event, all_events, bytes_on}
use Rattle.h2_exchange.specs.Exchange.{Step, Received, Sent, received, sent, collect, front_before, first_given, first_broken}
use Rattle.h2_exchange.specs.Frames.{stream_of, is_data, is_rst_stream, has_end_stream}
use Rattle.h2_exchange.specs.Order.{RestBreaks, peer_preface}
use Rattle.h2_exchange.specs.Rules.{frame_error}
use Rattle.h2_exchange.specs.Streams.{is_begun, is_live, is_live_at}

pub data Stop : Type 0 where
  Error : (why : ErrorCode) (place : ℕ) → Stop
  Calm : (cause : CalmCause) → Stop

-- ---- header blocks

-- A block has at most 65,536 bytes and 64 frames, its HEADERS among them.
abbrev pub block_stop : Option Block → Option Stop
block_stop None = None
block_stop (Some b) = first_broken ((nat_lt 65536 (length b.text), Calm HeaderBytes) ∷ (nat_lt 64 b.frames, Calm HeaderFrames) ∷ [])

-- A list that is too long, or another fault of the block (RFC 9113, section 4.3). A list past 65,536 bytes is refused at the
-- field that passes; one past a smaller limit of this side only as a whole, so that a fault behind that field comes first.
abbrev pub content_stop : H2Limits → ℕ → Option Outcome → Option Stop
content_stop limits place None = None
content_stop limits place (Some (Ok fields)) = if nat_lt limits.list (sum_by size_of fields) then Some (Calm HeaderList) else None
content_stop limits place (Some (Err ListTooLong)) = Some (Calm HeaderList)
content_stop limits place (Some (Err fault)) = Some (Error code.COMPRESSION_ERROR place)

-- the offset of the first byte of the frame that is received next
abbrev pub place_behind : Role → List Step → ℕ
place_behind role past = place_after (peer_preface role) (received past)

-- The first rule that a received frame breaks, stream errors apart: those of the frame, then the counted limits of its
-- header block, then the block's content, which is judged at the frame that completes it.
abbrev pub frame_stop : Role → H2Limits → List Outcome → List Step → Frame → Option Stop
frame_stop role limits heads past f =
    option_or (option_map (λ why. Error why (place_behind role past)) (frame_error role past f))
    (option_or (block_stop (block_with (open_block (received past)) f)) (content_stop limits (place_behind role past) (outcome_at heads past f)))

-- ---- resets

-- a frame of one side that ends its side of a stream
abbrev pub is_end : List Frame → Frame → Bool
is_end past f = is_data f && has_end_stream f || ends_block (completed past f)
  where
    ends_block : Option Block → Bool
    ends_block None = false
    ends_block (Some b) = b.last

abbrev pub count_steps : (List Step → Step → Bool) → List Step → ℕ
count_steps test x = length (collect (λ past s. if test past s then s ∷ [] else []) [] x)

module _ (limits : H2Limits) (heads : List Outcome) where
  -- the bytes of requests on a stream, which the client sends
  abbrev pub request_bytes : Role → List Step → ℕ → List ℕ
  request_bytes Server past id = bytes_on id (all_events Server limits heads past)
  request_bytes Client past id = flat_map (λ f. if is_data f && stream_of f == id then data_of f else []) (sent past)

  -- The client ends a call, with a frame that is no stream error. At a server the stream is live then: an end on a stream
  -- that is over ends no call.
  abbrev pub ends_call : Role → List Step → Step → Bool
  ends_call Server past (Received f) =
      is_end (received past) f && is_live_at Server past f (stream_of f) && not (is_some (stream_error Server limits heads past f))
  ends_call Client past (Sent f) = is_end (sent past) f
  ends_call other past s = false

module _ (role : Role) (limits : H2Limits) (heads : List Outcome) where
  abbrev pub has_request : List Step → ℕ → Bool
  has_request past id = nat_lt 0 (length (messages_of 4194304 (request_bytes limits heads role past id)).messages)

  -- RST_STREAM, received on a live stream or sent on one that was begun, before a whole request message stood on it
  abbrev pub cuts_request : List Step → Step → Bool
  cuts_request past (Received f) = is_rst_stream f && is_live role past (stream_of f) && not (has_request past (stream_of f))
  cuts_request past (Sent f) = is_rst_stream f && is_begun role past (stream_of f) && not (has_request past (stream_of f))

  -- more requests were cut off than so many and the calls that the client ended
  abbrev pub has_resets_past : ℕ → List Step → Bool
  has_resets_past allowed x = nat_lt (allowed + count_steps (ends_call limits heads role) x) (count_steps cuts_request x)

  -- the limit is 1,000
  abbrev pub has_many_resets : List Step → Bool
  has_many_resets x = has_resets_past 1000 x

  -- ---- the whole exchange

  abbrev pub received_stop : List Step → Step → Option Stop
  received_stop past (Received f) = frame_stop role limits heads past f
  received_stop past (Sent f) = None

  -- what a frame stops, received or sent
  abbrev pub stop_at : List Step → Step → Option Stop
  stop_at past s = option_or (received_stop past s) (if has_many_resets (past ++ s ∷ []) then Some (Calm Resets) else None)

  -- the frames before the one that stops the exchange
  abbrev pub before_stop : List Step → List Step
  before_stop x = front_before stop_at [] x

  -- what stops the exchange
  abbrev pub stop_of : List Step → Option Stop
  stop_of x = first_given stop_at [] x

  -- the events of an exchange, which end before what stops it
  abbrev pub events : List Step → List Event
  events x = all_events role limits heads (before_stop x)

  -- The first connection error of an exchange, with its code and place: that of a frame, or else that of the rest.
  abbrev pub IsBroken : List ℕ → List Step → List ℕ → ErrorCode → ℕ → Type 0
  IsBroken bytes x rest why place =
      (stop_of x ≡ Some (Error why place)) ⊎ ((stop_of x ≡ None) × RestBreaks (peer_preface role) bytes (received x) rest why place)

  -- a counted limit is passed
  abbrev pub IsCalm : List Step → CalmCause → Type 0
  IsCalm x cause = stop_of x ≡ Some (Calm cause)
