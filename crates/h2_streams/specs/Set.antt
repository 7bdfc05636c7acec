-- What contracts see of a `StreamSet`.
use Rattle.std.specs.Prelude.{ℕ, ◌+◌, ◌-◌, ◌==◌, Bool, true, false, not, min, find, List, [], ◌∷◌, ◌++◌, Option, Some, None, if◌then◌else◌}
use Rattle.h2_exchange.specs.declared.limits.H2Limits.{H2Limits}
use Rattle.h2_exchange.specs.declared.role.Role.{Role}
use Rattle.h2_streams.specs.declared.live.Stream.{Stream}
use Rattle.h2_streams.specs.Live.{is_stream, replaced, without}

pub record Set : Type 0 where
  pub role : Role
  pub limits : H2Limits
  -- the streams that are live, by rising ids
  pub live : List Stream
  -- the greatest id that was begun
  pub highest : ℕ
  -- whether a frame was received
  pub is_started : Bool
  -- the stream of the header block that is being received, and whether it ends its side
  pub block : Option (ℕ × Bool)
  -- the peer's INITIAL_WINDOW_SIZE
  pub initial : ℕ
  -- how many bytes may be sent, and received, on all streams together
  pub send : ℕ
  pub receive : ℕ

abbrev pub at : ℕ → Set → Option Stream
at id s = find (is_stream id) s.live

-- before anything was received or sent
abbrev pub fresh : Role → H2Limits → Set
fresh role limits = record {
  role = role;
  limits = limits;
  live = [];
  highest = 0;
  is_started = false;
  block = None;
  initial = 65535;
  send = 65535;
  receive = 65535;
}

-- a stream as its HEADERS leave it; those of a client are its head
abbrev pub new_stream : H2Limits → ℕ → Stream
new_stream limits id = record { id = id; is_closed_local = false; is_closed_remote = false; has_head = false; room = 2147483648; receive = limits.window }

abbrev pub begun : ℕ → Set → Set
begun id s = record s { live = s.live ++ new_stream s.limits id ∷ []; highest = id }

abbrev pub next_id : ℕ → ℕ
next_id highest = if highest == 0 then 1 else highest + 2

abbrev pub dropped : ℕ → Set → Set
dropped id s = record s { live = without id s.live }

-- this side of a live stream ends
abbrev pub closed_local : ℕ → Set → Option Stream → Set
closed_local id s None = s
closed_local id s (Some stream) =
    if stream.is_closed_remote then dropped id s
    else record s { live = replaced id (record stream { is_closed_local = true }) s.live }

abbrev pub finished : ℕ → Set → Set
finished id s = closed_local id s (at id s)

abbrev pub is_open_in : Option Stream → Bool
is_open_in None = false
is_open_in (Some stream) = not stream.is_closed_local

-- how many bytes may be sent on an open stream
abbrev pub room_of : Set → Option Stream → ℕ
room_of s None = 0
room_of s (Some stream) = if stream.is_closed_local then 0 else min (s.initial + stream.room - 2147483648) s.send

-- so many bytes of DATA were sent
abbrev pub spent_at : ℕ → ℕ → Set → Option Stream → Set
spent_at id n s None = s
spent_at id n s (Some stream) = record s { live = replaced id (record stream { room = stream.room - n }) s.live; send = s.send - n }

abbrev pub spent : ℕ → ℕ → Set → Set
spent id n s = spent_at id n s (at id s)

-- so many bytes were granted to the peer, on all streams together
abbrev pub credited : ℕ → Set → Set
credited n s = record s { receive = s.receive + n }

-- and on one stream
abbrev pub credited_at : ℕ → ℕ → Set → Option Stream → Set
credited_at id n s None = s
credited_at id n s (Some stream) = record s { live = replaced id (record stream { receive = stream.receive + n }) s.live }

abbrev pub credited_on : ℕ → ℕ → Set → Set
credited_on id n s = credited_at id n s (at id s)

-- how many bytes may be received on a live stream
abbrev pub receive_in : Option Stream → ℕ
receive_in None = 0
receive_in (Some stream) = stream.receive

-- how many bytes are to be granted so that a live stream's window is whole again
abbrev pub owed_in : H2Limits → Option Stream → ℕ
owed_in limits None = 0
owed_in limits (Some stream) = limits.window - stream.receive

-- the peer has completed a head
abbrev pub has_head_in : Option Stream → Bool
has_head_in None = false
has_head_in (Some stream) = stream.has_head
