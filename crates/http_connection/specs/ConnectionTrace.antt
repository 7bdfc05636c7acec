-- What a connection was used for. No connection stores it: each call carries it on.
use Rattle.std.specs.Prelude.{◌≡◌, ℕ, ◌<◌, ◌≤◌, Bool, false, not, map, is_some, All, List, [], ◌∷◌, ◌++◌, length, Option, None}
use Rattle.std.specs.List.{flat_map}
use Rattle.h2_frames.specs.declared.frame.Frame.{Frame}
use Rattle.h2_frames.specs.Layout.{frame_text}
use Rattle.hpack_tables.specs.declared.encoder.Style.{Style}
use Rattle.hpack_tables.specs.declared.encoder.Style.TheVariants.{Plain, Indexed}
use Rattle.hpack_tables.specs.declared.field.Field.{Field}
use Rattle.hpack_tables.specs.Writing.{Encoder, fresh}
use Rattle.h2_exchange.specs.declared.limits.H2Limits.{H2Limits}
use Rattle.h2_exchange.specs.declared.role.Role.{Role}
use Rattle.h2_exchange.specs.declared.role.Role.TheVariants.{Client, Server}
use Rattle.h2_exchange.specs.Blocks.{open_block}
use Rattle.h2_exchange.specs.Compression.{IsWritable, AreWritten}
use Rattle.h2_exchange.specs.Content.{Outcome}
use Rattle.h2_exchange.specs.Events.{Event}
use Rattle.h2_exchange.specs.Exchange.{Step, Sent, received, sent, sent_text}
use Rattle.h2_exchange.specs.Order.{peer_preface, own_preface, end_of}
use Rattle.h2_exchange.specs.Outcomes.{BeginWithFrames, AreKnown}
use Rattle.h2_exchange.specs.Outgoing.{HasPlace}
use Rattle.h2_exchange.specs.Sending.{IsPrefix, AreAcknowledged, IsCredited, ResetsErrors, first_text}
use Rattle.h2_exchange.specs.Stops.{Stop, stop_of, events}
use Rattle.h2_exchange.specs.Windows.{IsWithinWindows}

-- why a connection gives no event any more
pub data Refusal : Type 0 where
  Stopped : Stop → Refusal
  NoMemory : Refusal

pub record ConnectionTrace : Type 0 where
  pub role : Role
  pub limits : H2Limits
  -- the bytes that were fed
  pub fed : List ℕ
  -- the bytes of the output that were dropped
  pub dropped : List ℕ
  -- the exchange
  pub frames : List Step
  -- what the received header blocks say
  pub heads : List Outcome
  -- the fields of the sent header blocks
  pub written : List (List Field)
  -- the events that were given
  pub given : List Event
  -- no credit is sent
  pub is_holding : Bool
  pub refusal : Option Refusal

abbrev pub events_in : ConnectionTrace → List Event
events_in c = events c.role c.limits c.heads c.frames

abbrev pub stop_in : ConnectionTrace → Option Stop
stop_in c = stop_of c.role c.limits c.heads c.frames

-- it has not refused
abbrev pub is_alive : ConnectionTrace → Bool
is_alive c = not (is_some c.refusal)

-- ---- how it goes on

abbrev pub fed_more : List ℕ → ConnectionTrace → ConnectionTrace
fed_more piece c = record c { fed = c.fed ++ piece }

abbrev pub dropped_more : List ℕ → ConnectionTrace → ConnectionTrace
dropped_more bytes c = record c { dropped = c.dropped ++ bytes }

-- frames were sent, with these fields in their header blocks
abbrev pub wrote : List Frame → List (List Field) → ConnectionTrace → ConnectionTrace
wrote fs lists c = record c { frames = c.frames ++ map Sent fs; written = c.written ++ lists }

abbrev pub held : Bool → ConnectionTrace → ConnectionTrace
held hold c = record c { is_holding = hold }

-- whatever course the old one stands for, the new one stands for it, gone on so
abbrev pub Carries : (ConnectionTrace → Type 0) → (ConnectionTrace → Type 0) → (ConnectionTrace → ConnectionTrace) → Type 0
Carries old new on = (c : ConnectionTrace) → old c → new (on c)

abbrev pub Keeps : (ConnectionTrace → Type 0) → (ConnectionTrace → Type 0) → Type 0
Keeps old new = (c : ConnectionTrace) → old c → new c

-- ---- its start

-- nothing was fed, and these frames were sent
abbrev pub begun : Role → H2Limits → List Frame → ConnectionTrace
begun role limits fs = record {
  role = role;
  limits = limits;
  fed = [];
  dropped = [];
  frames = map Sent fs;
  heads = [];
  written = [];
  given = [];
  is_holding = false;
  refusal = None;
}

-- A new connection has sent its first frames and nothing else.
abbrev pub IsNew : Role → H2Limits → (ConnectionTrace → Type 0) → Type 0
IsNew role limits stands = (first : List Frame) × (flat_map frame_text first ≡ first_text role limits) × stands (begun role limits first)

-- ---- what holds of it

-- a server's header blocks take no memory of its peer's, and a client's do
abbrev pub style_of : Role → Style
style_of Server = Plain
style_of Client = Indexed

-- a sent frame stands in no header block of another one, and behind no GOAWAY
abbrev pub ArePlaced : List Step → Type 0
ArePlaced x = (past behind : List Step) (f : Frame) → x ≡ past ++ Sent f ∷ behind → HasPlace past f

pub record IsSound (c : ConnectionTrace) (output : List ℕ) : Type 0 where
  -- the received frames stand first in what was fed, and end within it
  pub front : BeginWithFrames (peer_preface c.role) c.fed (received c.frames)
  pub within : 0 < length (received c.frames) → end_of (peer_preface c.role) (received c.frames) ≤ length c.fed
  -- the sent frames are what was dropped of the output and what waits
  pub text : own_preface c.role ++ sent_text c.frames ≡ c.dropped ++ output
  -- the received header blocks are read so, as far as the exchange is looked at
  pub read : AreKnown c.role c.limits c.heads c.frames
  -- one encoder writes the sent ones, from fields that a reader takes, and none is left open
  pub last : Encoder
  pub spelled : AreWritten (fresh (style_of c.role)) [] c.frames c.written last
  pub writable : All IsWritable c.written
  pub closed : open_block (sent c.frames) ≡ None
  -- the events that were given are the first ones
  pub given : IsPrefix c.given (events_in c)
  pub placed : ArePlaced c.frames
  pub acknowledged : AreAcknowledged c.frames
  pub windows : IsWithinWindows c.frames
  -- unless it is held no credit is owed
  pub credited : c.refusal ≡ None → c.is_holding ≡ false → IsCredited c.role c.limits c.frames
  pub resets : ResetsErrors c.role c.limits c.heads c.frames
