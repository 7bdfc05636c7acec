-- What contracts see of a connection.
use Rattle.std.specs.Prelude.{ℕ, Bool, List, Option, Some, None, option_map, drop}
use Rattle.hpack_tables.specs.Decoder.{Decoder}
use Rattle.hpack_tables.specs.Writing.{Encoder}
use Rattle.h2_frames.specs.Reader.{Reader}
use Rattle.h2_exchange.specs.declared.limits.H2Limits.{H2Limits}
use Rattle.h2_exchange.specs.declared.role.Role.{Role}
use Rattle.h2_exchange.specs.Blocks.{Block}
use Rattle.h2_exchange.specs.Stops.{Error, Calm}
use Rattle.h2_streams.specs.Set.{Set}
use Rattle.http_connection.specs.ConnectionTrace.{Refusal, Stopped, NoMemory}
use Rattle.h2_conn.specs.declared.conn.H2Conn.{H2Conn}
use Rattle.h2_conn.specs.declared.conn.Why.{Why}
use Rattle.h2_conn.specs.declared.conn.Why.TheVariants as was
use Rattle.h2_conn.specs.declared.conn.Opened.{Opened}
use Rattle.h2_conn.specs.Watching.{Watch}

pub record State : Type 0 where
  pub role : Role
  pub limits : H2Limits
  pub reader : Reader
  -- the place of the frame that is read next
  pub place : ℕ
  pub set : Set
  pub decoder : Decoder
  pub encoder : Encoder
  -- the bytes that wait to be sent
  pub output : List ℕ
  -- the header block that is being received
  pub block : Option Block
  -- the stream whose end is still to be told
  pub ended : Option ℕ
  pub is_holding : Bool
  pub watch : Watch
  pub refusal : Option Refusal

abbrev pub refusal_by : Option Why → Option Refusal
refusal_by None = None
refusal_by (Some (was.Broken why place)) = Some (Stopped (Error why place))
refusal_by (Some (was.Calm cause)) = Some (Stopped (Calm cause))
refusal_by (Some was.NoMemory) = Some NoMemory

abbrev pub output_of : H2Conn → List ℕ
output_of h = drop h.start h.out.items

abbrev pub state_of : H2Conn → State
state_of h = record {
  role = h.role;
  limits = h.limits;
  reader = h.reader;
  place = h.place;
  set = h.set;
  decoder = h.decoder;
  encoder = h.encoder;
  output = output_of h;
  block = option_map (λ (o : Opened). record { stream = o.stream; last = o.last; text = h.text.items; frames = o.frames }) h.opened;
  ended = h.ended;
  is_holding = h.is_holding;
  watch = h.watch;
  refusal = refusal_by h.refusal;
}
