-- What the calls make of a connection's state.
use Rattle.std.specs.Prelude.{◌≡◌, ℕ, ◌+◌, ◌==◌, ◌&&◌, not, min, take, length, Bool, true, false, List, [], ◌∷◌, ◌++◌, Option, Some, None, Result, if◌then◌else◌}
use Rattle.h2_frames.specs.declared.code.ErrorCode.{ErrorCode}
use Rattle.h2_frames.specs.declared.frame.Frame.{Frame}
use Rattle.h2_frames.specs.Layout.{text_of, size_of}
use Rattle.h2_frames.specs.Reader.{Reader}
use Rattle.h2_frames.specs.Stream as bytes
use Rattle.h2_frames.specs.Stream.{place_at}
use Rattle.h2_exchange.specs.Compression.{limited_by}
use Rattle.h2_exchange.specs.Exchange.{received, sent}
use Rattle.h2_exchange.specs.Frames.{is_goaway}
use Rattle.h2_exchange.specs.Stops.{Stop, before_stop}
use Rattle.hpack_tables.specs.Writing.{Encoder}
use Rattle.std.specs.List.{list_any}
use Rattle.std.specs.Int.{w32, to_be_bytes}
use Rattle.http_connection.specs.Answers.{IsCause, code_of}
use Rattle.h2_exchange.specs.Order.{peer_preface}
use Rattle.http_connection.specs.ConnectionTrace.{ConnectionTrace, Stopped, events_in}
use Rattle.h2_conn.specs.Standing.{Kept, Stands}
use Rattle.h2_exchange.specs.declared.fault.SendFault.{SendFault}
use Rattle.h2_exchange.specs.declared.role.Role.{Role}
use Rattle.h2_exchange.specs.declared.role.Role.TheVariants.{Client, Server}
use Rattle.h2_exchange.specs.Sending.{ack_for, last_begun, reset_text, ResetsErrors}
use Rattle.h2_streams.specs.Set.{Set, at, dropped, finished, room_of, spent}
use Rattle.http_connection.specs.Sends.{SendsWhere, last_flag}
use Rattle.h2_conn.specs.State.{State}
use Rattle.h2_conn.specs.Watching.{Watch, cut_on, taken_on, ended_if}

abbrev pub SendsBy : {A : Type 0} → Bool → Result A SendFault → Type 0
SendsBy may_send result = SendsWhere may_send result

abbrev pub with_reset : ℕ → ErrorCode → State → State
with_reset id why s = record s { output = s.output ++ reset_text id why; set = dropped id s.set; watch = cut_on id s.watch }

-- ---- data

abbrev pub spent_to : ℕ → ℕ → Bool → Set → Set
spent_to id n false set = spent id n set
spent_to id n true set = finished id (spent id n set)

-- the client's data are those of requests
abbrev pub sent_on : Role → ℕ → List ℕ → Bool → Watch → Watch
sent_on Server id part ends w = w
sent_on Client id part ends w = ended_if ends (taken_on id part w)

abbrev pub with_data : ℕ → List ℕ → Bool → State → State
with_data id part ends s = record s {
  output = s.output ++ text_of 0 (last_flag ends) id part;
  set = spent_to id (length part) ends s.set;
  watch = sent_on s.role id part ends s.watch;
}

abbrev pub placed_in : ℕ → List ℕ → State → ℕ
placed_in id piece s = min (min (length piece) (room_of s.set (at id s.set))) 16384

-- so many bytes of a piece are placed, in one frame or none
abbrev pub with_part : ℕ → List ℕ → Bool → ℕ → State → State
with_part id piece ends n s = if n == 0 && not ends then s else with_data id (take n piece) ends s

-- ---- received frames

abbrev pub text_or_none : Option (List ℕ) → List ℕ
text_or_none None = []
text_or_none (Some text) = text

-- the place, the table size and the acknowledgement of a frame
abbrev pub plain_in : Frame → State → State
plain_in f s = record s {
  place = place_at (s.place + size_of f);
  encoder = limited_by f s.encoder;
  output = s.output ++ text_or_none (ack_for f);
}

-- The reader has given a frame, which is not taken yet.
pub record Waiting (s : State) (c : ConnectionTrace) (f : Frame) : Type 0 where
  pub before : Reader
  pub stands : Stands (record s { reader = before }) c
  pub alive : s.refusal ≡ None
  pub none_ended : s.ended ≡ None
  pub unpassed : s.watch.is_passed ≡ false
  pub reader_goes : s.reader.refusal ≡ None
  pub reads : bytes.Stands (peer_preface c.role) s.reader c.fed (received c.frames ++ f ∷ [])

-- ---- ends

-- The connection ends for this reason, where the peer's last stream before it is this one.
pub record Halted (s : State) (last : ℕ) (stop : Stop) (c : ConnectionTrace) : Type 0 where
  pub role_is : c.role ≡ s.role
  pub limits_are : c.limits ≡ s.limits
  pub holding_is : c.is_holding ≡ s.is_holding
  pub enc : Encoder
  pub kept : Kept c s.output enc
  pub resets : ResetsErrors c.role c.limits c.heads c.frames
  pub stays : list_any is_goaway (sent c.frames) ≡ false
  pub given : c.given ≡ events_in c
  pub cause : IsCause c stop
  pub last_is : last_begun c.role (before_stop c.role c.limits c.heads c.frames) ≡ last

abbrev pub with_goaway : ℕ → Stop → State → State
with_goaway last stop s = record s {
  output = s.output ++ text_of 7 0 0 (to_be_bytes w32 last ++ to_be_bytes w32 (code_of stop).0);
  refusal = Some (Stopped stop);
}
