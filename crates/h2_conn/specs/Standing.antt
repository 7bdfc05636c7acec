-- How a connection stands for its course, part by part.
use Rattle.std.proofs.Common.{subst}
use Rattle.std.specs.Prelude.{◌≡◌, ℕ, ◌+◌, ◌<◌, ◌≤◌, Bool, true, false, All, List, [], ◌∷◌, ◌++◌, length, Option, Some, None, Ok, Err}
use Rattle.std.specs.List.{list_any}
use Rattle.hpack_tables.specs.declared.field.Field.{Field}
use Rattle.hpack_tables.specs.Decoder.{Decoder}
use Rattle.hpack_tables.specs.Reading as reading
use Rattle.hpack_tables.specs.Reading.{BlockAt}
use Rattle.hpack_tables.specs.Writing.{Encoder, fresh}
use Rattle.h2_frames.specs.Stream as bytes
use Rattle.h2_frames.specs.Stream.{place_after}
use Rattle.h2_exchange.specs.Blocks.{Block, blocks, open_block}
use Rattle.h2_exchange.specs.Compression.{AreWritten, IsWritable}
use Rattle.h2_exchange.specs.declared.limits.H2Limits.{H2Limits}
use Rattle.h2_exchange.specs.declared.role.Role.{Role}
use Rattle.h2_exchange.specs.Content.{Outcome}
use Rattle.h2_exchange.specs.Events.{Event, Ended}
use Rattle.h2_exchange.specs.Exchange.{Step, received, sent, sent_text}
use Rattle.h2_exchange.specs.Frames.{is_goaway}
use Rattle.h2_exchange.specs.Order.{peer_preface, own_preface, end_of}
use Rattle.h2_exchange.specs.Outcomes.{AreKnown, BeginWithFrames}
use Rattle.h2_exchange.specs.Sending.{acks_in, acks_for, last_begun, AreAcknowledged, IsCredited, IsPrefix, ResetsErrors}
use Rattle.h2_exchange.specs.Stops.{before_stop}
use Rattle.h2_exchange.specs.Streams.{is_live}
use Rattle.h2_exchange.specs.Windows.{IsWithinWindows, granted_on, spent_on, spent}
use Rattle.h2_streams.specs.Stands as streams
use Rattle.http_connection.specs.ConnectionTrace.{ConnectionTrace, IsSound, ArePlaced, style_of, events_in, stop_in}
use Rattle.h2_conn.specs.declared.conn.H2Conn.{H2Conn}
use Rattle.h2_conn.specs.State.{State, state_of}
use Rattle.h2_conn.specs.Watching.{IsWatched, stop_by}

-- Each of these blocks was read, one after another over one table, and this is the table behind them.
abbrev pub AreAllRead : List Field → ℕ → List Block → List Outcome → List Field → ℕ → Type 0
AreAllRead entries max [] [] last size = (last ≡ entries) × (size ≡ max)
AreAllRead entries max (b ∷ bs) (Ok fields ∷ more) last size =
    (after : reading.State) × BlockAt 4096 (record { entries = entries; max = max; fields = [] }) b.text (Ok after) × (after.fields ≡ fields)
    × AreAllRead after.entries after.max bs more last size
AreAllRead entries max (b ∷ bs) (Err fault ∷ more) last size = ⊥
AreAllRead entries max [] (outcome ∷ more) last size = ⊥
AreAllRead entries max (b ∷ bs) [] last size = ⊥

pub record Decodes (d : Decoder) (bs : List Block) (heads : List Outcome) : Type 0 where
  pub alive : d.refusal ≡ None
  pub limit : d.limit ≡ 4096
  pub read : AreAllRead [] 4096 bs heads d.entries d.max

-- No more was granted than was received.
pub record IsWithinCredit (role : Role) (limits : H2Limits) (x : List Step) : Type 0 where
  pub whole : 65535 + granted_on 0 (sent x) ≤ limits.window + spent (received x)
  pub streams : (id : ℕ) → is_live role x id ≡ true → granted_on id (sent x) ≤ spent_on id (received x)

-- Unless credit is held, nothing is left to be credited.
abbrev pub HasCredit : Bool → Role → H2Limits → List Step → Type 0
HasCredit false role limits x = IsCredited role limits x
HasCredit true role limits x = IsWithinCredit role limits x

abbrev pub ends_of : Option ℕ → List Event
ends_of None = []
ends_of (Some id) = Ended id ∷ []

-- what holds of the exchange whatever comes, where the sent header blocks leave this encoder
pub record Kept (c : ConnectionTrace) (output : List ℕ) (last : Encoder) : Type 0 where
  pub front : BeginWithFrames (peer_preface c.role) c.fed (received c.frames)
  pub within : 0 < length (received c.frames) → end_of (peer_preface c.role) (received c.frames) ≤ length c.fed
  pub text : own_preface c.role ++ sent_text c.frames ≡ c.dropped ++ output
  pub read : AreKnown c.role c.limits c.heads c.frames
  pub spelled : AreWritten (fresh (style_of c.role)) [] c.frames c.written last
  pub writable : All IsWritable c.written
  pub closed : open_block (sent c.frames) ≡ None
  pub given : IsPrefix c.given (events_in c)
  pub placed : ArePlaced c.frames
  pub acknowledged : AreAcknowledged c.frames
  pub windows : IsWithinWindows c.frames

-- The parts of a connection that has not refused, where these events are still to be told, and these acknowledgements still
-- to be sent.
pub record Going (s : State) (c : ConnectionTrace) (es : List Event) (owed_credit : List (List ℕ)) : Type 0 where
  pub reader_goes : s.reader.refusal ≡ None
  pub reads : bytes.Stands (peer_preface c.role) s.reader c.fed (received c.frames)
  pub place_is : s.place ≡ place_after (peer_preface c.role) (received c.frames)
  pub set_is : streams.StandsFor s.set c.frames
  pub set_role : s.set.role ≡ c.role
  pub set_limits : s.set.limits ≡ c.limits
  pub decodes : Decodes s.decoder (blocks (received c.frames)) c.heads
  pub block_is : s.block ≡ open_block (received c.frames)
  pub given_is : events_in c ≡ c.given ++ es
  pub acknowledged : acks_in (sent c.frames) ++ owed_credit ≡ acks_for (received c.frames)
  pub stays : list_any is_goaway (sent c.frames) ≡ false
  pub watched : IsWatched c.role c.limits c.heads c.frames s.watch
  pub stop_is : stop_in c ≡ stop_by s.watch.is_passed
  -- no frame that begins a stream was received behind the stop
  pub last_is : last_begun c.role (before_stop c.role c.limits c.heads c.frames) ≡ last_begun c.role c.frames

pub record Stands (s : State) (c : ConnectionTrace) : Type 0 where
  pub role_is : c.role ≡ s.role
  pub limits_are : c.limits ≡ s.limits
  pub refusal_is : c.refusal ≡ s.refusal
  pub holding_is : c.is_holding ≡ s.is_holding
  pub last : Encoder
  pub encoder_is : s.refusal ≡ None → s.encoder ≡ last
  pub kept : Kept c s.output last
  pub resets : ResetsErrors c.role c.limits c.heads c.frames
  pub credited : s.refusal ≡ None → HasCredit s.is_holding c.role c.limits c.frames
  pub goes : s.refusal ≡ None → Going s c (ends_of s.ended) []

-- in the words of the trait
abbrev pub sound_of : (s : State) (c : ConnectionTrace) → Stands s c → (c.refusal ≡ None → s.refusal ≡ None) →
    (c.is_holding ≡ false → s.is_holding ≡ false) → IsSound c s.output
sound_of s c h alive free = record {
  front = h.kept.front;
  within = h.kept.within;
  text = h.kept.text;
  read = h.kept.read;
  last = h.last;
  spelled = h.kept.spelled;
  writable = h.kept.writable;
  closed = h.kept.closed;
  given = h.kept.given;
  placed = h.kept.placed;
  acknowledged = h.kept.acknowledged;
  windows = h.kept.windows;
  credited = λ e q. subst (λ (b : Bool). HasCredit b c.role c.limits c.frames) (free q) (h.credited (alive e));
  resets = h.resets;
}

abbrev pub StandsFor : H2Conn → ConnectionTrace → Type 0
StandsFor h c = Stands (state_of h) c

-- twice what is held, and one for an end that is still to be told
abbrev pub told_later : Option ℕ → ℕ
told_later None = 0
told_later (Some id) = 1

abbrev pub ahead_of : H2Conn → ℕ
ahead_of h = length h.reader.held + told_later h.ended
