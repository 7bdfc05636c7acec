-- Laws over exchanges that go on.
use Rattle.std.specs.Prelude.{◌≡◌, ◌<◌, ◌≤◌, length, ℕ, ◌+◌, ◌&&◌, ◌||◌, Bool, true, false, List, [], ◌∷◌, ◌++◌, Option, Some, None, option_to_list, map, All, Result, Ok, if◌then◌else◌, ◌==◌}
use Rattle.h2_frames.specs.declared.code.ErrorCode.{ErrorCode}
use Rattle.h2_frames.specs.declared.frame.Frame.{Frame}
use Rattle.hpack_tables.specs.declared.encoder.Style.{Style}
use Rattle.hpack_tables.specs.declared.field.Field.{Field}
use Rattle.hpack_tables.specs.Writing.{Encoder, fresh}
use Rattle.h2_exchange.specs.declared.limits.H2Limits.{H2Limits}
use Rattle.h2_exchange.specs.declared.role.Role.{Role}
use Rattle.h2_exchange.specs.Blocks.{open_block, blocks, left_open, completed}
use Rattle.h2_exchange.specs.Calls.{Call, shown, calls, answers, are_in_place}
use Rattle.h2_exchange.specs.declared.role.Role.TheVariants.{Server}
use Rattle.h2_exchange.specs.Compression.{IsWritable, AreWritten}
use Rattle.h2_exchange.specs.Content.{Outcome, AreRead}
use Rattle.h2_exchange.specs.Events.{Event, events_of}
use Rattle.h2_exchange.specs.Exchange.{Step, Received, Sent, received, sent, sent_text}
use Rattle.h2_exchange.specs.Frames.{stream_of, is_window_update, increment_of, counted}
use Rattle.h2_exchange.specs.Order.{Piece, received_bytes, sent_bytes, end_of, peer_preface, own_preface, InOrder, IsExchange}
use Rattle.h2_exchange.specs.Outcomes.{AreEnough, AreKnown, IsReadExchange}
use Rattle.h2_exchange.specs.Outgoing.{MaySend, HasPlace, SendsOnly}
use Rattle.h2_exchange.specs.Sending.{IsPrefix, ResetsErrors}
use Rattle.h2_exchange.specs.StreamParts.{Item, IsPrefixOf, IsAllOf}
use Rattle.h2_exchange.specs.Stops.{Stop, stop_at, stop_of, events}
use Rattle.h2_exchange.specs.Streams.{begins, is_begun, is_over}
use Rattle.h2_exchange.specs.Windows.{granted_on, spent_on, spent}

-- the events of an exchange stay where it goes on
abbrev pub EventsStay : Type 0
EventsStay = (role : Role) (limits : H2Limits) (heads : List Outcome) (x more : List Step) →
    IsPrefix (events role limits heads x) (events role limits heads (x ++ more))

-- what stopped an exchange stays what stops it, and nothing comes behind
abbrev pub StopsStay : Type 0
StopsStay =
    (role : Role) (limits : H2Limits) (heads : List Outcome) (x more : List Step) (stop : Stop) → stop_of role limits heads x ≡ Some stop →
    (stop_of role limits heads (x ++ more) ≡ Some stop) × (events role limits heads (x ++ more) ≡ events role limits heads x)

-- What is known of further header blocks changes nothing, where each that is looked at has its outcome. That is so where
-- each completed block has one.
pub record LaterBlocksChangeNothing : Type 0 where
  pub looked_at : (role : Role) (limits : H2Limits) (heads more : List Outcome) (x : List Step) → AreEnough role limits heads x →
      (stop_of role limits (heads ++ more) x ≡ stop_of role limits heads x) × (events role limits (heads ++ more) x ≡ events role limits heads x)
  pub completed : (role : Role) (limits : H2Limits) (heads : List Outcome) (x : List Step) → length (blocks (received x)) ≤ length heads →
      AreEnough role limits heads x

-- an exchange of all frames is one that is read
abbrev pub CompleteExchangeIsRead : Type 0
CompleteExchangeIsRead =
    (role : Role) (limits : H2Limits) (heads : List Outcome) (ps : List Piece) (out : List ℕ) (x : List Step) (rest : List ℕ) →
    IsExchange role ps out x rest → AreKnown role limits heads x → IsReadExchange role limits heads ps out x true rest

-- whatever outcomes are known, an exchange has one stop and one list of events
abbrev pub ExchangeIsDetermined : Type 0
ExchangeIsDetermined =
    (role : Role) (limits : H2Limits) (heads others : List Outcome) (x : List Step) → AreKnown role limits heads x → AreKnown role limits others x →
    (stop_of role limits heads x ≡ stop_of role limits others x) × (events role limits heads x ≡ events role limits others x)

-- one more frame adds its events, where nothing stops
abbrev pub EventsGoOn : Type 0
EventsGoOn =
    (role : Role) (limits : H2Limits) (heads : List Outcome) (x : List Step) (s : Step) → stop_of role limits heads x ≡ None →
    stop_at role limits heads x s ≡ None →
    (stop_of role limits heads (x ++ s ∷ []) ≡ None) × (events role limits heads (x ++ s ∷ []) ≡ events role limits heads x ++ events_of role limits heads x s)

-- calls and answers stay where more events come
abbrev pub CallsStay : Type 0 → Type 0 → Type 0
CallsStay M E =
    (method_of : List Field → Result M E) (compressed too_long truncated : E) (es more : List Event) →
    IsPrefix (calls method_of compressed too_long truncated es) (calls method_of compressed too_long truncated (es ++ more))

-- what is shown of calls stays where more are spelled
abbrev pub ShownCallsStay : Type 0 → Type 0 → Type 0
ShownCallsStay M E = (cs more : List (Call M E)) → IsPrefix (shown cs) (shown (cs ++ more))

abbrev pub AnswersStay : Type 0 → Type 0
AnswersStay E = (status_of : List Field → E) (unknown : E) (es more : List Event) →
    IsPrefix (answers status_of unknown es) (answers status_of unknown (es ++ more))

-- all of the items are a first part of them
abbrev pub AllIsPrefix : Type 0 → Type 0
AllIsPrefix E = (messages : List (List ℕ)) (rest : List ℕ) (end : Option E) (items : List (Item E)) → IsAllOf messages rest end items →
    IsPrefixOf messages rest end items

-- What a side sends goes on with a received frame, and with a frame that may be sent and stands where it may.
pub record SendingGoesOn (role : Role) (limits : H2Limits) (heads : List Outcome) (is_asked : List Step → ℕ → ErrorCode → Bool)
    (bytes rest : List ℕ) (x : List Step) : Type 0 where
  pub received : (f : Frame) → SendsOnly role limits heads is_asked bytes rest x → SendsOnly role limits heads is_asked bytes rest (x ++ Received f ∷ [])
  pub sent : (f : Frame) → MaySend role limits heads is_asked bytes rest x f → HasPlace x f → SendsOnly role limits heads is_asked bytes rest x →
      SendsOnly role limits heads is_asked bytes rest (x ++ Sent f ∷ [])

abbrev pub OnlyTheseAreSent : Type 0
OnlyTheseAreSent =
    (role : Role) (limits : H2Limits) (heads : List Outcome) (is_asked : List Step → ℕ → ErrorCode → Bool) (bytes rest : List ℕ) (x : List Step) →
    SendingGoesOn role limits heads is_asked bytes rest x

-- a stream begins once, and once it is over it stays so
pub record StreamsEnd : Type 0 where
  pub begun_push : (role : Role) (x : List Step) (s : Step) (id : ℕ) → is_begun role (x ++ s ∷ []) id ≡ (is_begun role x id || begins role id x s)
  pub begins_once : (role : Role) (x : List Step) (s : Step) (id : ℕ) → begins role id x s ≡ true → is_begun role x id ≡ false
  pub over_stays : (x more : List Step) (id : ℕ) → is_over x id ≡ true → is_over (x ++ more) id ≡ true

-- what one more frame of a side adds to the sums of its windows
pub record WindowSumsGrow : Type 0 where
  pub granted_push : (id : ℕ) (fs : List Frame) (f : Frame) →
      granted_on id (fs ++ f ∷ []) ≡ granted_on id fs + (if is_window_update f && stream_of f == id then increment_of f else 0)
  pub spent_on_push : (id : ℕ) (fs : List Frame) (f : Frame) → spent_on id (fs ++ f ∷ []) ≡ spent_on id fs + (if stream_of f == id then counted f else 0)
  pub spent_push : (fs : List Frame) (f : Frame) → spent (fs ++ f ∷ []) ≡ spent fs + counted f

-- what one more frame of a side does to its header blocks
pub record HeaderBlocksGrow : Type 0 where
  pub open_push : (fs : List Frame) (f : Frame) → open_block (fs ++ f ∷ []) ≡ left_open (open_block fs) f
  pub blocks_push : (fs : List Frame) (f : Frame) → blocks (fs ++ f ∷ []) ≡ blocks fs ++ option_to_list (completed fs f)

-- what one encoder wrote, under the table sizes that its peer announced, is what the peer reads
abbrev pub WrittenBlocksAreRead : Type 0
WrittenBlocksAreRead =
    (style : Style) (x : List Step) (lists : List (List Field)) (last : Encoder) → All IsWritable lists → AreWritten (fresh style) [] x lists last →
    AreRead (sent x) (map Ok lists)

-- The order of received and sent frames lasts: through a further call of the link, where all received frames were given
-- before it, and through further frames, where all that was placed was sent before them.
pub record OrderIsKept : Type 0 where
  pub told : (role : Role) (ps : List Piece) (p : Piece) (x : List Step) →
      (0 < length (received x) → end_of (peer_preface role) (received x) ≤ length (received_bytes ps)) → InOrder role ps x → InOrder role (ps ++ p ∷ []) x
  pub more : (role : Role) (ps : List Piece) (x more : List Step) → length (sent_bytes ps) ≤ length (own_preface role ++ sent_text x) →
      InOrder role ps x → InOrder role ps (x ++ more)

-- The calls that an exchange spells stand in their places, where each stream error is answered by the reset of its stream: without
-- that a call could be dropped twice.
abbrev pub CallsAreInPlace : Type 0 → Type 0 → Type 0
CallsAreInPlace M E =
    (limits : H2Limits) (heads : List Outcome) (x : List Step) (method_of : List Field → Result M E) (compressed too_long truncated : E) →
    ResetsErrors Server limits heads x →
    are_in_place (calls method_of compressed too_long truncated (events Server limits heads x)) ≡ true
