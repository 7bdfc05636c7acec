-- What a connection did with all that its link told: the commands that its bytes spell stand in the history of the table once, in
-- order, and the bytes that it wrote spell on each stream a first part of what they are owed.
use Rattle.std.specs.Prelude.{◌≡◌, ℕ, ◌+◌, ◌<◌, ◌==◌, ◌&&◌, Bool, true, false, not, if◌then◌else◌, length, List, [], ◌∷◌, Option, Some, None}
use Rattle.std.specs.List.{flat_map, list_any}
use Rattle.std.specs.Str.{bytes_eq}
use Rattle.grpc_heads.specs.declared.head.Method.{Method}
use Rattle.grpc_heads.specs.CallEnd.{CallEnd, Status, call_end_of, compressed, method_by, too_long, truncated}
use Rattle.grpc_heads.specs.Heads.{head_of}
use Rattle.grpc_heads.specs.Written.{response_fields}
use Rattle.grpc_stream.specs.CallTrace.{text_of}
use Rattle.h2_frames.specs.declared.code.ErrorCode.{ErrorCode}
use Rattle.h2_frames.specs.Stream.{AreWhole}
use Rattle.h2_exchange.specs.declared.limits.H2Limits.{H2Limits}
use Rattle.h2_exchange.specs.declared.role.Role.TheVariants.{Server}
use Rattle.h2_exchange.specs.Blocks.{open_block}
use Rattle.h2_exchange.specs.Calls.{Call, calls}
use Rattle.h2_exchange.specs.Content as content
use Rattle.h2_exchange.specs.Exchange.{Step, received, sent}
use Rattle.h2_exchange.specs.Frames.{is_goaway}
use Rattle.h2_exchange.specs.Order.{peer_preface, received_bytes, RestBreaks}
use Rattle.h2_exchange.specs.Outcomes.{IsReadExchange}
use Rattle.h2_exchange.specs.Outgoing.{BeginsFirst, SendsOnly}
use Rattle.h2_exchange.specs.Sending.{ResetsErrors}
use Rattle.h2_exchange.specs.StreamParts.{AnswersAre, AnswersBegin, Item, Finish}
use Rattle.h2_exchange.specs.Stops.{events, stop_of, IsBroken, IsCalm}
use Rattle.h2_exchange.specs.Streams.{is_open, is_reset}
use Rattle.h2_exchange.specs.Windows.{may_send, spent_on}
use Rattle.table_model.specs.Event.{Event}
use Rattle.call_answers.specs.declared.orders.Setting.{Setting}
use Rattle.call_orders.specs.Calls.{CallState, Modifies, Receives, Responds, Action, Collects, Standing, answers, standing, stream_of}
use Rattle.call_orders.specs.Owed.{want_of_memory}
use Rattle.call_orders.specs.Orders.{AreOrders, ConnectionEnd, GoesOn, AllHandled, Halted, NoMemory, Spent}
use Rattle.server_turns.specs.declared.outcome.Outcome.{Outcome}
use Rattle.server_turns.specs.declared.outcome.Outcome.TheVariants as over
use Rattle.server_turns.specs.declared.outcome.DropCause.{DropCause}
use Rattle.server_turns.specs.declared.outcome.DropCause.TheVariants as drop
use Rattle.server_turns.specs.Past.{Past}

-- what a server allows its client
pub record IsServerLimits (limits : H2Limits) : Type 0 where
  pub streams : limits.streams ≡ 100
  pub window : limits.window ≡ 1048576
  pub list : limits.list ≡ 65536

-- An account of a connection: its frames, with what their header blocks say; the bytes that are received but no whole frame yet, and
-- those that wait to be written; and what was done for its calls, the latest first.
pub record Account : Type 0 where
  pub limits : H2Limits
  pub heads : List content.Outcome
  pub frames : List Step
  pub rest : List ℕ
  pub output : List ℕ
  pub actions : List Action

-- what the clients of a connection did, as its frames spell it
abbrev pub calls_spelled : Account → List (Call Method CallEnd)
calls_spelled a = calls (λ fields. method_by (head_of fields)) compressed too_long truncated (events Server a.limits a.heads a.frames)

-- ---- want of memory

abbrev pub is_want_of_memory : Item CallEnd → Bool
is_want_of_memory (Finish (Status status)) = status.code == want_of_memory.code && bytes_eq status.message want_of_memory.message
is_want_of_memory other = false

-- a call was ended for want of memory, of the table or above it
abbrev pub wants_memory : Standing → Bool
wants_memory st = list_any is_want_of_memory st.items

-- how many calls were
unfoldable pub refused_in : Setting → List Action → ℕ
refused_in s [] = 0
refused_in s (a ∷ earlier) =
    refused_in s earlier
    + (if wants_memory (standing s (a ∷ earlier) (stream_of a)) && not (wants_memory (standing s earlier (stream_of a))) then 1 else 0)

-- ---- how a connection ends

abbrev pub end_of : Option Outcome → ConnectionEnd
end_of None = GoesOn
end_of (Some over.Halted) = Halted
end_of (Some over.NoMemory) = NoMemory
end_of (Some over.Spent) = Spent
end_of (Some other) = AllHandled

-- One that halts, is Spent or has no memory may leave whole frames unread.
abbrev pub reads_all : Option Outcome → Bool
reads_all (Some over.Halted) = false
reads_all (Some over.NoMemory) = false
reads_all (Some over.Spent) = false
reads_all other = true

-- a call that isn't over
abbrev pub is_going : CallState → Bool
is_going (Modifies session is_finished) = true
is_going (Receives method first is_more) = true
is_going (Responds waiting) = true
is_going other = false

-- and whose client has not ended its side
abbrev pub is_open_call : CallState → Bool
is_open_call (Modifies session false) = true
is_open_call (Receives method first is_more) = true
is_open_call other = false

module _ (s : Setting) (past : Past) (a : Account) where
  -- the received bytes end behind the preface or a frame, and outside a header block
  abbrev pub EndsWhole : Type 0
  EndsWhole = AreWhole (peer_preface Server) (received_bytes past.pieces) (received a.frames) × (open_block (received a.frames) ≡ None)

  abbrev pub NoneOpen : Type 0
  NoneOpen = (id : ℕ) → is_open_call (standing s a.actions id).state ≡ false

  abbrev pub NoneGoes : Type 0
  NoneGoes = (id : ℕ) → is_going (standing s a.actions id).state ≡ false

  -- all that a stream is owed is spelled
  abbrev pub IsAnswered : ℕ → Type 0
  IsAnswered id = AnswersAre response_fields (call_end_of s.numbering) a.frames id (answers s a.actions id)

  -- no byte more may be sent on a stream, and not all that it is owed were
  abbrev pub IsShort : ℕ → Type 0
  IsShort id = (is_open Server a.frames id ≡ true) × (may_send a.frames id ≡ 0)
      × (spent_on id (sent a.frames) < length (flat_map text_of (answers s a.actions id)))

  abbrev pub GoesAway : Type 0
  GoesAway = list_any is_goaway (sent a.frames) ≡ true

  abbrev pub IsDropCause : DropCause → Type 0
  IsDropCause drop.CutFrame = EndsWhole → ⊥
  IsDropCause drop.OpenCall = EndsWhole × ((id : ℕ) × (is_open_call (standing s a.actions id).state ≡ true))
  IsDropCause drop.NoWindow = EndsWhole × NoneOpen × ((id : ℕ) × IsShort id)

  -- no rule of the connection is broken, and no counted limit passed
  abbrev pub Unbroken : Type 0
  Unbroken = (stop_of Server a.limits a.heads a.frames ≡ None)
      × ((why : ErrorCode) (place : ℕ) → RestBreaks (peer_preface Server) (received_bytes past.pieces) (received a.frames) a.rest why place → ⊥)

  -- Why a connection is over, or that nothing ends it. A fault of the link, and that a call was Spent, are told beside.
  abbrev pub HasCause : Option Outcome → Type 0
  HasCause None = Unbroken × (past.is_ended ≡ true → EndsWhole × NoneOpen)
  HasCause (Some over.Served) = Unbroken × (past.is_ended ≡ true) × EndsWhole × NoneGoes × (a.output ≡ [])
      × ((id : ℕ) → is_reset a.frames id ≡ false → IsAnswered id)
  HasCause (Some (over.Dropped cause)) = Unbroken × (past.is_ended ≡ true) × IsDropCause cause
  HasCause (Some (over.Protocol why place)) = IsBroken Server a.limits a.heads (received_bytes past.pieces) a.frames a.rest why place × GoesAway
  HasCause (Some (over.Calm cause)) = IsCalm Server a.limits a.heads a.frames cause × GoesAway
  HasCause (Some over.ReadFault) = Unbroken
  HasCause (Some over.WriteFault) = Unbroken
  HasCause (Some over.Halted) = (id : ℕ) (did : List Event) (cut : Option ℕ) (earlier : List Action) →
      a.actions ≡ Collects id did cut ∷ earlier → Unbroken
  HasCause (Some other) = Unit {0}

-- no reset is asked for: a server resets a stream at a stream error alone
abbrev pub none_asked : List Step → ℕ → ErrorCode → Bool
none_asked past id why = false

-- The promise to one connection, for this account of it.
pub record Serves (s : Setting) (past : Past) (a : Account) (outcome : Option Outcome) : Type 0 where
  pub limits : IsServerLimits a.limits
  -- what the link told is this exchange of frames
  pub exchange : IsReadExchange Server a.limits a.heads past.pieces a.output a.frames (reads_all outcome) a.rest
  -- the commands that its calls give stand in the entries that the connection made once, in order
  pub orders : AreOrders s (calls_spelled a) past.own (end_of outcome) a.actions
  -- what is written spells a first part of what they are owed
  pub spelled : AnswersBegin response_fields (call_end_of s.numbering) a.frames (answers s a.actions)
  -- and nothing else is sent
  pub sends : SendsOnly Server a.limits a.heads none_asked (received_bytes past.pieces) a.rest a.frames
  pub first : BeginsFirst Server a.limits a.frames
  -- each stream error is answered by its reset
  pub resets : (outcome ≡ Some over.NoMemory → ⊥) → ResetsErrors Server a.limits a.heads a.frames
  pub cause : HasCause s past a outcome
