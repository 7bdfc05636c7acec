-- What one turn of a connection does.
use Rattle.std.specs.Prelude.{◌≡◌, ◌⊎◌, ℕ, ◌+◌, ◌-◌, ◌<◌, ◌≤◌, ◌==◌, Bool, true, false, length, sum_by, List, [], ◌∷◌, ◌++◌, Option, Some, None}
use Rattle.std.specs.List.{flat_map, list_any}
use Rattle.rig_io.specs.Fault.{HasRisen}
use Rattle.rig_io.specs.Link.{Piece, received_bytes, sent_bytes}
use Rattle.grpc_stream.specs.CallTrace.{text_of}
use Rattle.h2_exchange.specs.declared.role.Role.TheVariants.{Server}
use Rattle.h2_exchange.specs.Exchange.{sent}
use Rattle.h2_exchange.specs.Sending.{IsCredited, IsPrefix}
use Rattle.h2_exchange.specs.Streams.{is_live, is_reset, live}
use Rattle.h2_exchange.specs.Windows.{may_send, spent_on}
use Rattle.table_model.specs.Event.{Event}
use Rattle.call_answers.specs.declared.orders.Setting.{Setting}
use Rattle.call_orders.specs.Calls.{Modifies, answers, standing}
use Rattle.call_orders.specs.Orders.{staying}
use Rattle.server_turns.specs.declared.outcome.Outcome.{Outcome}
use Rattle.server_turns.specs.declared.outcome.Outcome.TheVariants as over
use Rattle.server_turns.specs.declared.outcome.TurnEnd.{TurnEnd}
use Rattle.server_turns.specs.declared.outcome.TurnEnd.TheVariants.{Progress, Idle, Over}
use Rattle.server_turns.specs.Past.{Past, awaits, collects, gone_on, is_progress, leaves_some}
use Rattle.server_turns.specs.Serving.{Account, IsAnswered}

-- the pieces that the link told in a turn, the entries that were made in it, and whether the end of the input was given in it
pub record During : Type 0 where
  pub pieces : List Piece
  pub own : List Event
  pub is_ended : Bool

-- how often a link had nothing, took nothing, and gave its end
pub record Counts : Type 0 where
  pub reads : ℕ
  pub writes : ℕ
  pub ends : ℕ

-- bytes that were received or sent
abbrev pub moved : List Piece → ℕ
moved pieces = sum_by (λ p. length (received_bytes p) + length (sent_bytes p)) pieces

abbrev pub written : List Piece → ℕ
written pieces = sum_by (λ p. length (sent_bytes p)) pieces

-- how many bytes that live streams are owed stand in no frame
abbrev pub unsent : Setting → Account → ℕ
unsent s a = sum_by (λ id. length (flat_map text_of (answers s a.actions id)) - spent_on id (sent a.frames)) (live Server a.frames)

-- A session is owed a Collect: it waits for results, or its client has ended its side.
abbrev pub IsOwedCollect : Setting → Past → Account → ℕ → Type 0
IsOwedCollect s past a session = (awaits past session ≡ true) ⊎ ((id : ℕ) × ((standing s a.actions id).state ≡ Modifies session true))

-- What holds behind a turn of a connection that isn't over then: the first account is of its start, and the second of its end.
pub record KeepsUp (s : Setting) (past now : Past) (before after : Account) (turn : During) (waiting : ℕ) (from to : Counts) : Type 0 where
  -- no more waits than the streams are owed
  pub waits : waiting ≤ unsent s after
  -- each stream that neither side reset is answered, unless a window is used up or much was written or waits
  pub answered : (id : ℕ) → is_reset after.frames id ≡ false → IsAnswered s now after id
      ⊎ ((is_live Server after.frames id ≡ true) × (may_send after.frames id ≡ 0))
      ⊎ (1048576 ≤ written turn.pieces + length after.output + waiting)
  -- credit is held only where much waits
  pub credited : IsCredited Server after.limits after.frames ⊎ (1048576 ≤ waiting)
  -- the output is written until the link takes no more
  pub written_is : (after.output ≡ []) ⊎ HasRisen from.writes to.writes
  -- each session is collected that is owed it and has not left
  pub collected : (session : ℕ) → IsOwedCollect s past before session →
      list_any (λ other. session == other) (staying now.own) ≡ true → list_any (collects session) turn.own ≡ true
  -- the link is read, unless much waits to be written
  pub read : (0 < length (flat_map received_bytes turn.pieces)) ⊎ (turn.is_ended ≡ true) ⊎ HasRisen from.reads to.reads
      ⊎ (past.is_ended ≡ true) ⊎ (1048576 ≤ length before.output)

-- A byte moved, the end of the input was first given, or an entry was made that shows that the connection got on.
abbrev pub IsProgress : Past → During → Type 0
IsProgress past turn = (0 < moved turn.pieces) ⊎ ((past.is_ended ≡ false) × (turn.is_ended ≡ true)) ⊎ (list_any is_progress turn.own ≡ true)

-- A turn goes on from one account to the next: no frame and no entry is taken back.
pub record GoesOn (past : Past) (before after : Account) (turn : During) (from to : Counts) : Type 0 where
  pub limits : after.limits ≡ before.limits
  pub heads : IsPrefix before.heads after.heads
  pub frames : IsPrefix before.frames after.frames
  -- it reads at most so many bytes
  pub size : length (flat_map received_bytes turn.pieces) ≤ 16384
  -- the end of the input was given in this turn or before it, exactly where it is said so
  pub given : turn.is_ended ≡ true → (past.is_ended ≡ true) ⊎ HasRisen from.ends to.ends
  pub told : (past.is_ended ≡ true) ⊎ (from.ends < to.ends) → turn.is_ended ≡ true

-- why a turn answers so
abbrev pub IsAnswer : Past → During → Counts → Counts → TurnEnd → Type 0
IsAnswer past turn from to Progress = IsProgress past turn
IsAnswer past turn from to Idle = (IsProgress past turn → ⊥)
    × (HasRisen from.reads to.reads ⊎ HasRisen from.writes to.writes ⊎ ((past.is_ended ≡ true) × (list_any leaves_some turn.own ≡ true)))
IsAnswer past turn from to (Over outcome) = Unit {0}

-- ---- what a turn carries on

abbrev pub outcome_of : TurnEnd → Option Outcome
outcome_of (Over outcome) = Some outcome
outcome_of other = None

-- a call under the lock was Spent
abbrev pub is_spent : Option Outcome → Bool
is_spent (Some over.Spent) = true
is_spent other = false

-- reading or writing failed
abbrev pub IsFault : TurnEnd → Type 0
IsFault (Over over.ReadFault) = Unit {0}
IsFault (Over over.WriteFault) = Unit {0}
IsFault other = ⊥

-- Or it could not be written that the connection goes away; or a call under the lock was Spent, which stands before a fault.
abbrev pub MayFail : TurnEnd → Type 0
MayFail (Over over.Spent) = Unit {0}
MayFail (Over (over.Protocol why place)) = Unit {0}
MayFail (Over (over.Calm cause)) = Unit {0}
MayFail other = IsFault other

-- the past behind a turn
abbrev pub behind : During → Past → Past
behind turn past = gone_on turn.pieces turn.own turn.is_ended past

-- A turn that doesn't end the connection keeps up.
abbrev pub KeepsUpUnlessOver : TurnEnd → Setting → Past → Account → Account → During → ℕ → Counts → Counts → Type 0
KeepsUpUnlessOver (Over outcome) s past before after turn waiting from to = Unit {0}
KeepsUpUnlessOver other s past before after turn waiting from to = KeepsUp s past (behind turn past) before after turn waiting from to
