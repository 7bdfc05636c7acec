-- What the parts of a turn come to together.
use Rattle.std.specs.Prelude.{◌≡◌, ◌⊎◌, ◌↔◌, ℕ, ◌<◌, ◌≤◌, Bool, true, false, length, List, [], ◌++◌, None, Some}
use Rattle.std.specs.List.{flat_map}
use Rattle.rig_io.specs.Fault.{HasRisen}
use Rattle.rig_io.specs.Link.{Piece, received_bytes}
use Rattle.h2_exchange.specs.Streams.{is_reset}
use Rattle.grpc_stream.specs.CallTrace.{CallTrace}
use Rattle.table_lock.specs.Passes.{PassView}
use Rattle.table_model.specs.declared.command.Command.{Command}
use Rattle.table_model.specs.declared.command.Config.{Config}
use Rattle.table_model.specs.declared.reply.Reply.{Reply}
use Rattle.table_model.specs.Event.{Event}
use Rattle.call_answers.specs.declared.orders.Setting.{Setting}
use Rattle.session_engine.specs.Queries.{OpenCallsView, call_on}
use Rattle.server_turns.specs.declared.outcome.Outcome.{Outcome}
use Rattle.server_turns.specs.declared.outcome.Outcome.TheVariants as over
use Rattle.server_turns.specs.declared.outcome.TurnEnd.{TurnEnd}
use Rattle.server_turns.specs.declared.outcome.TurnEnd.TheVariants.{Idle, Progress}
use Rattle.server_turns.specs.Making.{Makes}
use Rattle.server_turns.specs.Past.{Past}
use Rattle.server_turns.specs.Serving.{Account, IsAnswered}
use Rattle.server_turns.specs.Turning.{Counts, During, GoesOn, IsAnswer, KeepsUp, behind, is_spent}
use Rattle.server_conn.specs.declared.conn.Cause.{Cause}
use Rattle.server_conn.specs.Standing.{EndsBy, Goes, KeptBy, is_spent_by, past_of}
use Rattle.server_conn.specs.Steps.{HearsAll, MUCH, got}

-- each stream that neither side reset is answered, once no call goes on
abbrev pub AreAnsweredIfIdle : Setting → OpenCallsView → Past → Account → Type 0
AreAnsweredIfIdle s open_calls past a =
    ((id : ℕ) → call_on open_calls id ≡ None) → (id : ℕ) → is_reset a.frames id ≡ false → IsAnswered s past a id

-- how a turn that goes on is answered
abbrev pub answer_by : Bool → TurnEnd
answer_by true = Progress
answer_by false = Idle

module _ {K : Type 0} (uses : K → CallTrace → Type 0) (output : K → List ℕ) (s : Setting) (config : Config) where
  -- What was read is heard: these bytes, or the end, or nothing.
  pub record TakesIn (p q : PassView Command Reply Config) (before calls : K) (open_calls : OpenCallsView) (refused : ℕ) (t : CallTrace)
      (pieces : List Piece) (own : List Event) (bytes : List ℕ) (was_ended is_ended has_moved : Bool) (reads_before reads_now : ℕ) : Type 0 where
    pub heard : HearsAll uses output s config p q calls open_calls refused t (pieces ++ got bytes) own
    pub moved : has_moved ≡ true ↔ ((0 < length bytes) ⊎ ((was_ended ≡ false) × (is_ended ≡ true)))
    pub still : has_moved ≡ false → heard.goes.did ≡ []
    pub why : (0 < length bytes) ⊎ (is_ended ≡ true) ⊎ HasRisen reads_before reads_now ⊎ (MUCH ≤ length (output before))

  -- A turn after which the connection goes on.
  pub record TurnsOn (p q : PassView Command Reply Config) (calls : K) (open_calls : OpenCallsView) (refused waiting : ℕ) (is_ended : Bool)
      (past : Past) (before : Account) (turn : During) (has_moved : Bool) (from to : Counts) : Type 0 where
    pub made : Makes config false p q turn.own
    pub after : Account
    pub goes : Goes uses output s calls open_calls refused is_ended (behind turn past) after
    pub goes_on : GoesOn past before after turn from to
    pub answer : IsAnswer past turn from to (answer_by has_moved)
    pub keeps_up : KeepsUp s past (behind turn past) before after turn waiting from to

  -- A turn that is the last, but for the Leaves of the sessions that stayed.
  pub record TurnsLast (p q : PassView Command Reply Config) (t : CallTrace) (calls : K) (open_calls : OpenCallsView) (refused : ℕ) (is_ended : Bool)
      (past : Past) (turn : During) (cause : Cause) (from to : Counts) : Type 0 where
    pub made : Makes config (is_spent_by cause) p q turn.own
    pub ends : EndsBy s t (output calls) open_calls refused (past_of (past.pieces ++ turn.pieces) (past.own ++ turn.own) is_ended) cause
    pub ended : is_ended ≡ turn.is_ended
    pub size : length (flat_map received_bytes turn.pieces) ≤ 16384
    pub given : turn.is_ended ≡ true → (past.is_ended ≡ true) ⊎ HasRisen from.ends to.ends
    pub told : (past.is_ended ≡ true) ⊎ (from.ends < to.ends) → turn.is_ended ≡ true

-- a client that broke a rule, or passed a counted limit, is told that the connection goes away
abbrev pub goes_away : Outcome → Bool
goes_away (over.Protocol why place) = true
goes_away (over.Calm cause) = true
goes_away other = false

-- What a connection that is over still does: these pieces are put, and these entries made behind those of its last turn.
pub record TurnsOver (config : Config) (s : Setting) (t : CallTrace) (output : List ℕ) (refused : ℕ) (q r : PassView Command Reply Config)
    (pieces : List Piece) (own : List Event) (is_ended : Bool) (cause : Cause) (outcome : Outcome) (put : List Piece) : Type 0 where
  pub nothing : flat_map received_bytes put ≡ []
  pub did : List Event
  pub made : (p : PassView Command Reply Config) (earlier : List Event) → Makes config (is_spent_by cause) p q earlier →
      Makes config (is_spent (Some outcome)) p r (earlier ++ did)
  pub kept : KeptBy s t output refused (past_of (pieces ++ put) (own ++ did) is_ended) outcome
