-- What serving a link through a pass comes to.
use Rattle.std.specs.Prelude.{◌≡◌, ℕ, List, [], ◌++◌, Option, Some, None}
use Rattle.std.specs.Option.{option_map}
use Rattle.rig_io.specs.Fault.{HasCause, StaysUnless}
use Rattle.rig_io.specs.Link.{Piece}
use Rattle.table_lock.specs.Passes.{IsPassOf, IsSound, LockView, PassView}
use Rattle.rib_core.specs.Recorded.{IsLawful}
use Rattle.table_model.specs.declared.command.Command.{Command}
use Rattle.table_model.specs.declared.command.Config.{Config}
use Rattle.table_model.specs.declared.reply.Reply.{Reply}
use Rattle.call_answers.specs.declared.orders.Setting.{Setting}
use Rattle.link_serving.specs.declared.service.Ended.{Ended}
use Rattle.link_serving.specs.declared.service.Ended.TheVariants as ended
use Rattle.server_turns.specs.declared.outcome.Outcome.{Outcome}
use Rattle.server_turns.specs.declared.outcome.Outcome.TheVariants as over
use Rattle.server_turns.specs.declared.outcome.TurnEnd.TheVariants.{Over}
use Rattle.server_turns.specs.Making.{MadeLast, Makes}
use Rattle.server_turns.specs.Past.{Past}
use Rattle.server_turns.specs.Serving.{Account, Serves}
use Rattle.server_turns.specs.Turning.{IsFault, MayFail, is_spent}

-- how the loop over links tells that a connection is over
abbrev pub ended_by : Option Outcome → Ended
ended_by (Some over.NoMemory) = ended.NoMemory
ended_by (Some over.Spent) = ended.Spent
ended_by other = ended.Served

-- the link's count of failures rose only where one of its failures is told, and is as it was where none may be
abbrev pub FaultsAre : Option Outcome → ℕ → ℕ → Type 0
FaultsAre None before now = now ≡ before
FaultsAre (Some outcome) before now = HasCause before now (IsFault (Over outcome)) × StaysUnless before now (MayFail (Over outcome))

-- A connection may have its next turn through this pass: it was used so, and these entries are the last that the pass made.
pub record MayGoOn (lock : LockView Config) (agrees : Past → Account → Type 0) (pass : PassView Command Reply Config) : Type 0 where
  pub pass_is : IsPassOf lock pass
  pub sound : IsSound IsLawful lock.setup pass
  pub past : Past
  pub account : Account
  pub stands : agrees past account
  pub made : MadeLast pass past.own

-- So far a link was served, through a pass that had made no entry: it told these pieces since, the pass made these entries and no
-- others, and it agrees with both.
pub record IsServedSoFar {L : Type 0} (pieces : L → Option (List Piece)) (faults : L → ℕ) (agrees : Past → Account → Type 0) (setup : Config)
    (first link : L) (pass : PassView Command Reply Config) (outcome : Option Outcome) : Type 0 where
  pub begun : PassView Command Reply Config
  pub unused : begun.mine ≡ []
  pub past : Past
  pub account : Account
  pub told : pieces link ≡ option_map (λ told. told ++ past.pieces) (pieces first)
  pub makes : Makes setup (is_spent outcome) begun pass past.own
  pub stands : agrees past account
  pub fault : FaultsAre outcome (faults first) (faults link)

-- A link was served to its end through a pass of its own, with the promise of a connection kept to its client.
abbrev pub IsServed : {L : Type 0} → (L → Option (List Piece)) → (L → ℕ) → Config → Setting → L → L → PassView Command Reply Config → Ended → Type 0
IsServed pieces faults setup setting first link pass end = (outcome : Outcome) × (end ≡ ended_by (Some outcome))
    × IsServedSoFar pieces faults (λ past a. Serves setting past a (Some outcome)) setup first link pass (Some outcome)
