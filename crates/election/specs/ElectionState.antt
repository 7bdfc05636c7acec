-- What an election keeps, and the history that it stands for.
use Rattle.std.specs.Prelude.{◌≡◌, ℕ, List, Option}
use Rattle.table_model.specs.declared.command.Command.TheVariants.{Announce, Leave}
use Rattle.table_model.specs.declared.reply.Reply.TheVariants.{Announced, Left}
use Rattle.table_model.specs.Event.{Event}
use Rattle.table_model.specs.Election as history

pub record ElectionState : Type 0 where
  pub highest : ℕ
  pub primary : Option ℕ

-- it keeps the highest id and the primary of the history
pub record StandsFor (election_state : ElectionState) (past : List Event) : Type 0 where
  pub highest : election_state.highest ≡ history.highest past
  pub primary : election_state.primary ≡ history.primary past

abbrev pub announced : ℕ → ℕ → ℕ → Event
announced session id highest = record { command = Announce session id; reply = Announced highest }

abbrev pub left : ℕ → Event
left session = record { command = Leave session; reply = Left }
