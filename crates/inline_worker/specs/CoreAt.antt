-- The history of a table in which nothing was refused for want of memory.
use Rattle.std.specs.Prelude.{◌≡◌, List}
use Rattle.table_model.specs.declared.command.Config.{Config}
use Rattle.table_model.specs.Event.{Event, events}
use Rattle.rib_core.specs.Core.{Core}
use Rattle.rib_core.specs.Stands.{StandsFor}

pub record CoreAt (config : Config) (core : Core) (past : List Event) : Type 0 where
  pub stands : StandsFor core past
  pub all : events past ≡ past
  pub config_is : core.config ≡ config
