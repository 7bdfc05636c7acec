-- A lock's calls as the record of the table: the lock tells them with the oldest first, and the table with the newest first.
use Rattle.std.specs.Prelude.{map, reverse, List}
use Rattle.table_lock.specs.declared.machine.Entry.{Entry}
use Rattle.table_model.specs.declared.command.Command.{Command}
use Rattle.table_model.specs.declared.command.Config.{Config}
use Rattle.table_model.specs.declared.reply.Reply.{Reply}
use Rattle.table_model.specs.Event.{Event}
use Rattle.table_model.specs.Legal.{Legal}
use Rattle.rib_core.specs.Core.{Core}
use Rattle.rib_core.specs.Stands.{StandsFor}

-- a call but for the pass that made it
abbrev pub event_of : Entry Command Reply → Event
event_of call = record { command = call.command; reply = call.reply }

abbrev pub recorded : List (Entry Command Reply) → List Event
recorded calls = reverse (map event_of calls)

-- the calls are a legal history of the table
abbrev pub IsLawful : Config → List (Entry Command Reply) → Type 0
IsLawful config calls = Legal config (recorded calls)

-- the core is one that these calls leave
abbrev pub Stands : Core → List (Entry Command Reply) → Type 0
Stands core calls = StandsFor core (recorded calls)

abbrev pub stands_is_lawful : (core : Core) (calls : List (Entry Command Reply)) → Stands core calls → IsLawful core.config calls
stands_is_lawful core calls h = h.legal
