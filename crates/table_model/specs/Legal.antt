-- Legal histories: each reply is the one-thread server's, but for want of memory.
use Rattle.std.specs.Prelude.{◌≡◌, ◌⊎◌, Bool, true, false, not, ◌&&◌, List, [], ◌∷◌, IsTrue}
use Rattle.aft_entries.specs.Shapes.{fits}
use Rattle.aft_entries.specs.declared.operation.Ask.{Ask}
use Rattle.aft_entries.specs.declared.operation.Ask.TheVariants as ask
use Rattle.table_model.specs.declared.command.Command.{Command}
use Rattle.table_model.specs.declared.command.Command.TheVariants.{Begin, Operate, Select}
use Rattle.table_model.specs.declared.command.Config.{Config}
use Rattle.table_model.specs.declared.reply.Reply.TheVariants.{NoMemory}
use Rattle.table_model.specs.Event.{Event, events}
use Rattle.table_model.specs.Reply.{reply_to, is_halted, is_gone}

-- the commands that take memory
abbrev pub takes_memory : Command → Bool
takes_memory Begin = true
takes_memory (Operate session operation now) = true
takes_memory (Select which kinds) = true
takes_memory _ = false

-- whether the command may be answered NoMemory: never in place of Stopped or Gone
abbrev pub may_be_out_of_memory : List Event → Command → Bool
may_be_out_of_memory past command = takes_memory command && not (is_halted past) && not (is_gone past command)

abbrev pub is_well_formed_ask : Ask → Bool
is_well_formed_ask (ask.Put entry replace) = fits entry.key.name entry.payload
is_well_formed_ask (ask.Remove key) = true
is_well_formed_ask (ask.Bad reason) = true

-- an entry's payload is of its key's kind, as the type of entries has it
abbrev pub is_well_formed : Command → Bool
is_well_formed (Operate session operation now) = is_well_formed_ask operation.ask
is_well_formed _ = true

-- the reply is the server's after these events, or tells of want of memory where it may
abbrev pub IsAnswer : Config → List Event → Event → Type 0
IsAnswer config past e =
    (e.reply ≡ reply_to config past e.command) ⊎ ((e.reply ≡ NoMemory) × IsTrue (may_be_out_of_memory past e.command))

-- each command of the record was answered so, on the events before it
abbrev pub Legal : Config → List Event → Type 0
Legal config [] = Unit {0}
Legal config (e ∷ earlier) = IsAnswer config (events earlier) e × Legal config earlier × (is_well_formed e.command ≡ true)

-- the events of such a record: each is answered as the server does, on the events before it
abbrev pub IsLawful : Config → List Event → Type 0
IsLawful config [] = Unit {0}
IsLawful config (e ∷ past) = (e.reply ≡ reply_to config past e.command) × IsLawful config past × (is_well_formed e.command ≡ true)
