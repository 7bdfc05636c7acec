-- The instances that the entries of the table name are of the configured ones.
use Rattle.std.specs.Prelude.{ℕ, ◌<◌, List, ◌∷◌, All}
use Rattle.aft_entries.specs.declared.entry.Entry.{Entry}
use Rattle.aft_entries.specs.declared.entry.Payload.{Payload}
use Rattle.aft_entries.specs.declared.entry.Payload.TheVariants as payload
use Rattle.aft_entries.specs.declared.operation.Row.{Row}
use Rattle.table_model.specs.declared.command.Command.TheVariants.{Select}
use Rattle.table_model.specs.declared.command.Config.{Config}
use Rattle.table_model.specs.declared.command.KindAsk.{KindAsk}
use Rattle.table_model.specs.declared.command.Which.{Which}
use Rattle.table_model.specs.declared.reply.Reply.TheVariants.{Selected}
use Rattle.table_model.specs.Event.{Event}
use Rattle.table_model.specs.Jobs.{fib}
use Rattle.table_model.specs.Laws.{event}
use Rattle.table_model.specs.Legal.{IsLawful}
use Rattle.table_model.specs.Reply.{selected}
use Rattle.table_model.specs.Rib.{rib}

-- the instance of a route's group is one of so many
abbrev pub HasKnownInstance : ℕ → Payload → Type 0
HasKnownInstance count (payload.Hop hop) = Unit {0}
HasKnownInstance count (payload.Group group) = Unit {0}
HasKnownInstance count (payload.Route route) = route.instance < count

-- so are the key's instance and the payload's
abbrev pub EntryHasKnownInstances : ℕ → Entry → Type 0
EntryHasKnownInstances count entry = (entry.key.instance < count) × HasKnownInstance count entry.payload

abbrev pub RowHasKnownInstances : ℕ → Row → Type 0
RowHasKnownInstances count row = EntryHasKnownInstances count row.entry

abbrev pub EntriesHaveKnownInstances : Config → Type 0
EntriesHaveKnownInstances config = (past : List Event) → IsLawful config past → All (EntryHasKnownInstances config.instances) (rib past)

-- what a Select selects, at each event
abbrev pub SelectedRowsAreKnown : Config → Type 0
SelectedRowsAreKnown config =
    (past : List Event) (which : Which) (kinds : KindAsk)
    → IsLawful config past → All (RowHasKnownInstances config.instances) (selected (rib past) (fib past) which kinds)

-- what a Select answers
abbrev pub AnsweredRowsAreKnown : Config → Type 0
AnsweredRowsAreKnown config =
    (past : List Event) (which : Which) (kinds : KindAsk) (rows : List Row)
    → IsLawful config (event (Select which kinds) (Selected rows) ∷ past) → All (RowHasKnownInstances config.instances) rows
