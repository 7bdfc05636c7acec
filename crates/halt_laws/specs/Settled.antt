-- What a history is worth once each worker has seen the Halt. A history is a list of events, the newest first.
use Rattle.std.specs.Prelude.{◌≡◌, ℕ, ◌<◌, Bool, true, false, ◌&&◌, ◌==◌, List, [], ◌∷◌, ◌++◌}
use Rattle.std.specs.List.{list_any}
use Rattle.table_model.specs.declared.command.Command.{Command}
use Rattle.table_model.specs.declared.command.Command.TheVariants.{Take}
use Rattle.table_model.specs.declared.command.Config.{Config}
use Rattle.table_model.specs.declared.reply.Reply.{Reply}
use Rattle.table_model.specs.declared.reply.Reply.TheVariants.{HaltSeen}
use Rattle.table_model.specs.BoardState.{undone_tasks}
use Rattle.table_model.specs.Event.{Event, is_left}
use Rattle.table_model.specs.Jobs.{fib}
use Rattle.table_model.specs.Laws.{is_fault}
use Rattle.table_model.specs.Legal.{IsLawful}
use Rattle.table_model.specs.Reply.{is_halted}
use Rattle.table_model.specs.Rib.{rib}

abbrev pub is_take_of : ℕ → Command → Bool
is_take_of worker (Take other now) = other == worker
is_take_of worker _ = false

abbrev pub is_halt_seen : Reply → Bool
is_halt_seen HaltSeen = true
is_halt_seen _ = false

-- whether a Take of the worker was answered HaltSeen
abbrev pub has_seen_halt : List Event → ℕ → Bool
has_seen_halt past worker = list_any (λ e. is_take_of worker e.command && is_halt_seen e.reply) past

abbrev pub HaveSeenHalt : Config → List Event → Type 0
HaveSeenHalt config past = (worker : ℕ) → worker < config.workers → has_seen_halt past worker ≡ true

-- no session that was live at the Halt has left since: a Halt stops all else that makes jobs
abbrev pub NoLeaveBehindHalt : List Event → Type 0
NoLeaveBehindHalt past = (later earlier : List Event) (e : Event) → past ≡ later ++ e ∷ earlier → is_halted earlier ≡ true → is_left e.reply ≡ false

-- where each worker, of one or more, has seen the Halt, no job is undone
abbrev pub HaltedTablesSettle : Config → Type 0
HaltedTablesSettle config =
    (past : List Event) → IsLawful config past → 0 < config.workers → NoLeaveBehindHalt past → HaveSeenHalt config past → undone_tasks past ≡ []

-- and where no device failed, the forwarding table is the table
abbrev pub HaltedTablesAgree : Config → Type 0
HaltedTablesAgree config =
    (past : List Event) → IsLawful config past → 0 < config.workers → NoLeaveBehindHalt past → HaveSeenHalt config past
    → list_any (λ e. is_fault e.command) past ≡ false → fib past ≡ rib past
