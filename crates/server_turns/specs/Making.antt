-- What becomes of a pass that makes entries in the history of the table.
use Rattle.std.specs.Prelude.{◌≡◌, Bool, List, ◌++◌}
use Rattle.table_lock.specs.declared.machine.Entry.{Entry}
use Rattle.table_lock.specs.Passes as lock
use Rattle.table_lock.specs.Passes.{PassView}
use Rattle.table_model.specs.declared.command.Command.{Command}
use Rattle.table_model.specs.declared.command.Config.{Config}
use Rattle.table_model.specs.declared.reply.Reply.{Reply}
use Rattle.table_model.specs.Event.{Event}
use Rattle.rib_core.specs.Recorded.{IsLawful}
use Rattle.session_engine.specs.Stands.{own}

-- The pass made these entries and no others: it knows one legal history of a table that is set up so, which begins with all that it had
-- seen and has them as its next own ones. Where a call behind them was Spent, its ticket is past the last that the lock gives, and else
-- it isn't.
abbrev pub Makes : Config → Bool → PassView Command Reply Config → PassView Command Reply Config → List Event → Type 0
Makes config spent p q did = lock.Makes IsLawful config spent p q (own p.number did)

-- These entries are the last that the pass made.
abbrev pub MadeLast : PassView Command Reply Config → List Event → Type 0
MadeLast p did = (before : List (Entry Command Reply)) × (p.mine ≡ before ++ own p.number did)
