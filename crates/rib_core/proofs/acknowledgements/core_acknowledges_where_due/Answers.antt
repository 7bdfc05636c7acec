use Rattle.std.proofs.Common.{◌∷◌}
use Rattle.table_model.specs.declared.command.Command.TheVariants.{Operate}
use Rattle.table_model.specs.declared.reply.Reply.TheVariants.{RibDone}
use Rattle.table_model.specs.Event.{events}
use Rattle.table_model.specs.Laws.{event}
use Rattle.rib_core.proofs.CoreLaws.{told_by, due_by}
use Rattle.rib_core.proofs.acknowledgements.core_acknowledges_where_due.Goals as goal

pub returns-clause-due : goal.returns-clause-due
returns-clause-due c new session operation now answer recorded stands known =
    due_by _ answer _ RibDone (told_by new.config (Operate session operation now) answer recorded stands.legal known) (c.done_where_due.ensures new.config (events recorded) session operation now)

pub returns-clause-there : goal.returns-clause-there
unfolding events
returns-clause-there c new session operation now work recorded stands asked =
    rw stands.keeps.table (c.done_is_there.ensures new.config (events recorded) session operation now work (c.events_are_lawful.ensures new.config (event (Operate session operation now) RibDone ∷ recorded) stands.legal) asked)
