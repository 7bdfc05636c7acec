use Rattle.std.proofs.Common.{◌∷◌, sym, ◌∙◌}
use Rattle.table_model.specs.declared.command.Command.TheVariants.{Report}
use Rattle.table_model.specs.declared.job.Verdict.TheVariants.{Programmed}
use Rattle.table_model.specs.declared.reply.Reply.TheVariants.{Reported}
use Rattle.table_model.specs.Event.{events}
use Rattle.table_model.specs.Laws.{event}
use Rattle.rib_core.proofs.acknowledgements.core_fib_follows_reports.Goals as goal

pub returns-clause-fib : goal.returns-clause-fib
returns-clause-fib c core recorded stands =
    stands.keeps.board.fib ∙ sym (c.reports_give_fib.ensures core.config (events recorded) (c.events_are_lawful.ensures core.config recorded stands.legal))

pub returns-clause-there : goal.returns-clause-there
unfolding events
returns-clause-there c new number now task recorded stands made =
    rw stands.keeps.board.fib (c.programmed_is_there.ensures new.config (events recorded) number now task (c.events_are_lawful.ensures new.config (event (Report number Programmed now) Reported ∷ recorded) stands.legal) made)
