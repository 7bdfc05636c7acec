use Rattle.std.proofs.Common.{◌∷◌}
use Rattle.table_model.specs.declared.command.Command.TheVariants.{Collect}
use Rattle.table_model.specs.declared.reply.Reply.TheVariants.{Collected}
use Rattle.table_model.specs.Event.{events}
use Rattle.table_model.specs.Laws.{event}
use Rattle.rib_core.proofs.acknowledgements.core_answers_each_job_once.Goals as goal

pub returns-clause-reported : goal.returns-clause-reported
returns-clause-reported c core recorded session before after result stands collected succeeded =
    c.collected_was_reported.ensures core.config (events recorded) session before after result (c.events_are_lawful.ensures core.config recorded stands.legal) collected succeeded

pub returns-clause-once : goal.returns-clause-once
returns-clause-once c core recorded session stands =
    let lawful = c.events_are_lawful.ensures core.config recorded stands.legal in
    (c.results_are_of_done_jobs.ensures core.config (events recorded) session lawful, c.results_are_answered_once.ensures core.config (events recorded) session lawful)

pub returns-clause-all : goal.returns-clause-all
unfolding events
returns-clause-all c new recorded session given stands =
    c.all_are_answered.ensures new.config (events recorded) session given (c.events_are_lawful.ensures new.config (event (Collect session) (Collected given 0) ∷ recorded) stands.legal)
