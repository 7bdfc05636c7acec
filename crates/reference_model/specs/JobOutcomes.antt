-- What became of a job, as the history's word has it.
use Rattle.reference_model.specs.declared.board.JobOutcome.{JobOutcome}
use Rattle.reference_model.specs.declared.board.JobOutcome.TheVariants as job_outcome
use Rattle.table_model.specs.Jobs.{Outcome, Waiting, Out, Programmed, Faulted, PassedOver}

abbrev pub outcome_value : JobOutcome → Outcome
outcome_value job_outcome.Waiting = Waiting
outcome_value job_outcome.Out = Out
outcome_value job_outcome.Programmed = Programmed
outcome_value job_outcome.Faulted = Faulted
outcome_value job_outcome.PassedOver = PassedOver
