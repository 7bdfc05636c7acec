use Rattle.apply_path.proofs.Unfailing.{same_history, same_outcome}
use Rattle.apply_path.proofs.laws.output_rests_on_the_input.Goals as goal

pub returns-clause-outcome : goal.returns-clause-outcome
returns-clause-outcome c = λ s said input none. same_outcome s said none input

pub returns-clause-history : goal.returns-clause-history
returns-clause-history c = λ s said messages none. same_history s said none messages
