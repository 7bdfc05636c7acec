use Rattle.apply_path.proofs.Lawful.{lawful_history, lawful_left, lawful_answered}
use Rattle.apply_path.proofs.laws.histories_are_lawful.Goals as goal

pub returns-clause-history : goal.returns-clause-history
returns-clause-history c = lawful_history c.checked_entries_fit.ensures

pub returns-clause-answered : goal.returns-clause-answered
returns-clause-answered c = lawful_answered c.checked_entries_fit.ensures

pub returns-clause-left : goal.returns-clause-left
returns-clause-left c = lawful_left c.checked_entries_fit.ensures
