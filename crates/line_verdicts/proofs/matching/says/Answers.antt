use Rattle.line_verdicts.proofs.matching.says.Goals as goal

pub returns-in-FibFailed : goal.returns-in-FibFailed
returns-in-FibFailed c = rw c.in-FibFailed.is c.is_failure-in-FibFailed.ensures
