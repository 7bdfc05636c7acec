use Rattle.line_verdicts.proofs.print.append_seen.Goals as goal

pub returns-in-FibFailed : goal.returns-in-FibFailed
returns-in-FibFailed c = rw c.in-FibFailed.is c.push_failure-in-FibFailed.ensures
