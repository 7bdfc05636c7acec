use Rattle.apply_path.proofs.handler.SessionState.new.Goals as goal

pub returns-clause-begun : goal.returns-clause-begun
returns-clause-begun c = rw (← c.count.ensures.count) c.in_ok-core.ensures
