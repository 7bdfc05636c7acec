use Rattle.inline_worker.proofs.Collecting.{collects_complete}
use Rattle.inline_worker.proofs.laws.collects_are_complete.Goals as goal

pub returns : goal.returns
returns c = λ config. collects_complete config (c.outstanding_is_owed.ensures config)
