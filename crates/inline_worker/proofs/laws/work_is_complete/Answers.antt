use Rattle.inline_worker.proofs.Working.{work_completes}
use Rattle.inline_worker.proofs.laws.work_is_complete.Goals as goal

pub returns : goal.returns
returns c = λ config. work_completes config (c.idle_is_done.ensures config)
