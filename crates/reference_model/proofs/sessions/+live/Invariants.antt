use Rattle.std.proofs.Common.{length}
use Rattle.reference_model.proofs.sessions.+live.Given as goal

abbrev pub decreases-live : goal.decreases-live
decreases-live l = length l.past.now
