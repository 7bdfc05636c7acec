use Rattle.std.proofs.Common.{length}
use Rattle.reference_model.proofs.election.+announcements.Given as goal

abbrev pub decreases-announcements : goal.decreases-announcements
decreases-announcements l = length l.past.now
