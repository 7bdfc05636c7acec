use Rattle.ref_counts.proofs.Tallies.{adds_same}
use Rattle.std.proofs.Common.{ap}
use Rattle.ref_counts.specs.Counting.{not_counted}
use Rattle.std.specs.Option.{unwrap_or}
use Rattle.ref_counts.proofs.counts.RefCounts.reserve.Goals as goal

pub returns-clause-same : goal.returns-clause-same
returns-clause-same c = rw (← c.self.view_is) (adds_same _ _ (λ q. ap (λ o. unwrap_or o not_counted) (c.reserve.ensures.entries.2 q)))
