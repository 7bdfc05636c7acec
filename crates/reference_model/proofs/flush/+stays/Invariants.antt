use Rattle.std.proofs.Common.{◌≡◌, ◌-◌, false, take}
use Rattle.std.specs.List.{list_any}
use Rattle.reference_model.proofs.Walks.{holder_stays}
use Rattle.reference_model.proofs.flush.+stays.Given as goal

abbrev pub decreases-stays : goal.decreases-stays
decreases-stays l = l.most

-- no referrer so far stays
abbrev pub invariant-loop-e : goal.invariant-loop-e
invariant-loop-e l = list_any (holder_stays (l.most - 1) l.table l.which l.key) (take l.e-index l.table) ≡ false
