use Rattle.std.proofs.Common.{refl, ap, ◌∙◌}
use Rattle.std.specs.Prelude.{◌+◌}
use Rattle.aft_entries.specs.References.{refs_of}
use Rattle.rib_core.proofs.copies.removal_cost.Goals as goal

pub returns-clause-cost : goal.returns-clause-cost
unfolding refs_of
returns-clause-cost c = ap (λ n. 1 + n) (c.references.ensures.count c.entry.inside.key.instance) ∙ rw (← c.entry.view_is) refl
