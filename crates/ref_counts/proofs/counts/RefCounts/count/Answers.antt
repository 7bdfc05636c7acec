use Rattle.std.proofs.Common.{ap, sym, ◌∙◌}
use Rattle.ref_counts.specs.declared.places.Counts.{Counts}
use Rattle.ref_counts.specs.Counting.{count_in, counts_if}
use Rattle.ref_counts.proofs.counts.RefCounts.count.Goals as goal

pub returns-in-Some : goal.returns-in-Some
unfolding count_in
returns-in-Some c = rw (← c.self.view_is) (ap (λ (n : Counts). n.all) (c.counts_at.ensures ∙ ap (λ p. counts_if p c.self.inside.places.entries) (sym c.in-Some.is ∙ c.place_of.ensures)))

pub returns-in-None : goal.returns-in-None
unfolding count_in
returns-in-None c = ap (λ p. (counts_if p c.args.self.now.counted).all) (sym c.in-None.is ∙ c.place_of.ensures)
