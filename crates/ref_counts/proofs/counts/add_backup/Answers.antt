use Rattle.std.proofs.Common.{[], ◌∷◌}
use Rattle.aft_entries.specs.References.{group_key}
use Rattle.ref_counts.specs.Counting.{count_in, group_count_in, Fits}
use Rattle.ref_counts.proofs.Tallies.{adds_group_ref, fits_next, way_begins}
use Rattle.ref_counts.proofs.counts.add_backup.Goals as goal

pub raise-requires-clause-all : goal.raise-requires-clause-all
unfolding count_in
raise-requires-clause-all c =
    let k = group_key c.args.instance c.in-Some.id in
    let fits : Fits c.args.places.now.entries (k ∷ []) (k ∷ []) = rw c.in-Some.is at c.requires.fits in
    rw c.group_place.ensures (fits_next c.args.places.now.entries c.args.places.now.entries k [] (k ∷ []) (way_begins c.args.places.now.entries (k ∷ [])) fits).0

pub raise-requires-clause-by_groups : goal.raise-requires-clause-by_groups
unfolding group_count_in
raise-requires-clause-by_groups c =
    let k = group_key c.args.instance c.in-Some.id in
    let fits : Fits c.args.places.now.entries (k ∷ []) (k ∷ []) = rw c.in-Some.is at c.requires.fits in
    rw c.group_place.ensures (fits_next c.args.places.now.entries c.args.places.now.entries k [] (k ∷ []) (way_begins c.args.places.now.entries (k ∷ [])) fits).1

pub returns-in-Some-clause-counts : goal.returns-in-Some-clause-counts
returns-in-Some-clause-counts c = rw c.in-Some.is (adds_group_ref _ _ _ (rw c.group_place.ensures at c.raise.ensures.counts))
