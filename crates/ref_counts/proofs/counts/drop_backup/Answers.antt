use Rattle.std.proofs.Common.{[], ◌∷◌}
use Rattle.aft_entries.specs.References.{group_key}
use Rattle.ref_counts.specs.Counting.{count_in, group_count_in, Holds}
use Rattle.ref_counts.proofs.Tallies.{adds_group_ref, holds_next, way_begins}
use Rattle.ref_counts.proofs.counts.drop_backup.Goals as goal

pub lower-requires-clause-all : goal.lower-requires-clause-all
unfolding count_in
lower-requires-clause-all c =
    let k = group_key c.args.instance c.in-Some.id in
    let holds : Holds c.args.places.now.entries (k ∷ []) (k ∷ []) = rw c.in-Some.is at c.requires in
    rw c.group_place.ensures (holds_next c.args.places.now.entries c.args.places.now.entries k [] (k ∷ []) (way_begins c.args.places.now.entries (k ∷ [])) holds).0

pub lower-requires-clause-by_groups : goal.lower-requires-clause-by_groups
unfolding group_count_in
lower-requires-clause-by_groups c =
    let k = group_key c.args.instance c.in-Some.id in
    let holds : Holds c.args.places.now.entries (k ∷ []) (k ∷ []) = rw c.in-Some.is at c.requires in
    rw c.group_place.ensures (holds_next c.args.places.now.entries c.args.places.now.entries k [] (k ∷ []) (way_begins c.args.places.now.entries (k ∷ [])) holds).1

pub returns-in-Some-clause-counts : goal.returns-in-Some-clause-counts
returns-in-Some-clause-counts c = rw c.in-Some.is (adds_group_ref _ _ _ (rw c.group_place.ensures at c.lower.ensures.counts))
