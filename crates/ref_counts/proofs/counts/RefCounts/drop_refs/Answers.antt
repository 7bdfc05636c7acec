use Rattle.ref_counts.specs.Counting.{group_refs_of}
use Rattle.aft_entries.specs.References.{refs_of}
use Rattle.ref_counts.proofs.counts.RefCounts.drop_refs.Goals as goal

pub drop_payload-requires : goal.drop_payload-requires
unfolding refs_of group_refs_of
drop_payload-requires c = rw (← c.self.view_is, ← c.entry.view_is) at c.requires

pub returns-clause-counts : goal.returns-clause-counts
unfolding refs_of group_refs_of
returns-clause-counts c = rw (← c.self.view_is, ← c.entry.view_is) c.drop_payload.ensures.counts
