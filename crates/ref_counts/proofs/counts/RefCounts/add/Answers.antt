use Rattle.ref_counts.specs.Counting.{group_refs_of}
use Rattle.aft_entries.specs.References.{refs_of}
use Rattle.ref_counts.proofs.counts.RefCounts.add.Goals as goal

pub add_payload-requires-clause-room : goal.add_payload-requires-clause-room
unfolding refs_of
add_payload-requires-clause-room c = rw (← c.self.view_is, ← c.entry.view_is) at c.requires.room

pub add_payload-requires-clause-fits : goal.add_payload-requires-clause-fits
unfolding refs_of group_refs_of
add_payload-requires-clause-fits c = rw (← c.self.view_is, ← c.entry.view_is) at c.requires.fits

pub returns-clause-counts : goal.returns-clause-counts
unfolding refs_of group_refs_of
returns-clause-counts c = rw (← c.self.view_is, ← c.entry.view_is) c.add_payload.ensures.counts

pub returns-clause-spare : goal.returns-clause-spare
unfolding refs_of
returns-clause-spare c = rw (← c.self.view_is, ← c.entry.view_is) c.add_payload.ensures.spare
