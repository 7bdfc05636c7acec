use Rattle.std.proofs.Common.{true, refl}
use Rattle.ref_counts.specs.Counting.{hop_keys, backup_keys}
use Rattle.ref_counts.proofs.Tallies.{holds_first, holds_then, drops_append, adds_route_ref, route_holds, place_from}
use Rattle.ref_counts.proofs.counts.drop_payload.Goals as goal

pub drop_members-requires : goal.drop_members-requires
drop_members-requires c =
    let hops = hop_keys c.args.instance c.in-Group.group.members in
    let backups = backup_keys c.args.instance c.in-Group.group.backup in
    rw c.as_slice.ensures.items (holds_first c.args.places.now.entries c.args.places.now.entries hops backups hops backups (rw c.in-Group.is at c.requires))

pub drop_backup-requires : goal.drop_backup-requires
drop_backup-requires c =
    let hops = hop_keys c.args.instance c.in-Group.group.members in
    let backups = backup_keys c.args.instance c.in-Group.group.backup in
    holds_then c.args.places.now.entries _ hops backups hops backups (rw c.in-Group.is at c.requires) (rw c.as_slice.ensures.items at c.drop_members.ensures.counts)

pub lower-requires-clause-all : goal.lower-requires-clause-all
lower-requires-clause-all c = rw c.group_place.ensures (route_holds c.args.places.now.entries (place_from c.in-Route.route.instance true c.in-Route.route.group) refl (rw c.in-Route.is at c.requires))

pub returns-in-Group-clause-counts : goal.returns-in-Group-clause-counts
returns-in-Group-clause-counts c =
    rw c.in-Group.is (drops_append _ _ c.args.places.now.entries _ _ _ _ c.drop_backup.ensures.counts (rw c.as_slice.ensures.items at c.drop_members.ensures.counts))

pub returns-in-Route-clause-counts : goal.returns-in-Route-clause-counts
returns-in-Route-clause-counts c = rw c.in-Route.is (adds_route_ref _ _ _ (rw c.group_place.ensures at c.lower.ensures.counts))
