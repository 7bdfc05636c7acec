use Rattle.std.proofs.Common.{true, refl}
use Rattle.ref_counts.specs.Counting.{hop_keys, backup_keys}
use Rattle.ref_counts.proofs.Tallies.{fits_first, fits_then, adds_append, adds_route_ref, route_fits, place_from}
use Rattle.ref_counts.proofs.counts.add_payload.Goals as goal

pub add_members-requires-clause-fits : goal.add_members-requires-clause-fits
add_members-requires-clause-fits c =
    let hops = hop_keys c.args.instance c.in-Group.group.members in
    let backups = backup_keys c.args.instance c.in-Group.group.backup in
    rw c.as_slice.ensures.items (fits_first c.args.places.now.entries c.args.places.now.entries hops backups hops backups (rw c.in-Group.is at c.requires.fits))

pub add_backup-requires-clause-fits : goal.add_backup-requires-clause-fits
add_backup-requires-clause-fits c =
    let hops = hop_keys c.args.instance c.in-Group.group.members in
    let backups = backup_keys c.args.instance c.in-Group.group.backup in
    fits_then c.args.places.now.entries _ hops backups hops backups (rw c.in-Group.is at c.requires.fits) (rw c.as_slice.ensures.items at c.add_members.ensures.counts)

pub raise-requires-clause-all : goal.raise-requires-clause-all
raise-requires-clause-all c = rw c.group_place.ensures (route_fits c.args.places.now.entries (place_from c.in-Route.route.instance true c.in-Route.route.group) refl (rw c.in-Route.is at c.requires.fits)).0

pub raise-requires-clause-by_groups : goal.raise-requires-clause-by_groups
raise-requires-clause-by_groups c = rw c.group_place.ensures (route_fits c.args.places.now.entries (place_from c.in-Route.route.instance true c.in-Route.route.group) refl (rw c.in-Route.is at c.requires.fits)).1

pub returns-in-Group-clause-counts : goal.returns-in-Group-clause-counts
returns-in-Group-clause-counts c =
    rw c.in-Group.is (adds_append c.args.places.now.entries _ _ _ _ _ _ (rw c.as_slice.ensures.items at c.add_members.ensures.counts) c.add_backup.ensures.counts)

pub returns-in-Route-clause-counts : goal.returns-in-Route-clause-counts
returns-in-Route-clause-counts c = rw c.in-Route.is (adds_route_ref _ _ _ (rw c.group_place.ensures at c.raise.ensures.counts))
