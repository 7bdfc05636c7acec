use Rattle.std.proofs.Common.{sym, ◌∙◌, refl}
use Rattle.aft_store.proofs.Scans.{resolves_by_payload, and_true}
use Rattle.aft_entries.specs.contracts.entry.Entry
use Rattle.aft_store.proofs.scan.resolves.Goals as goal

pub returns-in-Hop : goal.returns-in-Hop
returns-in-Hop c = rw (← c.entry.view_is, resolves_by_payload c.args.store.now.entries (Entry.the_view c.entry.inside) _ c.in-Hop.is) refl

pub returns-in-Group : goal.returns-in-Group
returns-in-Group c = rw (← c.entry.view_is, resolves_by_payload c.args.store.now.entries (Entry.the_view c.entry.inside) _ c.in-Group.is) c.group_resolves.ensures

pub returns-in-Route : goal.returns-in-Route
returns-in-Route c = rw (← c.entry.view_is, resolves_by_payload c.args.store.now.entries (Entry.the_view c.entry.inside) _ c.in-Route.is) (c.has.ensures ∙ sym (and_true _))
