use Rattle.std.proofs.Common.{refl}
use Rattle.reference_model.proofs.Payloads.{backup_by_payload}
use Rattle.aft_entries.specs.contracts.entry.Entry
use Rattle.reference_model.proofs.entries.backup_of.Goals as goal

pub returns-in-None : goal.returns-in-None
returns-in-None c = rw (← c.entry.view_is, backup_by_payload (Entry.the_view c.entry.inside) _ c.in-Group.is, c.in-None.is) refl

pub returns-in-Some : goal.returns-in-Some
returns-in-Some c = rw (← c.entry.view_is, backup_by_payload (Entry.the_view c.entry.inside) _ c.in-Group.is, c.in-Some.is) refl

pub returns-in-Hop : goal.returns-in-Hop
returns-in-Hop c = rw (← c.entry.view_is, backup_by_payload (Entry.the_view c.entry.inside) _ c.in-Hop.is) refl

pub returns-in-Route : goal.returns-in-Route
returns-in-Route c = rw (← c.entry.view_is, backup_by_payload (Entry.the_view c.entry.inside) _ c.in-Route.is) refl
