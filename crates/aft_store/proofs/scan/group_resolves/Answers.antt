use Rattle.table_model.specs.Table as spec
use Rattle.aft_store.proofs.Scans.{all_members, not_all_members}
use Rattle.aft_store.proofs.scan.group_resolves.Goals as goal

pub returns-then-members : goal.returns-then-members
returns-then-members c = all_members (spec.has c.args.store.now.entries) _ _ _ (rw c.as_slice.ensures.items at c.members_resolve-members.ensures) _ c.backup_resolves.ensures c.if-members.true

pub returns-else-members : goal.returns-else-members
returns-else-members c = not_all_members (spec.has c.args.store.now.entries) _ _ _ (rw c.as_slice.ensures.items at c.members_resolve-members.ensures) c.if-members.false
