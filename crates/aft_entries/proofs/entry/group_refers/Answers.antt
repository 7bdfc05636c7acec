use Rattle.aft_entries.proofs.Referring.{group_by_member, group_by_backup}
use Rattle.aft_entries.proofs.entry.group_refers.Goals as goal

pub returns-then-member : goal.returns-then-member
returns-then-member c = group_by_member _ _ _ _ (rw c.as_slice.ensures.items at c.has_member-member.ensures) c.if-member.true

pub returns-else-member : goal.returns-else-member
returns-else-member c = group_by_backup _ _ _ _ (rw c.as_slice.ensures.items at c.has_member-member.ensures) _ c.is_backup.ensures c.if-member.false
