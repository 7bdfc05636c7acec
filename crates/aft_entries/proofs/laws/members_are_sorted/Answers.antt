use Rattle.aft_entries.proofs.SameMembers.{same_members, members_in_order}
use Rattle.aft_entries.proofs.laws.members_are_sorted.Goals as goal

pub returns-clause-same : goal.returns-clause-same
returns-clause-same c members = same_members members

pub returns-clause-order : goal.returns-clause-order
returns-clause-order c members = members_in_order members
