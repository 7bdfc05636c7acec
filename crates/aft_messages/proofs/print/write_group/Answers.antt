use Rattle.aft_messages.proofs.Printed.{group_sent}
use Rattle.aft_messages.proofs.print.write_group.Goals as goal

pub returns-clause-sent : goal.returns-clause-sent
returns-clause-sent c = group_sent c.args.group.now c.as_slice.result.now c.as_slice.ensures.items c.in_ok-write_members.ensures.sent c.has_64_bits.ensures
