use Rattle.std.proofs.Common.{arith}
use Rattle.std.proofs.lemmas.Grind.{common_steps}
use Rattle.aft_messages.proofs.Printed.{members_more, members_sent}
use Rattle.aft_messages.proofs.print.write_members.Goals as goal

pub loop-member-preserved : goal.loop-member-preserved
loop-member-preserved c =
    (grind (arith, common_steps), members_more c.args.members.now c.loop-member.member-index _ _ c.loop-member-test.true c.loop-member.invariant.1 c.has_64_bits.ensures c.from.ensures c.has_64_bits-in-loop-member.ensures)

pub returns-clause-sent : goal.returns-clause-sent
returns-clause-sent c = members_sent c.args.members.now c.loop-member.member-index c.loop-member-test.false c.loop-member.invariant.1
