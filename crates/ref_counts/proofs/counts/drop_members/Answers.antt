use Rattle.ref_counts.proofs.Tallies.{member_holds, member_down}
use Rattle.std.proofs.Common.{arith}
use Rattle.ref_counts.proofs.counts.drop_members.Goals as goal

pub lower-requires-clause-all : goal.lower-requires-clause-all
lower-requires-clause-all c = (member_holds c.args.instance c.members.n c.args.members.now _ _ c.args.places.now.entries _ c.members-test.true c.hop_place.ensures c.members.invariant.0 c.requires).0

pub lower-requires-clause-by_groups : goal.lower-requires-clause-by_groups
lower-requires-clause-by_groups c = (member_holds c.args.instance c.members.n c.args.members.now _ _ c.args.places.now.entries _ c.members-test.true c.hop_place.ensures c.members.invariant.0 c.requires).1

pub members-preserved : goal.members-preserved
members-preserved c =
    let had = c.members.invariant.1 in
    let spent = c.lower.ensures.spare in
    (member_down c.args.instance c.members.n c.args.members.now _ _ c.args.places.now.entries _ c.members-test.true c.hop_place.ensures _ c.members.invariant.0 c.lower.ensures.counts, omega arith)
