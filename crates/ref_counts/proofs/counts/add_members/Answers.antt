use Rattle.ref_counts.proofs.Tallies.{member_fits, member_up}
use Rattle.std.proofs.Common.{arith}
use Rattle.ref_counts.proofs.counts.add_members.Goals as goal

pub raise-requires-clause-all : goal.raise-requires-clause-all
raise-requires-clause-all c = (member_fits c.args.instance c.members.n c.args.members.now _ _ c.args.places.now.entries _ c.members-test.true c.hop_place.ensures c.members.invariant.0 c.requires.fits).0

pub raise-requires-clause-by_groups : goal.raise-requires-clause-by_groups
raise-requires-clause-by_groups c = (member_fits c.args.instance c.members.n c.args.members.now _ _ c.args.places.now.entries _ c.members-test.true c.hop_place.ensures c.members.invariant.0 c.requires.fits).1

pub members-preserved : goal.members-preserved
members-preserved c =
    let had = c.members.invariant.1 in
    let spent = c.raise.ensures.spare in
    (member_up c.args.instance c.members.n c.args.members.now _ _ c.args.places.now.entries _ c.members-test.true c.hop_place.ensures _ c.members.invariant.0 c.raise.ensures.counts, omega arith)
