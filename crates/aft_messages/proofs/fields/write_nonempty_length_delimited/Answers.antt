use Rattle.std.proofs.Common.{arith}
use Rattle.aft_messages.proofs.NonEmpty.{nothing_enclosed}
use Rattle.aft_messages.proofs.fields.write_nonempty_length_delimited.Goals as goal

pub returns-then-len-start-clause-ok : goal.returns-then-len-start-clause-ok
returns-then-len-start-clause-ok c = nothing_enclosed c.args.number c.args.start c.args.out.now.items (omega (arith, c.len.ensures, c.if-len-start.true))
