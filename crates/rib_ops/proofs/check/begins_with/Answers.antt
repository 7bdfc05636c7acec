use Rattle.rib_ops.proofs.Neighbours.{first_tells}
use Rattle.rib_ops.proofs.check.begins_with.Goals as goal

pub returns-in-len1-up : goal.returns-in-len1-up
returns-in-len1-up c = first_tells c.args.members.now c.args.hop _ c.in-len1-up.len_at_least c.requires.0 c.requires.1
