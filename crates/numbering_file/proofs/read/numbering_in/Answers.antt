use Rattle.numbering_file.proofs.Walks.{walk_fault}
use Rattle.numbering_file.proofs.read.numbering_in.Goals as goal

pub returns-in-Some-read_parts : goal.returns-in-Some-read_parts
returns-in-Some-read_parts c = walk_fault _ _ _ _ c.in-Some.ensures c.in-Ok.ensures c.in-Some-read_parts.ensures
