use Rattle.script_lang.proofs.Keeping.{script_keeps}
use Rattle.script_lang.proofs.laws.lines_are_kept.Goals as goal

pub returns : goal.returns
returns c = script_keeps
