use Rattle.call_sending.proofs.Stopping.{others_spell_on}
use Rattle.call_sending.proofs.laws.others_spell_on.Goals as goal

pub returns : goal.returns
returns c = others_spell_on
