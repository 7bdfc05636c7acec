use Rattle.call_sending.proofs.Turned.{turns_spell}
use Rattle.call_sending.proofs.laws.turns_spell.Goals as goal

pub returns : goal.returns
returns c = turns_spell
