use Rattle.std.proofs.Common.{Some, None}
use Rattle.gribi_words.proofs.Lookups.{value_is}
use Rattle.gribi_words.proofs.given.value_of.Goals as goal

pub returns-in-None : goal.returns-in-None
returns-in-None c = value_is c.args.name.now c.args.given.now None c.in-None.ensures

pub returns-in-Some : goal.returns-in-Some
returns-in-Some c = value_is c.args.name.now c.args.given.now (Some c.in-Some.option.now) c.in-Some.ensures
