use Rattle.std.proofs.Common.{rules, arith}
use Rattle.std.proofs.lemmas.Grind.{common_steps}
use Rattle.proto_schema.specs.FieldValues.{repeated_at}
use Rattle.aft_messages.proofs.read.read_members.Goals as goal

pub returns-in_default : goal.returns-in_default
unfolding repeated_at
returns-in_default c = rw (← c.field-wanted.ensures.value) (first_of (search rules, grind (arith, common_steps)))
