use Rattle.std.proofs.Common.{refl}
use Rattle.proto_schema.specs.FieldValues.{repeated_at}
use Rattle.gribi_messages.proofs.pieces.OperationReader.new.Goals as goal

pub returns : goal.returns
unfolding repeated_at
returns c = rw (← c.field.ensures.value, c.new.ensures) refl
