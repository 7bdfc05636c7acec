use Rattle.proto_schema.specs.Schema.{kind_of}
use Rattle.proto_schema.proofs.schema.field_kind.Goals as goal

pub returns-in-AftOperation : goal.returns-in-AftOperation
unfolding kind_of
returns-in-AftOperation c = rw c.in-AftOperation.is c.aft_operation_field.ensures
