use Rattle.proto_wire.proofs.Again.{fields_from-uint, fields_from-bytes}
use Rattle.proto_wire.proofs.laws.field_is_read_again.Goals as goal

pub returns-clause-uint : goal.returns-clause-uint
returns-clause-uint c = fields_from-uint

pub returns-clause-bytes : goal.returns-clause-bytes
returns-clause-bytes c = fields_from-bytes
