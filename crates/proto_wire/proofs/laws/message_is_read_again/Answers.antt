use Rattle.proto_wire.proofs.Again.{fields_from-encoded_fields}
use Rattle.proto_wire.proofs.laws.message_is_read_again.Goals as goal

pub returns : goal.returns
returns c = fields_from-encoded_fields
