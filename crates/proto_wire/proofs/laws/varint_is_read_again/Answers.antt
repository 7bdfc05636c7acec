use Rattle.proto_wire.proofs.Again.{varint_at-again}
use Rattle.proto_wire.proofs.laws.varint_is_read_again.Goals as goal

pub returns : goal.returns
returns c = varint_at-again
