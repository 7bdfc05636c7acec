use Rattle.proto_wire.proofs.Fewest.{length-varint}
use Rattle.proto_wire.proofs.laws.varint_is_shortest.Goals as goal

pub returns : goal.returns
returns c = length-varint
