use Rattle.proto_schema.specs.Legal.{first_fault}
use Rattle.proto_schema.proofs.Depth.{six_is_enough}
use Rattle.proto_schema.proofs.legal.depth_is_enough.Goals as goal

pub returns : goal.returns
unfolding first_fault
returns c = λ more n m bytes. six_is_enough more n m 0 bytes
