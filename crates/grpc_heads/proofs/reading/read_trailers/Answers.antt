use Rattle.std.proofs.Common.{inr}
use Rattle.grpc_heads.proofs.Codes.{given}
use Rattle.grpc_heads.proofs.reading.read_trailers.Goals as goal

pub returns-in-Ok : goal.returns-in-Ok
returns-in-Ok c =
    inr (given c.args.n.now c.args.fields.now c.as_slice-fields.result.now c.value.result c.in-Some.text c.code_of.result c.in-Some-code_of.code c.in-Ok.status
    c.value.ensures c.in-Some.is c.as_slice-fields.ensures c.code_of.ensures.code c.in-Some-code_of.is c.in-Ok.ensures)
