use Rattle.std.proofs.Common.{refl}
use Rattle.grpc_heads.proofs.Escapes.{made}
use Rattle.grpc_heads.proofs.written.escaped.Goals as goal

pub returns : goal.returns
returns c =
    made _ _ _ _ _ _ _ refl c.from_string.ensures refl c.in_ok-append_to.ensures.ok c.new-text.ensures.bytes c.percent_encode.ensures.text
