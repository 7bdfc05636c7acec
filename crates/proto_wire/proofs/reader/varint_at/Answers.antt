use Rattle.std.proofs.Common.{sym, arith}
use Rattle.proto_wire.proofs.Varint.{short_varint}
use Rattle.proto_wire.proofs.reader.varint_at.Goals as goal

pub returns-in-len1-up-clause-value : goal.returns-in-len1-up-clause-value
returns-in-len1-up-clause-value c =
    sym (short_varint c.args.bytes.now c.from.result c.in-len1-up.len_at_least (omega (arith, c.from.ensures)) (omega (arith, c.from.ensures, c.if-first-lt128.true)))
