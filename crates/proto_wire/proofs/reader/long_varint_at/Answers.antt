use Rattle.std.proofs.Common.{sym, arith}
use Rattle.proto_wire.proofs.Varint.{steps, ends, ends_tenth, fails_tenth, is_cut}
use Rattle.proto_wire.proofs.reader.long_varint_at.Goals as goal

pub returns-then-part-le1-clause-value : goal.returns-then-part-le1-clause-value
returns-then-part-le1-clause-value c = sym (ends_tenth c.args.bytes.now c.loop-i.value c.loop-i.scale c.loop-i.i c.from-part.result c.loop-i.invariant (omega arith) c.loop-i-test.true c.from-part.ensures (omega arith))

pub returns-else-part-le1-clause-value : goal.returns-else-part-le1-clause-value
returns-else-part-le1-clause-value c = sym (fails_tenth c.args.bytes.now c.loop-i.value c.loop-i.scale c.loop-i.i c.from-part.result c.loop-i.invariant (omega arith) c.loop-i-test.true c.from-part.ensures (omega arith))

pub returns-then-part-lt128-clause-value : goal.returns-then-part-lt128-clause-value
returns-then-part-lt128-clause-value c = sym (ends c.args.bytes.now c.loop-i.value c.loop-i.scale c.loop-i.i c.from-part.result c.loop-i.invariant (omega arith) c.loop-i-test.true c.from-part.ensures (omega arith))

pub loop-i-preserved : goal.loop-i-preserved
loop-i-preserved c = steps c.args.bytes.now c.loop-i.value c.loop-i.scale c.loop-i.i c.from-part.result c.loop-i.invariant (omega arith) c.loop-i-test.true c.from-part.ensures (omega arith) (omega arith)

pub returns-clause-value : goal.returns-clause-value
returns-clause-value c = sym (is_cut c.args.bytes.now c.loop-i.value c.loop-i.scale c.loop-i.i c.loop-i.invariant (omega arith))
