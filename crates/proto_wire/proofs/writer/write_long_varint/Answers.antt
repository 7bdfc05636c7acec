use Rattle.std.proofs.Common.{◌≡◌, ◌+◌, ◌%◌, take, arith}
use Rattle.std.proofs.lemmas.Grind.{common_steps}
use Rattle.std.proofs.Math.ListN.{set}
use Rattle.proto_wire.specs.Written.{varint}
use Rattle.proto_wire.proofs.Writing.{steps, ends, ends_small}
use Rattle.proto_wire.proofs.writer.write_long_varint.Goals as goal
use Rattle.proto_wire.proofs.writer.write_long_varint.Goals.{then-loop-rest-test+else-count-lt9, else-loop-rest-test}

pub loop-rest-preserved : goal.loop-rest-preserved
loop-rest-preserved c = steps c.args.value c.loop-rest.bytes c.loop-rest.count c.loop-rest.rest c.loop-rest.invariant (omega arith) c.if-count-lt9.true

pub returns-clause-ok : goal.returns-clause-ok
returns-clause-ok c =
    let e : take (c.loop-rest.count + 1) (set c.loop-rest.bytes c.loop-rest.count (c.loop-rest.rest % 128)) ≡ varint c.args.value = elim c.loop-rest-test.branch [
      | then-loop-rest-test+else-count-lt9 w ↦ ends c.args.value c.loop-rest.bytes c.loop-rest.count c.loop-rest.rest c.loop-rest.invariant (λ small. omega (arith, w.loop-rest-test.true)) (omega (arith, w.if-count-lt9.false))
      | else-loop-rest-test w ↦ ends_small c.args.value c.loop-rest.bytes c.loop-rest.count c.loop-rest.rest c.loop-rest.invariant (omega (arith, w.loop-rest-test.false))
    ] in
    rw (← e) (grind (arith, common_steps))
