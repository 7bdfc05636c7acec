use Rattle.std.proofs.Common.{Some, ap, refl}
use Rattle.grpc_heads.specs.GrpcStatus.{GrpcStatus}
use Rattle.session_engine.proofs.Giving.{given_last, given_none, given_part}
use Rattle.session_engine.proofs.known_rows.give_next.Goals as goal

pub returns-then-is_over-clause-given : goal.returns-then-is_over-clause-given
returns-then-is_over-clause-given c =
    given_none c.args.setting.now c.args.rows.now c.is_over.result c.args.out.now (record { answers = c.args.out.now.answers; end = Some c.good_end.result; halted = c.args.out.now.halted })
    c.is_over.ensures c.if-is_over.true c.requires.no_end refl (ap (λ (x : GrpcStatus). Some x) c.good_end.ensures)

pub returns-then-is_over-2-clause-given : goal.returns-then-is_over-2-clause-given
returns-then-is_over-2-clause-given c =
    given_last c.args.setting.now c.args.rows.now c.next_response.new.self c.in-Ok.bytes.items c.is_over-2.result c.args.out.now (record { answers = c.push.new.self; end = Some c.good_end-then-is_over-2.result; halted = c.args.out.now.halted })
    c.in-Ok.ensures.ok c.is_over-2.ensures c.if-is_over-2.true c.requires.no_end c.in-Ok-push.ensures.ok (ap (λ (x : GrpcStatus). Some x) c.good_end-then-is_over-2.ensures)

pub returns-clause-given : goal.returns-clause-given
returns-clause-given c =
    given_part c.args.setting.now c.args.rows.now c.next_response.new.self c.in-Ok.bytes.items c.is_over.result c.is_over-2.result c.args.out.now (record { answers = c.push.new.self; end = c.args.out.now.end; halted = c.args.out.now.halted })
    c.is_over.ensures c.if-is_over.false c.in-Ok.ensures.rest c.in-Ok.ensures.ok c.is_over-2.ensures c.if-is_over-2.false c.requires.no_end c.in-Ok-push.ensures.ok c.requires.no_end
