use Rattle.std.proofs.Common.{◌≡◌, ◌<◌, ◌^◌, length, ap, ◌∙◌, to_z-of_z, arith}
use Rattle.grpc_framing.specs.Framing.{item}
use Rattle.table_model.specs.Reply.{operate_reply}
use Rattle.apply_path.specs.History.{response_item}
use Rattle.apply_path.proofs.Sizes.{result_item}
use Rattle.apply_path.proofs.step.append_operation_item.Goals as goal

pub append_item-requires : goal.append_item-requires
append_item-requires c =
    let none : length c.clear.new.self.items ≡ 0 = ap length c.clear.ensures.items in
    let short : length c.append_operation_result.new.out.items < 2 ^ 32 = omega (arith, none, c.in_ok-append_operation_result.ensures.short) in
    rw c.deref.ensures.value short

pub returns-clause-ok : goal.returns-clause-ok
returns-clause-ok c =
    let e : item c.deref.result.now ≡ response_item c.args.n.now c.args.id c.args.now (operate_reply c.args.failed) =
    ap item c.deref.ensures.value ∙ result_item c.args.n.now c.args.id c.args.now c.args.failed c.clear.new.self.items c.append_operation_result.new.out.items c.clear.ensures.items (rw (to_z-of_z c.ranges.now) at c.in_ok-append_operation_result.ensures.ok) in
    rw (← e) c.append_item.ensures.ok
