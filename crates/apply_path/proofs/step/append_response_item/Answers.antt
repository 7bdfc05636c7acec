use Rattle.std.proofs.Common.{◌≡◌, ◌<◌, ◌^◌, length, ap, arith}
use Rattle.apply_path.proofs.step.append_response_item.Goals as goal

pub append_item-requires : goal.append_item-requires
append_item-requires c =
    let none : length c.clear.new.self.items ≡ 0 = ap length c.clear.ensures.items in
    let short : length c.append_answer.new.out.items < 2 ^ 32 = omega (arith, none, c.in_ok-append_answer.ensures.short) in
    rw c.deref.ensures.value short
