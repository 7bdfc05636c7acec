use Rattle.std.proofs.Common.{◌≡◌, ◌<◌, false, get_or, length, arith}
use Rattle.flush_get.proofs.Passing.{pass_on, more_already, none_here}
use Rattle.flush_get.proofs.passes.mark_referenced.Goals.{then-more, else-more}
use Rattle.flush_get.proofs.passes.mark_referenced.Goals as goal

pub loop-n-preserved : goal.loop-n-preserved
loop-n-preserved c =
    let len = c.put_mark.ensures.len in
    let len_before = c.loop-n.invariant.1 in
    let room = c.put_mark.ensures.capacity in
    let room_before = c.loop-n.invariant.2 in
    let left = c.loop-n-test.true in
    let end = c.len-n-end.ensures in
    let within : c.loop-n.n < length c.args.store.now.entries = omega arith in
    let settled : c.if-more.more ≡ false → (c.loop-n.more ≡ false) × (c.is_reached-has.result ≡ get_or c.args.before.now c.loop-n.n false) = elim c.if-more.branch [
      | then-more v ↦ more_already c.loop-n.more c.if-more.more v.if-more.true v.more-is
      | else-more v ↦ none_here c.loop-n.more c.if-more.more _ _ v.if-more.false v.more-is
    ] in
    (pass_on _ _ _ _ _ _ c.loop-n.more c.if-more.more within c.requires.before c.loop-n.invariant.0 c.put_mark.ensures.items c.is_reached-has.ensures settled, omega arith, omega arith)
