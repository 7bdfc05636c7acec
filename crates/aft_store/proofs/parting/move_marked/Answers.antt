use Rattle.std.proofs.Common.{◌<◌, length, arith}
use Rattle.aft_store.proofs.Parted.{parted_step, all_marked, all_others}
use Rattle.aft_store.proofs.parting.move_marked.Goals as goal

pub boxes-preserved : goal.boxes-preserved
boxes-preserved c =
    let end = c.len-n-end.ensures in
    let test = c.boxes-test.true in
    let ok = c.args.gone.now.ok in
    let within : c.boxes.n < length c.args.gone.now.items = omega arith in
    let len = c.turn.ensures.len in
    let both = c.turn.ensures.both in
    let capacity = c.turn.ensures.capacity in
    let gone_capacity = c.turn.ensures.gone_capacity in
    let len_before = c.boxes.invariant.1 in
    let both_before = c.boxes.invariant.2 in
    let capacity_before = c.boxes.invariant.3 in
    let gone_before = c.boxes.invariant.4 in
    (parted_step _ _ _ _ _ _ _ c.has_mark.result within c.boxes.invariant.0 c.has_mark.ensures c.turn.ensures.gone c.turn.ensures.entries, omega arith, omega arith, omega arith, omega arith)

pub returns-clause-entries : goal.returns-clause-entries
returns-clause-entries c =
    let end = c.len-n-end.ensures in
    let test = c.boxes-test.false in
    let ok = c.args.gone.now.ok in
    all_marked _ _ _ _ c.boxes.n (omega arith) c.boxes.invariant.0

pub returns-clause-gone : goal.returns-clause-gone
returns-clause-gone c =
    let end = c.len-n-end.ensures in
    let test = c.boxes-test.false in
    let ok = c.args.gone.now.ok in
    all_others _ _ _ _ c.boxes.n (omega arith) c.boxes.invariant.0
