use Rattle.std.proofs.Common.{◌<◌, length, sym, arith}
use Rattle.fib_board.specs.BoardInvariant.{may_start}
use Rattle.fib_board.proofs.Searching.{search_ends, search_goes_on, position_none}
use Rattle.fib_board.proofs.jobs.next_place.Goals as goal

pub returns-then-may_start_at : goal.returns-then-may_start_at
returns-then-may_start_at c =
    let test = c.loop-at-test.true in
    let end = c.len-at-end.ensures in
    let ok = c.args.jobs.now.ok in
    let within : c.loop-at.at < length c.args.jobs.now.items = omega arith in
    search_ends (may_start c.args.workers c.args.jobs.now.items c.args.worker) c.args.jobs.now.items c.loop-at.at c.loop-at.invariant within c.may_start_at.result c.may_start_at.ensures c.if-may_start_at.true

pub loop-at-preserved : goal.loop-at-preserved
loop-at-preserved c =
    let test = c.loop-at-test.true in
    let end = c.len-at-end.ensures in
    let ok = c.args.jobs.now.ok in
    let within : c.loop-at.at < length c.args.jobs.now.items = omega arith in
    search_goes_on (may_start c.args.workers c.args.jobs.now.items c.args.worker) c.args.jobs.now.items c.loop-at.at c.loop-at.invariant within c.may_start_at.result c.may_start_at.ensures c.if-may_start_at.false

pub returns : goal.returns
returns c =
    let past = c.loop-at-test.false in
    let end = c.len-at-end.ensures in
    let ok = c.args.jobs.now.ok in
    let most = c.loop-at.auto.at-end in
    sym (position_none (may_start c.args.workers c.args.jobs.now.items c.args.worker) c.args.jobs.now.items c.loop-at.at (omega arith) c.loop-at.invariant)
