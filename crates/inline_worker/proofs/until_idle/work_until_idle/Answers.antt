use Rattle.std.proofs.Common.{◌≡◌, ◌++◌, sym, w64, to_z, of_z, arith}
use Rattle.std.proofs.lemmas.Int.{to_z-of_z}
use Rattle.inline_worker.specs.Turns.{reports}
use Rattle.inline_worker.specs.Works.{device_told}
use Rattle.inline_worker.proofs.Idling.{WorksSoFar, works_all, works_more, fewer_undone, some_said}
use Rattle.inline_worker.proofs.until_idle.work_until_idle.Goals as goal

pub returns-then-not-turn-clause-works : goal.returns-then-not-turn-clause-works
returns-then-not-turn-clause-works g c = λ yes config past said one stood rest counted.
    let back : to_z w64 (of_z w64 c.args.now) ≡ c.args.now = to_z-of_z w64 c.args.now c.ranges.now in
    let so_far : WorksSoFar config c.args.now past said c.loop-now.core (device_told g.D.Device.faults g.D.Device.contents c.args.device.now c.loop-now.device) = rw (← back) (c.loop-now.invariant config past said one stood rest counted) in
    let turn = (rw back at (c.if-not-turn.ensures.works config so_far.after (said ++ so_far.more) one)) so_far.stood so_far.counted in
    let again = (rw back at (c.if-not-turn.ensures.again config so_far.after)) so_far.stood in
    works_all config one (c.idle_is_done.ensures config) c.args.now past said c.loop-now.core c.turn.new.core (device_told g.D.Device.faults g.D.Device.contents c.args.device.now c.loop-now.device) (g.D.Device.faults c.turn.new.device) (g.D.Device.contents c.turn.new.device) so_far turn (sym again)

pub loop-now-smaller : goal.loop-now-smaller
loop-now-smaller g c =
    let back : to_z w64 (of_z w64 c.args.now) ≡ c.args.now = to_z-of_z w64 c.args.now c.ranges.now in
    let config = c.requires.stood.0 in
    let past = c.requires.stood.1 in
    let one = c.requires.stood.2 in
    let stood = c.requires.stood.3 in
    let rest = c.requires.stood.4 in
    let said = (some_said (reports past)).0 in
    let counted = (some_said (reports past)).1 in
    let so_far : WorksSoFar config c.args.now past said c.loop-now.core (device_told g.D.Device.faults g.D.Device.contents c.args.device.now c.loop-now.device) = rw (← back) (c.loop-now.invariant config past said one stood rest counted) in
    let turn = (rw back at (c.if-not-turn.ensures.works config so_far.after (said ++ so_far.more) one)) so_far.stood so_far.counted in
    let again = (rw back at (c.if-not-turn.ensures.again config so_far.after)) so_far.stood in
    fewer_undone config one (c.idle_is_done.ensures config) c.args.now past said c.loop-now.core c.turn.new.core (device_told g.D.Device.faults g.D.Device.contents c.args.device.now c.loop-now.device) (g.D.Device.faults c.turn.new.device) (g.D.Device.contents c.turn.new.device) so_far turn (sym again)

pub loop-now-preserved : goal.loop-now-preserved
loop-now-preserved g c = λ config past said one stood rest counted.
    let back : to_z w64 (of_z w64 c.args.now) ≡ c.args.now = to_z-of_z w64 c.args.now c.ranges.now in
    let so_far : WorksSoFar config c.args.now past said c.loop-now.core (device_told g.D.Device.faults g.D.Device.contents c.args.device.now c.loop-now.device) = rw (← back) (c.loop-now.invariant config past said one stood rest counted) in
    let turn = (rw back at (c.if-not-turn.ensures.works config so_far.after (said ++ so_far.more) one)) so_far.stood so_far.counted in
    let again = (rw back at (c.if-not-turn.ensures.again config so_far.after)) so_far.stood in
    rw back (works_more config one (c.idle_is_done.ensures config) c.args.now past said c.loop-now.core c.turn.new.core (device_told g.D.Device.faults g.D.Device.contents c.args.device.now c.loop-now.device) (g.D.Device.faults c.turn.new.device) (g.D.Device.contents c.turn.new.device) so_far turn (sym again))

pub returns-then-events-ge-MOST_EVENTS-clause-later : goal.returns-then-events-ge-MOST_EVENTS-clause-later
returns-then-events-ge-MOST_EVENTS-clause-later g c =
    let config = c.requires.stood.0 in
    let past = c.requires.stood.1 in
    let said = some_said (reports past) in
    (c.loop-now.invariant config past said.0 c.requires.stood.2 c.requires.stood.3 c.requires.stood.4 said.1).later

pub returns-then-not-turn-clause-later : goal.returns-then-not-turn-clause-later
returns-then-not-turn-clause-later g c =
    let back : to_z w64 (of_z w64 c.args.now) ≡ c.args.now = to_z-of_z w64 c.args.now c.ranges.now in
    let config = c.requires.stood.0 in
    let past = c.requires.stood.1 in
    let one = c.requires.stood.2 in
    let said = some_said (reports past) in
    let so_far : WorksSoFar config c.args.now past said.0 c.loop-now.core (device_told g.D.Device.faults g.D.Device.contents c.args.device.now c.loop-now.device) = rw (← back) (c.loop-now.invariant config past said.0 one c.requires.stood.3 c.requires.stood.4 said.1) in
    let turn = (rw back at (c.if-not-turn.ensures.works config so_far.after (said.0 ++ so_far.more) one)) so_far.stood so_far.counted in
    omega (arith, so_far.later, turn.later)
