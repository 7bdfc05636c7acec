use Rattle.std.proofs.Common.{◌≡◌, w64, to_z, of_z}
use Rattle.std.proofs.lemmas.Int.{to_z-of_z}
use Rattle.std.proofs.Common.{refl, sym, ap}
use Rattle.inline_worker.specs.Works.{device_told}
use Rattle.inline_worker.proofs.OneTurn.{quiet, given_is, again_is, is_work}
use Rattle.inline_worker.proofs.turning.turn.Goals as goal

pub returns-in-Work-clause-works : goal.returns-in-Work-clause-works
returns-in-Work-clause-works g c = λ config past said one stood counted.
    let back : to_z w64 (of_z w64 c.args.now) ≡ c.args.now = to_z-of_z w64 c.args.now c.ranges.now in
    let asks = rw back at c.in-Work.ensures.asks config past stood in
    (rw back at c.work.ensures.works config past said one) asks.stood (given_is _ _ asks.answer_is) counted

pub returns-in-Work-clause-again : goal.returns-in-Work-clause-again
returns-in-Work-clause-again g c = λ config past stood.
    let back : to_z w64 (of_z w64 c.args.now) ≡ c.args.now = to_z-of_z w64 c.args.now c.ranges.now in
    again_is _ _ (rw back at c.in-Work.ensures.asks config past stood).answer_is

pub returns-in-Passed-clause-works : goal.returns-in-Passed-clause-works
returns-in-Passed-clause-works g c = λ config past said one stood counted.
    let back : to_z w64 (of_z w64 c.args.now) ≡ c.args.now = to_z-of_z w64 c.args.now c.ranges.now in
    let asks = rw back at c.in-Passed.ensures.asks config past stood in
    quiet config one c.args.now past said counted c.ask.new.core (device_told g.D.Device.faults g.D.Device.contents c.args.device.now c.args.device.now) asks.stood (ap is_work (sym asks.answer_is)) refl refl (c.takes_keep_shard.ensures config)

pub returns-in-Passed-clause-again : goal.returns-in-Passed-clause-again
returns-in-Passed-clause-again g c = λ config past stood.
    let back : to_z w64 (of_z w64 c.args.now) ≡ c.args.now = to_z-of_z w64 c.args.now c.ranges.now in
    again_is _ _ (rw back at c.in-Passed.ensures.asks config past stood).answer_is

pub returns-in-Nothing-clause-works : goal.returns-in-Nothing-clause-works
returns-in-Nothing-clause-works g c = λ config past said one stood counted.
    let back : to_z w64 (of_z w64 c.args.now) ≡ c.args.now = to_z-of_z w64 c.args.now c.ranges.now in
    let asks = rw back at c.in-Nothing.ensures.asks config past stood in
    quiet config one c.args.now past said counted c.ask.new.core (device_told g.D.Device.faults g.D.Device.contents c.args.device.now c.args.device.now) asks.stood (ap is_work (sym asks.answer_is)) refl refl (c.takes_keep_shard.ensures config)

pub returns-in-Nothing-clause-again : goal.returns-in-Nothing-clause-again
returns-in-Nothing-clause-again g c = λ config past stood.
    let back : to_z w64 (of_z w64 c.args.now) ≡ c.args.now = to_z-of_z w64 c.args.now c.ranges.now in
    again_is _ _ (rw back at c.in-Nothing.ensures.asks config past stood).answer_is
