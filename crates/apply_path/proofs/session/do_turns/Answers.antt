use Rattle.std.proofs.Common.{◌≡◌, w64, arith, pos, true, rules}
use Rattle.std.proofs.lemmas.Int.{to_z_pos}
use Rattle.inline_worker.specs.Idle.{WorksUntilIdle}
use Rattle.inline_worker.specs.Turns.{reports}
use Rattle.inline_worker.specs.Works.{device_told}
use Rattle.inline_worker.proofs.Idling.{some_said}
use Rattle.apply_path.proofs.Turning.{then_collects, turns_taken}
use Rattle.apply_path.proofs.session.do_turns.Goals as goal

pub work_until_idle-requires : goal.work_until_idle-requires
work_until_idle-requires g c = let s = c.requires.rest in record { stood = (s.0, s.1, s.3.one_worker, s.2, s.3.rest) }

pub collect_all-requires : goal.collect_all-requires
collect_all-requires g c =
    let s = c.requires.rest in
    let said = some_said (reports s.1) in
    let put : c.work_until_idle.result ≡ true = search rules in
    let now = to_z_pos w64 c.args.number (omega (arith, c.requires.number)) in
    let w : WorksUntilIdle s.0 (pos c.args.number) s.1 said.0 c.work_until_idle.new.core (device_told g.D.Device.faults g.D.Device.contents c.args.device.now c.work_until_idle.new.device) = (rw now at (c.work_until_idle.ensures.works put)) s.0 s.1 said.0 s.3.one_worker s.2 s.3.rest said.1 in
    record { rest = (s.0, w.works.after, w.works.stood, then_collects c.args.n.now s.0 (pos c.args.number) s.1 said.0 c.work_until_idle.new.core c.work_until_idle.new.core _ s.3 w) }

pub returns : goal.returns
returns g c = λ config past said stood takes counted.
    let put : c.work_until_idle.result ≡ true = search rules in
    let now = to_z_pos w64 c.args.number (omega (arith, c.requires.number)) in
    let w : WorksUntilIdle config (pos c.args.number) past said c.work_until_idle.new.core (device_told g.D.Device.faults g.D.Device.contents c.args.device.now c.work_until_idle.new.device) = (rw now at (c.work_until_idle.ensures.works put)) config past said takes.one_worker stood takes.rest counted in
    turns_taken c.args.n.now config (pos c.args.number) past said c.work_until_idle.new.core c.collect_all.new.core _ takes w c.collect_all.result _ _
    (c.collect_all.ensures config w.works.after w.works.stood (then_collects c.args.n.now config (pos c.args.number) past said c.work_until_idle.new.core c.work_until_idle.new.core _ takes w))
