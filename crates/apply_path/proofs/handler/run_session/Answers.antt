use Rattle.std.proofs.Common.{[], refl}
use Rattle.apply_path.specs.Responses.{apply_behaviour}
use Rattle.apply_path.proofs.Applies.{session_applies}
use Rattle.apply_path.proofs.Sessions.{session_begun}
use Rattle.apply_path.proofs.handler.run_session.Goals as goal

pub run-requires : goal.run-requires
run-requires g c =
    let s = c.args.session.now.setting.now in
    let h = session_begun s c.args.session.now.state.now.core c.args.session.now.state.now.count (g.D.Device.faults c.args.session.now.device.now) (g.D.Device.contents c.args.session.now.device.now) c.requires.count c.requires.begun in
    rw (← c.requires.device) (record { first = (apply_behaviour s [], h.shown, h) })

pub returns-clause-applies : goal.returns-clause-applies
returns-clause-applies g c =
    let s = c.args.session.now.setting.now in
    let h = session_begun s c.args.session.now.state.now.core c.args.session.now.state.now.count (g.D.Device.faults c.args.session.now.first.now.value) (g.D.Device.contents c.args.session.now.first.now.value) c.requires.count c.requires.begun in
    let first = (rw c.requires.device at c.run.ensures.runs) (apply_behaviour s []) h.shown h in
    let kept = c.run.ensures.became c.args.session.now (refl, refl, refl) in
    rw (← kept.0, c.requires.device, ← kept.1)
    (session_applies c.empty_holds_shard.ensures c.run.new.server.setting.now c.run.new.server.state.now.core c.run.new.server.state.now.count c.run.result _ _ first c.run.ensures.status)

pub returns-clause-same : goal.returns-clause-same
returns-clause-same g c = (c.run.ensures.became c.args.session.now (refl, refl, refl)).2
