use Rattle.std.proofs.Common.{false, true}
use Rattle.h2_exchange.specs.Calls.{Dropped}
use Rattle.session_engine.specs.Stands.{dropped_is}
use Rattle.server_conn.proofs.DropSteps.{drop_goes, drop_stops}
use Rattle.server_conn.proofs.Passing.{makes_pass, makes_sound}
use Rattle.server_conn.proofs.conn.ServerConn.drop_call.Goals as goal

pub returns-in-Err-clause-pass : goal.returns-in-Err-clause-pass
returns-in-Err-clause-pass g c =
    (let k = c.in-Err.ensures.spent c.args.setting.now (Dropped c.args.stream) dropped_is in
    makes_pass c.args.lock.now.setup c.args.pass.now c.dropped.new.pass k.did c.args.lock.now true c.requires.pass k.spent)

pub returns-in-Err-clause-sound : goal.returns-in-Err-clause-sound
returns-in-Err-clause-sound g c =
    (let k = c.in-Err.ensures.spent c.args.setting.now (Dropped c.args.stream) dropped_is in
    makes_sound c.args.lock.now.setup c.args.pass.now c.dropped.new.pass k.did true k.spent)

pub returns-in-Err-clause-goes : goal.returns-in-Err-clause-goes
returns-in-Err-clause-goes g c = λ t actions pieces own h last. (
  tt,
  drop_stops g.K.CallConnection.stands g.K.CallConnection.output c.args.setting.now c.args.lock.now.setup c.args.pass.now c.dropped.new.pass
      c.args.self.now.calls c.args.self.now.engine c.args.self.now.refused c.args.stream t actions pieces own h c.dropped.new.self
      c.args.self.now.is_ended (λ call is. c.in-Err.ensures.spent c.args.setting.now call is),
)

pub returns-in-Ok-clause-pass : goal.returns-in-Ok-clause-pass
returns-in-Ok-clause-pass g c =
    (let k = c.in-Ok.ensures.done c.args.setting.now (Dropped c.args.stream) dropped_is in
    makes_pass c.args.lock.now.setup c.args.pass.now c.dropped.new.pass k.did c.args.lock.now false c.requires.pass k.entries)

pub returns-in-Ok-clause-sound : goal.returns-in-Ok-clause-sound
returns-in-Ok-clause-sound g c =
    (let k = c.in-Ok.ensures.done c.args.setting.now (Dropped c.args.stream) dropped_is in
    makes_sound c.args.lock.now.setup c.args.pass.now c.dropped.new.pass k.did false k.entries)

pub returns-in-Ok-clause-goes : goal.returns-in-Ok-clause-goes
returns-in-Ok-clause-goes g c = λ t actions pieces own h last. (
  drop_goes g.K.CallConnection.stands g.K.CallConnection.output c.args.setting.now c.args.lock.now.setup c.args.pass.now c.dropped.new.pass
      c.args.self.now.calls c.args.self.now.engine c.args.self.now.refused c.args.stream t actions pieces own h c.dropped.new.self last
      (λ call is. c.in-Ok.ensures.done c.args.setting.now call is),
  tt,
)
