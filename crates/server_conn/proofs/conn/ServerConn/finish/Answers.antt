use Rattle.std.proofs.Common.{◌++◌, false, refl, true}
use Rattle.h2_exchange.specs.Calls.{Finished}
use Rattle.grpc_stream.specs.declared.event.CallEvent.TheVariants as says
use Rattle.server_conn.proofs.ClientCalls.{finishes_is}
use Rattle.server_conn.proofs.ClientSteps.{done_for, given, not_given, spent_for}
use Rattle.server_conn.proofs.Passing.{makes_pass, makes_sound}
use Rattle.server_conn.proofs.conn.ServerConn.finish.Goals as goal

pub returns-in-Err-clause-pass : goal.returns-in-Err-clause-pass
returns-in-Err-clause-pass g c =
    makes_pass c.args.lock.now.setup c.args.pass.now c.finish.new.pass c.in-Err.ensures.spent.did c.args.lock.now true c.requires.pass
    c.in-Err.ensures.spent.spent

pub returns-in-Err-clause-sound : goal.returns-in-Err-clause-sound
returns-in-Err-clause-sound g c =
    makes_sound c.args.lock.now.setup c.args.pass.now c.finish.new.pass c.in-Err.ensures.spent.did true c.in-Err.ensures.spent.spent

pub returns-in-Err-clause-goes : goal.returns-in-Err-clause-goes
returns-in-Err-clause-goes g c = λ t actions pieces own h last. (
  tt,
  spent_for g.K.CallConnection.stands g.K.CallConnection.output c.args.setting.now c.args.lock.now.setup c.args.pass.now
      c.finish.new.pass c.args.self.now.calls c.args.self.now.engine c.args.self.now.refused c.args.stream (says.Finished c.args.stream)
      t actions pieces own h (Finished c.args.stream) h.next.shows finishes_is c.finish.new.self c.args.self.now.is_ended
      c.in-Err.ensures.spent,
)

pub returns-in-Err-give-clause-pass : goal.returns-in-Err-give-clause-pass
returns-in-Err-give-clause-pass g c =
    makes_pass c.args.lock.now.setup c.args.pass.now c.finish.new.pass c.in-Ok.ensures.done.did c.args.lock.now false c.requires.pass
    c.in-Ok.ensures.done.entries

pub returns-in-Err-give-clause-sound : goal.returns-in-Err-give-clause-sound
returns-in-Err-give-clause-sound g c =
    makes_sound c.args.lock.now.setup c.args.pass.now c.finish.new.pass c.in-Ok.ensures.done.did false c.in-Ok.ensures.done.entries

pub returns-in-Err-give-clause-goes : goal.returns-in-Err-give-clause-goes
returns-in-Err-give-clause-goes g c = λ t actions pieces own h last.
    (let d = done_for g.K.CallConnection.stands g.K.CallConnection.output c.args.setting.now c.args.lock.now.setup c.args.pass.now
    c.finish.new.pass c.args.self.now.calls c.args.self.now.engine c.args.self.now.refused c.args.stream (says.Finished c.args.stream)
    t actions pieces own h (Finished c.args.stream) h.next.shows finishes_is c.finish.new.self c.in-Ok.step last
    c.in-Ok.ensures.done in
    let k = c.in-Err-give.ensures.goes c.args.setting.now t d.actions pieces (own ++ d.did) refl d.owes in (
      tt,
      not_given g.K.CallConnection.stands g.K.CallConnection.output c.args.setting.now c.args.lock.now.setup c.args.pass.now c.finish.new.pass
          c.args.self.now.calls c.give.new.self.calls c.finish.new.self c.give.new.self.engine c.args.self.now.refused c.give.new.self.refused
          c.args.stream c.in-Ok.step t pieces own d c.give.new.self.is_ended _
          c.in-Err-give.ensures.alive k.1,
    ))

pub returns-in-Ok-give-clause-pass : goal.returns-in-Ok-give-clause-pass
returns-in-Ok-give-clause-pass g c =
    makes_pass c.args.lock.now.setup c.args.pass.now c.finish.new.pass c.in-Ok.ensures.done.did c.args.lock.now false c.requires.pass
    c.in-Ok.ensures.done.entries

pub returns-in-Ok-give-clause-sound : goal.returns-in-Ok-give-clause-sound
returns-in-Ok-give-clause-sound g c =
    makes_sound c.args.lock.now.setup c.args.pass.now c.finish.new.pass c.in-Ok.ensures.done.did false c.in-Ok.ensures.done.entries

pub returns-in-Ok-give-clause-goes : goal.returns-in-Ok-give-clause-goes
returns-in-Ok-give-clause-goes g c = λ t actions pieces own h last.
    (let d = done_for g.K.CallConnection.stands g.K.CallConnection.output c.args.setting.now c.args.lock.now.setup c.args.pass.now
    c.finish.new.pass c.args.self.now.calls c.args.self.now.engine c.args.self.now.refused c.args.stream (says.Finished c.args.stream)
    t actions pieces own h (Finished c.args.stream) h.next.shows finishes_is c.finish.new.self c.in-Ok.step last
    c.in-Ok.ensures.done in
    let k = c.in-Ok-give.ensures.goes c.args.setting.now t d.actions pieces (own ++ d.did) refl d.owes in (
      given g.K.CallConnection.stands g.K.CallConnection.output c.args.setting.now c.args.lock.now.setup c.args.pass.now c.finish.new.pass
          c.args.self.now.calls c.give.new.self.calls c.finish.new.self c.give.new.self.engine c.args.self.now.refused c.give.new.self.refused
          c.args.stream c.in-Ok.step t pieces own d k.0.0 k.0.1 k.0.3,
      tt,
    ))
