use Rattle.std.proofs.Common.{◌++◌, false, refl, true}
use Rattle.h2_exchange.specs.Calls.{Begun}
use Rattle.grpc_stream.specs.declared.event.CallEvent.TheVariants as says
use Rattle.session_engine.specs.Queries.{call_on}
use Rattle.server_conn.proofs.ClientCalls.{begins_is}
use Rattle.server_conn.proofs.ClientSteps.{begin_pass, done_first, given, not_given, spent_first, unopened}
use Rattle.server_conn.proofs.conn.ServerConn.begin.Goals as goal

pub returns-in-Err-clause-pass : goal.returns-in-Err-clause-pass
returns-in-Err-clause-pass g c =
    (begin_pass c.args.lock.now c.args.pass.now c.begin.new.pass true (call_on c.args.self.now.engine c.args.stream)
    c.requires.pass c.requires.sound (λ none. let k = c.in-Err.ensures.spent none c.args.setting.now in (k.did, k.spent))
    (λ some. (c.begin.ensures.nothing some).1)).0

pub returns-in-Err-clause-sound : goal.returns-in-Err-clause-sound
returns-in-Err-clause-sound g c =
    (begin_pass c.args.lock.now c.args.pass.now c.begin.new.pass true (call_on c.args.self.now.engine c.args.stream)
    c.requires.pass c.requires.sound (λ none. let k = c.in-Err.ensures.spent none c.args.setting.now in (k.did, k.spent))
    (λ some. (c.begin.ensures.nothing some).1)).1

pub returns-in-Err-clause-goes : goal.returns-in-Err-clause-goes
returns-in-Err-clause-goes g c = λ t actions pieces own h last. (
  tt,
  spent_first g.K.CallConnection.stands g.K.CallConnection.output c.args.setting.now c.args.lock.now.setup c.args.pass.now
      c.begin.new.pass c.args.self.now.calls c.args.self.now.engine c.args.self.now.refused c.args.stream (says.Begun c.args.stream c.args.method)
      t actions pieces own h (Begun c.args.stream c.args.method) h.next.shows (begins_is c.args.method) c.args.method refl c.begin.new.self c.args.self.now.is_ended
      (c.in-Err.ensures.spent (unopened g.K.CallConnection.stands g.K.CallConnection.output c.args.setting.now c.args.lock.now.setup c.args.pass.now
      c.begin.new.pass c.args.self.now.calls c.args.self.now.engine c.args.self.now.refused c.args.stream (says.Begun c.args.stream c.args.method)
      t actions pieces own h (Begun c.args.stream c.args.method) h.next.shows (begins_is c.args.method) c.args.method refl) c.args.setting.now),
)

pub returns-in-Err-give-clause-pass : goal.returns-in-Err-give-clause-pass
returns-in-Err-give-clause-pass g c =
    (begin_pass c.args.lock.now c.args.pass.now c.begin.new.pass false (call_on c.args.self.now.engine c.args.stream)
    c.requires.pass c.requires.sound (λ none. let k = c.in-Ok.ensures.done none c.args.setting.now in (k.did, k.entries))
    (λ some. (c.begin.ensures.nothing some).1)).0

pub returns-in-Err-give-clause-sound : goal.returns-in-Err-give-clause-sound
returns-in-Err-give-clause-sound g c =
    (begin_pass c.args.lock.now c.args.pass.now c.begin.new.pass false (call_on c.args.self.now.engine c.args.stream)
    c.requires.pass c.requires.sound (λ none. let k = c.in-Ok.ensures.done none c.args.setting.now in (k.did, k.entries))
    (λ some. (c.begin.ensures.nothing some).1)).1

pub returns-in-Err-give-clause-goes : goal.returns-in-Err-give-clause-goes
returns-in-Err-give-clause-goes g c = λ t actions pieces own h last.
    (let d = done_first g.K.CallConnection.stands g.K.CallConnection.output c.args.setting.now c.args.lock.now.setup c.args.pass.now
    c.begin.new.pass c.args.self.now.calls c.args.self.now.engine c.args.self.now.refused c.args.stream (says.Begun c.args.stream c.args.method)
    t actions pieces own h (Begun c.args.stream c.args.method) h.next.shows (begins_is c.args.method) c.args.method refl c.begin.new.self c.in-Ok.step last
    (c.in-Ok.ensures.done (unopened g.K.CallConnection.stands g.K.CallConnection.output c.args.setting.now c.args.lock.now.setup c.args.pass.now
    c.begin.new.pass c.args.self.now.calls c.args.self.now.engine c.args.self.now.refused c.args.stream (says.Begun c.args.stream c.args.method)
    t actions pieces own h (Begun c.args.stream c.args.method) h.next.shows (begins_is c.args.method) c.args.method refl) c.args.setting.now) in
    let k = c.in-Err-give.ensures.goes c.args.setting.now t d.actions pieces (own ++ d.did) refl d.owes in (
      tt,
      not_given g.K.CallConnection.stands g.K.CallConnection.output c.args.setting.now c.args.lock.now.setup c.args.pass.now c.begin.new.pass
          c.args.self.now.calls c.give.new.self.calls c.begin.new.self c.give.new.self.engine c.args.self.now.refused c.give.new.self.refused
          c.args.stream c.in-Ok.step t pieces own d c.give.new.self.is_ended _
          c.in-Err-give.ensures.alive k.1,
    ))

pub returns-in-Ok-give-clause-pass : goal.returns-in-Ok-give-clause-pass
returns-in-Ok-give-clause-pass g c =
    (begin_pass c.args.lock.now c.args.pass.now c.begin.new.pass false (call_on c.args.self.now.engine c.args.stream)
    c.requires.pass c.requires.sound (λ none. let k = c.in-Ok.ensures.done none c.args.setting.now in (k.did, k.entries))
    (λ some. (c.begin.ensures.nothing some).1)).0

pub returns-in-Ok-give-clause-sound : goal.returns-in-Ok-give-clause-sound
returns-in-Ok-give-clause-sound g c =
    (begin_pass c.args.lock.now c.args.pass.now c.begin.new.pass false (call_on c.args.self.now.engine c.args.stream)
    c.requires.pass c.requires.sound (λ none. let k = c.in-Ok.ensures.done none c.args.setting.now in (k.did, k.entries))
    (λ some. (c.begin.ensures.nothing some).1)).1

pub returns-in-Ok-give-clause-goes : goal.returns-in-Ok-give-clause-goes
returns-in-Ok-give-clause-goes g c = λ t actions pieces own h last.
    (let d = done_first g.K.CallConnection.stands g.K.CallConnection.output c.args.setting.now c.args.lock.now.setup c.args.pass.now
    c.begin.new.pass c.args.self.now.calls c.args.self.now.engine c.args.self.now.refused c.args.stream (says.Begun c.args.stream c.args.method)
    t actions pieces own h (Begun c.args.stream c.args.method) h.next.shows (begins_is c.args.method) c.args.method refl c.begin.new.self c.in-Ok.step last
    (c.in-Ok.ensures.done (unopened g.K.CallConnection.stands g.K.CallConnection.output c.args.setting.now c.args.lock.now.setup c.args.pass.now
    c.begin.new.pass c.args.self.now.calls c.args.self.now.engine c.args.self.now.refused c.args.stream (says.Begun c.args.stream c.args.method)
    t actions pieces own h (Begun c.args.stream c.args.method) h.next.shows (begins_is c.args.method) c.args.method refl) c.args.setting.now) in
    let k = c.in-Ok-give.ensures.goes c.args.setting.now t d.actions pieces (own ++ d.did) refl d.owes in (
      given g.K.CallConnection.stands g.K.CallConnection.output c.args.setting.now c.args.lock.now.setup c.args.pass.now c.begin.new.pass
          c.args.self.now.calls c.give.new.self.calls c.begin.new.self c.give.new.self.engine c.args.self.now.refused c.give.new.self.refused
          c.args.stream c.in-Ok.step t pieces own d k.0.0 k.0.1 k.0.3,
      tt,
    ))
