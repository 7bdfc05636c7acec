use Rattle.std.proofs.lemmas.Result.{err_from_is_err_and}
use Rattle.server_conn.proofs.Grown.{stops_from}
use Rattle.server_conn.proofs.Tellings.{all_told, event_heard, gives_grows, goes_from, told_calm, told_refused, told_starved}
use Rattle.server_conn.proofs.conn.ServerConn.hear.Goals as goal

pub returns-in-NeedMore-clause-goes : goal.returns-in-NeedMore-clause-goes
returns-in-NeedMore-clause-goes g c = λ t actions pieces own h last. (let k = c.in-NeedMore.ensures.says t h.used h.agrees.server.numbers in (
  all_told g.K.CallConnection.stands g.K.CallConnection.output c.args.setting.now c.args.lock.now.setup
      c.args.self.now.calls c.next.new.self c.args.self.now.engine c.args.self.now.refused t k.0 actions pieces own h k.1
      (g.met.K.CallConnection.sound c.next.new.self k.0 k.1) c.args.pass.now c.requires.sound k.2,
  tt,
))

pub returns-in-Refused-clause-goes : goal.returns-in-Refused-clause-goes
returns-in-Refused-clause-goes g c = λ t actions pieces own h last. (let k = c.in-Refused.ensures.says t h.used h.agrees.server.numbers in (
  tt,
  told_refused g.K.CallConnection.stands g.K.CallConnection.output c.args.setting.now c.args.lock.now.setup
      c.args.self.now.calls c.next.new.self c.args.self.now.engine c.args.self.now.refused t k.0 actions pieces own h k.1
      (g.met.K.CallConnection.sound c.next.new.self k.0 k.1) c.args.pass.now c.requires.sound _ _ c.args.self.now.is_ended k.2,
))

pub returns-in-Calm-clause-goes : goal.returns-in-Calm-clause-goes
returns-in-Calm-clause-goes g c = λ t actions pieces own h last. (let k = c.in-Calm.ensures.says t h.used h.agrees.server.numbers in (
  tt,
  told_calm g.K.CallConnection.stands g.K.CallConnection.output c.args.setting.now c.args.lock.now.setup
      c.args.self.now.calls c.next.new.self c.args.self.now.engine c.args.self.now.refused t k.0 actions pieces own h k.1
      (g.met.K.CallConnection.sound c.next.new.self k.0 k.1) c.args.pass.now c.requires.sound _ c.args.self.now.is_ended k.2,
))

pub returns-in-NoMemory-clause-goes : goal.returns-in-NoMemory-clause-goes
returns-in-NoMemory-clause-goes g c = λ t actions pieces own h last. (let k = c.in-NoMemory.ensures.says t h.used h.agrees.server.numbers in (
  tt,
  told_starved g.K.CallConnection.stands g.K.CallConnection.output c.args.setting.now c.args.lock.now.setup
      c.args.self.now.calls c.next.new.self c.args.self.now.engine c.args.self.now.refused t k.0 actions pieces own h k.1
      (g.met.K.CallConnection.sound c.next.new.self k.0 k.1) c.args.pass.now c.requires.sound c.args.self.now.is_ended k.2,
))

pub returns-in_err-begin-in-Begun-clause-goes : goal.returns-in_err-begin-in-Begun-clause-goes
returns-in_err-begin-in-Begun-clause-goes g c = (let p = err_from_is_err_and c.from_residual.result c.from_residual.ensures.1 in rw (p.1, p.2) (λ t actions pieces own h last.
    (let k = c.in-Begun.ensures.says t h.used h.agrees.server.numbers in
    let m = c.in_err-begin-in-Begun.ensures.goes k.0 actions pieces own (event_heard g.K.CallConnection.stands g.K.CallConnection.output c.args.setting.now c.args.lock.now.setup
    c.args.self.now.calls c.next.new.self c.args.self.now.engine c.args.self.now.refused t k.0 actions pieces own h k.1
    (g.met.K.CallConnection.sound c.next.new.self k.0 k.1) _ k.2) last in (
      tt,
      stops_from c.args.setting.now t k.0 (gives_grows t k.0 _ k.2) g.K.CallConnection.stands g.K.CallConnection.output c.args.lock.now.setup
          c.args.pass.now c.begin.new.pass c.begin.new.self.calls c.begin.new.self.engine c.begin.new.self.refused pieces own c.begin.new.self.is_ended _ m.1,
    ))))

pub returns-in-Begun-clause-goes : goal.returns-in-Begun-clause-goes
returns-in-Begun-clause-goes g c = λ t actions pieces own h last.
    (let k = c.in-Begun.ensures.says t h.used h.agrees.server.numbers in
    let m = c.in_ok-begin-in-Begun.ensures.goes k.0 actions pieces own (event_heard g.K.CallConnection.stands g.K.CallConnection.output c.args.setting.now c.args.lock.now.setup
    c.args.self.now.calls c.next.new.self c.args.self.now.engine c.args.self.now.refused t k.0 actions pieces own h k.1
    (g.met.K.CallConnection.sound c.next.new.self k.0 k.1) _ k.2) last in (
      goes_from g.K.CallConnection.stands g.K.CallConnection.output c.args.setting.now c.args.lock.now.setup c.args.pass.now c.begin.new.pass
          c.begin.new.self.calls c.begin.new.self.engine c.begin.new.self.refused t k.0 pieces own (gives_grows t k.0 _ k.2) m.0,
      tt,
    ))

pub returns-in_err-request-in-Request-clause-goes : goal.returns-in_err-request-in-Request-clause-goes
returns-in_err-request-in-Request-clause-goes g c = (let p = err_from_is_err_and c.from_residual-in_err-request-in-Request.result c.from_residual-in_err-request-in-Request.ensures.1 in rw (p.1, p.2) (λ t actions pieces own h last.
    (let k = c.in-Request.ensures.says t h.used h.agrees.server.numbers in
    let m = c.in_err-request-in-Request.ensures.goes k.0 actions pieces own (event_heard g.K.CallConnection.stands g.K.CallConnection.output c.args.setting.now c.args.lock.now.setup
    c.args.self.now.calls c.next.new.self c.args.self.now.engine c.args.self.now.refused t k.0 actions pieces own h k.1
    (g.met.K.CallConnection.sound c.next.new.self k.0 k.1) _ k.2) last in (
      tt,
      stops_from c.args.setting.now t k.0 (gives_grows t k.0 _ k.2) g.K.CallConnection.stands g.K.CallConnection.output c.args.lock.now.setup
          c.args.pass.now c.request.new.pass c.request.new.self.calls c.request.new.self.engine c.request.new.self.refused pieces own c.request.new.self.is_ended _ m.1,
    ))))

pub returns-in-Request-clause-goes : goal.returns-in-Request-clause-goes
returns-in-Request-clause-goes g c = λ t actions pieces own h last.
    (let k = c.in-Request.ensures.says t h.used h.agrees.server.numbers in
    let m = c.in_ok-request-in-Request.ensures.goes k.0 actions pieces own (event_heard g.K.CallConnection.stands g.K.CallConnection.output c.args.setting.now c.args.lock.now.setup
    c.args.self.now.calls c.next.new.self c.args.self.now.engine c.args.self.now.refused t k.0 actions pieces own h k.1
    (g.met.K.CallConnection.sound c.next.new.self k.0 k.1) _ k.2) last in (
      goes_from g.K.CallConnection.stands g.K.CallConnection.output c.args.setting.now c.args.lock.now.setup c.args.pass.now c.request.new.pass
          c.request.new.self.calls c.request.new.self.engine c.request.new.self.refused t k.0 pieces own (gives_grows t k.0 _ k.2) m.0,
      tt,
    ))

pub returns-in_err-finish-in-Finished-clause-goes : goal.returns-in_err-finish-in-Finished-clause-goes
returns-in_err-finish-in-Finished-clause-goes g c = (let p = err_from_is_err_and c.from_residual-in_err-finish-in-Finished.result c.from_residual-in_err-finish-in-Finished.ensures.1 in rw (p.1, p.2) (λ t actions pieces own h last.
    (let k = c.in-Finished.ensures.says t h.used h.agrees.server.numbers in
    let m = c.in_err-finish-in-Finished.ensures.goes k.0 actions pieces own (event_heard g.K.CallConnection.stands g.K.CallConnection.output c.args.setting.now c.args.lock.now.setup
    c.args.self.now.calls c.next.new.self c.args.self.now.engine c.args.self.now.refused t k.0 actions pieces own h k.1
    (g.met.K.CallConnection.sound c.next.new.self k.0 k.1) _ k.2) last in (
      tt,
      stops_from c.args.setting.now t k.0 (gives_grows t k.0 _ k.2) g.K.CallConnection.stands g.K.CallConnection.output c.args.lock.now.setup
          c.args.pass.now c.finish.new.pass c.finish.new.self.calls c.finish.new.self.engine c.finish.new.self.refused pieces own c.finish.new.self.is_ended _ m.1,
    ))))

pub returns-in-Finished-clause-goes : goal.returns-in-Finished-clause-goes
returns-in-Finished-clause-goes g c = λ t actions pieces own h last.
    (let k = c.in-Finished.ensures.says t h.used h.agrees.server.numbers in
    let m = c.in_ok-finish-in-Finished.ensures.goes k.0 actions pieces own (event_heard g.K.CallConnection.stands g.K.CallConnection.output c.args.setting.now c.args.lock.now.setup
    c.args.self.now.calls c.next.new.self c.args.self.now.engine c.args.self.now.refused t k.0 actions pieces own h k.1
    (g.met.K.CallConnection.sound c.next.new.self k.0 k.1) _ k.2) last in (
      goes_from g.K.CallConnection.stands g.K.CallConnection.output c.args.setting.now c.args.lock.now.setup c.args.pass.now c.finish.new.pass
          c.finish.new.self.calls c.finish.new.self.engine c.finish.new.self.refused t k.0 pieces own (gives_grows t k.0 _ k.2) m.0,
      tt,
    ))

pub returns-in_err-drop_call-in-Dropped-clause-goes : goal.returns-in_err-drop_call-in-Dropped-clause-goes
returns-in_err-drop_call-in-Dropped-clause-goes g c = (let p = err_from_is_err_and c.from_residual-in_err-drop_call-in-Dropped.result c.from_residual-in_err-drop_call-in-Dropped.ensures.1 in rw (p.1, p.2) (λ t actions pieces own h last.
    (let k = c.in-Dropped.ensures.says t h.used h.agrees.server.numbers in
    let m = c.in_err-drop_call-in-Dropped.ensures.goes k.0 actions pieces own (event_heard g.K.CallConnection.stands g.K.CallConnection.output c.args.setting.now c.args.lock.now.setup
    c.args.self.now.calls c.next.new.self c.args.self.now.engine c.args.self.now.refused t k.0 actions pieces own h k.1
    (g.met.K.CallConnection.sound c.next.new.self k.0 k.1) _ k.2) last in (
      tt,
      stops_from c.args.setting.now t k.0 (gives_grows t k.0 _ k.2) g.K.CallConnection.stands g.K.CallConnection.output c.args.lock.now.setup
          c.args.pass.now c.drop_call.new.pass c.drop_call.new.self.calls c.drop_call.new.self.engine c.drop_call.new.self.refused pieces own c.drop_call.new.self.is_ended _ m.1,
    ))))

pub returns-in-Dropped-clause-goes : goal.returns-in-Dropped-clause-goes
returns-in-Dropped-clause-goes g c = λ t actions pieces own h last.
    (let k = c.in-Dropped.ensures.says t h.used h.agrees.server.numbers in
    let m = c.in_ok-drop_call-in-Dropped.ensures.goes k.0 actions pieces own (event_heard g.K.CallConnection.stands g.K.CallConnection.output c.args.setting.now c.args.lock.now.setup
    c.args.self.now.calls c.next.new.self c.args.self.now.engine c.args.self.now.refused t k.0 actions pieces own h k.1
    (g.met.K.CallConnection.sound c.next.new.self k.0 k.1) _ k.2) last in (
      goes_from g.K.CallConnection.stands g.K.CallConnection.output c.args.setting.now c.args.lock.now.setup c.args.pass.now c.drop_call.new.pass
          c.drop_call.new.self.calls c.drop_call.new.self.engine c.drop_call.new.self.refused t k.0 pieces own (gives_grows t k.0 _ k.2) m.0,
      tt,
    ))

pub returns-in-Answered-clause-goes : goal.returns-in-Answered-clause-goes
returns-in-Answered-clause-goes g c = λ t actions pieces own h last. (let k = c.in-Answered.ensures.says t h.used h.agrees.server.numbers in
    absurd (event_heard g.K.CallConnection.stands g.K.CallConnection.output c.args.setting.now c.args.lock.now.setup
    c.args.self.now.calls c.next.new.self c.args.self.now.engine c.args.self.now.refused t k.0 actions pieces own h k.1
    (g.met.K.CallConnection.sound c.next.new.self k.0 k.1) _ k.2).next.shows)

pub returns-clause-goes : goal.returns-clause-goes
returns-clause-goes g c = λ t actions pieces own h last. (let k = c.in-Closed.ensures.says t h.used h.agrees.server.numbers in
    absurd (event_heard g.K.CallConnection.stands g.K.CallConnection.output c.args.setting.now c.args.lock.now.setup
    c.args.self.now.calls c.next.new.self c.args.self.now.engine c.args.self.now.refused t k.0 actions pieces own h k.1
    (g.met.K.CallConnection.sound c.next.new.self k.0 k.1) _ k.2).next.shows)
