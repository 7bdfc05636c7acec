use Rattle.std.proofs.Common.{◌++◌, ◌∙◌, ap, refl, sym}
use Rattle.std.proofs.lemmas.Result.{err_from_is_err_and}
use Rattle.server_conn.specs.Steps.{got}
use Rattle.server_conn.proofs.Grown.{stops_from}
use Rattle.server_conn.proofs.Served.{true_false}
use Rattle.server_conn.proofs.Turning.{all_heard, nothing_read, stops_none}
use Rattle.server_conn.proofs.conn.ServerConn.take_in.Goals as goal

pub returns-in_err-has_read-clause-goes : goal.returns-in_err-has_read-clause-goes
returns-in_err-has_read-clause-goes g c = (let p = err_from_is_err_and c.from_residual.result c.from_residual.ensures.1 in rw (p.1, p.2)
    (λ t actions pieces own rest works settled last.
    (let k = c.in_err-has_read.ensures.goes c.args.setting.now t actions pieces own rest works settled in (
      k.0,
      k.1,
      k.2,
      tt,
      stops_none g.K.CallConnection.stands g.K.CallConnection.output c.args.setting.now c.args.lock.now.setup c.args.pass.now
          c.read.new.self.calls c.read.new.self.engine c.read.new.self.refused t (pieces ++ got k.0) own c.read.new.self.is_ended _ c.requires.sound
          c.in_err-has_read.ensures.alive k.4,
    ))))

pub returns-then-not-has_read-clause-goes : goal.returns-then-not-has_read-clause-goes
returns-then-not-has_read-clause-goes g c t actions pieces own rest works settled last =
    (let k = c.in_ok-has_read.ensures.goes c.args.setting.now t actions pieces own rest works settled in (
      k.0,
      k.1,
      k.2,
      nothing_read g.K.CallConnection.stands g.K.CallConnection.output c.args.setting.now c.args.lock.now.setup c.args.pass.now
          c.args.self.now.calls c.read.new.self.calls c.read.new.self.engine c.read.new.self.refused t actions pieces own k.0 c.args.self.now.is_ended
          c.read.new.self.is_ended _ _ _ rest c.if-not-has_read.true c.requires.sound settled k.3,
      tt,
    ))

pub returns-in_err-hear_all-clause-goes : goal.returns-in_err-hear_all-clause-goes
returns-in_err-hear_all-clause-goes g c = (let p = err_from_is_err_and c.from_residual-in_err-hear_all.result
    c.from_residual-in_err-hear_all.ensures.1 in rw (p.1, p.2) (λ t actions pieces own rest works settled last.
    (let k = c.in_ok-has_read.ensures.goes c.args.setting.now t actions pieces own rest works settled in
    let m = c.in_err-hear_all.ensures.goes k.3.trace actions (pieces ++ got k.0) own k.3.works last in (
      k.0,
      k.1,
      k.2,
      tt,
      stops_from c.args.setting.now t k.3.trace k.3.grows g.K.CallConnection.stands g.K.CallConnection.output c.args.lock.now.setup
          c.args.pass.now c.hear_all.new.pass c.hear_all.new.self.calls c.hear_all.new.self.engine c.hear_all.new.self.refused (pieces ++ got k.0) own
          c.hear_all.new.self.is_ended _ m.1,
    ))))

pub returns-clause-goes : goal.returns-clause-goes
returns-clause-goes g c t actions pieces own rest works settled last =
    (let k = c.in_ok-has_read.ensures.goes c.args.setting.now t actions pieces own rest works settled in
    let m = c.in_ok-hear_all.ensures.goes k.3.trace actions (pieces ++ got k.0) own k.3.works last in (
      k.0,
      k.1,
      k.2,
      all_heard g.K.CallConnection.stands g.K.CallConnection.output c.args.setting.now c.args.lock.now.setup c.args.pass.now c.hear_all.new.pass
          c.args.self.now.calls c.read.new.self.calls c.hear_all.new.self.calls c.read.new.self.engine c.hear_all.new.self.engine c.read.new.self.refused
          c.hear_all.new.self.refused t actions pieces own k.0 c.args.self.now.is_ended c.read.new.self.is_ended c.hear_all.new.self.is_ended _ _ _
          c.if-not-has_read.false (ap (λ x. x.is_ended) c.in_ok-hear_all.ensures.same) k.3 m.0,
      tt,
    ))

pub returns-then-not-has_read-clause-idle : goal.returns-then-not-has_read-clause-idle
returns-then-not-has_read-clause-idle g c = λ e. (
  refl,
  sym (ap (λ x. x.may_wait) c.in_ok-has_read.ensures.same) ∙ e,
  ap (λ x. x.engine) c.in_ok-has_read.ensures.same,
)

pub returns-clause-idle : goal.returns-clause-idle
returns-clause-idle g c = λ e. true_false (sym (ap (λ x. x.may_wait) c.in_ok-hear_all.ensures.same) ∙ e)
