use Rattle.std.proofs.Common.{ap, subst}
use Rattle.std.proofs.lemmas.Result.{IfErr-weaker, IfOk-weaker, err_from_is_err_and}
use Rattle.server_conn.specs.Steps.{Responds}
use Rattle.server_conn.proofs.Grown.{ends_from}
use Rattle.server_conn.proofs.NextResponse.{grows_pumps, is_pumped, responds_from}
use Rattle.server_conn.proofs.conn.ServerConn.respond.Goals as goal

pub returns-in_err-pump-clause-goes : goal.returns-in_err-pump-clause-goes
returns-in_err-pump-clause-goes g c = (let p = err_from_is_err_and c.from_residual.result c.from_residual.ensures.1 in rw (p.1, p.2)
    (λ t actions pieces own rest works settled. (tt, (c.in_err-pump.ensures.goes c.args.setting.now t actions pieces own rest works settled).1)))

pub returns-clause-goes : goal.returns-clause-goes
returns-clause-goes g c = λ t actions pieces own rest works settled.
    let p = (c.in_ok-pump.ensures.goes c.args.setting.now t actions pieces own rest works settled).0 in
    let k = c.respond_more.ensures.goes p.0 actions pieces own rest p.2 p.3 (is_pumped t p.0 rest c.pump.new.self.waiting settled p.1 p.4) in (
      IfOk-weaker c.respond_more.result _ _ (λ x h.
          subst (λ o. Responds g.K.CallConnection.stands g.K.CallConnection.output c.args.setting.now c.respond_more.new.self.calls o
          c.respond_more.new.self.engine c.respond_more.new.self.refused c.respond_more.new.self.waiting t pieces own rest)
          (ap (λ x. x.engine) c.in_ok-pump.ensures.same)
          (responds_from g.K.CallConnection.stands g.K.CallConnection.output c.args.setting.now pieces own rest c.respond_more.new.self.calls
          c.pump.new.self.engine c.respond_more.new.self.engine c.respond_more.new.self.refused c.respond_more.new.self.waiting t p.0 p.1 h)) k.0,
      IfErr-weaker c.respond_more.result _ _ (λ cause h. ends_from c.args.setting.now t p.0 (grows_pumps t p.0 p.1) _ _ _ _ cause h) k.1,
    )
