use Rattle.std.proofs.Common.{refl, inl, inr, ◌∙◌, ap, sym, subst}
use Rattle.std.proofs.lemmas.Result.{err_from_is_err_and}
use Rattle.session_engine.specs.Queries.{call_on}
use Rattle.server_conn.specs.Steps.{IsNoMore}
use Rattle.server_conn.proofs.Grown.{ends_from}
use Rattle.server_conn.proofs.Handed.{grows_beside}
use Rattle.server_conn.proofs.NextResponse.{asked_no_more, owes_next, responds_none, responds_one, settled_same}
use Rattle.server_conn.proofs.conn.ServerConn.respond_next.Goals as goal

pub returns-then-has_much-clause-goes : goal.returns-then-has_much-clause-goes
returns-then-has_much-clause-goes g c = λ t actions pieces own rest works settled pumped. (
  responds_none g.K.CallConnection.stands g.K.CallConnection.output c.args.setting.now pieces own rest c.args.self.now.calls c.args.self.now.engine
      c.args.self.now.refused c.args.self.now.waiting t actions works settled pumped,
  tt,
)

pub returns-then-has_much-clause-enough : goal.returns-then-has_much-clause-enough
returns-then-has_much-clause-enough g c = λ e. inr (c.has_much.ensures c.if-has_much.true)

pub returns-in-None-clause-goes : goal.returns-in-None-clause-goes
returns-in-None-clause-goes g c = λ t actions pieces own rest works settled pumped. (
  responds_none g.K.CallConnection.stands g.K.CallConnection.output c.args.setting.now pieces own rest c.args.self.now.calls c.args.self.now.engine
      c.args.self.now.refused c.args.self.now.waiting t actions works settled pumped,
  tt,
)

pub returns-in-None-clause-enough : goal.returns-in-None-clause-enough
returns-in-None-clause-enough g c = λ e. inl c.in-None.ensures.none

pub returns-in_err-give-in-Some-clause-goes : goal.returns-in_err-give-in-Some-clause-goes
returns-in_err-give-in-Some-clause-goes g c = (let p = err_from_is_err_and c.from_residual.result c.from_residual.ensures.1 in rw (p.1, p.2)
    (λ t actions pieces own rest works settled pumped.
    (let k = c.more-step.ensures.given c.in-Some.ensures.found in
    let owed = owes_next g.K.CallConnection.stands g.K.CallConnection.output c.args.setting.now c.args.self.now.calls c.args.self.now.engine
    c.more-step.new.self c.args.self.now.refused c.in-Some.stream c.more-step.result t actions pieces own works c.in-Some.ensures.found k in
    (tt, (c.in_err-give-in-Some.ensures.goes c.args.setting.now t owed.0 pieces own refl owed.1).1))))

pub returns-in_err-pump-in-Some-clause-goes : goal.returns-in_err-pump-in-Some-clause-goes
returns-in_err-pump-in-Some-clause-goes g c = (let p = err_from_is_err_and c.from_residual-in_err-pump-in-Some.result
    c.from_residual-in_err-pump-in-Some.ensures.1 in rw (p.1, p.2)
    (λ t actions pieces own rest works settled pumped.
    (let k = c.more-step.ensures.given c.in-Some.ensures.found in
    let owed = owes_next g.K.CallConnection.stands g.K.CallConnection.output c.args.setting.now c.args.self.now.calls c.args.self.now.engine
    c.more-step.new.self c.args.self.now.refused c.in-Some.stream c.more-step.result t actions pieces own works c.in-Some.ensures.found k in
    let u = (c.in_ok-give-in-Some.ensures.goes c.args.setting.now t owed.0 pieces own refl owed.1).0 in (
      tt,
      ends_from c.args.setting.now t u.0 (grows_beside t u.0 u.1) _ _ _ _ _
          (c.in_err-pump-in-Some.ensures.goes c.args.setting.now u.0 owed.0 pieces own rest u.3
          (settled_same t u.0 u.1 rest u.2 (u.3.agrees.server.numbers ∙ sym works.agrees.server.numbers) settled)).1,
    ))))

pub returns-in_ok-pump-in-Some-clause-goes : goal.returns-in_ok-pump-in-Some-clause-goes
returns-in_ok-pump-in-Some-clause-goes g c = λ t actions pieces own rest works settled pumped.
    let k = c.more-step.ensures.given c.in-Some.ensures.found in
    let owed = owes_next g.K.CallConnection.stands g.K.CallConnection.output c.args.setting.now c.args.self.now.calls c.args.self.now.engine
    c.more-step.new.self c.args.self.now.refused c.in-Some.stream c.more-step.result t actions pieces own works c.in-Some.ensures.found k in
    let u = (c.in_ok-give-in-Some.ensures.goes c.args.setting.now t owed.0 pieces own refl owed.1).0 in
    let settled_u = settled_same t u.0 u.1 rest u.2 (u.3.agrees.server.numbers ∙ sym works.agrees.server.numbers) settled in
    let p = (c.in_ok-pump-in-Some.ensures.goes c.args.setting.now u.0 owed.0 pieces own rest u.3 settled_u).0 in (
      responds_one g.K.CallConnection.stands g.K.CallConnection.output c.args.setting.now pieces own rest c.pump.new.self.calls c.args.self.now.engine
          c.pump.new.self.engine c.pump.new.self.refused c.pump.new.self.waiting t u.0 p.0 owed.0 u.1 settled_u p.1 p.2 p.3 p.4
          (λ id. subst (λ o. IsNoMore (call_on c.args.self.now.engine id) (call_on o id))
          (sym (ap (λ x. x.engine) c.in_ok-pump-in-Some.ensures.same ∙ ap (λ x. x.engine) c.in_ok-give-in-Some.ensures.same))
          (asked_no_more c.args.setting.now c.args.self.now.engine c.more-step.new.self c.in-Some.stream c.more-step.result k c.in-Some.ensures.found id)),
      tt,
    )
