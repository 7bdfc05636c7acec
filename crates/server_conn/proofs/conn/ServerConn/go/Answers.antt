use Rattle.std.proofs.Common.{◌++◌, ◌∙◌, [], refl, ap, nat_le}
use Rattle.std.proofs.lemmas.Result.{err_from_is_err_and}
use Rattle.http_connection.specs.ConnectionTrace.{held, wrote}
use Rattle.grpc_stream.specs.CallTrace.{changed}
use Rattle.session_engine.specs.Queries.{call_on}
use Rattle.server_conn.specs.Steps.{MUCH, got}
use Rattle.server_conn.proofs.Grown.{made_more}
use Rattle.server_conn.proofs.Keeping.{idle_now, served_last, turns_on}
use Rattle.server_conn.proofs.Turned.{end_told, holds_at, idle_at, takes_at, turns_at, whole_behind, writes_at}
use Rattle.server_conn.proofs.Turning.{begins, gathers, holds, last_first, last_made, last_quiet, last_written, responds, size_got, told_then}
use Rattle.server_conn.proofs.conn.ServerConn.go.Goals as goal

pub returns-in_err-has_read-clause-goes : goal.returns-in_err-has_read-clause-goes
returns-in_err-has_read-clause-goes g c = (let p = err_from_is_err_and c.from_residual.result c.from_residual.ensures.1 in rw (p.1, p.2) (λ past before h last idle.
    (let k = c.in_err-has_read.ensures.goes h.trace before.actions past.pieces past.own before.rest h.works h.settled last in (
      record { pieces = got k.0; own = k.4.did; is_ended = c.take_in.new.self.is_ended },
      k.2,
      tt,
      last_first g.K.CallConnection.stands
          g.K.CallConnection.output c.args.setting.now c.args.lock.now.setup past h.trace c.args.pass.now c.take_in.new.pass c.take_in.new.self.calls
          c.take_in.new.self.engine c.take_in.new.self.refused k.0 c.take_in.new.self.is_ended _ _ _ k.1
          (end_told past.is_ended c.args.self.now.is_ended c.take_in.new.self.is_ended c.take_in.new.self.is_ended _ _ _ h.ended refl refl
          c.in_err-has_read.ensures.ends) k.4,
    ))))

pub returns-in_err-check_end-clause-goes : goal.returns-in_err-check_end-clause-goes
returns-in_err-check_end-clause-goes g c = (let p = err_from_is_err_and c.from_residual-in_err-check_end.result
    c.from_residual-in_err-check_end.ensures.1 in rw (p.1, p.2) (λ past before h last idle.
    (let k1 = c.in_ok-has_read.ensures.goes h.trace before.actions past.pieces past.own before.rest h.works h.settled last in
    let s1 = begins g.K.CallConnection.stands g.K.CallConnection.output c.args.setting.now c.args.lock.now.setup past h.trace c.args.pass.now
    c.take_in.new.pass c.args.self.now.calls c.take_in.new.self.calls c.take_in.new.self.engine c.take_in.new.self.refused k1.0
    c.args.self.now.is_ended c.take_in.new.self.is_ended _ _ _ k1.3 in
    let k = c.in_err-check_end.ensures.goes c.args.setting.now k1.3.heard.goes.trace k1.3.heard.goes.actions (past.pieces ++ got k1.0)
    (past.own ++ k1.3.heard.goes.did) k1.3.heard.rest s1.works s1.settled in (
      record { pieces = got k1.0; own = k1.3.heard.goes.did; is_ended = c.take_in.new.self.is_ended },
      k1.2,
      tt,
      last_quiet g.K.CallConnection.stands
          g.K.CallConnection.output c.args.setting.now c.args.lock.now.setup past h.trace c.args.pass.now c.take_in.new.pass c.take_in.new.self.calls
          c.take_in.new.self.engine c.take_in.new.self.refused k1.3.heard.goes.trace k1.3.heard.goes.actions (got k1.0) k1.3.heard.goes.did
          k1.3.heard.rest s1 c.take_in.new.self.is_ended _ _ (size_got k1.0 k1.1) (end_told past.is_ended c.args.self.now.is_ended
          c.take_in.new.self.is_ended c.take_in.new.self.is_ended _ _ _ h.ended refl refl c.in_ok-has_read.ensures.ends) c.take_in.new.self.calls
          c.take_in.new.self.engine c.take_in.new.self.refused _ c.in_err-check_end.ensures.alive k.1,
    ))))

pub returns-in_err-has_collected-clause-goes : goal.returns-in_err-has_collected-clause-goes
returns-in_err-has_collected-clause-goes g c = (let p = err_from_is_err_and c.from_residual-in_err-has_collected.result
    c.from_residual-in_err-has_collected.ensures.1 in rw (p.1, p.2) (λ past before h last idle.
    (let k1 = c.in_ok-has_read.ensures.goes h.trace before.actions past.pieces past.own before.rest h.works h.settled last in
    let s1 = begins g.K.CallConnection.stands g.K.CallConnection.output c.args.setting.now c.args.lock.now.setup past h.trace c.args.pass.now
    c.take_in.new.pass c.args.self.now.calls c.take_in.new.self.calls c.take_in.new.self.engine c.take_in.new.self.refused k1.0
    c.args.self.now.is_ended c.take_in.new.self.is_ended _ _ _ k1.3 in
    let k = c.in_err-has_collected.ensures.goes k1.3.heard.goes.trace k1.3.heard.goes.actions (past.pieces ++ got k1.0)
    (past.own ++ k1.3.heard.goes.did) k1.3.heard.rest s1.works s1.settled (made_more c.args.lock.now.setup c.args.pass.now c.take_in.new.pass
    past.own k1.3.heard.goes.did last s1.made) in (
      record { pieces = got k1.0; own = k1.3.heard.goes.did ++ k.1.did; is_ended = c.collect_all.new.self.is_ended },
      k1.2,
      tt,
      last_made
          g.K.CallConnection.stands g.K.CallConnection.output c.args.setting.now c.args.lock.now.setup past h.trace c.args.pass.now c.take_in.new.pass
          c.take_in.new.self.calls c.take_in.new.self.engine c.take_in.new.self.refused k1.3.heard.goes.trace k1.3.heard.goes.actions (got k1.0)
          k1.3.heard.goes.did k1.3.heard.rest s1 c.collect_all.new.self.is_ended _ _ (size_got k1.0 k1.1)
          (end_told past.is_ended c.args.self.now.is_ended c.take_in.new.self.is_ended c.collect_all.new.self.is_ended _ _ _ h.ended
          (ap (λ x. x.is_ended) c.in_err-has_collected.ensures.same) refl c.in_ok-has_read.ensures.ends) c.collect_all.new.pass
          c.collect_all.new.self.calls c.collect_all.new.self.engine c.collect_all.new.self.refused _ k.1,
    ))))

pub returns-in_err-respond-clause-goes : goal.returns-in_err-respond-clause-goes
returns-in_err-respond-clause-goes g c = (let p = err_from_is_err_and c.from_residual-in_err-respond.result
    c.from_residual-in_err-respond.ensures.1 in rw (p.1, p.2) (λ past before h last idle.
    (let k1 = c.in_ok-has_read.ensures.goes h.trace before.actions past.pieces past.own before.rest h.works h.settled last in
    let s1 = begins g.K.CallConnection.stands g.K.CallConnection.output c.args.setting.now c.args.lock.now.setup past h.trace c.args.pass.now
    c.take_in.new.pass c.args.self.now.calls c.take_in.new.self.calls c.take_in.new.self.engine c.take_in.new.self.refused k1.0
    c.args.self.now.is_ended c.take_in.new.self.is_ended _ _ _ k1.3 in
    let k3 = c.in_ok-has_collected.ensures.goes k1.3.heard.goes.trace k1.3.heard.goes.actions (past.pieces ++ got k1.0)
    (past.own ++ k1.3.heard.goes.did) k1.3.heard.rest s1.works s1.settled (made_more c.args.lock.now.setup c.args.pass.now c.take_in.new.pass
    past.own k1.3.heard.goes.did last s1.made) in
    let s2 = gathers g.K.CallConnection.stands g.K.CallConnection.output c.args.setting.now c.args.lock.now.setup past h.trace c.args.pass.now
    c.take_in.new.pass c.take_in.new.self.calls c.take_in.new.self.engine c.take_in.new.self.refused k1.3.heard.goes.trace k1.3.heard.goes.actions
    (got k1.0) k1.3.heard.goes.did k1.3.heard.rest s1 c.collect_all.new.pass c.collect_all.new.self.calls c.collect_all.new.self.engine
    c.collect_all.new.self.refused _ k3.0.0 in
    let k = c.in_err-respond.ensures.goes k3.0.0.goes.trace k3.0.0.goes.actions (past.pieces ++ got k1.0)
    (past.own ++ (k1.3.heard.goes.did ++ k3.0.0.goes.did)) k1.3.heard.rest s2.works s2.settled in (
      record { pieces = got k1.0; own = (k1.3.heard.goes.did ++ k3.0.0.goes.did); is_ended = c.respond.new.self.is_ended },
      k1.2,
      tt,
      last_quiet
          g.K.CallConnection.stands g.K.CallConnection.output c.args.setting.now c.args.lock.now.setup past h.trace c.args.pass.now
          c.collect_all.new.pass c.collect_all.new.self.calls c.collect_all.new.self.engine c.collect_all.new.self.refused k3.0.0.goes.trace
          k3.0.0.goes.actions (got k1.0) (k1.3.heard.goes.did ++ k3.0.0.goes.did) k1.3.heard.rest s2 c.respond.new.self.is_ended _ _ (size_got k1.0 k1.1)
          (end_told past.is_ended c.args.self.now.is_ended c.take_in.new.self.is_ended c.respond.new.self.is_ended _ _ _ h.ended
          (ap (λ x. x.is_ended) c.in_err-respond.ensures.same ∙ (ap (λ x. x.is_ended) c.in_ok-has_collected.ensures.same)) refl
          c.in_ok-has_read.ensures.ends) c.respond.new.self.calls c.respond.new.self.engine c.respond.new.self.refused _ c.in_err-respond.ensures.alive k.1,
    ))))

pub returns-in_err-check_windows-clause-goes : goal.returns-in_err-check_windows-clause-goes
returns-in_err-check_windows-clause-goes g c = (let p = err_from_is_err_and c.from_residual-in_err-check_windows.result
    c.from_residual-in_err-check_windows.ensures.1 in rw (p.1, p.2) (λ past before h last idle.
    (let k1 = c.in_ok-has_read.ensures.goes h.trace before.actions past.pieces past.own before.rest h.works h.settled last in
    let s1 = begins g.K.CallConnection.stands g.K.CallConnection.output c.args.setting.now c.args.lock.now.setup past h.trace c.args.pass.now
    c.take_in.new.pass c.args.self.now.calls c.take_in.new.self.calls c.take_in.new.self.engine c.take_in.new.self.refused k1.0
    c.args.self.now.is_ended c.take_in.new.self.is_ended _ _ _ k1.3 in
    let k2 = c.in_ok-check_end.ensures.goes c.args.setting.now k1.3.heard.goes.trace k1.3.heard.goes.actions (past.pieces ++ got k1.0)
    (past.own ++ k1.3.heard.goes.did) k1.3.heard.rest s1.works s1.settled in
    let k3 = c.in_ok-has_collected.ensures.goes k1.3.heard.goes.trace k1.3.heard.goes.actions (past.pieces ++ got k1.0)
    (past.own ++ k1.3.heard.goes.did) k1.3.heard.rest s1.works s1.settled (made_more c.args.lock.now.setup c.args.pass.now c.take_in.new.pass
    past.own k1.3.heard.goes.did last s1.made) in
    let s2 = gathers g.K.CallConnection.stands g.K.CallConnection.output c.args.setting.now c.args.lock.now.setup past h.trace c.args.pass.now
    c.take_in.new.pass c.take_in.new.self.calls c.take_in.new.self.engine c.take_in.new.self.refused k1.3.heard.goes.trace k1.3.heard.goes.actions
    (got k1.0) k1.3.heard.goes.did k1.3.heard.rest s1 c.collect_all.new.pass c.collect_all.new.self.calls c.collect_all.new.self.engine
    c.collect_all.new.self.refused _ k3.0.0 in
    let k4 = c.in_ok-respond.ensures.goes k3.0.0.goes.trace k3.0.0.goes.actions (past.pieces ++ got k1.0)
    (past.own ++ (k1.3.heard.goes.did ++ k3.0.0.goes.did)) k1.3.heard.rest s2.works s2.settled in
    let s3 = responds g.K.CallConnection.stands g.K.CallConnection.output c.args.setting.now c.args.lock.now.setup past h.trace c.args.pass.now
    c.collect_all.new.pass c.collect_all.new.self.calls c.collect_all.new.self.engine c.collect_all.new.self.refused k3.0.0.goes.trace
    k3.0.0.goes.actions (got k1.0) (k1.3.heard.goes.did ++ k3.0.0.goes.did) k1.3.heard.rest s2 c.respond.new.self.calls c.respond.new.self.engine
    c.respond.new.self.refused c.respond.new.self.waiting k4.0 in
    let w3 = whole_behind g.K.CallConnection.stands g.K.CallConnection.output c.args.setting.now c.args.lock.now.setup past h.trace c.args.pass.now
    c.take_in.new.pass c.collect_all.new.pass c.take_in.new.self.calls c.collect_all.new.self.calls c.respond.new.self.calls
    c.take_in.new.self.engine c.collect_all.new.self.engine c.respond.new.self.engine c.collect_all.new.self.refused c.respond.new.self.refused
    c.respond.new.self.waiting k1.3.heard.goes.trace k1.3.heard.goes.actions (got k1.0) k1.3.heard.goes.did (k1.3.heard.goes.did ++ k3.0.0.goes.did)
    k1.3.heard.rest _ c.take_in.new.self.is_ended c.respond.new.self.is_ended (ap (λ x. x.is_ended) c.in_ok-respond.ensures.same ∙
    (ap (λ x. x.is_ended) c.in_ok-has_collected.ensures.same)) k3.0.0 k4.0 k2.0 in
    let k = c.in_err-check_windows.ensures.goes c.args.setting.now k4.0.trace k4.0.actions (past.pieces ++ got k1.0)
    (past.own ++ (k1.3.heard.goes.did ++ k3.0.0.goes.did)) k1.3.heard.rest s3.works s3.settled k4.0.pumped w3 in (
      record { pieces = got k1.0; own = (k1.3.heard.goes.did ++ k3.0.0.goes.did); is_ended = c.respond.new.self.is_ended },
      k1.2,
      tt,
      last_quiet
          g.K.CallConnection.stands g.K.CallConnection.output c.args.setting.now c.args.lock.now.setup past h.trace c.args.pass.now
          c.collect_all.new.pass c.respond.new.self.calls c.respond.new.self.engine c.respond.new.self.refused k4.0.trace k4.0.actions (got k1.0)
          (k1.3.heard.goes.did ++ k3.0.0.goes.did) k1.3.heard.rest s3 c.respond.new.self.is_ended _ _ (size_got k1.0 k1.1)
          (end_told past.is_ended c.args.self.now.is_ended c.take_in.new.self.is_ended c.respond.new.self.is_ended _ _ _ h.ended
          (ap (λ x. x.is_ended) c.in_ok-respond.ensures.same ∙ (ap (λ x. x.is_ended) c.in_ok-has_collected.ensures.same)) refl
          c.in_ok-has_read.ensures.ends) c.respond.new.self.calls c.respond.new.self.engine c.respond.new.self.refused _
          c.in_err-check_windows.ensures.alive k.1,
    ))))

pub returns-in_err-hold-clause-goes : goal.returns-in_err-hold-clause-goes
returns-in_err-hold-clause-goes g c = (let p = err_from_is_err_and c.from_residual-in_err-hold.result c.from_residual-in_err-hold.ensures.1 in rw
    (p.1, p.2) (λ past before h last idle.
    (let k1 = c.in_ok-has_read.ensures.goes h.trace before.actions past.pieces past.own before.rest h.works h.settled last in
    let s1 = begins g.K.CallConnection.stands g.K.CallConnection.output c.args.setting.now c.args.lock.now.setup past h.trace c.args.pass.now
    c.take_in.new.pass c.args.self.now.calls c.take_in.new.self.calls c.take_in.new.self.engine c.take_in.new.self.refused k1.0
    c.args.self.now.is_ended c.take_in.new.self.is_ended _ _ _ k1.3 in
    let k3 = c.in_ok-has_collected.ensures.goes k1.3.heard.goes.trace k1.3.heard.goes.actions (past.pieces ++ got k1.0)
    (past.own ++ k1.3.heard.goes.did) k1.3.heard.rest s1.works s1.settled (made_more c.args.lock.now.setup c.args.pass.now c.take_in.new.pass
    past.own k1.3.heard.goes.did last s1.made) in
    let s2 = gathers g.K.CallConnection.stands g.K.CallConnection.output c.args.setting.now c.args.lock.now.setup past h.trace c.args.pass.now
    c.take_in.new.pass c.take_in.new.self.calls c.take_in.new.self.engine c.take_in.new.self.refused k1.3.heard.goes.trace k1.3.heard.goes.actions
    (got k1.0) k1.3.heard.goes.did k1.3.heard.rest s1 c.collect_all.new.pass c.collect_all.new.self.calls c.collect_all.new.self.engine
    c.collect_all.new.self.refused _ k3.0.0 in
    let k4 = c.in_ok-respond.ensures.goes k3.0.0.goes.trace k3.0.0.goes.actions (past.pieces ++ got k1.0)
    (past.own ++ (k1.3.heard.goes.did ++ k3.0.0.goes.did)) k1.3.heard.rest s2.works s2.settled in
    let s3 = responds g.K.CallConnection.stands g.K.CallConnection.output c.args.setting.now c.args.lock.now.setup past h.trace c.args.pass.now
    c.collect_all.new.pass c.collect_all.new.self.calls c.collect_all.new.self.engine c.collect_all.new.self.refused k3.0.0.goes.trace
    k3.0.0.goes.actions (got k1.0) (k1.3.heard.goes.did ++ k3.0.0.goes.did) k1.3.heard.rest s2 c.respond.new.self.calls c.respond.new.self.engine
    c.respond.new.self.refused c.respond.new.self.waiting k4.0 in
    let k = c.in_err-hold.ensures.goes c.args.setting.now k4.0.trace k4.0.actions (past.pieces ++ got k1.0)
    (past.own ++ (k1.3.heard.goes.did ++ k3.0.0.goes.did)) k1.3.heard.rest s3.works s3.settled in (
      record { pieces = got k1.0; own = (k1.3.heard.goes.did ++ k3.0.0.goes.did); is_ended = c.hold.new.self.is_ended },
      k1.2,
      tt,
      last_quiet
          g.K.CallConnection.stands g.K.CallConnection.output c.args.setting.now c.args.lock.now.setup past h.trace c.args.pass.now
          c.collect_all.new.pass c.respond.new.self.calls c.respond.new.self.engine c.respond.new.self.refused k4.0.trace k4.0.actions (got k1.0)
          (k1.3.heard.goes.did ++ k3.0.0.goes.did) k1.3.heard.rest s3 c.hold.new.self.is_ended _ _ (size_got k1.0 k1.1)
          (end_told past.is_ended c.args.self.now.is_ended c.take_in.new.self.is_ended c.hold.new.self.is_ended _ _ _ h.ended
          (ap (λ x. x.is_ended) c.in_err-hold.ensures.same ∙ (ap (λ x. x.is_ended) c.in_ok-respond.ensures.same ∙
          (ap (λ x. x.is_ended) c.in_ok-has_collected.ensures.same))) refl c.in_ok-has_read.ensures.ends) c.hold.new.self.calls c.hold.new.self.engine
          c.hold.new.self.refused _ c.in_err-hold.ensures.alive k.1,
    ))))

pub returns-in_err-has_written-clause-goes : goal.returns-in_err-has_written-clause-goes
returns-in_err-has_written-clause-goes g c = (let p = err_from_is_err_and c.from_residual-in_err-has_written.result
    c.from_residual-in_err-has_written.ensures.1 in rw (p.1, p.2) (λ past before h last idle.
    (let k1 = c.in_ok-has_read.ensures.goes h.trace before.actions past.pieces past.own before.rest h.works h.settled last in
    let s1 = begins g.K.CallConnection.stands g.K.CallConnection.output c.args.setting.now c.args.lock.now.setup past h.trace c.args.pass.now
    c.take_in.new.pass c.args.self.now.calls c.take_in.new.self.calls c.take_in.new.self.engine c.take_in.new.self.refused k1.0
    c.args.self.now.is_ended c.take_in.new.self.is_ended _ _ _ k1.3 in
    let k3 = c.in_ok-has_collected.ensures.goes k1.3.heard.goes.trace k1.3.heard.goes.actions (past.pieces ++ got k1.0)
    (past.own ++ k1.3.heard.goes.did) k1.3.heard.rest s1.works s1.settled (made_more c.args.lock.now.setup c.args.pass.now c.take_in.new.pass
    past.own k1.3.heard.goes.did last s1.made) in
    let s2 = gathers g.K.CallConnection.stands g.K.CallConnection.output c.args.setting.now c.args.lock.now.setup past h.trace c.args.pass.now
    c.take_in.new.pass c.take_in.new.self.calls c.take_in.new.self.engine c.take_in.new.self.refused k1.3.heard.goes.trace k1.3.heard.goes.actions
    (got k1.0) k1.3.heard.goes.did k1.3.heard.rest s1 c.collect_all.new.pass c.collect_all.new.self.calls c.collect_all.new.self.engine
    c.collect_all.new.self.refused _ k3.0.0 in
    let k4 = c.in_ok-respond.ensures.goes k3.0.0.goes.trace k3.0.0.goes.actions (past.pieces ++ got k1.0)
    (past.own ++ (k1.3.heard.goes.did ++ k3.0.0.goes.did)) k1.3.heard.rest s2.works s2.settled in
    let s3 = responds g.K.CallConnection.stands g.K.CallConnection.output c.args.setting.now c.args.lock.now.setup past h.trace c.args.pass.now
    c.collect_all.new.pass c.collect_all.new.self.calls c.collect_all.new.self.engine c.collect_all.new.self.refused k3.0.0.goes.trace
    k3.0.0.goes.actions (got k1.0) (k1.3.heard.goes.did ++ k3.0.0.goes.did) k1.3.heard.rest s2 c.respond.new.self.calls c.respond.new.self.engine
    c.respond.new.self.refused c.respond.new.self.waiting k4.0 in
    let k6 = c.in_ok-hold.ensures.goes c.args.setting.now k4.0.trace k4.0.actions (past.pieces ++ got k1.0)
    (past.own ++ (k1.3.heard.goes.did ++ k3.0.0.goes.did)) k1.3.heard.rest s3.works s3.settled in
    let s4 = holds g.K.CallConnection.stands g.K.CallConnection.output c.args.setting.now c.args.lock.now.setup past h.trace c.args.pass.now
    c.collect_all.new.pass c.respond.new.self.calls c.respond.new.self.engine c.respond.new.self.refused k4.0.trace k4.0.actions (got k1.0)
    (k1.3.heard.goes.did ++ k3.0.0.goes.did) k1.3.heard.rest s3 c.hold.new.self.calls c.hold.new.self.engine c.hold.new.self.refused _ k6.0 in
    let k = c.in_err-has_written.ensures.goes c.args.setting.now (changed (λ x. held (nat_le MUCH c.respond.new.self.waiting)
    (wrote k6.0.credit [] x)) k4.0.trace) k4.0.actions (past.pieces ++ got k1.0) (past.own ++ (k1.3.heard.goes.did ++ k3.0.0.goes.did)) k1.3.heard.rest
    s4.works s4.settled in (
      record { pieces = got k1.0 ++ k.0; own = (k1.3.heard.goes.did ++ k3.0.0.goes.did); is_ended = c.write.new.self.is_ended },
      told_then _ _ _
          (got k1.0) k.0 k1.2 k.2,
      tt,
      last_written g.K.CallConnection.stands g.K.CallConnection.output c.args.setting.now c.args.lock.now.setup past
          h.trace c.args.pass.now c.collect_all.new.pass c.hold.new.self.calls c.hold.new.self.engine c.hold.new.self.refused
          (changed (λ x. held (nat_le MUCH c.respond.new.self.waiting) (wrote k6.0.credit [] x)) k4.0.trace) k4.0.actions (got k1.0)
          (k1.3.heard.goes.did ++ k3.0.0.goes.did) k1.3.heard.rest s4 c.write.new.self.is_ended _ _ (size_got k1.0 k1.1)
          (end_told past.is_ended c.args.self.now.is_ended c.take_in.new.self.is_ended c.write.new.self.is_ended _ _ _ h.ended
          (ap (λ x. x.is_ended) c.in_err-has_written.ensures.same ∙ (ap (λ x. x.is_ended) c.in_ok-hold.ensures.same ∙
          (ap (λ x. x.is_ended) c.in_ok-respond.ensures.same ∙ (ap (λ x. x.is_ended) c.in_ok-has_collected.ensures.same))))
          c.in_err-has_written.ensures.reads.1 c.in_ok-has_read.ensures.ends) c.write.new.self.calls c.write.new.self.engine c.write.new.self.refused
          k.0 _ c.in_err-has_written.ensures.alive k.1 k.4,
    ))))

pub returns-in_err-check_served-clause-goes : goal.returns-in_err-check_served-clause-goes
returns-in_err-check_served-clause-goes g c = (let p = err_from_is_err_and c.from_residual-in_err-check_served.result
    c.from_residual-in_err-check_served.ensures.1 in rw (p.1, p.2) (λ past before h last idle.
    (let k1 = c.in_ok-has_read.ensures.goes h.trace before.actions past.pieces past.own before.rest h.works h.settled last in
    let s1 = begins g.K.CallConnection.stands g.K.CallConnection.output c.args.setting.now c.args.lock.now.setup past h.trace c.args.pass.now
    c.take_in.new.pass c.args.self.now.calls c.take_in.new.self.calls c.take_in.new.self.engine c.take_in.new.self.refused k1.0
    c.args.self.now.is_ended c.take_in.new.self.is_ended _ _ _ k1.3 in
    let k2 = c.in_ok-check_end.ensures.goes c.args.setting.now k1.3.heard.goes.trace k1.3.heard.goes.actions (past.pieces ++ got k1.0)
    (past.own ++ k1.3.heard.goes.did) k1.3.heard.rest s1.works s1.settled in
    let k3 = c.in_ok-has_collected.ensures.goes k1.3.heard.goes.trace k1.3.heard.goes.actions (past.pieces ++ got k1.0)
    (past.own ++ k1.3.heard.goes.did) k1.3.heard.rest s1.works s1.settled (made_more c.args.lock.now.setup c.args.pass.now c.take_in.new.pass
    past.own k1.3.heard.goes.did last s1.made) in
    let s2 = gathers g.K.CallConnection.stands g.K.CallConnection.output c.args.setting.now c.args.lock.now.setup past h.trace c.args.pass.now
    c.take_in.new.pass c.take_in.new.self.calls c.take_in.new.self.engine c.take_in.new.self.refused k1.3.heard.goes.trace k1.3.heard.goes.actions
    (got k1.0) k1.3.heard.goes.did k1.3.heard.rest s1 c.collect_all.new.pass c.collect_all.new.self.calls c.collect_all.new.self.engine
    c.collect_all.new.self.refused _ k3.0.0 in
    let k4 = c.in_ok-respond.ensures.goes k3.0.0.goes.trace k3.0.0.goes.actions (past.pieces ++ got k1.0)
    (past.own ++ (k1.3.heard.goes.did ++ k3.0.0.goes.did)) k1.3.heard.rest s2.works s2.settled in
    let s3 = responds g.K.CallConnection.stands g.K.CallConnection.output c.args.setting.now c.args.lock.now.setup past h.trace c.args.pass.now
    c.collect_all.new.pass c.collect_all.new.self.calls c.collect_all.new.self.engine c.collect_all.new.self.refused k3.0.0.goes.trace
    k3.0.0.goes.actions (got k1.0) (k1.3.heard.goes.did ++ k3.0.0.goes.did) k1.3.heard.rest s2 c.respond.new.self.calls c.respond.new.self.engine
    c.respond.new.self.refused c.respond.new.self.waiting k4.0 in
    let w3 = whole_behind g.K.CallConnection.stands g.K.CallConnection.output c.args.setting.now c.args.lock.now.setup past h.trace c.args.pass.now
    c.take_in.new.pass c.collect_all.new.pass c.take_in.new.self.calls c.collect_all.new.self.calls c.respond.new.self.calls
    c.take_in.new.self.engine c.collect_all.new.self.engine c.respond.new.self.engine c.collect_all.new.self.refused c.respond.new.self.refused
    c.respond.new.self.waiting k1.3.heard.goes.trace k1.3.heard.goes.actions (got k1.0) k1.3.heard.goes.did (k1.3.heard.goes.did ++ k3.0.0.goes.did)
    k1.3.heard.rest _ c.take_in.new.self.is_ended c.respond.new.self.is_ended (ap (λ x. x.is_ended) c.in_ok-respond.ensures.same ∙
    (ap (λ x. x.is_ended) c.in_ok-has_collected.ensures.same)) k3.0.0 k4.0 k2.0 in
    let k5 = c.in_ok-check_windows.ensures.goes c.args.setting.now k4.0.trace k4.0.actions (past.pieces ++ got k1.0)
    (past.own ++ (k1.3.heard.goes.did ++ k3.0.0.goes.did)) k1.3.heard.rest s3.works s3.settled k4.0.pumped w3 in
    let k6 = c.in_ok-hold.ensures.goes c.args.setting.now k4.0.trace k4.0.actions (past.pieces ++ got k1.0)
    (past.own ++ (k1.3.heard.goes.did ++ k3.0.0.goes.did)) k1.3.heard.rest s3.works s3.settled in
    let s4 = holds g.K.CallConnection.stands g.K.CallConnection.output c.args.setting.now c.args.lock.now.setup past h.trace c.args.pass.now
    c.collect_all.new.pass c.respond.new.self.calls c.respond.new.self.engine c.respond.new.self.refused k4.0.trace k4.0.actions (got k1.0)
    (k1.3.heard.goes.did ++ k3.0.0.goes.did) k1.3.heard.rest s3 c.hold.new.self.calls c.hold.new.self.engine c.hold.new.self.refused _ k6.0 in
    let k7 = c.in_ok-has_written.ensures.goes c.args.setting.now (changed (λ x. held (nat_le MUCH c.respond.new.self.waiting)
    (wrote k6.0.credit [] x)) k4.0.trace) k4.0.actions (past.pieces ++ got k1.0) (past.own ++ (k1.3.heard.goes.did ++ k3.0.0.goes.did)) k1.3.heard.rest
    s4.works s4.settled in
    let ended = end_told past.is_ended c.args.self.now.is_ended c.take_in.new.self.is_ended c.take_in.new.self.is_ended
    (g.L.Link.ends c.args.link.now) (g.L.Link.ends c.take_in.new.link) (g.L.Link.ends c.write.new.link) h.ended refl
    c.in_ok-has_written.ensures.reads.1 c.in_ok-has_read.ensures.ends in
    let k = takes_at g.K.CallConnection.stands g.K.CallConnection.output c.args.setting.now c.args.lock.now.setup c.args.pass.now c.take_in.new.pass
    c.args.self.now.calls c.take_in.new.self.calls c.take_in.new.self.engine c.take_in.new.self.refused h.trace past.pieces past.own k1.0
    c.args.self.now.is_ended c.take_in.new.self.is_ended c.in_ok-has_read.has_read (g.L.Link.read_idles c.args.link.now)
    (g.L.Link.read_idles c.take_in.new.link) (g.L.Link.read_idles c.write.new.link) c.in_ok-has_written.ensures.reads.0 k1.3 in
    let o = holds_at g.K.CallConnection.stands g.K.CallConnection.output c.args.setting.now c.hold.new.self.calls c.respond.new.self.engine
    c.hold.new.self.engine c.respond.new.self.refused c.hold.new.self.refused (nat_le MUCH c.respond.new.self.waiting) k4.0.trace k4.0.actions
    (past.pieces ++ got k1.0) (past.own ++ (k1.3.heard.goes.did ++ k3.0.0.goes.did)) k1.3.heard.rest (ap (λ x. x.engine) c.in_ok-hold.ensures.same)
    (ap (λ x. x.refused) c.in_ok-hold.ensures.same) k6.0 in
    let w = writes_at g.K.CallConnection.stands g.K.CallConnection.output c.args.setting.now c.hold.new.self.calls c.write.new.self.calls
    c.respond.new.self.engine c.write.new.self.engine c.respond.new.self.refused c.write.new.self.refused
    (changed (λ x. held (nat_le MUCH c.respond.new.self.waiting) (wrote k6.0.credit [] x)) k4.0.trace) k4.0.actions (past.pieces ++ got k1.0) k7.0
    (past.own ++ (k1.3.heard.goes.did ++ k3.0.0.goes.did)) k1.3.heard.rest c.in_ok-has_written.has_written (g.L.Link.write_idles c.args.link.now)
    (g.L.Link.write_idles c.take_in.new.link) (g.L.Link.write_idles c.write.new.link)
    (ap (λ x. x.engine) c.in_ok-has_written.ensures.same ∙ ap (λ x. x.engine) c.in_ok-hold.ensures.same)
    (ap (λ x. x.refused) c.in_ok-has_written.ensures.same ∙ ap (λ x. x.refused) c.in_ok-hold.ensures.same) c.in_ok-has_read.ensures.writes k7.3 in (
      record { pieces = got k1.0 ++ k7.0; own = (k1.3.heard.goes.did ++ k3.0.0.goes.did); is_ended = c.take_in.new.self.is_ended },
      told_then _ _ _ (got k1.0) k7.0 k1.2 k7.2,
      tt,
      served_last g.K.CallConnection.stands g.K.CallConnection.output c.args.setting.now c.args.lock.now.setup past before c.args.self.now.calls
          c.args.self.now.engine c.args.self.now.refused c.args.self.now.is_ended h
          c.args.pass.now c.take_in.new.pass c.collect_all.new.pass c.take_in.new.self.calls c.collect_all.new.self.calls c.respond.new.self.calls
          c.hold.new.self.calls c.write.new.self.calls
          c.take_in.new.self.engine c.collect_all.new.self.engine c.respond.new.self.engine c.take_in.new.self.refused c.collect_all.new.self.refused
          c.respond.new.self.refused
          c.respond.new.self.waiting k1.0 k7.0 c.take_in.new.self.is_ended c.in_ok-has_read.has_read c.in_ok-has_collected.has_collected
          c.in_ok-has_written.has_written
          (g.L.Link.read_idles c.args.link.now) (g.L.Link.read_idles c.write.new.link) (g.L.Link.write_idles c.args.link.now)
          (g.L.Link.write_idles c.write.new.link)
          (g.L.Link.ends c.args.link.now) (g.L.Link.ends c.write.new.link) k1.1 k7.1 last c.in_ok-has_collected.ensures.sound ended k k2.0 k3.0.0 k4.0
          (λ e. k5.0 ((ap (λ x. x.is_ended) c.in_ok-respond.ensures.same ∙ (ap (λ x. x.is_ended) c.in_ok-has_collected.ensures.same)) ∙ e)) o w
          c.args.self.now.may_wait c.take_in.new.self.may_wait c.collect_all.new.self.may_wait c.in_ok-has_read.ensures.idle idle k3.0.1
          c.write.new.self.engine c.write.new.self.refused c.write.new.self.is_ended _
          (ap (λ x. x.engine) c.in_ok-has_written.ensures.same ∙ ap (λ x. x.engine) c.in_ok-hold.ensures.same)
          (ap (λ x. x.refused) c.in_ok-has_written.ensures.same ∙ ap (λ x. x.refused) c.in_ok-hold.ensures.same)
          ((ap (λ x. x.is_ended) c.in_ok-has_written.ensures.same ∙ ap (λ x. x.is_ended) c.in_ok-hold.ensures.same) ∙
          (ap (λ x. x.is_ended) c.in_ok-respond.ensures.same ∙ (ap (λ x. x.is_ended) c.in_ok-has_collected.ensures.same)))
          c.in_err-check_served.ensures.alive (c.in_err-check_served.ensures.goes c.args.setting.now),
    ))))

pub returns-clause-goes : goal.returns-clause-goes
returns-clause-goes g c past before h last idle =
    (let k1 = c.in_ok-has_read.ensures.goes h.trace before.actions past.pieces past.own before.rest h.works h.settled last in
    let s1 = begins g.K.CallConnection.stands g.K.CallConnection.output c.args.setting.now c.args.lock.now.setup past h.trace c.args.pass.now
    c.take_in.new.pass c.args.self.now.calls c.take_in.new.self.calls c.take_in.new.self.engine c.take_in.new.self.refused k1.0
    c.args.self.now.is_ended c.take_in.new.self.is_ended _ _ _ k1.3 in
    let k2 = c.in_ok-check_end.ensures.goes c.args.setting.now k1.3.heard.goes.trace k1.3.heard.goes.actions (past.pieces ++ got k1.0)
    (past.own ++ k1.3.heard.goes.did) k1.3.heard.rest s1.works s1.settled in
    let k3 = c.in_ok-has_collected.ensures.goes k1.3.heard.goes.trace k1.3.heard.goes.actions (past.pieces ++ got k1.0)
    (past.own ++ k1.3.heard.goes.did) k1.3.heard.rest s1.works s1.settled (made_more c.args.lock.now.setup c.args.pass.now c.take_in.new.pass
    past.own k1.3.heard.goes.did last s1.made) in
    let s2 = gathers g.K.CallConnection.stands g.K.CallConnection.output c.args.setting.now c.args.lock.now.setup past h.trace c.args.pass.now
    c.take_in.new.pass c.take_in.new.self.calls c.take_in.new.self.engine c.take_in.new.self.refused k1.3.heard.goes.trace k1.3.heard.goes.actions
    (got k1.0) k1.3.heard.goes.did k1.3.heard.rest s1 c.collect_all.new.pass c.collect_all.new.self.calls c.collect_all.new.self.engine
    c.collect_all.new.self.refused _ k3.0.0 in
    let k4 = c.in_ok-respond.ensures.goes k3.0.0.goes.trace k3.0.0.goes.actions (past.pieces ++ got k1.0)
    (past.own ++ (k1.3.heard.goes.did ++ k3.0.0.goes.did)) k1.3.heard.rest s2.works s2.settled in
    let s3 = responds g.K.CallConnection.stands g.K.CallConnection.output c.args.setting.now c.args.lock.now.setup past h.trace c.args.pass.now
    c.collect_all.new.pass c.collect_all.new.self.calls c.collect_all.new.self.engine c.collect_all.new.self.refused k3.0.0.goes.trace
    k3.0.0.goes.actions (got k1.0) (k1.3.heard.goes.did ++ k3.0.0.goes.did) k1.3.heard.rest s2 c.respond.new.self.calls c.respond.new.self.engine
    c.respond.new.self.refused c.respond.new.self.waiting k4.0 in
    let w3 = whole_behind g.K.CallConnection.stands g.K.CallConnection.output c.args.setting.now c.args.lock.now.setup past h.trace c.args.pass.now
    c.take_in.new.pass c.collect_all.new.pass c.take_in.new.self.calls c.collect_all.new.self.calls c.respond.new.self.calls
    c.take_in.new.self.engine c.collect_all.new.self.engine c.respond.new.self.engine c.collect_all.new.self.refused c.respond.new.self.refused
    c.respond.new.self.waiting k1.3.heard.goes.trace k1.3.heard.goes.actions (got k1.0) k1.3.heard.goes.did (k1.3.heard.goes.did ++ k3.0.0.goes.did)
    k1.3.heard.rest _ c.take_in.new.self.is_ended c.respond.new.self.is_ended (ap (λ x. x.is_ended) c.in_ok-respond.ensures.same ∙
    (ap (λ x. x.is_ended) c.in_ok-has_collected.ensures.same)) k3.0.0 k4.0 k2.0 in
    let k5 = c.in_ok-check_windows.ensures.goes c.args.setting.now k4.0.trace k4.0.actions (past.pieces ++ got k1.0)
    (past.own ++ (k1.3.heard.goes.did ++ k3.0.0.goes.did)) k1.3.heard.rest s3.works s3.settled k4.0.pumped w3 in
    let k6 = c.in_ok-hold.ensures.goes c.args.setting.now k4.0.trace k4.0.actions (past.pieces ++ got k1.0)
    (past.own ++ (k1.3.heard.goes.did ++ k3.0.0.goes.did)) k1.3.heard.rest s3.works s3.settled in
    let s4 = holds g.K.CallConnection.stands g.K.CallConnection.output c.args.setting.now c.args.lock.now.setup past h.trace c.args.pass.now
    c.collect_all.new.pass c.respond.new.self.calls c.respond.new.self.engine c.respond.new.self.refused k4.0.trace k4.0.actions (got k1.0)
    (k1.3.heard.goes.did ++ k3.0.0.goes.did) k1.3.heard.rest s3 c.hold.new.self.calls c.hold.new.self.engine c.hold.new.self.refused _ k6.0 in
    let k7 = c.in_ok-has_written.ensures.goes c.args.setting.now (changed (λ x. held (nat_le MUCH c.respond.new.self.waiting)
    (wrote k6.0.credit [] x)) k4.0.trace) k4.0.actions (past.pieces ++ got k1.0) (past.own ++ (k1.3.heard.goes.did ++ k3.0.0.goes.did)) k1.3.heard.rest
    s4.works s4.settled in
    let ended = end_told past.is_ended c.args.self.now.is_ended c.take_in.new.self.is_ended c.take_in.new.self.is_ended
    (g.L.Link.ends c.args.link.now) (g.L.Link.ends c.take_in.new.link) (g.L.Link.ends c.write.new.link) h.ended refl
    c.in_ok-has_written.ensures.reads.1 c.in_ok-has_read.ensures.ends in
    let k = takes_at g.K.CallConnection.stands g.K.CallConnection.output c.args.setting.now c.args.lock.now.setup c.args.pass.now c.take_in.new.pass
    c.args.self.now.calls c.take_in.new.self.calls c.take_in.new.self.engine c.take_in.new.self.refused h.trace past.pieces past.own k1.0
    c.args.self.now.is_ended c.take_in.new.self.is_ended c.in_ok-has_read.has_read (g.L.Link.read_idles c.args.link.now)
    (g.L.Link.read_idles c.take_in.new.link) (g.L.Link.read_idles c.write.new.link) c.in_ok-has_written.ensures.reads.0 k1.3 in
    let o = holds_at g.K.CallConnection.stands g.K.CallConnection.output c.args.setting.now c.hold.new.self.calls c.respond.new.self.engine
    c.hold.new.self.engine c.respond.new.self.refused c.hold.new.self.refused (nat_le MUCH c.respond.new.self.waiting) k4.0.trace k4.0.actions
    (past.pieces ++ got k1.0) (past.own ++ (k1.3.heard.goes.did ++ k3.0.0.goes.did)) k1.3.heard.rest (ap (λ x. x.engine) c.in_ok-hold.ensures.same)
    (ap (λ x. x.refused) c.in_ok-hold.ensures.same) k6.0 in
    let w = writes_at g.K.CallConnection.stands g.K.CallConnection.output c.args.setting.now c.hold.new.self.calls c.write.new.self.calls
    c.respond.new.self.engine c.write.new.self.engine c.respond.new.self.refused c.write.new.self.refused
    (changed (λ x. held (nat_le MUCH c.respond.new.self.waiting) (wrote k6.0.credit [] x)) k4.0.trace) k4.0.actions (past.pieces ++ got k1.0) k7.0
    (past.own ++ (k1.3.heard.goes.did ++ k3.0.0.goes.did)) k1.3.heard.rest c.in_ok-has_written.has_written (g.L.Link.write_idles c.args.link.now)
    (g.L.Link.write_idles c.take_in.new.link) (g.L.Link.write_idles c.write.new.link)
    (ap (λ x. x.engine) c.in_ok-has_written.ensures.same ∙ ap (λ x. x.engine) c.in_ok-hold.ensures.same)
    (ap (λ x. x.refused) c.in_ok-has_written.ensures.same ∙ ap (λ x. x.refused) c.in_ok-hold.ensures.same) c.in_ok-has_read.ensures.writes k7.3 in (
      record { pieces = got k1.0 ++ k7.0; own = (k1.3.heard.goes.did ++ k3.0.0.goes.did); is_ended = c.take_in.new.self.is_ended },
      told_then _ _ _ (got k1.0) k7.0 k1.2 k7.2,
      (
        turns_at g.K.CallConnection.stands g.K.CallConnection.output c.args.setting.now c.args.lock.now.setup c.args.pass.now c.collect_all.new.pass
            c.write.new.self.calls c.respond.new.self.engine c.write.new.self.engine
            c.respond.new.self.refused c.write.new.self.refused c.respond.new.self.waiting c.write.new.self.waiting c.take_in.new.self.is_ended
            c.write.new.self.is_ended past before _ _ _ _
            (ap (λ x. x.engine) c.in_ok-has_written.ensures.same ∙ ap (λ x. x.engine) c.in_ok-hold.ensures.same)
            (ap (λ x. x.refused) c.in_ok-has_written.ensures.same ∙ ap (λ x. x.refused) c.in_ok-hold.ensures.same)
            (ap (λ x. x.waiting) c.in_ok-has_written.ensures.same ∙ ap (λ x. x.waiting) c.in_ok-hold.ensures.same)
            ((ap (λ x. x.is_ended) c.in_ok-has_written.ensures.same ∙ ap (λ x. x.is_ended) c.in_ok-hold.ensures.same) ∙
            (ap (λ x. x.is_ended) c.in_ok-respond.ensures.same ∙ (ap (λ x. x.is_ended) c.in_ok-has_collected.ensures.same)))
            (turns_on g.K.CallConnection.stands g.K.CallConnection.output c.args.setting.now c.args.lock.now.setup past before c.args.self.now.calls
            c.args.self.now.engine c.args.self.now.refused c.args.self.now.is_ended h
            c.args.pass.now c.take_in.new.pass c.collect_all.new.pass c.take_in.new.self.calls c.collect_all.new.self.calls c.respond.new.self.calls
            c.hold.new.self.calls c.write.new.self.calls
            c.take_in.new.self.engine c.collect_all.new.self.engine c.respond.new.self.engine c.take_in.new.self.refused c.collect_all.new.self.refused
            c.respond.new.self.refused
            c.respond.new.self.waiting k1.0 k7.0 c.take_in.new.self.is_ended c.in_ok-has_read.has_read c.in_ok-has_collected.has_collected
            c.in_ok-has_written.has_written
            (g.L.Link.read_idles c.args.link.now) (g.L.Link.read_idles c.write.new.link) (g.L.Link.write_idles c.args.link.now)
            (g.L.Link.write_idles c.write.new.link)
            (g.L.Link.ends c.args.link.now) (g.L.Link.ends c.write.new.link) k1.1 k7.1 last c.in_ok-has_collected.ensures.sound ended k k2.0 k3.0.0 k4.0
            (λ e. k5.0 ((ap (λ x. x.is_ended) c.in_ok-respond.ensures.same ∙ (ap (λ x. x.is_ended) c.in_ok-has_collected.ensures.same)) ∙ e)) o w
            c.args.self.now.may_wait c.take_in.new.self.may_wait c.collect_all.new.self.may_wait c.in_ok-has_read.ensures.idle idle k3.0.1
            c.is_any.result c.is_any.ensures (λ e f i. c.in_ok-check_served.ensures.unserved
            (((ap (λ x. x.is_ended) c.in_ok-has_written.ensures.same ∙ ap (λ x. x.is_ended) c.in_ok-hold.ensures.same) ∙
            (ap (λ x. x.is_ended) c.in_ok-respond.ensures.same ∙ (ap (λ x. x.is_ended) c.in_ok-has_collected.ensures.same))) ∙ e) f
            (λ id. ap (λ x. call_on x id) (ap (λ x. x.engine) c.in_ok-has_written.ensures.same ∙ ap (λ x. x.engine) c.in_ok-hold.ensures.same) ∙ i id))),
        idle_at c.respond.new.self.engine c.write.new.self.engine c.collect_all.new.self.may_wait c.write.new.self.may_wait
            (past.own ++ (k1.3.heard.goes.did ++ k3.0.0.goes.did))
            (ap (λ x. x.engine) c.in_ok-has_written.ensures.same ∙ ap (λ x. x.engine) c.in_ok-hold.ensures.same)
            ((ap (λ x. x.may_wait) c.in_ok-has_written.ensures.same ∙ ap (λ x. x.may_wait) c.in_ok-hold.ensures.same) ∙
            ap (λ x. x.may_wait) c.in_ok-respond.ensures.same)
            (idle_now g.K.CallConnection.stands g.K.CallConnection.output c.args.setting.now c.args.lock.now.setup past before c.args.self.now.calls
            c.args.self.now.engine c.args.self.now.refused c.args.self.now.is_ended h
            c.args.pass.now c.take_in.new.pass c.collect_all.new.pass c.take_in.new.self.calls c.collect_all.new.self.calls c.respond.new.self.calls
            c.hold.new.self.calls c.write.new.self.calls
            c.take_in.new.self.engine c.collect_all.new.self.engine c.respond.new.self.engine c.take_in.new.self.refused c.collect_all.new.self.refused
            c.respond.new.self.refused
            c.respond.new.self.waiting k1.0 k7.0 c.take_in.new.self.is_ended c.in_ok-has_read.has_read c.in_ok-has_collected.has_collected
            c.in_ok-has_written.has_written
            (g.L.Link.read_idles c.args.link.now) (g.L.Link.read_idles c.write.new.link) (g.L.Link.write_idles c.args.link.now)
            (g.L.Link.write_idles c.write.new.link)
            (g.L.Link.ends c.args.link.now) (g.L.Link.ends c.write.new.link) k1.1 k7.1 last c.in_ok-has_collected.ensures.sound ended k k2.0 k3.0.0 k4.0
            (λ e. k5.0 ((ap (λ x. x.is_ended) c.in_ok-respond.ensures.same ∙ (ap (λ x. x.is_ended) c.in_ok-has_collected.ensures.same)) ∙ e)) o w
            c.args.self.now.may_wait c.take_in.new.self.may_wait c.collect_all.new.self.may_wait c.in_ok-has_read.ensures.idle idle k3.0.1),
      ),
      tt,
    ))
