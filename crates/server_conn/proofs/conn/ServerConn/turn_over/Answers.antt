use Rattle.std.proofs.Common.{◌≡◌, ◌++◌, ◌∙◌, sym, ap, subst}
use Rattle.std.specs.Option.{option_map}
use Rattle.server_conn.specs.Standing.{KeptBy, past_of}
use Rattle.server_conn.specs.Turns.{TurnsOver}
use Rattle.server_conn.proofs.Kept.{ends_over, faults_over}
use Rattle.server_conn.proofs.conn.ServerConn.turn_over.Goals as goal

pub returns-clause-goes : goal.returns-clause-goes
returns-clause-goes g c t pieces own h last =
    (let x = ends_over c.args.lock.now.setup c.args.setting.now t (g.K.CallConnection.output c.args.self.now.calls)
    (g.K.CallConnection.output c.say_last.new.self.calls)
    c.args.self.now.engine c.args.self.now.refused c.say_last.new.self.refused c.args.pass.now c.close-outcome.new.pass pieces own c.args.self.now.is_ended
    c.close-outcome.result (λ put. g.L.Link.pieces c.say_last.new.link ≡ option_map (λ told. told ++ put) (g.L.Link.pieces c.args.link.now)) c.args.cause
    (λ outcome e k. c.close-outcome.ensures.leaves t pieces own outcome e k last) c.close-outcome.ensures.spent
    (λ did k. c.say_last.ensures.keeps c.args.setting.now t pieces (own ++ did) c.args.self.now.is_ended
    (subst (λ n. KeptBy c.args.setting.now t (g.K.CallConnection.output c.close-outcome.new.self.calls) n
    (past_of pieces (own ++ did) c.args.self.now.is_ended) c.close-outcome.result)
    (sym (ap (λ x. x.refused) c.close-outcome.ensures.same))
    (subst (λ k. KeptBy c.args.setting.now t (g.K.CallConnection.output k) c.args.self.now.refused
    (past_of pieces (own ++ did) c.args.self.now.is_ended) c.close-outcome.result)
    (sym (ap (λ x. x.calls) c.close-outcome.ensures.same)) k))) h in (
      x.0,
      x.1,
      subst (λ b. TurnsOver c.args.lock.now.setup c.args.setting.now t (g.K.CallConnection.output c.say_last.new.self.calls)
          c.say_last.new.self.refused c.args.pass.now
          c.close-outcome.new.pass pieces own b c.args.cause c.close-outcome.result x.0)
          (sym (ap (λ x. x.is_ended) c.say_last.ensures.same ∙ ap (λ x. x.is_ended) c.close-outcome.ensures.same)) x.2,
    ))

pub returns-clause-fault : goal.returns-clause-fault
returns-clause-fault g c first h = faults_over first (g.L.Link.faults c.args.link.now) (g.L.Link.faults c.say_last.new.link) c.args.cause c.close-outcome.result
    c.close-outcome.ensures.outcome (λ e. (c.close-outcome.ensures.spent e).0) c.say_last.ensures.faults c.say_last.ensures.quiet h
