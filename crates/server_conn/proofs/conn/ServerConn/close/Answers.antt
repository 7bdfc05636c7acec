use Rattle.std.proofs.Common.{◌∙◌, true, false, subst, sym, refl, ap}
use Rattle.h2_exchange.specs.Calls.{Dropped}
use Rattle.session_engine.specs.Stands.{dropped_is}
use Rattle.server_turns.specs.declared.outcome.Outcome.{Outcome}
use Rattle.server_conn.specs.declared.conn.ServerConn.{ServerConn}
use Rattle.server_conn.specs.Standing.{MayEnd, past_of}
use Rattle.server_conn.proofs.Closing.{close_goes, close_spent, leaving_more, leaving_none, same_outcome}
use Rattle.server_conn.proofs.Passing.{makes_pass, makes_sound}
use Rattle.server_conn.proofs.conn.ServerConn.close.Goals as goal

pub sessions-init : goal.sessions-init
sessions-init g c = (
  c.requires.pass,
  c.requires.sound,
  refl,
  λ actions own open_now did last. leaving_none c.args.setting.now c.args.lock.now.setup c.args.pass.now c.args.self.now.engine actions own c.requires.sound
      last open_now did,
)

pub returns-in-Err-clause-pass : goal.returns-in-Err-clause-pass
returns-in-Err-clause-pass g c =
    (let k = c.in-Err.ensures.spent c.args.setting.now (Dropped c.in-Some.stream) dropped_is in
    makes_pass c.args.lock.now.setup c.sessions.pass c.dropped.new.pass k.did c.args.lock.now true c.sessions.invariant.0 k.spent)

pub returns-in-Err-clause-leaves : goal.returns-in-Err-clause-leaves
returns-in-Err-clause-leaves g c = λ t pieces own outcome is m last.
    close_spent c.args.setting.now c.args.lock.now.setup c.args.pass.now c.sessions.pass c.args.self.now.engine c.sessions.self.engine c.sessions.invariant.3
    t (g.K.CallConnection.output c.args.self.now.calls) c.args.self.now.refused pieces own c.args.self.now.is_ended outcome m last c.in-Some.stream
    c.dropped.new.pass c.in-Some.ensures.found c.in-Some.ensures.oldest
    (c.in-Err.ensures.spent c.args.setting.now (Dropped c.in-Some.stream) dropped_is)

pub sessions-preserved : goal.sessions-preserved
sessions-preserved g c =
    (let k = c.in-Ok.ensures.done c.args.setting.now (Dropped c.in-Some.stream) dropped_is in (
      makes_pass c.args.lock.now.setup c.sessions.pass c.dropped.new.pass k.did c.args.lock.now false c.sessions.invariant.0 k.entries,
      makes_sound c.args.lock.now.setup c.sessions.pass c.dropped.new.pass k.did false k.entries,
      ap (λ (x : ServerConn g.row.K.Denot). record x { engine = c.dropped.new.self }) c.sessions.invariant.2,
      λ actions own open_now did last. leaving_more c.args.setting.now c.args.lock.now.setup c.args.pass.now c.sessions.pass c.dropped.new.pass own
          c.sessions.self.engine c.in-Some.stream (c.sessions.invariant.3 actions own open_now did last) c.in-Some.ensures.found c.in-Some.ensures.oldest
          c.dropped.new.self k,
    ))

pub returns-clause-leaves : goal.returns-clause-leaves
returns-clause-leaves g c = λ t pieces own outcome is m last.
    close_goes c.args.setting.now c.args.lock.now.setup c.args.pass.now c.sessions.pass c.args.self.now.engine c.sessions.self.engine c.sessions.invariant.3
    t (g.K.CallConnection.output c.args.self.now.calls) c.args.self.now.refused pieces own c.args.self.now.is_ended c.in-Ends.outcome
    (subst (λ (o : Outcome). MayEnd c.args.setting.now t (g.K.CallConnection.output c.args.self.now.calls) c.args.self.now.engine c.args.self.now.refused
    (past_of pieces own c.args.self.now.is_ended) o) (same_outcome outcome c.in-Ends.outcome (sym is ∙ c.in-Ends.is)) m) last
    c.oldest_session.result c.oldest_session.ensures.oldest c.in_default-oldest_session.not-Some
