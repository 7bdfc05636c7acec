use Rattle.std.proofs.Common.{◌≡◌, ◌++◌, ◌||◌, ◌∙◌, false, true, refl, ap}
use Rattle.server_conn.proofs.CollectSteps.{collect_given, collect_owes, collect_spent}
use Rattle.server_conn.proofs.Passing.{makes_pass, makes_sound}
use Rattle.server_conn.proofs.conn.ServerConn.collect_one.Goals as goal

pub returns-in-Err-clause-pass : goal.returns-in-Err-clause-pass
returns-in-Err-clause-pass g c = makes_pass c.args.lock.now.setup c.args.pass.now c.collect.new.pass c.in-Err.ensures.spent.did c.args.lock.now true
    c.requires.pass c.in-Err.ensures.spent.spent

pub returns-in-Err-clause-sound : goal.returns-in-Err-clause-sound
returns-in-Err-clause-sound g c = makes_sound c.args.lock.now.setup c.args.pass.now c.collect.new.pass c.in-Err.ensures.spent.did true
    c.in-Err.ensures.spent.spent

pub returns-in-Err-clause-goes : goal.returns-in-Err-clause-goes
returns-in-Err-clause-goes g c = λ t actions pieces own rest works settled last. (
  tt,
  collect_spent g.K.CallConnection.stands g.K.CallConnection.output c.args.setting.now c.args.lock.now.setup c.args.pass.now c.collect.new.pass
      c.args.self.now.calls c.args.self.now.engine c.collect.new.self c.args.self.now.refused c.args.stream t actions pieces own works
      c.in-Err.ensures.spent c.args.self.now.is_ended,
)

pub returns-in-Ok-clause-pass : goal.returns-in-Ok-clause-pass
returns-in-Ok-clause-pass g c = makes_pass c.args.lock.now.setup c.args.pass.now c.collect.new.pass c.in-Ok.ensures.done.0.did c.args.lock.now false
    c.requires.pass c.in-Ok.ensures.done.0.entries

pub returns-in-Ok-clause-sound : goal.returns-in-Ok-clause-sound
returns-in-Ok-clause-sound g c = makes_sound c.args.lock.now.setup c.args.pass.now c.collect.new.pass c.in-Ok.ensures.done.0.did false
    c.in-Ok.ensures.done.0.entries

pub returns-in-Ok-clause-goes : goal.returns-in-Ok-clause-goes
returns-in-Ok-clause-goes g c = λ t actions pieces own rest works settled last.
    let uses = g.K.CallConnection.stands in
    let output = g.K.CallConnection.output in
    let s = c.args.setting.now in
    let noted : c.give.new.self.may_wait ≡ (c.args.self.now.may_wait || c.in-Ok.has_left) =
    ap (λ x. x.may_wait) c.give.ensures.same ∙ c.either-self.ensures in
    let owed = collect_owes uses output s c.args.lock.now.setup c.args.pass.now c.collect.new.pass c.args.self.now.calls c.args.self.now.engine
    c.collect.new.self c.args.self.now.refused c.args.stream c.in-Ok.step t actions pieces own rest works settled last c.requires.call
    c.in-Ok.ensures.done.0 c.args.self.now.may_wait c.in-Ok.has_left c.give.new.self.may_wait c.in-Ok.ensures.done.1 noted in
    collect_given uses output s c.args.lock.now.setup c.args.pass.now c.collect.new.pass c.args.self.now.calls c.args.self.now.engine c.collect.new.self
    c.args.self.now.refused c.args.stream c.in-Ok.step t actions pieces own rest works settled last c.requires.call c.in-Ok.ensures.done.0
    c.args.self.now.may_wait c.in-Ok.has_left c.give.new.self.may_wait c.in-Ok.ensures.done.1 noted
    c.give.new.self.engine (ap (λ x. x.engine) c.give.ensures.same) c.give.new.self.calls c.give.new.self.refused c.give.new.self.is_ended
    c.give.result c.give.ensures.alive
    (c.give.ensures.goes s t _ pieces (own ++ c.in-Ok.ensures.done.0.did) refl owed)
