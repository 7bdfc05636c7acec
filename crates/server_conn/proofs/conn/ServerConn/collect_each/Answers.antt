use Rattle.std.proofs.Common.{◌++◌, ◌+◌, ◌||◌, ◌∙◌, ap, refl}
use Rattle.server_conn.specs.declared.conn.ServerConn.{ServerConn}
use Rattle.server_conn.proofs.CollectSteps.{below_all, below_next, below_starved, below_stops, below_then, least_by, none_below, none_by, settled_below}
use Rattle.server_conn.proofs.Grown.{made_more}
use Rattle.server_conn.proofs.conn.ServerConn.collect_each.Goals as goal

pub sessions-init : goal.sessions-init
sessions-init g c = (
  c.requires.pass,
  c.requires.sound,
  refl,
  λ t actions pieces own rest h settled last. none_below g.K.CallConnection.stands g.K.CallConnection.output c.args.setting.now c.args.lock.now.setup
      c.args.pass.now c.args.self.now.calls c.args.self.now.engine c.args.self.now.refused
      c.args.self.now.may_wait t actions pieces own c.requires.sound h,
)

pub returns-in-Err-clause-goes : goal.returns-in-Err-clause-goes
returns-in-Err-clause-goes g c = λ t actions pieces own rest h settled last.
    let uses = g.K.CallConnection.stands in
    let output = g.K.CallConnection.output in
    let s = c.args.setting.now in
    let config = c.args.lock.now.setup in
    let m = c.sessions.invariant.3 t actions pieces own rest h settled last in
    let settled_now = settled_below uses output s config c.args.pass.now c.sessions.pass c.args.self.now.calls c.sessions.self.calls c.args.self.now.engine
    c.sessions.self.engine c.args.self.now.refused c.sessions.self.refused c.sessions.from
    c.sessions.self.may_wait t actions pieces own rest c.sessions.has_moved h settled m in
    let k = c.in-Err.ensures.goes m.goes.trace m.goes.actions pieces (own ++ m.goes.did) rest m.goes.works settled_now
    (made_more config c.args.pass.now c.sessions.pass own m.goes.did last m.goes.made) in (
      tt,
      below_stops uses output s config c.args.pass.now c.sessions.pass c.collect_one.new.pass c.sessions.self.calls c.collect_one.new.self.calls
          c.args.self.now.engine c.sessions.self.engine c.collect_one.new.self.engine c.sessions.self.refused c.collect_one.new.self.refused c.sessions.from
          c.sessions.self.may_wait t pieces own c.sessions.has_moved c.collect_one.new.self.is_ended c.in-Err.cause m k.1,
    )

pub returns-in-None-clause-goes : goal.returns-in-None-clause-goes
returns-in-None-clause-goes g c = λ t actions pieces own rest h settled last.
    let uses = g.K.CallConnection.stands in
    let output = g.K.CallConnection.output in
    let s = c.args.setting.now in
    let config = c.args.lock.now.setup in
    let m = c.sessions.invariant.3 t actions pieces own rest h settled last in
    let settled_now = settled_below uses output s config c.args.pass.now c.sessions.pass c.args.self.now.calls c.sessions.self.calls c.args.self.now.engine
    c.sessions.self.engine c.args.self.now.refused c.sessions.self.refused c.sessions.from
    c.sessions.self.may_wait t actions pieces own rest c.sessions.has_moved h settled m in
    let k = c.in-Ok.ensures.goes m.goes.trace m.goes.actions pieces (own ++ m.goes.did) rest m.goes.works settled_now
    (made_more config c.args.pass.now c.sessions.pass own m.goes.did last m.goes.made) in
    let now = below_then uses output s config c.args.pass.now c.sessions.pass c.collect_one.new.pass c.sessions.self.calls c.collect_one.new.self.calls
    c.args.self.now.engine c.sessions.self.engine c.collect_one.new.self.engine c.sessions.self.refused c.collect_one.new.self.refused c.sessions.from
    c.in-Some.stream t pieces own c.sessions.has_moved c.in-Ok.has_any
    c.sessions.self.may_wait c.collect_one.new.self.may_wait m k.0 c.in-Some.ensures.found.0
    (least_by c.sessions.self.engine c.sessions.from c.in-Some.stream c.in-Some.ensures.first) in (
      tt,
      below_starved uses output s config c.args.pass.now c.collect_one.new.pass c.args.self.now.calls c.collect_one.new.self.calls c.args.self.now.engine
          c.collect_one.new.self.engine c.args.self.now.refused c.collect_one.new.self.refused (c.in-Some.stream + 1)
          c.collect_one.new.self.may_wait t actions pieces own rest
          (c.sessions.has_moved || c.in-Ok.has_any) c.collect_one.new.self.is_ended h settled now,
    )

pub returns-clause-goes : goal.returns-clause-goes
returns-clause-goes g c = λ t actions pieces own rest h settled last. (
  below_all g.K.CallConnection.stands g.K.CallConnection.output c.args.setting.now c.args.lock.now.setup c.args.pass.now c.sessions.pass
      c.sessions.self.calls c.args.self.now.engine c.sessions.self.engine c.sessions.self.refused c.sessions.from
      c.sessions.self.may_wait t pieces own c.sessions.has_moved
      (c.sessions.invariant.3 t actions pieces own rest h settled last)
      (none_by c.sessions.self.engine c.sessions.from c.in_default.ensures.first),
  tt,
)

pub sessions-preserved : goal.sessions-preserved
sessions-preserved g c = (
  c.collect_one.ensures.pass,
  c.collect_one.ensures.sound,
  c.collect_one.ensures.same
      ∙ ap (λ (x : ServerConn g.row.K.Denot). record x {
        calls = c.collect_one.new.self.calls;
        engine = c.collect_one.new.self.engine;
        refused = c.collect_one.new.self.refused;
        may_wait = c.collect_one.new.self.may_wait;
      })
      c.sessions.invariant.2,
  λ t actions pieces own rest h settled last.
      let uses = g.K.CallConnection.stands in
      let output = g.K.CallConnection.output in
      let s = c.args.setting.now in
      let config = c.args.lock.now.setup in
      let m = c.sessions.invariant.3 t actions pieces own rest h settled last in
      let settled_now = settled_below uses output s config c.args.pass.now c.sessions.pass c.args.self.now.calls c.sessions.self.calls c.args.self.now.engine
      c.sessions.self.engine c.args.self.now.refused c.sessions.self.refused c.sessions.from
      c.sessions.self.may_wait t actions pieces own rest c.sessions.has_moved h settled m in
      let k = c.in-Ok.ensures.goes m.goes.trace m.goes.actions pieces (own ++ m.goes.did) rest m.goes.works settled_now
      (made_more config c.args.pass.now c.sessions.pass own m.goes.did last m.goes.made) in
      below_next uses output s config c.args.pass.now c.sessions.pass c.collect_one.new.pass c.sessions.self.calls c.collect_one.new.self.calls
      c.args.self.now.engine c.sessions.self.engine c.collect_one.new.self.engine c.sessions.self.refused c.collect_one.new.self.refused c.sessions.from
      c.in-Some.stream t pieces own c.sessions.has_moved c.in-Ok.has_any
      c.sessions.self.may_wait c.collect_one.new.self.may_wait m k.0 c.in-Some.ensures.found.0
      (least_by c.sessions.self.engine c.sessions.from c.in-Some.stream c.in-Some.ensures.first)
      c.in-Some-checked_add.next c.either-has_moved.result c.in-Some-checked_add.ensures.1 c.either-has_moved.ensures,
)
