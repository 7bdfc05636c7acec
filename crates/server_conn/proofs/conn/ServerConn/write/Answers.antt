use Rattle.std.proofs.Common.{ap, map}
use Rattle.rig_io.specs.Link.{sent}
use Rattle.server_conn.proofs.Putting.{fails_so, put_nothing_in, writes_so}
use Rattle.server_conn.proofs.conn.ServerConn.write.Goals as goal

pub returns-in-Some-clause-goes : goal.returns-in-Some-clause-goes
returns-in-Some-clause-goes g c = λ s t actions pieces own rest works settled.
    let p = c.in-Some.ensures.puts in (
      map sent p.0,
      put_nothing_in p.0,
      p.1.pieces,
      writes_so g.K.CallConnection.stands g.K.CallConnection.output s c.args.self.now.calls c.put_all.new.self.calls c.args.self.now.engine
          c.args.self.now.refused t actions pieces own rest (g.L.Link.pieces c.args.link.now) (g.L.Link.pieces c.put_all.new.link) p.0
          g.met.K.CallConnection.sound works settled p.1 c.put_all.new.self.engine c.put_all.new.self.refused c.in-Some.has_moved
          (g.L.Link.write_idles c.args.link.now) (g.L.Link.write_idles c.put_all.new.link) (ap (λ x. x.engine) c.put_all.ensures.same)
          (ap (λ x. x.refused) c.put_all.ensures.same) p.2 c.in-Some.ensures.until,
      tt,
    )

pub returns-in-None-clause-goes : goal.returns-in-None-clause-goes
returns-in-None-clause-goes g c = λ s t actions pieces own rest works settled.
    let p = c.in-None.ensures.puts in (
      map sent p.0,
      put_nothing_in p.0,
      p.1.pieces,
      tt,
      fails_so g.K.CallConnection.stands g.K.CallConnection.output s c.args.self.now.calls c.put_all.new.self.calls c.args.self.now.engine
          c.args.self.now.refused t actions pieces own rest (g.L.Link.pieces c.args.link.now) (g.L.Link.pieces c.put_all.new.link) p.0
          g.met.K.CallConnection.sound works settled p.1 c.put_all.new.self.engine c.put_all.new.self.refused c.put_all.new.self.is_ended
          (ap (λ x. x.engine) c.put_all.ensures.same) (ap (λ x. x.refused) c.put_all.ensures.same),
    )
