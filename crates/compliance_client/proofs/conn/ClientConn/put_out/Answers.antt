use Rattle.std.proofs.Common.{◌≡◌, ◌↔◌, ◌<◌, [], None, Some, length, map, subst, sym, true}
use Rattle.std.specs.List.{flat_map}
use Rattle.rig_io.specs.Link.{sent, sent_bytes}
use Rattle.compliance_client.specs.declared.conn.ClientConn.{ClientConn}
use Rattle.compliance_client.specs.declared.over.ClientOver.TheVariants as over
use Rattle.compliance_client.specs.Turns.{Turned}
use Rattle.compliance_client.proofs.Moving.{any_moves, fails, turned_put}
use Rattle.compliance_client.proofs.conn.ClientConn.put_out.Goals as goal

pub returns-in-None-clause-goes : goal.returns-in-None-clause-goes
returns-in-None-clause-goes g c = λ n past h.
    let k = c.in-Ok.ensures.goes n past h in
    let p = c.in-None.ensures.puts in (
      p.0,
      p.1.pieces,
      subst (λ (x : ClientConn g.row.K.Denot). Turned g.K.CallConnection.stands n (Some over.WriteFault) x.calls x.kept.items x.tally past (map sent p.0))
          (sym c.in-None.ensures.same)
          (fails g.K.CallConnection.stands n c.put_all.new.self.calls c.pump.new.self.kept.items c.pump.new.self.tally past (map sent p.0)
          (turned_put g.K.CallConnection.stands n None g.K.CallConnection.output c.pump.new.self.calls c.put_all.new.self.calls c.pump.new.self.kept.items
          c.pump.new.self.tally past [] (g.L.Link.pieces c.args.link.now) (g.L.Link.pieces c.put_all.new.link) p.0 k p.1)),
      tt,
    )

pub returns-in-Some-clause-goes : goal.returns-in-Some-clause-goes
returns-in-Some-clause-goes g c = λ n past h.
    let k = c.in-Ok.ensures.goes n past h in
    let p = c.in-Some.ensures.puts in
    let moves : c.in-Some.has_written ≡ true ↔ 0 < length (flat_map sent_bytes (map sent p.0)) = p.2 in (
      p.0,
      p.1.pieces,
      subst (λ (x : ClientConn g.row.K.Denot). Turned g.K.CallConnection.stands n None x.calls x.kept.items x.tally past (map sent p.0))
          (sym c.in-Some.ensures.same)
          (turned_put g.K.CallConnection.stands n None g.K.CallConnection.output c.pump.new.self.calls c.put_all.new.self.calls c.pump.new.self.kept.items
          c.pump.new.self.tally past [] (g.L.Link.pieces c.args.link.now) (g.L.Link.pieces c.put_all.new.link) p.0 k p.1),
      any_moves c.args.has_read c.in-Some.has_written c.is_any.result c.is_any.ensures moves,
    )
