use Rattle.std.proofs.Common.{◌≡◌, ◌↔◌, ◌++◌, ◌<◌, None, length, map, true}
use Rattle.rig_io.specs.Link.{sent}
use Rattle.compliance_client.specs.Turns.{got, over_of}
use Rattle.compliance_client.proofs.Moving.{go_moves}
use Rattle.compliance_client.proofs.Putting.{told_then}
use Rattle.compliance_client.proofs.Results.{ok_map}
use Rattle.compliance_client.proofs.Working.{past_in, turned_then}
use Rattle.compliance_client.proofs.conn.ClientConn.go.Goals as goal

pub returns-in-Ok-clause-goes : goal.returns-in-Ok-clause-goes
returns-in-Ok-clause-goes g c = λ past h.
    let k = c.in-Ok.ensures.goes past h in
    let mid = past_in g.K.CallConnection.stands c.args.n.now None c.take_in.new.self.calls c.take_in.new.self.kept.items c.take_in.new.self.tally past (got k.0) k.3 in
    let m = c.put_out.ensures.goes c.args.n.now mid k.3.stands in
    let moves : c.in-Ok.has_read ≡ true ↔ 0 < length k.0 = k.4 in (
      got k.0 ++ map sent m.0,
      told_then (g.L.Link.pieces c.args.link.now) (g.L.Link.pieces c.take_in.new.link) (g.L.Link.pieces c.put_out.new.link) (got k.0) (map sent m.0) k.2 m.1,
      turned_then g.K.CallConnection.stands c.args.n.now (over_of c.put_out.result) c.take_in.new.self.calls c.put_out.new.self.calls
          c.take_in.new.self.kept.items c.put_out.new.self.kept.items c.take_in.new.self.tally c.put_out.new.self.tally past (got k.0) (map sent m.0) k.3 m.2,
      ok_map c.put_out.result (λ moved e. go_moves k.0 m.0 c.in-Ok.has_read moved moves e) m.3,
    )
