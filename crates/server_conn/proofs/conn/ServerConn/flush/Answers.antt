use Rattle.std.proofs.Common.{ap}
use Rattle.server_conn.proofs.Putting.{kept_flushed}
use Rattle.server_conn.proofs.conn.ServerConn.flush.Goals as goal

pub returns-clause-keeps : goal.returns-clause-keeps
returns-clause-keeps g c = λ s t pieces own is_ended outcome kept.
    let p = c.put_all.ensures.puts in
    kept_flushed s t c.args.self.now.refused own is_ended outcome g.K.CallConnection.stands g.K.CallConnection.output c.args.self.now.calls
    c.put_all.new.self.calls (g.L.Link.pieces c.args.link.now) (g.L.Link.pieces c.put_all.new.link) pieces p.0 c.put_all.new.self.refused
    (ap (λ x. x.refused) c.put_all.ensures.same) p.1 kept
