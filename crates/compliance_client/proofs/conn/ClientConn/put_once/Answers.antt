use Rattle.std.proofs.Common.{◌<◌, ◌≤◌, length, refl, subst, sym}
use Rattle.compliance_client.proofs.Putting.{puts_one}
use Rattle.compliance_client.proofs.conn.ClientConn.put_once.Goals as goal

pub poll_write-requires : goal.poll_write-requires
poll_write-requires g c = subst (λ l. 0 < length l) (sym c.out.ensures) c.requires.output

pub drop_out-requires : goal.drop_out-requires
drop_out-requires g c = subst (λ l. c.in-Put.n ≤ length l) c.out.ensures c.in-Put.ensures.bound.1

pub returns-in-Put-clause-put : goal.returns-in-Put-clause-put
returns-in-Put-clause-put g c n e = puts_one g.K.CallConnection.stands g.K.CallConnection.output c.args.self.now.calls c.drop_out.new.self
    (g.L.Link.pieces c.args.link.now) (g.L.Link.pieces c.poll_write.new.self) c.out.result.now c.in-Put.n c.out.ensures c.in-Put.ensures.bound
    c.drop_out.ensures.dropped c.drop_out.ensures.output c.in-Put.ensures.pieces

pub returns-in-Put-clause-none : goal.returns-in-Put-clause-none
returns-in-Put-clause-none g c never = absurd (never c.in-Put.n refl)
