use Rattle.std.proofs.Common.{◌∷◌, [], None, Some, refl, subst}
use Rattle.rig_io.specs.Link as link
use Rattle.http_connection.specs.ConnectionTrace.{fed_more}
use Rattle.grpc_stream.specs.CallTrace.{changed}
use Rattle.compliance_client.specs.declared.over.ClientOver.TheVariants as over
use Rattle.compliance_client.proofs.Moving.{starved_got, turned_of, works_fed}
use Rattle.compliance_client.proofs.conn.ClientConn.feed.Goals as goal

pub returns-in_default-clause-goes : goal.returns-in_default-clause-goes
returns-in_default-clause-goes g c = λ n past h.
    turned_of g.K.CallConnection.stands n (Some over.NoMemory) c.args.self.now.calls c.args.self.now.kept.items c.args.self.now.tally past past.trace
    (link.received c.args.piece.now ∷ []) (starved_got g.K.CallConnection.stands n c.args.self.now.calls c.args.self.now.calls c.args.self.now.kept.items
    c.args.self.now.tally past (link.received c.args.piece.now ∷ []) h h.used refl) tt

pub returns-in-Err-clause-goes : goal.returns-in-Err-clause-goes
returns-in-Err-clause-goes g c = λ n past h.
    turned_of g.K.CallConnection.stands n (Some over.NoMemory) c.feed.new.self c.args.self.now.kept.items c.args.self.now.tally past past.trace
    (link.received c.args.piece.now ∷ []) (starved_got g.K.CallConnection.stands n c.args.self.now.calls c.feed.new.self c.args.self.now.kept.items
    c.args.self.now.tally past (link.received c.args.piece.now ∷ []) h (c.in-Err.ensures.err past.trace h.used) refl) tt

pub returns-in-Ok-feed-clause-goes : goal.returns-in-Ok-feed-clause-goes
returns-in-Ok-feed-clause-goes g c = λ n past h.
    let used = subst (λ b. g.K.CallConnection.stands c.feed.new.self (changed (fed_more b) past.trace)) c.in-Ok.ensures (c.in-Ok-feed.ensures.ok past.trace h.used) in
    turned_of g.K.CallConnection.stands n None c.feed.new.self c.args.self.now.kept.items c.args.self.now.tally past
    (changed (fed_more c.args.piece.now) past.trace) (link.received c.args.piece.now ∷ [])
    (works_fed g.K.CallConnection.stands n c.args.self.now.calls c.feed.new.self c.args.self.now.kept.items c.args.self.now.tally past c.args.piece.now h used) tt
