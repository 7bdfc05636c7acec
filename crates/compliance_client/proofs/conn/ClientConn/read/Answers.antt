use Rattle.std.proofs.Common.{[], ◌++◌, ℕ, None, Some, ◌∙◌, ◌<◌, ap, arith, length, length-take, replicate, subst, take, Bool}
use Rattle.std.specs.Option.{option_map}
use Rattle.std.proofs.lemmas.List.{length-replicate}
use Rattle.compliance_client.specs.declared.over.ClientOver.TheVariants as over
use Rattle.compliance_client.specs.Turns.{Turned, over_of}
use Rattle.compliance_client.proofs.Moving.{turned_of, works_still}
use Rattle.compliance_client.proofs.Putting.{false_true, got_some, short_read, told_none}
use Rattle.compliance_client.proofs.Results.{ok_map}
use Rattle.compliance_client.proofs.conn.ClientConn.read.Goals as goal

pub returns-in-NotReady-clause-goes : goal.returns-in-NotReady-clause-goes
returns-in-NotReady-clause-goes g c = λ n past h. (
  [],
  omega arith,
  c.in-NotReady.ensures.pieces ∙ told_none (g.L.Link.pieces c.args.link.now),
  turned_of g.K.CallConnection.stands n None c.args.self.now.calls c.args.self.now.kept.items c.args.self.now.tally past past.trace []
      (works_still g.K.CallConnection.stands n c.args.self.now.calls c.args.self.now.kept.items c.args.self.now.tally past h) tt,
  (λ e. false_true e, λ some. absurd (omega (arith, some))),
)

pub returns-in-Failed-clause-goes : goal.returns-in-Failed-clause-goes
returns-in-Failed-clause-goes g c = λ n past h. (
  [],
  omega arith,
  c.in-Failed.ensures.pieces ∙ told_none (g.L.Link.pieces c.args.link.now),
  turned_of g.K.CallConnection.stands n (Some over.ReadFault) c.args.self.now.calls c.args.self.now.kept.items c.args.self.now.tally past past.trace []
      (works_still g.K.CallConnection.stands n c.args.self.now.calls c.args.self.now.kept.items c.args.self.now.tally past h) tt,
  tt,
)

pub returns-in-End-clause-goes : goal.returns-in-End-clause-goes
returns-in-End-clause-goes g c = λ n past h. (
  [],
  omega arith,
  c.in-End.ensures.pieces ∙ told_none (g.L.Link.pieces c.args.link.now),
  turned_of g.K.CallConnection.stands n (Some over.Ended) c.args.self.now.calls c.args.self.now.kept.items c.args.self.now.tally past past.trace []
      (works_still g.K.CallConnection.stands n c.args.self.now.calls c.args.self.now.kept.items c.args.self.now.tally past h) tt,
  tt,
)

pub returns-in-Got-clause-goes : goal.returns-in-Got-clause-goes
returns-in-Got-clause-goes g c = λ n past h.
    let bytes = take c.in-Got.n c.poll_read.new.buffer in
    let some : 0 < length bytes = omega (arith, c.in-Got.ensures.bound.0, c.in-Got.ensures.bound.1, length-take c.in-Got.n c.poll_read.new.buffer) in (
      bytes,
      short_read c.in-Got.n 16384 (replicate 16384 0) c.poll_read.new.buffer (length-replicate {A = ℕ} 16384 0) c.poll_read.ensures.size,
      c.in-Got.ensures.pieces ∙ ap (λ l. option_map (λ told. told ++ l) (g.L.Link.pieces c.args.link.now)) (got_some bytes some),
      subst (Turned g.K.CallConnection.stands n (over_of c.feed.result) c.feed.new.self.calls c.feed.new.self.kept.items c.feed.new.self.tally past)
          (got_some bytes some) (c.feed.ensures.goes n past h),
      ok_map c.feed.result (λ (moved : Bool) e. (λ f. some, λ x. e)) c.feed.ensures.moved,
    )
