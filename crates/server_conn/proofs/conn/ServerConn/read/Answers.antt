use Rattle.std.proofs.Common.{[], ℕ, ◌∙◌, ◌<◌, ap, arith, inl, inr, length, length-take, refl, replicate, take}
use Rattle.std.proofs.lemmas.List.{length-replicate}
use Rattle.server_conn.proofs.Gets.{read_fails, reads_end, reads_none, reads_some, short_read, told_got}
use Rattle.server_conn.proofs.Turning.{told_none}
use Rattle.server_conn.proofs.conn.ServerConn.read.Goals as goal
use Rattle.server_conn.proofs.conn.ServerConn.read.Goals.{then-self-via-then-self, then-self-via-else-self+then-out-ge-MUCH}

pub returns-then-self-clause-goes : goal.returns-then-self-clause-goes
returns-then-self-clause-goes g c = λ s t actions pieces own rest works settled. (
  [],
  omega arith,
  told_none (g.L.Link.pieces c.args.link.now),
  reads_none g.K.CallConnection.stands g.K.CallConnection.output s c.args.self.now.calls c.args.self.now.engine c.args.self.now.refused t actions pieces own
      (record { reads = g.L.Link.read_idles c.args.link.now; writes = g.L.Link.write_idles c.args.link.now; ends = g.L.Link.ends c.args.link.now })
      (record { reads = g.L.Link.read_idles c.args.link.now; writes = g.L.Link.write_idles c.args.link.now; ends = g.L.Link.ends c.args.link.now })
      c.args.self.now.is_ended works (elim c.then-self.branch [
        | then-self-via-then-self w ↦ inl w.if-self.true
        | then-self-via-else-self+then-out-ge-MUCH w ↦ inr (inr (omega (arith, w.if-out-ge-MUCH.true, ap length w.out.ensures)))
      ]),
  tt,
)

pub returns-in-NotReady-clause-goes : goal.returns-in-NotReady-clause-goes
returns-in-NotReady-clause-goes g c = λ s t actions pieces own rest works settled. (
  [],
  omega arith,
  c.in-NotReady.ensures.pieces ∙ told_none (g.L.Link.pieces c.args.link.now),
  reads_none g.K.CallConnection.stands g.K.CallConnection.output s c.args.self.now.calls c.args.self.now.engine c.args.self.now.refused t actions pieces own
      (record { reads = g.L.Link.read_idles c.args.link.now; writes = g.L.Link.write_idles c.args.link.now; ends = g.L.Link.ends c.args.link.now })
      (record { reads = g.L.Link.read_idles c.poll_read.new.self; writes = g.L.Link.write_idles c.poll_read.new.self; ends = g.L.Link.ends c.poll_read.new.self })
      c.args.self.now.is_ended works (inr (inl (c.in-NotReady.ensures.idle.rose refl))),
  tt,
)

pub returns-in-Failed-clause-goes : goal.returns-in-Failed-clause-goes
returns-in-Failed-clause-goes g c = λ s t actions pieces own rest works settled. (
  [],
  omega arith,
  c.in-Failed.ensures.pieces ∙ told_none (g.L.Link.pieces c.args.link.now),
  tt,
  read_fails g.K.CallConnection.stands g.K.CallConnection.output s c.args.self.now.calls c.args.self.now.engine c.args.self.now.refused t actions pieces own
      rest c.args.self.now.is_ended works settled,
)

pub returns-in-End-clause-goes : goal.returns-in-End-clause-goes
returns-in-End-clause-goes g c = λ s t actions pieces own rest works settled. (
  [],
  omega arith,
  c.in-End.ensures.pieces ∙ told_none (g.L.Link.pieces c.args.link.now),
  reads_end g.K.CallConnection.stands g.K.CallConnection.output s c.args.self.now.calls c.args.self.now.engine c.args.self.now.refused t actions pieces own
      (record { reads = g.L.Link.read_idles c.args.link.now; writes = g.L.Link.write_idles c.args.link.now; ends = g.L.Link.ends c.args.link.now })
      (record { reads = g.L.Link.read_idles c.poll_read.new.self; writes = g.L.Link.write_idles c.poll_read.new.self; ends = g.L.Link.ends c.poll_read.new.self })
      c.args.self.now.is_ended c.if-self.false works,
  tt,
)

pub returns-in-Got-clause-goes : goal.returns-in-Got-clause-goes
returns-in-Got-clause-goes g c = λ s t actions pieces own rest works settled.
    let bytes = take c.in-Got.n c.poll_read.new.buffer in
    let some : 0 < length bytes = omega (arith, c.in-Got.ensures.bound.0, c.in-Got.ensures.bound.1, length-take c.in-Got.n c.poll_read.new.buffer) in
    let h = reads_some g.K.CallConnection.stands g.K.CallConnection.output s c.args.self.now.calls c.feed.new.self.engine c.feed.new.self.refused t actions pieces
    own
    (record { reads = g.L.Link.read_idles c.args.link.now; writes = g.L.Link.write_idles c.args.link.now; ends = g.L.Link.ends c.args.link.now })
    (record { reads = g.L.Link.read_idles c.poll_read.new.self; writes = g.L.Link.write_idles c.poll_read.new.self; ends = g.L.Link.ends c.poll_read.new.self })
    c.feed.new.self.calls bytes c.args.self.now.is_ended c.feed.new.self.is_ended c.feed.result some
    (c.feed.ensures.goes s t actions pieces own rest works settled) in (
      bytes,
      short_read c.in-Got.n 16384 (replicate 16384 0) c.poll_read.new.buffer (length-replicate {A = ℕ} 16384 0) c.poll_read.ensures.size,
      told_got (g.L.Link.pieces c.args.link.now) (g.L.Link.pieces c.poll_read.new.self) bytes some c.in-Got.ensures.pieces,
      h.0,
      h.1,
    )
