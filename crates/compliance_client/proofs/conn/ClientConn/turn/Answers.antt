use Rattle.std.proofs.Common.{◌≡◌, ◌↔◌, ◌++◌, ◌<◌, Some, map, subst, sym, true}
use Rattle.rig_io.specs.Link.{sent}
use Rattle.compliance_client.specs.declared.conn.ClientConn.{ClientConn}
use Rattle.compliance_client.specs.Turns.{Turned, moved_in}
use Rattle.compliance_client.proofs.Moving.{idle_moves, turned_put}
use Rattle.compliance_client.proofs.Putting.{told_then}
use Rattle.compliance_client.proofs.conn.ClientConn.turn.Goals as goal

pub returns-in-Ok-true-clause-goes : goal.returns-in-Ok-true-clause-goes
returns-in-Ok-true-clause-goes g c = λ none past h.
    let k = c.in-Ok-true.ensures.goes past h in
    let moves : c.in-Ok-true.field-0 ≡ true ↔ 0 < moved_in k.0 = k.3 in
    (k.0, k.1, k.2, moves.0 c.in-Ok-true.field-0-test)

pub returns-in-Ok-false-clause-goes : goal.returns-in-Ok-false-clause-goes
returns-in-Ok-false-clause-goes g c = λ none past h.
    let k = c.in-Ok-false.ensures.goes past h in
    let moves : c.in-Ok-false.field-0 ≡ true ↔ 0 < moved_in k.0 = k.3 in
    (k.0, k.1, k.2, idle_moves c.in-Ok-false.field-0 (moved_in k.0) c.in-Ok-false.field-0-test moves)

pub returns-in-Err-clause-goes : goal.returns-in-Err-clause-goes
returns-in-Err-clause-goes g c = λ none past h.
    let k = c.in-Err.ensures.goes past h in
    let p = c.flush.ensures.puts in (
      k.0 ++ map sent p.0,
      told_then (g.L.Link.pieces c.args.link.now) (g.L.Link.pieces c.go.new.link) (g.L.Link.pieces c.flush.new.link) k.0 (map sent p.0) k.1 p.1.pieces,
      subst (λ (x : ClientConn g.row.K.Denot). Turned g.K.CallConnection.stands c.args.n.now (Some c.in-Err.over) x.calls x.kept.items x.tally past
          (k.0 ++ map sent p.0)) (sym c.flush.ensures.same)
          (turned_put g.K.CallConnection.stands c.args.n.now (Some c.in-Err.over) g.K.CallConnection.output c.go.new.self.calls c.flush.new.self.calls
          c.go.new.self.kept.items c.go.new.self.tally past k.0 (g.L.Link.pieces c.go.new.link) (g.L.Link.pieces c.flush.new.link) p.0 k.2 p.1),
      tt,
    )
