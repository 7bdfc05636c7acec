use Rattle.std.proofs.Common.{[], ◌∷◌, ◌++◌, ◌∙◌, refl, ap}
use Rattle.compliance_client.specs.declared.conn.ClientConn.{ClientConn}
use Rattle.compliance_client.proofs.Putting.{put_none, put_some, puts_more, puts_none, stays_still}
use Rattle.compliance_client.proofs.Putting.{false_true}
use Rattle.compliance_client.proofs.conn.ClientConn.put_all.Goals as goal

pub puts-init : goal.puts-init
puts-init g c = (
  ([], puts_none g.K.CallConnection.stands g.K.CallConnection.output c.args.self.now.calls (g.L.Link.pieces c.args.link.now), (λ e. false_true e, put_none)),
  refl,
  refl,
  refl,
  refl,
  refl,
)

pub puts-preserved : goal.puts-preserved
puts-preserved g c =
    (let i = c.puts.invariant in
    let k = c.in-Put.ensures.put c.in-Put.field-0 refl in (
      (
        i.0.0 ++ k.0 ∷ [],
        puts_more g.K.CallConnection.stands g.K.CallConnection.output c.args.self.now.calls c.puts.self.calls c.put_once.new.self.calls
            (g.L.Link.pieces c.args.link.now) (g.L.Link.pieces c.puts.link) (g.L.Link.pieces c.put_once.new.link) i.0.0 (k.0 ∷ []) i.0.1 k.2,
        (λ e. put_some i.0.0 k.0 k.1, λ some. refl),
      ),
      stays_still _ _ _ _ i.1 (λ e. cc) c.in-Put.ensures.stays,
      stays_still _ _ _ _ i.2 (λ e. cc) c.in-Put.ensures.awake,
      c.put_once.ensures.reads.0 ∙ i.3,
      c.put_once.ensures.reads.1 ∙ i.4,
      c.put_once.ensures.same ∙ ap {A = ClientConn g.row.K.Denot} (λ x. record x { calls = c.put_once.new.self.calls }) i.5,
    ))
