use Rattle.std.proofs.Common.{ap, ◌∙◌, arith, ◌<◌}
use Rattle.h2_streams.specs.declared.live.Stream.{Stream}
use Rattle.h2_streams.specs.Set.{Set}
use Rattle.h2_streams.proofs.Ordered.{kept_begun}
use Rattle.h2_streams.proofs.set.StreamSet.begin_next.Goals as goal
use Rattle.h2_streams.proofs.set.StreamSet.begin_next.Goals.{then-self-eq0, else-self-eq0}

pub invariant_of-self-2 : goal.invariant_of-self-2
invariant_of-self-2 c =
    let above : c.self.inside.highest < c.if-self-eq0.id = elim c.if-self-eq0.branch [ then-self-eq0 w ↦ omega (arith, w.if-self-eq0, w.id-is) | else-self-eq0 w ↦ omega (arith, w.id-is) ] in
    kept_begun c.self.inside.role c.self.inside.limits.streams _ _ c.self.inside.highest c.if-self-eq0.id c.new.result c.self.inside.live.items c.push.new.self.items c.push.result c.is_err.result
    (ap (λ (s : Set). s.role) c.self.view_is ∙ c.requires) c.push.ensures.items c.is_err.ensures.value c.if-is_err.false (ap (λ (s : Stream). s.id) c.new.ensures) above c.self.invariant.1
