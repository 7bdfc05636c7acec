use Rattle.std.proofs.Common.{◌≡◌, ◌+◌, length, ap, ◌∙◌, arith}
use Rattle.link_serving.specs.declared.course.Tally.{Tally}
use Rattle.link_serving.specs.Serving.{links_of}
use Rattle.link_serving.proofs.Serves.{backs_item, told_items}
use Rattle.link_serving.proofs.serving.drain.Goals as goal

pub items-preserved : goal.items-preserved
items-preserved g c =
    let inv = c.items.invariant in
    let some = c.in-Some.ensures.some in
    let live = c.in-Some.ensures.live in
    let back = c.take_back.ensures.back in
    let origin = g.V.Service.origin in
    let links = links_of g.A.Acceptor.given_count g.A.Acceptor.retired_count g.A.Acceptor.given g.A.Acceptor.retired in
    let course = c.items.course in
    let one : length c.items.turns.over ≡ length c.take_over.new.self.over + 1 = ap length some.2 ∙ omega arith in
    let same : length c.take_over.new.self.live ≡ length c.items.turns.live = ap length live in (
      c.take_back.ensures.root.0,
      c.take_back.ensures.root.1,
      omega (arith, inv.2, one, same, back.took, back.gave),
      live ∙ inv.3,
      λ start s.
          told_items g.V.Service.served origin start c.take_back.new.root (links c.take_back.new.acceptor) c.take_over.new.self _ _ _ _
          (ap (λ (t : Tally). t.lacks_memory) c.ends.ensures.tally) (ap (λ (t : Tally). t.is_spent) c.ends.ensures.tally)
          (backs_item g.V.Service.served origin start c.items.root c.take_back.new.root (links c.items.acceptor) (links c.take_back.new.acceptor) c.items.turns c.take_over.new.self
          course.tally.lacks_memory course.tally.is_spent c.in-Some.made c.close-link.result.0 c.close-link.result.1 c.close-link.result.2
          c.close-link.ensures.served back live some.2 (inv.4 start s)),
      c.take_back.ensures.same.0 ∙ inv.5,
      c.take_back.ensures.same.1 ∙ inv.6,
      back.gave ∙ inv.7,
      c.ends.ensures.ended ∙ inv.8,
      ap (λ (t : Tally). t.has_failed) c.ends.ensures.tally ∙ inv.9,
    )
