use Rattle.std.proofs.Common.{refl, ap}
use Rattle.link_serving.specs.declared.course.Tally.{Tally}
use Rattle.link_serving.specs.Serving.{links_of}
use Rattle.link_serving.proofs.Serves.{accepted_still, told_items}
use Rattle.link_serving.proofs.serving.accept.Goals as goal

pub returns-then-not-is_new-clause-accepts : goal.returns-then-not-is_new-clause-accepts
returns-then-not-is_new-clause-accepts g c faults asked h =
    let t = c.note.ensures.tally in
    accepted_still faults _ _ asked _ _ _ _ _ _ _ _ refl refl refl c.note.ensures.ended (ap (λ (t : Tally). t.has_failed) t)
    (c.accept_one-came.ensures.accepts faults asked _ _ (c.links.invariant.4 faults asked h))

pub links-preserved : goal.links-preserved
links-preserved g c =
    let t = c.note.ensures.tally in
    let links = links_of g.A.Acceptor.given_count g.A.Acceptor.retired_count g.A.Acceptor.given g.A.Acceptor.retired in (
      c.accept_one-came.ensures.root.0,
      c.accept_one-came.ensures.root.1,
      c.accept_one-came.ensures.took,
      λ start s.
          told_items g.V.Service.served g.V.Service.origin start c.accept_one-came.new.root (links c.accept_one-came.new.acceptor) c.accept_one-came.new.turns _ _ _ _
          (ap (λ (t : Tally). t.lacks_memory) t) (ap (λ (t : Tally). t.is_spent) t)
          (c.accept_one-came.ensures.serves start _ _ (c.links.invariant.3 start s)),
      λ faults asked h.
          accepted_still faults _ _ asked _ _ _ _ _ _ _ _ refl refl refl c.note.ensures.ended (ap (λ (t : Tally). t.has_failed) t)
          (c.accept_one-came.ensures.accepts faults asked _ _ (c.links.invariant.4 faults asked h)),
    )
