use Rattle.std.proofs.Common.{◌≡◌, length, refl, sym, ap, ◌∙◌, arith}
use Rattle.reactor.specs.Turns.{ReactorItems}
use Rattle.link_serving.specs.declared.course.Tally.{Tally}
use Rattle.link_serving.specs.Serving.{links_of, start_at}
use Rattle.link_serving.proofs.Serves.{accepted_none, accepted_still, begins_items, ends_items, round_size, rounds_items, told_items}
use Rattle.link_serving.proofs.serving.serve_links.Goals as goal

pub rounds-init : goal.rounds-init
rounds-init g c =
    let links = links_of g.A.Acceptor.given_count g.A.Acceptor.retired_count g.A.Acceptor.given g.A.Acceptor.retired in
    let none = c.new-turns.ensures in
    let root = c.args.root.now in
    let at = links c.args.acceptor.now in
    let t = c.new-course.ensures.tally in (
      tt,
      tt,
      c.requires.root.0,
      c.requires.root.1,
      omega (arith, c.requires.took, ap (λ (r : ReactorItems g.row.T.Denot). length r.live) none, ap (λ (r : ReactorItems g.row.T.Denot). length r.over) none),
      ap (λ (r : ReactorItems g.row.T.Denot). r.over) none,
      told_items g.V.Service.served g.V.Service.origin (start_at root at) root at c.new-turns.result _ _ _ _ (ap (λ (t : Tally). t.lacks_memory) t)
          (ap (λ (t : Tally). t.is_spent) t) (begins_items g.V.Service.served g.V.Service.origin root at c.new-turns.result none),
      accepted_still _ _ _ _ _ _ _ _ _ _ _ _ refl refl refl c.new-course.ensures.ended (ap (λ (t : Tally). t.has_failed) t)
          (accepted_none (g.A.Acceptor.faults c.args.acceptor.now) (g.A.Acceptor.given_count c.args.acceptor.now) (g.A.Acceptor.asked c.args.acceptor.now)),
    )

pub drain-requires-clause-took : goal.drain-requires-clause-took
drain-requires-clause-took g c =
    omega (
      arith,
      c.accept.ensures.took,
      round_size g.T.Turning.goes c.accept.new.turns c.round-round.new.self _ _ c.round-round.ensures.turns,
    )

pub returns-then-live-eq0-clause-serves : goal.returns-then-live-eq0-clause-serves
returns-then-live-eq0-clause-serves g c =
    let links = links_of g.A.Acceptor.given_count g.A.Acceptor.retired_count g.A.Acceptor.given g.A.Acceptor.retired in
    let origin = g.V.Service.origin in
    let start = start_at c.args.root.now (links c.args.acceptor.now) in
    let t = c.begins.ensures.tally in
    let before = told_items g.V.Service.served origin start c.rounds.root (links c.rounds.acceptor) c.rounds.turns _ _ _ _
    (ap (λ (t : Tally). t.lacks_memory) t) (ap (λ (t : Tally). t.is_spent) t) c.rounds.invariant.6 in
    let came = rounds_items g.V.Service.served origin start g.T.Turning.goes g.met.V.Service.keeps_origin c.accept.new.root (links c.accept.new.acceptor) c.accept.new.turns
    c.round-round.new.self _ _ _ _ c.round-round.ensures.turns (c.accept.ensures.serves start before) in
    let none : length c.drain.new.turns.live ≡ 0 = omega (arith, c.if-live-eq0.true, c.live.ensures) in
    ends_items g.V.Service.served origin start c.drain.new.root (links c.drain.new.acceptor) c.drain.new.turns _ _ none c.drain.ensures.over (c.drain.ensures.serves start came)

pub returns-then-live-eq0-clause-accepts : goal.returns-then-live-eq0-clause-accepts
returns-then-live-eq0-clause-accepts g c =
    let t = c.begins.ensures.tally in
    let d = c.drain.ensures in
    accepted_still _ _ _ _ _ _ _ _ _ _ _ _ d.same.0 d.same.1 d.same.2 (sym c.if-course.true ∙ d.course.0) d.course.1
    (c.accept.ensures.accepts _ _
    (accepted_still _ _ _ _ _ _ _ _ _ _ _ _ refl refl refl c.begins.ensures.ended (ap (λ (t : Tally). t.has_failed) t) c.rounds.invariant.7))

pub rounds-preserved : goal.rounds-preserved
rounds-preserved g c =
    let links = links_of g.A.Acceptor.given_count g.A.Acceptor.retired_count g.A.Acceptor.given g.A.Acceptor.retired in
    let origin = g.V.Service.origin in
    let start = start_at c.args.root.now (links c.args.acceptor.now) in
    let t = c.begins.ensures.tally in
    let d = c.drain.ensures in
    let before = told_items g.V.Service.served origin start c.rounds.root (links c.rounds.acceptor) c.rounds.turns _ _ _ _
    (ap (λ (t : Tally). t.lacks_memory) t) (ap (λ (t : Tally). t.is_spent) t) c.rounds.invariant.6 in
    let came = rounds_items g.V.Service.served origin start g.T.Turning.goes g.met.V.Service.keeps_origin c.accept.new.root (links c.accept.new.acceptor) c.accept.new.turns
    c.round-round.new.self _ _ _ _ c.round-round.ensures.turns (c.accept.ensures.serves start before) in (
      tt,
      tt,
      d.root.0,
      d.root.1,
      d.took,
      d.over,
      d.serves start came,
      accepted_still _ _ _ _ _ _ _ _ _ _ _ _ d.same.0 d.same.1 d.same.2 d.course.0 d.course.1
          (c.accept.ensures.accepts _ _
          (accepted_still _ _ _ _ _ _ _ _ _ _ _ _ refl refl refl c.begins.ensures.ended (ap (λ (t : Tally). t.has_failed) t) c.rounds.invariant.7)),
    )
