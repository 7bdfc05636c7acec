use Rattle.std.proofs.Common.{ap, drop, List, ℕ}
use Rattle.h2_conn.specs.State.{state_of, refusal_by}
use Rattle.h2_conn.proofs.Releasing.{releases, whole_again}
use Rattle.h2_conn.proofs.conn.H2Conn.release.Goals as goal

pub returns-clause-ok : goal.returns-clause-ok
returns-clause-ok c = λ d h.
    let s = state_of c.args.self.now in
    let alive = ap refusal_by c.requires.alive in
    releases s (state_of c.grant_each.new.self) d c.count-count.result h alive c.count-count.ensures.exact
    (c.grant_each.ensures.credits d (whole_again s (state_of c.grant.new.self) d _ (ap (λ (l : List ℕ). drop c.args.self.now.start l) c.reserve.ensures.items) c.grant.ensures.state h alive c.requires.holds))
