use Rattle.std.proofs.Common.{ℕ, sym, ap, subst}
use Rattle.h2_conn.specs.State.{state_of, refusal_by}
use Rattle.h2_conn.specs.Hears.{Ending}
use Rattle.h2_conn.specs.declared.heard.End.TheVariants as by
use Rattle.h2_exchange.specs.Exchange.{received}
use Rattle.h2_exchange.specs.Order.{peer_preface}
use Rattle.h2_conn.proofs.Reading.{refused, idle, starved, waiting}
use Rattle.h2_conn.proofs.conn.H2Conn.hear.Goals as goal

pub returns-in-NeedMore-clause-heard : goal.returns-in-NeedMore-clause-heard
returns-in-NeedMore-clause-heard c = λ d h o.
    let s = state_of c.args.self.now in
    let g = h.goes (ap refusal_by o.alive) in
    idle s d h (ap refusal_by o.alive) o.none c.next.new.self c.in-NeedMore.ensures.answers.same o.unpassed (c.in-NeedMore.ensures.stands (peer_preface d.role) d.fed (received d.frames) g.reads).1

pub returns-in-Refused-clause-heard : goal.returns-in-Refused-clause-heard
returns-in-Refused-clause-heard c = λ d h o.
    let s = state_of c.args.self.now in
    let g = h.goes (ap refusal_by o.alive) in
    subst (λ (n : ℕ). Ending (record s { reader = c.next.new.self }) d (by.Broken c.in-Refused.code c.in-Refused.place) n) (sym c.last_begun.ensures)
    (refused s d h (ap refusal_by o.alive) o.none c.next.new.self c.in-Refused.code c.in-Refused.place o.unpassed
    (c.in-Refused.ensures.stands (peer_preface d.role) d.fed (received d.frames) g.reads).1)

pub returns-in-NoMemory-clause-heard : goal.returns-in-NoMemory-clause-heard
returns-in-NoMemory-clause-heard c = λ d h o.
    let s = state_of c.args.self.now in
    let g = h.goes (ap refusal_by o.alive) in
    starved s d h (ap refusal_by o.alive) o.none c.next.new.self (c.in-NoMemory.ensures.stands (peer_preface d.role) d.fed (received d.frames) g.reads).1

pub returns-in-Frame-clause-heard : goal.returns-in-Frame-clause-heard
returns-in-Frame-clause-heard c = λ d h o.
    let s = state_of c.args.self.now in
    let g = h.goes (ap refusal_by o.alive) in
    c.hear_frame.ensures.heard d (waiting s d h (ap refusal_by o.alive) o.none c.next.new.self c.in-Frame.frame o.unpassed c.in-Frame.ensures.answers.goes_on (c.in-Frame.ensures.stands (peer_preface d.role) d.fed (received d.frames) g.reads))
