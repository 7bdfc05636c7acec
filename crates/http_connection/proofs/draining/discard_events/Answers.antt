use Rattle.std.proofs.Common.{◌∙◌, sym}
use Rattle.http_connection.proofs.Gone.{fed_stays}
use Rattle.http_connection.proofs.draining.discard_events.Goals as goal

pub returns-then-not-has_event : goal.returns-then-not-has_event
returns-then-not-has_event g c = λ k h.
    let mid = c.events.invariant k h in
    let next = c.next_event-event.ensures.answers mid.0 mid.1 in (
      next.0,
      next.1,
      record {
        fed_is = fed_stays c.next_event-event.result mid.0 next.0 next.2 ∙ mid.2;
        no_event = sym c.has_event.ensures ∙ c.if-not-has_event.true;
        before = mid.0;
        answer = next.2;
      },
    )

pub events-preserved : goal.events-preserved
events-preserved g c = λ k h.
    let mid = c.events.invariant k h in
    let next = c.next_event-event.ensures.answers mid.0 mid.1 in
    (next.0, next.1, fed_stays c.next_event-event.result mid.0 next.0 next.2 ∙ mid.2)
