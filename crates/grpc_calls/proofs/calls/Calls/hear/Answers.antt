use Rattle.std.proofs.Common.{arith, inr, refl}
use Rattle.h2_exchange.specs.Stops.{Calm, Error}
use Rattle.grpc_calls.specs.Object.{state_in}
use Rattle.call_telling.proofs.Given.{has_given}
use Rattle.call_standing.proofs.Told.{going_of, stands_of}
use Rattle.call_telling.proofs.Arms.{goaway_arm, spent_arm, stopped_arm}
use Rattle.call_telling.proofs.Ends.{needs_more, waits_going}
use Rattle.grpc_calls.proofs.calls.Calls.hear.Goals as goal

pub returns-in-Head-clause-says : goal.returns-in-Head-clause-says
returns-in-Head-clause-says g c = λ t stands numbers going quiet.
    let was = going_of g.C.HttpConnection.stands g.C.HttpConnection.output c.args.self.now.fate c.args.self.now.conn (state_in c.args.self.now) t going stands in
    c.on_head.ensures.says t (has_given g.C.HttpConnection.stands g.C.HttpConnection.output g.met.C.HttpConnection.sound c.args.self.now.conn c.next_event.new.self (state_in c.args.self.now) t _ was
    (c.in-Head.ensures.answers t.connection_trace was.connected)) numbers going quiet

pub returns-in-Head-clause-ahead : goal.returns-in-Head-clause-ahead
returns-in-Head-clause-ahead g c = λ down quiet. omega (arith, c.on_head.ensures.ahead down quiet, c.in-Head.ensures.ahead refl)

pub returns-in-Piece-clause-says : goal.returns-in-Piece-clause-says
returns-in-Piece-clause-says g c = λ t stands numbers going quiet.
    let was = going_of g.C.HttpConnection.stands g.C.HttpConnection.output c.args.self.now.fate c.args.self.now.conn (state_in c.args.self.now) t going stands in
    c.on_piece.ensures.says t (has_given g.C.HttpConnection.stands g.C.HttpConnection.output g.met.C.HttpConnection.sound c.args.self.now.conn c.next_event.new.self (state_in c.args.self.now) t _ was
    (c.in-Piece.ensures.answers t.connection_trace was.connected)) going quiet

pub returns-in-Piece-clause-ahead : goal.returns-in-Piece-clause-ahead
returns-in-Piece-clause-ahead g c = λ down quiet. omega (arith, c.on_piece.ensures.ahead down c.in-Piece.ensures.size quiet, c.in-Piece.ensures.ahead refl)

pub returns-in-Ended-clause-says : goal.returns-in-Ended-clause-says
returns-in-Ended-clause-says g c = λ t stands numbers going quiet.
    let was = going_of g.C.HttpConnection.stands g.C.HttpConnection.output c.args.self.now.fate c.args.self.now.conn (state_in c.args.self.now) t going stands in
    c.on_end.ensures.says t (has_given g.C.HttpConnection.stands g.C.HttpConnection.output g.met.C.HttpConnection.sound c.args.self.now.conn c.next_event.new.self (state_in c.args.self.now) t _ was
    (c.in-Ended.ensures.answers t.connection_trace was.connected)) numbers going quiet

pub returns-in-Ended-clause-ahead : goal.returns-in-Ended-clause-ahead
returns-in-Ended-clause-ahead g c = λ down quiet. omega (arith, c.on_end.ensures.ahead down quiet, c.in-Ended.ensures.ahead refl)

pub returns-in-Reset-clause-says : goal.returns-in-Reset-clause-says
returns-in-Reset-clause-says g c = λ t stands numbers going quiet.
    let was = going_of g.C.HttpConnection.stands g.C.HttpConnection.output c.args.self.now.fate c.args.self.now.conn (state_in c.args.self.now) t going stands in
    c.on_reset.ensures.says t _ (has_given g.C.HttpConnection.stands g.C.HttpConnection.output g.met.C.HttpConnection.sound c.args.self.now.conn c.next_event.new.self (state_in c.args.self.now) t _ was
    (c.in-Reset.ensures.answers t.connection_trace was.connected)) going quiet

pub returns-in-Reset-clause-ahead : goal.returns-in-Reset-clause-ahead
returns-in-Reset-clause-ahead g c = λ down quiet. omega (arith, c.on_reset.ensures.ahead down quiet, c.in-Reset.ensures.ahead refl)

pub returns-in-GoneAway-clause-says : goal.returns-in-GoneAway-clause-says
returns-in-GoneAway-clause-says g c = λ t stands numbers going quiet.
    let x = c.args.self.now in
    let was = going_of g.C.HttpConnection.stands g.C.HttpConnection.output x.fate x.conn (state_in x) t going stands in
    goaway_arm g.C.HttpConnection.stands g.C.HttpConnection.output g.met.C.HttpConnection.sound c.next_event.new.self x.fate going (state_in x) quiet t _ _
    (has_given g.C.HttpConnection.stands g.C.HttpConnection.output g.met.C.HttpConnection.sound x.conn c.next_event.new.self (state_in x) t _ was (c.in-GoneAway.ensures.answers t.connection_trace was.connected))

pub returns-in-NeedMore-clause-says : goal.returns-in-NeedMore-clause-says
returns-in-NeedMore-clause-says g c = λ t stands numbers going quiet.
    let x = c.args.self.now in
    let was = going_of g.C.HttpConnection.stands g.C.HttpConnection.output x.fate x.conn (state_in x) t going stands in
    let r = c.in-NeedMore.ensures.answers t.connection_trace was.connected in
    let waits = waits_going g.C.HttpConnection.stands g.C.HttpConnection.output g.met.C.HttpConnection.sound x.conn c.next_event.new.self (state_in x) t r.0 r.1 was r.2 in (
      record t { connection_trace = r.0 },
      c.forget_stale.ensures (record t { connection_trace = r.0 })
          (stands_of g.C.HttpConnection.stands g.C.HttpConnection.output x.fate c.next_event.new.self (state_in x) (record t { connection_trace = r.0 }) going waits) going quiet r.2.given,
      needs_more g.C.HttpConnection.stands g.C.HttpConnection.output g.met.C.HttpConnection.sound x.conn c.next_event.new.self (state_in x) t r.0 r.1 was r.2 quiet,
    )

pub returns-in-Refused-clause-says : goal.returns-in-Refused-clause-says
returns-in-Refused-clause-says g c = λ t stands numbers going quiet.
    let x = c.args.self.now in
    let was = going_of g.C.HttpConnection.stands g.C.HttpConnection.output x.fate x.conn (state_in x) t going stands in
    let r = stopped_arm g.C.HttpConnection.stands g.C.HttpConnection.output g.met.C.HttpConnection.sound x.conn c.next_event.new.self (state_in x) quiet t was
    (Error c.in-Refused.code c.in-Refused.place) (c.in-Refused.ensures.answers t.connection_trace was.connected) in (r.0, r.1, inr r.2)

pub returns-in-Calm-clause-says : goal.returns-in-Calm-clause-says
returns-in-Calm-clause-says g c = λ t stands numbers going quiet.
    let x = c.args.self.now in
    let was = going_of g.C.HttpConnection.stands g.C.HttpConnection.output x.fate x.conn (state_in x) t going stands in
    let r = stopped_arm g.C.HttpConnection.stands g.C.HttpConnection.output g.met.C.HttpConnection.sound x.conn c.next_event.new.self (state_in x) quiet t was
    (Calm c.in-Calm.cause) (c.in-Calm.ensures.answers t.connection_trace was.connected) in (r.0, r.1, inr r.2)

pub returns-in-NoMemory-clause-says : goal.returns-in-NoMemory-clause-says
returns-in-NoMemory-clause-says g c = λ t stands numbers going quiet.
    let x = c.args.self.now in
    let was = going_of g.C.HttpConnection.stands g.C.HttpConnection.output x.fate x.conn (state_in x) t going stands in
    let r = spent_arm g.C.HttpConnection.stands g.C.HttpConnection.output g.met.C.HttpConnection.sound x.conn c.next_event.new.self (state_in x) quiet t was
    (c.in-NoMemory.ensures.answers t.connection_trace was.connected) in (r.0, r.1, inr r.2)
