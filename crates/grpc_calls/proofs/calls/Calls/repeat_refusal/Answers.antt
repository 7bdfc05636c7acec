use Rattle.std.proofs.Common.{inl}
use Rattle.h2_exchange.specs.Stops.{Calm, Error}
use Rattle.grpc_stream.specs.declared.event.CallEvent.TheVariants as says
use Rattle.grpc_calls.specs.Object.{state_in}
use Rattle.call_standing.proofs.Hearing.{connected_still, memory_again, never_again, stop_again}
use Rattle.grpc_calls.proofs.calls.Calls.repeat_refusal.Goals as goal

pub returns-in-Refused-clause-says : goal.returns-in-Refused-clause-says
returns-in-Refused-clause-says g c = λ t stands refused.
    let answer = c.in-Refused.ensures.answers t.connection_trace (connected_still g.C.HttpConnection.stands g.C.HttpConnection.output c.args.self.now.conn c.next_event.new.self c.args.self.now.fate (state_in c.args.self.now) t refused stands) in
    stop_again g.C.HttpConnection.stands g.C.HttpConnection.output c.args.self.now.conn c.next_event.new.self c.args.self.now.fate (state_in c.args.self.now) t refused stands (says.Refused c.in-Refused.code c.in-Refused.place) (Error c.in-Refused.code c.in-Refused.place) answer (λ r. inl r)

pub returns-in-Calm-clause-says : goal.returns-in-Calm-clause-says
returns-in-Calm-clause-says g c = λ t stands refused.
    let answer = c.in-Calm.ensures.answers t.connection_trace (connected_still g.C.HttpConnection.stands g.C.HttpConnection.output c.args.self.now.conn c.next_event.new.self c.args.self.now.fate (state_in c.args.self.now) t refused stands) in
    stop_again g.C.HttpConnection.stands g.C.HttpConnection.output c.args.self.now.conn c.next_event.new.self c.args.self.now.fate (state_in c.args.self.now) t refused stands (says.Calm c.in-Calm.cause) (Calm c.in-Calm.cause) answer (λ r. inl r)

pub returns-in-NoMemory-clause-says : goal.returns-in-NoMemory-clause-says
returns-in-NoMemory-clause-says g c = λ t stands refused.
    let answer = c.in-NoMemory.ensures.answers t.connection_trace (connected_still g.C.HttpConnection.stands g.C.HttpConnection.output c.args.self.now.conn c.next_event.new.self c.args.self.now.fate (state_in c.args.self.now) t refused stands) in
    memory_again g.C.HttpConnection.stands g.C.HttpConnection.output c.args.self.now.conn c.next_event.new.self c.args.self.now.fate (state_in c.args.self.now) t refused stands says.NoMemory answer (λ r. inl r)

pub returns-in-NeedMore-clause-says : goal.returns-in-NeedMore-clause-says
returns-in-NeedMore-clause-says g c = λ t stands refused.
    let answer = c.in-NeedMore.ensures.answers t.connection_trace (connected_still g.C.HttpConnection.stands g.C.HttpConnection.output c.args.self.now.conn c.next_event.new.self c.args.self.now.fate (state_in c.args.self.now) t refused stands) in
    never_again g.C.HttpConnection.stands g.C.HttpConnection.output c.args.self.now.conn c.next_event.new.self c.args.self.now.fate (state_in c.args.self.now) t refused stands says.NeedMore answer.2.goes.alive

pub returns-in-Head-clause-says : goal.returns-in-Head-clause-says
returns-in-Head-clause-says g c = λ t stands refused.
    let answer = c.in-Head.ensures.answers t.connection_trace (connected_still g.C.HttpConnection.stands g.C.HttpConnection.output c.args.self.now.conn c.next_event.new.self c.args.self.now.fate (state_in c.args.self.now) t refused stands) in
    never_again g.C.HttpConnection.stands g.C.HttpConnection.output c.args.self.now.conn c.next_event.new.self c.args.self.now.fate (state_in c.args.self.now) t refused stands says.NoMemory answer.2.alive

pub returns-in-Piece-clause-says : goal.returns-in-Piece-clause-says
returns-in-Piece-clause-says g c = λ t stands refused.
    let answer = c.in-Piece.ensures.answers t.connection_trace (connected_still g.C.HttpConnection.stands g.C.HttpConnection.output c.args.self.now.conn c.next_event.new.self c.args.self.now.fate (state_in c.args.self.now) t refused stands) in
    never_again g.C.HttpConnection.stands g.C.HttpConnection.output c.args.self.now.conn c.next_event.new.self c.args.self.now.fate (state_in c.args.self.now) t refused stands says.NoMemory answer.2.alive

pub returns-in-Ended-clause-says : goal.returns-in-Ended-clause-says
returns-in-Ended-clause-says g c = λ t stands refused.
    let answer = c.in-Ended.ensures.answers t.connection_trace (connected_still g.C.HttpConnection.stands g.C.HttpConnection.output c.args.self.now.conn c.next_event.new.self c.args.self.now.fate (state_in c.args.self.now) t refused stands) in
    never_again g.C.HttpConnection.stands g.C.HttpConnection.output c.args.self.now.conn c.next_event.new.self c.args.self.now.fate (state_in c.args.self.now) t refused stands says.NoMemory answer.2.alive

pub returns-in-Reset-clause-says : goal.returns-in-Reset-clause-says
returns-in-Reset-clause-says g c = λ t stands refused.
    let answer = c.in-Reset.ensures.answers t.connection_trace (connected_still g.C.HttpConnection.stands g.C.HttpConnection.output c.args.self.now.conn c.next_event.new.self c.args.self.now.fate (state_in c.args.self.now) t refused stands) in
    never_again g.C.HttpConnection.stands g.C.HttpConnection.output c.args.self.now.conn c.next_event.new.self c.args.self.now.fate (state_in c.args.self.now) t refused stands says.NoMemory answer.2.alive
