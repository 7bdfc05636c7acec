use Rattle.std.proofs.Common.{length, ap, arith}
use Rattle.kept_calls.specs.CallState.{CallState, state_of}
use Rattle.grpc_calls.specs.Object.{state_in}
use Rattle.h2_exchange.specs.Events.{Data}
use Rattle.call_hearing.specs.Listening.{steps_of}
use Rattle.call_telling.proofs.Arms.{fed_arm, found_at, gave_up_arm}
use Rattle.call_telling.proofs.CutArms.{fed_most, held_at}
use Rattle.grpc_calls.proofs.calls.Calls.feed_call.Goals as goal

pub returns-in-Ok-clause-says : goal.returns-in-Ok-clause-says
returns-in-Ok-clause-says g c = λ t h going quiet.
    let x = c.args.self.now in
    let f = found_at x.calls.items c.args.stream c.args.at c.index_mut.result.now c.requires.at c.index_mut.ensures.value c.requires.heard in
    fed_arm g.C.HttpConnection.stands g.C.HttpConnection.output g.met.C.HttpConnection.sound x.conn x.fate going (state_in x) quiet t c.args.bytes
    (state_of c.index_mut.result.now) (state_of c.feed.new.self) _ c.args.stream f.on c.in-Ok.ensures.ok f.opened
    (f.changes c.feed.new.self (ap (λ (s : CallState). s.stream) c.in-Ok.ensures.ok)) h

pub returns-in-Ok-clause-ahead : goal.returns-in-Ok-clause-ahead
returns-in-Ok-clause-ahead g c = λ down small quiet.
    let x = c.args.self.now in
    omega (
      arith,
      small,
      ap steps_of quiet,
      held_at x.calls.items c.args.stream c.args.at c.index_mut.result.now c.feed.new.self c.requires.at c.index_mut.ensures.value,
      ap (λ (s : CallState). length s.cutter.held) c.in-Ok.ensures.ok,
      fed_most c.index_mut.result.now.cutter c.args.bytes,
    )

pub returns-in-Err-clause-says : goal.returns-in-Err-clause-says
returns-in-Err-clause-says g c = λ t h going quiet.
    let x = c.args.self.now in
    gave_up_arm g.C.HttpConnection.stands g.C.HttpConnection.output g.met.C.HttpConnection.sound x.conn c.die.new.self.conn c.die.ensures.conn c.die.new.self.fate c.die.ensures.fate
    c.die.result c.die.ensures.event (state_in x) (state_in c.die.new.self) t (Data c.args.stream c.args.bytes) h
