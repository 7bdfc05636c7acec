use Rattle.std.proofs.Common.{arith, false, refl, ap}
use Rattle.kept_calls.specs.CallState.{state_of}
use Rattle.h2_exchange.proofs.Places.{clash}
use Rattle.call_hearing.specs.Listening.{steps_of}
use Rattle.grpc_calls.specs.Object.{state_in}
use Rattle.call_telling.proofs.Arms.{finished_arm, found_at}
use Rattle.grpc_calls.proofs.Refusing.{put_same, truncated_turns, turned_ahead}
use Rattle.grpc_calls.proofs.calls.Calls.end_request.Goals as goal

pub returns-then-is_between-clause-says : goal.returns-then-is_between-clause-says
returns-then-is_between-clause-says g c = λ t h numbers going quiet.
    let x = c.args.self.now in
    let f = found_at x.calls.items c.args.stream c.args.at c.index.result.now c.requires.at c.index.ensures c.requires.heard in
    finished_arm g.C.HttpConnection.stands g.C.HttpConnection.output g.met.C.HttpConnection.sound x.conn x.fate going (state_in x) quiet t (state_of c.index.result.now) c.args.stream
    f.on f.here f.opened (c.if-is_between.ensures.0 refl) c.requires.role h

pub returns-else-is_between-clause-says : goal.returns-else-is_between-clause-says
returns-else-is_between-clause-says g c = λ t h numbers going quiet.
    let x = c.args.self.now in
    let call = c.index.result.now in
    truncated_turns x c.refuse-else-is_between.new.self c.args.n.now c.refusal.result c.args.stream c.args.at c.refuse-else-is_between.result x.calls.items call call call.cutter c.requires.at c.index.ensures refl
    (put_same x.calls.items c.args.at call c.index.ensures) g.C.HttpConnection.stands g.C.HttpConnection.output g.met.C.HttpConnection.sound t going numbers c.refuse-else-is_between.ensures.written c.requires.heard quiet
    c.requires.role refl (λ none. clash false (c.if-is_between.ensures.1 none) refl) c.refuse-else-is_between.ensures.turns c.refusal.ensures h

pub returns-else-is_between-clause-ahead : goal.returns-else-is_between-clause-ahead
returns-else-is_between-clause-ahead g c = λ down quiet.
    let x = c.args.self.now in
    let call = c.index.result.now in
    omega (
      arith,
      ap steps_of quiet,
      turned_ahead x c.refuse-else-is_between.new.self c.args.n.now c.refusal.result c.args.stream c.args.at c.refuse-else-is_between.result x.calls.items call call call.cutter c.requires.at c.index.ensures refl
          (put_same x.calls.items c.args.at call c.index.ensures) g.C.HttpConnection.ahead c.refuse-else-is_between.ensures.turns down refl,
    )
