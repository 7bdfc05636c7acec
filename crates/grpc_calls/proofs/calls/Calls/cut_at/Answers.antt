use Rattle.std.proofs.Common.{length, slice_set, Some, refl, sym, ap, subst, arith}
use Rattle.grpc_stream.specs.declared.event.CallEvent.TheVariants as says
use Rattle.kept_calls.specs.CallState.{CallState, state_of, states}
use Rattle.call_hearing.specs.declared.pending.Pending.{Pending}
use Rattle.call_hearing.specs.Listening.{steps_of}
use Rattle.call_standing.proofs.Told.{going_of}
use Rattle.grpc_framing.specs.CutterState.{CutterState}
use Rattle.call_telling.proofs.Arms.{Comes, found_at, gave_up_going, state_at}
use Rattle.call_telling.proofs.CutArms.{answered_arm, drained_arm, fewer_held, held_at, request_arm}
use Rattle.std.specs.Vec.{with_item}
use Rattle.grpc_calls.specs.Object.{state_in}
use Rattle.grpc_calls.proofs.Refusing.{compressed_turns, too_long_turns, turned_ahead}
use Rattle.grpc_calls.proofs.calls.Calls.cut_at.Goals as goal

pub returns-in-Server-clause-says : goal.returns-in-Server-clause-says
returns-in-Server-clause-says g c = λ t h numbers going cut.
    let x = c.args.self.now in
    let f = found_at x.calls.items c.args.stream c.args.at c.index_mut.result.now c.requires.at c.index_mut.ensures.value c.requires.heard in
    subst (λ (p : Pending). Comes g.C.HttpConnection.stands g.C.HttpConnection.output g.met.C.HttpConnection.sound x.conn x.fate (state_at x.role p (states (slice_set x.calls.items c.args.at c.cut_call.new.call))) t (Some (says.Request c.args.stream c.in-Message.message)))
    (sym cut)
    (request_arm g.C.HttpConnection.stands g.C.HttpConnection.output g.met.C.HttpConnection.sound x.conn x.fate going (state_in x) t h (state_of c.index_mut.result.now) c.cut_call.new.call.cutter f.opened
    (states (slice_set x.calls.items c.args.at c.cut_call.new.call)) (state_of c.cut_call.new.call) c.args.stream f.on cut
    (f.changes c.cut_call.new.call (ap (λ (s : CallState). s.stream) c.cut_call.ensures.kept)) c.in-Message.message c.in-Server.is c.cut_call.ensures.kept c.in-Message.ensures.exact)

pub returns-in-Server-clause-ahead : goal.returns-in-Server-clause-ahead
returns-in-Server-clause-ahead g c = λ down cut.
    let x = c.args.self.now in
    omega (
      arith,
      held_at x.calls.items c.args.stream c.args.at c.index_mut.result.now c.cut_call.new.call c.requires.at c.index_mut.ensures.value,
      fewer_held c.index_mut.result.now.cutter c.cut_call.new.call.cutter c.in-Message.message c.in-Message.ensures.exact,
    )

pub returns-in-Client-clause-says : goal.returns-in-Client-clause-says
returns-in-Client-clause-says g c = λ t h numbers going cut.
    let x = c.args.self.now in
    let f = found_at x.calls.items c.args.stream c.args.at c.index_mut.result.now c.requires.at c.index_mut.ensures.value c.requires.heard in
    subst (λ (p : Pending). Comes g.C.HttpConnection.stands g.C.HttpConnection.output g.met.C.HttpConnection.sound x.conn x.fate (state_at x.role p (states (slice_set x.calls.items c.args.at c.cut_call.new.call))) t (Some (says.Answered c.args.stream c.in-Message.message)))
    (sym cut)
    (answered_arm g.C.HttpConnection.stands g.C.HttpConnection.output g.met.C.HttpConnection.sound x.conn x.fate going (state_in x) t h (state_of c.index_mut.result.now) c.cut_call.new.call.cutter f.opened
    (states (slice_set x.calls.items c.args.at c.cut_call.new.call)) (state_of c.cut_call.new.call) c.args.stream f.on cut
    (f.changes c.cut_call.new.call (ap (λ (s : CallState). s.stream) c.cut_call.ensures.kept)) c.in-Message.message c.in-Client.is c.cut_call.ensures.kept c.in-Message.ensures.exact)

pub returns-in-Client-clause-ahead : goal.returns-in-Client-clause-ahead
returns-in-Client-clause-ahead g c = λ down cut.
    let x = c.args.self.now in
    omega (
      arith,
      held_at x.calls.items c.args.stream c.args.at c.index_mut.result.now c.cut_call.new.call c.requires.at c.index_mut.ensures.value,
      fewer_held c.index_mut.result.now.cutter c.cut_call.new.call.cutter c.in-Message.message c.in-Message.ensures.exact,
    )

pub returns-in-NeedMore-clause-says : goal.returns-in-NeedMore-clause-says
returns-in-NeedMore-clause-says g c = λ t h numbers going cut.
    let x = c.args.self.now in
    let f = found_at x.calls.items c.args.stream c.args.at c.index_mut.result.now c.requires.at c.index_mut.ensures.value c.requires.heard in
    drained_arm g.C.HttpConnection.stands g.C.HttpConnection.output g.met.C.HttpConnection.sound x.conn x.fate going (state_in x) t h (state_of c.index_mut.result.now) c.cut_call.new.call.cutter f.opened
    (states (slice_set x.calls.items c.args.at c.cut_call.new.call)) (state_of c.cut_call.new.call) c.args.stream f.on cut
    (f.changes c.cut_call.new.call (ap (λ (s : CallState). s.stream) c.cut_call.ensures.kept)) c.cut_call.ensures.kept c.in-NeedMore.ensures.exact

pub returns-in-NeedMore-clause-ahead : goal.returns-in-NeedMore-clause-ahead
returns-in-NeedMore-clause-ahead g c = λ down cut.
    let x = c.args.self.now in
    omega (
      arith,
      ap steps_of cut,
      held_at x.calls.items c.args.stream c.args.at c.index_mut.result.now c.cut_call.new.call c.requires.at c.index_mut.ensures.value,
      ap (λ (k : CutterState). length k.held) c.in-NeedMore.ensures.exact.1,
    )

pub returns-in-NoMemory-clause-says : goal.returns-in-NoMemory-clause-says
returns-in-NoMemory-clause-says g c = λ t h numbers going cut.
    let x = c.args.self.now in
    let was = going_of g.C.HttpConnection.stands g.C.HttpConnection.output x.fate x.conn (state_in x) t going h in
    gave_up_going g.C.HttpConnection.stands g.C.HttpConnection.output g.met.C.HttpConnection.sound x.conn c.die.new.self.conn c.die.ensures.conn c.die.new.self.fate c.die.ensures.fate
    c.die.result c.die.ensures.event (state_in x) (state_in c.die.new.self) t was

pub returns-in-Compressed-clause-says : goal.returns-in-Compressed-clause-says
returns-in-Compressed-clause-says g c = λ t h numbers going cut.
    let x = c.args.self.now in
    compressed_turns (record x { calls = with_item x.calls c.args.at c.cut_call.new.call }) c.refuse-in-Compressed.new.self c.args.n.now c.refusal.result c.args.stream c.args.at c.refuse-in-Compressed.result
    x.calls.items c.index_mut.result.now c.cut_call.new.call c.cut_call.new.call.cutter c.requires.at c.index_mut.ensures.value c.cut_call.ensures.kept refl
    g.C.HttpConnection.stands g.C.HttpConnection.output g.met.C.HttpConnection.sound t going numbers c.refuse-in-Compressed.ensures.written c.requires.heard h cut
    c.refuse-in-Compressed.ensures.turns c.refusal.ensures c.in-Compressed.ensures.exact

pub returns-in-Compressed-clause-ahead : goal.returns-in-Compressed-clause-ahead
returns-in-Compressed-clause-ahead g c = λ down cut.
    let x = c.args.self.now in
    let same = ap (λ (k : CutterState). k.held) c.in-Compressed.ensures.exact.dead in
    omega (
      arith,
      ap steps_of cut,
      turned_ahead (record x { calls = with_item x.calls c.args.at c.cut_call.new.call }) c.refuse-in-Compressed.new.self c.args.n.now c.refusal.result c.args.stream c.args.at c.refuse-in-Compressed.result
          x.calls.items c.index_mut.result.now c.cut_call.new.call c.cut_call.new.call.cutter c.requires.at c.index_mut.ensures.value c.cut_call.ensures.kept refl g.C.HttpConnection.ahead c.refuse-in-Compressed.ensures.turns down same,
    )

pub returns-in-TooLong-clause-says : goal.returns-in-TooLong-clause-says
returns-in-TooLong-clause-says g c = λ t h numbers going cut.
    let x = c.args.self.now in
    too_long_turns (record x { calls = with_item x.calls c.args.at c.cut_call.new.call }) c.refuse-in-TooLong-2.new.self c.args.n.now c.refusal-in-TooLong.result c.args.stream c.args.at c.refuse-in-TooLong-2.result
    x.calls.items c.index_mut.result.now c.cut_call.new.call c.cut_call.new.call.cutter c.requires.at c.index_mut.ensures.value c.cut_call.ensures.kept refl
    g.C.HttpConnection.stands g.C.HttpConnection.output g.met.C.HttpConnection.sound t going numbers c.refuse-in-TooLong-2.ensures.written c.requires.heard h cut
    c.refuse-in-TooLong-2.ensures.turns c.refusal-in-TooLong.ensures c.in-TooLong.ensures.exact

pub returns-in-TooLong-clause-ahead : goal.returns-in-TooLong-clause-ahead
returns-in-TooLong-clause-ahead g c = λ down cut.
    let x = c.args.self.now in
    let same = ap (λ (k : CutterState). k.held) c.in-TooLong.ensures.exact.dead in
    omega (
      arith,
      ap steps_of cut,
      turned_ahead (record x { calls = with_item x.calls c.args.at c.cut_call.new.call }) c.refuse-in-TooLong-2.new.self c.args.n.now c.refusal-in-TooLong.result c.args.stream c.args.at c.refuse-in-TooLong-2.result
          x.calls.items c.index_mut.result.now c.cut_call.new.call c.cut_call.new.call.cutter c.requires.at c.index_mut.ensures.value c.cut_call.ensures.kept refl g.C.HttpConnection.ahead c.refuse-in-TooLong-2.ensures.turns down same,
    )
