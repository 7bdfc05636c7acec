use Rattle.std.proofs.Common.{◌≡◌, ◌+◌, ◌≤◌, ◌++◌, length, take, drop, refl, ◌∙◌, arith}
use Rattle.std.specs.Option.{option_map}
use Rattle.std.proofs.lemmas.List.{length-take, length-drop, length-append}
use Rattle.message_run.specs.Outcomes.{MAX_INPUT_SIZE}
use Rattle.message_run.specs.Runs.{Told, told as told_by}
use Rattle.message_run.proofs.Sinks.{stayed}
use Rattle.message_run.proofs.Runs.{running_first, stopped_unread, stopped_at_end, stopped_past, stopped_by_piece, running_by_piece}
use Rattle.message_run.proofs.stream.handle_stream.Goals as goal

pub loop-held-init : goal.loop-held-init
loop-held-init g c = record {
  running = λ first show stood. (first, show, rw c.new-held.ensures.items (running_first first (g.A.MessageHandler.stands c.args.server.now first) (g.S.Source.taken c.args.input.now) (g.S.Source.left c.args.input.now) (g.K.Sink.placed c.args.output.now) stood));
  became = λ first b. b;
  short = omega arith;
  room = c.requires.room;
  read = refl;
  write = refl;
}

pub returns-in-Failed-clause-stopped : goal.returns-in-Failed-clause-stopped
returns-in-Failed-clause-stopped g c = λ first show stood.
    let told : Told = told_by g.S.Source.taken g.S.Source.left g.K.Sink.placed c.args.input.now c.loop-held.input c.args.output.now c.loop-held.output in
    let now = c.loop-held.invariant.running first show stood in
    (now.0, now.1, rw (c.in-Failed.ensures.bytes, c.in-Failed.ensures.grows) (stopped_unread now.0 (g.A.MessageHandler.stands c.loop-held.server now.0) told c.loop-held.held.items c.loop-held.taken now.2))

pub returns-in-End-clause-stopped : goal.returns-in-End-clause-stopped
returns-in-End-clause-stopped g c = λ first show stood.
    let told : Told = told_by g.S.Source.taken g.S.Source.left g.K.Sink.placed c.args.input.now c.loop-held.input c.args.output.now c.loop-held.output in
    let now = c.loop-held.invariant.running first show stood in
    (now.0, now.1, rw (c.stop_at_end.ensures, c.deref.ensures.value, c.in-End.ensures.bytes.0, c.in-End.ensures.grows) (stopped_at_end now.0 (g.A.MessageHandler.stands c.loop-held.server now.0) told c.loop-held.held.items c.loop-held.taken now.2 c.in-End.ensures.bytes.1))

pub returns-then-taken-eq-MAX_INPUT_SIZE-clause-stopped : goal.returns-then-taken-eq-MAX_INPUT_SIZE-clause-stopped
returns-then-taken-eq-MAX_INPUT_SIZE-clause-stopped g c = λ first show stood.
    let told : Told = told_by g.S.Source.taken g.S.Source.left g.K.Sink.placed c.args.input.now c.loop-held.input c.args.output.now c.loop-held.output in
    let now = c.loop-held.invariant.running first show stood in
    let some : 1 ≤ length (take c.in-Got.count c.take.new.buffer) = omega (arith, length-take c.in-Got.count c.take.new.buffer, c.in-Got.ensures.bound) in
    (now.0, now.1, stopped_past now.0 (g.A.MessageHandler.stands c.loop-held.server now.0) told c.loop-held.held.items (take c.in-Got.count c.take.new.buffer) c.loop-held.taken (g.S.Source.taken c.take.new.self) (g.S.Source.left c.take.new.self) now.2 (omega (arith, c.if-taken-eq-MAX_INPUT_SIZE.true)) c.in-Got.ensures.grows c.in-Got.ensures.bytes some)

pub handle_chunk-requires-clause-goes : goal.handle_chunk-requires-clause-goes
handle_chunk-requires-clause-goes g c =
    let now = c.loop-held.invariant.running c.requires.first.0 c.requires.first.1 c.requires.first.2 in
    (now.0, now.2.bytes, g.K.Sink.placed c.args.output.now, now.1, now.2.on, now.2.count)

pub returns-in-Some-clause-stopped : goal.returns-in-Some-clause-stopped
returns-in-Some-clause-stopped g c = λ first show stood.
    let told : Told = told_by g.S.Source.taken g.S.Source.left g.K.Sink.placed c.args.input.now c.loop-held.input c.args.output.now c.loop-held.output in
    let now = c.loop-held.invariant.running first show stood in
    let piece = c.split_at.result.0.now in
    let taken : g.S.Source.taken c.take.new.self ≡ option_map (λ given. given ++ piece) (g.S.Source.taken c.loop-held.input) = rw c.split_at.ensures.front c.in-Got.ensures.grows in
    let left : g.S.Source.left c.loop-held.input ≡ option_map (λ rest. piece ++ rest) (g.S.Source.left c.take.new.self) = rw c.split_at.ensures.front c.in-Got.ensures.bytes in
    let le : c.loop-held.taken + length piece ≤ MAX_INPUT_SIZE = omega (arith, c.split_at.ensures.front_len, c.in-Got.ensures.bound, c.take.auto.buffer, length-take c.max-room.result c.loop-held.buffer, c.loop-held.invariant.short, c.if-taken-eq-MAX_INPUT_SIZE.false) in
    stopped_by_piece now.0 (g.A.MessageHandler.stands c.loop-held.server now.0) (g.A.MessageHandler.shows c.handle_chunk.new.server) (g.A.MessageHandler.stands c.handle_chunk.new.server) told c.loop-held.held.items piece c.loop-held.taken (g.S.Source.taken c.take.new.self) (g.S.Source.left c.take.new.self) (g.K.Sink.placed c.handle_chunk.new.output) now.2 taken left le
    c.handle_chunk.new.held.items c.in-Some.stop (c.in-Some.ensures.cases now.0 now.2.bytes told.sink.before now.1 now.2.on now.2.count) c.in-Some.ensures.kinds

pub loop-held-preserved : goal.loop-held-preserved
loop-held-preserved g c =
    let told : Told = told_by g.S.Source.taken g.S.Source.left g.K.Sink.placed c.args.input.now c.loop-held.input c.args.output.now c.loop-held.output in
    let piece = c.split_at.result.0.now in
    let taken : g.S.Source.taken c.take.new.self ≡ option_map (λ given. given ++ piece) (g.S.Source.taken c.loop-held.input) = rw c.split_at.ensures.front c.in-Got.ensures.grows in
    let left : g.S.Source.left c.loop-held.input ≡ option_map (λ rest. piece ++ rest) (g.S.Source.left c.take.new.self) = rw c.split_at.ensures.front c.in-Got.ensures.bytes in
    let le : c.loop-held.taken + length piece ≤ MAX_INPUT_SIZE = omega (arith, c.split_at.ensures.front_len, c.in-Got.ensures.bound, c.take.auto.buffer, length-take c.max-room.result c.loop-held.buffer, c.loop-held.invariant.short, c.if-taken-eq-MAX_INPUT_SIZE.false) in
    let len : length piece ≡ c.in-Got.count = c.split_at.ensures.front_len in
    record {
      running = λ first show stood.
          let now = c.loop-held.invariant.running first show stood in
          rw (← len) (running_by_piece now.0 (g.A.MessageHandler.stands c.loop-held.server now.0) (g.A.MessageHandler.shows c.handle_chunk.new.server) (g.A.MessageHandler.stands c.handle_chunk.new.server) told c.loop-held.held.items piece c.loop-held.taken (g.S.Source.taken c.take.new.self) (g.S.Source.left c.take.new.self) (g.K.Sink.placed c.handle_chunk.new.output) now.2 taken left le
          c.handle_chunk.new.held.items (c.in_default.ensures.cases now.0 now.2.bytes told.sink.before now.1 now.2.on now.2.count));
      became = λ first b. c.handle_chunk.ensures.became first (c.loop-held.invariant.became first b);
      short = omega (arith, le, len);
      room = omega (arith, length-append c.take.new.buffer (drop c.max-room.result c.loop-held.buffer), length-drop c.max-room.result c.loop-held.buffer, length-take c.max-room.result c.loop-held.buffer, c.take.auto.buffer, c.loop-held.invariant.room);
      read = stayed _ _ _ c.in-Got.ensures.stays (λ e. cc) ∙ c.loop-held.invariant.read;
      write = stayed _ _ _ c.in_default.ensures.stays (λ e. cc) ∙ c.loop-held.invariant.write;
    }
