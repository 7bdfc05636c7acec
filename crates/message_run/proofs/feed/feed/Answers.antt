use Rattle.std.proofs.Common.{◌≡◌, ◌+◌, ◌≤◌, List, length, take, drop, ℕ, sym, ap, ◌∙◌, arith}
use Rattle.std.proofs.lemmas.List.{length-drop}
use Rattle.grpc_framing.specs.declared.front.Front.TheVariants.{Message}
use Rattle.grpc_framing.specs.Framing.{front_at}
use Rattle.message_run.specs.Outcomes.{MAX_MESSAGE_SIZE}
use Rattle.message_run.proofs.Feeding.{feeds_first, may_answer, feeds_more, feeds_reply, feeds_field, feeds_part, feeds_compressed, feeds_too_long, feeds_rest}
use Rattle.message_run.proofs.feed.feed.Goals as goal

pub handle-requires : goal.handle-requires
handle-requires g c = may_answer (g.A.MessageHandler.shows c.args.server.now) (g.A.MessageHandler.shows c.loop-size.server) (g.A.MessageHandler.stands c.args.server.now) (g.A.MessageHandler.stands c.loop-size.server) c.args.start c.args.held.now.items c.loop-size.at c.args.out.now.items c.loop-size.out.items c.loop-size.invariant.feeding c.requires.reads c.requires.short

pub loop-size-preserved : goal.loop-size-preserved
loop-size-preserved g c =
    let held = c.args.held.now.items in
    let rest : c.split_at.result.1.now ≡ drop c.loop-size.at held = c.split_at.ensures.back ∙ ap (λ (x : List ℕ). drop c.loop-size.at x) c.deref.ensures.value in
    let item : front_at MAX_MESSAGE_SIZE (drop c.loop-size.at held) ≡ Message c.in-Message.size = rw (← rest) (sym c.in-Message.ensures.front) in
    let text : c.split_at-in-Message-2.result.0.now ≡ take c.in-Message.size (drop 5 (drop c.loop-size.at held)) = rw (← rest, ← c.split_at-in-Message.ensures.back) c.split_at-in-Message-2.ensures.front in
    let room : 5 + c.in-Message.size ≤ length (drop c.loop-size.at held) = rw (← rest) c.in-Message.ensures.within.1 in
    let le : c.loop-size.at + (5 + c.in-Message.size) ≤ length held = omega (arith, room, length-drop c.loop-size.at held, c.loop-size.invariant.feeding.within) in
    record {
      feeding = feeds_more (g.A.MessageHandler.shows c.args.server.now) (g.A.MessageHandler.shows c.loop-size.server) (g.A.MessageHandler.shows c.handle.new.self) (g.A.MessageHandler.stands c.args.server.now) (g.A.MessageHandler.stands c.loop-size.server) (g.A.MessageHandler.stands c.handle.new.self) c.args.start held c.loop-size.at c.args.out.now.items c.loop-size.out.items c.loop-size.invariant.feeding c.requires.short
          _ c.in-Message.size item text c.handle.new.out.items le c.in-Continue.ensures.handles;
      became = λ first b. c.handle.ensures.became first (c.loop-size.invariant.became first b);
    }

pub returns-in-Ends-clause-feeds : goal.returns-in-Ends-clause-feeds
returns-in-Ends-clause-feeds g c = λ so_far bytes sent show r len.
    let held = c.args.held.now.items in
    let rest : c.split_at.result.1.now ≡ drop c.loop-size.at held = c.split_at.ensures.back ∙ ap (λ (x : List ℕ). drop c.loop-size.at x) c.deref.ensures.value in
    let item : front_at MAX_MESSAGE_SIZE (drop c.loop-size.at held) ≡ Message c.in-Message.size = rw (← rest) (sym c.in-Message.ensures.front) in
    let text : c.split_at-in-Message-2.result.0.now ≡ take c.in-Message.size (drop 5 (drop c.loop-size.at held)) = rw (← rest, ← c.split_at-in-Message.ensures.back) c.split_at-in-Message-2.ensures.front in
    feeds_reply (g.A.MessageHandler.shows c.args.server.now) (g.A.MessageHandler.shows c.loop-size.server) (g.A.MessageHandler.shows c.handle.new.self) (g.A.MessageHandler.stands c.args.server.now) (g.A.MessageHandler.stands c.loop-size.server) (g.A.MessageHandler.stands c.handle.new.self) c.args.start held c.loop-size.at c.args.out.now.items c.loop-size.out.items c.loop-size.invariant.feeding c.requires.short
    _ c.in-Message.size item text c.handle.new.out.items so_far bytes sent show r len _ c.in-Ends.code c.in-Ends.ensures.handles

pub returns-in-Unreadable-clause-feeds : goal.returns-in-Unreadable-clause-feeds
returns-in-Unreadable-clause-feeds g c = λ so_far bytes sent show r len.
    let held = c.args.held.now.items in
    let rest : c.split_at.result.1.now ≡ drop c.loop-size.at held = c.split_at.ensures.back ∙ ap (λ (x : List ℕ). drop c.loop-size.at x) c.deref.ensures.value in
    let item : front_at MAX_MESSAGE_SIZE (drop c.loop-size.at held) ≡ Message c.in-Message.size = rw (← rest) (sym c.in-Message.ensures.front) in
    let text : c.split_at-in-Message-2.result.0.now ≡ take c.in-Message.size (drop 5 (drop c.loop-size.at held)) = rw (← rest, ← c.split_at-in-Message.ensures.back) c.split_at-in-Message-2.ensures.front in
    feeds_field (g.A.MessageHandler.shows c.args.server.now) (g.A.MessageHandler.shows c.loop-size.server) (g.A.MessageHandler.shows c.handle.new.self) (g.A.MessageHandler.stands c.args.server.now) (g.A.MessageHandler.stands c.loop-size.server) (g.A.MessageHandler.stands c.handle.new.self) c.args.start held c.loop-size.at c.args.out.now.items c.loop-size.out.items c.loop-size.invariant.feeding c.requires.short
    _ c.in-Message.size item text c.handle.new.out.items so_far bytes sent show r len _ c.in-Unreadable.place c.in-Unreadable.ensures.handles

pub returns-in-NoMemory-clause-feeds : goal.returns-in-NoMemory-clause-feeds
returns-in-NoMemory-clause-feeds g c = λ so_far bytes sent show r len.
    let held = c.args.held.now.items in
    let rest : c.split_at.result.1.now ≡ drop c.loop-size.at held = c.split_at.ensures.back ∙ ap (λ (x : List ℕ). drop c.loop-size.at x) c.deref.ensures.value in
    let item : front_at MAX_MESSAGE_SIZE (drop c.loop-size.at held) ≡ Message c.in-Message.size = rw (← rest) (sym c.in-Message.ensures.front) in
    let text : c.split_at-in-Message-2.result.0.now ≡ take c.in-Message.size (drop 5 (drop c.loop-size.at held)) = rw (← rest, ← c.split_at-in-Message.ensures.back) c.split_at-in-Message-2.ensures.front in
    feeds_part (g.A.MessageHandler.shows c.args.server.now) (g.A.MessageHandler.shows c.loop-size.server) (g.A.MessageHandler.shows c.handle.new.self) (g.A.MessageHandler.stands c.args.server.now) (g.A.MessageHandler.stands c.loop-size.server) (g.A.MessageHandler.stands c.handle.new.self) c.args.start held c.loop-size.at c.args.out.now.items c.loop-size.out.items c.loop-size.invariant.feeding c.requires.short
    _ c.in-Message.size item text c.handle.new.out.items so_far bytes sent show r len _ c.in-NoMemory.ensures.handles

pub returns-in-Compressed-clause-feeds : goal.returns-in-Compressed-clause-feeds
returns-in-Compressed-clause-feeds g c = λ so_far bytes sent show r len.
    let held = c.args.held.now.items in
    let rest : c.split_at.result.1.now ≡ drop c.loop-size.at held = c.split_at.ensures.back ∙ ap (λ (x : List ℕ). drop c.loop-size.at x) c.deref.ensures.value in
    feeds_compressed (g.A.MessageHandler.shows c.args.server.now) (g.A.MessageHandler.shows c.loop-size.server) (g.A.MessageHandler.stands c.args.server.now) (g.A.MessageHandler.stands c.loop-size.server) c.args.start held c.loop-size.at c.args.out.now.items c.loop-size.out.items c.loop-size.invariant.feeding so_far bytes sent show r len _ (rw (← rest) (sym c.in-Compressed.ensures.front))

pub returns-in-TooLong-clause-feeds : goal.returns-in-TooLong-clause-feeds
returns-in-TooLong-clause-feeds g c = λ so_far bytes sent show r len.
    let held = c.args.held.now.items in
    let rest : c.split_at.result.1.now ≡ drop c.loop-size.at held = c.split_at.ensures.back ∙ ap (λ (x : List ℕ). drop c.loop-size.at x) c.deref.ensures.value in
    feeds_too_long (g.A.MessageHandler.shows c.args.server.now) (g.A.MessageHandler.shows c.loop-size.server) (g.A.MessageHandler.stands c.args.server.now) (g.A.MessageHandler.stands c.loop-size.server) c.args.start held c.loop-size.at c.args.out.now.items c.loop-size.out.items c.loop-size.invariant.feeding so_far bytes sent show r len _ (rw (← rest) (sym c.in-TooLong.ensures.front))

pub returns-clause-feeds : goal.returns-clause-feeds
returns-clause-feeds g c = λ so_far bytes sent show r len.
    let held = c.args.held.now.items in
    feeds_rest (g.A.MessageHandler.shows c.args.server.now) (g.A.MessageHandler.shows c.loop-size.server) (g.A.MessageHandler.stands c.args.server.now) (g.A.MessageHandler.stands c.loop-size.server) c.args.start held c.loop-size.at c.args.out.now.items c.loop-size.out.items c.loop-size.invariant.feeding so_far bytes sent show r len _ c.drop_front.ensures

pub loop-size-init : goal.loop-size-init
loop-size-init g c = record {
  feeding = feeds_first (g.A.MessageHandler.shows c.args.server.now) (g.A.MessageHandler.stands c.args.server.now) c.args.start c.args.held.now.items c.args.out.now.items;
  became = λ first b. b;
}

pub returns-in-Ends-clause-became : goal.returns-in-Ends-clause-became
returns-in-Ends-clause-became g c = λ first b. c.in-Ends.ensures.became first (c.loop-size.invariant.became first b)

pub returns-in-Unreadable-clause-became : goal.returns-in-Unreadable-clause-became
returns-in-Unreadable-clause-became g c = λ first b. c.in-Unreadable.ensures.became first (c.loop-size.invariant.became first b)

pub returns-in-NoMemory-clause-became : goal.returns-in-NoMemory-clause-became
returns-in-NoMemory-clause-became g c = λ first b. c.in-NoMemory.ensures.became first (c.loop-size.invariant.became first b)
