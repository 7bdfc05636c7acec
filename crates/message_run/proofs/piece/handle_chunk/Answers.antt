use Rattle.std.proofs.Common.{◌≡◌, ◌+◌, ◌-◌, ◌++◌, List, ℕ, length, refl, ap, arith, rules, true}
use Rattle.std.proofs.lemmas.List.{length-append}
use Rattle.message_run.specs.Written.{Wrote, WrotePart}
use Rattle.message_run.specs.Reading.{HandledSoFar}
use Rattle.message_run.specs.declared.stop.Stop.TheVariants.{WriteFault}
use Rattle.message_run.proofs.Pieces.{held_within, was_extended, reads_empty, stops_there, served}
use Rattle.message_run.proofs.piece.handle_chunk.Goals as goal

pub feed-fed-requires-clause-reads : goal.feed-fed-requires-clause-reads
feed-fed-requires-clause-reads g c =
    let so_far = c.requires.goes.0 in
    let bytes = c.requires.goes.1 in
    let before = c.requires.goes.2 in
    let show = c.requires.goes.3 in
    let h = c.requires.goes.4 in
    let len = c.requires.goes.5 in
    let all : c.extend_from_slice.new.self.items ≡ c.args.held.now.items ++ c.args.piece.now = was_extended c.extend_from_slice.result c.is_err.result _ _ _ c.is_err.ensures.value c.if-is_err.false c.extend_from_slice.ensures.items in
    let size : length (bytes ++ c.args.piece.now) ≡ c.args.taken - c.len.result + length c.extend_from_slice.new.self.items
    = omega (arith, held_within so_far (g.A.MessageHandler.stands c.args.server.now so_far) bytes c.args.held.now.items before (g.K.Sink.placed c.args.output.now) h, ap (λ (x : List ℕ). length x) all, length-append c.args.held.now.items c.args.piece.now, length-append bytes c.args.piece.now, c.len.ensures, len) in
    let reads : HandledSoFar so_far (g.A.MessageHandler.stands c.args.server.now so_far) (bytes ++ c.args.piece.now) c.extend_from_slice.new.self.items (h.sent ++ c.clear.new.self.items)
    = reads_empty so_far (g.A.MessageHandler.stands c.args.server.now so_far) bytes c.args.held.now.items c.args.piece.now h.sent c.extend_from_slice.new.self.items c.clear.new.self.items all c.clear.ensures.items h.reads in
    (so_far, bytes ++ c.args.piece.now, h.sent, show, reads, size)

pub returns-then-not-write_all-clause-cases : goal.returns-then-not-write_all-clause-cases
returns-then-not-write_all-clause-cases g c = λ so_far bytes before show h len.
    let all : c.extend_from_slice.new.self.items ≡ c.args.held.now.items ++ c.args.piece.now = was_extended c.extend_from_slice.result c.is_err.result _ _ _ c.is_err.ensures.value c.if-is_err.false c.extend_from_slice.ensures.items in
    let size : length (bytes ++ c.args.piece.now) ≡ c.args.taken - c.len.result + length c.extend_from_slice.new.self.items
    = omega (arith, held_within so_far (g.A.MessageHandler.stands c.args.server.now so_far) bytes c.args.held.now.items before (g.K.Sink.placed c.args.output.now) h, ap (λ (x : List ℕ). length x) all, length-append c.args.held.now.items c.args.piece.now, length-append bytes c.args.piece.now, c.len.ensures, len) in
    let reads : HandledSoFar so_far (g.A.MessageHandler.stands c.args.server.now so_far) (bytes ++ c.args.piece.now) c.extend_from_slice.new.self.items (h.sent ++ c.clear.new.self.items)
    = reads_empty so_far (g.A.MessageHandler.stands c.args.server.now so_far) bytes c.args.held.now.items c.args.piece.now h.sent c.extend_from_slice.new.self.items c.clear.new.self.items all c.clear.ensures.items h.reads in
    let feeds = c.feed-fed.ensures.feeds so_far (bytes ++ c.args.piece.now) h.sent show reads size in
    let part : WrotePart (g.K.Sink.placed c.args.output.now) c.feed-fed.new.out.items (g.K.Sink.placed c.write_all.new.output) = rw (← c.deref.ensures.value) c.write_all.ensures.part in
    record {
      behaviour = feeds.behaviour;
      shown = feeds.shown;
      cases = stops_there feeds.behaviour (g.A.MessageHandler.stands c.feed-fed.new.server feeds.behaviour) WriteFault (bytes ++ c.args.piece.now) h.sent c.feed-fed.new.out.items before (g.K.Sink.placed c.args.output.now) (g.K.Sink.placed c.write_all.new.output) refl
          feeds.begins h.wrote part;
    }

pub returns-clause-cases : goal.returns-clause-cases
returns-clause-cases g c = λ so_far bytes before show h len.
    let all : c.extend_from_slice.new.self.items ≡ c.args.held.now.items ++ c.args.piece.now = was_extended c.extend_from_slice.result c.is_err.result _ _ _ c.is_err.ensures.value c.if-is_err.false c.extend_from_slice.ensures.items in
    let size : length (bytes ++ c.args.piece.now) ≡ c.args.taken - c.len.result + length c.extend_from_slice.new.self.items
    = omega (arith, held_within so_far (g.A.MessageHandler.stands c.args.server.now so_far) bytes c.args.held.now.items before (g.K.Sink.placed c.args.output.now) h, ap (λ (x : List ℕ). length x) all, length-append c.args.held.now.items c.args.piece.now, length-append bytes c.args.piece.now, c.len.ensures, len) in
    let reads : HandledSoFar so_far (g.A.MessageHandler.stands c.args.server.now so_far) (bytes ++ c.args.piece.now) c.extend_from_slice.new.self.items (h.sent ++ c.clear.new.self.items)
    = reads_empty so_far (g.A.MessageHandler.stands c.args.server.now so_far) bytes c.args.held.now.items c.args.piece.now h.sent c.extend_from_slice.new.self.items c.clear.new.self.items all c.clear.ensures.items h.reads in
    let feeds = c.feed-fed.ensures.feeds so_far (bytes ++ c.args.piece.now) h.sent show reads size in
    let put : c.write_all.result ≡ true = search rules in
    let whole : Wrote (g.K.Sink.placed c.args.output.now) c.feed-fed.new.out.items (g.K.Sink.placed c.write_all.new.output) = rw (← c.deref.ensures.value) (c.write_all.ensures.all put) in
    record {
      behaviour = feeds.behaviour;
      shown = feeds.shown;
      cases = served feeds.behaviour (g.A.MessageHandler.stands c.feed-fed.new.server feeds.behaviour) c.feed-fed.result (bytes ++ c.args.piece.now) c.feed-fed.new.held.items h.sent c.feed-fed.new.out.items before (g.K.Sink.placed c.args.output.now) (g.K.Sink.placed c.write_all.new.output)
          feeds.reads c.feed-fed.ensures.partial feeds.stops feeds.begins h.wrote whole;
    }
