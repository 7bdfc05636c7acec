use Rattle.std.proofs.Common.{ap, arith}
use Rattle.std.specs.Prelude.{option_map}
use Rattle.std.specs.Vec.{vec_capacity}
use Rattle.h2_frames.specs.declared.frame.FrameBody.{FrameBody}
use Rattle.h2_streams.proofs.Kept.{keeps_here}
use Rattle.h2_streams.proofs.Ordered.{rises_here}
use Rattle.h2_streams.proofs.Sound.{four, send_fits}
use Rattle.h2_streams.proofs.set.StreamSet.take.Goals as goal

pub outcome-outcome-requires-clause-four : goal.outcome-outcome-requires-clause-four
outcome-outcome-requires-clause-four c = four c.args.self.now c.args.frame.now c.requires.sound

pub send_behind-self-inside-requires-clause-four : goal.send_behind-self-inside-requires-clause-four
send_behind-self-inside-requires-clause-four c = four c.args.self.now c.args.frame.now c.requires.sound

pub send_behind-self-inside-requires-clause-fits : goal.send_behind-self-inside-requires-clause-fits
send_behind-self-inside-requires-clause-fits c = send_fits _ c.args.self.now c.args.frame.now c.self.view_is (omega arith) c.requires.sound

pub invariant_of-self : goal.invariant_of-self
invariant_of-self c =
    rw c.apply_outcome.ensures.capacity (
      keeps_here _ c.args.self.now c.args.frame.now (vec_capacity c.self.inside.live) c.body.result.now.stream c.args.is_new c.outcome-outcome.result c.args.fault c.args.seen (option_map (λ b. (b.stream, b.last)) c.left_open-self-inside.result) c.apply_outcome.new.live.items
          c.self.view_is c.requires.sound (ap (λ (b : FrameBody). b.stream) c.body.ensures) c.requires.is_new c.requires.seen c.requires.fault c.outcome-outcome.ensures c.left_open-self-inside.ensures c.apply_outcome.ensures.items (omega (arith, c.self.inside.live.ok.0, c.self.inside.live.ok.1)) c.self.invariant.0,
      rises_here _ c.args.self.now c.args.frame.now c.body.result.now.stream c.highest_behind-self-inside.result c.args.is_new c.outcome-outcome.result c.args.fault c.args.seen c.apply_outcome.new.live.items
          c.self.view_is (ap (λ (b : FrameBody). b.stream) c.body.ensures) c.requires.is_new c.requires.seen c.outcome-outcome.ensures c.apply_outcome.ensures.items c.highest_behind-self-inside.ensures c.self.invariant.1,
    )
