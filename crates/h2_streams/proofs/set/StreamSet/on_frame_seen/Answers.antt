use Rattle.std.proofs.Common.{ap, ◌∙◌}
use Rattle.h2_streams.specs.declared.set.receive.SeenStream.{SeenStream}
use Rattle.h2_streams.proofs.Seen.{live_behind_is}
use Rattle.h2_streams.proofs.Taken.{answer_says, taken_says, failed_says, refused_says, role_says}
use Rattle.h2_streams.proofs.set.StreamSet.on_frame_seen.Goals as goal

pub returns-clause-kept : goal.returns-clause-kept
returns-clause-kept c = role_says c.args.self.now c.args.frame.now c.hear.result.0 c.hear.ensures.answer c.hear.new.self c.hear.ensures.set

pub returns-clause-answer : goal.returns-clause-answer
returns-clause-answer c = answer_says c.args.self.now c.args.frame.now c.hear.result.0 c.hear.ensures.answer

pub returns-clause-taken : goal.returns-clause-taken
returns-clause-taken c = taken_says c.args.self.now c.args.frame.now c.hear.result.0 c.hear.ensures.answer c.hear.new.self c.hear.ensures.set

pub returns-clause-failed : goal.returns-clause-failed
returns-clause-failed c = failed_says c.args.self.now c.args.frame.now c.hear.result.0 c.hear.ensures.answer c.hear.new.self c.hear.ensures.set

pub returns-clause-refused : goal.returns-clause-refused
returns-clause-refused c = refused_says c.args.self.now c.args.frame.now c.hear.result.0 c.hear.ensures.answer c.hear.new.self c.hear.ensures.set

pub returns-clause-live : goal.returns-clause-live
returns-clause-live c =
    ap (λ (seen : SeenStream). seen.is_live) c.hear.ensures.seen ∙ live_behind_is c.args.self.now c.args.frame.now c.hear.new.self c.hear.ensures.set
