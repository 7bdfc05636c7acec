use Rattle.std.proofs.Common.{sym, ◌∙◌}
use Rattle.h2_streams.proofs.Judged.{four_long}
use Rattle.h2_streams.proofs.set.StreamSet.frame_error.Goals as goal

pub window_error-requires : goal.window_error-requires
window_error-requires c = four_long c.args.self.now c.args.frame.now (sym c.shape_error.ensures ∙ c.in_default.is)
