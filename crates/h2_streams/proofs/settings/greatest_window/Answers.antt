use Rattle.std.proofs.Common.{◌*◌, ◌+◌, ◌<◌, length, sym, ap, ◌∙◌, arith}
use Rattle.h2_streams.specs.Live.{greatest_window}
use Rattle.h2_streams.proofs.SettingsRead.{last_setting}
use Rattle.h2_streams.proofs.settings.greatest_window.Goals as goal

pub returns : goal.returns
returns c =
    let lt : length c.args.payload.now < 6 * c.loop-i.i + 6 = omega arith in
    sym (c.loop-i.invariant ∙ ap (greatest_window c.loop-i.most) (last_setting c.args.payload.now (6 * c.loop-i.i) lt))
