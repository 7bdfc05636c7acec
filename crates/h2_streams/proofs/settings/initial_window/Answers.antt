use Rattle.std.proofs.Common.{◌*◌, ◌+◌, ◌<◌, length, sym, ap, ◌∙◌, arith}
use Rattle.h2_exchange.specs.Windows.{setting}
use Rattle.h2_streams.proofs.SettingsRead.{last_setting}
use Rattle.h2_streams.proofs.settings.initial_window.Goals as goal

pub returns : goal.returns
returns c =
    let lt : length c.args.payload.now < 6 * c.loop-i.i + 6 = omega arith in
    sym (c.loop-i.invariant ∙ ap (setting 4 c.loop-i.value) (last_setting c.args.payload.now (6 * c.loop-i.i) lt))
