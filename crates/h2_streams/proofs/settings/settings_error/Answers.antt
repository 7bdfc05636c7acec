use Rattle.std.proofs.Common.{◌*◌, ◌+◌, ◌<◌, length, sym, ap, ◌∙◌, arith}
use Rattle.h2_exchange.specs.Rules as rule
use Rattle.h2_streams.proofs.SettingsRead.{last_setting}
use Rattle.h2_streams.proofs.settings.settings_error.Goals as goal

pub returns : goal.returns
returns c =
    let lt : length c.args.payload.now < 6 * c.loop-i.i + 6 = omega arith in
    sym (c.loop-i.invariant ∙ ap (rule.settings_error c.args.role) (last_setting c.args.payload.now (6 * c.loop-i.i) lt))
