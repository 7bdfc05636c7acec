use Rattle.std.proofs.Common.{◌*◌, ◌+◌, ◌<◌, length, sym, ap, ◌∙◌, arith, List, ℕ}
use Rattle.h2_conn.specs.Sizes.{limited_over}
use Rattle.h2_conn.proofs.SizesRead.{last_setting, passes}
use Rattle.h2_conn.proofs.sizes.take_settings.Goals as goal

pub returns : goal.returns
returns c =
    let lt : length c.args.payload.now < 6 * c.loop-i.i + 6 = omega arith in
    sym (c.loop-i.invariant ∙ ap (λ (l : List (ℕ × ℕ)). limited_over l c.loop-i.encoder) (last_setting c.args.payload.now (6 * c.loop-i.i) lt))

pub loop-i-preserved : goal.loop-i-preserved
loop-i-preserved c = passes c.args.payload.now c.loop-i.i _ c.loop-i.encoder _ (c.setting_at-setting.result.number, c.setting_at-setting.result.value) c.loop-i.invariant c.setting_at-setting.ensures c.take_setting.ensures
