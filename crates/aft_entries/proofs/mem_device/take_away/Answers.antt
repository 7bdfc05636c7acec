use Rattle.std.proofs.Common.{rules}
use Rattle.std.proofs.lemmas.Fn.{filter_same}
use Rattle.aft_entries.specs.Devices.{without}
use Rattle.aft_entries.proofs.mem_device.take_away.Goals as goal

pub returns-clause-items : goal.returns-clause-items
unfolding without
returns-clause-items c = filter_same _ _ _ (λ x b f' k. search rules) _ _ c.retain.ensures.filtered
