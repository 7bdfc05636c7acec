use Rattle.std.proofs.Common.{◌≡◌, List, Some, None, sym, ap, ◌∙◌, subst}
use Rattle.aft_entries.specs.declared.entry.Entry.{Entry}
use Rattle.aft_entries.specs.Devices.{KeysDiffer, MemDeviceState, SetsTo, without}
use Rattle.aft_entries.proofs.Devices.{removes, differ_without}
use Rattle.aft_entries.proofs.mem_device.MemDeviceDevice.remove.Goals as goal

pub returns-clause-contents : goal.returns-clause-contents
returns-clause-contents c =
    let is : c.take_away.new.entries.items ≡ without c.args.key.now c.args.self.now.contents = c.take_away.ensures.items ∙ ap (λ (d : MemDeviceState). without c.args.key.now d.contents) c.self.view_is in
    subst (λ (l : List Entry). SetsTo c.args.key.now None (Some c.args.self.now.contents) (Some l)) (sym is) (removes c.args.key.now c.args.self.now.contents)

pub returns-clause-once : goal.returns-clause-once
returns-clause-once c differ =
    let is : c.take_away.new.entries.items ≡ without c.args.key.now c.args.self.now.contents = c.take_away.ensures.items ∙ ap (λ (d : MemDeviceState). without c.args.key.now d.contents) c.self.view_is in
    subst KeysDiffer (sym is) (differ_without c.args.key.now c.args.self.now.contents differ)
