use Rattle.std.proofs.Common.{◌≡◌, List, Some, refl, sym, ap, ◌∙◌, subst}
use Rattle.aft_entries.specs.declared.entry.Entry.{Entry}
use Rattle.aft_entries.specs.Devices.{KeysDiffer, MemDeviceState, SetsTo, placed}
use Rattle.aft_entries.proofs.Devices.{installs, differ_placed}
use Rattle.aft_entries.proofs.mem_device.MemDeviceDevice.install.Goals as goal

pub returns-clause-contents : goal.returns-clause-contents
returns-clause-contents c =
    let is : c.place.new.entries.items ≡ placed c.args.entry.now c.args.self.now.contents = c.if-not-place.ensures.ok refl ∙ ap (λ (d : MemDeviceState). placed c.args.entry.now d.contents) c.self.view_is in
    subst (λ (l : List Entry). SetsTo c.args.entry.now.key (Some c.args.entry.now) (Some c.args.self.now.contents) (Some l)) (sym is) (installs c.args.entry.now c.args.self.now.contents)

pub returns-clause-once : goal.returns-clause-once
returns-clause-once c differ =
    let is : c.place.new.entries.items ≡ placed c.args.entry.now c.args.self.now.contents = c.if-not-place.ensures.ok refl ∙ ap (λ (d : MemDeviceState). placed c.args.entry.now d.contents) c.self.view_is in
    subst KeysDiffer (sym is) (differ_placed c.args.entry.now c.args.self.now.contents differ)
