use Rattle.std.proofs.Common.{arith, ◌∙◌, sym, ap, refl, ◌∷◌, Some}
use mathlib.Core.Option.{none}
use Rattle.atomic_table.specs.Table.{step, rest}
use Rattle.table_lock.proofs.Acting.{ready, acting, acted}
use Rattle.table_lock.proofs.steps.act.Goals as goal

pub slot_mut-slot-requires : goal.slot_mut-slot-requires
slot_mut-slot-requires g c = let a = c.requires.1 in (c.requires.0.0, (Some a.slot_content, a.holds ∙ ap (λ cs. (0, Some a.slot_content) ∷ cs) (sym (ap rest a.holds))))

pub perform-reply-requires : goal.perform-reply-requires
perform-reply-requires g c = let a = c.requires.1 in
    ready g.M.Machine.setup g.M.Machine.stands g.M.Machine.lawful a.ticket c.args.seat.now.me a.slot_content c.slot_mut-slot.result.now a.few a.holds a.turn c.slot_mut-slot.ensures.value

pub fetch_add-served-requires : goal.fetch_add-served-requires
fetch_add-served-requires g c = let a = c.requires.1 in (
  c.requires.0.0,
  omega arith,
  acting g.M.Machine.setup g.M.Machine.stands g.M.Machine.lawful (g.M.Machine.setup c.args.table.now.key.value) g.met.M.Machine.stands_lawful a.ticket c.args.seat.now.me (c.args.seat.now.me.0, (0, c.perform-reply.new.slot) ∷ rest c.args.seat.now.me.1) a.slot_content
      c.slot_mut-slot.result.now c.perform-reply.new.slot c.args.command c.perform-reply.result a.pass a.acts a.few a.holds a.turn c.slot_mut-slot.ensures.value c.perform-reply.ensures refl _ _,
)

pub returns-clause-called : goal.returns-clause-called
returns-clause-called g c = let a = c.requires.1 in
    acted g.M.Machine.setup g.M.Machine.stands g.M.Machine.lawful (g.M.Machine.setup c.args.table.now.key.value) g.met.M.Machine.stands_lawful a.ticket c.args.seat.now.me (c.args.seat.now.me.0, (0, c.perform-reply.new.slot) ∷ rest c.args.seat.now.me.1) a.slot_content
    c.slot_mut-slot.result.now c.perform-reply.new.slot c.args.command c.perform-reply.result a.pass a.acts a.few a.holds a.turn c.slot_mut-slot.ensures.value c.perform-reply.ensures refl (step 1 1 1 0 none) 0 _ c.fetch_add-served.ensures.2
