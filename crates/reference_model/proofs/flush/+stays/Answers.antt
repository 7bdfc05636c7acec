use Rattle.std.proofs.Common.{◌-◌, ap, sym, ◌∙◌, arith}
use Rattle.aft_entries.specs.declared.entry.Entry.{Entry}
use Rattle.table_model.specs.Table.{stays}
use Rattle.reference_model.proofs.Walks.{stays_by}
use Rattle.reference_model.proofs.flush.+stays.Goals as goal

pub returns-then-stays-2 : goal.returns-then-stays-2
returns-then-stays-2 t c =
    let there = sym (c.stays-then-refers.ensures ∙ ap (λ (e : Entry). stays (c.args.most - 1) c.args.table.now c.args.which e.key) c.e.view_is) ∙ c.if-stays-2.true in
    sym (stays_by c.args.most c.args.table.now c.args.which c.args.key.now (omega arith) c.loop-e.e-index c.e-item.result (omega arith) c.e-item.is (sym c.refers.ensures ∙ c.if-refers.true) there)
