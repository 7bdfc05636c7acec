use Rattle.std.proofs.Common.{ap, sym, ◌∙◌, arith}
use Rattle.aft_entries.specs.declared.entry.Entry.{Entry}
use Rattle.table_model.specs.Table.{names}
use Rattle.flush_get.proofs.Remaining.{one_remains, not_marked, not_named, none_remains}
use Rattle.flush_get.proofs.flush.is_marked.Goals.{else-at-via-then-at+else-names, else-at-via-else-at}
use Rattle.flush_get.proofs.flush.is_marked.Goals as goal

pub returns-then-names : goal.returns-then-names
returns-then-names c =
    sym (one_remains c.args.store.now.entries c.args.which _ c.requires c.loop-n.n c.at.result c.at.ensures c.at-then-at.result.now c.at-then-at.ensures c.if-at.true
    (ap (λ (e : Entry). names c.args.which e.key.instance) (sym c.behind-store.view_is) ∙ sym c.names.ensures ∙ c.if-names.true))

pub loop-n-preserved : goal.loop-n-preserved
loop-n-preserved c = elim c.else-at.branch [
  | else-at-via-then-at+else-names w ↦ not_named c.args.store.now.entries c.args.which c.loop-n.n w.at-then-at.result.now w.at-then-at.ensures
      (ap (λ (e : Entry). names c.args.which e.key.instance) (sym w.behind-store.view_is) ∙ sym w.names.ensures ∙ w.if-names.false) c.loop-n.invariant
  | else-at-via-else-at w ↦ not_marked c.args.store.now.entries c.args.which _ c.requires c.loop-n.n c.at.result c.at.ensures w.if-at.false c.loop-n.invariant
]

pub returns : goal.returns
returns c =
    let past = c.loop-n-test.false in
    let end = c.len-n-end.ensures in
    let most = c.loop-n.auto.n-end in
    sym (none_remains c.args.store.now.entries c.args.which c.loop-n.n (omega arith) c.loop-n.invariant)
