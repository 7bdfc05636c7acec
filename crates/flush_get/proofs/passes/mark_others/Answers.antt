use Rattle.std.proofs.Common.{ap, ◌∙◌, arith}
use Rattle.std.specs.Prelude.{not}
use Rattle.table_model.specs.Table.{names}
use Rattle.flush_get.proofs.Passing.{grown}
use Rattle.flush_get.proofs.passes.mark_others.Goals as goal

pub loop-n-preserved : goal.loop-n-preserved
loop-n-preserved c =
    let len = c.put_mark.ensures.len in
    let len_before = c.loop-n.invariant.1 in
    let room = c.put_mark.ensures.capacity in
    let room_before = c.loop-n.invariant.2 in
    (grown (λ e. not (names c.args.which e.key.instance)) _ _ _ _ _ _ c.at.ensures c.loop-n.invariant.0 c.put_mark.ensures.items (ap not c.names.ensures ∙ ap (λ e. not (names c.args.which e.key.instance)) c.behind-store.view_is), omega arith, omega arith)
