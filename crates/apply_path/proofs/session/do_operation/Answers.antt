use Rattle.std.proofs.Common.{w64, arith, pos}
use Rattle.std.proofs.lemmas.Int.{to_z_pos}
use Rattle.table_model.specs.declared.command.Command.TheVariants.{Operate}
use Rattle.rib_core.specs.Ends.{end_reply}
use Rattle.apply_path.proofs.Steps.{does_one}
use Rattle.apply_path.proofs.session.do_operation.Goals as goal

pub returns : goal.returns
returns c =
    let now = to_z_pos w64 c.args.number (omega (arith, c.requires.number)) in
    does_one c.args.n.now c.args.core.now c.operate-end.new.core (Operate 0 c.args.operation (pos c.args.number)) (end_reply c.operate-end.result) c.answer_operation.result c.args.writer.now.out.items c.answer_operation.new.writer.out.items
    (rw now at c.operate-end.ensures.room) (rw now at c.answer_operation.ensures)
