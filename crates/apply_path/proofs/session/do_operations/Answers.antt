use Rattle.std.proofs.Common.{ℕ, List, map, pos, refl, ap}
use Rattle.message_run.specs.declared.message_handler.Handled.TheVariants.{Ends, NoMemory}
use Rattle.call_answers.specs.Orders.{operation_at}
use Rattle.call_answers.specs.declared.orders.Setting.{Setting}
use Rattle.table_model.specs.declared.command.Command.{Command}
use Rattle.table_model.specs.declared.command.Command.TheVariants.{Operate}
use Rattle.table_model.specs.declared.command.Operation.{Operation}
use Rattle.apply_path.proofs.Steps.{none_done, one_done, next_ends, still_stands}
use Rattle.apply_path.proofs.session.do_operations.Goals as goal

abbrev commands : ℕ → List Operation → List Command
commands number operations = map (λ operation. Operate 0 operation (pos number)) operations

abbrev coming : Setting → ℕ → List (List ℕ) → List Command
coming s number pieces = commands number (map (operation_at s) pieces)

pub loop-piece-init : goal.loop-piece-init
loop-piece-init c = none_done c.args.setting.now.numbering c.args.core.now _ _ c.args.writer.now.out.items c.requires.few (ap (commands c.args.number) c.operations_in-pieces.ensures)

pub do_piece-requires-clause-stood : goal.do_piece-requires-clause-stood
do_piece-requires-clause-stood c = still_stands c.args.setting.now.numbering c.args.core.now c.loop-piece.core _ _ _ _ c.loop-piece.invariant c.requires.stood

pub loop-piece-preserved : goal.loop-piece-preserved
loop-piece-preserved c = one_done c.args.setting.now.numbering c.args.core.now c.loop-piece.core c.do_piece.new.core _ _ _ _ _ _ _ c.loop-piece.invariant (ap (coming c.args.setting.now c.args.number) c.in-Some.ensures) c.in-Continue.ensures

pub returns-in-Ends : goal.returns-in-Ends
returns-in-Ends c = next_ends c.args.setting.now.numbering c.args.core.now c.loop-piece.core c.do_piece.new.core _ _ _ _ (Ends c.in-Ends.code) _ _ _ refl c.loop-piece.invariant (ap (coming c.args.setting.now c.args.number) c.in-Some.ensures) c.in-Ends.ensures

pub returns-in-NoMemory : goal.returns-in-NoMemory
returns-in-NoMemory c = next_ends c.args.setting.now.numbering c.args.core.now c.loop-piece.core c.do_piece.new.core _ _ _ _ NoMemory _ _ _ refl c.loop-piece.invariant (ap (coming c.args.setting.now c.args.number) c.in-Some.ensures) c.in-NoMemory.ensures

pub returns-in-Unreadable : goal.returns-in-Unreadable
returns-in-Unreadable c =
    let s = still_stands c.args.setting.now.numbering c.args.core.now c.loop-piece.core _ _ _ _ c.loop-piece.invariant c.requires.stood in
    absurd (c.in-Unreadable.ensures s.0 s.1 s.2)
