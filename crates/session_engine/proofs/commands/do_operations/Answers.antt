use Rattle.std.proofs.Common.{ℕ, pos, List, map, refl, ap}
use Rattle.call_answers.specs.Orders.{operation_at}
use Rattle.call_answers.specs.declared.orders.Setting.{Setting}
use Rattle.table_model.specs.declared.command.Command.{Command}
use Rattle.table_model.specs.declared.command.Command.TheVariants.{Operate}
use Rattle.table_model.specs.declared.command.Operation.{Operation}
use Rattle.session_engine.proofs.CommandRuns.{so_far_none, so_far_one, so_far_over}
use Rattle.session_engine.proofs.commands.do_operations.Goals as goal

abbrev commands : ℕ → List Operation → List Command
commands session operations = map (λ operation. Operate session operation (pos 0)) operations

abbrev pending : Setting → ℕ → List (List ℕ) → List Command
pending s session pieces = commands session (map (operation_at s) pieces)

pub loop-piece-init : goal.loop-piece-init
loop-piece-init g c = so_far_none g.M.Machine.lawful c.args.lock.now.setup c.args.setting.now c.args.pass.now _ _ c.args.out.now c.requires.sound c.requires.no_end (ap (commands c.args.session) c.operations_in-pieces.ensures)

pub loop-piece-preserved : goal.loop-piece-preserved
loop-piece-preserved g c = so_far_one g.M.Machine.lawful c.args.lock.now.setup c.args.setting.now c.args.pass.now c.loop-piece.pass c.do_piece.new.pass _ _ _ _ _ _ _ c.loop-piece.invariant (ap (pending c.args.setting.now c.args.session) c.in-Some.ensures) c.in-GoesOn.ensures

pub returns-in-Ended : goal.returns-in-Ended
returns-in-Ended g c = so_far_over g.M.Machine.lawful c.args.lock.now.setup c.args.setting.now c.args.pass.now c.loop-piece.pass c.do_piece.new.pass _ _ _ _ _ _ _ _ refl c.loop-piece.invariant (ap (pending c.args.setting.now c.args.session) c.in-Some.ensures) c.in-Ended.ensures

pub returns-in-OutOfMemory : goal.returns-in-OutOfMemory
returns-in-OutOfMemory g c = so_far_over g.M.Machine.lawful c.args.lock.now.setup c.args.setting.now c.args.pass.now c.loop-piece.pass c.do_piece.new.pass _ _ _ _ _ _ _ _ refl c.loop-piece.invariant (ap (pending c.args.setting.now c.args.session) c.in-Some.ensures) c.in-OutOfMemory.ensures

pub returns-in-Spent : goal.returns-in-Spent
returns-in-Spent g c = so_far_over g.M.Machine.lawful c.args.lock.now.setup c.args.setting.now c.args.pass.now c.loop-piece.pass c.do_piece.new.pass _ _ _ _ _ _ _ _ refl c.loop-piece.invariant (ap (pending c.args.setting.now c.args.session) c.in-Some.ensures) c.in-Spent.ensures
