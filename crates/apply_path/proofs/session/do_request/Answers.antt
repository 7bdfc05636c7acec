use Rattle.std.proofs.Common.{refl}
use Rattle.message_run.specs.declared.message_handler.Handled.TheVariants.{Ends, NoMemory}
use Rattle.apply_path.proofs.Steps.{stands_on, does_more, does_all}
use Rattle.apply_path.proofs.session.do_request.Goals as goal

pub do_operations-requires-clause-stood : goal.do_operations-requires-clause-stood
do_operations-requires-clause-stood c = stands_on c.args.setting.now.numbering c.args.core.now c.do_header.new.core _ _ _ c.in-Continue.ensures c.requires.stood

pub do_operations-requires-clause-few : goal.do_operations-requires-clause-few
do_operations-requires-clause-few c = let s = c.requires.stood in (c.in-Continue.ensures s.0 s.1 s.2).few

pub returns-in-Continue : goal.returns-in-Continue
returns-in-Continue c = does_more c.args.setting.now.numbering c.args.core.now c.do_header.new.core c.do_operations.new.core _ _ c.do_operations.result _ _ _ c.in-Continue.ensures c.do_operations.ensures

pub returns-in-Ends : goal.returns-in-Ends
returns-in-Ends c = does_all c.args.setting.now.numbering c.args.core.now c.do_header.new.core _ _ (Ends c.in-Ends.code) _ _ refl c.in-Ends.ensures

pub returns-in-NoMemory : goal.returns-in-NoMemory
returns-in-NoMemory c = does_all c.args.setting.now.numbering c.args.core.now c.do_header.new.core _ _ NoMemory _ _ refl c.in-NoMemory.ensures
