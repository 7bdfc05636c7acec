use Rattle.apply_path.proofs.Steps.{does_one}
use Rattle.apply_path.proofs.step.do_command.Goals as goal

pub returns : goal.returns
returns c =
    does_one c.args.n.now c.args.core.now c.reply_to-reply.new.core c.args.command c.reply_to-reply.result c.answer_reply-answered.result c.args.writer.now.out.items c.answer_reply-answered.new.writer.out.items
    c.reply_to-reply.ensures.room (rw (← c.requires.names.0, ← c.requires.names.1, ← c.requires.names.2) c.answer_reply-answered.ensures)
