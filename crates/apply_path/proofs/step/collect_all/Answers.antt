use Rattle.std.proofs.Common.{sym, ◌∙◌, arith}
use Rattle.apply_path.proofs.Collects.{collects_first, collects_more, collects_all, collect_ends, collects_part, fewer_due}
use Rattle.apply_path.proofs.step.collect_all.Goals as goal

pub loop-code-init : goal.loop-code-init
loop-code-init c = λ config past stood collects. collects_first c.args.n.now config past c.args.core.now c.args.writer.now.out.items stood collects

pub loop-code-preserved : goal.loop-code-preserved
loop-code-preserved c = λ config past stood collects.
    collects_more c.args.n.now config (c.outstanding_is_owed.ensures config) past c.loop-code.core c.reply_to-reply.new.core c.args.writer.now.out.items c.loop-code.writer.out.items c.answer_reply-answered.new.writer.out.items c.reply_to-reply.result
    (c.loop-code.invariant config past stood collects) c.reply_to-reply.ensures.room c.in-Continue.ensures c.outstanding-left.result c.outstanding-left.ensures (λ z. absurd (omega (arith, z, c.if-left-eq0.false)))

pub loop-code-smaller : goal.loop-code-smaller
loop-code-smaller c =
    let s = c.requires.rest in
    fewer_due c.args.n.now s.0 (c.outstanding_is_owed.ensures s.0) s.1 c.loop-code.core c.reply_to-reply.new.core c.args.writer.now.out.items c.loop-code.writer.out.items c.answer_reply-answered.new.writer.out.items c.reply_to-reply.result
    (c.loop-code.invariant s.0 s.1 s.2 s.3) c.reply_to-reply.ensures.room c.in-Continue.ensures c.outstanding-left.result c.outstanding-left.ensures (λ z. absurd (omega (arith, z, c.if-left-eq0.false)))

pub returns-then-left-eq0 : goal.returns-then-left-eq0
returns-then-left-eq0 c = λ config past stood collects.
    collects_all c.args.n.now config (c.outstanding_is_owed.ensures config) past c.loop-code.core c.reply_to-reply.new.core c.args.writer.now.out.items c.loop-code.writer.out.items c.answer_reply-answered.new.writer.out.items c.reply_to-reply.result
    (c.loop-code.invariant config past stood collects) c.reply_to-reply.ensures.room c.in-Continue.ensures (sym c.outstanding-left.ensures ∙ omega (arith, c.if-left-eq0.true))

pub returns-in-Ends : goal.returns-in-Ends
returns-in-Ends c = λ config past stood collects.
    collect_ends c.args.n.now config (c.outstanding_is_owed.ensures config) past c.loop-code.core c.reply_to-reply.new.core c.args.writer.now.out.items c.loop-code.writer.out.items c.answer_reply-answered.new.writer.out.items c.reply_to-reply.result
    (c.loop-code.invariant config past stood collects) c.reply_to-reply.ensures.room c.in-Ends.code c.in-Ends.ensures

pub returns-in-NoMemory : goal.returns-in-NoMemory
returns-in-NoMemory c = λ config past stood collects.
    collects_part c.args.n.now config (c.outstanding_is_owed.ensures config) past c.loop-code.core c.reply_to-reply.new.core c.args.writer.now.out.items c.loop-code.writer.out.items c.answer_reply-answered.new.writer.out.items c.reply_to-reply.result
    (c.loop-code.invariant config past stood collects) c.reply_to-reply.ensures.room c.in-NoMemory.ensures
