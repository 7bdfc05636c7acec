use Rattle.std.proofs.Common.{sym, arith}
use Rattle.apply_path.proofs.Sessions.{fault_handled, message_handled}
use Rattle.apply_path.proofs.handler.SessionMessageHandler.handle.Goals as goal

pub do_readable-requires : goal.do_readable-requires
do_readable-requires g c = let h = c.requires.2 in record { stood = (h.past, h.stood, h.takes); few = h.few; count = omega (arith, h.count_is, c.requires.3) }

pub returns-in-Some-clause-handles : goal.returns-in-Some-clause-handles
returns-in-Some-clause-handles g c = λ so_far done h few.
    fault_handled c.args.self.now.setting.now c.args.self.now.state.now.core c.args.self.now.state.now.count _ so_far done c.args.message.now c.in-Some.fault _ _ h (sym c.in-Some.ensures.first) c.unreadable.ensures

pub returns-in-None-clause-handles : goal.returns-in-None-clause-handles
returns-in-None-clause-handles g c = λ so_far done h few.
    rw c.do_readable.ensures.count
    (message_handled c.args.self.now.setting.now c.args.self.now.state.now.core c.do_readable.new.state.core c.args.self.now.state.now.count _ _ _ _ _ _ so_far done c.args.message.now c.do_readable.result _ _ h (sym c.in-None.ensures.first)
    (c.do_readable.ensures.done h.past h.shown.said h.stood h.takes h.counted))
