use Rattle.std.proofs.Common.{length, ◌-◌}
use Rattle.message_run.proofs.Feeding.{IsFeeding}
use Rattle.message_run.proofs.feed.feed.Given as goal

abbrev pub invariant-loop-size : goal.invariant-loop-size
invariant-loop-size g l = record {
  feeding : IsFeeding (g.A.MessageHandler.shows l.fn.server) (g.A.MessageHandler.shows l.server) (g.A.MessageHandler.stands l.fn.server) (g.A.MessageHandler.stands l.server) l.start l.held.items l.at l.fn.out.items l.out.items;
  became : (first : g.row.A.Denot) → g.A.MessageHandler.became first l.fn.server → g.A.MessageHandler.became first l.server;
}

abbrev pub decreases-loop-size : goal.decreases-loop-size
decreases-loop-size g l = length l.held.items - l.at
