use Rattle.std.proofs.Common.{◌≡◌, ◌≤◌, ◌-◌, ◌^◌, [], length}
use Rattle.message_run.specs.Behaviour.{Behaviour}
use Rattle.message_run.specs.Runs.{told as told_by}
use Rattle.message_run.proofs.Runs.{IsRunning}
use Rattle.message_run.proofs.stream.handle_stream.Given as goal

abbrev pub invariant-loop-held : goal.invariant-loop-held
invariant-loop-held g l = record {
  running : (first : Behaviour) → g.A.MessageHandler.shows l.fn.server first → g.A.MessageHandler.stands l.fn.server first [] → (f : Behaviour) × g.A.MessageHandler.shows l.server f × IsRunning f (g.A.MessageHandler.stands l.server f)
      (told_by g.S.Source.taken g.S.Source.left g.K.Sink.placed l.fn.input l.input l.fn.output l.output) l.held.items l.taken;
  became : (first : g.row.A.Denot) → g.A.MessageHandler.became first l.fn.server → g.A.MessageHandler.became first l.server;
  short : l.taken ≤ 2 ^ 40;
  room : length l.buffer ≡ 65536;
  read : g.S.Source.faults l.input ≡ g.S.Source.faults l.fn.input;
  write : g.K.Sink.faults l.output ≡ g.K.Sink.faults l.fn.output;
}

abbrev pub decreases-loop-held : goal.decreases-loop-held
decreases-loop-held g l = 2 ^ 40 - l.taken
