use Rattle.std.proofs.Common.{length, ◌≡◌}
use Rattle.message_run.proofs.Sinks.{IsPutting}
use Rattle.message_run.proofs.put.write_all.Given as goal

abbrev pub invariant-loop-rest : goal.invariant-loop-rest
invariant-loop-rest g l = record {
  putting : IsPutting (g.K.Sink.placed l.fn.output) (g.K.Sink.placed l.output) l.piece l.rest;
  faults : g.K.Sink.faults l.output ≡ g.K.Sink.faults l.fn.output;
}

abbrev pub decreases-loop-rest : goal.decreases-loop-rest
decreases-loop-rest g l = length l.rest
