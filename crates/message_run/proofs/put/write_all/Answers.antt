use Rattle.std.proofs.Common.{inr, ◌∙◌}
use Rattle.message_run.proofs.Sinks.{putting_more, stayed}
use Rattle.message_run.proofs.put.write_all.Goals as goal

pub loop-rest-preserved : goal.loop-rest-preserved
loop-rest-preserved g c = record {
  putting = rw c.split_at.ensures.back (putting_more (g.K.Sink.placed c.args.output.now) (g.K.Sink.placed c.loop-rest.output) (g.K.Sink.placed c.put.new.self) c.args.piece.now c.loop-rest.rest.now c.in-Put.count c.loop-rest.invariant.putting c.in-Put.ensures.bytes);
  faults = stayed _ _ _ c.in-Put.ensures.stays (λ e. cc) ∙ c.loop-rest.invariant.faults;
}

pub returns-clause-stays : goal.returns-clause-stays
returns-clause-stays g c = inr c.loop-rest.invariant.faults
