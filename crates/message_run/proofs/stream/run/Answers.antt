use Rattle.message_run.specs.Runs.{Told, told as told_by}
use Rattle.message_run.proofs.Closing.{runs_over}
use Rattle.message_run.proofs.stream.run.Goals as goal

pub returns-clause-runs : goal.returns-clause-runs
returns-clause-runs g c = λ first show stood.
    let told : Told = told_by g.S.Source.taken g.S.Source.left g.K.Sink.placed c.args.input.now c.run_in.new.input c.args.output.now c.run_in.new.output in
    let r = c.run_in.ensures.runs first show stood in
    record {
      behaviour = r.0;
      shown = r.1;
      runs = r.2;
      over = λ all e. runs_over r.0 (g.A.MessageHandler.stands c.run_in.new.server r.0) (g.A.MessageHandler.left c.run_in.new.server r.0) c.run_in.result all told r.2 e;
    }
