use Rattle.table_workers.proofs.Own.{learned_same, learned_sound}
use Rattle.table_workers.proofs.step.settle.Goals as goal

pub returns-clause-same : goal.returns-clause-same
returns-clause-same c =
    learned_same c.args.lock.now.setup c.args.pass.now c.tell-note.new.pass c.learn.new.pass c.tell-note.result.seen c.tell-note.ensures.same c.tell-note.ensures.note.1 c.learn.ensures.seen c.learn.ensures.same

pub returns-clause-sound : goal.returns-clause-sound
returns-clause-sound c =
    learned_sound c.args.lock.now.setup c.tell-note.new.pass c.learn.new.pass c.tell-note.result.seen c.learn.ensures.seen c.learn.ensures.same
