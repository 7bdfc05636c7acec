use Rattle.rib_core.specs.Recorded.{IsLawful}
use Rattle.engine_tests.proofs.Ready.{pass_after, pass_spent, sound_after, sound_spent}
use Rattle.engine_tests.proofs.connection.OneConnection.begin.Goals as goal

pub returns-in-Err-clause-pass : goal.returns-in-Err-clause-pass
returns-in-Err-clause-pass g c =
    let k = (c.in-Err.ensures.spent c.requires.unbegun c.args.self.now.setting) in pass_spent IsLawful c.args.self.now.lock c.args.self.now.pass c.begin.new.pass k.did c.requires.pass k.spent

pub returns-in-Err-clause-sound : goal.returns-in-Err-clause-sound
returns-in-Err-clause-sound g c =
    let k = (c.in-Err.ensures.spent c.requires.unbegun c.args.self.now.setting) in sound_spent IsLawful c.args.self.now.lock c.args.self.now.pass c.begin.new.pass k.did c.requires.pass k.spent

pub returns-in-Ok-clause-pass : goal.returns-in-Ok-clause-pass
returns-in-Ok-clause-pass g c =
    let k = (c.in-Ok.ensures.done c.requires.unbegun c.args.self.now.setting) in pass_after IsLawful c.args.self.now.lock c.args.self.now.pass c.begin.new.pass k.did c.requires.pass k.entries

pub returns-in-Ok-clause-sound : goal.returns-in-Ok-clause-sound
returns-in-Ok-clause-sound g c =
    let k = (c.in-Ok.ensures.done c.requires.unbegun c.args.self.now.setting) in sound_after IsLawful c.args.self.now.lock c.args.self.now.pass c.begin.new.pass k.did c.requires.pass k.entries

pub returns-in-Ok-clause-others : goal.returns-in-Ok-clause-others
returns-in-Ok-clause-others g c = λ told. (c.in-Ok.ensures.done c.requires.unbegun c.args.self.now.setting).others
