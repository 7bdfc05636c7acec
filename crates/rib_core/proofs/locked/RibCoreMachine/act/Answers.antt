use Rattle.rib_core.proofs.Recording.{has_room}
use Rattle.rib_core.proofs.locked.RibCoreMachine.act.Goals as goal

pub act-requires : goal.act-requires
act-requires c = record { room = has_room c.args.self.now c.requires.0 c.requires.1 c.requires.2 }
