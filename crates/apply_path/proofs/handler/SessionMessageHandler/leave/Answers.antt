use Rattle.apply_path.specs.Responses.{config_of}
use Rattle.apply_path.proofs.Sessions.{left_then}
use Rattle.apply_path.proofs.handler.SessionMessageHandler.leave.Goals as goal

pub returns-clause-left : goal.returns-clause-left
returns-clause-left g c = λ f done h few.
    left_then c.args.self.now.setting.now (c.others_keep_shard.ensures (config_of c.args.self.now.setting.now)) c.args.self.now.state.now.core c.act-reply.new.self c.args.self.now.state.now.count _ f done c.act-reply.result h c.act-reply.ensures.stands c.act-reply.ensures.config
