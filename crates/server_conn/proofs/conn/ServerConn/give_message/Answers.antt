use Rattle.std.proofs.Common.{◌∷◌}
use Rattle.h2_exchange.specs.StreamParts.{Message}
use Rattle.server_conn.proofs.Handed.{hands_message, hands_no_memory, hands_refuse, not_taking}
use Rattle.server_conn.proofs.conn.ServerConn.give_message.Goals as goal

pub returns-in-Ok-clause-goes : goal.returns-in-Ok-clause-goes
returns-in-Ok-clause-goes g c = λ s t actions pieces own more h.
    let used = c.in-Ok.ensures.ok h.trace h.used in (
      hands_message g.K.CallConnection.stands g.K.CallConnection.output s c.args.self.now.calls c.answer.new.self c.args.self.now.engine
          c.args.self.now.refused c.args.stream t actions pieces own c.args.message.items more h used (g.met.K.CallConnection.sound c.answer.new.self _ used)
          (c.in-Ok.ensures.sends h.trace h.used),
      tt,
    )

pub returns-in-Err-NoMemory-clause-goes : goal.returns-in-Err-NoMemory-clause-goes
returns-in-Err-NoMemory-clause-goes g c = λ s t actions pieces own more h.
    let used = c.in-Err-NoMemory.ensures.err h.trace h.used in (
      tt,
      hands_no_memory g.K.CallConnection.stands g.K.CallConnection.output s c.args.self.now.calls c.answer.new.self c.args.self.now.engine
          c.args.self.now.refused c.args.stream t actions pieces own (Message c.args.message.items ∷ more) c.args.self.now.is_ended h used
          (g.met.K.CallConnection.sound c.answer.new.self h.trace used),
    )

pub returns-in-Err-NotOpen-clause-goes : goal.returns-in-Err-NotOpen-clause-goes
returns-in-Err-NotOpen-clause-goes g c = λ s t actions pieces own more h.
    let used = c.in-Err-NotOpen.ensures.err h.trace h.used in (
      hands_refuse g.K.CallConnection.stands g.K.CallConnection.output s c.args.self.now.calls c.answer.new.self c.args.self.now.engine
          c.args.self.now.refused c.args.stream t actions pieces own (Message c.args.message.items ∷ more) h used
          (g.met.K.CallConnection.sound c.answer.new.self h.trace used)
          (not_taking Unit _ _ c.in-Err-NotOpen.field-0-is (c.in-Err-NotOpen.ensures.sends h.trace h.used)),
      tt,
    )
