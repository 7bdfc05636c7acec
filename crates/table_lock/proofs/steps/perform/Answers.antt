use Rattle.std.proofs.Common.{refl, Some}
use Rattle.table_lock.proofs.steps.perform.Goals as goal

pub returns : goal.returns
returns g c = record {
  before = c.in-Some.slot_content;
  after = record { machine = c.act-reply.new.self; last = Some record { command = c.of-asked.result; reply = c.of.result } };
  last = record { command = c.of-asked.result; reply = c.of.result };
  was = c.in-Some.is;
  now = refl;
  last_is = refl;
  command_is = c.of-asked.ensures;
  reply_is = c.of.ensures;
  kept = c.act-reply.ensures.setup;
  event = c.act-reply.ensures.event;
}
