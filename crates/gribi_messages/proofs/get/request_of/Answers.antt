use Rattle.gribi_messages.proofs.NamesAsked.{get_text}
use Rattle.gribi_messages.proofs.get.request_of.Goals as goal

pub instance_of-requires : goal.instance_of-requires
instance_of-requires c = rw (c.field-name.ensures.value, c.field.ensures.value) (get_text c.args.n.now c.args.bytes.now c.all_are_valid.ensures c.requires)
