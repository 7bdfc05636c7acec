use Rattle.std.proofs.Common.{◌∙◌}
use Rattle.aft_messages.proofs.Printed.{text_sent}
use Rattle.aft_messages.proofs.write.text_of.Goals as goal

pub returns-in-Some-clause-utf8 : goal.returns-in-Some-clause-utf8
returns-in-Some-clause-utf8 c = rw c.in-Some.is (text_sent c.as_bytes.result.now _ (c.as_bytes.ensures.value ∙ c.as_str.ensures) c.as_bytes.ensures.utf8)
