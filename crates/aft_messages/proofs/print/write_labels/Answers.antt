use Rattle.aft_messages.proofs.Printed.{labels_sent}
use Rattle.aft_messages.proofs.print.write_labels.Goals as goal

pub returns-clause-sent : goal.returns-clause-sent
returns-clause-sent c = labels_sent c.args.labels.now c.type_inv.labels
