use Rattle.table_model.proofs.Lawful.{lawful_events}
use Rattle.table_laws.proofs.rib.events_are_lawful.Goals as goal

pub returns : goal.returns
returns c config recorded legal = lawful_events config recorded legal
