use Rattle.table_laws.proofs.ElectionLaws.{latest}
use Rattle.table_laws.proofs.election.latest_announcer_is_primary.Goals as goal

pub returns : goal.returns
returns c config = latest config
