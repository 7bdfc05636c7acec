use Rattle.table_laws.proofs.InFlight.{in_flight_closed}
use Rattle.table_laws.proofs.jobs.in_flight_is_closed.Goals as goal

pub returns : goal.returns
returns c config = in_flight_closed config
