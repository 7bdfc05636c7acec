use Rattle.call_requests.proofs.Known.{answered_known, answered_sound}
use Rattle.call_requests.proofs.laws.selected_rows_are_known.Goals as goal

pub returns-clause-known : goal.returns-clause-known
returns-clause-known c = answered_known c.selected_rows_are_known.ensures.answered

pub returns-clause-sound : goal.returns-clause-sound
returns-clause-sound c = answered_sound
