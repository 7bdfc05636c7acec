use Rattle.aft_entries.proofs.Checking.{checked_fits}
use Rattle.aft_entries.proofs.laws.checked_entries_fit.Goals as goal

pub returns : goal.returns
returns c = checked_fits
