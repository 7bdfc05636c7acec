use Rattle.aft_entries.proofs.Sameness.{same_is_equal}
use Rattle.aft_entries.proofs.laws.same_payloads_are_equal.Goals as goal

pub returns : goal.returns
returns c one other = same_is_equal one other
