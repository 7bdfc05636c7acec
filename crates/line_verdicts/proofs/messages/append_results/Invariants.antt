use Rattle.std.proofs.Common.{◌≡◌, ◌++◌, take}
use Rattle.std.specs.List.{flat_map}
use Rattle.line_verdicts.specs.Items.{result_items}
use Rattle.line_verdicts.proofs.messages.append_results.Given as goal

abbrev pub invariant-loop-r : goal.invariant-loop-r
invariant-loop-r l = l.items.items ≡ l.fn.items.items ++ flat_map (result_items l.n) (take l.r-index l.results)
