use Rattle.std.proofs.Common.{◌≡◌, ◌++◌, take}
use Rattle.std.specs.List.{flat_map}
use Rattle.gribi_messages.specs.Response.{result_field}
use Rattle.gribi_messages.proofs.response.write_results.Given as goal

abbrev pub invariant-loop-r : goal.invariant-loop-r
invariant-loop-r l = l.out.items ≡ l.fn.out.items ++ flat_map (result_field l.n) (take l.r-index l.results)
