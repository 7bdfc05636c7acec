use Rattle.std.proofs.Common.{◌≡◌, ◌++◌, Some, map, take}
use Rattle.std.specs.List.{flat_map}
use Rattle.aft_messages.specs.Writing.{pushed_label_field}
use Rattle.aft_messages.proofs.print.write_labels.Given as goal

abbrev pub invariant-loop-label : goal.invariant-loop-label
invariant-loop-label l = l.out.items ≡ l.fn.out.items ++ flat_map (pushed_label_field l.n) (map Some (take l.label-index l.labels))
