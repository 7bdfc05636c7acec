-- The line of counts with which a server ends.
use Rattle.std.specs.Prelude.{ℕ, List, ◌++◌, codes, length}
use Rattle.std.specs.Fmt.{decimal}
use Rattle.table_model.specs.Event.{Event}
use Rattle.table_model.specs.Jobs.{fib}
use Rattle.table_model.specs.Rib.{rib}

-- how many entries the table has, how many of them are installed in the forwarding table, and how many events there were
abbrev pub counts_line : ℕ → ℕ → ℕ → List ℕ
counts_line entries installed events =
    codes "entries " ++ (decimal entries ++ (codes " installed " ++ (decimal installed ++ (codes " events " ++ (decimal events ++ codes "\n")))))

-- the line of a history
abbrev pub line_of : List Event → List ℕ
line_of past = counts_line (length (rib past)) (length (fib past)) (length past)
