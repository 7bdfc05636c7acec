-- What is owed for a whole table is what is owed for both its parts.
use Rattle.std.proofs.Common.{◌≡◌, ◌+◌, Bool, true, false, List, [], ◌∷◌, arith}
use Rattle.aft_entries.specs.declared.entry.Entry.{Entry}
use Rattle.aft_store.specs.Marked.{chosen, unchosen}
use Rattle.fib_board.specs.Removals.{removal_cost, removal_costs}
use Rattle.purge.proofs.Turning.{costs_first}

pub costs_of_parts : (marks : List Bool) (xs : List Entry) → removal_costs (chosen marks xs) + removal_costs (unchosen marks xs) ≡ removal_costs xs
costs_of_parts [] xs = omega arith
costs_of_parts (m ∷ marks) [] = omega arith
costs_of_parts (true ∷ marks) (x ∷ xs) =
    let here : removal_costs (x ∷ chosen marks xs) ≡ removal_cost x + removal_costs (chosen marks xs) = costs_first x (chosen marks xs) in
    let all : removal_costs (x ∷ xs) ≡ removal_cost x + removal_costs xs = costs_first x xs in
    let rest : removal_costs (chosen marks xs) + removal_costs (unchosen marks xs) ≡ removal_costs xs = costs_of_parts marks xs in
    omega arith
costs_of_parts (false ∷ marks) (x ∷ xs) =
    let here : removal_costs (x ∷ unchosen marks xs) ≡ removal_cost x + removal_costs (unchosen marks xs) = costs_first x (unchosen marks xs) in
    let all : removal_costs (x ∷ xs) ≡ removal_cost x + removal_costs xs = costs_first x xs in
    let rest : removal_costs (chosen marks xs) + removal_costs (unchosen marks xs) ≡ removal_costs xs = costs_of_parts marks xs in
    omega arith
