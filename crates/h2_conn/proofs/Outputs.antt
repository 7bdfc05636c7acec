-- What waits to be sent.
use Rattle.std.proofs.Common.{◌≡◌, ℕ, ◌≤◌, ◌+◌, List, ◌++◌, length, drop, ap, ◌∙◌}
use Rattle.std.proofs.lemmas.List.{drop-drop, drop-append-le}

pub added : (start : ℕ) (old new bytes : List ℕ) → new ≡ old ++ bytes → start ≤ length old → drop start new ≡ drop start old ++ bytes
added start old new bytes e small = ap (λ (x : List ℕ). drop start x) e ∙ drop-append-le start old bytes small

pub dropped_front : (start n : ℕ) (items : List ℕ) → drop n (drop start items) ≡ drop (start + n) items
dropped_front start n items = drop-drop n start items
