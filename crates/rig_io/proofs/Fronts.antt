-- The front of a list that was copied into a buffer.
use Rattle.std.proofs.Common.{◌≡◌, ℕ, ◌+◌, ◌-◌, ◌≤◌, List, ◌++◌, length, take, drop, sym, arith, ap, ◌∙◌}
use Rattle.std.proofs.lemmas.List.{take_at, take-append-drop, drop-drop, length-take, take_rest}
use Rattle.std.proofs.Math.Seq.{take-add}

pub front : (bytes : List ℕ) (at n : ℕ) (copied tail : List ℕ) → copied ≡ take n (take (length bytes - at) (drop at bytes)) → n ≤ length (take (length bytes - at) (drop at bytes))
    → take n (copied ++ tail) ≡ take n (drop at bytes)
front bytes at n copied tail e le =
    let rest : take (length bytes - at) (drop at bytes) ≡ drop at bytes = take_rest bytes at in
    let is_front : copied ≡ take n (drop at bytes) = rw (← rest) e in
    let short : n ≤ length (drop at bytes) = rw (← rest) le in
    let len : length copied ≡ n = rw is_front (omega (arith, length-take n (drop at bytes))) in
    take_at copied tail n len ∙ is_front

-- what was left is the front and what is left now
pub front_and_rest : (bytes : List ℕ) (at n : ℕ) (copied tail : List ℕ) → copied ≡ take n (take (length bytes - at) (drop at bytes)) → n ≤ length (take (length bytes - at) (drop at bytes))
    → drop at bytes ≡ take n (copied ++ tail) ++ drop (at + n) bytes
front_and_rest bytes at n copied tail e le = rw (front bytes at n copied tail e le, ← drop-drop n at bytes) (sym (take-append-drop n (drop at bytes)))

-- what is given now is what was given and the front
pub given_and_front : (bytes : List ℕ) (at n : ℕ) (copied tail : List ℕ) → copied ≡ take n (take (length bytes - at) (drop at bytes)) → n ≤ length (take (length bytes - at) (drop at bytes))
    → take (at + n) bytes ≡ take at bytes ++ take n (copied ++ tail)
given_and_front bytes at n copied tail e le = take-add at n bytes ∙ ap (λ (x : List ℕ). take at bytes ++ x) (sym (front bytes at n copied tail e le))
