-- What a search for the first place finds.
use Rattle.std.proofs.Common.{◌≡◌, ℕ, zero, suc, ◌<◌, ◌≤◌, Bool, true, false, List, [], ◌∷◌, Some, None, length, refl, sym, ap, ◌∙◌, arith}
use Rattle.std.specs.Prelude.{find, slice_get, cond, is_some, not, ◌&&◌, ◌||◌}
use Rattle.std.specs.List.{position, position_or_len, list_any}
use Rattle.std.proofs.lemmas.Grind.{common_steps}
use Rattle.std.proofs.lemmas.List.Folds.{find_at}
use Rattle.std.proofs.lemmas.List.Quantifiers.{position-Some}
use Rattle.std.proofs.lemmas.Option.{slice_get_past, get_or_from_slice_get}
use Rattle.table_model.proofs.Tests.{and_left, and_right}
use Rattle.table_model.specs.Jobs.{TrackedTask, next_task, on_shard, is_waiting, is_blocked}
use Rattle.fib_board.specs.BoardInvariant.{may_start}

-- what stands at a place
pub some_at : {X : Type 0} (xs : List X) (i : ℕ) → i < length xs → (x : X) × (slice_get xs i ≡ Some x)
some_at [] i within = absurd (omega arith)
some_at (x ∷ xs) zero within = (x, refl)
some_at (x ∷ xs) (suc i) within = some_at xs i (omega arith)

module _ {X : Type 0} (p : X → Bool) where
  pub first_is : (xs : List X) (i : ℕ) → position p xs ≡ Some i → i ≡ position_or_len p xs
  first_is xs i found = grind (arith, common_steps)

  pub found_at : (xs : List X) (i : ℕ) → position p xs ≡ Some i → find p xs ≡ slice_get xs i
  found_at xs i found = find_at p xs ∙ ap (slice_get xs) (sym (first_is xs i found))

  pub found_none : (xs : List X) → position p xs ≡ None → find p xs ≡ None
  found_none xs missing =
      let past : length xs ≤ position_or_len p xs = grind (arith, common_steps) in
      find_at p xs ∙ slice_get_past xs (position_or_len p xs) past

  pub found_passes : (xs : List X) (i : ℕ) (x : X) → position p xs ≡ Some i → slice_get xs i ≡ Some x → p x ≡ true
  found_passes xs i x found is = ap p (sym (get_or_from_slice_get xs i x x is)) ∙ (position-Some p xs i x found).1

  pub found_some : (xs : List X) (i : ℕ) → position p xs ≡ Some i → is_some (find p xs) ≡ true
  found_some xs i found =
      let within : i < length xs = grind (arith, common_steps) in
      at_some (some_at xs i within)
    where
      at_some : (x : X) × (slice_get xs i ≡ Some x) → is_some (find p xs) ≡ true
      at_some here = ap is_some (found_at xs i found ∙ here.1)

  pub any_found : (xs : List X) → list_any p xs ≡ is_some (find p xs)
  any_found [] = refl
  any_found (x ∷ xs) = by_test (p x) (any_found xs)
    where
      by_test : (b : Bool) → list_any p xs ≡ is_some (find p xs) → b || list_any p xs ≡ is_some (cond b (Some x) (find p xs))
      by_test true rest = refl
      by_test false rest = rest

module _ (workers : ℕ) (undone : List TrackedTask) (worker : ℕ) where
  pub next_none : position (may_start workers undone worker) undone ≡ None → next_task workers undone worker ≡ None
  unfolding next_task
  next_none missing = found_none (may_start workers undone worker) undone missing

  pub next_found : (at : ℕ) → position (may_start workers undone worker) undone ≡ Some at → next_task workers undone worker ≡ slice_get undone at
  unfolding next_task
  next_found at found = found_at (may_start workers undone worker) undone at found

  pub next_waits : (at : ℕ) (tracked : TrackedTask) → position (may_start workers undone worker) undone ≡ Some at → slice_get undone at ≡ Some tracked → is_waiting tracked.outcome ≡ true
  next_waits at tracked found is =
      and_right (on_shard workers worker tracked.task) (is_waiting tracked.outcome)
      (and_left (on_shard workers worker tracked.task && is_waiting tracked.outcome) (not (is_blocked undone tracked.task)) (found_passes (may_start workers undone worker) undone at tracked found is))
