-- A search from the front, place by place, for the first job that may start.
use Rattle.std.proofs.Common.{◌≡◌, ℕ, zero, suc, ◌+◌, Bool, true, false, List, [], ◌∷◌, Some, None, length, take, get_or, ◌<◌, refl, sym, ap, ◌∙◌, arith}
use Rattle.std.specs.Prelude.{slice_get, cond, not, ◌&&◌, ◌||◌, nat_lt}
use Rattle.std.specs.List.{position, position_or_len, list_any, list_all}
use Rattle.std.proofs.lemmas.Bool.Decides.{nat_tests}
use Rattle.std.proofs.Math.Seq.{take-length}
use Rattle.std.proofs.lemmas.List.Folds.{list_any_more}
use Rattle.std.proofs.lemmas.Option.{get_or_from_slice_get}
use Rattle.table_model.proofs.Tests.{and_left, and_right}
use Rattle.table_model.specs.declared.job.JobNumber.{JobNumber}
use Rattle.table_model.specs.Jobs.{Task, TrackedTask, number_lt, on_shard, is_undone, is_waiting, conflict, is_blocked}
use Rattle.fib_board.specs.BoardInvariant.{ascends, may_start}
use Rattle.fib_board.proofs.Finding.{some_at}

-- The jobs behind a job don't block it.

not_below : (a b : JobNumber) → number_lt a b ≡ true → number_lt b a ≡ false
not_below a b lt = grind (arith, nat_tests)

not_itself : (a : JobNumber) → number_lt a a ≡ false
not_itself a = grind (arith, nat_tests)

abbrev blocks : Task → TrackedTask → Bool
blocks task tracked = is_undone tracked.outcome && number_lt tracked.task.job.number task.job.number && conflict tracked.task task

later_free : (task : Task) (x : TrackedTask) → number_lt x.task.job.number task.job.number ≡ false → blocks task x ≡ false
later_free task x late = ap (λ b. is_undone x.outcome && b && conflict x.task task) late ∙ neither (is_undone x.outcome) (conflict x.task task)
  where
    neither : (a b : Bool) → a && false && b ≡ false
    neither true b = refl
    neither false b = refl

none_behind : (task : Task) (rest : List TrackedTask) → list_all (λ other. number_lt task.job.number other.task.job.number) rest ≡ true → list_any (blocks task) rest ≡ false
none_behind task [] late = refl
none_behind task (x ∷ rest) late =
    let here = and_left (number_lt task.job.number x.task.job.number) (list_all (λ other. number_lt task.job.number other.task.job.number) rest) late in
    let behind = and_right (number_lt task.job.number x.task.job.number) (list_all (λ other. number_lt task.job.number other.task.job.number) rest) late in
    ap (λ b. b || list_any (blocks task) rest) (later_free task x (not_below task.job.number x.task.job.number here)) ∙ none_behind task rest behind

pub earlier_block : (jobs : List TrackedTask) (at : ℕ) (tracked : TrackedTask) → ascends jobs ≡ true → slice_get jobs at ≡ Some tracked → is_blocked (take at jobs) tracked.task ≡ is_blocked jobs tracked.task
earlier_block [] at tracked rising is = cc
earlier_block (x ∷ jobs) zero tracked rising is =
    let one : x ≡ tracked = cc in
    let late = and_left (list_all (λ other. number_lt x.task.job.number other.task.job.number) jobs) (ascends jobs) rising in
    sym (ap (λ (t : TrackedTask). list_any (blocks t.task) (x ∷ jobs)) (sym one) ∙ ap (λ b. b || list_any (blocks x.task) jobs) (later_free x.task x (not_itself x.task.job.number)) ∙ none_behind x.task jobs late)
earlier_block (x ∷ jobs) (suc at) tracked rising is =
    ap (λ b. blocks tracked.task x || b) (earlier_block jobs at tracked (and_right (list_all (λ other. number_lt x.task.job.number other.task.job.number) jobs) (ascends jobs) rising) is)

-- The first place at which a test passes.

module _ {X : Type 0} (p : X → Bool) where
  first_passes : (xs : List X) (n : ℕ) (x : X) → list_any p (take n xs) ≡ false → slice_get xs n ≡ Some x → p x ≡ true → (position_or_len p xs ≡ n) × (n < length xs)
  first_passes [] n x before is passes = cc
  first_passes (y ∷ xs) zero x before is passes =
      let one : y ≡ x = cc in
      (ap (λ b. cond (not b) (1 + position_or_len p xs) 0) (ap p one ∙ passes), omega arith)
  first_passes (y ∷ xs) (suc n) x before is passes = by_test (p y) refl (λ rest. first_passes xs n x rest is passes) before
    where
      by_test : (b : Bool) → p y ≡ b → (list_any p (take n xs) ≡ false → (position_or_len p xs ≡ n) × (n < length xs)) → b || list_any p (take n xs) ≡ false
          → (cond (not (p y)) (1 + position_or_len p xs) 0 ≡ suc n) × (suc n < length (y ∷ xs))
      by_test true here go before = cc
      by_test false here go before =
          let rest = go before in
          let first = rest.0 in
          let within = rest.1 in
          let next : 1 + position_or_len p xs ≡ suc n = omega arith in
          (ap (λ b. cond (not b) (1 + position_or_len p xs) 0) here ∙ next, omega arith)

  below : (m n : ℕ) → m < n → nat_lt m n ≡ true
  below m n lt = grind (arith, nat_tests)

  pub position_here : (xs : List X) (n : ℕ) (x : X) → list_any p (take n xs) ≡ false → slice_get xs n ≡ Some x → p x ≡ true → position p xs ≡ Some n
  position_here xs n x before is passes =
      let here = first_passes xs n x before is passes in
      ap (λ k. cond (nat_lt k (length xs)) (Some k) None) here.0 ∙ ap (λ b. cond b (Some n) None) (below n (length xs) here.1)

  all_fail : (xs : List X) → list_any p xs ≡ false → position_or_len p xs ≡ length xs
  all_fail [] none = refl
  all_fail (y ∷ xs) none = by_test (p y) refl (all_fail xs) none
    where
      by_test : (b : Bool) → p y ≡ b → (list_any p xs ≡ false → position_or_len p xs ≡ length xs) → b || list_any p xs ≡ false → cond (not (p y)) (1 + position_or_len p xs) 0 ≡ length (y ∷ xs)
      by_test true here go none = cc
      by_test false here go none =
          let rest = go none in
          let next : 1 + position_or_len p xs ≡ length (y ∷ xs) = omega arith in
          ap (λ b. cond (not b) (1 + position_or_len p xs) 0) here ∙ next

  none_below_itself : (n : ℕ) → nat_lt n n ≡ false
  none_below_itself n = grind (arith, nat_tests)

  pub position_none : (xs : List X) (n : ℕ) → n ≡ length xs → list_any p (take n xs) ≡ false → position p xs ≡ None
  position_none xs n end none =
      let all : list_any p xs ≡ false = ap (list_any p) (sym (take-length xs) ∙ ap (λ k. take k xs) (sym end)) ∙ none in
      ap (λ k. cond (nat_lt k (length xs)) (Some k) None) (all_fail xs all) ∙ ap (λ b. cond b (Some (length xs)) None) (none_below_itself (length xs))

-- A job is judged by those before it.

module _ (workers : ℕ) (jobs : List TrackedTask) (worker at : ℕ) (rising : ascends jobs ≡ true) where
  pub judged_at : (answer : Bool) (r : TrackedTask) → r ≡ get_or jobs at r → answer ≡ (on_shard workers worker r.task && is_waiting r.outcome && not (is_blocked (take at jobs) r.task))
      → (tracked : TrackedTask) → slice_get jobs at ≡ Some tracked → answer ≡ may_start workers jobs worker tracked
  judged_at answer r here says tracked is =
      let one : r ≡ tracked = here ∙ get_or_from_slice_get jobs at tracked r is in
      says ∙ ap (λ (x : TrackedTask). on_shard workers worker x.task && is_waiting x.outcome && not (is_blocked (take at jobs) x.task)) one
      ∙ ap (λ b. on_shard workers worker tracked.task && is_waiting tracked.outcome && not b) (earlier_block jobs at tracked rising is)

-- One place of a search.

module _ {X : Type 0} (p : X → Bool) (xs : List X) (n : ℕ) (before : list_any p (take n xs) ≡ false) (within : n < length xs) (answer : Bool) (says : (x : X) → slice_get xs n ≡ Some x → answer ≡ p x) where
  pub search_ends : answer ≡ true → Some n ≡ position p xs
  search_ends found = let at = some_at xs n within in sym (position_here p xs n at.0 before at.1 (sym (says at.0 at.1) ∙ found))

  pub search_goes_on : answer ≡ false → list_any p (take (n + 1) xs) ≡ false
  search_goes_on not_here =
      let at = some_at xs n within in
      list_any_more p xs n at.0 within ∙ rw (before, get_or_from_slice_get xs n at.0 at.0 at.1, sym (says at.0 at.1) ∙ not_here) refl
