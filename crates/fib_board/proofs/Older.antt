-- An empty board, and how old the jobs of a board are.
use Rattle.std.proofs.Common.{◌≡◌, ℕ, Bool, true, false, List, [], ◌∷◌, length, map, refl, ap, ◌∙◌, arith}
use Rattle.std.specs.Prelude.{cond, filter}
use Rattle.std.specs.List.{list_all}
use Rattle.std.proofs.lemmas.Bool.Decides.{nat_tests}
use Rattle.table_model.specs.Event.{Event}
use Rattle.table_model.specs.Jobs.{Task, tasks, tracked_tasks, fib, table_of}
use Rattle.table_model.specs.BoardState.{as_wanted, is_undone_task, undone_tasks, due_of}
use Rattle.table_model.specs.Sessions.{live}
use Rattle.table_model.proofs.Tests.{and_left, and_right, and_both}
use Rattle.table_laws.proofs.Ascending.{is_older, tasks_older}
use Rattle.table_laws.proofs.Updates.{tracked_at}
use Rattle.fib_board.specs.Follows.{EmptyStands, JobsAreOlder}
use Rattle.fib_board.specs.Steps.{is_before}

pub empty_stands : EmptyStands
unfolding undone_tasks tracked_tasks tasks fib table_of due_of live
empty_stands ledger leaves = record { undone = leaves.undone; fib = leaves.fib; due = leaves.due }

module _ (past : List Event) (position index : ℕ) where
  older_before : (t : Task) → is_older position t ≡ true → is_before (record { position = position; index = index }) (as_wanted past (tracked_at past t)) ≡ true
  unfolding as_wanted
  older_before t older = grind (arith, nat_tests)

  all_before : (ts : List Task) → list_all (is_older position) ts ≡ true
      → list_all (is_before (record { position = position; index = index })) (map (as_wanted past) (filter is_undone_task (map (tracked_at past) ts))) ≡ true
  all_before [] older = refl
  all_before (t ∷ ts) older = by_kept (is_undone_task (tracked_at past t)) (all_before ts (and_right (is_older position t) (list_all (is_older position) ts) older))
    where
      here : is_before (record { position = position; index = index }) (as_wanted past (tracked_at past t)) ≡ true
      here = older_before t (and_left (is_older position t) (list_all (is_older position) ts) older)

      by_kept : (b : Bool) → list_all (is_before (record { position = position; index = index })) (map (as_wanted past) (filter is_undone_task (map (tracked_at past) ts))) ≡ true
          → list_all (is_before (record { position = position; index = index })) (map (as_wanted past) (cond b (tracked_at past t ∷ filter is_undone_task (map (tracked_at past) ts)) (filter is_undone_task (map (tracked_at past) ts)))) ≡ true
      by_kept true rest = and_both _ _ here rest
      by_kept false rest = rest

pub jobs_older : JobsAreOlder
unfolding undone_tasks tracked_tasks
jobs_older past ledger index stands = ap (list_all (is_before (record { position = length past; index = index }))) stands.undone ∙ all_before past (length past) index (tasks past) (tasks_older past)
