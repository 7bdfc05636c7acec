-- The laws of lawful histories, of the parts that a core keeps.
use Rattle.std.proofs.Common.{◌≡◌, ◌≢◌, ◌⊎◌, ℕ, ℤ, Bool, true, false, List, [], ◌∷◌, map, Some, refl, sym, ap, subst, ◌∙◌, inl, inr}
use Rattle.std.specs.Prelude.{◌||◌, ◌↔◌, cond, filter}
use Rattle.std.specs.List.{list_any}
use Rattle.table_model.specs.declared.command.Command.{Command}
use Rattle.table_model.specs.declared.command.Config.{Config}
use Rattle.table_model.specs.declared.reply.Reply.{Reply}
use Rattle.table_model.specs.BoardState.{as_wanted, is_undone_task, undone_tasks}
use Rattle.table_model.specs.Event.{Event, events, is_no_memory}
use Rattle.table_model.specs.Jobs.{TrackedTask, tracked_tasks, is_undone}
use Rattle.table_model.specs.Laws.{MayChange, event, RibChangesByThese}
use Rattle.table_model.specs.Legal.{Legal, IsLawful, IsAnswer}
use Rattle.table_model.specs.Reply.{reply_to}
use Rattle.table_model.specs.declared.reply.Reply.TheVariants as reply
use Rattle.table_model.specs.Rib.{rib}
use Rattle.rib_core.specs.Core.{Core}
use Rattle.rib_core.specs.Stands.{StandsFor, with}

-- nothing is left of a list that a filter leaves nothing of
none_passes : (xs : List TrackedTask) → filter is_undone_task xs ≡ [] → list_any is_undone_task xs ≡ false
none_passes [] h = refl
none_passes (x ∷ xs) h = by_first (is_undone_task x) refl h (none_passes xs)
  where
    by_first : (b : Bool) → is_undone_task x ≡ b → cond b (x ∷ filter is_undone_task xs) (filter is_undone_task xs) ≡ [] → (filter is_undone_task xs ≡ [] → list_any is_undone_task xs ≡ false)
        → is_undone_task x || list_any is_undone_task xs ≡ false
    by_first true is k rest = cc
    by_first false is k rest = rw is (rest k)

unmapped : (past : List Event) (xs : List TrackedTask) → map (as_wanted past) xs ≡ [] → xs ≡ []
unmapped past [] h = refl
unmapped past (x ∷ xs) h = cc

pub none_undone : (past : List Event) → [] ≡ map (as_wanted past) (undone_tasks past) → list_any (λ tracked. is_undone tracked.outcome) (tracked_tasks past) ≡ false
unfolding undone_tasks
none_undone past h = none_passes (tracked_tasks past) (unmapped past (filter is_undone_task (tracked_tasks past)) (sym h))

module _ (config : Config) (changes : RibChangesByThese config) (command : Command) (reply : Reply) (recorded : List Event) where
  by_memory : (b : Bool) → is_no_memory reply ≡ b → IsLawful config (cond b (events recorded) (event command reply ∷ events recorded))
      → (rib (cond b (events recorded) (event command reply ∷ events recorded)) ≡ rib (events recorded)) ⊎ MayChange (events recorded) (event command reply)
  by_memory true is lawful = inl refl
  by_memory false is lawful = changes (events recorded) (event command reply) lawful

  pub changes_by : IsLawful config (events (with command reply recorded)) → (rib (events (with command reply recorded)) ≡ rib (events recorded)) ⊎ MayChange (events recorded) (event command reply)
  unfolding events
  changes_by lawful = by_memory (is_no_memory reply) refl lawful

pub change_of : {A : Type 0} (C : Type 0) (x y v w : A) → x ≡ v → y ≡ w → (v ≡ w) ⊎ C → (x ≡ y) ⊎ C
change_of C x y v w e f (inl same) = inl (e ∙ same ∙ sym f)
change_of C x y v w e f (inr may) = inr may

-- an answer that isn't of wanting memory is the server's
pub told_by : (config : Config) (command : Command) (answer : Reply) (recorded : List Event) → Legal config (with command answer recorded) → answer ≢ reply.NoMemory
    → answer ≡ reply_to config (events recorded) command
told_by config command answer recorded legal known = by_answer legal.0
  where
    by_answer : IsAnswer config (events recorded) (event command answer) → answer ≡ reply_to config (events recorded) command
    by_answer (inl told) = told
    by_answer (inr lacked) = absurd (known lacked.0)

pub due_by : {A : Type 0} (C : Type 0) (x y z : A) → x ≡ y → ((y ≡ z) ↔ C) → (x ≡ z) ↔ C
due_by C x y z same due = rw same due
