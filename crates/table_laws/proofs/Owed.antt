-- What a Collect answers as outstanding is owed right after it.
use Rattle.std.proofs.Common.{◌≡◌, ℕ, ◌+◌, ◌-◌, true, List, ◌∷◌, length, map, sym, ap, ◌∙◌, arith}
use Rattle.std.specs.Prelude.{◌==◌, cond, count_by}
use Rattle.std.proofs.lemmas.Bool.Decides.{nat_tests}
use Rattle.std.proofs.lemmas.List.{append-nil}
use Rattle.table_model.specs.declared.command.Command.TheVariants.{Collect}
use Rattle.table_model.specs.declared.command.Config.{Config}
use Rattle.table_model.specs.declared.reply.Reply.TheVariants as reply
use Rattle.table_model.specs.declared.results.FibResult.{FibResult}
use Rattle.table_model.specs.Event.{Event}
use Rattle.table_model.specs.Jobs.{tasks, tracked_tasks, outcome_of}
use Rattle.table_model.specs.Laws.{event, OutstandingIsOwed}
use Rattle.table_model.specs.Reply.{reply_to, is_halted, is_gone}
use Rattle.table_model.specs.Results.{results, taken, batch, outstanding, owed, is_awaited}
use Rattle.table_laws.proofs.Answered.{told}
use Rattle.table_laws.proofs.Updates.{tracked_at}

module _ (past : List Event) (session left : ℕ) (given : List FibResult) where
  abbrev collected : Event
  collected = event (Collect session) (reply.Collected given left)

  same_tracked_tasks : tracked_tasks (collected ∷ past) ≡ tracked_tasks past
  unfolding tracked_tasks tasks outcome_of
  same_tracked_tasks = ap (map (tracked_at past)) (append-nil (tasks past))

  same_results : results (collected ∷ past) session ≡ results past session
  unfolding results
  same_results = append-nil (results past session)

  more_taken : taken (collected ∷ past) session ≡ taken past session + length given
  unfolding taken
  more_taken = let itself : (session == session) ≡ true = grind (arith, nat_tests) in ap (λ b. taken past session + cond b (length given) 0) itself

  still_owed : owed (collected ∷ past) session ≡ count_by (is_awaited session) (tracked_tasks past) + (length (results past session) - (taken past session + length given))
  unfolding owed
  still_owed =
      ap (λ board. count_by (is_awaited session) board + (length (results (collected ∷ past) session) - taken (collected ∷ past) session)) same_tracked_tasks
      ∙ ap (λ rs. count_by (is_awaited session) (tracked_tasks past) + (length rs - taken (collected ∷ past) session)) same_results
      ∙ ap (λ n. count_by (is_awaited session) (tracked_tasks past) + (length (results past session) - n)) more_taken

pub outstanding_owed : (config : Config) → OutstandingIsOwed config
unfolding reply_to outstanding
outstanding_owed config past session left given lawful =
    let says = told given (batch past session) left (outstanding past session) (is_halted past) (is_gone past (Collect session)) lawful.0 in
    says.1 ∙ ap (λ (rs : List FibResult). count_by (is_awaited session) (tracked_tasks past) + (length (results past session) - (taken past session + length rs))) (sym says.0) ∙ sym (still_owed past session left given)
