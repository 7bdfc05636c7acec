-- Events that are about no job and make none: nothing of a board changes, also where a session begins.
use Rattle.std.proofs.Common.{◌≡◌, ℕ, zero, suc, ◌<◌, ◌≤◌, Bool, true, false, List, [], ◌∷◌, ◌++◌, Option, Some, None, length, map, drop, refl, sym, ap, ◌∙◌, arith}
use Rattle.std.specs.Prelude.{◌&&◌, ◌||◌, ◌==◌, cond, filter, find, nat_lt, option_and_then}
use Rattle.std.specs.List.{list_any, list_all}
use Rattle.std.proofs.lemmas.Bool.Decides.{nat_tests}
use Rattle.std.proofs.lemmas.List.{append-nil}
use Rattle.std.proofs.lemmas.List.Folds.{list_any-append, list_all-append}
use Rattle.aft_entries.specs.declared.entry.Entry.{Entry}
use Rattle.table_model.specs.declared.command.Command.{Command}
use Rattle.table_model.specs.declared.command.Command.TheVariants.{Operate}
use Rattle.table_model.specs.declared.command.Config.{Config}
use Rattle.table_model.specs.declared.command.Operation.{Operation}
use Rattle.table_model.specs.declared.job.Work.{Work}
use Rattle.table_model.specs.declared.reply.Reply.{Reply}
use Rattle.table_model.specs.declared.reply.Reply.TheVariants as reply
use Rattle.table_model.specs.declared.results.FibResult.{FibResult}
use Rattle.table_model.specs.Event.{Event, is_began, is_done, is_left, is_flushed}
use Rattle.table_model.specs.Jobs.{Task, JobUpdate, TrackedTask, tasks, tasks_by, tracked_tasks, update_of, operate_tasks, work_of, work_key, refs_before, purge_tasks, purge_order, removed, number_eq, is_undone}
use Rattle.table_model.specs.BoardState.{BoardState, StandsFor, as_wanted, is_owner_live, is_undone_task, undone_tasks, due_of}
use Rattle.table_model.specs.Legal.{IsLawful}
use Rattle.table_model.specs.Reply.{caller}
use Rattle.table_model.specs.Results.{results, result_by, taken, collected_by, wanted_by, failure}
use Rattle.table_model.specs.Rib.{rib}
use Rattle.table_model.specs.Sessions.{live, is_live, params_of, wants_results}
use Rattle.table_model.specs.Table.{lookup}
use Rattle.table_model.proofs.Lawful.{answered_live, is_live_below, is_refused}
use Rattle.table_model.proofs.Tests.{and_left, and_right, and_both, all_weaken}
use Rattle.table_laws.proofs.Updates.{tracked_at}
use Rattle.fib_board.specs.Follows.{QuietFollows}
use Rattle.fib_board.proofs.Standing.{and_false, with_wants, undone_stay, due_stays, fib_by_update}

-- the owner was a session of the first so many events
abbrev is_owner_low : ℕ → Option ℕ → Bool
is_owner_low n None = true
is_owner_low n (Some owner) = nat_lt owner n

abbrev is_low : ℕ → Task → Bool
is_low n task = is_owner_low n task.owner

owner_lower : (n : ℕ) (owner : Option ℕ) → is_owner_low n owner ≡ true → is_owner_low (suc n) owner ≡ true
owner_lower n None low = refl
owner_lower n (Some owner) low = grind (arith, nat_tests)

done_answered : (r : Reply) → is_done r ≡ true → is_refused r ≡ false
done_answered reply.Stopped h = cc
done_answered reply.Gone h = cc
done_answered _ h = refl

purge_low : (n position index : ℕ) (gone : List Entry) → list_all (is_low n) (purge_tasks position index gone) ≡ true
purge_low n position index [] = refl
purge_low n position index (entry ∷ gone) = purge_low n position (suc index) gone

module _ (config : Config) (e : Event) (past : List Event) (lawful : IsLawful config (e ∷ past)) where
  low_operate : (session : ℕ) (operation : Operation) → session < length past → (w : Option Work)
      → list_all (is_low (suc (length past))) (elim w [
        | None ↦ []
        | Some work ↦ record {
          job = record { number = record { position = length past; index = 0 }; work = work };
          id = operation.id;
          owner = Some session;
          wants = wants_results (params_of past session);
          before = refs_before (lookup (work_key work) (rib past));
        } ∷ []
      ]) ≡ true
  low_operate session operation low None = refl
  low_operate session operation low (Some work) = and_both (nat_lt session (suc (length past))) true (grind (arith, nat_tests)) refl

  low_command : (command : Command) → e.command ≡ command → is_done e.reply ≡ true → list_all (is_low (suc (length past))) (operate_tasks past command) ≡ true
  low_command (Operate session operation now) is done =
      low_operate session operation (is_live_below past session (answered_live config past e.command session (ap caller is) (ap is_refused (sym lawful.0) ∙ done_answered e.reply done))) (work_of operation.ask)
  low_command _ is done = refl

  low_made : (a b : Bool) → is_done e.reply ≡ a → list_all (is_low (suc (length past))) (cond a (operate_tasks past e.command) (cond b (purge_tasks (length past) 0 (purge_order (rib past) (removed (rib past) (rib (e ∷ past))))) [])) ≡ true
  low_made true b done = low_command e.command refl done
  low_made false true other = purge_low (suc (length past)) (length past) 0 (purge_order (rib past) (removed (rib past) (rib (e ∷ past))))
  low_made false false other = refl

-- each owner was a session before
all_low : (config : Config) (past : List Event) → IsLawful config past → list_all (is_low (length past)) (tasks past) ≡ true
unfolding tasks
all_low config [] lawful = refl
all_low config (e ∷ past) lawful =
    list_all-append (is_low (suc (length past))) (tasks past) (tasks_by e past)
    ∙ and_both (list_all (is_low (suc (length past))) (tasks past)) (list_all (is_low (suc (length past))) (tasks_by e past))
    (all_weaken (is_low (length past)) (is_low (suc (length past))) (tasks past) (λ task h. owner_lower (length past) task.owner h) (all_low config past lawful.1))
    (low_made config e past lawful (is_done e.reply) (is_flushed e.reply || is_left e.reply) refl)

-- so a session to come has no result

no_wish : (n session : ℕ) (task : Task) → n ≤ session → is_low n task ≡ true → wanted_by session task ≡ false
no_wish n session task high low = by_owner task.owner low
  where
    by_owner : (owner : Option ℕ) → is_owner_low n owner ≡ true → task.wants && elim owner [ None ↦ false | Some other ↦ other == session ] ≡ false
    by_owner None h = and_false task.wants
    by_owner (Some other) h = let far : (other == session) ≡ false = grind (arith, nat_tests) in rw far (and_false task.wants)

passes_found : (p q : Task → Bool) (ts : List Task) (t : Task) → list_all p ts ≡ true → find q ts ≡ Some t → p t ≡ true
passes_found p q [] t all is = cc
passes_found p q (x ∷ ts) t all is = by_test (q x) (passes_found p q ts t (and_right (p x) (list_all p ts) all)) is
  where
    by_test : (b : Bool) → (find q ts ≡ Some t → p t ≡ true) → cond b (Some x) (find q ts) ≡ Some t → p t ≡ true
    by_test true further k = let one : x ≡ t = cc in rw (← one) (and_left (p x) (list_all p ts) all)
    by_test false further k = further k

none_told : (n session : ℕ) (ts : List Task) → n ≤ session → list_all (is_low n) ts ≡ true → (turn : Option JobUpdate) → result_by session ts turn ≡ None
none_told n session ts high low None = refl
none_told n session ts high low (Some turn) = by_undone (is_undone turn.outcome)
  where
    told : Task → FibResult
    told task = record { id = task.id; failed = failure task turn.outcome; now = turn.now }

    by_found : (o : Option Task) → find (λ task. number_eq turn.number task.job.number) ts ≡ o → option_and_then (λ task. cond (wanted_by session task) (Some (told task)) None) o ≡ None
    by_found None is = refl
    by_found (Some task) is = rw (no_wish n session task high (passes_found (is_low n) (λ other. number_eq turn.number other.job.number) ts task low is)) refl

    by_undone : (b : Bool) → cond b None (option_and_then (λ task. cond (wanted_by session task) (Some (told task)) None) (find (λ task. number_eq turn.number task.job.number) ts)) ≡ None
    by_undone true = refl
    by_undone false = by_found (find (λ task. number_eq turn.number task.job.number) ts) refl

none_yet : (config : Config) (past : List Event) (session : ℕ) → IsLawful config past → length past ≤ session → results past session ≡ []
unfolding results
none_yet config [] session lawful high = refl
none_yet config (e ∷ past) session lawful high =
    rw (none_yet config past session lawful.1 (omega arith), none_told (length past) session (tasks past) (omega arith) (all_low config past lawful.1) (update_of e)) refl

or_false : (b : Bool) → b || (false || false) ≡ b
or_false true = refl
or_false false = refl

module _ (config : Config) (e : Event) (past : List Event) (ledger : BoardState) (lawful : IsLawful config (e ∷ past)) (none : update_of e ≡ None) (none_made : tasks_by e past ≡ [])
    (stays : is_left e.reply ≡ false) (untaken : (session : ℕ) → collected_by session e ≡ 0) (stands : StandsFor ledger past) where
  alive_low : (session : ℕ) → session < length past → is_live (e ∷ past) session ≡ is_live past session
  unfolding live
  alive_low session low = rw stays (by_began (is_began e.reply))
    where
      by_began : (b : Bool) → list_any (λ other. other == session) (cond b (live past ++ length past ∷ []) (live past)) ≡ list_any (λ other. other == session) (live past)
      by_began true =
          let far : (length past == session) ≡ false = grind (arith, nat_tests) in
          list_any-append (λ other. other == session) (live past) (length past ∷ []) ∙ rw far (or_false (list_any (λ other. other == session) (live past)))
      by_began false = refl

  owner_same : (owner : Option ℕ) → is_owner_low (length past) owner ≡ true → is_owner_live (e ∷ past) owner ≡ is_owner_live past owner
  owner_same None low = refl
  owner_same (Some owner) low = alive_low owner (grind (arith, nat_tests))

  wanted_same : (tracked : TrackedTask) → is_low (length past) tracked.task ≡ true → as_wanted (e ∷ past) tracked ≡ as_wanted past tracked
  unfolding as_wanted
  wanted_same tracked low = ap (λ b. with_wants tracked (tracked.task.wants && b)) (owner_same tracked.task.owner low)

  all_same : (ts : List Task) → list_all (is_low (length past)) ts ≡ true → map (as_wanted (e ∷ past)) (filter is_undone_task (map (tracked_at past) ts)) ≡ map (as_wanted past) (filter is_undone_task (map (tracked_at past) ts))
  all_same [] low = refl
  all_same (t ∷ ts) low = by_kept (is_undone_task (tracked_at past t)) (all_same ts (and_right (is_low (length past) t) (list_all (is_low (length past)) ts) low))
    where
      here : as_wanted (e ∷ past) (tracked_at past t) ≡ as_wanted past (tracked_at past t)
      here = wanted_same (tracked_at past t) (and_left (is_low (length past) t) (list_all (is_low (length past)) ts) low)

      by_kept : (b : Bool) → map (as_wanted (e ∷ past)) (filter is_undone_task (map (tracked_at past) ts)) ≡ map (as_wanted past) (filter is_undone_task (map (tracked_at past) ts))
          → map (as_wanted (e ∷ past)) (cond b (tracked_at past t ∷ filter is_undone_task (map (tracked_at past) ts)) (filter is_undone_task (map (tracked_at past) ts))) ≡ map (as_wanted past) (cond b (tracked_at past t ∷ filter is_undone_task (map (tracked_at past) ts)) (filter is_undone_task (map (tracked_at past) ts)))
      by_kept true rest = rw (here, rest) refl
      by_kept false rest = rest

  undone_same : map (as_wanted past) (undone_tasks past) ≡ map (as_wanted (e ∷ past)) (undone_tasks (e ∷ past))
  unfolding undone_tasks tracked_tasks
  undone_same = sym (all_same (tasks past) (all_low config past lawful.1)) ∙ ap (map (as_wanted (e ∷ past))) (sym (undone_stay e past none_made none))

  drop_none : (n : ℕ) → drop {A = FibResult} n [] ≡ []
  drop_none zero = refl
  drop_none (suc n) = refl

  nothing_due : (h : List Event) (session : ℕ) → results h session ≡ [] → due_of h session ≡ []
  unfolding due_of
  nothing_due h session nothing = rw nothing (by_live (is_live h session))
    where
      by_live : (b : Bool) → cond b (drop {A = FibResult} (taken h session) []) [] ≡ []
      by_live true = drop_none (taken h session)
      by_live false = refl

  results_same : (session : ℕ) → results (e ∷ past) session ≡ results past session
  unfolding results
  results_same session = rw none (append-nil (results past session))

  due_same : (session : ℕ) → due_of past session ≡ due_of (e ∷ past) session
  due_same session = by_low (nat_lt session (length past)) refl
    where
      by_low : (b : Bool) → nat_lt session (length past) ≡ b → due_of past session ≡ due_of (e ∷ past) session
      by_low true low = sym (due_stays config e past lawful.1 session (alive_low session (grind (arith, nat_tests))) (untaken session) (ap (result_by session (tasks past)) none))
      by_low false high =
          let nothing = none_yet config past session lawful.1 (grind (arith, nat_tests)) in
          nothing_due past session nothing ∙ sym (nothing_due (e ∷ past) session (results_same session ∙ nothing))

  pub quiet_stands : StandsFor ledger (e ∷ past)
  quiet_stands = record {
    undone = stands.undone ∙ undone_same;
    fib = stands.fib ∙ sym (fib_by_update config e past lawful None none);
    due = λ session. stands.due session ∙ due_same session;
  }

pub quiet_follows : (config : Config) → QuietFollows config
quiet_follows config past ledger e lawful none none_made stays untaken stands = quiet_stands config e past ledger lawful none none_made stays untaken stands
