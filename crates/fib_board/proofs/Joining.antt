-- What a call leaves stands for the history with its event: a job that is added, and a session that leaves.
use Rattle.std.proofs.Common.{◌≡◌, ℕ, suc, ℤ, ◌+◌, Bool, true, false, List, [], ◌∷◌, ◌++◌, Option, Some, None, length, map, drop, refl, sym, ap, ◌∙◌, arith}
use Rattle.std.specs.Prelude.{◌&&◌, ◌||◌, ◌==◌, cond, filter, not}
use Rattle.std.specs.List.{list_any, list_all}
use Rattle.std.proofs.lemmas.Bool.{eqb-true}
use Rattle.std.proofs.lemmas.Bool.Decides.{nat_tests}
use Rattle.std.proofs.lemmas.List.{append-nil, append_assoc, map-append}
use Rattle.std.proofs.lemmas.List.Elements.{filter-append}
use Rattle.std.proofs.lemmas.List.Folds.{list_any-append}
use Rattle.aft_entries.specs.declared.entry.Entry.{Entry}
use Rattle.aft_entries.specs.Order.{key_eq}
use Rattle.aft_entries.proofs.OrderLemmas.{key_eq_refl}
use Rattle.table_model.specs.declared.command.Command.TheVariants.{Operate, Leave, Flush}
use Rattle.table_model.specs.declared.command.Config.{Config}
use Rattle.table_model.specs.declared.command.FlushBy.{FlushBy}
use Rattle.table_model.specs.declared.command.Operation.{Operation}
use Rattle.table_model.specs.declared.command.Which.{Which}
use Rattle.table_model.specs.declared.job.NewJob.{NewJob}
use Rattle.table_model.specs.declared.job.Work.{Work}
use Rattle.table_model.specs.declared.reply.Reply.TheVariants as reply
use Rattle.table_model.specs.Event.{Event}
use Rattle.table_model.specs.Jobs.{Task, TrackedTask, Waiting, tasks, tasks_by, update_of, tracked_tasks, purge_task, operate_tasks, work_of, work_key, refs_before, removed, purge_tasks, purge_order, outcome_of}
use Rattle.table_model.specs.Laws.{event}
use Rattle.table_model.specs.BoardState.{BoardState, StandsFor, as_wanted, is_owner_live, is_undone_task, undone_tasks, due_for, due_of}
use Rattle.table_model.specs.Legal.{IsLawful}
use Rattle.table_model.specs.Results.{results, taken}
use Rattle.table_model.specs.Rib.{rib, purges}
use Rattle.table_model.specs.Sessions.{live, is_live, params_of, wants_results}
use Rattle.table_model.specs.Table.{lookup, has}
use Rattle.table_model.proofs.Tests.{and_left, and_right, and_both, filter_none}
use Rattle.table_model.proofs.Undone.{any_filter_in}
use Rattle.table_laws.proofs.Acknowledged.{where_due}
use Rattle.table_laws.proofs.Ascending.{is_from, made_of}
use Rattle.table_laws.proofs.InTurn.{wait_ahead, from_le}
use Rattle.table_laws.proofs.Reports.{fib_next}
use Rattle.table_laws.proofs.Updates.{tracked_at}
use Rattle.fib_board.specs.Follows.{BoardStateIs, AfterAdd, AddsFollow, ForgetsFollow, LeavesFollow, FlushesFollow, made_by}
use Rattle.fib_board.specs.Steps.{waiting, unwanted, due_after_forget}
use Rattle.fib_board.proofs.Finding.{any_found}
use Rattle.fib_board.proofs.Standing.{and_false, with_wants, with_outcome, same_wanted, same_alive, tracked_stay, due_stays}

and_true : (b : Bool) → b && true ≡ b
and_true true = refl
and_true false = refl

-- The jobs that an event makes wait behind the others.

abbrev waits : Task → TrackedTask
waits task = record { task = task; outcome = Waiting }

kept_waits : (ts : List Task) → filter is_undone_task (map waits ts) ≡ map waits ts
kept_waits [] = refl
kept_waits (t ∷ ts) = ap (λ l. waits t ∷ l) (kept_waits ts)

module _ (config : Config) (e : Event) (past : List Event) (lawful : IsLawful config (e ∷ past)) (none : update_of e ≡ None) where
  waiting_tasks : (ts : List Task) → list_all (is_from (length past) 0) ts ≡ true → map (tracked_at past) ts ≡ map waits ts
  waiting_tasks [] from = refl
  waiting_tasks (t ∷ ts) from =
      let here : outcome_of past t.job.number ≡ Waiting = wait_ahead config past lawful.1 t.job.number (from_le (length past) t (and_left (is_from (length past) 0 t) (list_all (is_from (length past) 0) ts) from)) in
      rw (waiting_tasks ts (and_right (is_from (length past) 0 t) (list_all (is_from (length past) 0) ts) from)) (ap (λ o. with_outcome t o ∷ map waits ts) here)

  tracked_joined : tracked_tasks (e ∷ past) ≡ map (tracked_at past) (tasks past) ++ map waits (tasks_by e past)
  unfolding tracked_tasks tasks
  tracked_joined =
      tracked_stay e past none (tasks past ++ tasks_by e past)
      ∙ map-append (tracked_at past) (tasks past) (tasks_by e past)
      ∙ ap (λ l. map (tracked_at past) (tasks past) ++ l) (waiting_tasks (tasks_by e past) (made_of e past).here)

  undone_joined : undone_tasks (e ∷ past) ≡ undone_tasks past ++ map waits (tasks_by e past)
  unfolding undone_tasks tracked_tasks
  undone_joined =
      ap (filter is_undone_task) tracked_joined
      ∙ filter-append is_undone_task (map (tracked_at past) (tasks past)) (map waits (tasks_by e past))
      ∙ ap (λ l. filter is_undone_task (map (tracked_at past) (tasks past)) ++ l) (kept_waits (tasks_by e past))

  -- the slots of both, as they are wanted
  wanted_joined : (h : List Event) (joined : List TrackedTask) → map (as_wanted h) (map waits (tasks_by e past)) ≡ joined → map (as_wanted h) (undone_tasks past) ++ joined ≡ map (as_wanted h) (undone_tasks (e ∷ past))
  wanted_joined h joined is =
      ap (λ l. map (as_wanted h) (undone_tasks past) ++ l) (sym is)
      ∙ sym (map-append (as_wanted h) (undone_tasks past) (map waits (tasks_by e past)))
      ∙ ap (map (as_wanted h)) (sym undone_joined)

-- An accepted operation adds its job.

owned_by : (past : List Event) (session : ℕ) (operation : Operation) (now : ℤ) (task : Task) → operate_tasks past (Operate session operation now) ≡ task ∷ [] → task.owner ≡ Some session
owned_by past session operation now task = by_work (work_of operation.ask)
  where
    task_of : Work → Task
    task_of work = record {
      job = record { number = record { position = length past; index = 0 }; work = work };
      id = operation.id;
      owner = Some session;
      wants = wants_results (params_of past session);
      before = refs_before (lookup (work_key work) (rib past));
    }

    by_work : (w : Option Work) → elim w [ None ↦ [] | Some work ↦ task_of work ∷ [] ] ≡ task ∷ [] → task.owner ≡ Some session
    by_work None is = cc
    by_work (Some work) is = let one : task_of work ≡ task = cc in sym (ap (λ (t : Task). t.owner) one)

module _ (config : Config) (past : List Event) (before after : BoardState) (session : ℕ) (operation : Operation) (now : ℤ) (made : NewJob)
    (lawful : IsLawful config (event (Operate session operation now) reply.RibDone ∷ past)) (one_made : operate_tasks past (Operate session operation now) ≡ (waiting made).task ∷ [])
    (stands : StandsFor before past) (leaves : AfterAdd made before after) where
  abbrev add : Event
  add = event (Operate session operation now) reply.RibDone

  alive : is_live past session ≡ true
  alive = ((where_due config past session operation now).0 (sym lawful.0)).1

  same_live : live (add ∷ past) ≡ live past
  unfolding live
  same_live = refl

  still_wanted : as_wanted past (waiting made) ≡ waiting made
  unfolding as_wanted
  still_wanted = ap (with_wants (waiting made)) (ap (λ o. made.wants && is_owner_live past o) (owned_by past session operation now (waiting made).task one_made) ∙ ap (λ b. made.wants && b) alive ∙ and_true made.wants)

  pub add_stands : StandsFor after (add ∷ past)
  add_stands = record {
    undone = leaves.undone
        ∙ ap (λ l. l ++ waiting made ∷ []) stands.undone
        ∙ wanted_joined config add past lawful refl past (waiting made ∷ []) (ap (λ ts. map (as_wanted past) (map waits ts)) one_made ∙ ap (λ s. s ∷ []) still_wanted)
        ∙ sym (same_wanted (add ∷ past) past same_live (undone_tasks (add ∷ past)));
    fib = leaves.fib ∙ stands.fib ∙ sym (fib_next config add past lawful);
    due = λ other. leaves.due other ∙ stands.due other ∙ sym (due_stays config add past lawful.1 other (same_alive (add ∷ past) past same_live other) refl refl);
  }

pub adds_follow : (config : Config) → AddsFollow config
adds_follow config past before after session operation now made lawful one_made stands leaves = add_stands config past before after session operation now made lawful one_made stands leaves

-- Removals are nobody's.

unwished : (h : List Event) (position index : ℕ) (gone : List Entry) → map (as_wanted h) (map waits (purge_tasks position index gone)) ≡ map waits (purge_tasks position index gone)
unfolding as_wanted
unwished h position index [] = refl
unwished h position index (entry ∷ gone) = ap (λ l. waits (purge_task position index entry) ∷ l) (unwished h position (suc index) gone)

module _ (config : Config) (past : List Event) (before after : BoardState) (by : FlushBy) (which : Which) (now : ℤ) (remain : Bool)
    (lawful : IsLawful config (event (Flush by which now) (reply.Flushed remain) ∷ past)) (stands : StandsFor before past)
    (leaves : BoardStateIs after before.workers (before.undone ++ made_by (event (Flush by which now) (reply.Flushed remain)) past) before.fib (due_for before.due)) where
  abbrev flush : Event
  flush = event (Flush by which now) (reply.Flushed remain)

  live_stays : live (flush ∷ past) ≡ live past
  unfolding live
  live_stays = refl

  pub flush_stands : StandsFor after (flush ∷ past)
  flush_stands = record {
    undone = leaves.undone
        ∙ ap (λ l. l ++ made_by flush past) stands.undone
        ∙ wanted_joined config flush past lawful refl past (made_by flush past) (unwished past (length past) 0 _)
        ∙ sym (same_wanted (flush ∷ past) past live_stays (undone_tasks (flush ∷ past)));
    fib = leaves.fib ∙ stands.fib ∙ sym (fib_next config flush past lawful);
    due = λ other. leaves.due other ∙ stands.due other ∙ sym (due_stays config flush past lawful.1 other (same_alive (flush ∷ past) past live_stays other) refl refl);
  }

pub flushes_follow : (config : Config) → FlushesFollow config
flushes_follow config past before after by which now remain lawful stands leaves = flush_stands config past before after by which now remain lawful stands leaves

-- A session leaves.

module _ (config : Config) (past : List Event) (before after : BoardState) (session : ℕ)
    (lawful : IsLawful config (event (Leave session) reply.Left ∷ past)) (stands : StandsFor before past)
    (leaves : BoardStateIs after before.workers (map (unwanted session) before.undone ++ made_by (event (Leave session) reply.Left) past) before.fib (λ other. due_after_forget session other (due_for before.due other))) where
  abbrev leave : Event
  leave = event (Leave session) reply.Left

  flipped : (a b : ℕ) → (a == b) ≡ (b == a)
  flipped a b = grind (arith, nat_tests)

  none_left : (xs : List ℕ) → list_any (λ other. other == session) (filter (λ other. not (other == session)) xs) ≡ false
  none_left [] = refl
  none_left (x ∷ xs) = by_test (x == session) refl (none_left xs)
    where
      by_test : (b : Bool) → (x == session) ≡ b → list_any (λ other. other == session) (filter (λ other. not (other == session)) xs) ≡ false
          → list_any (λ other. other == session) (cond (not b) (x ∷ filter (λ other. not (other == session)) xs) (filter (λ other. not (other == session)) xs)) ≡ false
      by_test true same rest = rest
      by_test false far rest = rw far rest

  alive_after : (owner : ℕ) → is_live (leave ∷ past) owner ≡ is_live past owner && not (owner == session)
  unfolding live
  alive_after owner = by_test (owner == session) refl
    where
      kept : (owner == session) ≡ false → (x : ℕ) → (x == owner) ≡ true → not (x == session) ≡ true
      kept far x same = rw (eqb-true x owner same, far) refl

      by_test : (b : Bool) → (owner == session) ≡ b → list_any (λ other. other == owner) (filter (λ other. not (other == session)) (live past)) ≡ list_any (λ other. other == owner) (live past) && not b
      by_test true same = rw (eqb-true owner session same, and_false (list_any (λ other. other == session) (live past))) (none_left (live past))
      by_test false far = any_filter_in (λ other. other == owner) (λ other. not (other == session)) (live past) (kept far) ∙ sym (and_true _)

  wish_after : (wants : Bool) (owner : Option ℕ)
      → wants && is_owner_live (leave ∷ past) owner ≡ wants && is_owner_live past owner && not (wants && is_owner_live past owner && elim owner [ None ↦ false | Some other ↦ other == session ])
  wish_after true None = refl
  wish_after false None = refl
  wish_after wants (Some owner) = ap (λ b. wants && b) (alive_after owner) ∙ table wants (is_live past owner) (owner == session)
    where
      table : (a b c : Bool) → a && (b && not c) ≡ a && b && not (a && b && c)
      table true true true = refl
      table true true false = refl
      table true false c = refl
      table false b c = refl

  wanted_after : (tracked : TrackedTask) → unwanted session (as_wanted past tracked) ≡ as_wanted (leave ∷ past) tracked
  unfolding as_wanted
  wanted_after tracked = ap (with_wants tracked) (sym (wish_after tracked.task.wants tracked.task.owner))

  all_wanted : (xs : List TrackedTask) → map (unwanted session) (map (as_wanted past) xs) ≡ map (as_wanted (leave ∷ past)) xs
  all_wanted [] = refl
  all_wanted (x ∷ xs) = rw (wanted_after x, all_wanted xs) refl

  due_left : (other : ℕ) → due_of (leave ∷ past) other ≡ due_after_forget session other (due_of past other)
  unfolding due_of taken results
  due_left other = rw (alive_after other, flipped other session) (by_session (session == other) (is_live past other))
    where
      same_rest : drop (taken past other + 0) (results past other ++ []) ≡ drop (taken past other) (results past other)
      same_rest = let whole : taken past other + 0 ≡ taken past other = omega arith in rw whole (ap (drop (taken past other)) (append-nil (results past other)))

      by_session : (b a : Bool) → cond (a && not b) (drop (taken past other + 0) (results past other ++ [])) [] ≡ cond b [] (cond a (drop (taken past other) (results past other)) [])
      by_session true true = refl
      by_session true false = refl
      by_session false true = same_rest
      by_session false false = refl

  pub leave_stands : StandsFor after (leave ∷ past)
  leave_stands = record {
    undone = leaves.undone
        ∙ ap (λ l. map (unwanted session) l ++ made_by leave past) stands.undone
        ∙ ap (λ l. l ++ made_by leave past) (all_wanted (undone_tasks past))
        ∙ wanted_joined config leave past lawful refl (leave ∷ past) (made_by leave past) (unwished (leave ∷ past) (length past) 0 _);
    fib = leaves.fib ∙ stands.fib ∙ sym (fib_next config leave past lawful);
    due = λ other. leaves.due other ∙ ap (due_after_forget session other) (stands.due other) ∙ sym (due_left other);
  }

pub leaves_follow : (config : Config) → LeavesFollow config
leaves_follow config past before after session lawful stands leaves = leave_stands config past before after session lawful stands leaves

-- No entry goes with it.

has_it : (x : Entry) (xs ys : List Entry) → has (xs ++ x ∷ ys) x.key ≡ true
unfolding lookup
has_it x xs ys =
    sym (any_found (λ e. key_eq x.key e.key) (xs ++ x ∷ ys))
    ∙ list_any-append (λ e. key_eq x.key e.key) xs (x ∷ ys)
    ∙ rw (key_eq_refl x.key) (or_true (list_any (λ e. key_eq x.key e.key) xs))
  where
    or_true : (b : Bool) → b || true ≡ true
    or_true true = refl
    or_true false = refl

not_not : (b : Bool) → b ≡ true → not (not b) ≡ true
not_not true h = refl
not_not false h = cc

all_there : (seen rest : List Entry) → list_all (λ e. not (not (has (seen ++ rest) e.key))) rest ≡ true
all_there seen [] = refl
all_there seen (x ∷ rest) =
    and_both (not (not (has (seen ++ x ∷ rest) x.key))) (list_all (λ e. not (not (has (seen ++ x ∷ rest) e.key))) rest)
    (not_not _ (has_it x seen rest))
    (ap (λ table. list_all (λ e. not (not (has table e.key))) rest) (sym (append_assoc seen (x ∷ []) rest)) ∙ all_there (seen ++ x ∷ []) rest)

none_removed : (table : List Entry) → removed table table ≡ []
none_removed table = filter_none (λ e. not (has table e.key)) table (all_there [] table)

module _ (past : List Event) (session : ℕ) (keeps : purges past session ≡ false) where
  same_rib : rib (event (Leave session) reply.Left ∷ past) ≡ rib past
  unfolding rib
  same_rib = rw keeps refl

  none_made : made_by (event (Leave session) reply.Left) past ≡ []
  none_made = ap (λ gone. map waits (purge_tasks (length past) 0 (purge_order (rib past) gone))) (ap (removed (rib past)) same_rib ∙ none_removed (rib past))

pub forgets_follow : (config : Config) → ForgetsFollow config
forgets_follow config past before after session lawful keeps stands leaves =
    leaves_follow config past before after session lawful stands (record {
      workers = leaves.workers;
      undone = leaves.undone ∙ sym (ap (λ l. map (unwanted session) before.undone ++ l) (none_made past session keeps) ∙ append-nil (map (unwanted session) before.undone));
      fib = leaves.fib;
      due = leaves.due;
    })
