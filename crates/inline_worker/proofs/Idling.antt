-- Turns one after another.
use Rattle.std.proofs.Common.{◌≡◌, ℕ, zero, suc, ℤ, ◌+◌, ◌-◌, ◌^◌, ◌<◌, ◌≤◌, Bool, true, false, List, [], ◌∷◌, ◌++◌, length, Option, refl, sym, ap, subst, ◌∙◌, arith, append_assoc, append-nil}
use Rattle.std.specs.Prelude.{cond, filter}
use Rattle.std.proofs.lemmas.List.{length-map}
use Rattle.aft_entries.specs.declared.entry.Entry.{Entry}
use Rattle.fib_worker.specs.Shards.{HoldsShard}
use Rattle.table_laws.specs.Succeeds.{IdleIsDone}
use Rattle.table_model.specs.declared.command.Command.TheVariants.{Take}
use Rattle.table_model.specs.declared.command.Config.{Config}
use Rattle.table_model.specs.declared.job.Verdict.{Verdict}
use Rattle.table_model.specs.declared.job.Verdict.TheVariants.{Programmed, DeviceFault}
use Rattle.table_model.specs.BoardState.{as_wanted, is_undone_task, undone_tasks}
use Rattle.table_model.specs.Event.{Event}
use Rattle.table_model.specs.Jobs.{TrackedTask, fib, is_undone, tracked_tasks}
use Rattle.table_model.specs.Reply.{reply_to}
use Rattle.rib_core.specs.Core.{Core}
use Rattle.rib_core.specs.Stands.{Keeps}
use Rattle.inline_worker.specs.Complete.{IsAtRest}
use Rattle.inline_worker.specs.CoreAt.{CoreAt}
use Rattle.inline_worker.specs.Idle.{WorksUntilIdle}
use Rattle.inline_worker.specs.Turns.{behind, count_outcomes, failures, turn_events, turns, work_events, asks_again, reports, undone}
use Rattle.inline_worker.specs.Works.{WorksOn, DeviceTold}
use Rattle.inline_worker.proofs.Working.{Turned, turned, behind_both}

failures_more : (xs ys : List Verdict) → failures (xs ++ ys) ≡ failures xs + failures ys
failures_more [] ys = omega arith
failures_more (Programmed ∷ xs) ys = failures_more xs ys
failures_more (DeviceFault ∷ xs) ys = let rest = failures_more xs ys in omega arith

-- the undone jobs that a board keeps are as many as the history has
length_filtered : (xs : List TrackedTask) → length (filter is_undone_task xs) ≡ count_outcomes is_undone xs
length_filtered [] = refl
length_filtered (x ∷ xs) = by_test (is_undone x.outcome) (length_filtered xs)
  where
    by_test : (b : Bool) → length (filter is_undone_task xs) ≡ count_outcomes is_undone xs → length (cond b (x ∷ filter is_undone_task xs) (filter is_undone_task xs)) ≡ cond b (suc (count_outcomes is_undone xs)) (count_outcomes is_undone xs)
    by_test true same = ap suc same
    by_test false same = same

pub board_undone : (config : Config) (core : Core) (past : List Event) → CoreAt config core past → length core.board.undone ≡ undone past
unfolding undone undone_tasks
board_undone config core past stood =
    let keeps : Keeps core past = subst (Keeps core) stood.all stood.stands.keeps in
    ap (λ (l : List TrackedTask). length l) keeps.board.undone ∙ length-map (filter is_undone_task (tracked_tasks past)) (as_wanted past) ∙ length_filtered (tracked_tasks past)

-- the turns so far
pub record WorksSoFar (config : Config) (now : ℤ) (past : List Event) (said : List Verdict) (core : Core) (device : DeviceTold) : Type 0 where
  pub after : List Event
  pub stood : CoreAt config core after
  pub rest : IsAtRest config after
  pub more : List Verdict
  pub counted : length (said ++ more) ≡ reports after
  pub leads : (later : List Verdict) → behind past (work_events config ((said ++ more) ++ later) now past) ≡ behind after (work_events config ((said ++ more) ++ later) now after)
  pub later : device.faults_before ≤ device.faults_after
  pub failed : device.faults_after < 2 ^ 64 - 1 → failures more + device.faults_before ≤ device.faults_after
  pub holds : HoldsShard 1 0 device.held_before (fib past) → HoldsShard 1 0 device.held_after (fib after)

pub works_first : (config : Config) (now : ℤ) (past : List Event) (said : List Verdict) (core : Core) (faults : ℕ) (held : Option (List Entry)) → CoreAt config core past → IsAtRest config past → length said ≡ reports past
    → WorksSoFar config now past said core (record { faults_before = faults; faults_after = faults; held_before = held; held_after = held })
works_first config now past said core faults held stood rest counted = record {
  after = past;
  stood = stood;
  rest = rest;
  more = [];
  counted = ap (λ (l : List Verdict). length l) (append-nil said) ∙ counted;
  leads = λ later. refl;
  later = omega arith;
  failed = λ few. omega arith;
  holds = λ h. h;
}

module _ (config : Config) (one_worker : config.workers ≡ 1) (idle : IdleIsDone config) (now : ℤ) (past : List Event) (said : List Verdict) (before core : Core) (device : DeviceTold) (faults : ℕ) (held : Option (List Entry))
    (so_far : WorksSoFar config now past said before device)
    (turn : WorksOn config (λ heard. turn_events config heard now so_far.after) so_far.after (said ++ so_far.more) core (record { faults_before = device.faults_after; faults_after = faults; held_before = device.held_after; held_after = held })) where
  abbrev told : DeviceTold
  told = record { faults_before = device.faults_before; faults_after = faults; held_before = device.held_before; held_after = held }

  abbrev heard : List Verdict → List Verdict
  heard later = ((said ++ so_far.more) ++ turn.more) ++ later

  -- the same answers
  as_said : (later : List Verdict) → (said ++ (so_far.more ++ turn.more)) ++ later ≡ heard later
  as_said later = ap (λ (l : List Verdict). l ++ later) (sym (append_assoc said so_far.more turn.more))

  leads_here : (later : List Verdict) → behind past (work_events config (heard later) now past) ≡ behind so_far.after (work_events config (heard later) now so_far.after)
  leads_here later = subst (λ (l : List Verdict). behind past (work_events config l now past) ≡ behind so_far.after (work_events config l now so_far.after)) (sym (append_assoc (said ++ so_far.more) turn.more later)) (so_far.leads (turn.more ++ later))

  this_turn : (later : List Verdict) → Turned config (heard later) now (reply_to config so_far.after (Take 0 now)) so_far.after (behind so_far.after (turn_events config (heard later) now so_far.after))
  this_turn later = turned config (heard later) now so_far.after so_far.rest one_worker idle

  now_rest : IsAtRest config turn.after
  now_rest = subst (IsAtRest config) (turn.events_are []) (this_turn []).rest

  counted_now : length (said ++ (so_far.more ++ turn.more)) ≡ reports turn.after
  counted_now = ap (λ (l : List Verdict). length l) (sym (append_assoc said so_far.more turn.more)) ∙ turn.counted

  later_now : device.faults_before ≤ faults
  later_now = let a = so_far.later in let b = turn.later in omega arith

  failed_now : faults < 2 ^ 64 - 1 → failures (so_far.more ++ turn.more) + device.faults_before ≤ faults
  failed_now few =
      let a = turn.failed few in
      let b = turn.later in
      let c = so_far.failed (omega (arith, b, few)) in
      let d = failures_more so_far.more turn.more in
      omega (arith, a, c, d)

  -- it is to ask again
  module _ (again : asks_again (reply_to config so_far.after (Take 0 now)) ≡ true) where
    fewer_now : suc (undone turn.after) ≡ undone so_far.after
    fewer_now = ap (λ (l : List Event). suc (undone l)) (sym (turn.events_are [])) ∙ (this_turn []).fewer again

    more_turns : (later : List Verdict) → behind so_far.after (work_events config (heard later) now so_far.after) ≡ behind turn.after (work_events config (heard later) now turn.after)
    more_turns later =
        let split : turns config (heard later) now (undone so_far.after) so_far.after ≡ turns config (heard later) now (suc (undone turn.after)) so_far.after = ap (λ n. turns config (heard later) now n so_far.after) (sym fewer_now) in
        let went : behind so_far.after (turn_events config (heard later) now so_far.after) ≡ turn.after = turn.events_are later in
        let rest : List Event = turns config (heard later) now (undone turn.after) (behind so_far.after (turn_events config (heard later) now so_far.after)) in
        ap (behind so_far.after) (split ∙ ap (λ b. turn_events config (heard later) now so_far.after ++ cond b rest []) again)
        ∙ behind_both so_far.after (turn_events config (heard later) now so_far.after) rest
        ∙ ap (λ (l : List Event). behind l (turns config (heard later) now (undone turn.after) l)) went

    pub works_more : WorksSoFar config now past said core told
    works_more = record {
      after = turn.after;
      stood = turn.stood;
      rest = now_rest;
      more = so_far.more ++ turn.more;
      counted = counted_now;
      leads = λ later. subst (λ (l : List Verdict). behind past (work_events config l now past) ≡ behind turn.after (work_events config l now turn.after)) (sym (as_said later)) (leads_here later ∙ more_turns later);
      later = later_now;
      failed = failed_now;
      holds = λ h. turn.holds (so_far.holds h);
    }

    pub fewer_undone : length core.board.undone < length before.board.undone
    fewer_undone =
        let a = board_undone config core turn.after turn.stood in
        let b = board_undone config before so_far.after so_far.stood in
        let c = fewer_now in
        omega (arith, a, b, c)

  -- it is not
  module _ (ends : asks_again (reply_to config so_far.after (Take 0 now)) ≡ false) where
    last_turn : (n : ℕ) (later : List Verdict) → behind so_far.after (turns config (heard later) now n so_far.after) ≡ turn.after
    last_turn zero later = turn.events_are later
    last_turn (suc n) later =
        let rest : List Event = turns config (heard later) now n (behind so_far.after (turn_events config (heard later) now so_far.after)) in
        ap (λ b. behind so_far.after (turn_events config (heard later) now so_far.after ++ cond b rest [])) ends
        ∙ ap (behind so_far.after) (append-nil (turn_events config (heard later) now so_far.after)) ∙ turn.events_are later

    pub works_all : WorksUntilIdle config now past said core told
    works_all = record {
      works = record {
        after = turn.after;
        stood = turn.stood;
        more = so_far.more ++ turn.more;
        counted = counted_now;
        events_are = λ later. subst (λ (l : List Verdict). behind past (work_events config l now past) ≡ turn.after) (sym (as_said later)) (leads_here later ∙ last_turn (undone so_far.after) later);
        later = later_now;
        failed = failed_now;
        holds = λ h. turn.holds (so_far.holds h);
      };
      rest = now_rest;
      done = ap undone (sym (turn.events_are [])) ∙ (this_turn []).done ends;
    }

-- a list of so many answers
pub some_said : (n : ℕ) → (said : List Verdict) × (length said ≡ n)
some_said zero = ([], refl)
some_said (suc n) = let rest = some_said n in (Programmed ∷ rest.0, ap suc rest.1)
