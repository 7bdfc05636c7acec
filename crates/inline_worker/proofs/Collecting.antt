-- A session collects until nothing is owed to it.
use Rattle.std.proofs.Common.{◌≡◌, ℕ, zero, suc, ◌+◌, ◌-◌, ◌<◌, ◌≤◌, Bool, true, false, List, [], ◌∷◌, ◌++◌, length, take, drop, count_by, cond, refl, sym, ap, subst, ◌∙◌, arith, append-nil}
use Rattle.std.specs.Prelude.{◌&&◌, ◌==◌, filter}
use Rattle.std.specs.List.{list_any}
use Rattle.std.proofs.lemmas.Bool.Decides.{nat_tests}
use Rattle.std.proofs.lemmas.List.{length-drop}
use Rattle.std.proofs.lemmas.List.Sums.{length-filter}
use Rattle.table_model.specs.declared.command.Command.TheVariants.{Collect}
use Rattle.table_model.specs.declared.command.Config.{Config}
use Rattle.table_model.specs.declared.reply.Reply.{Reply}
use Rattle.table_model.specs.declared.reply.Reply.TheVariants as reply
use Rattle.table_model.specs.declared.results.FibResult.{FibResult}
use Rattle.table_model.specs.Event.{Event}
use Rattle.table_model.specs.Jobs.{TrackedTask, is_undone, tasks, tracked_tasks}
use Rattle.table_model.specs.Laws.{OutstandingIsOwed}
use Rattle.table_model.specs.Legal.{IsLawful}
use Rattle.table_model.specs.Reply.{reply_to, is_halted}
use Rattle.table_model.specs.Results.{batch, is_awaited, outstanding, owed, results, taken, wanted_by}
use Rattle.table_model.specs.Sessions.{is_live, live}
use Rattle.inline_worker.specs.Complete.{CollectsAreComplete}
use Rattle.inline_worker.specs.Turns.{behind, collect_events, collects, count_outcomes, next_event, outstanding_in, undone}
use Rattle.inline_worker.proofs.Counting.{stays}
use Rattle.inline_worker.proofs.Working.{counted, counted_before}

-- ---- counts

some_taken : (l : List FibResult) → 1 ≤ length l → 1 ≤ length (take 256 l)
some_taken [] some = absurd (omega (arith, some))
some_taken (x ∷ l) some = let k : length (take 256 (x ∷ l)) ≡ suc (length (take 255 l)) = refl in omega (arith, k)

left_after : (total taken given n : ℕ) → (1 ≤ total - taken → 1 ≤ given) → total - taken ≤ suc n → total - (taken + given) ≤ n
left_after total taken given n some le = by_left (total - taken) refl some le
  where
    by_left : (left : ℕ) → total - taken ≡ left → (1 ≤ left → 1 ≤ given) → left ≤ suc n → total - (taken + given) ≤ n
    by_left zero is some le = omega (arith, is)
    by_left (suc left) is some le = let one = some (omega arith) in omega (arith, is, one, le)

and_none : (b : Bool) → b && false ≡ false
and_none true = refl
and_none false = refl

none_awaited : (session : ℕ) (xs : List TrackedTask) → count_outcomes is_undone xs ≡ 0 → length (filter (is_awaited session) xs) ≡ 0
none_awaited session [] none = refl
none_awaited session (x ∷ xs) none = by_test (is_undone x.outcome) refl none (none_awaited session xs)
  where
    by_test : (b : Bool) → is_undone x.outcome ≡ b → cond b (suc (count_outcomes is_undone xs)) (count_outcomes is_undone xs) ≡ 0 → (count_outcomes is_undone xs ≡ 0 → length (filter (is_awaited session) xs) ≡ 0) → length (filter (is_awaited session) (x ∷ xs)) ≡ 0
    by_test true is none rest = absurd (omega (arith, none))
    by_test false is none rest = ap (λ b. length (cond (wanted_by session x.task && b) (x ∷ filter (is_awaited session) xs) (filter (is_awaited session) xs))) is ∙ ap (λ b. length (cond b (x ∷ filter (is_awaited session) xs) (filter (is_awaited session) xs))) (and_none (wanted_by session x.task)) ∙ rest none

pub awaits_none : (past : List Event) → undone past ≡ 0 → count_by (is_awaited 0) (tracked_tasks past) ≡ 0
unfolding undone
awaits_none past none = sym (length-filter (is_awaited 0) (tracked_tasks past)) ∙ none_awaited 0 (tracked_tasks past) none

-- a Collect leaves one less, or none
pub fewer_owed : (past : List Event) (n : ℕ) → undone past ≡ 0 → owed past 0 ≤ suc n → outstanding past 0 ≤ n
unfolding owed outstanding batch
fewer_owed past n none le =
    let awaited = awaits_none past none in
    let total : ℕ = length (results past 0) in
    let rest : List FibResult = drop (taken past 0) (results past 0) in
    let left : length rest ≡ total - taken past 0 = length-drop (taken past 0) (results past 0) in
    let some : 1 ≤ total - taken past 0 → 1 ≤ length (take 256 rest) = λ one. some_taken rest (omega (arith, left, one)) in
    let then : total - (taken past 0 + length (take 256 rest)) ≤ n = left_after total (taken past 0) (length (take 256 rest)) n some (omega (arith, awaited, le)) in
    omega (arith, awaited, then)

pub none_owed : (past : List Event) → undone past ≡ 0 → owed past 0 ≤ 0 → outstanding past 0 ≡ 0
unfolding owed outstanding
none_owed past none le = let awaited = awaits_none past none in omega (arith, awaited, le)

-- ---- one Collect

pub record IsCollecting (config : Config) (past : List Event) : Type 0 where
  pub lawful : IsLawful config past
  pub runs : is_halted past ≡ false
  pub is_there : is_live past 0 ≡ true
  pub done : undone past ≡ 0

pub collect_is : (config : Config) (past : List Event) → is_halted past ≡ false → is_live past 0 ≡ true → reply_to config past (Collect 0) ≡ reply.Collected (batch past 0) (outstanding past 0)
unfolding reply_to
collect_is config past runs is_there = rw (runs, is_there) refl

module _ (config : Config) (law : OutstandingIsOwed config) (past : List Event) (now : IsCollecting config past) where
  abbrev pub collected : Event
  collected = record { command = Collect 0; reply = reply.Collected (batch past 0) (outstanding past 0) }

  pub event_is : next_event config past (Collect 0) ≡ collected
  event_is = ap (λ (r : Reply). record { command = Collect 0; reply = r }) (collect_is config past now.runs now.is_there)

  lawful_then : IsLawful config (collected ∷ past)
  lawful_then = (sym (collect_is config past now.runs now.is_there), now.lawful, refl)

  none_made : tasks (collected ∷ past) ≡ tasks past
  unfolding tasks
  none_made = append-nil (tasks past)

  undone_then : undone (collected ∷ past) ≡ 0
  unfolding undone
  undone_then = counted is_undone collected past none_made ∙ stays is_undone collected past (tasks past) refl ∙ sym (counted_before is_undone past) ∙ now.done

  runs_then : is_halted (collected ∷ past) ≡ false
  unfolding is_halted
  runs_then = now.runs

  there_then : is_live (collected ∷ past) 0 ≡ true
  unfolding live
  there_then = now.is_there

  pub collecting_then : IsCollecting config (collected ∷ past)
  collecting_then = record { lawful = lawful_then; runs = runs_then; is_there = there_then; done = undone_then }

  pub owed_then : owed (collected ∷ past) 0 ≡ outstanding past 0
  owed_then = sym (law past 0 (outstanding past 0) (batch past 0) lawful_then)

-- with any bound that is enough, the Collects are the same
module _ (config : Config) (law : OutstandingIsOwed config) where
  next_collecting : (past : List Event) → IsCollecting config past → IsCollecting config (next_event config past (Collect 0) ∷ past)
  next_collecting past now = subst (λ (e : Event). IsCollecting config (e ∷ past)) (sym (event_is config law past now)) (collecting_then config law past now)

  next_owed : (past : List Event) → IsCollecting config past → owed (next_event config past (Collect 0) ∷ past) 0 ≡ outstanding past 0
  next_owed past now = subst (λ (e : Event). owed (e ∷ past) 0 ≡ outstanding past 0) (sym (event_is config law past now)) (owed_then config law past now)

  next_outstanding : (past : List Event) → IsCollecting config past → outstanding_in (next_event config past (Collect 0)).reply ≡ outstanding past 0
  next_outstanding past now = ap (λ (e : Event). outstanding_in e.reply) (event_is config law past now)

  none_left : (past : List Event) (n : ℕ) (rest : List Event) → IsCollecting config past → owed past 0 ≤ 0 → cond (outstanding_in (next_event config past (Collect 0)).reply == 0) [] rest ≡ []
  none_left past n rest now le = rw (next_outstanding past now, none_owed past now.done le) refl

  same_collects : (n m : ℕ) (past : List Event) → IsCollecting config past → owed past 0 ≤ n → owed past 0 ≤ m → collects config n past ≡ collects config m past
  same_collects zero zero past now a b = refl
  same_collects zero (suc m) past now a b =
      ap (λ (l : List Event). next_event config past (Collect 0) ∷ l) (sym (none_left past m (collects config m (next_event config past (Collect 0) ∷ past)) now a))
  same_collects (suc n) zero past now a b =
      ap (λ (l : List Event). next_event config past (Collect 0) ∷ l) (none_left past n (collects config n (next_event config past (Collect 0) ∷ past)) now b)
  same_collects (suc n) (suc m) past now a b =
      let e : Event = next_event config past (Collect 0) in
      let owes = next_owed past now in
      ap (λ (l : List Event). e ∷ cond (outstanding_in e.reply == 0) [] l)
      (same_collects n m (e ∷ past) (next_collecting past now) (subst (λ k. k ≤ n) (sym owes) (fewer_owed past n now.done a)) (subst (λ k. k ≤ m) (sym owes) (fewer_owed past m now.done b)))

  -- one Collect, and those behind it
  pub one_collect : (past : List Event) → IsCollecting config past → collect_events config past
      ≡ next_event config past (Collect 0) ∷ cond (outstanding_in (next_event config past (Collect 0)).reply == 0) [] (collect_events config (next_event config past (Collect 0) ∷ past))
  one_collect past now =
      let e : Event = next_event config past (Collect 0) in
      same_collects (owed past 0) (suc (owed past 0)) past now (omega arith) (omega arith)
      ∙ ap (λ (l : List Event). e ∷ cond (outstanding_in e.reply == 0) [] l)
      (same_collects (owed past 0) (owed (e ∷ past) 0) (e ∷ past) (next_collecting past now)
      (subst (λ k. k ≤ owed past 0) (sym (next_owed past now)) (fewer_owed past (owed past 0) now.done (omega arith))) (omega arith))

  pub goes_on_collecting : (past : List Event) → IsCollecting config past → IsCollecting config (next_event config past (Collect 0) ∷ past)
  goes_on_collecting past now = next_collecting past now

  -- fewer are owed behind one that left some
  pub fewer_behind : (past : List Event) → IsCollecting config past → (outstanding_in (next_event config past (Collect 0)).reply ≡ 0 → ⊥) → owed (next_event config past (Collect 0) ∷ past) 0 < owed past 0
  fewer_behind past now some = by_owed (owed past 0) refl
    where
      by_owed : (n : ℕ) → owed past 0 ≡ n → owed (next_event config past (Collect 0) ∷ past) 0 < owed past 0
      by_owed zero is = absurd (some (next_outstanding past now ∙ none_owed past now.done (omega (arith, is))))
      by_owed (suc n) is = let le = fewer_owed past n now.done (omega (arith, is)) in omega (arith, is, le, next_owed past now)

zero_is : (n : ℕ) → (n == 0) ≡ true → n ≡ 0
zero_is n h = grind (arith, nat_tests)

abbrev AllCollected : Config → List Event → Type 0
AllCollected config after = IsLawful config after × (owed after 0 ≡ 0)

all_collected : (config : Config) (law : OutstandingIsOwed config) (n : ℕ) (past : List Event) → IsCollecting config past → owed past 0 ≤ n → AllCollected config (behind past (collects config n past))
all_collected config law zero past now le =
    subst (λ (e : Event). AllCollected config (e ∷ past)) (sym (event_is config law past now)) (lawful_then config law past now, owed_then config law past now ∙ none_owed past now.done le)
all_collected config law (suc n) past now le =
    let e : Event = collected config law past now in
    subst (λ (x : Event). AllCollected config (behind (x ∷ past) (cond (outstanding_in x.reply == 0) [] (collects config n (x ∷ past))))) (sym (event_is config law past now))
    (by_left (outstanding past 0 == 0) refl (all_collected config law n (e ∷ past) (collecting_then config law past now) (subst (λ m. m ≤ n) (sym (owed_then config law past now)) (fewer_owed past n now.done le))))
  where
    by_left : (b : Bool) → (outstanding past 0 == 0) ≡ b → AllCollected config (behind (collected config law past now ∷ past) (collects config n (collected config law past now ∷ past)))
        → AllCollected config (behind (collected config law past now ∷ past) (cond b [] (collects config n (collected config law past now ∷ past))))
    by_left true is rest = (lawful_then config law past now, owed_then config law past now ∙ zero_is (outstanding past 0) is)
    by_left false is rest = rest

pub collects_complete : (config : Config) → OutstandingIsOwed config → CollectsAreComplete config
collects_complete config law past lawful runs is_there done = all_collected config law (owed past 0) past (record { lawful = lawful; runs = runs; is_there = is_there; done = done }) (omega arith)
