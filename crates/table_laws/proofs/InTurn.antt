-- Jobs in conflict are done in the order of their numbers.
use Rattle.std.proofs.Common.{◌≡◌, ℕ, ◌≤◌, Bool, true, false, List, [], ◌∷◌, length, Some, None, Option, refl, sym, ap, ◌∙◌, arith, inl, inr, ◌⊎◌}
use Rattle.std.specs.Prelude.{◌&&◌, nat_eq, nat_le, cond}
use Rattle.std.proofs.lemmas.Bool.Decides.{nat_tests}
use Rattle.table_model.specs.declared.command.Config.{Config}
use Rattle.table_model.specs.declared.job.JobNumber.{JobNumber}
use Rattle.table_model.specs.Event.{Event}
use Rattle.table_model.specs.Jobs.{Task, JobUpdate, Outcome, Waiting, Out, Programmed, Faulted, PassedOver, tasks, tasks_by, update_of, turned, outcome_of, number_eq, number_lt, is_undone, is_out, is_waiting, conflict}
use Rattle.table_model.specs.Legal.{IsLawful}
use Rattle.table_model.proofs.Tests.{and_left}
use Rattle.table_laws.proofs.Ascending.{number, is_older, is_from, made_of, ascend}
use Rattle.table_laws.proofs.Updates.{Each, Pairs, each_weaken, each_all, pairs_both, pairs_each, pairs_append, Before, ascending_pairs, number_same, apart, Taken, Said, update_is}

-- an event's word on a job
pub outcome_next : (e : Event) (past : List Event) (n : JobNumber) → outcome_of (e ∷ past) n ≡ turned (update_of e) n (outcome_of past n)
unfolding outcome_of
outcome_next e past n = refl

-- where the turn's job was undone
pub undone_update : (past : List Event) (turn : JobUpdate) → Taken past turn ⊎ Said past turn → is_undone (outcome_of past turn.number) ≡ true
undone_update past turn (inl taken) = waits (outcome_of past turn.number) taken.waited
  where
    waits : (o : Outcome) → is_waiting o ≡ true → is_undone o ≡ true
    waits Waiting h = refl
    waits Out h = refl
    waits Programmed h = cc
    waits Faulted h = cc
    waits PassedOver h = cc
undone_update past turn (inr said) = out (outcome_of past turn.number) said.was_out
  where
    out : (o : Outcome) → is_out o ≡ true → is_undone o ≡ true
    out Waiting h = refl
    out Out h = refl
    out Programmed h = cc
    out Faulted h = cc
    out PassedOver h = cc

-- Jobs to come wait.

abbrev pub WaitAhead : List Event → ℕ → Type 0
WaitAhead past from = (n : JobNumber) → from ≤ n.position → outcome_of past n ≡ Waiting

out_not_waiting : is_out Waiting ≡ true → ⊥
out_not_waiting h = cc

older_apart : (position : ℕ) (task : Task) (n : JobNumber) → is_older position task ≡ true → position ≤ n.position → number_eq (number task) n ≡ false
older_apart position task n older ahead = grind (arith, nat_tests)

ahead_by : (past : List Event) (turn : JobUpdate) → WaitAhead past (length past) → Taken past turn ⊎ Said past turn → (n : JobNumber) → length past ≤ n.position → number_eq turn.number n ≡ false
ahead_by past turn before (inl taken) n ahead = ap (λ m. number_eq m n) taken.of_it ∙ older_apart (length past) taken.task n taken.older ahead
ahead_by past turn before (inr said) n ahead = by_same (number_eq turn.number n) refl
  where
    by_same : (b : Bool) → number_eq turn.number n ≡ b → b ≡ false
    by_same false is = refl
    by_same true is = absurd (out_not_waiting (ap is_out (sym (ap (outcome_of past) (number_same turn.number n is) ∙ before n ahead)) ∙ said.was_out))

turned_ahead : (past : List Event) (o : Option JobUpdate) → WaitAhead past (length past) → ((turn : JobUpdate) → o ≡ Some turn → Taken past turn ⊎ Said past turn) → (n : JobNumber) → length past ≤ n.position → turned o n (outcome_of past n) ≡ Waiting
turned_ahead past None before says n ahead = before n ahead
turned_ahead past (Some turn) before says n ahead = ap (λ b. cond b turn.outcome (outcome_of past n)) (ahead_by past turn before (says turn refl) n ahead) ∙ before n ahead

module _ (config : Config) where
  pub says : (e : Event) (past : List Event) → IsLawful config (e ∷ past) → (turn : JobUpdate) → update_of e ≡ Some turn → Taken past turn ⊎ Said past turn
  says e past lawful turn is = update_is config past e.command e.reply lawful.0 turn is

  empty_ahead : WaitAhead [] 0
  unfolding outcome_of
  empty_ahead n ahead = refl

  -- also of the event that is about to come
  pub next_ahead : (e : Event) (past : List Event) → IsLawful config (e ∷ past) → WaitAhead past (length past) → WaitAhead (e ∷ past) (length past)
  next_ahead e past lawful before n ahead = outcome_next e past n ∙ turned_ahead past (update_of e) before (says e past lawful) n ahead

  pub wait_ahead : (past : List Event) → IsLawful config past → WaitAhead past (length past)
  wait_ahead [] lawful n ahead = empty_ahead n ahead
  wait_ahead (e ∷ past) lawful n ahead = next_ahead e past lawful (wait_ahead past lawful.1) n (omega arith)

-- Jobs in conflict.

abbrev pub Waits : List Event → Task → Task → Type 0
Waits past a b = conflict a b ≡ true → is_waiting (outcome_of past (number b)) ≡ false → is_undone (outcome_of past (number a)) ≡ false

pair_by : (p q : Bool) (o first second : Outcome) → (p ≡ true → is_undone first ≡ false) → (p ≡ true → q ≡ true → ⊥) → (q ≡ true → is_undone first ≡ true) → (is_waiting second ≡ false → is_undone first ≡ false) → is_waiting (cond p o second) ≡ false → is_undone (cond q o first) ≡ false
pair_by true true o first second done other undone before moved = absurd (other refl refl)
pair_by true false o first second done other undone before moved = done refl
pair_by false true o first second done other undone before moved = let no_way : false ≡ true = sym (before moved) ∙ undone refl in cc
pair_by false false o first second done other undone before moved = before moved

first_test : (a b c : Bool) → a && b && c ≡ false → b ≡ true → c ≡ true → a ≡ false
first_test true true true h p q = cc
first_test true true false h p q = cc
first_test true false c h p q = cc
first_test false b c h p q = refl

pub out_not_waits : (o : Outcome) → is_out o ≡ true → is_waiting o ≡ false
out_not_waits Waiting h = cc
out_not_waits Out h = refl
out_not_waits Programmed h = refl
out_not_waits Faulted h = refl
out_not_waits PassedOver h = refl

module _ (e : Event) (past : List Event) where
  -- what the first of two jobs has to say, where the event is about the second
  abbrev DoneFirst : JobUpdate → Task → Task → Type 0
  DoneFirst turn a b = conflict a b ≡ true → number_eq turn.number (number b) ≡ true → is_undone (outcome_of past (number a)) ≡ false

  next_waits : (turn : JobUpdate) → update_of e ≡ Some turn → Taken past turn ⊎ Said past turn → (a b : Task) → Before a b → DoneFirst turn a b → Waits past a b → Waits (e ∷ past) a b
  next_waits turn is said a b lt done before meets moved =
      ap is_undone (outcome_next e past (number a) ∙ ap (λ o. turned o (number a) (outcome_of past (number a))) is)
      ∙ pair_by (number_eq turn.number (number b)) (number_eq turn.number (number a)) turn.outcome (outcome_of past (number a)) (outcome_of past (number b))
      (done meets) (λ p q. apart a b turn.number lt q p)
      (λ q. ap (λ n. is_undone (outcome_of past n)) (sym (number_same turn.number (number a) q)) ∙ undone_update past turn said)
      (before meets)
      (sym (ap is_waiting (outcome_next e past (number b) ∙ ap (λ o. turned o (number b) (outcome_of past (number b))) is)) ∙ moved)

  same_waits : update_of e ≡ None → (a b : Task) → Waits past a b → Waits (e ∷ past) a b
  same_waits is a b before meets moved =
      ap is_undone (outcome_next e past (number a) ∙ ap (λ o. turned o (number a) (outcome_of past (number a))) is)
      ∙ before meets (sym (ap is_waiting (outcome_next e past (number b) ∙ ap (λ o. turned o (number b) (outcome_of past (number b))) is)) ∙ moved)

  abbrev Free : Task → Task → Type 0
  Free task other = is_undone (outcome_of past (number other)) && number_lt (number other) (number task) && conflict other task ≡ false

  abbrev Only : Task → Task → Type 0
  Only task other = number_eq (number task) (number other) ≡ true → other ≡ task

  done_taken : (turn : JobUpdate) (taken : Taken past turn) (a b : Task) → Before a b → Free taken.task a → Only taken.task b → DoneFirst turn a b
  done_taken turn taken a b lt free only meets here =
      let one : b ≡ taken.task = only (ap (λ n. number_eq n (number b)) (sym taken.of_it) ∙ here) in
      first_test (is_undone (outcome_of past (number a))) (number_lt (number a) (number taken.task)) (conflict a taken.task) free
      (ap (λ (x : Task). number_lt (number a) (number x)) (sym one) ∙ lt) (ap (conflict a) (sym one) ∙ meets)

  done_said : (turn : JobUpdate) (said : Said past turn) (a b : Task) → Waits past a b → DoneFirst turn a b
  done_said turn said a b before meets here =
      before meets (out_not_waits (outcome_of past (number b)) (ap (λ n. is_out (outcome_of past n)) (sym (number_same turn.number (number b) here)) ∙ said.was_out))

  old_pairs : (o : Option JobUpdate) → update_of e ≡ o → ((turn : JobUpdate) → update_of e ≡ Some turn → Taken past turn ⊎ Said past turn) → Pairs (Waits past) (tasks past) → Pairs (Waits (e ∷ past)) (tasks past)
  old_pairs None is told before = pairs_both (Waits past) (Waits past) (Waits (e ∷ past)) (tasks past) (λ a b w v. same_waits is a b w) before before
  old_pairs (Some turn) is told before = by_said (told turn is)
    where
      by_said : Taken past turn ⊎ Said past turn → Pairs (Waits (e ∷ past)) (tasks past)
      by_said (inl taken) =
          pairs_both Before (λ a b. (Free taken.task a × Only taken.task b) × Waits past a b) (Waits (e ∷ past)) (tasks past)
          (λ a b lt w. next_waits turn is (inl taken) a b lt (done_taken turn taken a b lt w.0.0 w.0.1) w.1)
          (ascending_pairs (tasks past) (ascend past))
          (pairs_both (λ a b. Free taken.task a × Only taken.task b) (Waits past) (λ a b. (Free taken.task a × Only taken.task b) × Waits past a b) (tasks past) (λ a b u v. (u, v)) (pairs_each (Free taken.task) (Only taken.task) (tasks past) taken.free taken.only) before)
      by_said (inr said) =
          pairs_both Before (Waits past) (Waits (e ∷ past)) (tasks past)
          (λ a b lt w. next_waits turn is (inr said) a b lt (done_said turn said a b w) w)
          (ascending_pairs (tasks past) (ascend past)) before

pub from_le : (position : ℕ) (b : Task) → is_from position 0 b ≡ true → position ≤ (number b).position
from_le position b here = let at : nat_eq (number b).position position ≡ true = and_left (nat_eq (number b).position position) (nat_le 0 (number b).index) here in grind (arith, nat_tests)

-- the jobs that the event makes wait
new_waits : (e : Event) (past : List Event) → WaitAhead (e ∷ past) (length past) → Each (λ b. (a : Task) → Waits (e ∷ past) a b) (tasks_by e past)
new_waits e past ahead =
    each_weaken (λ b. is_from (length past) 0 b ≡ true) (λ b. (a : Task) → Waits (e ∷ past) a b) (tasks_by e past)
    (λ b here a meets moved. absurd (let waiting : outcome_of (e ∷ past) (number b) ≡ Waiting = ahead (number b) (from_le (length past) b here) in let no_way : true ≡ false = sym (ap is_waiting waiting) ∙ moved in cc))
    (each_all (is_from (length past) 0) (tasks_by e past) (made_of e past).here)

pub in_turn : (config : Config) (past : List Event) → IsLawful config past → Pairs (Waits past) (tasks past)
unfolding tasks
in_turn config [] lawful = tt
in_turn config (e ∷ past) lawful =
    pairs_append (Waits (e ∷ past)) (tasks past) (tasks_by e past)
    (old_pairs e past (update_of e) refl (says config e past lawful) (in_turn config past lawful.1))
    (new_waits e past (next_ahead config e past lawful (wait_ahead config past lawful.1)))
