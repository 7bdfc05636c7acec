-- The forwarding table is closed. A job that is out can be done until it is: its references are there, or nothing there refers to its key.
use Rattle.std.proofs.Common.{◌≡◌, Bool, true, false, List, [], ◌∷◌, length, Some, None, Option, refl, sym, ap, subst, ◌∙◌, inl, inr, ◌⊎◌}
use Rattle.std.specs.Prelude.{not, ◌||◌, cond, find, option_and_then}
use Rattle.std.specs.List.{list_all, list_any}
use Rattle.std.proofs.lemmas.List.Folds.{list_any-append}
use Rattle.aft_entries.specs.declared.entry.Entry.{Entry}
use Rattle.aft_entries.specs.declared.key.Key.{Key}
use Rattle.aft_entries.specs.Order.{key_eq}
use Rattle.aft_entries.specs.References.{is_among, refers}
use Rattle.table_model.specs.declared.command.Config.{Config}
use Rattle.table_model.specs.declared.job.Work.{Work}
use Rattle.table_model.specs.declared.job.Work.TheVariants.{Install, Remove}
use Rattle.table_model.specs.Event.{Event}
use Rattle.table_model.specs.Jobs.{task_at, Task, JobUpdate, Outcome, Waiting, tasks, tasks_by, update_of, turned, outcome_of, number_eq, is_undone, is_out, is_programmed, is_skipped, conflict, effect, work_key, work_refs, touches, fib}
use Rattle.table_model.specs.Laws.{is_closed, effect_of, programmed_by, fib_by_reports, FibIsClosed}
use Rattle.table_model.specs.Legal.{IsLawful}
use Rattle.table_model.specs.Table.{put, take_out, resolves, used}
use Rattle.table_model.proofs.Closed.{closed_put, closed_take_out, resolves_put, resolves_take_out, all_put, all_taken, not_used, not_true, or_left, or_right}
use Rattle.table_model.proofs.Tests.{and_left, and_right}
use Rattle.table_laws.proofs.Ascending.{number, is_from, made_of}
use Rattle.table_laws.proofs.InTurn.{Waits, WaitAhead, outcome_next, says, in_turn, next_ahead, wait_ahead, from_le, out_not_waits}
use Rattle.table_laws.proofs.Refused.{not_not}
use Rattle.table_laws.proofs.Reports.{fib_next, reports, out_undone}
use Rattle.table_laws.proofs.Updates.{Each, Pairs, each_of, each_weaken, each_both, each_append, each_all, number_same, Taken, Said}

-- What a job that is done leaves to one that touches nothing of it.

none_used : (key : Key) (table : List Entry) → list_all (λ e. not (refers e key)) table ≡ true → list_any (λ e. refers e key) table ≡ false
none_used key [] h = refl
none_used key (e ∷ table) h =
    ap (λ b. b || list_any (λ x. refers x key) table) (not_true (refers e key) (and_left (not (refers e key)) (list_all (λ x. not (refers x key)) table) h))
    ∙ none_used key table (and_right (not (refers e key)) (list_all (λ x. not (refers x key)) table) h)

unused_put : (e : Entry) (key : Key) (table : List Entry) → refers e key ≡ false → used table key ≡ false → used (put e table) key ≡ false
unfolding used
unused_put e key table apart free = none_used key (put e table) (all_put (λ x. not (refers x key)) e table (not_used key table free) (ap not apart))

pub unused_taken : (gone key : Key) (table : List Entry) → used table key ≡ false → used (take_out gone table) key ≡ false
unfolding used
unused_taken gone key table free = none_used key (take_out gone table) (all_taken (λ x. not (refers x key)) gone table (not_used key table free))

pub closed_effect : (table : List Entry) (work : Work) → is_closed table ≡ true → is_skipped table work ≡ false → is_closed (effect table work) ≡ true
closed_effect table (Install entry) h fits = closed_put entry table h (not_not (resolves table entry) fits)
closed_effect table (Remove key) h fits = closed_take_out key table h fits

pub still_fits : (table : List Entry) (done other : Work) → is_among (work_key done) (work_refs other) ≡ false → is_among (work_key other) (work_refs done) ≡ false → is_skipped table other ≡ false → is_skipped (effect table done) other ≡ false
still_fits table (Install e) (Install f) one two fits = ap not (resolves_put e f table (not_not (resolves table f) fits))
still_fits table (Remove key) (Install f) one two fits = ap not (resolves_take_out key table f (not_not (resolves table f) fits) one)
still_fits table (Install e) (Remove key) one two fits = unused_put e key table two fits
still_fits table (Remove gone) (Remove key) one two fits = unused_taken gone key table fits

-- neither touches the other's key by what it installs
pub record Apart (a b : Task) : Type 0 where
  pub one : is_among (work_key a.job.work) (work_refs b.job.work) ≡ false
  pub other : is_among (work_key b.job.work) (work_refs a.job.work) ≡ false

update_about : (a b : Task) → Apart a b → Apart b a
update_about a b h = record { one = h.other; other = h.one }

untouched : (key : Key) (task : Task) → is_among key (touches task) ≡ false → is_among key (work_refs task.job.work) ≡ false
untouched key task h = or_left (is_among key (work_refs task.job.work)) (is_among key task.before) (sym (list_any-append (key_eq key) (work_refs task.job.work) task.before) ∙ h)

apart_by : (a b : Task) → conflict a b ≡ false → Apart a b
unfolding conflict
apart_by a b h =
    let key_a = work_key a.job.work in
    let key_b = work_key b.job.work in
    record {
      one = untouched key_a b (or_right (key_eq key_a key_b) (is_among key_a (touches b)) (or_left (key_eq key_a key_b || is_among key_a (touches b)) (is_among key_b (touches a)) h));
      other = untouched key_b a (or_right (key_eq key_a key_b || is_among key_a (touches b)) (is_among key_b (touches a)) h);
    }

-- A job that is found, and the others.

each_found : (P : Task → Type 0) (p : Task → Bool) (x : Task) (ts : List Task) → Each P ts → find p ts ≡ Some x → P x × (p x ≡ true)
each_found P p x [] h is = cc
each_found P p x (t ∷ ts) h is = by_test (p t) refl (λ found. each_found P p x ts h.1 found) is
  where
    by_test : (b : Bool) → p t ≡ b → (find p ts ≡ Some x → P x × (p x ≡ true)) → cond b (Some t) (find p ts) ≡ Some x → P x × (p x ≡ true)
    by_test true here go found = let one : t ≡ x = cc in rw (← one) (h.0, here)
    by_test false here go found = go found

module _ (R S : Task → Task → Type 0) (ahead : (a b : Task) → R a b → S a b) (behind : (a b : Task) → R a b → S b a) (p : Task → Bool) (x : Task) where
  abbrev Beside : Task → Type 0
  Beside t = (t ≡ x) ⊎ S x t

  beside_found : (ts : List Task) → Pairs R ts → find p ts ≡ Some x → Each Beside ts
  beside_found [] h is = cc
  beside_found (t ∷ ts) h is = by_test (p t) (λ found. beside_found ts h.1 found) is
    where
      by_test : (b : Bool) → (find p ts ≡ Some x → Each Beside ts) → cond b (Some t) (find p ts) ≡ Some x → Each Beside (t ∷ ts)
      by_test true go found = let one : t ≡ x = cc in (inl one, each_weaken (R t) Beside ts (λ y r. inr (ahead x y (subst (λ z. R z y) one r))) h.0)
      by_test false go found = (inr (behind t x (each_found (R t) p x ts h.0 found).0), go found)

-- One event.

out_or_done : (o : Outcome) → is_undone o ≡ false → is_out o ≡ true → ⊥
out_or_done o done out = let no_way : false ≡ true = sym done ∙ out_undone o out in cc

-- of two jobs that are out neither touches the other
abbrev pub OutApart : List Event → Task → Task → Type 0
OutApart past a b = is_out (outcome_of past (number a)) ≡ true → is_out (outcome_of past (number b)) ≡ true → Apart a b

pub waits_apart : (past : List Event) (a b : Task) → Waits past a b → OutApart past a b
waits_apart past a b waits one two = apart_by a b (by_conflict (conflict a b) refl)
  where
    by_conflict : (c : Bool) → conflict a b ≡ c → c ≡ false
    by_conflict false meets = refl
    by_conflict true meets = absurd (out_or_done (outcome_of past (number a)) (waits meets (out_not_waits (outcome_of past (number b)) two)) one)

-- a job that is out can be done
abbrev pub Ready : List Entry → Outcome → Task → Type 0
Ready table outcome task = is_out outcome ≡ true → is_skipped table task.job.work ≡ false

pub record Holds (past : List Event) : Type 0 where
  pub closed : is_closed (fib past) ≡ true
  pub ready : Each (λ t. Ready (fib past) (outcome_of past (number t)) t) (tasks past)

module _ (past : List Event) (before : Holds past) where
  -- what the event does to the jobs so far, where it has this job done
  record After (o : Option JobUpdate) (done : Option Task) : Type 0 where
    pub closed : is_closed (effect_of done (fib past)) ≡ true
    pub ready : Each (λ t. Ready (effect_of done (fib past)) (turned o (number t) (outcome_of past (number t))) t) (tasks past)

  module _ (turn : JobUpdate) where
    -- the table stays
    idle : Each (λ t. number_eq turn.number (number t) ≡ true → Ready (fib past) turn.outcome t) (tasks past) → After (Some turn) None
    idle new = record {
      closed = before.closed;
      ready = each_both (λ t. number_eq turn.number (number t) ≡ true → Ready (fib past) turn.outcome t) (λ t. Ready (fib past) (outcome_of past (number t)) t)
          (λ t. Ready (fib past) (cond (number_eq turn.number (number t)) turn.outcome (outcome_of past (number t))) t) (tasks past)
          (λ t n o. by_number t n o (number_eq turn.number (number t)) refl) new before.ready;
    }
      where
        by_number : (t : Task) → (number_eq turn.number (number t) ≡ true → Ready (fib past) turn.outcome t) → Ready (fib past) (outcome_of past (number t)) t
            → (b : Bool) → number_eq turn.number (number t) ≡ b → Ready (fib past) (cond b turn.outcome (outcome_of past (number t))) t
        by_number t n o true here = n here
        by_number t n o false here = o

    taken : Taken past turn → After (Some turn) None
    taken took =
        idle (each_weaken (λ other. number_eq (number took.task) (number other) ≡ true → other ≡ took.task) (λ t. number_eq turn.number (number t) ≡ true → Ready (fib past) turn.outcome t) (tasks past)
        (λ t only here out. ap (λ (x : Task). is_skipped (fib past) x.job.work) (only (ap (λ n. number_eq n (number t)) (sym took.of_it) ∙ here)) ∙ took.told ∙ ap not out) took.only)

    each_said : Said past turn → (t : Task) → number_eq turn.number (number t) ≡ true → Ready (fib past) turn.outcome t
    each_said said t here out = absurd (out_or_done turn.outcome said.completes out)

    -- of a job that is done
    module _ (said : Said past turn) (waits : Pairs (Waits past) (tasks past)) (x : Task) (is : task_at turn.number (tasks past) ≡ Some x) where
      here : Ready (fib past) (outcome_of past (number x)) x × (number_eq turn.number (number x) ≡ true)
      here = each_found (λ t. Ready (fib past) (outcome_of past (number t)) t) (λ task. number_eq turn.number task.job.number) x (tasks past) before.ready is

      was_out : is_out (outcome_of past (number x)) ≡ true
      was_out = ap (λ n. is_out (outcome_of past n)) (sym (number_same turn.number (number x) here.1)) ∙ said.was_out

      one_step : (t : Task) → (t ≡ x) ⊎ OutApart past x t → Ready (fib past) (outcome_of past (number t)) t
          → (b : Bool) → number_eq turn.number (number t) ≡ b → Ready (effect (fib past) x.job.work) (cond b turn.outcome (outcome_of past (number t))) t
      one_step t either old true at out = absurd (out_or_done turn.outcome said.completes out)
      one_step t (inl one) old false at out =
          let same : number_eq turn.number (number t) ≡ true = ap (λ (y : Task). number_eq turn.number (number y)) one ∙ here.1 in
          let no_way : false ≡ true = sym at ∙ same in cc
      one_step t (inr apart) old false at out = let far = apart was_out out in still_fits (fib past) x.job.work t.job.work far.one far.other (old out)

      reported : After (Some turn) (Some x)
      reported = record {
        closed = closed_effect (fib past) x.job.work before.closed (here.0 was_out);
        ready = each_both (λ t. (t ≡ x) ⊎ OutApart past x t) (λ t. Ready (fib past) (outcome_of past (number t)) t)
            (λ t. Ready (effect (fib past) x.job.work) (cond (number_eq turn.number (number t)) turn.outcome (outcome_of past (number t))) t) (tasks past)
            (λ t either old. one_step t either old (number_eq turn.number (number t)) refl)
            (beside_found (Waits past) (OutApart past) (waits_apart past) (λ a b w one two. update_about a b (waits_apart past a b w two one)) (λ task. number_eq turn.number task.job.number) x (tasks past) waits is)
            before.ready;
      }

    by_done : Taken past turn ⊎ Said past turn → Pairs (Waits past) (tasks past) → (b : Bool) → is_programmed turn.outcome ≡ b → (o : Option Task) → task_at turn.number (tasks past) ≡ o → After (Some turn) (cond b o None)
    by_done (inl took) waits true done o is = let no_way : false ≡ true = sym took.not_done ∙ done in cc
    by_done (inl took) waits false done o is = taken took
    by_done (inr said) waits true done (Some x) is = reported said waits x is
    by_done (inr said) waits true done None is = idle (each_of (λ t. number_eq turn.number (number t) ≡ true → Ready (fib past) turn.outcome t) (each_said said) (tasks past))
    by_done (inr said) waits false done o is = idle (each_of (λ t. number_eq turn.number (number t) ≡ true → Ready (fib past) turn.outcome t) (each_said said) (tasks past))

  after : (o : Option JobUpdate) → ((turn : JobUpdate) → o ≡ Some turn → Taken past turn ⊎ Said past turn) → Pairs (Waits past) (tasks past)
      → After o (option_and_then (λ turn. cond (is_programmed turn.outcome) (task_at turn.number (tasks past)) None) o)
  after None told waits = record { closed = before.closed; ready = before.ready }
  after (Some turn) told waits = by_done turn (told turn refl) waits (is_programmed turn.outcome) refl (task_at turn.number (tasks past)) refl

-- the jobs that the event makes are not out
new_ready : (table : List Entry) (e : Event) (past : List Event) → WaitAhead (e ∷ past) (length past) → Each (λ t. Ready table (outcome_of (e ∷ past) (number t)) t) (tasks_by e past)
new_ready table e past ahead =
    each_weaken (λ b. is_from (length past) 0 b ≡ true) (λ t. Ready table (outcome_of (e ∷ past) (number t)) t) (tasks_by e past)
    (λ b from out. let waiting : outcome_of (e ∷ past) (number b) ≡ Waiting = ahead (number b) (from_le (length past) b from) in let no_way : true ≡ false = sym out ∙ ap is_out waiting in cc)
    (each_all (is_from (length past) 0) (tasks_by e past) (made_of e past).here)

module _ (config : Config) where
  empty : fib [] ≡ []
  unfolding fib_by_reports
  empty = sym (reports config [] tt)

  none : Each (λ t. Ready (fib []) (outcome_of [] (number t)) t) (tasks [])
  unfolding tasks
  none = tt

  next : (e : Event) (past : List Event) → IsLawful config (e ∷ past) → Holds past → Holds (e ∷ past)
  unfolding tasks
  next e past lawful before =
      let step = after past before (update_of e) (says config e past lawful) (in_turn config past lawful.1) in
      let table : fib (e ∷ past) ≡ effect_of (programmed_by past e) (fib past) = fib_next config e past lawful in
      record {
        closed = ap is_closed table ∙ step.closed;
        ready = each_append (λ t. Ready (fib (e ∷ past)) (outcome_of (e ∷ past) (number t)) t) (tasks past) (tasks_by e past)
            (each_weaken (λ t. Ready (effect_of (programmed_by past e) (fib past)) (turned (update_of e) (number t) (outcome_of past (number t))) t) (λ t. Ready (fib (e ∷ past)) (outcome_of (e ∷ past) (number t)) t) (tasks past)
            (λ t h out. ap (λ x. is_skipped x t.job.work) table ∙ h (sym (ap is_out (outcome_next e past (number t))) ∙ out)) step.ready)
            (new_ready (fib (e ∷ past)) e past (next_ahead config e past lawful (wait_ahead config past lawful.1)));
      }

  pub holds : (past : List Event) → IsLawful config past → Holds past
  holds [] lawful = record { closed = ap is_closed empty; ready = none }
  holds (e ∷ past) lawful = next e past lawful (holds past lawful.1)

pub fib_closed : (config : Config) → FibIsClosed config
fib_closed config past lawful = (holds config past lawful).closed
