-- What the events of a lawful history say of jobs: jobs in conflict are done in the order of their numbers.
use Rattle.std.proofs.Common.{◌≡◌, ℕ, Bool, true, false, List, [], ◌∷◌, ◌++◌, length, Some, None, Option, refl, sym, ap, ◌∙◌, arith, inl, inr, ◌⊎◌}
use Rattle.std.specs.Prelude.{not, ◌&&◌, ◌||◌, nat_eq, cond, map, find, ℤ}
use Rattle.std.specs.List.{list_all, list_any}
use Rattle.std.proofs.lemmas.Bool.Decides.{nat_tests}
use Rattle.table_model.specs.declared.command.Command.{Command}
use Rattle.table_model.specs.declared.command.Command.TheVariants.{Begin, SetParams, Announce, Operate, Collect, Leave, Flush, Select, Take, Report, Halt}
use Rattle.table_model.specs.declared.command.Config.{Config}
use Rattle.table_model.specs.declared.job.JobNumber.{JobNumber}
use Rattle.table_model.specs.declared.job.Verdict.{Verdict}
use Rattle.table_model.specs.declared.job.Verdict.TheVariants as verdict
use Rattle.table_model.specs.declared.reply.Reply.{Reply}
use Rattle.table_model.specs.declared.reply.Reply.TheVariants as reply
use Rattle.table_model.specs.Event.{Event}
use Rattle.table_model.specs.Jobs.{Task, JobUpdate, TrackedTask, Outcome, Out, PassedOver, tasks, tracked_tasks, update_of, update_by_take, reported, outcome_of, number_eq, number_lt, is_undone, is_out, is_waiting, is_programmed, is_blocked, on_shard, next_task, conflict, is_clear, is_skipped, fib}
use Rattle.table_model.specs.Laws.{event, is_ascending}
use Rattle.table_model.specs.Reply.{reply_to, reply_take, take_reply, is_halted}
use Rattle.table_model.proofs.Tests.{and_left, and_right}
use Rattle.table_laws.proofs.Ascending.{number, is_older, tasks_older, ascend}

-- Facts of each task of a list, and of each two of it.

abbrev pub Each : (Task → Type 0) → List Task → Type 0
Each P [] = Unit {0}
Each P (x ∷ xs) = P x × Each P xs

abbrev pub Pairs : (Task → Task → Type 0) → List Task → Type 0
Pairs R [] = Unit {0}
Pairs R (x ∷ xs) = Each (R x) xs × Pairs R xs

pub each_of : (P : Task → Type 0) → ((t : Task) → P t) → (ts : List Task) → Each P ts
each_of P h [] = tt
each_of P h (t ∷ ts) = (h t, each_of P h ts)

pub each_weaken : (P Q : Task → Type 0) (xs : List Task) → ((x : Task) → P x → Q x) → Each P xs → Each Q xs
each_weaken P Q [] step h = tt
each_weaken P Q (x ∷ xs) step h = (step x h.0, each_weaken P Q xs step h.1)

pub each_both : (P Q R : Task → Type 0) (xs : List Task) → ((x : Task) → P x → Q x → R x) → Each P xs → Each Q xs → Each R xs
each_both P Q R [] step h k = tt
each_both P Q R (x ∷ xs) step h k = (step x h.0 k.0, each_both P Q R xs step h.1 k.1)

pub each_append : (P : Task → Type 0) (xs ys : List Task) → Each P xs → Each P ys → Each P (xs ++ ys)
each_append P [] ys h k = k
each_append P (x ∷ xs) ys h k = (h.0, each_append P xs ys h.1 k)

pub each_all : (p : Task → Bool) (xs : List Task) → list_all p xs ≡ true → Each (λ x. p x ≡ true) xs
each_all p [] h = tt
each_all p (x ∷ xs) h = (and_left (p x) (list_all p xs) h, each_all p xs (and_right (p x) (list_all p xs) h))

pub pairs_both : (R S T : Task → Task → Type 0) (xs : List Task) → ((x y : Task) → R x y → S x y → T x y) → Pairs R xs → Pairs S xs → Pairs T xs
pairs_both R S T [] step h k = tt
pairs_both R S T (x ∷ xs) step h k = (each_both (R x) (S x) (T x) xs (step x) h.0 k.0, pairs_both R S T xs step h.1 k.1)

-- of the first and the second of each two
pub pairs_each : (P Q : Task → Type 0) (xs : List Task) → Each P xs → Each Q xs → Pairs (λ x y. P x × Q y) xs
pairs_each P Q [] h k = tt
pairs_each P Q (x ∷ xs) h k = (each_weaken Q (λ y. P x × Q y) xs (λ y q. (h.0, q)) k.1, pairs_each P Q xs h.1 k.1)

pairs_any : (R : Task → Task → Type 0) (ys : List Task) → Each (λ y. (x : Task) → R x y) ys → Pairs R ys
pairs_any R [] h = tt
pairs_any R (y ∷ ys) h = (each_weaken (λ z. (x : Task) → R x z) (R y) ys (λ z r. r y) h.1, pairs_any R ys h.1)

pub pairs_append : (R : Task → Task → Type 0) (xs ys : List Task) → Pairs R xs → Each (λ y. (x : Task) → R x y) ys → Pairs R (xs ++ ys)
pairs_append R [] ys h k = pairs_any R ys k
pairs_append R (x ∷ xs) ys h k = (each_append (R x) xs ys h.0 (each_weaken (λ y. (z : Task) → R z y) (R x) ys (λ y r. r x) k), pairs_append R xs ys h.1 k)

abbrev pub Before : Task → Task → Type 0
Before x y = number_lt (number x) (number y) ≡ true

pub ascending_pairs : (xs : List Task) → is_ascending xs ≡ true → Pairs Before xs
ascending_pairs [] h = tt
ascending_pairs (x ∷ xs) h = (
  each_all (λ later. number_lt (number x) (number later)) xs (and_left (list_all (λ later. number_lt (number x) (number later)) xs) (is_ascending xs) h),
  ascending_pairs xs (and_right (list_all (λ later. number_lt (number x) (number later)) xs) (is_ascending xs) h),
)

-- Numbers.

pub number_same : (a b : JobNumber) → number_eq a b ≡ true → a ≡ b
number_same a b h =
    let p : a.position ≡ b.position = let k : nat_eq a.position b.position ≡ true = and_left (nat_eq a.position b.position) (nat_eq a.index b.index) h in grind (arith, nat_tests) in
    let q : a.index ≡ b.index = let k : nat_eq a.index b.index ≡ true = and_right (nat_eq a.position b.position) (nat_eq a.index b.index) h in grind (arith, nat_tests) in
    ap (λ i. made a.position i) q ∙ ap (λ x. made x b.index) p
  where
    made : ℕ → ℕ → JobNumber
    made position index = record { position = position; index = index }

pub number_refl : (a : JobNumber) → number_eq a a ≡ true
number_refl a = grind (arith, nat_tests)

pub number_symm : (a b : JobNumber) → number_eq a b ≡ number_eq b a
number_symm a b = grind (arith, nat_tests)

not_below_itself : (a : JobNumber) → number_lt a a ≡ false
not_below_itself a = grind (arith, nat_tests)

-- one number isn't both of two jobs, of which one is before the other
pub apart : (x y : Task) (n : JobNumber) → Before x y → number_eq n (number x) ≡ true → number_eq n (number y) ≡ true → ⊥
apart x y n lt p q =
    let same : number x ≡ number y = sym (number_same n (number x) p) ∙ number_same n (number y) q in
    let below : number_lt (number y) (number y) ≡ true = ap (λ m. number_lt m (number y)) (sym same) ∙ lt in
    let no_way : false ≡ true = sym (not_below_itself (number y)) ∙ below in cc

-- What an event says of a job.

abbrev pub tracked_at : List Event → Task → TrackedTask
tracked_at past task = record { task = task; outcome = outcome_of past (number task) }

-- a worker took it: it waited, no earlier undone job was in conflict, and it is out only where it can be done
pub record Taken (past : List Event) (turn : JobUpdate) : Type 0 where
  pub task : Task
  pub of_it : turn.number ≡ number task
  pub waited : is_waiting (outcome_of past turn.number) ≡ true
  pub older : is_older (length past) task ≡ true
  pub free : Each (λ other. is_undone (outcome_of past (number other)) && number_lt (number other) (number task) && conflict other task ≡ false) (tasks past)
  pub only : Each (λ other. number_eq (number task) (number other) ≡ true → other ≡ task) (tasks past)
  pub not_done : is_programmed turn.outcome ≡ false
  pub told : is_skipped (fib past) task.job.work ≡ not (is_out turn.outcome)
  pub front : List Task
  pub back : List Task
  pub parts : tasks past ≡ front ++ task ∷ back

-- or it was out, and its device was reported
pub record Said (past : List Event) (turn : JobUpdate) : Type 0 where
  pub was_out : is_out (outcome_of past turn.number) ≡ true
  pub completes : is_undone turn.outcome ≡ false

module _ (past : List Event) (p : TrackedTask → Bool) where
  pub record IsFound (tracked : TrackedTask) (ts : List Task) : Type 0 where
    pub passes : p tracked ≡ true
    pub outcome_is : tracked.outcome ≡ outcome_of past (number tracked.task)
    pub only : Each (λ other. number_eq (number tracked.task) (number other) ≡ true → other ≡ tracked.task) ts
    pub each : (q : Task → Bool) → list_all q ts ≡ true → q tracked.task ≡ true
    pub front : List Task
    pub back : List Task
    pub parts : ts ≡ front ++ tracked.task ∷ back

  none_equal : (x : Task) (ts : List Task) → Each (Before x) ts → Each (λ other. number_eq (number x) (number other) ≡ true → other ≡ x) ts
  none_equal x ts lt = each_weaken (Before x) (λ other. number_eq (number x) (number other) ≡ true → other ≡ x) ts (λ y below same. absurd (apart x y (number x) below (number_refl (number x)) same)) lt

  found_step : (tracked : TrackedTask) (x : Task) (ts : List Task) (rest : Option TrackedTask) → Each (Before x) ts → list_all (λ y. number_lt (number x) (number y)) ts ≡ true
      → (rest ≡ Some tracked → IsFound tracked ts) → (b : Bool) → p (tracked_at past x) ≡ b → cond b (Some (tracked_at past x)) rest ≡ Some tracked → IsFound tracked (x ∷ ts)
  found_step tracked x ts rest lt below go true is found =
      let one : tracked_at past x ≡ tracked = cc in
      rw (← one) (record { passes = is; outcome_is = refl; only = ((λ same. refl), none_equal x ts lt); each = λ q h. and_left (q x) (list_all q ts) h; front = []; back = ts; parts = refl })
  found_step tracked x ts rest lt below go false is found =
      let later = go found in
      record {
        passes = later.passes;
        outcome_is = later.outcome_is;
        only = ((λ same. absurd (apart x tracked.task (number tracked.task) (later.each (λ y. number_lt (number x) (number y)) below) same (number_refl (number tracked.task)))), later.only);
        each = λ q h. later.each q (and_right (q x) (list_all q ts) h);
        front = x ∷ later.front;
        back = later.back;
        parts = ap (λ ys. x ∷ ys) later.parts;
      }

  pub found : (tracked : TrackedTask) (ts : List Task) → is_ascending ts ≡ true → find p (map (tracked_at past) ts) ≡ Some tracked → IsFound tracked ts
  found tracked [] up is = cc
  found tracked (x ∷ ts) up is =
      let below = and_left (list_all (λ y. number_lt (number x) (number y)) ts) (is_ascending ts) up in
      found_step tracked x ts (find p (map (tracked_at past) ts)) (each_all (λ y. number_lt (number x) (number y)) ts below) below
      (found tracked ts (and_right (list_all (λ y. number_lt (number x) (number y)) ts) (is_ascending ts) up)) (p (tracked_at past x)) refl is

tracked_are : (past : List Event) → tracked_tasks past ≡ map (tracked_at past) (tasks past)
unfolding tracked_tasks
tracked_are past = refl

not_any_step : (f : TrackedTask → Bool) (past : List Event) (x : Task) (ts : List Task) (rest : Bool) → (not rest ≡ true → Each (λ y. f (tracked_at past y) ≡ false) ts) → (b : Bool) → f (tracked_at past x) ≡ b → not (b || rest) ≡ true → Each (λ y. f (tracked_at past y) ≡ false) (x ∷ ts)
not_any_step f past x ts rest go true is k = cc
not_any_step f past x ts rest go false is k = (is, go k)

not_any : (f : TrackedTask → Bool) (past : List Event) (ts : List Task) → not (list_any f (map (tracked_at past) ts)) ≡ true → Each (λ x. f (tracked_at past x) ≡ false) ts
not_any f past [] h = tt
not_any f past (x ∷ ts) h = not_any_step f past x ts (list_any f (map (tracked_at past) ts)) (not_any f past ts) (f (tracked_at past x)) refl h

module _ (config : Config) (past : List Event) where
  -- what is taken
  taken_by : (worker : ℕ) (now : ℤ) (turn : JobUpdate) (o : Option TrackedTask) → next_task config.workers (tracked_tasks past) worker ≡ o → update_by_take now (take_reply config past worker o) ≡ Some turn → Taken past turn
  unfolding next_task
  taken_by worker now turn None is told = absurd (idle (is_halted past && is_clear config.workers (tracked_tasks past) worker) told)
    where
      idle : (b : Bool) → update_by_take now (cond b reply.HaltSeen reply.Idle) ≡ Some turn → ⊥
      idle true h = cc
      idle false h = cc
  taken_by worker now turn (Some tracked) is told = made (is_skipped (fib past) tracked.task.job.work) refl told
    where
      here : IsFound past (λ s. on_shard config.workers worker s.task && is_waiting s.outcome && not (is_blocked (tracked_tasks past) s.task)) tracked (tasks past)
      here = found past (λ s. on_shard config.workers worker s.task && is_waiting s.outcome && not (is_blocked (tracked_tasks past) s.task)) tracked (tasks past) (ascend past) (ap (find (λ s. on_shard config.workers worker s.task && is_waiting s.outcome && not (is_blocked (tracked_tasks past) s.task))) (sym (tracked_are past)) ∙ is)

      two : on_shard config.workers worker tracked.task && is_waiting tracked.outcome ≡ true
      two = and_left (on_shard config.workers worker tracked.task && is_waiting tracked.outcome) (not (is_blocked (tracked_tasks past) tracked.task)) here.passes

      waits : is_waiting (outcome_of past (number tracked.task)) ≡ true
      waits = ap is_waiting (sym here.outcome_is) ∙ and_right (on_shard config.workers worker tracked.task) (is_waiting tracked.outcome) two

      unblocked : Each (λ other. is_undone (outcome_of past (number other)) && number_lt (number other) (number tracked.task) && conflict other tracked.task ≡ false) (tasks past)
      unblocked =
          not_any (λ s. is_undone s.outcome && number_lt s.task.job.number (number tracked.task) && conflict s.task tracked.task) past (tasks past)
          (ap (λ board. not (list_any (λ s. is_undone s.outcome && number_lt s.task.job.number (number tracked.task) && conflict s.task tracked.task) board)) (sym (tracked_are past))
          ∙ and_right (on_shard config.workers worker tracked.task && is_waiting tracked.outcome) (not (is_blocked (tracked_tasks past) tracked.task)) here.passes)

      with_outcome : (outcome : Outcome) → is_programmed outcome ≡ false → is_skipped (fib past) tracked.task.job.work ≡ not (is_out outcome) → Taken past (record { number = tracked.task.job.number; outcome = outcome; now = now })
      with_outcome outcome left told = record {
        task = tracked.task;
        of_it = refl;
        waited = waits;
        older = here.each (is_older (length past)) (tasks_older past);
        free = unblocked;
        only = here.only;
        not_done = left;
        told = told;
        front = here.front;
        back = here.back;
        parts = here.parts;
      }

      made : (b : Bool) → is_skipped (fib past) tracked.task.job.work ≡ b → update_by_take now (cond b (reply.Skipped tracked.task.job.number) (reply.Given tracked.task.job)) ≡ Some turn → Taken past turn
      made true skipped h = let one : record { number = tracked.task.job.number; outcome = PassedOver; now = now } ≡ turn = cc in rw (← one) (with_outcome PassedOver refl skipped)
      made false fine h = let one : record { number = tracked.task.job.number; outcome = Out; now = now } ≡ turn = cc in rw (← one) (with_outcome Out refl fine)

  -- what is reported
  said_by : (job : JobNumber) (said : Verdict) (now : ℤ) (turn : JobUpdate) (b : Bool) → is_out (outcome_of past job) ≡ b
      → update_of (event (Report job said now) (cond b reply.Reported reply.NotOut)) ≡ Some turn → Said past turn
  said_by job said now turn false is told = cc
  said_by job said now turn true is told =
      let one : record { number = job; outcome = reported said; now = now } ≡ turn = cc in
      rw (← one) (record { was_out = is; completes = done said })
    where
      done : (v : Verdict) → is_undone (reported v) ≡ false
      done verdict.Programmed = refl
      done verdict.DeviceFault = refl

  pub taken_is : (worker : ℕ) (now : ℤ) (r : Reply) → r ≡ reply_to config past (Take worker now) → (turn : JobUpdate) → update_by_take now r ≡ Some turn → Taken past turn
  unfolding reply_to reply_take
  taken_is worker now r told turn is = taken_by worker now turn (next_task config.workers (tracked_tasks past) worker) refl (ap (update_by_take now) (sym told) ∙ is)

  pub update_is : (command : Command) (r : Reply) → r ≡ reply_to config past command → (turn : JobUpdate) → update_of (event command r) ≡ Some turn → Taken past turn ⊎ Said past turn
  unfolding reply_to reply_take
  update_is (Take worker now) r told turn is = inl (taken_is worker now r told turn is)
  update_is (Report job said now) r told turn is = inr (said_by job said now turn (is_out (outcome_of past job)) refl (ap (λ x. update_of (event (Report job said now) x)) (sym told) ∙ is))
  update_is Begin r told turn is = cc
  update_is (SetParams session asked) r told turn is = cc
  update_is (Announce session id) r told turn is = cc
  update_is (Operate session operation now) r told turn is = cc
  update_is (Collect session) r told turn is = cc
  update_is (Leave session) r told turn is = cc
  update_is (Flush by which now) r told turn is = cc
  update_is (Select which kinds) r told turn is = cc
  update_is Halt r told turn is = cc
