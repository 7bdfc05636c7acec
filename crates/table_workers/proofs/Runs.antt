-- A run, step by step.
use Rattle.std.proofs.Common.{◌≡◌, ℕ, ◌+◌, ◌-◌, ◌^◌, ◌<◌, ◌≤◌, Bool, true, false, List, [], ◌∷◌, ◌++◌, length, Some, None, Option, refl, sym, ap, ◌∙◌, inl, inr, subst, append_assoc, arith}
use Rattle.std.specs.Prelude.{drop}
use Rattle.table_model.specs.declared.command.Command.{Command}
use Rattle.table_model.specs.declared.command.Command.TheVariants.{Take}
use Rattle.table_model.specs.declared.command.Config.{Config}
use Rattle.table_model.specs.declared.job.Job.{Job}
use Rattle.table_model.specs.declared.reply.Reply.{Reply}
use Rattle.table_model.specs.declared.reply.Reply.TheVariants as reply
use Rattle.table_model.specs.Event.{Event}
use Rattle.table_lock.specs.Lock.{entry}
use Rattle.table_lock.specs.Passes.{PassView, IsSound, Makes}
use Rattle.table_lock.proofs.Extends.{extended_none, extended_more}
use Rattle.rib_core.specs.Recorded.{IsLawful, recorded}
use Rattle.table_workers.specs.declared.run.WorkerEnd.TheVariants as end
use Rattle.table_workers.specs.declared.step.Stepped.{Stepped}
use Rattle.table_workers.specs.declared.step.Stepped.TheVariants.{Programmed, DeviceFailed, Skipped, Idle, Halted, Spent}
use Rattle.table_workers.specs.Working.{Calls, Contents, KeepsShard, OthersAreApart, AreOfWorker, given_job, IsAhead, Works, StepCalls, is_spent, Counts, faults_told, SeesNoHalt, RunCalls}
use Rattle.table_workers.proofs.Chains.{recorded_onto, recorded_append, others_front, others_back}
use Rattle.table_workers.proofs.Own.{drop_front}
use Rattle.table_workers.proofs.Whole.{keeps_none, sound_spent, Stepping}

no_halt_both : (xs ys : Calls) → SeesNoHalt xs → SeesNoHalt ys → SeesNoHalt (xs ++ ys)
no_halt_both [] ys a b = b
no_halt_both (x ∷ xs) ys a b = (a.0, no_halt_both xs ys a.1 b)

faults_both : (xs ys : Calls) → faults_told (xs ++ ys) ≡ faults_told xs + faults_told ys
faults_both [] ys = omega arith
faults_both (x ∷ xs) ys = omega (arith, faults_both xs ys)

-- a worker's calls, one stretch after the other
worker_both : (worker : ℕ) (first then left : Option Job) (xs ys : Calls) → AreOfWorker worker first xs then → AreOfWorker worker then ys left → AreOfWorker worker first (xs ++ ys) left
worker_both worker first then left [] ys a b = subst (λ (o : Option Job). AreOfWorker worker o ys left) a b
worker_both worker None then left (x ∷ xs) ys a b = (a.0, a.1, worker_both worker (given_job x.reply) then left xs ys a.2 b)
worker_both worker (Some job) then left (x ∷ xs) ys a b = (a.0, a.1, a.2, worker_both worker None then left xs ys a.3 b)

-- what two stretches keep, one after the other
keeps_both : (config : Config) (worker me : ℕ) (a b c : Contents) (p q r xs ys : Calls) → q ≡ p ++ xs → r ≡ q ++ ys
    → KeepsShard config worker me p q a b → KeepsShard config worker me q r b c → KeepsShard config worker me p r a c
keeps_both config worker me a b c p q r xs ys one two first second holds others =
    let whole : r ≡ p ++ (xs ++ ys) = two ∙ (ap (λ (l : Calls). l ++ ys) one ∙ append_assoc p xs ys) in
    let others' : OthersAreApart config.workers worker me (recorded p) (xs ++ ys) =
    subst (λ (l : Calls). OthersAreApart config.workers worker me (recorded p) l) (ap (drop (length p)) whole ∙ drop_front p (xs ++ ys)) others in
    let first_rest : xs ≡ drop (length p) q = sym (ap (drop (length p)) one ∙ drop_front p xs) in
    let second_rest : ys ≡ drop (length q) r = sym (ap (drop (length q)) two ∙ drop_front q ys) in
    let there : recorded_onto (recorded p) xs ≡ recorded q = sym (ap (λ (l : Calls). recorded l) one ∙ recorded_append p xs) in
    second
    (first holds (subst (λ (l : Calls). OthersAreApart config.workers worker me (recorded p) l) first_rest (others_front config.workers worker me xs ys (recorded p) others')))
    (subst (λ (l : Calls). OthersAreApart config.workers worker me (recorded q) l) second_rest
    (subst (λ (l : List Event). OthersAreApart config.workers worker me l ys) there (others_back config.workers worker me xs ys (recorded p) others')))

module _ (config : Config) where
  -- what calls make of a pass
  pub makes_number : (spent : Bool) (p q : PassView Command Reply Config) (calls : Calls) → Makes IsLawful config spent p q calls → q.number ≡ p.number
  makes_number false p q calls m = m.same.2
  makes_number true p q calls m = ap (λ (k : PassView Command Reply Config). k.number) m.2 ∙ m.1.same.2

  pub makes_sound : (spent : Bool) (p q : PassView Command Reply Config) (calls : Calls) → Makes IsLawful config spent p q calls → IsSound IsLawful config q
  makes_sound false p q calls m = m.sound
  makes_sound true p q calls m = sound_spent config m.0 q m.2 m.1.sound

  makes_seen : (spent : Bool) (p q : PassView Command Reply Config) (calls : Calls) → Makes IsLawful config spent p q calls → (xs : Calls) × (q.seen ≡ p.seen ++ xs)
  makes_seen false p q calls m = (m.seen.0, sym m.seen.1)
  makes_seen true p q calls m = (m.1.seen.0, ap (λ (k : PassView Command Reply Config). k.seen) m.2 ∙ sym m.1.seen.1)

  makes_both : (spent : Bool) (p q r : PassView Command Reply Config) (xs ys : Calls) → Makes IsLawful config false p q xs → Makes IsLawful config spent q r ys → Makes IsLawful config spent p r (xs ++ ys)
  makes_both false p q r xs ys a b = extended_more IsLawful config p q r xs ys a b
  makes_both true p q r xs ys a b = (b.0, extended_more IsLawful config p q b.0 xs ys a b.1, b.2, b.3)

  now_is : (left : Option Job) (reported now : Contents) → left ≡ None → IsAhead left reported now → now ≡ reported
  now_is None reported now none ahead = ahead
  now_is (Some job) reported now none ahead = cc

  module _ (worker : ℕ) where
    pub works_none : (p : PassView Command Reply Config) (held : Contents) → IsSound IsLawful config p → Works config worker false p p held held []
    works_none p held sound = record {
      made = extended_none IsLawful config p sound;
      left = None;
      theirs = refl;
      none_left = λ e. refl;
      reported = held;
      keeps = keeps_none config worker p.number p.seen held;
      ahead = refl;
    }

    pub works_both : (spent : Bool) (p q r : PassView Command Reply Config) (a b c : Contents) (xs ys : Calls) → Works config worker false p q a b xs → Works config worker spent q r b c ys
        → Works config worker spent p r a c (xs ++ ys)
    works_both spent p q r a b c xs ys one two =
        let same : q.number ≡ p.number = makes_number false p q xs one.made in
        let none : one.left ≡ None = one.none_left refl in
        let seen1 = makes_seen false p q xs one.made in
        let seen2 = makes_seen spent q r ys two.made in
        let first : KeepsShard config worker p.number p.seen q.seen a b =
        subst (λ (o : Contents). KeepsShard config worker p.number p.seen q.seen a o) (sym (now_is one.left one.reported b none one.ahead)) one.keeps in
        record {
          made = makes_both spent p q r xs ys one.made two.made;
          left = two.left;
          theirs = worker_both worker None None two.left xs ys (subst (λ (o : Option Job). AreOfWorker worker None xs o) none one.theirs) two.theirs;
          none_left = two.none_left;
          reported = two.reported;
          keeps = keeps_both config worker p.number a b two.reported p.seen q.seen r.seen seen1.0 seen2.0 seen1.1 seen2.1 first
              (subst (λ (n : ℕ). KeepsShard config worker n q.seen r.seen b two.reported) same two.keeps);
          ahead = two.ahead;
        }

-- what a step's calls count
module _ (worker me : ℕ) where
  step_no_halt : (s : Stepped) (a b : Contents) (calls : Calls) → (s ≡ Halted → ⊥) → StepCalls s worker me a b calls → SeesNoHalt calls
  step_no_halt Programmed a b calls other c = subst SeesNoHalt (sym c.calls_are) ((λ is. cc), (tt, tt))
  step_no_halt DeviceFailed a b calls other c = subst SeesNoHalt (sym c.calls_are) ((λ is. cc), (tt, tt))
  step_no_halt Skipped a b calls other c = subst SeesNoHalt (sym c.1.calls_are) ((λ is. cc), tt)
  step_no_halt Idle a b calls other c = subst SeesNoHalt (sym c.calls_are) ((λ is. cc), tt)
  step_no_halt Halted a b calls other c = absurd (other refl)
  step_no_halt Spent a b calls other (inl none) = subst SeesNoHalt (sym none) tt
  step_no_halt Spent a b calls other (inr given) = subst SeesNoHalt (sym given.1.calls_are) ((λ is. cc), tt)

  counted_none : (before now : ℕ) (calls : Calls) → faults_told calls ≡ 0 → before ≤ now → now < 2 ^ 64 - 1 → before + faults_told calls ≤ now
  counted_none before now calls none le small = omega (arith, none)

  step_faults : (s : Stepped) (a b : Contents) (calls : Calls) (before now : ℕ) → Counts before now (s ≡ DeviceFailed) → StepCalls s worker me a b calls → now < 2 ^ 64 - 1 → before + faults_told calls ≤ now
  step_faults Programmed a b calls before now k c small = counted_none before now calls (ap faults_told c.calls_are) k.later small
  step_faults DeviceFailed a b calls before now k c small = let one : faults_told calls ≡ 1 = ap faults_told c.calls_are in let rose = k.rose refl in omega (arith, one, rose)
  step_faults Skipped a b calls before now k c small = counted_none before now calls (ap faults_told c.1.calls_are) k.later small
  step_faults Idle a b calls before now k c small = counted_none before now calls (ap faults_told c.calls_are) k.later small
  step_faults Halted a b calls before now k c small = counted_none before now calls (ap faults_told c.calls_are) k.later small
  step_faults Spent a b calls before now k (inl none) small = counted_none before now calls (ap faults_told none) k.later small
  step_faults Spent a b calls before now k (inr given) small = counted_none before now calls (ap faults_told given.1.calls_are) k.later small

faults_more : (first before now : ℕ) (xs ys : Calls) → (before < 2 ^ 64 - 1 → first + faults_told xs ≤ before) → (now < 2 ^ 64 - 1 → before + faults_told ys ≤ now) → before ≤ now → now < 2 ^ 64 - 1
    → first + faults_told (xs ++ ys) ≤ now
faults_more first before now xs ys a b le small = let left = a (omega arith) in let right = b small in omega (arith, left, right, faults_both xs ys)

-- a run so far, of steps that were neither Halted nor Spent
abbrev pub RunsSoFar : Config → ℕ → PassView Command Reply Config → PassView Command Reply Config → Contents → Contents → ℕ → ℕ → Type 0
RunsSoFar config worker p q a b before now =
    (calls : Calls) × Works config worker false p q a b calls × SeesNoHalt calls × (now < 2 ^ 64 - 1 → before + faults_told calls ≤ now)

pub goes_on : (s : Stepped) → (s ≡ Spent → ⊥) → is_spent s ≡ false
goes_on Spent other = absurd (other refl)
goes_on Programmed other = refl
goes_on DeviceFailed other = refl
goes_on Skipped other = refl
goes_on Idle other = refl
goes_on Halted other = refl

module _ (config : Config) (worker : ℕ) where
  pub runs_none : (first p : PassView Command Reply Config) (held : Contents) (n : ℕ) → p ≡ first → IsSound IsLawful config p → RunsSoFar config worker first p held held n n
  runs_none first p held n same sound =
      subst (λ (k : PassView Command Reply Config). RunsSoFar config worker k p held held n n) same ([], works_none config worker p held sound, tt, λ small. omega arith)

  module _ (p q r : PassView Command Reply Config) (a b c : Contents) (first before now : ℕ) (runs : RunsSoFar config worker p q a b first before) where
    -- one step more
    pub runs_more : (s : Stepped) → is_spent s ≡ false → (s ≡ Halted → ⊥) → Stepping config worker s q r b c → Counts before now (s ≡ DeviceFailed) → RunsSoFar config worker p r a c first now
    runs_more s goes other step k = (
      runs.0 ++ step.0,
      works_both config worker false p q r a b c runs.0 step.0 runs.1 (subst (λ (t : Bool). Works config worker t q r b c step.0) goes step.1),
      no_halt_both runs.0 step.0 runs.2 (step_no_halt worker q.number s b c step.0 other step.2),
      faults_more first before now runs.0 step.0 runs.3 (step_faults worker q.number s b c step.0 before now k step.2) k.later,
    )

    -- the last step was Halted
    pub runs_halted : Stepping config worker Halted q r b c → Counts before now (Halted ≡ DeviceFailed)
        → (calls : Calls) × Works config worker false p r a c calls × RunCalls end.Halted worker p.number calls × (now < 2 ^ 64 - 1 → first + faults_told calls ≤ now)
    runs_halted step k = (
      runs.0 ++ step.0,
      works_both config worker false p q r a b c runs.0 step.0 runs.1 step.1,
      (runs.0, step.2.at, ap (λ (l : Calls). runs.0 ++ l) (step.2.calls_are ∙ ap (λ (n : ℕ). entry n (Take worker step.2.at) reply.HaltSeen ∷ []) (makes_number config false p q runs.0 runs.1.made)), runs.2),
      faults_more first before now runs.0 step.0 runs.3 (step_faults worker q.number Halted b c step.0 before now k step.2) k.later,
    )

    -- the last step was Spent
    pub runs_spent : Stepping config worker Spent q r b c → Counts before now (Spent ≡ DeviceFailed)
        → (calls : Calls) × Works config worker true p r a c calls × RunCalls end.Spent worker p.number calls × (now < 2 ^ 64 - 1 → first + faults_told calls ≤ now)
    runs_spent step k = (
      runs.0 ++ step.0,
      works_both config worker true p q r a b c runs.0 step.0 runs.1 step.1,
      no_halt_both runs.0 step.0 runs.2 (step_no_halt worker q.number Spent b c step.0 (λ is. cc) step.2),
      faults_more first before now runs.0 step.0 runs.3 (step_faults worker q.number Spent b c step.0 before now k step.2) k.later,
    )
