-- What a worker's report leaves of its shard, and a job from its Take to its report.
use Rattle.std.proofs.Common.{◌≡◌, ◌≢◌, ℕ, ℤ, Bool, true, false, List, [], ◌∷◌, ◌++◌, Some, None, Option, refl, sym, ap, ◌∙◌, subst}
use Rattle.std.specs.Prelude.{◌+◌, ◌%◌}
use Rattle.std.proofs.Math.Nat.{mod-one}
use Rattle.aft_entries.specs.declared.entry.Entry.{Entry}
use Rattle.aft_entries.specs.declared.key.Key.{Key}
use Rattle.aft_entries.specs.Order.{key_eq, shard_of, name_number, name_length, kind_place}
use Rattle.aft_entries.proofs.OrderLemmas.{key_eq_same}
use Rattle.table_model.specs.declared.command.Command.TheVariants.{Take, Report}
use Rattle.table_model.specs.declared.command.Config.{Config}
use Rattle.table_model.specs.declared.job.Job.{Job}
use Rattle.table_model.specs.declared.job.JobNumber.{JobNumber}
use Rattle.table_model.specs.declared.job.Work.{Work}
use Rattle.table_model.specs.declared.job.Verdict.{Verdict}
use Rattle.table_model.specs.declared.job.Verdict.TheVariants as verdict
use Rattle.table_model.specs.declared.reply.Reply.{Reply}
use Rattle.table_model.specs.declared.reply.Reply.TheVariants as reply
use Rattle.table_model.specs.Event.{Event}
use Rattle.table_model.specs.Jobs.{Task, tasks, tracked_tasks, table_of, work_key, fib, effect, is_out, outcome_of}
use Rattle.table_model.specs.Laws.{event, effect_of}
use Rattle.table_model.specs.Legal.{IsLawful}
use Rattle.table_model.specs.Reply.{reply_to}
use Rattle.table_model.specs.Table.{lookup}
use Rattle.table_model.proofs.Effects.{effect_there, effect_here}
use Rattle.table_laws.proofs.Reports.{fib_next}
use Rattle.fib_worker.specs.Doing.{Does}
use Rattle.fib_worker.specs.Shards.{IsShard, HoldsShard, AreApart, OthersKeepShard, JobKeepsShard, TakesKeepShard, EmptyHoldsShard, OnlyWorkerHoldsAll}
use Rattle.fib_worker.proofs.Outs.{IsOut, out_at_once, out_stays}
use Rattle.fib_worker.proofs.Shards.{shard_stays, take_keeps}

-- a job that is out is reported
report_is : (config : Config) (number : JobNumber) (said : Verdict) (now : ℤ) (r : Reply) (past : List Event) → IsLawful config (event (Report number said now) r ∷ past) → is_out (outcome_of past number) ≡ true → r ≡ reply.Reported
unfolding reply_to
report_is config number said now r past lawful out = lawful.0 ∙ rw out refl

-- a work leaves the same at a key where the same stood
same_by : (w : Work) (key : Key) (a b : List Entry) → lookup key a ≡ lookup key b → (is_its : Bool) → key_eq key (work_key w) ≡ is_its → lookup key (effect a w) ≡ lookup key (effect b w)
same_by w key a b same true its =
    let here = key_eq_same key (work_key w) its in
    ap (λ (k : Key). lookup k (effect a w)) here ∙ (effect_here a w ∙ sym (ap (λ (k : Key). lookup k (effect b w)) here ∙ effect_here b w))
same_by w key a b same false other = effect_there key a w other ∙ (same ∙ sym (effect_there key b w other))

module _ (workers worker : ℕ) (table : List Entry) (w : Work) (on : shard_of (work_key w) workers ≡ worker) (held after : List Entry) where
  off_by : (k : Key) → shard_of k workers ≢ worker → lookup k held ≡ None → (b : Bool) → key_eq k (work_key w) ≡ b → lookup k (effect held w) ≡ None
  off_by k off none true same = absurd (off (ap (λ (x : Key). shard_of x workers) (key_eq_same k (work_key w) same) ∙ on))
  off_by k off none false other = effect_there k held w other ∙ none

  set_shard : ((k : Key) → lookup k after ≡ lookup k (effect held w)) → IsShard workers worker held table → IsShard workers worker after (effect table w)
  set_shard sets shard = record {
    there = λ k is_on. sets k ∙ same_by w k held table (shard.there k is_on) (key_eq k (work_key w)) refl;
    no_more = λ k off. sets k ∙ off_by k off (shard.no_more k off) (key_eq k (work_key w)) refl;
  }

module _ (config : Config) (worker : ℕ) (job : Job) (now : ℤ) (past : List Event) where
  abbrev shard_then : Verdict → List Entry → Type 0
  shard_then said after = IsShard config.workers worker after (fib (event (Report job.number said now) reply.Reported ∷ past))

  -- the device did what is reported: it has the shard again
  report_keeps : (said : Verdict) (held after : List Entry) → IsLawful config (event (Report job.number said now) reply.Reported ∷ past) → IsOut config.workers worker past job
      → Does said job.work (Some held) (Some after) → IsShard config.workers worker held (fib past) → shard_then said after
  report_keeps verdict.Programmed held after lawful out does shard =
      let on : shard_of (work_key job.work) config.workers ≡ worker = ap (λ (j : Job). shard_of (work_key j.work) config.workers) out.job_is ∙ out.on in
      let next : fib (event (Report job.number verdict.Programmed now) reply.Reported ∷ past) ≡ effect (fib past) job.work =
      fib_next config (event (Report job.number verdict.Programmed now) reply.Reported) past lawful
      ∙ (ap (λ (o : Option Task). effect_of o (fib past)) out.at ∙ ap (λ (j : Job). effect (fib past) j.work) (sym out.job_is)) in
      subst (λ (t : List Entry). IsShard config.workers worker after t) (sym next) (set_shard config.workers worker (fib past) job.work on held after does shard)
  report_keeps verdict.DeviceFault held after lawful out does shard =
      let same : after ≡ held = cc in
      subst (λ (t : List Entry). IsShard config.workers worker after t) (sym (fib_next config (event (Report job.number verdict.DeviceFault now) reply.Reported) past lawful))
      (subst (λ (l : List Entry). IsShard config.workers worker l (fib past)) (sym same) shard)

module _ (config : Config) (worker : ℕ) where
  front_lawful : (others past : List Event) → IsLawful config (others ++ past) → IsLawful config past
  front_lawful [] past lawful = lawful
  front_lawful (e ∷ others) past lawful = front_lawful others past lawful.1

  shard_over : (held : List Entry) (others past : List Event) → IsLawful config (others ++ past) → AreApart config.workers worker others past
      → IsShard config.workers worker held (fib past) → IsShard config.workers worker held (fib (others ++ past))
  shard_over held [] past lawful apart shard = shard
  shard_over held (e ∷ others) past lawful apart shard =
      shard_stays config worker held e.command e.reply (others ++ past) lawful apart.0 (shard_over held others past lawful.1 apart.1 shard)

  out_over : (job : Job) (others past : List Event) → IsLawful config (others ++ past) → AreApart config.workers worker others past
      → IsOut config.workers worker past job → IsOut config.workers worker (others ++ past) job
  out_over job [] past lawful apart out = out
  out_over job (e ∷ others) past lawful apart out = out_stays config worker e.command e.reply (others ++ past) job lawful apart.0 (out_over job others past lawful.1 apart.1 out)

  holds_over : (held : Option (List Entry)) (others past : List Event) → IsLawful config (others ++ past) → AreApart config.workers worker others past
      → HoldsShard config.workers worker held (fib past) → HoldsShard config.workers worker held (fib (others ++ past))
  holds_over None others past lawful apart holds = holds
  holds_over (Some held) others past lawful apart holds = shard_over held others past lawful apart holds

  -- what the device tells behind a job, where it told what it held before
  holds_by : (job : Job) (said : Verdict) (at : ℤ) (past : List Event) (before after : Option (List Entry)) → IsLawful config (event (Report job.number said at) reply.Reported ∷ past)
      → IsOut config.workers worker past job → Does said job.work before after
      → HoldsShard config.workers worker before (fib past) → HoldsShard config.workers worker after (fib (event (Report job.number said at) reply.Reported ∷ past))
  holds_by job said at past None after lawful out does holds = absurd holds
  holds_by job verdict.Programmed at past (Some held) None lawful out does holds = absurd does
  holds_by job verdict.Programmed at past (Some held) (Some now) lawful out does holds = report_keeps config worker job at past verdict.Programmed held now lawful out does holds
  holds_by job verdict.DeviceFault at past (Some held) None lawful out does holds = cc
  holds_by job verdict.DeviceFault at past (Some held) (Some now) lawful out does holds = report_keeps config worker job at past verdict.DeviceFault held now lawful out does holds

pub others_keep : (config : Config) → OthersKeepShard config
others_keep config worker held others past = holds_over config worker held others past

take_holds : (config : Config) (worker taker : ℕ) (at : ℤ) (r : Reply) (held : Option (List Entry)) (past : List Event) → IsLawful config (event (Take taker at) r ∷ past)
    → HoldsShard config.workers worker held (fib past) → HoldsShard config.workers worker held (fib (event (Take taker at) r ∷ past))
take_holds config worker taker at r None past lawful h = absurd h
take_holds config worker taker at r (Some l) past lawful h = take_keeps config worker l taker at r past lawful h

pub takes_keep : (config : Config) → TakesKeepShard config
takes_keep config worker taker at r held past = take_holds config worker taker at r held past

pub empty_holds : EmptyHoldsShard
unfolding fib tracked_tasks tasks table_of lookup
empty_holds workers worker = record { there = λ k on. refl; no_more = λ k off. refl }

pub job_keeps : (config : Config) → JobKeepsShard config
job_keeps config worker job said given_at reported_at answered others past before after lawful apart does holds =
    let given = event (Take worker given_at) (reply.Given job) in
    let lawful' = front_lawful config worker others (given ∷ past) lawful.1 in
    let taken = take_holds config worker worker given_at (reply.Given job) before past lawful' holds in
    let before_report = holds_over config worker before others (given ∷ past) lawful.1 apart taken in
    let out = out_over config worker job others (given ∷ past) lawful.1 apart (out_at_once config worker past job given_at lawful') in
    let is = report_is config job.number said reported_at answered (others ++ given ∷ past) lawful out.is_out in (
      is,
      subst (λ (r : Reply). HoldsShard config.workers worker after (fib (event (Report job.number said reported_at) r ∷ others ++ given ∷ past))) (sym is)
          (holds_by config worker job said reported_at (others ++ given ∷ past) before after
          (subst (λ (r : Reply). IsLawful config (event (Report job.number said reported_at) r ∷ others ++ given ∷ past)) is lawful) out does before_report),
    )

one_shard : (key : Key) → shard_of key 1 ≡ 0
unfolding shard_of
one_shard key = mod-one ((name_number key.name + name_length key.name) % 1 + key.instance + kind_place key.name)

pub only_worker_holds : OnlyWorkerHoldsAll
only_worker_holds held table shard key = shard.there key (one_shard key)
