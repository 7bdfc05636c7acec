-- What a worker's own calls leave of the shard that its device holds.
use Rattle.std.proofs.Common.{◌≡◌, ℕ, ℤ, Bool, true, false, List, [], ◌∷◌, ◌++◌, length, refl, sym, ap, ◌∙◌, subst, append_assoc, inl, inr}
use Rattle.std.specs.Prelude.{cond, drop}
use Rattle.table_model.specs.declared.command.Command.{Command}
use Rattle.table_model.specs.declared.command.Command.TheVariants.{Take, Report}
use Rattle.table_model.specs.declared.command.Config.{Config}
use Rattle.table_model.specs.declared.job.Job.{Job}
use Rattle.table_model.specs.declared.job.JobNumber.{JobNumber}
use Rattle.table_model.specs.declared.job.Verdict.{Verdict}
use Rattle.table_model.specs.declared.reply.Reply.{Reply}
use Rattle.table_model.specs.declared.reply.Reply.TheVariants as reply
use Rattle.table_model.specs.Event.{Event, events, is_no_memory}
use Rattle.table_model.specs.Jobs.{fib, is_out, outcome_of}
use Rattle.table_model.specs.Reply.{reply_to}
use Rattle.table_model.specs.Laws.{event}
use Rattle.table_model.specs.Legal as history
use Rattle.table_model.specs.Legal.{Legal, IsAnswer}
use Rattle.table_model.proofs.Lawful.{lawful_events}
use Rattle.fib_worker.specs.Doing.{Does}
use Rattle.fib_worker.specs.Shards.{AreApart, HoldsShard, OthersKeepShard, TakesKeepShard, JobKeepsShard}
use Rattle.table_lock.specs.Lock.{calls_of, entry}
use Rattle.table_lock.specs.Passes.{PassView, IsSound, IsCalled}
use Rattle.rib_core.specs.Recorded.{IsLawful, recorded}
use Rattle.table_workers.specs.Working.{Calls, Contents, KeepsShard, OthersAreApart}
use Rattle.table_workers.proofs.Chains.{recorded_onto, recorded_append, onto_append, legal_front, AllApart, behind, NoneOwn, all_apart, others_front, others_back}
use Rattle.table_workers.proofs.Own.{own_between, since, drop_front, number_is}

-- a report's answer is an event's
out_counts : (b : Bool) → is_no_memory (cond b reply.Reported reply.NotOut) ≡ false
out_counts true = refl
out_counts false = refl

report_counts : (config : Config) (number : JobNumber) (said : Verdict) (at : ℤ) (answered : Reply) (past : List Event) → IsAnswer config past (event (Report number said at) answered) → is_no_memory answered ≡ false
unfolding reply_to
report_counts config number said at answered past (inl is) = ap is_no_memory is ∙ out_counts (is_out (outcome_of past number))
report_counts config number said at answered past (inr lacks) = cc (lacks.1)

module _ (config : Config) (worker : ℕ) (others_keep : OthersKeepShard config) (takes_keep : TakesKeepShard config) (job_keeps : JobKeepsShard config) where
  abbrev Holds : Contents → List Event → Type 0
  Holds held past = HoldsShard config.workers worker held (fib (events past))

  -- a stretch of calls that are apart
  holds_over : (held : Contents) (calls : Calls) (past : List Event) → Legal config (recorded_onto past calls) → AllApart config.workers worker past calls → Holds held past → Holds held (recorded_onto past calls)
  holds_over held calls past legal apart holds =
      let p = behind config worker calls past legal apart in
      subst (λ (l : List Event). HoldsShard config.workers worker held (fib l)) (sym p.1)
      (others_keep worker held p.0 (events past) (subst (λ (l : List Event). history.IsLawful config l) p.1 (lawful_events config (recorded_onto past calls) legal)) p.2 holds)

  take_step : (held : Contents) (at : ℤ) (r : Reply) (past : List Event) (b : Bool) → is_no_memory r ≡ b → history.IsLawful config (cond b (events past) (event (Take worker at) r ∷ events past))
      → Holds held past → HoldsShard config.workers worker held (fib (cond b (events past) (event (Take worker at) r ∷ events past)))
  take_step held at r past true is lawful holds = holds
  take_step held at r past false is lawful holds = takes_keep worker worker at r held (events past) lawful holds

  take_holds : (held : Contents) (at : ℤ) (r : Reply) (past : List Event) → Legal config (event (Take worker at) r ∷ past) → Holds held past → Holds held (event (Take worker at) r ∷ past)
  unfolding events
  take_holds held at r past legal holds = take_step held at r past (is_no_memory r) refl (lawful_events config (event (Take worker at) r ∷ past) legal) holds

  -- a job, from its Take to its Report
  job_by : (job : Job) (said : Verdict) (taken_at reported_at : ℤ) (answered : Reply) (before after : Contents) (others past now : List Event) (b : Bool) → b ≡ false
      → now ≡ others ++ event (Take worker taken_at) (reply.Given job) ∷ past
      → history.IsLawful config (cond b now (event (Report job.number said reported_at) answered ∷ now))
      → AreApart config.workers worker others (event (Take worker taken_at) (reply.Given job) ∷ past) → Does said job.work before after
      → HoldsShard config.workers worker before (fib past) → HoldsShard config.workers worker after (fib (cond b now (event (Report job.number said reported_at) answered ∷ now)))
  job_by job said taken_at reported_at answered before after others past now true never is lawful apart does holds = cc
  job_by job said taken_at reported_at answered before after others past now false never is lawful apart does holds =
      subst (λ (l : List Event). HoldsShard config.workers worker after (fib (event (Report job.number said reported_at) answered ∷ l))) (sym is)
      (job_keeps worker job said taken_at reported_at answered others past before after
      (subst (λ (l : List Event). history.IsLawful config (event (Report job.number said reported_at) answered ∷ l)) is lawful) apart does holds).1

  job_holds : (job : Job) (said : Verdict) (taken_at reported_at : ℤ) (answered : Reply) (before after : Contents) (calls : Calls) (past : List Event)
      → Legal config (event (Report job.number said reported_at) answered ∷ recorded_onto (event (Take worker taken_at) (reply.Given job) ∷ past) calls)
      → AllApart config.workers worker (event (Take worker taken_at) (reply.Given job) ∷ past) calls → Does said job.work before after
      → Holds before past → Holds after (event (Report job.number said reported_at) answered ∷ recorded_onto (event (Take worker taken_at) (reply.Given job) ∷ past) calls)
  unfolding events
  job_holds job said taken_at reported_at answered before after calls past legal apart does holds =
      let given = event (Take worker taken_at) (reply.Given job) in
      let p = behind config worker calls (given ∷ past) legal.1 apart in
      job_by job said taken_at reported_at answered before after p.0 (events past) (events (recorded_onto (given ∷ past) calls)) (is_no_memory answered)
      (report_counts config job.number said reported_at answered (events (recorded_onto (given ∷ past) calls)) legal.0) p.1
      (lawful_events config (event (Report job.number said reported_at) answered ∷ recorded_onto (given ∷ past) calls) legal) p.2 does holds

  -- one own call behind a stretch of others
  pub take_keeps : (p q : PassView Command Reply Config) (at : ℤ) (r : Reply) (held : Contents) → IsSound IsLawful config p → IsCalled IsLawful config p q (Take worker at) r
      → KeepsShard config worker p.number p.seen q.seen held held
  take_keeps p q at r held sound h holds others =
      let me = p.number in
      let past = recorded p.seen in
      let own = entry me (Take worker at) r ∷ [] in
      let rest = h.between ++ own in
      let seen_is = since config p q (Take worker at) r h in
      let told_is : recorded q.seen ≡ recorded_onto past rest = ap (λ (l : Calls). recorded l) seen_is ∙ recorded_append p.seen rest in
      let last_is : recorded_onto past rest ≡ event (Take worker at) r ∷ recorded_onto past h.between = onto_append past h.between own in
      let legal' = subst (λ (l : List Event). Legal config l) (told_is ∙ last_is) h.legal in
      let others' = subst (λ (l : Calls). OthersAreApart config.workers worker me past l) (ap (drop (length p.seen)) seen_is ∙ drop_front p.seen rest) others in
      let apart = all_apart config.workers worker me h.between past (own_between config p q (Take worker at) r sound h) (others_front config.workers worker me h.between own past others') in
      subst (λ (l : List Event). Holds held l) (sym (told_is ∙ last_is))
      (take_holds held at r (recorded_onto past h.between) legal' (holds_over held h.between past legal'.1 apart holds))

  pub job_keeps_all : (p q r : PassView Command Reply Config) (taken_at reported_at : ℤ) (job : Job) (said : Verdict) (answered : Reply) (before after : Contents) → IsSound IsLawful config p
      → IsCalled IsLawful config p q (Take worker taken_at) (reply.Given job) → IsCalled IsLawful config q r (Report job.number said reported_at) answered
      → Does said job.work before after → KeepsShard config worker p.number p.seen r.seen before after
  job_keeps_all p q r taken_at reported_at job said answered before after sound one two does holds others =
      let me = p.number in
      let past = recorded p.seen in
      let same = number_is config p q (Take worker taken_at) (reply.Given job) one in
      let given = event (Take worker taken_at) (reply.Given job) in
      let told = event (Report job.number said reported_at) answered in
      let own1 = entry me (Take worker taken_at) (reply.Given job) ∷ [] in
      let own2 = entry q.number (Report job.number said reported_at) answered ∷ [] in
      let xs = one.between ++ own1 in
      let ys = two.between ++ own2 in
      let seen1 = since config p q (Take worker taken_at) (reply.Given job) one in
      let seen2 = since config q r (Report job.number said reported_at) answered two in
      let whole : r.seen ≡ p.seen ++ (xs ++ ys) = seen2 ∙ (ap (λ (l : Calls). l ++ ys) seen1 ∙ append_assoc p.seen xs ys) in
      let others' : OthersAreApart config.workers worker me past (xs ++ ys) =
      subst (λ (l : Calls). OthersAreApart config.workers worker me past l) (ap (drop (length p.seen)) whole ∙ drop_front p.seen (xs ++ ys)) others in
      let h0 = recorded_onto past one.between in
      let at1 : recorded_onto past xs ≡ given ∷ h0 = onto_append past one.between own1 in
      let at2 : recorded r.seen ≡ told ∷ recorded_onto (given ∷ h0) two.between =
      ap (λ (l : Calls). recorded l) whole ∙ (recorded_append p.seen (xs ++ ys) ∙ (onto_append past xs ys
      ∙ (ap (λ (l : List Event). recorded_onto l ys) at1 ∙ onto_append (given ∷ h0) two.between own2))) in
      let legal2 : Legal config (told ∷ recorded_onto (given ∷ h0) two.between) = subst (λ (l : List Event). Legal config l) at2 two.legal in
      let legal1 : Legal config (given ∷ h0) = legal_front config two.between (given ∷ h0) legal2.1 in
      let apart1 = all_apart config.workers worker me one.between past (own_between config p q (Take worker taken_at) (reply.Given job) sound one)
      (others_front config.workers worker me one.between own1 past (others_front config.workers worker me xs ys past others')) in
      let sound1 : IsSound IsLawful config q = record { legal = one.legal; own = subst (λ (n : ℕ). calls_of n q.seen ≡ q.mine) (sym same) one.own } in
      let none2 : NoneOwn me two.between = subst (λ (n : ℕ). NoneOwn n two.between) same (own_between config q r (Report job.number said reported_at) answered sound1 two) in
      let back : OthersAreApart config.workers worker me (given ∷ h0) ys = subst (λ (l : List Event). OthersAreApart config.workers worker me l ys) at1 (others_back config.workers worker me xs ys past others') in
      let apart2 = all_apart config.workers worker me two.between (given ∷ h0) none2 (others_front config.workers worker me two.between own2 (given ∷ h0) back) in
      subst (λ (l : List Event). Holds after l) (sym at2)
      (job_holds job said taken_at reported_at answered before after two.between h0 legal2 apart2 does (holds_over before one.between past legal1.1 apart1 holds))
