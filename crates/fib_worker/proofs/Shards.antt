-- What events leave of a worker's shard.
use Rattle.std.proofs.Common.{◌≡◌, ◌≢◌, ℕ, ℤ, Bool, true, false, List, ◌∷◌, Some, None, Option, refl, sym, ap, ◌∙◌}
use Rattle.std.specs.Prelude.{cond, option_and_then}
use Rattle.aft_entries.specs.declared.entry.Entry.{Entry}
use Rattle.aft_entries.specs.declared.key.Key.{Key}
use Rattle.aft_entries.specs.Order.{key_eq, shard_of}
use Rattle.aft_entries.proofs.OrderLemmas.{key_eq_same}
use Rattle.table_model.specs.declared.command.Command.{Command}
use Rattle.table_model.specs.declared.command.Command.TheVariants.{Begin, SetParams, Announce, Operate, Collect, Leave, Flush, Select, Take, Report, Halt}
use Rattle.table_model.specs.declared.command.Config.{Config}
use Rattle.table_model.specs.declared.job.JobNumber.{JobNumber}
use Rattle.table_model.specs.declared.job.Verdict.{Verdict}
use Rattle.table_model.specs.declared.job.Verdict.TheVariants as verdict
use Rattle.table_model.specs.declared.reply.Reply.{Reply}
use Rattle.table_model.specs.declared.reply.Reply.TheVariants as reply
use Rattle.table_model.specs.Event.{Event, is_reported}
use Rattle.table_model.specs.Jobs.{Task, JobUpdate, tasks, task_at, work_key, fib, is_programmed, reported, update_by_take}
use Rattle.table_model.specs.Laws.{effect_of, programmed_by}
use Rattle.table_model.specs.Legal.{IsLawful}
use Rattle.table_model.specs.Table.{lookup}
use Rattle.table_laws.proofs.Reports.{fib_next}
use Rattle.table_model.proofs.Effects.{effect_there}
use Rattle.fib_worker.specs.Shards.{IsShard, IsOfShard, IsApart}

-- what an event programs is of another shard, if it programs at all
abbrev pub Elsewhere : ℕ → ℕ → Option Task → Type 0
Elsewhere workers worker None = Unit {0}
Elsewhere workers worker (Some task) = shard_of (work_key task.job.work) workers ≢ worker

taken_programs : (workers worker : ℕ) (made : List Task) (now : ℤ) (r : Reply)
    → Elsewhere workers worker (option_and_then (λ (turn : JobUpdate). cond (is_programmed turn.outcome) (task_at turn.number made) None) (update_by_take now r))
taken_programs workers worker made now (reply.Given job) = tt
taken_programs workers worker made now (reply.Skipped number) = tt
taken_programs workers worker made now _ = tt

elsewhere_of : (workers worker : ℕ) (found : Option Task) → (IsOfShard workers worker found → ⊥) → Elsewhere workers worker found
elsewhere_of workers worker None apart = tt
elsewhere_of workers worker (Some task) apart = apart

reported_programs : (workers worker : ℕ) (made : List Task) (number : JobNumber) (said : Verdict) (now : ℤ) (b : Bool) → (IsOfShard workers worker (task_at number made) → ⊥)
    → Elsewhere workers worker (option_and_then (λ (turn : JobUpdate). cond (is_programmed turn.outcome) (task_at turn.number made) None) (cond b (Some (record { number = number; outcome = reported said; now = now })) None))
reported_programs workers worker made number verdict.Programmed now true apart = elsewhere_of workers worker (task_at number made) apart
reported_programs workers worker made number verdict.DeviceFault now true apart = tt
reported_programs workers worker made number said now false apart = tt

pub elsewhere : (workers worker : ℕ) (past : List Event) (c : Command) (r : Reply) → IsApart workers worker past c → Elsewhere workers worker (programmed_by past (record { command = c; reply = r }))
elsewhere workers worker past (Take other now) r apart = taken_programs workers worker (tasks past) now r
elsewhere workers worker past (Report number said now) r apart = reported_programs workers worker (tasks past) number said now (is_reported r) apart
elsewhere workers worker past Begin r apart = tt
elsewhere workers worker past (SetParams session asked) r apart = tt
elsewhere workers worker past (Announce session id) r apart = tt
elsewhere workers worker past (Operate session operation now) r apart = tt
elsewhere workers worker past (Collect session) r apart = tt
elsewhere workers worker past (Leave session) r apart = tt
elsewhere workers worker past (Flush by which now) r apart = tt
elsewhere workers worker past (Select which kinds) r apart = tt
elsewhere workers worker past Halt r apart = tt

other_key : (workers worker : ℕ) (k other : Key) → shard_of k workers ≡ worker → shard_of other workers ≢ worker → (b : Bool) → key_eq k other ≡ b → b ≡ false
other_key workers worker k other on off false is = refl
other_key workers worker k other on off true is = absurd (off (ap (λ (x : Key). shard_of x workers) (sym (key_eq_same k other is)) ∙ on))

effect_elsewhere : (workers worker : ℕ) (key : Key) (table : List Entry) (found : Option Task) → shard_of key workers ≡ worker → Elsewhere workers worker found → lookup key (effect_of found table) ≡ lookup key table
effect_elsewhere workers worker key table None on off = refl
effect_elsewhere workers worker key table (Some task) on off = effect_there key table task.job.work (other_key workers worker key (work_key task.job.work) on off (key_eq key (work_key task.job.work)) refl)

-- an event that is no Take or Report for the shard leaves the shard
pub shard_stays : (config : Config) (worker : ℕ) (held : List Entry) (c : Command) (r : Reply) (past : List Event)
    → IsLawful config (record { command = c; reply = r } ∷ past) → IsApart config.workers worker past c
    → IsShard config.workers worker held (fib past) → IsShard config.workers worker held (fib (record { command = c; reply = r } ∷ past))
shard_stays config worker held c r past lawful apart shard = record {
  there = λ key on. shard.there key on ∙ sym (ap (λ (t : List Entry). lookup key t) (fib_next config (record { command = c; reply = r }) past lawful) ∙ effect_elsewhere config.workers worker key (fib past) (programmed_by past (record { command = c; reply = r })) on (elsewhere config.workers worker past c r apart));
  no_more = shard.no_more;
}

-- a Take programs nothing
pub take_keeps : (config : Config) (worker : ℕ) (held : List Entry) (other : ℕ) (now : ℤ) (r : Reply) (past : List Event)
    → IsLawful config (record { command = Take other now; reply = r } ∷ past)
    → IsShard config.workers worker held (fib past) → IsShard config.workers worker held (fib (record { command = Take other now; reply = r } ∷ past))
take_keeps config worker held other now r past lawful shard = record {
  there = λ key on. shard.there key on ∙ sym (ap (λ (t : List Entry). lookup key t) (fib_next config (record { command = Take other now; reply = r }) past lawful) ∙ effect_elsewhere config.workers worker key (fib past) (programmed_by past (record { command = Take other now; reply = r })) on (taken_programs config.workers worker (tasks past) now r));
  no_more = shard.no_more;
}
