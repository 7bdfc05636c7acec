-- When an operation is acknowledged, and what the table then has.
use Rattle.std.proofs.Common.{◌≡◌, ℕ, Bool, true, false, List, Some, None, Option, refl, sym, ◌∙◌}
use Rattle.std.specs.Prelude.{not, cond, ℤ, is_some}
use Rattle.aft_entries.specs.declared.entry.Entry.{Entry}
use Rattle.aft_entries.specs.declared.operation.Ask.{Ask}
use Rattle.aft_entries.specs.declared.operation.Ask.TheVariants.{Put, Remove, Bad}
use Rattle.aft_entries.specs.declared.operation.Reason.{Reason}
use Rattle.table_model.specs.declared.command.Command.TheVariants.{Operate}
use Rattle.table_model.specs.declared.command.Config.{Config}
use Rattle.table_model.specs.declared.command.Operation.{Operation}
use Rattle.table_model.specs.declared.job.Work.{Work}
use Rattle.table_model.specs.declared.job.Work.TheVariants.{Install}
use Rattle.table_model.specs.declared.job.Work.TheVariants as work
use Rattle.table_model.specs.declared.reply.Reply.{Reply}
use Rattle.table_model.specs.declared.reply.Reply.TheVariants as reply
use Rattle.table_model.specs.Event.{Event}
use Rattle.table_model.specs.Jobs.{work_key, work_of}
use Rattle.table_model.specs.Laws.{left_by, DoneWhereDue, DoneIsThere}
use Rattle.table_model.specs.Reply.{reply_to, operate_reply, reply_operate, is_halted}
use Rattle.table_model.specs.Rib.{rib, verdict}
use Rattle.table_model.specs.Sessions.{is_live, params_of}
use Rattle.table_model.specs.Table.{lookup, performed}
use Rattle.table_model.proofs.LookupLemmas.{lookup_put_same, lookup_take_out_same}

-- the four tests of an answer
abbrev by_tests : Bool → Bool → Bool → Option Reason → Reply
by_tests halted live has_params reason = cond halted reply.Stopped (cond (not live) reply.Gone (cond (not has_params) reply.NoParams (operate_reply reason)))

done_by : (halted live has_params : Bool) (reason : Option Reason) → by_tests halted live has_params reason ≡ reply.RibDone → (halted ≡ false) × (live ≡ true) × (has_params ≡ true) × (reason ≡ None)
done_by true live has_params reason h = cc
done_by false false has_params reason h = cc
done_by false true false reason h = cc
done_by false true true None h = (refl, refl, refl, refl)
done_by false true true (Some reason) h = cc

due_by : (halted live has_params : Bool) (reason : Option Reason) → (halted ≡ false) × (live ≡ true) × (has_params ≡ true) × (reason ≡ None) → by_tests halted live has_params reason ≡ reply.RibDone
due_by halted live has_params reason h = rw (h.0, h.1, h.2, h.3) refl

operate_is : (config : Config) (past : List Event) (session : ℕ) (operation : Operation) (now : ℤ)
    → reply_to config past (Operate session operation now) ≡ by_tests (is_halted past) (is_live past session) (is_some (params_of past session)) (verdict config past session operation)
unfolding reply_to reply_operate
operate_is config past session operation now = refl

pub where_due : (config : Config) → DoneWhereDue config
where_due config past session operation now = (
  λ done. done_by (is_halted past) (is_live past session) (is_some (params_of past session)) (verdict config past session operation) (sym (operate_is config past session operation now) ∙ done),
  λ due. operate_is config past session operation now ∙ due_by (is_halted past) (is_live past session) (is_some (params_of past session)) (verdict config past session operation) due,
)

there_by : (ask : Ask) (done : Work) (table : List Entry) → work_of ask ≡ Some done → lookup (work_key done) (performed ask table) ≡ left_by done
there_by (Put entry replace) done table is = let one : work.Install entry ≡ done = cc in rw (← one) (lookup_put_same entry table)
there_by (Remove key) done table is = let one : work.Remove key ≡ done = cc in rw (← one) (lookup_take_out_same key table)
there_by (Bad reason) done table is = cc

pub is_there : (config : Config) → DoneIsThere config
unfolding rib
is_there config past session operation now done lawful is = there_by operation.ask done (rib past) is
