-- What holds of the empty table, and is kept by operations that aren't refused and by Flushes, holds of the table of each lawful history.
use Rattle.std.proofs.Common.{◌≡◌, ℕ, Bool, true, false, List, [], ◌∷◌, Some, None, Option, refl, sym}
use Rattle.std.specs.Prelude.{not, ◌&&◌, cond, ℤ, is_some}
use Rattle.table_model.specs.Sessions.{params_of}
use Rattle.aft_entries.specs.declared.entry.Entry.{Entry}
use Rattle.aft_entries.specs.declared.operation.Ask.{Ask}
use Rattle.aft_entries.specs.declared.operation.Reason.{Reason}
use Rattle.table_model.specs.declared.command.Command.{Command}
use Rattle.table_model.specs.declared.command.Command.TheVariants.{Begin, SetParams, Announce, Operate, Collect, Leave, Flush, Select, Take, Report, Halt}
use Rattle.table_model.specs.declared.command.Config.{Config}
use Rattle.table_model.specs.declared.command.Operation.{Operation}
use Rattle.table_model.specs.declared.reply.Reply.{Reply}
use Rattle.table_model.specs.declared.reply.Reply.TheVariants as reply
use Rattle.table_model.specs.Event.{Event, is_done, is_left, is_flushed}
use Rattle.table_model.specs.Legal.{IsLawful, is_well_formed, is_well_formed_ask}
use Rattle.table_model.specs.Reply.{reply_to, reply_operate, operate_reply, is_halted, is_gone}
use Rattle.table_model.specs.Rib.{rib, purges, verdict, is_same_id}
use Rattle.table_model.specs.Table.{performed, refusal}
use Rattle.table_model.specs.Election.{is_primary, highest}
use Rattle.aft_entries.specs.declared.operation.Reason.TheVariants.{NotPrimary, ElectionIdDiffers}
use Rattle.table_model.specs.declared.command.Which.{Which}
use Rattle.table_model.specs.Table.{kept}

-- what an answer of RibDone says
operate_done : (o : Option Reason) → operate_reply o ≡ reply.RibDone → o ≡ None
operate_done None h = refl
operate_done (Some reason) h = cc

by_tests : (a b c : Bool) (o : Option Reason) → cond a reply.Stopped (cond b reply.Gone (cond c reply.NoParams (operate_reply o))) ≡ reply.RibDone → o ≡ None
by_tests true b c o h = cc
by_tests false true c o h = cc
by_tests false false true o h = cc
by_tests false false false o h = operate_done o h

pub done_verdict : (config : Config) (past : List Event) (session : ℕ) (operation : Operation) (now : ℤ) → reply_to config past (Operate session operation now) ≡ reply.RibDone → verdict config past session operation ≡ None
unfolding reply_to reply_operate
done_verdict config past session operation now h = by_tests (is_halted past) (is_gone past (Operate session operation now)) (not (is_some (params_of past session))) (verdict config past session operation) h

by_reasons : (a b : Bool) (p q : Reason) (o : Option Reason) → cond a (Some p) (cond b (Some q) o) ≡ None → o ≡ None
by_reasons true b p q o h = cc
by_reasons false true p q o h = cc
by_reasons false false p q o h = h

pub verdict_refusal : (config : Config) (past : List Event) (session : ℕ) (operation : Operation) → verdict config past session operation ≡ None → refusal config.instances config.limit (rib past) operation.ask ≡ None
unfolding verdict
verdict_refusal config past session operation h = by_reasons (not (is_primary past session)) (not (is_same_id operation.election (highest past))) NotPrimary ElectionIdDiffers (refusal config.instances config.limit (rib past) operation.ask) h

module _ (config : Config) (Q : List Entry → Type 0) (empty : Q []) (performs : (table : List Entry) (ask : Ask) → refusal config.instances config.limit table ask ≡ None → is_well_formed_ask ask ≡ true → Q table → Q (performed ask table)) (flushes : (table : List Entry) (which : Which) → Q table → Q (kept table which)) where
  module _ (past : List Event) (holds : Q (rib past)) where
    operate_holds : (session : ℕ) (operation : Operation) (now : ℤ) (r : Reply) → r ≡ reply_to config past (Operate session operation now) → is_well_formed_ask operation.ask ≡ true → Q (cond (is_done r) (performed operation.ask (rib past)) (rib past))
    operate_holds session operation now reply.RibDone told formed = performs (rib past) operation.ask (verdict_refusal config past session operation (done_verdict config past session operation now (sym told))) formed holds
    operate_holds session operation now _ told formed = holds

    leave_holds : (b : Bool) → Q (cond b [] (rib past))
    leave_holds true = empty
    leave_holds false = holds

    flush_holds : (b : Bool) (which : Which) → Q (cond b (kept (rib past) which) (rib past))
    flush_holds true which = flushes (rib past) which holds
    flush_holds false which = holds

    step_holds : (command : Command) (r : Reply) → r ≡ reply_to config past command → is_well_formed command ≡ true → Q (rib (record { command = command; reply = r } ∷ past))
    unfolding rib
    step_holds (Operate session operation now) r told formed = operate_holds session operation now r told formed
    step_holds (Leave session) r told formed = leave_holds (is_left r && purges past session)
    step_holds (Flush by which now) r told formed = flush_holds (is_flushed r) which
    step_holds Begin r told formed = holds
    step_holds (SetParams session asked) r told formed = holds
    step_holds (Announce session id) r told formed = holds
    step_holds (Collect session) r told formed = holds
    step_holds (Select which kinds) r told formed = holds
    step_holds (Take worker now) r told formed = holds
    step_holds (Report number said now) r told formed = holds
    step_holds Halt r told formed = holds

  empty_holds : Q (rib [])
  unfolding rib
  empty_holds = empty

  pub rib_holds : (past : List Event) → IsLawful config past → Q (rib past)
  rib_holds [] lawful = empty_holds
  rib_holds (e ∷ past) lawful = step_holds past (rib_holds past lawful.1) e.command e.reply lawful.0 lawful.2
