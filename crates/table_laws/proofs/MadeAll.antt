-- Each job of a lawful history was made well.
use Rattle.std.proofs.Common.{◌≡◌, ℕ, Bool, true, false, List, [], ◌∷◌, length, None, refl, sym, ap, subst, ◌∙◌}
use Rattle.std.specs.Prelude.{not, ◌||◌, cond, filter, ℤ}
use Rattle.aft_entries.specs.declared.entry.Entry.{Entry}
use Rattle.aft_entries.specs.declared.key.Key.{Key}
use Rattle.aft_entries.specs.declared.operation.Ask.{Ask}
use Rattle.aft_entries.specs.declared.operation.Ask.TheVariants as ask
use Rattle.table_model.specs.declared.command.Command.{Command}
use Rattle.table_model.specs.declared.command.Command.TheVariants.{Begin, SetParams, Announce, Operate, Collect, Leave, Flush, Select, Take, Report, Halt}
use Rattle.table_model.specs.declared.command.Config.{Config}
use Rattle.table_model.specs.declared.command.FlushBy.{FlushBy}
use Rattle.table_model.specs.declared.command.Operation.{Operation}
use Rattle.table_model.specs.declared.command.Which.{Which}
use Rattle.table_model.specs.declared.reply.Reply.{Reply}
use Rattle.table_model.specs.declared.reply.Reply.TheVariants as reply
use Rattle.table_model.specs.Event.{Event, is_done, is_left, is_flushed}
use Rattle.table_model.specs.Jobs.{tasks, tasks_by, operate_tasks}
use Rattle.table_model.specs.Laws.{event, is_closed}
use Rattle.table_model.specs.Legal.{IsLawful}
use Rattle.table_model.specs.Reply.{reply_to}
use Rattle.table_model.specs.Rib.{rib, purges}
use Rattle.table_model.specs.Table.{refusal, stays, kept}
use Rattle.table_model.proofs.FlushClosed.{kept_closed}
use Rattle.table_model.proofs.Tests.{filter_all, filter_none}
use Rattle.table_laws.proofs.MadeWell.{AllMade, made_append, purge_made}
use Rattle.table_laws.proofs.Refused.{put_resolves, remove_unused}
use Rattle.table_laws.proofs.RibHolds.{done_verdict, verdict_refusal}
use Rattle.table_laws.proofs.RibLaws.{closed, sorted, shallow, formed}
use Rattle.table_laws.proofs.Whole.{works_are, purged, all_true}

module _ (config : Config) (past : List Event) (lawful : IsLawful config past) where
  abbrev old : List Entry
  old = rib past

  made_to : (test : Key → Bool) (new : List Entry) → new ≡ filter (λ e. test e.key) old → is_closed new ≡ true → AllMade old (purged past new)
  made_to test new is fine =
      subst (λ n. AllMade old (purged past n)) (sym is)
      (purge_made test old (sorted config past lawful) (shallow config past lawful) (formed config past lawful) (ap is_closed (sym is) ∙ fine) (length past))

  made_none : AllMade old (purged past old)
  made_none = made_to (λ k. true) old (sym (filter_all (λ e. true) old (all_true old))) (closed config past lawful)

  made_empty : AllMade old (purged past [])
  made_empty = made_to (λ k. false) [] (sym (filter_none (λ e. false) old (all_true old))) refl

  made_kept : (which : Which) → AllMade old (purged past (kept old which))
  unfolding kept
  made_kept which = made_to (stays (length old) old which) (kept old which) refl (kept_closed old which (closed config past lawful))

  same : (command : Command) (r : Reply) → operate_tasks past command ≡ [] → AllMade old (cond (is_done r) (operate_tasks past command) (cond (is_flushed r || is_left r) (purged past old) []))
  same command reply.RibDone none = subst (AllMade old) (sym none) tt
  same command (reply.Flushed remain) none = made_none
  same command reply.Left none = made_none
  same command _ none = tt

  by_ask : (session : ℕ) (operation : Operation) (now : ℤ) → refusal config.instances config.limit old operation.ask ≡ None → (a : Ask) → operation.ask ≡ a → AllMade old (operate_tasks past (Operate session operation now))
  by_ask session operation now fine (ask.Put entry replace) is = rw is ((ap not (put_resolves config.instances config.limit old entry replace (ap (refusal config.instances config.limit old) (sym is) ∙ fine)), refl), tt)
  by_ask session operation now fine (ask.Remove key) is = rw is ((remove_unused config.instances config.limit old key (ap (refusal config.instances config.limit old) (sym is) ∙ fine), refl), tt)
  by_ask session operation now fine (ask.Bad reason) is = rw is tt

  by_operate : (session : ℕ) (operation : Operation) (now : ℤ) (r : Reply) → r ≡ reply_to config past (Operate session operation now) → AllMade old (tasks_by (event (Operate session operation now) r) past)
  unfolding rib
  by_operate session operation now reply.RibDone told = by_ask session operation now (verdict_refusal config past session operation (done_verdict config past session operation now (sym told))) operation.ask refl
  by_operate session operation now (reply.Flushed remain) told = made_none
  by_operate session operation now reply.Left told = made_none
  by_operate session operation now _ told = tt

  by_flush : (by : FlushBy) (which : Which) (now : ℤ) (r : Reply) → AllMade old (tasks_by (event (Flush by which now) r) past)
  unfolding rib
  by_flush by which now (reply.Flushed remain) = made_kept which
  by_flush by which now reply.Left = made_none
  by_flush by which now _ = tt

  by_leave : (session : ℕ) (r : Reply) → AllMade old (tasks_by (event (Leave session) r) past)
  unfolding rib
  by_leave session reply.Left = by_purge (purges past session)
    where
      by_purge : (b : Bool) → AllMade old (purged past (cond b [] old))
      by_purge true = made_empty
      by_purge false = made_none
  by_leave session (reply.Flushed remain) = made_none
  by_leave session _ = tt

  by_command : (command : Command) (r : Reply) → r ≡ reply_to config past command → AllMade old (tasks_by (event command r) past)
  unfolding rib
  by_command (Operate session operation now) r told = by_operate session operation now r told
  by_command (Flush by which now) r told = by_flush by which now r
  by_command (Leave session) r told = by_leave session r
  by_command Begin r told = same Begin r refl
  by_command (SetParams x0 x1) r told = same (SetParams x0 x1) r refl
  by_command (Announce x0 x1) r told = same (Announce x0 x1) r refl
  by_command (Collect x0) r told = same (Collect x0) r refl
  by_command (Select x0 x1) r told = same (Select x0 x1) r refl
  by_command (Take x0 x1) r told = same (Take x0 x1) r refl
  by_command (Report x0 x1 x2) r told = same (Report x0 x1 x2) r refl
  by_command Halt r told = same Halt r refl

pub all_made : (config : Config) (past : List Event) → IsLawful config past → AllMade [] (tasks past)
unfolding tasks
all_made config [] lawful = tt
all_made config (e ∷ past) lawful =
    made_append [] (tasks past) (tasks_by e past) (all_made config past lawful.1)
    (subst (λ table. AllMade table (tasks_by e past)) (sym (works_are past)) (by_command config past lawful.1 e.command e.reply lawful.0))
