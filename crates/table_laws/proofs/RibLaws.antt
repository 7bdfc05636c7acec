-- The table of each lawful history: in order, closed, with short chains, and what changes it.
use Rattle.std.proofs.Common.{◌≡◌, ℕ, Bool, true, false, List, [], ◌∷◌, Some, None, Option, refl, sym, ap, ◌∙◌, arith, inl, inr, ◌⊎◌}
use Rattle.std.specs.Prelude.{not, cond, ℤ}
use Rattle.std.specs.List.{list_all}
use Rattle.std.proofs.lemmas.Bool.Decides.{nat_tests}
use Rattle.aft_entries.specs.declared.entry.Entry.{Entry}
use Rattle.aft_entries.specs.Shapes.{fits}
use Rattle.aft_entries.specs.declared.operation.Ask.{Ask}
use Rattle.aft_entries.specs.declared.operation.Ask.TheVariants.{Put, Remove, Bad}
use Rattle.aft_entries.specs.declared.operation.Reason.{Reason}
use Rattle.aft_entries.specs.declared.operation.Reason.TheVariants.{NotPrimary, ElectionIdDiffers}
use Rattle.table_model.specs.declared.command.Command.{Command}
use Rattle.table_model.specs.declared.command.Command.TheVariants.{Begin, SetParams, Announce, Operate, Collect, Leave, Flush, Select, Take, Report, Halt}
use Rattle.table_model.specs.declared.command.Config.{Config}
use Rattle.table_model.specs.declared.command.FlushBy.{FlushBy}
use Rattle.table_model.specs.declared.command.Operation.{Operation}
use Rattle.table_model.specs.declared.command.Which.{Which}
use Rattle.table_model.specs.declared.reply.Reply.{Reply}
use Rattle.table_model.specs.declared.reply.Reply.TheVariants as reply
use Rattle.table_model.specs.Election.{is_primary, highest}
use Rattle.table_model.specs.Event.{Event, is_flushed}
use Rattle.table_model.specs.Laws.{event, is_closed, MayChange, RibIsClosed, RibIsInOrder, ChainsAreShort, RibChangesByThese}
use Rattle.table_model.specs.Legal.{IsLawful, is_well_formed_ask}
use Rattle.table_model.specs.Reply.{reply_to, is_halted, may_flush}
use Rattle.table_model.specs.Rib.{rib, purges, verdict, is_same_id}
use Rattle.table_model.specs.Sessions.{params_of, deletes}
use Rattle.table_model.specs.Table.{in_order, is_shallow, performed, refusal, remains, kept}
use Rattle.table_model.proofs.Closed.{closed_put, closed_take_out, all_put, all_taken}
use Rattle.table_model.proofs.FlushClosed.{kept_closed}
use Rattle.table_model.proofs.TableLemmas.{in_order_put, in_order_take_out, in_order_filter, in_order_empty}
use Rattle.table_model.proofs.Tests.{and_left, and_right, all_filter}
use Rattle.table_laws.proofs.Chains.{shallow_put, shallow_take_out, shallow_kept}
use Rattle.table_laws.proofs.Refused.{put_resolves, put_shallow, remove_unused}
use Rattle.table_laws.proofs.RibHolds.{rib_holds, done_verdict}

closed_performed : (instances limit : ℕ) (table : List Entry) (ask : Ask) → refusal instances limit table ask ≡ None → is_well_formed_ask ask ≡ true → is_closed table ≡ true → is_closed (performed ask table) ≡ true
closed_performed instances limit table (Put entry replace) h formed closed = closed_put entry table closed (put_resolves instances limit table entry replace h)
closed_performed instances limit table (Remove key) h formed closed = closed_take_out key table closed (remove_unused instances limit table key h)
closed_performed instances limit table (Bad reason) h formed closed = closed

pub closed : (config : Config) → RibIsClosed config
closed config = rib_holds config (λ table. is_closed table ≡ true) refl (closed_performed config.instances config.limit) kept_closed

in_order_performed : (instances limit : ℕ) (table : List Entry) (ask : Ask) → refusal instances limit table ask ≡ None → is_well_formed_ask ask ≡ true → in_order table ≡ true → in_order (performed ask table) ≡ true
in_order_performed instances limit table (Put entry replace) h formed sorted = in_order_put entry table sorted
in_order_performed instances limit table (Remove key) h formed sorted = in_order_take_out key table sorted
in_order_performed instances limit table (Bad reason) h formed sorted = sorted

in_order_kept : (table : List Entry) (which : Which) → in_order table ≡ true → in_order (kept table which) ≡ true
unfolding kept
in_order_kept table which sorted = in_order_filter _ table sorted

pub sorted : (config : Config) → RibIsInOrder config
sorted config = rib_holds config (λ table. in_order table ≡ true) in_order_empty (in_order_performed config.instances config.limit) in_order_kept

shallow_performed : (instances limit : ℕ) (table : List Entry) (ask : Ask) → refusal instances limit table ask ≡ None → is_well_formed_ask ask ≡ true → is_shallow table ≡ true → is_shallow (performed ask table) ≡ true
shallow_performed instances limit table (Put entry replace) h formed short = shallow_put entry table (put_shallow instances limit table entry replace h) short
shallow_performed instances limit table (Remove key) h formed short = shallow_take_out key table short
shallow_performed instances limit table (Bad reason) h formed short = short

shallow_empty : is_shallow [] ≡ true
unfolding is_shallow
shallow_empty = refl

pub shallow : (config : Config) → ChainsAreShort config
shallow config = rib_holds config (λ table. is_shallow table ≡ true) shallow_empty (shallow_performed config.instances config.limit) shallow_kept

-- each entry's payload is of its key's kind
abbrev pub is_formed_entry : Entry → Bool
is_formed_entry e = fits e.key.name e.payload

formed_performed : (instances limit : ℕ) (table : List Entry) (ask : Ask) → refusal instances limit table ask ≡ None → is_well_formed_ask ask ≡ true → list_all is_formed_entry table ≡ true → list_all is_formed_entry (performed ask table) ≡ true
formed_performed instances limit table (Put entry replace) h formed all = all_put is_formed_entry entry table all formed
formed_performed instances limit table (Remove key) h formed all = all_taken is_formed_entry key table all
formed_performed instances limit table (Bad reason) h formed all = all

formed_kept : (table : List Entry) (which : Which) → list_all is_formed_entry table ≡ true → list_all is_formed_entry (kept table which) ≡ true
unfolding kept
formed_kept table which all = all_filter is_formed_entry _ table all

pub formed : (config : Config) (past : List Event) → IsLawful config past → list_all is_formed_entry (rib past) ≡ true
formed config = rib_holds config (λ table. list_all is_formed_entry table ≡ true) refl (formed_performed config.instances config.limit) formed_kept

-- What changes it.

two_tests : (a b : Bool) (p q : Reason) (o : Option Reason) → cond (not a) (Some p) (cond (not b) (Some q) o) ≡ None → (a ≡ true) × (b ≡ true)
two_tests false b p q o h = cc
two_tests true false p q o h = cc
two_tests true true p q o h = (refl, refl)

id_is : (o : Option ℕ) (id : ℕ) → is_same_id o id ≡ true → o ≡ Some id
id_is None id h = cc
id_is (Some given) id h = let same : given ≡ id = grind (arith, nat_tests) in ap (λ n. Some n) same

done_primary : (config : Config) (past : List Event) (session : ℕ) (operation : Operation) → verdict config past session operation ≡ None → (is_primary past session ≡ true) × (operation.election ≡ Some (highest past))
unfolding verdict
done_primary config past session operation h =
    let two = two_tests (is_primary past session) (is_same_id operation.election (highest past)) NotPrimary ElectionIdDiffers (refusal config.instances config.limit (rib past) operation.ask) h in
    (two.0, id_is operation.election (highest past) two.1)

module _ (config : Config) (past : List Event) where
  by_operate : (session : ℕ) (operation : Operation) (now : ℤ) (r : Reply) → r ≡ reply_to config past (Operate session operation now)
      → (rib (event (Operate session operation now) r ∷ past) ≡ rib past) ⊎ MayChange past (event (Operate session operation now) r)
  unfolding rib
  by_operate session operation now reply.RibDone told = let two = done_primary config past session operation (done_verdict config past session operation now (sym told)) in inr (refl, two.0, two.1)
  by_operate session operation now _ told = inl refl

  may_by : (stopped may remain : Bool) (top : ℕ) → is_flushed (cond stopped reply.Stopped (cond may (reply.Flushed remain) (reply.FlushRefused top))) ≡ true → may ≡ true
  may_by true may remain top is = cc
  may_by false true remain top is = refl
  may_by false false remain top is = cc

  flush_may : (by : FlushBy) (which : Which) (now : ℤ) (r : Reply) → r ≡ reply_to config past (Flush by which now) → is_flushed r ≡ true → may_flush past by ≡ true
  unfolding reply_to
  flush_may by which now r told is = may_by (is_halted past) (may_flush past by) (remains (rib past) which) (highest past) (ap is_flushed (sym told) ∙ is)

  by_flush : (by : FlushBy) (which : Which) (now : ℤ) (r : Reply) (b : Bool) → r ≡ reply_to config past (Flush by which now) → is_flushed r ≡ b
      → (rib (event (Flush by which now) r ∷ past) ≡ rib past) ⊎ MayChange past (event (Flush by which now) r)
  unfolding rib
  by_flush by which now r true told is = inr (is, flush_may by which now r told is)
  by_flush by which now r false told is = inl (ap (λ b. cond b (kept (rib past) which) (rib past)) is)

  leave_by : (session : ℕ) (b : Bool) → purges past session ≡ b → (cond b [] (rib past) ≡ rib past) ⊎ MayChange past (event (Leave session) reply.Left)
  leave_by session true is = inr (refl, and_left (is_primary past session) (deletes (params_of past session)) is, and_right (is_primary past session) (deletes (params_of past session)) is)
  leave_by session false is = inl refl

  by_leave : (session : ℕ) (r : Reply) → (rib (event (Leave session) r ∷ past) ≡ rib past) ⊎ MayChange past (event (Leave session) r)
  unfolding rib
  by_leave session reply.Left = leave_by session (purges past session) refl
  by_leave session _ = inl refl

  by_command : (command : Command) (r : Reply) → r ≡ reply_to config past command → (rib (event command r ∷ past) ≡ rib past) ⊎ MayChange past (event command r)
  unfolding rib
  by_command (Operate session operation now) r told = by_operate session operation now r told
  by_command (Flush by which now) r told = by_flush by which now r (is_flushed r) told refl
  by_command (Leave session) r told = by_leave session r
  by_command Begin r told = inl refl
  by_command (SetParams session asked) r told = inl refl
  by_command (Announce session id) r told = inl refl
  by_command (Collect session) r told = inl refl
  by_command (Select which kinds) r told = inl refl
  by_command (Take worker now) r told = inl refl
  by_command (Report number said now) r told = inl refl
  by_command Halt r told = inl refl

pub changes : (config : Config) → RibChangesByThese config
changes config past e lawful = by_command config past e.command e.reply lawful.0
