-- An operation that isn't refused names known instances alone.
use Rattle.std.proofs.Common.{◌≡◌, ℕ, ◌<◌, Bool, true, false, List, ◌∷◌, None, arith}
use Rattle.std.specs.Prelude.{not, ◌&&◌, nat_le, cond, filter, All, length}
use Rattle.std.proofs.lemmas.Bool.Decides.{nat_tests}
use Rattle.std.proofs.lemmas.List.Elements.{All-nil, All-cons, All-append, All-filter, All-map}
use Rattle.aft_entries.specs.declared.entry.Entry.{Entry}
use Rattle.aft_entries.specs.declared.entry.Payload.{Payload}
use Rattle.aft_entries.specs.declared.entry.Payload.TheVariants as payload
use Rattle.aft_entries.specs.declared.operation.Ask.{Ask}
use Rattle.aft_entries.specs.declared.operation.Ask.TheVariants.{Put, Remove, Bad}
use Rattle.aft_entries.specs.declared.operation.Row.{Row}
use Rattle.aft_entries.specs.Order.{key_eq}
use Rattle.table_model.specs.declared.command.Config.{Config}
use Rattle.table_model.specs.declared.command.KindAsk.{KindAsk}
use Rattle.table_model.specs.declared.command.Which.{Which}
use Rattle.table_model.specs.declared.reply.Reply.TheVariants as reply
use Rattle.table_model.specs.Jobs.{fib}
use Rattle.table_model.specs.Legal.{is_well_formed_ask}
use Rattle.table_model.specs.Reply.{reply_to, is_halted, selected, is_installed, asked_kind}
use Rattle.table_model.specs.Rib.{rib}
use Rattle.table_model.specs.Table.{put, take_out, performed, refusal, kept, stays, names, is_bad_payload}
use Rattle.table_model.proofs.TableLemmas.{is_before, is_after}
use Rattle.table_laws.specs.KnownInstances.{HasKnownInstance, EntryHasKnownInstances, RowHasKnownInstances, EntriesHaveKnownInstances, SelectedRowsAreKnown, AnsweredRowsAreKnown}
use Rattle.table_laws.proofs.Refused.{put_known}
use Rattle.table_laws.proofs.RibHolds.{rib_holds}

below : (n count : ℕ) → nat_le count n ≡ false → n < count
below n count h = grind (arith, nat_tests)

known_payload : (count : ℕ) (p : Payload) → is_bad_payload count p ≡ false → HasKnownInstance count p
unfolding is_bad_payload
known_payload count (payload.Hop hop) h = tt
known_payload count (payload.Group group) h = tt
known_payload count (payload.Route route) h = below route.instance count h

module _ (count : ℕ) where
  known_put : (entry : Entry) (table : List Entry) → EntryHasKnownInstances count entry → All (EntryHasKnownInstances count) table → All (EntryHasKnownInstances count) (put entry table)
  unfolding put
  known_put entry table here all =
      All-append (EntryHasKnownInstances count) (filter (is_before entry.key) table) (entry ∷ filter (is_after entry.key) table)
      (All-filter (is_before entry.key) (EntryHasKnownInstances count) table all)
      (All-cons (EntryHasKnownInstances count) entry (filter (is_after entry.key) table) here (All-filter (is_after entry.key) (EntryHasKnownInstances count) table all))

  known_performed : (limit : ℕ) (table : List Entry) (ask : Ask) → refusal count limit table ask ≡ None → is_well_formed_ask ask ≡ true → All (EntryHasKnownInstances count) table → All (EntryHasKnownInstances count) (performed ask table)
  unfolding take_out
  known_performed limit table (Put entry replace) h formed all =
      let two = put_known count limit table entry replace h in
      known_put entry table (below entry.key.instance count two.0, known_payload count entry.payload two.1) all
  known_performed limit table (Remove key) h formed all = All-filter (λ e. not (key_eq key e.key)) (EntryHasKnownInstances count) table all
  known_performed limit table (Bad reason) h formed all = all

  known_kept : (table : List Entry) (which : Which) → All (EntryHasKnownInstances count) table → All (EntryHasKnownInstances count) (kept table which)
  unfolding kept
  known_kept table which all = All-filter (λ e. stays (length table) table which e.key) (EntryHasKnownInstances count) table all

  known_selected : (table installed : List Entry) (which : Which) (kinds : KindAsk) → All (EntryHasKnownInstances count) table → All (RowHasKnownInstances count) (selected table installed which kinds)
  unfolding selected
  known_selected table installed which kinds all =
      All-map (RowHasKnownInstances count) (λ entry. record { entry = entry; installed = is_installed installed entry })
      (filter (λ entry. names which entry.key.instance && asked_kind kinds entry.key.name) table)
      (All-filter (λ entry. names which entry.key.instance && asked_kind kinds entry.key.name) (EntryHasKnownInstances count) table all)

pub known_entries : (config : Config) → EntriesHaveKnownInstances config
known_entries config =
    rib_holds config (λ table. All (EntryHasKnownInstances config.instances) table) (All-nil (EntryHasKnownInstances config.instances)) (known_performed config.instances config.limit) (known_kept config.instances)

pub known_rows : (config : Config) → SelectedRowsAreKnown config
known_rows config past which kinds lawful = known_selected config.instances (rib past) (fib past) which kinds (known_entries config past lawful)

answered_by : (stopped : Bool) (rows given : List Row) → reply.Selected rows ≡ cond stopped reply.Stopped (reply.Selected given) → rows ≡ given
answered_by true rows given h = cc
answered_by false rows given h = cc

pub known_answers : (config : Config) → AnsweredRowsAreKnown config
unfolding reply_to
known_answers config past which kinds rows lawful =
    let same = answered_by (is_halted past) rows (selected (rib past) (fib past) which kinds) lawful.0 in
    rw same (known_rows config past which kinds lawful.1)
