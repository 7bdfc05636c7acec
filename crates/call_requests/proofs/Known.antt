-- The rows that a Select answers can be sent.
use Rattle.std.proofs.Common.{◌≡◌, ℕ, Bool, true, false, List, ◌∷◌, None}
use Rattle.std.specs.Prelude.{not, ◌&&◌, cond, filter, All, length, slice_index_or}
use Rattle.std.proofs.lemmas.List.Elements.{All-nil, All-cons, All-append, All-filter, All-map}
use Rattle.aft_entries.specs.declared.entry.Entry.{Entry}
use Rattle.aft_entries.specs.declared.entry.Payload.{Payload}
use Rattle.aft_entries.specs.declared.entry.Payload.TheVariants as payload
use Rattle.aft_entries.specs.declared.operation.Ask.{Ask}
use Rattle.aft_entries.specs.declared.operation.Ask.TheVariants.{Put, Remove, Bad}
use Rattle.aft_entries.specs.declared.operation.Row.{Row}
use Rattle.aft_entries.specs.Order.{key_eq}
use Rattle.aft_messages.specs.Printing.{HasKnownInstance}
use Rattle.gribi_messages.specs.Rows.{RowHasKnownInstances}
use Rattle.table_model.specs.declared.command.Command.TheVariants.{Select}
use Rattle.table_model.specs.declared.command.Config.{Config}
use Rattle.table_model.specs.declared.command.KindAsk.{KindAsk}
use Rattle.table_model.specs.declared.command.Which.{Which}
use Rattle.table_model.specs.declared.reply.Reply.TheVariants as reply
use Rattle.table_model.specs.Event.{Event}
use Rattle.table_model.specs.Jobs.{fib}
use Rattle.table_model.specs.Laws.{event}
use Rattle.table_model.specs.Legal.{IsLawful, is_well_formed_ask}
use Rattle.table_model.specs.Reply.{reply_to, is_halted, selected, is_installed, asked_kind}
use Rattle.table_model.specs.Rib.{rib}
use Rattle.table_model.specs.Table.{put, take_out, performed, refusal, kept, stays, names, is_bad_payload}
use Rattle.table_model.proofs.TableLemmas.{is_before, is_after}
use Rattle.table_laws.specs.KnownInstances.{AnsweredRowsAreKnown}
use Rattle.table_laws.specs.KnownInstances.{HasKnownInstance as IsKnown}
use Rattle.table_laws.specs.KnownInstances.{RowHasKnownInstances as IsKnownRow}
use Rattle.table_laws.proofs.Refused.{put_known}
use Rattle.table_laws.proofs.RibHolds.{rib_holds}
use Rattle.call_requests.specs.Responses.{RowIsSound}

-- ---- named instances

payload_known : (count : ℕ) (p : Payload) → IsKnown count p → HasKnownInstance count p
payload_known count (payload.Hop hop) known = tt
payload_known count (payload.Group group) known = tt
payload_known count (payload.Route route) known = known

row_known : (count : ℕ) (row : Row) → IsKnownRow count row → RowHasKnownInstances count row
row_known count row known = (known.0, payload_known count row.entry.payload known.1)

rows_known : (count : ℕ) (rows : List Row) → All (IsKnownRow count) rows → All (RowHasKnownInstances count) rows
rows_known count rows known = λ k d inside. row_known count (slice_index_or rows k d) (known k d inside)

pub answered_known : ((config : Config) → AnsweredRowsAreKnown config) → (config : Config) (past : List Event) (which : Which) (kinds : KindAsk) (rows : List Row)
    → IsLawful config (event (Select which kinds) (reply.Selected rows) ∷ past) → All (RowHasKnownInstances config.instances) rows
answered_known law config past which kinds rows lawful = rows_known config.instances rows (law config past which kinds rows lawful)

-- ---- payloads that break no rule

abbrev IsSound : ℕ → Entry → Type 0
IsSound count entry = is_bad_payload count entry.payload ≡ false

module _ (count : ℕ) where
  sound_put : (entry : Entry) (table : List Entry) → IsSound count entry → All (IsSound count) table → All (IsSound count) (put entry table)
  unfolding put
  sound_put entry table here all =
      All-append (IsSound count) (filter (is_before entry.key) table) (entry ∷ filter (is_after entry.key) table)
      (All-filter (is_before entry.key) (IsSound count) table all)
      (All-cons (IsSound count) entry (filter (is_after entry.key) table) here (All-filter (is_after entry.key) (IsSound count) table all))

  sound_performed : (limit : ℕ) (table : List Entry) (ask : Ask) → refusal count limit table ask ≡ None → is_well_formed_ask ask ≡ true → All (IsSound count) table → All (IsSound count) (performed ask table)
  unfolding take_out
  sound_performed limit table (Put entry replace) h formed all = sound_put entry table (put_known count limit table entry replace h).1 all
  sound_performed limit table (Remove key) h formed all = All-filter (λ e. not (key_eq key e.key)) (IsSound count) table all
  sound_performed limit table (Bad reason) h formed all = all

  sound_kept : (table : List Entry) (which : Which) → All (IsSound count) table → All (IsSound count) (kept table which)
  unfolding kept
  sound_kept table which all = All-filter (λ e. stays (length table) table which e.key) (IsSound count) table all

  sound_selected : (table installed : List Entry) (which : Which) (kinds : KindAsk) → All (IsSound count) table → All (RowIsSound count) (selected table installed which kinds)
  unfolding selected
  sound_selected table installed which kinds all =
      All-map (RowIsSound count) (λ entry. record { entry = entry; installed = is_installed installed entry })
      (filter (λ entry. names which entry.key.instance && asked_kind kinds entry.key.name) table)
      (All-filter (λ entry. names which entry.key.instance && asked_kind kinds entry.key.name) (IsSound count) table all)

sound_entries : (config : Config) (past : List Event) → IsLawful config past → All (IsSound config.instances) (rib past)
sound_entries config = rib_holds config (λ table. All (IsSound config.instances) table) (All-nil (IsSound config.instances)) (sound_performed config.instances config.limit) (sound_kept config.instances)

answered_by : (stopped : Bool) (rows given : List Row) → reply.Selected rows ≡ cond stopped reply.Stopped (reply.Selected given) → rows ≡ given
answered_by true rows given h = cc
answered_by false rows given h = cc

pub answered_sound : (config : Config) (past : List Event) (which : Which) (kinds : KindAsk) (rows : List Row)
    → IsLawful config (event (Select which kinds) (reply.Selected rows) ∷ past) → All (RowIsSound config.instances) rows
unfolding reply_to
answered_sound config past which kinds rows lawful =
    let same = answered_by (is_halted past) rows (selected (rib past) (fib past) which kinds) lawful.0 in
    rw same (sound_selected config.instances (rib past) (fib past) which kinds (sound_entries config past lawful.1))
