-- The histories of `apply` are lawful.
use Rattle.std.proofs.Common.{◌≡◌, ℕ, zero, suc, ℤ, pos, ◌+◌, Bool, true, false, cond, List, [], ◌∷◌, ◌++◌, map, Option, Some, None, refl}
use Rattle.std.specs.Prelude.{is_some, ◌==◌}
use Rattle.std.specs.Option.{option_map_or}
use Rattle.aft_entries.specs.Checked.{checked}
use Rattle.aft_entries.specs.Shapes.{EntryValue, fits}
use Rattle.aft_entries.specs.declared.operation.Ask.{Ask}
use Rattle.aft_entries.specs.declared.operation.Ask.TheVariants.{Put, Remove, Bad}
use Rattle.aft_entries.specs.declared.operation.RawOperation.{RawOperation}
use Rattle.gribi_messages.specs.Request.{modify_request}
use Rattle.call_answers.specs.Orders.{operation_of, commands_of, orders_of}
use Rattle.call_answers.specs.declared.orders.Setting.{Setting}
use Rattle.table_model.specs.declared.command.Command.{Command}
use Rattle.table_model.specs.declared.command.Command.TheVariants.{SetParams, Announce, Operate, Collect, Take}
use Rattle.table_model.specs.declared.command.Config.{Config}
use Rattle.table_model.specs.declared.job.Verdict.{Verdict}
use Rattle.table_model.specs.declared.params.AskedParams.{AskedParams}
use Rattle.table_model.specs.declared.reply.Reply.{Reply}
use Rattle.table_model.specs.declared.reply.Reply.TheVariants as reply
use Rattle.table_model.specs.Event.{Event}
use Rattle.table_model.specs.Legal.{is_well_formed_ask, is_well_formed, IsLawful}
use Rattle.table_model.specs.Reply.{reply_to}
use Rattle.inline_worker.specs.Turns.{asks_again, behind, collects, collect_events, events_behind, next_event, outstanding_in, report_events, turn_events, turns, undone, work_events}
use Rattle.apply_path.specs.History.{answered, event, first_end, status_code_of, up_to_end}
use Rattle.apply_path.specs.Responses.{begun, config_of, fault_of, history, history_from, history_with_leave, message_events, run_message}
use Rattle.apply_path.specs.Laws.{events_from, events_of, readable}

-- ---- commands whose entries have payloads of their keys' kinds

abbrev FormedAll : List Command → Type 0
FormedAll [] = Unit {0}
FormedAll (c ∷ cs) = (is_well_formed c ≡ true) × FormedAll cs

formed_join : (cs ds : List Command) → FormedAll cs → FormedAll ds → FormedAll (cs ++ ds)
formed_join [] ds h k = k
formed_join (c ∷ cs) ds h k = (h.0, formed_join cs ds h.1 k)

formed_ask : (ask : Ask) → ((entry : EntryValue) (replace : Bool) → ask ≡ Put entry replace → fits entry.key.name entry.payload ≡ true) → is_well_formed_ask ask ≡ true
formed_ask (Put entry replace) h = h entry replace refl
formed_ask (Remove key) h = refl
formed_ask (Bad reason) h = refl

formed_params : (o : Option AskedParams) → FormedAll (option_map_or (λ asked. SetParams 0 asked ∷ []) o [])
formed_params None = tt
formed_params (Some asked) = (refl, tt)

formed_election : (o : Option ℕ) → FormedAll (option_map_or (λ id. Announce 0 id ∷ []) o [])
formed_election None = tt
formed_election (Some id) = (refl, tt)

-- ---- events that the server answers so, one after another

abbrev IsRow : Config → List Event → List Event → Type 0
IsRow config past [] = Unit {0}
IsRow config past (e ∷ es) = (e.reply ≡ reply_to config past e.command) × (is_well_formed e.command ≡ true) × IsRow config (e ∷ past) es

row_join : (config : Config) (past es fs : List Event) → IsRow config past es → IsRow config (behind past es) fs → IsRow config past (es ++ fs)
row_join config past [] fs a b = b
row_join config past (e ∷ es) fs a b = (a.0, a.1, row_join config (e ∷ past) es fs a.2 b)

row_unless : (config : Config) (past : List Event) (b : Bool) (es : List Event) → IsRow config past es → IsRow config past (cond b [] es)
row_unless config past true es a = tt
row_unless config past false es a = a

row_where : (config : Config) (past : List Event) (b : Bool) (es : List Event) → IsRow config past es → IsRow config past (cond b es [])
row_where config past true es a = a
row_where config past false es a = tt

row_to_end : (config : Config) (past es : List Event) → IsRow config past es → IsRow config past (up_to_end es)
unfolding up_to_end
row_to_end config past [] a = tt
row_to_end config past (e ∷ es) a = (a.0, a.1, row_unless config (e ∷ past) (is_some (status_code_of e)) (up_to_end es) (row_to_end config (e ∷ past) es a.2))

row_lawful : (config : Config) (past es : List Event) → IsLawful config past → IsRow config past es → IsLawful config (behind past es)
row_lawful config past [] h a = h
row_lawful config past (e ∷ es) h a = row_lawful config (e ∷ past) es (a.0, h, a.1) a.2

answered_row : (config : Config) (past : List Event) (cs : List Command) → FormedAll cs → IsRow config past (answered config past cs)
unfolding answered
answered_row config past [] f = tt
answered_row config past (c ∷ cs) f = (refl, f.0, answered_row config (event config past c ∷ past) cs f.1)

-- ---- the worker's turns and the session's

module _ (config : Config) where
  module _ (said : List Verdict) (now : ℤ) where
    report_row : (r : Reply) (past : List Event) → IsRow config past (report_events config said now r past)
    report_row (reply.Given job) past = (refl, refl, tt)
    report_row _ past = tt

    turn_row : (past : List Event) → IsRow config past (turn_events config said now past)
    turn_row past = let taken : Event = next_event config past (Take 0 now) in (refl, refl, report_row taken.reply (taken ∷ past))

    turns_row : (n : ℕ) (past : List Event) → IsRow config past (turns config said now n past)
    turns_row zero past = turn_row past
    turns_row (suc n) past =
        let went = turn_events config said now past in
        row_join config past went (cond (asks_again (reply_to config past (Take 0 now))) (turns config said now n (behind past went)) []) (turn_row past)
        (row_where config (behind past went) (asks_again (reply_to config past (Take 0 now))) (turns config said now n (behind past went)) (turns_row n (behind past went)))

  collects_row : (n : ℕ) (past : List Event) → IsRow config past (collects config n past)
  collects_row zero past = (refl, refl, tt)
  collects_row (suc n) past =
      let e : Event = next_event config past (Collect 0) in
      (refl, refl, row_unless config (e ∷ past) (outstanding_in e.reply == 0) (collects config n (e ∷ past)) (collects_row n (e ∷ past)))

  behind_row : (said : List Verdict) (now : ℤ) (past : List Event) → IsRow config past (events_behind config said now past)
  behind_row said now past =
      let worked = work_events config said now past in
      row_join config past worked (collect_events config (behind past worked)) (turns_row said now (undone past) past) (collects_row _ (behind past worked))

module _ (law : (instances : List (List ℕ)) (operation : RawOperation) (entry : EntryValue) (replace : Bool) → checked instances operation ≡ Put entry replace → fits entry.key.name entry.payload ≡ true) where
  formed_operations : (instances : List (List ℕ)) (now : ℤ) (raws : List RawOperation) → FormedAll (map (λ operation. Operate 0 operation now) (map (operation_of instances) raws))
  formed_operations instances now [] = tt
  formed_operations instances now (raw ∷ raws) = (formed_ask (checked instances raw) (law instances raw), formed_operations instances now raws)

  formed_commands : (s : Setting) (now : ℤ) (m : List ℕ) → FormedAll (commands_of 0 now (orders_of s m))
  unfolding orders_of
  formed_commands s now m =
      let orders = orders_of s m in
      formed_join _ _ (formed_join _ _ (formed_params orders.params) (formed_election orders.election)) (formed_operations s.instances now (modify_request s.numbering m).operations)

  message_row : (s : Setting) (said : List Verdict) (past : List Event) (place : ℕ) (m : List ℕ) → IsRow (config_of s) past (message_events s said past place m)
  message_row s said past place m =
      let asked = answered (config_of s) past (commands_of 0 (pos place) (orders_of s m)) in
      let turned = events_behind (config_of s) said (pos place) (behind past asked) in
      row_unless (config_of s) past (is_some (fault_of s m)) (asked ++ cond (is_some (first_end asked)) [] turned)
      (row_join (config_of s) past asked (cond (is_some (first_end asked)) [] turned) (answered_row (config_of s) past (commands_of 0 (pos place) (orders_of s m)) (formed_commands s (pos place) m))
      (row_unless (config_of s) (behind past asked) (is_some (first_end asked)) turned (behind_row (config_of s) said (pos place) (behind past asked))))

  lawful_from : (s : Setting) (said : List Verdict) (past : List Event) (place : ℕ) (ms : List (List ℕ)) → IsLawful (config_of s) past → IsLawful (config_of s) (history_from s said past place ms)
  unfolding history_from
  lawful_from s said past place [] h = h
  lawful_from s said past place (m ∷ ms) h =
      let es = message_events s said past place m in
      lawful_from s said (run_message s said past place m).past (place + 1) ms (row_lawful (config_of s) past (up_to_end es) h (row_to_end (config_of s) past es (message_row s said past place m)))

  events_row : (s : Setting) (said : List Verdict) (past : List Event) (place : ℕ) (ms : List (List ℕ)) → IsRow (config_of s) past (events_from s said past place ms)
  unfolding events_from
  events_row s said past place [] = tt
  events_row s said past place (m ∷ ms) =
      let es = message_events s said past place m in
      row_join (config_of s) past es (events_from s said (behind past es) (place + 1) ms) (message_row s said past place m) (events_row s said (behind past es) (place + 1) ms)

  lawful_begun : (s : Setting) → IsLawful (config_of s) (begun s)
  lawful_begun s = (refl, tt, refl)

  pub lawful_history : (s : Setting) (said : List Verdict) (messages : List (List ℕ)) → IsLawful (config_of s) (history s said messages)
  lawful_history s said messages = lawful_from s said (begun s) 1 messages (lawful_begun s)

  pub lawful_left : (s : Setting) (said : List Verdict) (messages : List (List ℕ)) → IsLawful (config_of s) (history_with_leave s said messages)
  lawful_left s said messages = (refl, lawful_history s said messages, refl)

  pub lawful_answered : (s : Setting) (said : List Verdict) (messages : List (List ℕ)) → IsLawful (config_of s) (behind (begun s) (up_to_end (events_of s said messages)))
  lawful_answered s said messages =
      let row = events_of s said messages in
      row_lawful (config_of s) (begun s) (up_to_end row) (lawful_begun s) (row_to_end (config_of s) (begun s) row (events_row s said (begun s) 1 (readable s messages)))
