-- What the calls of a connection made of the table, all actions together, and how that ends.
use Rattle.std.specs.Prelude.{◌≡◌, ◌⊎◌, ℕ, ◌==◌, Bool, true, false, not, length, filter, filter_map, map, List, [], ◌∷◌, ◌++◌, Option, Some, None}
use Rattle.std.specs.List.{list_any}
use Rattle.std.specs.Option.{option_map_or}
use Rattle.grpc_heads.specs.CallEnd.{CallEnd}
use Rattle.grpc_heads.specs.declared.head.Method.{Method}
use Rattle.h2_exchange.specs.Calls.{Call}
use Rattle.table_model.specs.declared.command.Command.TheVariants as command
use Rattle.table_model.specs.declared.reply.Reply.{Reply}
use Rattle.table_model.specs.declared.reply.Reply.TheVariants as reply
use Rattle.table_model.specs.Event.{Event}
use Rattle.table_model.specs.Sessions.{leaving_session}
use Rattle.call_answers.specs.declared.orders.Setting.{Setting}
use Rattle.call_orders.specs.Calls.{Action, stream_of, events_of, calls_of, cut_of, without_leaves, standing}
use Rattle.call_orders.specs.Actions.{IsAction, AreActions, calls_in, events_in}

-- ---- sessions

-- the session that an entry begins
abbrev pub begun_by : Event → Option ℕ
begun_by e = elim e.reply [ reply.Began session ↦ Some session | _ ↦ None ]

-- and the one that it ends
abbrev pub left_by : Event → Option ℕ
left_by e = leaving_session e.command

abbrev pub begun_in : List Event → List ℕ
begun_in did = filter_map begun_by did

abbrev pub left_in : List Event → List ℕ
left_in did = filter_map left_by did

abbrev pub has : List ℕ → ℕ → Bool
has sessions session = list_any (λ other. other == session) sessions

-- the sessions that these entries began and that have no Leave among them, the oldest first
abbrev pub staying : List Event → List ℕ
staying did = filter (λ session. not (has (left_in did) session)) (begun_in did)

-- each of them leaves
abbrev pub AllLeave : List ℕ → List Event → Type 0
AllLeave sessions last = map (λ e. e.command) last ≡ map command.Leave sessions

abbrev pub is_stopped_by : Reply → Bool
is_stopped_by reply.Stopped = true
is_stopped_by said = false

abbrev pub is_stopped : Event → Bool
is_stopped e = is_stopped_by e.reply

-- ---- how a connection stands

pub data ConnectionEnd : Type 0 where
  -- it isn't over
  GoesOn : ConnectionEnd
  -- all that its clients did was handled
  AllHandled : ConnectionEnd
  -- a command was answered Stopped
  Halted : ConnectionEnd
  -- memory was wanting for the connection
  NoMemory : ConnectionEnd
  -- a call under the lock was Spent
  Spent : ConnectionEnd

-- no command was answered Stopped
abbrev pub IsRunning : List Action → Type 0
IsRunning actions = list_any is_stopped (events_in actions) ≡ false

-- the latest action is the first that has a command which was answered Stopped
abbrev pub HasStopped : List Action → Type 0
HasStopped [] = ⊥
HasStopped (a ∷ earlier) = (list_any is_stopped (events_of a) ≡ true) × IsRunning earlier

-- The entries are the first of a next action, of which more were due; or of the Leaves of the sessions that stayed.
abbrev pub IsSpent : Setting → List Action → List (Call Method CallEnd) → List Event → Type 0
IsSpent s actions rest last =
    (IsRunning actions × (a : Action) × (e : Event) × (behind : List Event) × (others : List (Call Method CallEnd))
    × (events_of a ≡ last ++ e ∷ behind) × IsAction s (standing s actions (stream_of a)) a × (rest ≡ calls_of a ++ others))
    ⊎ ((IsRunning actions ⊎ HasStopped actions) × (e : Event) × (behind : List Event) × AllLeave (staying (events_in actions)) (last ++ e ∷ behind))

-- what stands behind the actions: calls for which nothing was done, and the Leaves of the sessions that stayed
abbrev pub IsOver : Setting → ConnectionEnd → List Action → List (Call Method CallEnd) → List Event → Type 0
IsOver s GoesOn actions rest last = IsRunning actions × (rest ≡ []) × (last ≡ [])
IsOver s AllHandled actions rest last = IsRunning actions × (rest ≡ []) × AllLeave (staying (events_in actions)) last
IsOver s Halted actions rest last = HasStopped actions × AllLeave (staying (events_in actions)) last
IsOver s NoMemory actions rest last = IsRunning actions × AllLeave (staying (events_in actions)) last
IsOver s Spent actions rest last = IsSpent s actions rest last

-- What clients did made these entries: action by action, each of them right behind those before it.
pub record AreOrders (s : Setting) (calls : List (Call Method CallEnd)) (own : List Event) (end : ConnectionEnd) (actions : List Action) : Type 0 where
  pub each : AreActions s actions
  pub rest : List (Call Method CallEnd)
  pub last : List Event
  pub handled : calls ≡ calls_in actions ++ rest
  pub did : own ≡ events_in actions ++ last
  pub over : IsOver s end actions rest last

-- ---- want of memory

-- a call that was ended for want of memory: how many entries it had made, its Leave apart, and how many items were made for it
pub record Cut : Type 0 where
  pub stream : ℕ
  pub commands : ℕ
  pub items : ℕ

abbrev pub actions_on : List Action → ℕ → List Action
actions_on actions id = filter (λ a. stream_of a == id) actions

-- the entries that the call on a stream made
abbrev pub events_on : List Action → ℕ → List Event
events_on actions id = events_in (actions_on actions id)

abbrev cut_at : List Action → ℕ → ℕ → List Cut
cut_at actions id made = record { stream = id; commands = length (without_leaves (events_on actions id)); items = made } ∷ []

-- all of them, the earliest first
unfoldable pub cuts : List Action → List Cut
cuts [] = []
cuts (a ∷ earlier) = cuts earlier ++ option_map_or (cut_at (a ∷ earlier) (stream_of a)) (cut_of a) []
