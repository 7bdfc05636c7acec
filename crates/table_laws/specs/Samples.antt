-- What the examples are made of.
use Rattle.std.specs.Prelude.{ℕ, pos, Bool, true, false, List, [], ◌∷◌, Option, Some, None}
use Rattle.aft_entries.specs.declared.entry.Entry.{Entry}
use Rattle.aft_entries.specs.declared.entry.Payload.TheVariants as payload
use Rattle.aft_entries.specs.declared.key.Key.{Key}
use Rattle.aft_entries.specs.declared.key.KeyName.TheVariants as name
use Rattle.aft_entries.specs.declared.operation.Ask.{Ask}
use Rattle.aft_entries.specs.declared.operation.Ask.TheVariants as ask
use Rattle.aft_entries.specs.declared.operation.Reason.{Reason}
use Rattle.aft_entries.specs.declared.operation.Row.{Row}
use Rattle.aft_entries.specs.References.{hop_key, group_key}
use Rattle.table_model.specs.declared.command.Command.{Command}
use Rattle.table_model.specs.declared.command.Command.TheVariants.{Operate, Select, Take, Report}
use Rattle.table_model.specs.declared.command.Config.{Config}
use Rattle.table_model.specs.declared.command.Which.{Which}
use Rattle.table_model.specs.declared.command.KindAsk.TheVariants as kinds
use Rattle.table_model.specs.declared.job.JobNumber.{JobNumber}
use Rattle.table_model.specs.declared.job.Verdict.TheVariants as verdict
use Rattle.table_model.specs.declared.job.Work.{Work}
use Rattle.table_model.specs.declared.job.Work.TheVariants as work
use Rattle.table_model.specs.declared.params.AckType.{AckType}
use Rattle.table_model.specs.declared.params.AskedParams.{AskedParams}
use Rattle.table_model.specs.declared.params.Persistence.{Persistence}
use Rattle.table_model.specs.declared.params.Redundancy.TheVariants as redundancy
use Rattle.table_model.specs.declared.reply.Reply.{Reply}
use Rattle.table_model.specs.declared.reply.Reply.TheVariants as reply
use Rattle.table_model.specs.declared.results.FibResult.{FibResult}
use Rattle.table_model.specs.Event.{Event}
use Rattle.table_model.specs.Laws.{event}

-- so many instances and workers, and at most so many entries
abbrev pub setup : ℕ → ℕ → ℕ → Config
setup instances workers limit = record { instances = instances; workers = workers; limit = limit }

-- an empty next hop
abbrev pub hop : ℕ → Entry
hop index = record {
  key = hop_key 0 index;
  payload = payload.Hop (record { ip = None; mac = None; interface = None; subinterface = None; source = None; target = None; push = [] });
}

-- a group of one next hop
abbrev pub group : ℕ → ℕ → Entry
group id member = record { key = group_key 0 id; payload = payload.Group (record { members = record { hop = member; weight = 1 } ∷ []; backup = None }) }

-- an empty group with a backup, or without
abbrev pub chained : ℕ → Option ℕ → Entry
chained id backup = record { key = group_key 0 id; payload = payload.Group (record { members = []; backup = backup }) }

abbrev pub v4_key : ℕ → ℕ → ℕ → Key
v4_key instance bits len = record { instance = instance; name = name.V4 (record { bits = bits; len = len }) }

-- an IPv4 prefix of an instance, to a group of instance 0
abbrev pub route : ℕ → ℕ → ℕ → ℕ → Entry
route instance bits len to = record { key = v4_key instance bits len; payload = payload.Route (record { instance = 0; group = to }) }

-- parameters with a single primary
abbrev pub single : Persistence → AckType → AskedParams
single persistence ack = record { redundancy = Some redundancy.SinglePrimary; persistence = Some persistence; ack = Some ack }

-- an operation with its id and election id, at moment 0
abbrev pub operate : ℕ → ℕ → ℕ → Ask → Command
operate session id election asked = Operate session (record { id = id; election = Some election; ask = asked }) (pos 0)

abbrev pub add : Entry → Ask
add entry = ask.Put entry false

abbrev pub replace : Entry → Ask
replace entry = ask.Put entry true

abbrev pub delete : Key → Ask
delete key = ask.Remove key

-- the job of the event at this position, its place among that event's jobs, and its work
abbrev pub number : ℕ → ℕ → JobNumber
number position index = record { position = position; index = index }

abbrev pub given : ℕ → ℕ → Work → Reply
given position index done = reply.Given (record { number = number position index; work = done })

abbrev pub install : Entry → Work
install entry = work.Install entry

abbrev pub remove : Key → Work
remove key = work.Remove key

abbrev pub take : ℕ → Command
take worker = Take worker (pos 0)

abbrev pub programmed : ℕ → ℕ → Command
programmed position index = Report (number position index) verdict.Programmed (pos 0)

abbrev pub failed : ℕ → ℕ → Command
failed position index = Report (number position index) verdict.DeviceFault (pos 0)

-- a result of the operation with this id, and why it failed, if it did
abbrev pub result : ℕ → Option ℕ → FibResult
result id reason = record { id = id; failed = reason; now = pos 0 }

abbrev pub row : Entry → Bool → Row
row entry installed = record { entry = entry; installed = installed }

abbrev pub get : Which → Command
get which = Select which kinds.All

abbrev pub failed_for : Reason → Reply
failed_for reason = reply.RibFailed reason

-- a worker takes a job, and its device does it
abbrev pub done : ℕ → ℕ → ℕ → Work → List Event → List Event
done worker position index job rest = event (take worker) (given position index job) ∷ event (programmed position index) reply.Reported ∷ rest
