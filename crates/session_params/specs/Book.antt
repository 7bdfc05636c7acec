-- The history that a book of sessions stands for, and the events by which it goes on.
use Rattle.std.specs.Prelude.{◌≡◌, ℕ, List, map}
use Rattle.table_model.specs.declared.command.Command.TheVariants.{Begin, SetParams, Leave}
use Rattle.table_model.specs.declared.params.AskedParams.{AskedParams}
use Rattle.table_model.specs.declared.reply.Reply.{Reply}
use Rattle.table_model.specs.declared.reply.Reply.TheVariants as reply
use Rattle.table_model.specs.Event.{Event}
use Rattle.table_model.specs.Sessions.{live, params_of}
use Rattle.session_params.specs.declared.SessionRecord.{SessionRecord}
use Rattle.session_params.specs.declared.SetEnd.{SetEnd}
use Rattle.session_params.specs.declared.SetEnd.TheVariants.{Set, Unsupported, NotAllowed, Differs}

-- a session and its parameters
abbrev pub session_record_of : List Event → ℕ → SessionRecord
session_record_of past session = record { session = session; params = params_of past session }

-- the live sessions, the oldest first
unfoldable pub session_records_of : List Event → List SessionRecord
session_records_of past = map (session_record_of past) (live past)

abbrev pub StandsFor : List SessionRecord → List Event → Type 0
StandsFor session_records past = session_records ≡ session_records_of past

-- the reply that tells an end
abbrev pub set_reply : SetEnd → Reply
set_reply Set = reply.ParamsSet
set_reply Unsupported = reply.ParamsUnsupported
set_reply NotAllowed = reply.ParamsNotAllowed
set_reply (Differs other) = reply.ParamsDiffer other

abbrev pub began : ℕ → Event
began session = record { command = Begin; reply = reply.Began session }

abbrev pub asked_for : ℕ → AskedParams → SetEnd → Event
asked_for session asked end = record { command = SetParams session asked; reply = set_reply end }

abbrev pub left : ℕ → Event
left session = record { command = Leave session; reply = reply.Left }
