-- The command that the message of a Get or a Flush asks for, or the status that refuses it (gRIBI).
use Rattle.std.specs.Prelude.{ℕ, pos, List, [], Option, Some, None, Result, Ok, Err}
use Rattle.gribi_messages.specs.GetAndFlush.{get_request, flush_request}
use Rattle.grpc_heads.specs.GrpcStatus.{GrpcStatus}
use Rattle.table_model.specs.declared.command.Command.{Command}
use Rattle.table_model.specs.declared.command.Command.TheVariants as command
use Rattle.table_model.specs.declared.command.FlushBy.{FlushBy}
use Rattle.table_model.specs.declared.command.KindAsk.{KindAsk}
use Rattle.table_model.specs.declared.command.Which.{Which}
use Rattle.call_answers.specs.declared.orders.Setting.{Setting}
use Rattle.call_requests.specs.Asked.{allowed_by, flush_message_refusal, get_message_refusal, invalid, kinds_of, which_asked}
use Rattle.std.specs.Option.{option_map}

-- a command of its parts, where both can be told
abbrev pub select_of : Option Which → Option KindAsk → Option Command
select_of (Some w) (Some k) = Some (command.Select w k)
select_of w k = None

-- its moment is that of its event, and 0 here
abbrev pub flush_of : Option FlushBy → Option Which → Option Command
flush_of (Some b) (Some w) = Some (command.Flush b w (pos 0))
flush_of b w = None

-- A message that nothing refuses asks for a command, so the last case never comes.
abbrev pub unless_refused : Option GrpcStatus → Option Command → Result Command GrpcStatus
unless_refused (Some refusal) asked = Err refusal
unless_refused None (Some c) = Ok c
unless_refused None None = Err (invalid [])

-- what a GetRequest asks for, or the first refusal of it
unfoldable pub get_asked : Setting → List ℕ → Result Command GrpcStatus
get_asked s m =
    unless_refused (get_message_refusal s m)
    (select_of (which_asked s.instances (get_request s.numbering m).instance) (kinds_of s.numbering (get_request s.numbering m).aft))

-- what a FlushRequest asks for, or the first refusal of it
unfoldable pub flush_asked : Setting → List ℕ → Result Command GrpcStatus
flush_asked s m =
    unless_refused (flush_message_refusal s m)
    (flush_of (option_map allowed_by (flush_request s.numbering m).election) (which_asked s.instances (flush_request s.numbering m).instance))
