-- Examples of histories with a Halt, the oldest event first.
use Rattle.std.specs.Prelude.{List, [], ◌∷◌}
use Rattle.table_model.specs.declared.command.Command.TheVariants.{Begin, Leave, Halt}
use Rattle.table_model.specs.declared.params.AckType.TheVariants as ack
use Rattle.table_model.specs.declared.params.Persistence.TheVariants.{Delete, Preserve}
use Rattle.table_model.specs.declared.reply.Reply.TheVariants as reply
use Rattle.table_model.specs.Event.{Event}
use Rattle.table_model.specs.Laws.{event}
use Rattle.table_laws.specs.Examples.{as_primary}
use Rattle.table_laws.specs.Samples.{hop, operate, add, given, install, take, programmed, done}

-- a session leaves before the Halt, and a job is still out at it
abbrev pub two_workers : List Event
two_workers =
    as_primary Preserve ack.Rib 1
    (event Begin (reply.Began 3)
    ∷ event (Leave 3) reply.Left
    ∷ event (operate 0 1 1 (add (hop 1))) reply.RibDone
    ∷ event (operate 0 2 1 (add (hop 2))) reply.RibDone
    ∷ event (take 0) (given 6 0 (install (hop 2)))
    ∷ event Halt reply.HaltDone
    ∷ event (take 0) reply.Idle
    ∷ event (programmed 6 0) reply.Reported
    ∷ event (take 0) reply.HaltSeen
    ∷ event (operate 0 3 1 (add (hop 4))) reply.Stopped
    ∷ done 1 5 0 (install (hop 1))
    (event (take 1) reply.HaltSeen
    ∷ []))

abbrev pub leave_behind_halt : List Event
leave_behind_halt =
    as_primary Delete ack.Rib 1
    (event (operate 0 1 1 (add (hop 1))) reply.RibDone
    ∷ done 0 3 0 (install (hop 1))
    (event Halt reply.HaltDone
    ∷ event (take 0) reply.HaltSeen
    ∷ event (Leave 0) reply.Left
    ∷ []))
