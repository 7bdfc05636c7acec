-- Examples of histories, the oldest event first.
use Rattle.std.specs.Prelude.{ℕ, pos, true, false, List, [], ◌∷◌, Some, None}
use Rattle.aft_entries.specs.declared.operation.Ask.TheVariants as ask
use Rattle.aft_entries.specs.declared.operation.Reason.TheVariants as reason
use Rattle.aft_entries.specs.References.{hop_key, group_key}
use Rattle.table_model.specs.declared.command.Command.TheVariants.{Begin, SetParams, Announce, Collect, Leave, Flush, Halt}
use Rattle.table_model.specs.declared.command.FlushBy.TheVariants.{Id, Override}
use Rattle.table_model.specs.declared.command.Which.TheVariants.{All, One}
use Rattle.table_model.specs.declared.params.AckType.{AckType}
use Rattle.table_model.specs.declared.params.AckType.TheVariants as ack
use Rattle.table_model.specs.declared.params.Persistence.{Persistence}
use Rattle.table_model.specs.declared.params.Persistence.TheVariants.{Delete, Preserve}
use Rattle.table_model.specs.declared.params.Redundancy.TheVariants as redundancy
use Rattle.table_model.specs.declared.reply.Reply.TheVariants as reply
use Rattle.table_model.specs.Event.{Event}
use Rattle.table_model.specs.Laws.{event}
use Rattle.table_laws.specs.Samples.{hop, group, chained, v4_key, route, single, operate, add, replace, delete, number, given, install, remove, take, programmed, failed, result, row, get, failed_for, done}

-- session 0 is the primary under this id, and wants what its parameters say
abbrev pub as_primary : Persistence → AckType → ℕ → List Event → List Event
as_primary persistence acks id rest =
    event Begin (reply.Began 0) ∷ event (SetParams 0 (single persistence acks)) reply.ParamsSet ∷ event (Announce 0 id) (reply.Announced id) ∷ rest

-- equal ids make the latest announcer the primary
abbrev pub equal_ids : List Event
equal_ids =
    event Begin (reply.Began 0)
    ∷ event Begin (reply.Began 1)
    ∷ event (SetParams 0 (single Preserve ack.Rib)) reply.ParamsSet
    ∷ event (SetParams 1 (single Preserve ack.Rib)) reply.ParamsSet
    ∷ event (Announce 0 0) reply.ZeroId
    ∷ event (Announce 0 1) (reply.Announced 1)
    ∷ event (Announce 0 340282366920938463463374607431768211455) (reply.Announced 340282366920938463463374607431768211455)
    ∷ event (Announce 1 340282366920938463463374607431768211455) (reply.Announced 340282366920938463463374607431768211455)
    ∷ event (operate 0 1 340282366920938463463374607431768211455 (add (hop 1))) (failed_for reason.NotPrimary)
    ∷ event (operate 1 1 340282366920938463463374607431768211455 (add (hop 1))) reply.RibDone
    ∷ []

-- a primary that announces a lower id is none until it announces one that is high enough
abbrev pub lower_id : List Event
lower_id =
    as_primary Preserve ack.Rib 5
    (event (Announce 0 4) (reply.Announced 5)
    ∷ event (operate 0 1 5 (add (hop 1))) (failed_for reason.NotPrimary)
    ∷ event (Announce 0 5) (reply.Announced 5)
    ∷ event (operate 0 1 5 (add (hop 1))) reply.RibDone
    ∷ [])

-- an entry is refused while what it refers to isn't there, and what is referred to can't be deleted
abbrev pub references_first : List Event
references_first =
    as_primary Preserve ack.RibAndFib 1
    (event (operate 0 1 1 (add (route 0 3325256704 24 1))) (failed_for reason.Unresolved)
    ∷ event (operate 0 2 1 (add (hop 1))) reply.RibDone
    ∷ done 0 4 0 (install (hop 1))
    (event (Collect 0) (reply.Collected (result 2 None ∷ []) 0)
    ∷ event (operate 0 3 1 (add (group 1 1))) reply.RibDone
    ∷ done 0 8 0 (install (group 1 1))
    (event (Collect 0) (reply.Collected (result 3 None ∷ []) 0)
    ∷ event (operate 0 4 1 (add (route 0 3325256704 24 1))) reply.RibDone
    ∷ done 0 12 0 (install (route 0 3325256704 24 1))
    (event (Collect 0) (reply.Collected (result 4 None ∷ []) 0)
    ∷ event (operate 0 5 1 (delete (group_key 0 1))) (failed_for reason.InUse)
    ∷ []))))

-- parameters are set once, and under DELETE the entries go when the primary's session ends: what refers before what it refers to
abbrev pub leave_under_delete : List Event
leave_under_delete =
    as_primary Delete ack.RibAndFib 1
    (event (operate 0 1 1 (add (hop 1))) reply.RibDone
    ∷ event (operate 0 2 1 (add (group 1 1))) reply.RibDone
    ∷ event (operate 0 3 1 (add (route 0 3325256704 24 1))) reply.RibDone
    ∷ done 0 3 0 (install (hop 1))
    (done 0 4 0 (install (group 1 1))
    (done 0 5 0 (install (route 0 3325256704 24 1))
    (event (SetParams 0 (single Delete ack.RibAndFib)) reply.ParamsNotAllowed
    ∷ event (Leave 0) reply.Left
    ∷ event (get All) (reply.Selected [])
    ∷ event (take 0) (given 13 0 (remove (v4_key 0 3325256704 24)))
    ∷ event (take 0) reply.Idle
    ∷ event (programmed 13 0) reply.Reported
    ∷ done 0 13 1 (remove (group_key 0 1)) (done 0 13 2 (remove (hop_key 0 1)) [])))))

-- with three workers, a group's removal waits until the route that left it is done
abbrev pub removal_waits : List Event
removal_waits =
    as_primary Preserve ack.RibAndFib 1
    (event (operate 0 1 1 (add (hop 1))) reply.RibDone
    ∷ event (operate 0 2 1 (add (hop 2))) reply.RibDone
    ∷ event (operate 0 3 1 (add (group 1 1))) reply.RibDone
    ∷ event (operate 0 4 1 (add (group 2 2))) reply.RibDone
    ∷ event (operate 0 5 1 (add (route 0 167772160 8 1))) reply.RibDone
    ∷ event (operate 0 6 1 (replace (route 0 167772160 8 2))) reply.RibDone
    ∷ event (operate 0 7 1 (replace (route 0 167772160 8 2))) reply.RibDone
    ∷ event (operate 0 8 1 (delete (group_key 0 1))) reply.RibDone
    ∷ event (take 2) (given 4 0 (install (hop 2)))
    ∷ event (take 2) reply.Idle
    ∷ event (take 0) reply.Idle
    ∷ event (take 1) (given 3 0 (install (hop 1)))
    ∷ event (programmed 4 0) reply.Reported
    ∷ event (programmed 3 0) reply.Reported
    ∷ event (take 2) (given 5 0 (install (group 1 1)))
    ∷ event (take 0) (given 6 0 (install (group 2 2)))
    ∷ event (programmed 6 0) reply.Reported
    ∷ event (programmed 5 0) reply.Reported
    ∷ event (take 2) (given 7 0 (install (route 0 167772160 8 1)))
    ∷ event (take 2) reply.Idle
    ∷ event (programmed 7 0) reply.Reported
    ∷ event (take 2) (given 8 0 (install (route 0 167772160 8 2)))
    ∷ event (take 2) reply.Idle
    ∷ event (programmed 8 0) reply.Reported
    ∷ event (take 2) (given 9 0 (install (route 0 167772160 8 2)))
    ∷ event (take 2) (given 10 0 (remove (group_key 0 1)))
    ∷ event (programmed 10 0) reply.Reported
    ∷ event (programmed 9 0) reply.Reported
    ∷ event (Collect 0)
    (reply.Collected (result 2 None ∷ result 1 None ∷ result 4 None ∷ result 3 None ∷ result 5 None ∷ result 6 None ∷ result 8 None ∷ result 7 None ∷ []) 0)
    ∷ event (get All) (reply.Selected (row (hop 1) true ∷ row (hop 2) true ∷ row (group 2 2) true ∷ row (route 0 167772160 8 2) true ∷ []))
    ∷ [])

-- where the device fails, what refers to the missing entry is skipped, and both may be added again
abbrev pub device_fault : List Event
device_fault =
    as_primary Preserve ack.RibAndFib 1
    (event (operate 0 1 1 (add (hop 1))) reply.RibDone
    ∷ event (operate 0 2 1 (add (group 1 1))) reply.RibDone
    ∷ event (operate 0 3 1 (add (route 0 3325256704 24 1))) reply.RibDone
    ∷ done 0 3 0 (install (hop 1))
    (event (take 0) (given 4 0 (install (group 1 1)))
    ∷ event (failed 4 0) reply.Reported
    ∷ event (take 0) (reply.Skipped (number 5 0))
    ∷ event (Collect 0) (reply.Collected (result 1 None ∷ result 2 (Some 20) ∷ result 3 (Some 21) ∷ []) 0)
    ∷ event (operate 0 4 1 (add (group 1 1))) reply.RibDone
    ∷ event (operate 0 5 1 (add (route 0 3325256704 24 1))) reply.RibDone
    ∷ done 0 12 0 (install (group 1 1))
    (done 0 13 0 (install (route 0 3325256704 24 1))
    (event (Collect 0) (reply.Collected (result 4 None ∷ result 5 None ∷ []) 0)
    ∷ []))))

-- a Flush of instance 0 leaves what an entry of instance 1 reaches; one of all instances leaves nothing
abbrev pub flush_of_one : List Event
flush_of_one =
    as_primary Preserve ack.Rib 1
    (event (operate 0 1 1 (add (hop 1))) reply.RibDone
    ∷ event (operate 0 2 1 (add (group 1 1))) reply.RibDone
    ∷ event (operate 0 3 1 (add (route 0 3325256704 24 1))) reply.RibDone
    ∷ event (operate 0 4 1 (add (route 1 3405803776 24 1))) reply.RibDone
    ∷ event (Flush (Id 1) (One 0) (pos 0)) (reply.Flushed true)
    ∷ event (get All) (reply.Selected (row (hop 1) false ∷ row (group 1 1) false ∷ row (route 1 3405803776 24 1) false ∷ []))
    ∷ event (Flush (Id 1) All (pos 0)) (reply.Flushed false)
    ∷ event (get All) (reply.Selected [])
    ∷ [])

-- sessions whose parameters are refused, or that have none
abbrev pub parameters : List Event
parameters =
    event Begin (reply.Began 0)
    ∷ event (SetParams 0 (record { redundancy = Some redundancy.AllPrimary; persistence = Some Preserve; ack = Some ack.Rib })) reply.ParamsUnsupported
    ∷ event Begin (reply.Began 2)
    ∷ event (SetParams 2 (single Preserve ack.Rib)) reply.ParamsSet
    ∷ event Begin (reply.Began 4)
    ∷ event (SetParams 4 (single Delete ack.Rib)) (reply.ParamsDiffer (record { persistence = Preserve; ack = ack.Rib }))
    ∷ event Begin (reply.Began 6)
    ∷ event (operate 6 1 1 (add (hop 1))) reply.NoParams
    ∷ event (Announce 6 1) reply.NoParams
    ∷ []

-- with a limit of 4 entries, a fifth is refused, and one that is there may be written again
abbrev pub full_table : List Event
full_table =
    as_primary Preserve ack.Rib 1
    (event (operate 0 1 1 (add (hop 1))) reply.RibDone
    ∷ event (operate 0 2 1 (add (hop 2))) reply.RibDone
    ∷ event (operate 0 3 1 (add (hop 3))) reply.RibDone
    ∷ event (operate 0 4 1 (add (hop 4))) reply.RibDone
    ∷ event (operate 0 5 1 (add (hop 5))) (failed_for reason.TableFull)
    ∷ event (operate 0 6 1 (add (hop 4))) reply.RibDone
    ∷ event (operate 0 7 1 (delete (hop_key 0 1))) reply.RibDone
    ∷ event (operate 0 8 1 (add (hop 5))) reply.RibDone
    ∷ [])

-- what changes nothing in the table makes its job all the same
abbrev pub idle_changes : List Event
idle_changes =
    as_primary Preserve ack.RibAndFib 1
    (event (operate 0 1 1 (add (hop 1))) reply.RibDone
    ∷ done 0 3 0 (install (hop 1))
    (event (operate 0 2 1 (delete (hop_key 0 9))) reply.RibDone
    ∷ event (operate 0 3 1 (replace (hop 1))) reply.RibDone
    ∷ event (operate 0 4 1 (replace (hop 1))) reply.RibDone
    ∷ done 0 6 0 (remove (hop_key 0 9))
    (done 0 7 0 (install (hop 1))
    (done 0 8 0 (install (hop 1))
    (event (take 0) reply.Idle
    ∷ event (Collect 0) (reply.Collected (result 1 None ∷ result 2 None ∷ result 3 None ∷ result 4 None ∷ []) 0)
    ∷ [])))))

-- refusals that the table alone can give, and one that the operation brought with it
abbrev pub refusals : List Event
refusals =
    as_primary Preserve ack.Rib 1
    (event (operate 0 1 1 (add (chained 3 None))) reply.RibDone
    ∷ event (operate 0 2 1 (add (chained 3 (Some 3)))) (failed_for reason.BackupDepth)
    ∷ event (operate 0 3 1 (replace (hop 4))) (failed_for reason.NotThere)
    ∷ event (operate 0 4 1 (ask.Bad reason.KindUnsupported)) (failed_for reason.KindUnsupported)
    ∷ [])

abbrev pub leave_twice : List Event
leave_twice = event Begin (reply.Began 0) ∷ event (Leave 0) reply.Left ∷ event (Leave 0) reply.Gone ∷ []

-- a job is reported once, and after a Halt a worker with nothing left sees it
abbrev pub halt : List Event
halt =
    as_primary Preserve ack.Rib 1
    (event (operate 0 1 1 (add (hop 1))) reply.RibDone
    ∷ done 0 3 0 (install (hop 1))
    (event (programmed 3 0) reply.NotOut
    ∷ event Halt reply.HaltDone
    ∷ event (take 0) reply.HaltSeen
    ∷ event Begin reply.Stopped
    ∷ []))

-- a Flush needs an id that is at least the highest, or an override
abbrev pub flush_refused : List Event
flush_refused =
    as_primary Preserve ack.Rib 5
    (event (operate 0 1 5 (add (hop 1))) reply.RibDone
    ∷ event (Flush (Id 4) All (pos 0)) (reply.FlushRefused 5)
    ∷ event (Flush Override All (pos 0)) (reply.Flushed false)
    ∷ [])

-- a chain of four groups takes none more at either end, until one goes
abbrev pub chain_of_four : List Event
chain_of_four =
    as_primary Preserve ack.Rib 1
    (event (operate 0 1 1 (add (chained 4 None))) reply.RibDone
    ∷ event (operate 0 2 1 (add (chained 3 (Some 4)))) reply.RibDone
    ∷ event (operate 0 3 1 (add (chained 2 (Some 3)))) reply.RibDone
    ∷ event (operate 0 4 1 (add (chained 1 (Some 2)))) reply.RibDone
    ∷ event (operate 0 5 1 (add (chained 6 None))) reply.RibDone
    ∷ event (operate 0 6 1 (add (chained 5 (Some 1)))) (failed_for reason.BackupDepth)
    ∷ event (operate 0 7 1 (add (chained 4 (Some 1)))) (failed_for reason.BackupDepth)
    ∷ event (operate 0 8 1 (add (chained 4 (Some 6)))) (failed_for reason.BackupDepth)
    ∷ event (operate 0 9 1 (add (chained 6 (Some 1)))) (failed_for reason.BackupDepth)
    ∷ event (operate 0 10 1 (replace (chained 1 None))) reply.RibDone
    ∷ event (operate 0 11 1 (add (chained 4 (Some 6)))) reply.RibDone
    ∷ [])

-- a purge removes groups from the head of their chain on, and next hops last
abbrev pub purge_of_a_chain : List Event
purge_of_a_chain =
    as_primary Delete ack.Rib 1
    (event (operate 0 1 1 (add (chained 4 None))) reply.RibDone
    ∷ event (operate 0 2 1 (add (chained 3 (Some 4)))) reply.RibDone
    ∷ event (operate 0 3 1 (add (chained 2 (Some 3)))) reply.RibDone
    ∷ event (operate 0 4 1 (add (chained 1 (Some 2)))) reply.RibDone
    ∷ event (operate 0 5 1 (add (hop 1))) reply.RibDone
    ∷ done 0 3 0 (install (chained 4 None))
    (done 0 4 0 (install (chained 3 (Some 4)))
    (done 0 5 0 (install (chained 2 (Some 3)))
    (done 0 6 0 (install (chained 1 (Some 2)))
    (done 0 7 0 (install (hop 1))
    (event (Leave 0) reply.Left
    ∷ done 0 18 0 (remove (group_key 0 1))
    (done 0 18 1 (remove (group_key 0 2))
    (done 0 18 2 (remove (group_key 0 3)) (done 0 18 3 (remove (group_key 0 4)) (done 0 18 4 (remove (hop_key 0 1)) []))))))))))
