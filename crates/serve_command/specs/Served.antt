-- What a server's run comes to: the history that it closed, the links that it served, what its workers did, and its status.
use Rattle.std.specs.Prelude.{◌≡◌, ◌⊎◌, ℕ, ◌+◌, ◌<◌, Bool, true, false, List, [], ◌++◌, length, map, drop, reverse, slice_index_or, Option}
use mathlib.Core.List.{IsPrefix}
use Rattle.rig_io.specs.Fault.{HasRisen}
use Rattle.rig_io.specs.Link.{Piece}
use Rattle.message_run.specs.Written.{Wrote, WrotePart}
use Rattle.aft_entries.specs.declared.entry.Entry.{Entry}
use Rattle.table_model.specs.declared.command.Command.{Command}
use Rattle.table_model.specs.declared.command.Command.TheVariants as command
use Rattle.table_model.specs.declared.command.Config.{Config}
use Rattle.table_model.specs.declared.reply.Reply.{Reply}
use Rattle.table_model.specs.Event.{events}
use Rattle.table_lock.specs.Passes.{IsClosed, LockView, PassView, item}
use Rattle.rib_core.specs.Recorded.{IsLawful, recorded}
use Rattle.call_answers.specs.declared.orders.Setting.{Setting}
use Rattle.link_serving.specs.Serving.{Each, Links, links_of, start_at}
use Rattle.link_serving.specs.Beside.{HasServed}
use Rattle.table_workers.specs.declared.threads.Worker.{Worker}
use Rattle.table_workers.specs.Threads.{HasRun}
use Rattle.table_workers.specs.Working.{Calls}
use Rattle.gribi_serve.specs.Links.{IsServed}
use Rattle.serve_command.specs.Line.{line_of}

-- a server's table has so many network instances and workers, and takes 1,000,000 entries
abbrev pub setup_for : Setting → ℕ → Config
setup_for setting workers = record { instances = length setting.instances; workers = workers; limit = 1000000 }

-- what a server's run is given and leaves: the links and the failures of its acceptor, and its devices
pub record Around (L D : Type 0) : Type 0 where
  pub links : Links L
  pub faults : ℕ
  pub devices : List D

-- What a server did that closed its table after this history: each link was served through a pass of its own, with the promise of a
-- connection kept to its client; each worker ran beside them with the device of its shard, until the Halt behind the last link; and all
-- passes were joined, so that the closed history begins with what each of them had seen, and has the calls of each and no others.
pub record IsClosedOver {L D : Type 0} (C : Type 0) (pieces : L → Option (List Piece)) (link_faults : L → ℕ) (contents : D → Option (List Entry))
    (device_faults : D → ℕ) (setting : Setting) (connections workers : ℕ) (before after : Around L D) (short failed : Bool)
    (history : Calls) : Type 0 where
  pub lock : LockView Config
  pub setup : lock.setup ≡ setup_for setting workers
  -- the root pass before and behind the serving, and at the end
  pub begun : PassView Command Reply Config
  pub served : PassView Command Reply Config
  pub root : PassView Command Reply Config
  pub fresh : (begun.seen ≡ []) × (begun.ended ≡ [])
  pub serves : HasServed IsLawful lock.setup (IsServed pieces link_faults lock.setup setting) command.Halt (start_at begun before.links) served after.links
      short false
  -- the workers before and behind their runs
  pub hired : List (Worker D C)
  pub done : List (Worker D C)
  pub number : length hired ≡ workers
  pub unused : (i : ℕ) (d : Worker D C) → i < workers → ((slice_index_or hired i d).number ≡ i) × ((slice_index_or hired i d).pass.mine ≡ [])
  pub given : before.devices ≡ map (λ w. w.device) hired ++ drop workers before.devices
  pub left : after.devices ≡ map (λ w. w.device) done ++ drop workers before.devices
  pub ran : (i : ℕ) (d : Worker D C) → i < workers → HasRun contents device_faults lock (slice_index_or hired i d) (slice_index_or done i d)
  pub halted : (i : ℕ) (d : Worker D C) → i < workers → (slice_index_or done i d).is_spent ≡ false
  -- the closed history
  pub joined : root.ended ≡ served.ended ++ map (λ w. item w.pass) (reverse done)
  pub seen : IsPrefix served.seen root.seen
  pub each_seen : Each (λ w. IsPrefix w.pass.seen root.seen) done
  pub closed : IsClosed IsLawful lock.setup root
  pub history_is : root.seen ≡ history
  -- as many links were retired as were given, and as many as were asked for where accepting did not fail
  pub retired : after.links.gave + before.links.took ≡ after.links.took + before.links.gave
  pub all : failed ≡ false → after.links.gave ≡ before.links.gave + connections
  pub rose : failed ≡ true → HasRisen before.faults after.faults
  pub hidden : failed ≡ false → after.faults ≡ before.faults

module _ (closes : Bool → Bool → Calls → Type 0) (before after : Option (List ℕ)) where
  -- The line of the closed history was written. It is told whether memory was wanting for a link or in one, and whether accepting failed.
  pub record HasPrinted (short failed : Bool) : Type 0 where
    pub history : Calls
    pub closed : closes short failed history
    pub wrote : Wrote before (line_of (events (recorded history))) after

  -- A first part of it was.
  pub record HasPrintedPart : Type 0 where
    pub short : Bool
    pub failed : Bool
    pub history : Calls
    pub closed : closes short failed history
    pub part : WrotePart before (line_of (events (recorded history))) after

abbrev pub IsServeStatus : ℕ → Type 0
IsServeStatus status = (status ≡ 0) ⊎ (status ≡ 5) ⊎ (status ≡ 6) ⊎ (status ≡ 8) ⊎ (status ≡ 14)

-- nothing was begun: no link was asked for, and nothing was written
pub record IsUnserved {L D : Type 0} (before after : Around L D) (written written' : Option (List ℕ)) : Type 0 where
  pub links : after.links ≡ before.links
  pub devices : after.devices ≡ before.devices
  pub silent : written' ≡ written

-- What a server's run came to, by its status.
pub record Serves {L D : Type 0} (closes : Bool → Bool → Calls → Type 0) (before after : Around L D) (written written' : Option (List ℕ)) (status : ℕ) : Type 0 where
  pub is_status : IsServeStatus status
  -- 0: all links that were asked for were served, with memory enough
  pub served : status ≡ 0 → HasPrinted closes written written' false false
  -- 5: the line could not be written whole
  pub cut : status ≡ 5 → HasPrintedPart closes written written'
  -- 6: want of memory, for a link or in one; or for the table or its workers, and then nothing was begun
  pub short : status ≡ 6 → ((failed : Bool) × HasPrinted closes written written' true failed) ⊎ IsUnserved before after written written'
  -- 8: accepting failed, behind the links that came before; or the address was not opened, and then nothing was begun
  pub failed : status ≡ 8 → HasPrinted closes written written' false true
      ⊎ (IsUnserved before after written written' × HasRisen before.faults after.faults)
  -- 14: a call of the lock was Spent
  pub spent : status ≡ 14 → written' ≡ written

abbrev pub around : {A L D : Type 0} → (A → ℕ) → (A → ℕ) → (A → Option (List L)) → (A → Option (List L)) → (A → ℕ) → A → List D → Around L D
around gave took given retired faults a devices = record { links = links_of gave took given retired a; faults = faults a; devices = devices }
