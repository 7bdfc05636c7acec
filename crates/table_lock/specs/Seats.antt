-- What clauses say of a seat.
use Rattle.std.specs.Prelude.{◌≡◌, ◌≢◌, ℕ, ◌^◌, ◌<◌, List, [], ◌∷◌, ◌++◌, length, Option, Some}
use Rattle.atomic_table.specs.Table.{Me}
use Rattle.atomic_table.specs.Seated.{TableId}
use Rattle.atomic_table.specs.declared.shared.Seat.{Seat}
use Rattle.table_lock.specs.declared.machine.Entry.{Entry}
use Rattle.table_lock.specs.declared.view.Kind.TheVariants.{Spent, Note, Pass}
use Rattle.table_lock.specs.declared.view.Phase.TheVariants.{Idle, Waits, Acts}
use Rattle.table_lock.specs.declared.view.View.{View}
use Rattle.table_lock.specs.declared.view.LastCall.{LastCall}
use Rattle.table_lock.specs.declared.view.Slot.{Slot}
use Rattle.table_lock.specs.Lock.{entry, Turn}
use Rattle.table_lock.specs.Passes.{PassView, NoteView}

module _ {M C R G : Type 0} where
  -- a seat of this table
  abbrev pub IsAt : TableId → Seat (Option (Slot M C R)) (View C R G) → Type 0
  IsAt id s = (s.table_id ≡ id) × (id.words ≡ 2) × (id.slots ≡ 1)

  abbrev pub IsSameSeat : Seat (Option (Slot M C R)) (View C R G) → Seat (Option (Slot M C R)) (View C R G) → Type 0
  IsSameSeat s t = (t.table_id ≡ s.table_id) × (t.id ≡ s.id)

  -- a pass between its calls
  abbrev pub IsIdle : Seat (Option (Slot M C R)) (View C R G) → Type 0
  IsIdle s = (s.me.0.kind ≡ Pass) × (s.me.0.phase ≡ Idle) × (s.me.1 ≡ [])

  -- the root
  abbrev pub IsRoot : Seat (Option (Slot M C R)) (View C R G) → Type 0
  IsRoot s = (s.me.0.kind ≡ Pass) × (s.me.0.phase ≡ Idle) × (s.me.1 ≡ []) × (s.me.0.number ≡ 0)

  abbrev pub IsNote : Seat (Option (Slot M C R)) (View C R G) → Type 0
  IsNote s = (s.me.0.kind ≡ Note) × (s.me.1 ≡ [])

  -- a seat that is not spent
  abbrev pub IsUnspent : Seat (Option (Slot M C R)) (View C R G) → Type 0
  IsUnspent s = s.me.0.kind ≢ Spent

  -- a pass that has drawn the ticket t
  abbrev pub IsHolding : Seat (Option (Slot M C R)) (View C R G) → ℕ → Type 0
  IsHolding s t = (s.me.0.kind ≡ Pass) × (s.me.0.phase ≡ Waits t) × (s.me.1 ≡ [])

  -- what clauses see of a pass
  abbrev pub pass_view : Seat (Option (Slot M C R)) (View C R G) → PassView C R G
  pass_view s = record {
    table = s.table_id;
    setup = s.me.0.setup;
    number = s.me.0.number;
    seen = s.me.0.seen;
    mine = s.me.0.mine;
    ticket = s.me.0.ticket;
    made = s.me.0.made;
    out = s.me.0.out;
    ended = s.me.0.ended;
  }

  -- and of a note
  abbrev pub note_view : Seat (Option (Slot M C R)) (View C R G) → NoteView C R G
  note_view s = record { table = s.table_id; setup = s.me.0.setup; seen = s.me.0.seen }

  abbrev pub glances : Me (Option (Slot M C R)) (View C R G) → ℕ → Me (Option (Slot M C R)) (View C R G)
  glances m n = (record m.0 { ticket = n }, m.1)

  abbrev pub draws : Me (Option (Slot M C R)) (View C R G) → ℕ → Me (Option (Slot M C R)) (View C R G)
  draws m n = (record m.0 { ticket = n; phase = Waits n }, m.1)

module _ {M C R G : Type 0} (setup : M → G) (stands : M → List (Entry C R) → Type 0) (lawful : G → List (Entry C R) → Type 0) where
  -- the seat's turn has come: it has seen the whole history, and holds the machine
  pub record Took (t : ℕ) (m m' : Me (Option (Slot M C R)) (View C R G)) : Type 0 where
    pub log : List (Entry C R)
    pub slot_content : Slot M C R
    pub now : m' ≡ (record m.0 { phase = Acts t; seen = log }, (0, Some slot_content) ∷ [])
    pub turn : Turn setup stands lawful m.0 t log slot_content

  pub record IsActing (s : Seat (Option (Slot M C R)) (View C R G)) : Type 0 where
    pub slot_content : Slot M C R
    pub ticket : ℕ
    pub pass : s.me.0.kind ≡ Pass
    pub acts : s.me.0.phase ≡ Acts ticket
    pub few : ticket < 2 ^ 62
    pub holds : s.me.1 ≡ (0, Some slot_content) ∷ []
    pub turn : Turn setup stands lawful s.me.0 ticket s.me.0.seen slot_content

module _ {M C R : Type 0} (stands : M → List (Entry C R) → Type 0) where
  -- a slot with a machine that may act
  pub record IsReady (slot : Option (Slot M C R)) : Type 0 where
    pub slot_content : Slot M C R
    pub has : slot ≡ Some slot_content
    pub history : List (Entry C R)
    pub stands_for : stands slot_content.machine history
    pub few : length history < 2 ^ 62

module _ {M C R G : Type 0} (setup : M → G) (stands : M → List (Entry C R) → Type 0) where
  -- the machine in the slot did this call, and the slot tells which it was
  pub record IsPerformed (old new : Option (Slot M C R)) (command : C) (reply : R) : Type 0 where
    pub before : Slot M C R
    pub after : Slot M C R
    pub last : LastCall C R
    pub was : old ≡ Some before
    pub now : new ≡ Some after
    pub last_is : after.last ≡ Some last
    pub command_is : last.command.value ≡ command
    pub reply_is : last.reply.value ≡ reply
    pub kept : setup after.machine ≡ setup before.machine
    pub event : (by : ℕ) (history : List (Entry C R)) → stands before.machine history → length history < 2 ^ 62
        → stands after.machine (history ++ entry by command reply ∷ [])
