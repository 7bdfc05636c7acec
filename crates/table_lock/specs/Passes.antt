-- What clauses see of a lock, a pass and a note.
use Rattle.std.specs.Prelude.{◌≡◌, ◌≢◌, ◌⊎◌, ℕ, ◌+◌, ◌^◌, ◌<◌, ◌≤◌, Bool, true, false, List, [], ◌∷◌, ◌++◌, length, Option, Some}
use mathlib.Core.List.{IsPrefix}
use mathlib.Core.Option.{some}
use lib.ListN.{get_elem?}
use Rattle.atomic_table.specs.Seated.{TableId}
use Rattle.table_lock.specs.declared.machine.Entry.{Entry}
use Rattle.table_lock.specs.declared.view.Item.{Item}
use Rattle.table_lock.specs.Lock.{calls_of, entry, Apart, IsNotEnded}

-- which lock it is, and the setup of its machine
pub record LockView (G : Type 0) : Type 0 where
  pub table : TableId
  pub setup : G

-- what a pass knows
pub record PassView (C R G : Type 0) : Type 0 where
  pub table : TableId
  pub setup : Option G
  pub number : ℕ
  pub seen : List (Entry C R)
  pub mine : List (Entry C R)
  pub ticket : ℕ
  pub made : ℕ
  pub out : ℕ
  pub ended : List (Item C R)

-- what a note knows
pub record NoteView (C R G : Type 0) : Type 0 where
  pub table : TableId
  pub setup : Option G
  pub seen : List (Entry C R)

module _ {C R G : Type 0} where
  abbrev pub IsPassOf : LockView G → PassView C R G → Type 0
  IsPassOf l p = (p.table ≡ l.table) × (p.setup ≡ Some l.setup)

  abbrev pub IsNoteOf : LockView G → NoteView C R G → Type 0
  IsNoteOf l p = (p.table ≡ l.table) × (p.setup ≡ Some l.setup)

  abbrev pub root_view : LockView G → PassView C R G
  root_view l = record { table = l.table; setup = Some l.setup; number = 0; seen = []; mine = []; ticket = 0; made = 1; out = 0; ended = [] }

  -- a pass that is split off
  abbrev pub child : PassView C R G → PassView C R G
  child p = record p { number = p.made; mine = []; ticket = 0; made = 0; out = 0; ended = [] }

  abbrev pub item : PassView C R G → Item C R
  item p = record { number = p.number; calls = p.mine }

module _ {C R G : Type 0} (lawful : G → List (Entry C R) → Type 0) (setup : G) where
  -- what a pass has seen is lawful, and has its own calls and no others of its number
  pub record IsSound (p : PassView C R G) : Type 0 where
    pub legal : lawful setup p.seen
    pub own : calls_of p.number p.seen ≡ p.mine

  -- What happened to a pass over any number of calls: its history went on, and these calls of its own were added. The ticket that it
  -- looked at last is the one of before, or one that was drawn for a call: so after a call that was Spent it is one of before.
  pub record IsExtended (p q : PassView C R G) (calls : List (Entry C R)) : Type 0 where
    pub seen : IsPrefix p.seen q.seen
    pub mine : q.mine ≡ p.mine ++ calls
    pub sound : IsSound q
    pub ticket : (q.ticket ≡ p.ticket) ⊎ (q.ticket < 2 ^ 62)
    pub same : (q.table ≡ p.table) × (q.setup ≡ p.setup) × (q.number ≡ p.number)

  -- The pass made these calls and no others: it knows one lawful history, which begins with all that it had seen and has them as its
  -- next own ones. Where a call behind them was Spent, its ticket is past the last that the lock gives.
  abbrev pub Makes : Bool → PassView C R G → PassView C R G → List (Entry C R) → Type 0
  Makes false p q calls = IsExtended p q calls
  Makes true p q calls = (mid : PassView C R G) × IsExtended p mid calls × (q ≡ record mid { ticket = q.ticket }) × (2 ^ 62 ≤ q.ticket)

  -- the call stands at the end of one lawful history, which begins with all that the pass had seen and has its own calls and no others of it
  pub record IsCalled (p q : PassView C R G) (command : C) (reply : R) : Type 0 where
    pub between : List (Entry C R)
    pub history : q.seen ≡ (p.seen ++ between) ++ entry p.number command reply ∷ []
    pub legal : lawful setup q.seen
    pub mine : q.mine ≡ p.mine ++ entry p.number command reply ∷ []
    pub own : calls_of p.number q.seen ≡ q.mine
    pub below : q.ticket < 2 ^ 62
    pub same : q ≡ record p { seen = q.seen; mine = q.mine; ticket = q.ticket }

  -- the longer of two histories, which the other begins
  pub record IsLearned (p : PassView C R G) (told : List (Entry C R)) (q : PassView C R G) : Type 0 where
    pub one_of : (q.seen ≡ p.seen) ⊎ (q.seen ≡ told)
    pub mine : IsPrefix p.seen q.seen
    pub theirs : IsPrefix told q.seen
    pub legal : lawful setup q.seen
    pub own : calls_of p.number q.seen ≡ q.mine

  -- the closed history: what the root has seen, with its own calls, those of the passes that were joined, and no others
  pub record IsClosed (p : PassView C R G) : Type 0 where
    pub legal : lawful setup p.seen
    pub own : calls_of p.number p.seen ≡ p.mine
    pub joined : (k : ℕ) (i : Item C R) → get_elem? p.ended k ≡ some i → calls_of i.number p.seen ≡ i.calls
    pub others : (n : ℕ) → n ≢ p.number → IsNotEnded p.ended n → calls_of n p.seen ≡ []
    pub apart : Apart p.ended
    pub count : p.made ≡ 1 + length p.ended
