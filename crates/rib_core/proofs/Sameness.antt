-- What differs in spare places alone.
use Rattle.std.proofs.Common.{◌≡◌, ℕ, refl, ap, Bool, List}
use Rattle.aft_entries.specs.declared.entry.Entry.{Entry}
use Rattle.table_model.specs.Jobs.{TrackedTask}
use Rattle.table_model.specs.BoardState.{BoardState, DueResults}
use Rattle.rib_core.specs.Core.{Core, without_spare, board_without_spare}
use Rattle.rib_core.specs.Tables.{TablesState, IsSame}

plain : Core → List Entry → ℕ → ℕ → List TrackedTask → List Entry → List DueResults → Core
plain core entries count workers undone fib due = record {
  config = core.config;
  table = record { entries = entries; spare = 0 };
  election_state = core.election_state;
  session_records = core.session_records;
  count = count;
  board = record { workers = workers; undone = undone; fib = fib; due = due; spare = 0 };
  halted = core.halted;
}

same_parts : (core : Core) (es fs : List Entry) (m n v w : ℕ) (ts us : List TrackedTask) (g h : List Entry) (d e : List DueResults) → es ≡ fs → m ≡ n → v ≡ w → ts ≡ us → g ≡ h → d ≡ e
    → plain core es m v ts g d ≡ plain core fs n w us h e
same_parts core es fs m n v w ts us g h d e a b c p q r = cc

abbrev with_these : Core → TablesState → Core
with_these core t = record { config = core.config; table = t.table; election_state = core.election_state; session_records = core.session_records; count = t.count; board = t.board; halted = core.halted }

pub same_core : (core : Core) (old new : TablesState) → IsSame old new → without_spare (with_these core new) ≡ without_spare (with_these core old)
unfolding plain
same_core core old new same =
    same_parts core new.table.entries old.table.entries new.count old.count new.board.workers old.board.workers new.board.undone old.board.undone new.board.fib old.board.fib new.board.due old.board.due
    same.entries same.count same.workers same.undone same.fib same.due
