use Rattle.std.proofs.Common.{refl}
use Rattle.table_model.specs.Event.{events}
use Rattle.table_model.specs.Rib.{rib}
use Rattle.table_model.specs.Reply.{is_halted}
use Rattle.fib_board.proofs.Older.{empty_stands}
use Rattle.rib_core.proofs.machine.RibCore.new.Goals as goal

pub returns-clause-stands : goal.returns-clause-stands
unfolding events rib is_halted
returns-clause-stands c = record {
  legal = tt;
  keeps = record {
    count = c.in_ok-tables.ensures.count;
    table = c.in_ok-tables.ensures.table;
    election_state = c.new-2.ensures;
    session_records = c.new-3.ensures.stands;
    workers = c.in_ok-tables.ensures.workers;
    board = empty_stands _ (record { workers = refl; undone = c.in_ok-tables.ensures.undone; fib = c.in_ok-tables.ensures.fib; due = c.in_ok-tables.ensures.due });
    halted = refl;
  };
}
