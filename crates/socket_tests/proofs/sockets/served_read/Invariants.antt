use Rattle.std.proofs.Common.{◌≡◌, ◌≤◌}
use Rattle.socket_tests.proofs.sockets.served_read.Given as goal

abbrev pub invariant-loop : goal.invariant-loop
invariant-loop g l = record {
  given : l.fn.acceptor.given_count ≤ l.acceptor.given_count;
  retired : l.acceptor.retired_count ≡ l.fn.acceptor.retired_count;
}
