use Rattle.std.proofs.Common.{◌≡◌, vec_len, ◌+◌}
use Rattle.serve_tests.proofs.gated_device.sixteen.Given as goal

abbrev pub invariant-loop : goal.invariant-loop
invariant-loop l = vec_len l.devices ≡ 2 + l.counter
