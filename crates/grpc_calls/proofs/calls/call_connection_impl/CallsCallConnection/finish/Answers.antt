use Rattle.std.proofs.Common.{◌+◌, ◌*◌, ℕ, ap}
use Rattle.kept_calls.specs.CallState.{CallState}
use Rattle.call_standing.proofs.Taken.{later_kept, takes_half_close}
use Rattle.grpc_calls.proofs.calls.call_connection_impl.CallsCallConnection.finish.Goals as goal

pub returns-in-Ok-clause-ok : goal.returns-in-Ok-clause-ok
returns-in-Ok-clause-ok g c = λ t h.
    takes_half_close c.args.self.now.calls.items c.args.self.now.role c.args.self.now.pending c.args.stream c.in-Ok.at c.index_mut.result.now c.close.new.self c.in-Ok.ensures.at
    c.index_mut.ensures.value g.C.HttpConnection.stands g.C.HttpConnection.output g.met.C.HttpConnection.sound c.args.self.now.conn c.args.self.now.fate c.in-Ok.ensures.going t
    (c.in-Ok.ensures.sends t h) h c.new.result c.new.ensures c.close.ensures

pub returns-in-Ok-clause-ahead : goal.returns-in-Ok-clause-ahead
returns-in-Ok-clause-ahead g c =
    ap (λ (n : ℕ). 16386 * g.C.HttpConnection.ahead c.args.self.now.conn + n)
    (later_kept c.args.self.now.calls.items c.args.self.now.pending c.args.stream c.in-Ok.at c.index_mut.result.now c.close.new.self c.in-Ok.ensures.at c.index_mut.ensures.value
    (ap (λ (s : CallState). s.stream) c.close.ensures) (ap (λ (s : CallState). s.cutter) c.close.ensures))
