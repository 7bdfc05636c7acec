use Rattle.std.proofs.Common.{rules, ◌≡◌, ℕ, true, false, List, subst}
use Rattle.message_run.specs.Written.{Wrote}
use Rattle.serve_command.specs.Served.{Around, IsClosedOver, around}
use Rattle.serve_command.proofs.Closing.{around_same, stays_true, told}
use Rattle.serve_command.proofs.running.serve.Goals as goal

pub returns-clause-serves : goal.returns-clause-serves
returns-clause-serves g c =
    let ran = c.in-Ok-serve_over.ran in
    let opened : c.listen.result ≡ true = search rules in
    let printed : c.print_counts.result ≡ true = search rules in
    let unspent : ran.tally.is_spent ≡ false = search rules in
    let closes = c.in-Ok-serve_over.ensures.closes unspent in
    let same = around_same g.A.Acceptor.given_count g.A.Acceptor.retired_count g.A.Acceptor.given g.A.Acceptor.retired g.A.Acceptor.faults c.listen.new.self c.args.acceptor.now
    c.args.devices.now.items c.listen.ensures.given_count c.listen.ensures.retired_count c.listen.ensures.told.0 c.listen.ensures.told.1
    (stays_true c.listen.result (g.A.Acceptor.faults c.args.acceptor.now) (g.A.Acceptor.faults c.listen.new.self) opened c.listen.ensures.stays) in
    told _ _ _ _ _ ran.tally.lacks_memory ran.tally.has_failed c.status_of.result c.status_of.ensures
    (record {
      history = closes.0;
      closed = subst (λ (before : Around g.row.A-Link.Denot g.row.D.Denot). IsClosedOver g.row.C.Denot g.A.Link.Link.pieces g.A.Link.Link.faults g.D.Device.contents g.D.Device.faults
          c.args.setting.now c.args.order.now.connections c.args.order.now.workers before
          (around g.A.Acceptor.given_count g.A.Acceptor.retired_count g.A.Acceptor.given g.A.Acceptor.retired g.A.Acceptor.faults c.serve_over.new.acceptor c.serve_over.new.devices.items)
          ran.tally.lacks_memory ran.tally.has_failed closes.0) same closes.1;
      wrote = subst (λ (line : List ℕ). Wrote (g.K.Sink.placed c.args.output.now) line (g.K.Sink.placed c.print_counts.new.output)) closes.2 (c.print_counts.ensures.all printed);
    })
