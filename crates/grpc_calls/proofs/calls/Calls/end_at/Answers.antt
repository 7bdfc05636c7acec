use Rattle.std.proofs.Common.{◌≡◌, ◌∙◌, ◌+◌, ◌*◌, ℕ, ap}
use Rattle.std.specs.Prelude.{not}
use Rattle.kept_calls.specs.declared.call.Ending.{Ending}
use Rattle.kept_calls.specs.CallState.{CallState, closed_by, state_of}
use Rattle.kept_calls.proofs.Short.{end_is_short}
use Rattle.call_standing.proofs.Found.{same_call}
use Rattle.call_standing.proofs.Taken.{later_kept, takes_status}
use Rattle.grpc_calls.proofs.calls.Calls.end_at.Goals as goal

pub returns-in-Ok-clause-ok : goal.returns-in-Ok-clause-ok
returns-in-Ok-clause-ok g c = λ t h numbers going taking.
    let x = c.args.self.now in
    let call = c.index_mut.result.now in
    let is_alone = not c.index.result.now.has_message in
    let same = same_call x.calls.items c.args.stream c.args.at c.index.result.now call c.requires.at c.index.ensures c.index_mut.ensures.value in
    let alone : not c.index.result.now.has_message ≡ not call.has_message = ap (λ (s : CallState). not s.has_message) same in
    let now = c.close.ensures ∙ ap (λ (e : Ending). closed_by e c.in-Ok.fields (state_of call)) c.last_ending.ensures in
    takes_status x.calls.items x.role x.pending c.args.stream c.args.at call c.close.new.self c.requires.at c.index_mut.ensures.value
    g.C.HttpConnection.stands g.C.HttpConnection.output g.met.C.HttpConnection.sound x.conn x.fate going t taking h
    c.args.n.now c.args.status.now is_alone c.in-Ok.fields numbers c.statuses_are_written.ensures.read c.statuses_are_written.ensures.sound alone c.in-Ok.ensures
    (end_is_short c.args.n.now c.args.status.now is_alone c.in-Ok.fields c.in-Ok.ensures c.requires.size) now

pub returns-in-Ok-clause-ahead : goal.returns-in-Ok-clause-ahead
returns-in-Ok-clause-ahead g c =
    ap (λ (n : ℕ). 16386 * g.C.HttpConnection.ahead c.args.self.now.conn + n)
    (later_kept c.args.self.now.calls.items c.args.self.now.pending c.args.stream c.args.at c.index_mut.result.now c.close.new.self c.requires.at c.index_mut.ensures.value
    (ap (λ (s : CallState). s.stream) c.close.ensures) (ap (λ (s : CallState). s.cutter) c.close.ensures))
