use Rattle.std.proofs.Common.{◌∙◌, ◌+◌, ◌*◌, ℕ, List, ap, subst, sym}
use Rattle.kept_calls.specs.CallState.{CallState, state_of, with_message}
use Rattle.call_standing.specs.Standing.{StandsFor}
use Rattle.call_standing.proofs.Taken.{later_kept, none_changed, takes_message}
use Rattle.grpc_calls.proofs.calls.call_connection_impl.CallsCallConnection.answer.Goals as goal

pub returns-in-Ok-push-clause-ok : goal.returns-in-Ok-push-clause-ok
returns-in-Ok-push-clause-ok g c = λ t h.
    let same = c.in-Ok-push.ensures.ok ∙ ap (λ (m : List ℕ). with_message m (state_of c.index_mut.result.now)) c.as_slice.ensures.value in
    takes_message c.args.self.now.calls.items c.args.self.now.role c.args.self.now.pending c.args.stream c.in-Ok.at c.index_mut.result.now c.push.new.self c.in-Ok.ensures.at
    c.index_mut.ensures.value g.C.HttpConnection.stands g.C.HttpConnection.output g.met.C.HttpConnection.sound c.args.self.now.conn c.args.self.now.fate c.in-Ok.ensures.going t
    (c.in-Ok.ensures.sends t h) h c.args.message.items c.requires.size same

pub returns-in-Ok-push-clause-ahead : goal.returns-in-Ok-push-clause-ahead
returns-in-Ok-push-clause-ahead g c =
    ap (λ (n : ℕ). 16386 * g.C.HttpConnection.ahead c.args.self.now.conn + n)
    (later_kept c.args.self.now.calls.items c.args.self.now.pending c.args.stream c.in-Ok.at c.index_mut.result.now c.push.new.self c.in-Ok.ensures.at c.index_mut.ensures.value
    (ap (λ (s : CallState). s.stream) c.in-Ok-push.ensures.ok) (ap (λ (s : CallState). s.cutter) c.in-Ok-push.ensures.ok))

pub returns-in-Ok-clause-err : goal.returns-in-Ok-clause-err
returns-in-Ok-clause-err g c = λ t h.
    subst (λ (cs : List CallState). StandsFor g.C.HttpConnection.stands g.C.HttpConnection.output c.args.self.now.fate c.args.self.now.conn
    (record { role = c.args.self.now.role; calls = cs; pending = c.args.self.now.pending }) t)
    (sym (none_changed c.args.self.now.calls.items c.in-Ok.at c.index_mut.result.now c.push.new.self c.index_mut.ensures.value c.in-Err-push.ensures.err)) h

pub returns-in-Ok-clause-ahead : goal.returns-in-Ok-clause-ahead
returns-in-Ok-clause-ahead g c =
    ap (λ (n : ℕ). 16386 * g.C.HttpConnection.ahead c.args.self.now.conn + n)
    (later_kept c.args.self.now.calls.items c.args.self.now.pending c.args.stream c.in-Ok.at c.index_mut.result.now c.push.new.self c.in-Ok.ensures.at c.index_mut.ensures.value
    (ap (λ (s : CallState). s.stream) c.in-Err-push.ensures.err) (ap (λ (s : CallState). s.cutter) c.in-Err-push.ensures.err))
