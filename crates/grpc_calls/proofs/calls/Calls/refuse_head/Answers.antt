use Rattle.std.proofs.Common.{◌∙◌, ◌≤◌, ◌++◌, ◌∷◌, [], List, Result, IfOk, None, sum_by, sym, ap, subst}
use Rattle.hpack_tables.specs.EntrySizes.{size_of}
use Rattle.hpack_tables.specs.declared.field.Field.{Field}
use Rattle.h2_exchange.specs.Events.{Head}
use Rattle.kept_calls.specs.declared.call.Ending.TheVariants as end
use Rattle.kept_calls.specs.CallState.{CallState, closed_by, states}
use Rattle.call_telling.proofs.Arms.{Comes, gave_up_arm, state_at}
use Rattle.grpc_calls.specs.Object.{state_in}
use Rattle.grpc_calls.specs.Refusing.{SaysEnd}
use Rattle.grpc_calls.proofs.Refusing.{head_arm}
use Rattle.grpc_calls.proofs.calls.Calls.refuse_head.Goals as goal

pub returns-in-Ok-add_call-clause-says : goal.returns-in-Ok-add_call-clause-says
returns-in-Ok-add_call-clause-says g c = λ t heads last close h is says going quiet.
    let x = c.args.self.now in
    subst (λ (cs : List CallState). Comes g.C.HttpConnection.stands g.C.HttpConnection.output g.met.C.HttpConnection.sound x.conn x.fate (state_at x.role x.pending cs) t None)
    (sym (c.in-Ok-add_call.ensures.ok ∙ ap (λ (s : CallState). states x.calls.items ++ s ∷ []) (c.close.ensures ∙ ap (closed_by end.Block c.in-Ok.fields) c.new-call.ensures)))
    (head_arm g.C.HttpConnection.stands g.C.HttpConnection.output g.met.C.HttpConnection.sound x.conn x.fate going (state_in x) quiet t c.requires.role c.args.stream heads c.in-Ok.fields last close
    (subst (λ (r : Result (List Field) _). IfOk r (λ (block : List Field). sum_by size_of block ≤ 65536)) c.in-Ok.is c.requires.fits) is
    (subst (λ (r : Result (List Field) _). IfOk r (SaysEnd t.numbers close)) c.in-Ok.is says) h)

pub returns-in-Err-add_call-clause-says : goal.returns-in-Err-add_call-clause-says
returns-in-Err-add_call-clause-says g c = λ t heads last close h is says going quiet.
    let x = c.args.self.now in
    gave_up_arm g.C.HttpConnection.stands g.C.HttpConnection.output g.met.C.HttpConnection.sound x.conn c.die.new.self.conn c.die.ensures.conn c.die.new.self.fate c.die.ensures.fate
    c.die.result c.die.ensures.event (state_in x) (state_in c.die.new.self) t (Head c.args.stream heads last) h

pub returns-in-Err-clause-says : goal.returns-in-Err-clause-says
returns-in-Err-clause-says g c = λ t heads last close h is says going quiet.
    let x = c.args.self.now in
    gave_up_arm g.C.HttpConnection.stands g.C.HttpConnection.output g.met.C.HttpConnection.sound x.conn c.die-in-Err.new.self.conn c.die-in-Err.ensures.conn c.die-in-Err.new.self.fate
    c.die-in-Err.ensures.fate c.die-in-Err.result c.die-in-Err.ensures.event (state_in x) (state_in c.die-in-Err.new.self) t (Head c.args.stream heads last) h
