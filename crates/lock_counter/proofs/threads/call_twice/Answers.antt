use Rattle.std.proofs.Common.{ℕ, [], ◌∷◌, subst}
use Rattle.table_lock.specs.Lock.{entry}
use Rattle.table_lock.specs.Passes.{IsExtended}
use Rattle.table_lock.proofs.Extends.{extended_more, extended_call}
use Rattle.lock_counter.proofs.threads.call_twice.Goals as goal

pub returns-clause-called : goal.returns-clause-called
returns-clause-called g c =
    let law = g.M.Machine.lawful in let setup = c.args.lock.now.setup in let p = c.args.pass.now in let q = c.call.new.pass in let r = c.call-2.new.pass in
    let one = extended_call law setup p q c.args.first c.in_ok-one.one c.in_ok-one.ensures.called in
    let two = extended_call law setup q r c.args.second c.in_ok-two.two c.in_ok-two.ensures.called in
    extended_more law setup p q r (entry p.number c.args.first c.in_ok-one.one ∷ []) (entry p.number c.args.second c.in_ok-two.two ∷ []) one
    (subst (λ (n : ℕ). IsExtended law setup q r (entry n c.args.second c.in_ok-two.two ∷ [])) one.same.2 two)
