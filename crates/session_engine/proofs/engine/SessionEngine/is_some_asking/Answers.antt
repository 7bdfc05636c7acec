use Rattle.std.proofs.Common.{◌≡◌, ℕ, true, false, refl}
use Rattle.session_engine.specs.Queries.{call_on, is_asking}
use Rattle.session_engine.proofs.Walks.{asked_found, asked_none, none_found, some_found}
use Rattle.session_engine.proofs.engine.SessionEngine.is_some_asking.Goals as goal

pub returns-clause-asking : goal.returns-clause-asking
returns-clause-asking c =
    some_found (λ k. is_asking (call_on c.args.self.now k) ≡ true) c.first_asking.result c.is_some.result c.is_some.ensures
    (asked_found c.self.inside.calls c.args.self.now c.self.view_is is_asking c.first_asking.result c.first_asking.ensures.first c.first_asking.ensures.held)

pub returns-clause-none : goal.returns-clause-none
returns-clause-none c =
    none_found ((id : ℕ) → is_asking (call_on c.args.self.now id) ≡ false) c.first_asking.result c.is_some.result c.is_some.ensures
    (asked_none c.self.inside.calls c.args.self.now c.self.view_is is_asking refl c.first_asking.result c.first_asking.ensures.first)
