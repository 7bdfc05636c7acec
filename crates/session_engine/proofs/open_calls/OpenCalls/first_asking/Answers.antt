use Rattle.std.proofs.Common.{◌≡◌, All, Some, subst}
use Rattle.session_engine.specs.Queries.{OpenCallsView, call_on}
use Rattle.session_engine.proofs.open_calls.OpenCalls.first_asking.Goals as goal

pub returns-clause-held : goal.returns-clause-held
returns-clause-held c = subst (λ (es : OpenCallsView). All (λ e. call_on es e.0 ≡ Some e.1) es) c.self.view_is c.first_asking.ensures.held
