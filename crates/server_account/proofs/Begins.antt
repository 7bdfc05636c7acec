-- A call that begins was not heard of before, so the engine has none open on its stream.
use Rattle.std.proofs.Common.{◌≡◌, ℕ, true, List, Option, Some, None, ◌==◌, refl, ap, subst}
use Rattle.std.specs.List.{list_any}
use Rattle.grpc_heads.specs.declared.head.Method.{Method}
use Rattle.h2_exchange.specs.Calls.{Begun, is_in_place, stream_in}
use Rattle.h2_exchange.specs.StreamParts.{Item}
use Rattle.grpc_heads.specs.CallEnd.{CallEnd}
use Rattle.grpc_stream.specs.CallTrace.{CallTrace}
use Rattle.table_model.specs.Event.{Event}
use Rattle.call_answers.specs.declared.orders.Setting.{Setting}
use Rattle.call_orders.specs.Calls.{Action, NotBegun, Standing, not_begun, standing}
use Rattle.call_orders.specs.Actions.{calls_in}
use Rattle.session_engine.specs.declared.open_calls.OpenCall.{OpenCall}
use Rattle.session_engine.specs.Queries.{OpenCallsView, call_on}
use Rattle.session_engine.specs.Stands.{IsNotBegun, Stands}
use Rattle.server_account.specs.Agreeing.{AreHandled}
use Rattle.server_account.proofs.Events.{not_open_call}
use Rattle.server_account.proofs.Places.{not_false, unheard_standing}

pub begins : (s : Setting) (t : CallTrace) (calls : OpenCallsView) (actions : List Action) (own : List Event) (left : ℕ → List (Item CallEnd)) (id : ℕ) (method : Method) → AreHandled s t calls actions own left →
    is_in_place (calls_in actions) (Begun id method) ≡ true → (call_on calls id ≡ None) × IsNotBegun (standing s actions id).state
begins s t calls actions own left id method h place =
    let at : standing s actions id ≡ not_begun = unheard_standing s actions id h.open_now.each (not_false (list_any (λ c. stream_in c == id) (calls_in actions)) place) in
    (by (call_on calls id) (subst (λ (st : Standing). Stands s (call_on calls id) st.state) at (h.open_now.stands id)), ap (λ (st : Standing). st.state) at)
  where
    by : (o : Option OpenCall) → Stands s o NotBegun → o ≡ None
    by None k = refl
    by (Some c) k = absurd (not_open_call s c k)
