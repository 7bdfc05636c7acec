-- How the entries of a connection end.
use Rattle.std.specs.Prelude.{◌≡◌, List, ◌++◌}
use Rattle.table_model.specs.Event.{Event}
use Rattle.call_orders.specs.Calls.{Action}
use Rattle.call_orders.specs.Actions.{events_in}
use Rattle.call_orders.specs.Orders.{AllLeave, staying}

-- behind the entries of all actions the sessions that stayed have left
pub record AreClosed (actions : List Action) (own last : List Event) : Type 0 where
  pub did : own ≡ events_in actions ++ last
  pub left : AllLeave (staying (events_in actions)) last
