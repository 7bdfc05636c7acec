-- What is left where every event was let go.
use Rattle.std.specs.Prelude.{◌≡◌, false}
use Rattle.http_connection.specs.declared.event.H2Event.{H2Event}
use Rattle.http_connection.specs.Answers.{Answers, is_event}
use Rattle.http_connection.specs.ConnectionTrace.{ConnectionTrace}

-- events were given, and behind them this is said, which is none
pub record Drained (c : ConnectionTrace) (last : H2Event) (d : ConnectionTrace) : Type 0 where
  pub fed_is : d.fed ≡ c.fed
  pub no_event : is_event last ≡ false
  pub before : ConnectionTrace
  pub answer : Answers before last d
