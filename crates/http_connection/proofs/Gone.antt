-- No answer takes anything of what was fed.
use Rattle.std.proofs.Common.{◌≡◌, ap, ◌∙◌, inl, inr, ◌⊎◌}
use Rattle.h2_exchange.specs.Stops.{Stop}
use Rattle.http_connection.specs.declared.event.H2Event.{H2Event}
use Rattle.http_connection.specs.declared.event.H2Event.TheVariants as says
use Rattle.http_connection.specs.Answers as answer
use Rattle.http_connection.specs.ConnectionTrace.{ConnectionTrace, Refusal}
use Rattle.h2_exchange.specs.Events.{Event}
use Rattle.std.specs.Prelude.{List}

goes_fed : (c d : ConnectionTrace) (es : List Event) → answer.GivesEvents c es d → d.fed ≡ c.fed
goes_fed c d es h = ap (λ (x : ConnectionTrace). x.fed) h.goes_on

stops_fed : (c d : ConnectionTrace) (why : Refusal) (stop : Stop) → (answer.RepeatsRefusal c why d ⊎ answer.Stops c stop d) → d.fed ≡ c.fed
stops_fed c d why stop (inl h) = ap (λ (x : ConnectionTrace). x.fed) h.1
stops_fed c d why stop (inr h) = ap (λ (x : ConnectionTrace). x.fed) h.ends ∙ goes_fed c h.at _ h.goes

out_fed : (c d : ConnectionTrace) (why : Refusal) → (answer.RepeatsRefusal c why d ⊎ answer.RunsOutOfMemory c d) → d.fed ≡ c.fed
out_fed c d why (inl h) = ap (λ (x : ConnectionTrace). x.fed) h.1
out_fed c d why (inr h) = ap (λ (x : ConnectionTrace). x.fed) h.ends

pub fed_stays : (e : H2Event) (c d : ConnectionTrace) → answer.Answers c e d → d.fed ≡ c.fed
fed_stays (says.Head id fields last) c d h = goes_fed c d _ h
fed_stays (says.Piece id bytes) c d h = goes_fed c d _ h
fed_stays (says.Ended id) c d h = goes_fed c d _ h
fed_stays (says.Reset id why) c d h = goes_fed c d _ h
fed_stays (says.GoneAway id why) c d h = goes_fed c d _ h
fed_stays says.NeedMore c d h = goes_fed c d _ h.goes
fed_stays (says.Refused why place) c d h = stops_fed c d _ _ h
fed_stays (says.Calm cause) c d h = stops_fed c d _ _ h
fed_stays says.NoMemory c d h = out_fed c d _ h
