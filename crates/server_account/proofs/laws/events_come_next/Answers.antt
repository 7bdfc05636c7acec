use Rattle.std.proofs.Common.{◌++◌, ◌∷◌, []}
use Rattle.server_account.proofs.Ends.{stop_leaves}
use Rattle.server_account.proofs.Events.{comes_next, comes_no_memory, comes_none, comes_stop, went, went_needs, went_starves, went_stops}
use Rattle.server_account.proofs.Going.{event_sends, needs_sends, starves_sends, stops_sends}
use Rattle.server_account.proofs.Rests.{alive_rest}
use Rattle.server_account.proofs.Tells.{server_tells, told_tells}
use Rattle.server_account.proofs.laws.events_come_next.Goals as goal

pub returns : goal.returns
returns c = λ s t output later calls actions pieces own u. record {
  shows = λ event h gives sound. (
    server_tells s t u output later h.server (went t.connection_trace u.connection_trace gives.tells.goes_on) (gives.hidden ++ gives.last ∷ []) gives.tells.takes sound
        (λ rest _. event_sends t u output later h.server.sound.connection_trace (λ left alive. h.server.sends left (alive_rest t.connection_trace left alive)) sound.connection_trace gives rest),
    told_tells s t u output later h.server (went t.connection_trace u.connection_trace gives.tells.goes_on) pieces h.told,
    comes_next s t u output later event calls actions own h.server sound h.handled gives,
  );
  none = λ h needs sound.
      let k = comes_none s t u later calls actions own h.server.role sound h.handled needs in
      let gone = went_needs t u needs in
      let sends = needs_sends t u output later h.server.sound.connection_trace (λ left alive. h.server.sends left (alive_rest t.connection_trace left alive)) sound.connection_trace needs in (
        k.0,
        k.1,
        record {
          server = server_tells s t u output later h.server gone needs.hidden needs.tells.takes sound (λ rest _. sends rest);
          told = told_tells s t u output later h.server gone pieces h.told;
          handled = k.2;
        },
        k.3,
        k.4,
      );
  stops = λ stop h stops sound.
      let k = comes_stop s t u later stop calls actions own h.server.role sound h.handled stops in
      let gone = went_stops t u stop stops in
      let sends = stops_sends t u output later h.server.sound.connection_trace (λ left alive. h.server.sends left (alive_rest t.connection_trace left alive)) sound.connection_trace stop stops in
      let server = server_tells s t u output later h.server gone stops.hidden stops.tells.takes sound sends in
      let rest = stop_leaves s u later server stops.before stop stops.stops in
      (k.0, k.1, record { server = server; told = told_tells s t u output later h.server gone pieces h.told; handled = k.2 }, rest.0, rest.1);
  starves = λ h out sound.
      let k = comes_no_memory s t u later calls actions own h.server.role sound h.handled out in
      let gone = went_starves t u out in
      let sends = starves_sends t u output later h.server.sound.connection_trace (λ left alive. h.server.sends left (alive_rest t.connection_trace left alive)) sound.connection_trace out in (
        k.0,
        k.1,
        record {
          server = server_tells s t u output later h.server gone out.hidden out.tells.takes sound (λ rest _. sends rest);
          told = told_tells s t u output later h.server gone pieces h.told;
          handled = k.2;
        },
      );
}
