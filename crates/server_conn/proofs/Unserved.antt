-- A link for which there was no memory: nothing was read, and the first frames still wait to be written.
use Rattle.std.proofs.Common.{◌≡◌, ℕ, ◌+◌, ◌++◌, ◌-◌, false, List, [], None, Some, refl, ap, arith}
use Rattle.h2_frames.specs.Reader.{Reader}
use Rattle.hpack_tables.specs.Decoder.{Decoder}
use Rattle.hpack_tables.specs.Writing as writing
use Rattle.h2_exchange.specs.declared.limits.H2Limits.{H2Limits}
use Rattle.h2_exchange.specs.declared.role.Role.TheVariants.{Server}
use Rattle.h2_exchange.specs.Order.{own_preface, peer_preface}
use Rattle.h2_exchange.specs.Sending.{first_text}
use Rattle.h2_streams.specs.Set.{Set, credited}
use Rattle.h2_streams.specs.Set as streams
use Rattle.h2_streams.specs.Stands.{StandsFor}
use Rattle.http_connection.specs.ConnectionTrace.{IsNew, IsSound, begun, style_of}
use Rattle.h2_conn.specs.State.{State}
use Rattle.h2_conn.specs.Standing as connection
use Rattle.h2_conn.proofs.Beginning.{begins_new, new_state}
use Rattle.grpc_stream.specs.CallTrace.{CallTrace, IsSoundCallTrace, fresh}
use Rattle.call_standing.specs.Standing.{sound_with}
use Rattle.call_standing.proofs.Fresh.{fresh_rest}
use Rattle.call_answers.specs.declared.orders.Setting.{Setting}
use Rattle.server_turns.specs.declared.outcome.Outcome.TheVariants as over
use Rattle.server_turns.specs.Past.{nothing}
use Rattle.server_turns.specs.Serving.{Account, IsServerLimits, Serves}
use Rattle.server_conn.specs.Standing.{Works}
use Rattle.server_conn.proofs.Accounts.{connection_starts}
use Rattle.server_conn.proofs.MayEnd.{no_memory_settled}
use Rattle.server_conn.proofs.Started.{none_refused}

-- ---- a connection that nothing was used for

none_streams : (limits : H2Limits) → StandsFor (streams.fresh Server limits) []
none_streams limits = record {
  live_is = refl;
  highest_is = refl;
  started_is = refl;
  block_is = refl;
  initial_is = refl;
  send_is = refl;
  receive_is = refl;
  initial_small = omega arith;
  covered = λ id live. absurd cc;
  within = λ id live. absurd cc;
  untouched = λ id behind odd. record { as_new = ap (λ (n : ℕ). record (streams.new_stream limits id) { receive = n }) (whole limits.window); no_reset = refl; no_block = refl };
}
  where
    whole : (n : ℕ) → n + 0 - 0 ≡ n
    whole n = omega arith

abbrev reader : Reader
reader = record { awaited = peer_preface Server; held = []; place = 0; refusal = None }

abbrev decoder : Decoder
decoder = record { entries = []; max = 4096; limit = 4096; refusal = None }

abbrev set : H2Limits → Set
set limits = credited (limits.window - 65535) (streams.fresh Server limits)

abbrev output : H2Limits → List ℕ
output limits = own_preface Server ++ first_text Server limits

abbrev state : H2Limits → State
state limits = new_state Server limits reader 24 (set limits) decoder (output limits)

starts : (limits : H2Limits) → IsNew Server limits (connection.Stands (state limits))
starts limits = begins_new Server limits reader 24 (set limits) decoder (writing.fresh (style_of Server)) (output limits)
    (record { left = 1000; is_passed = false; asked = [] }) (refl, refl, refl) refl refl refl (none_streams limits) refl refl refl refl

-- ---- its account

module _ (s : Setting) (limits : H2Limits) (fit : IsServerLimits limits) (h : IsNew Server limits (connection.Stands (state limits))) where
  abbrev trace : CallTrace
  trace = fresh (begun Server limits h.0) s.numbering

  sound : IsSoundCallTrace trace (output limits)
  sound =
      let c : IsSound (begun Server limits h.0) (output limits) = connection.sound_of (state limits) (begun Server limits h.0) h.2 (λ e. refl) (λ e. refl) in
      sound_with trace (output limits) (fresh_rest Server limits h.0 s.numbering h.1 c.given) c

  abbrev Uses : Unit {0} → CallTrace → Type 0
  Uses x t = Unit {0}

  works : Works Uses (λ x. output limits) s tt [] 0 trace [] [] []
  works = record {
    used = tt;
    alive = refl;
    agrees = (connection_starts s limits h.0 (output limits) [] fit h.1 sound (λ id. refl)).0;
    count = none_refused s;
  }

  unserved_by : (a : Account) × Serves s nothing a (Some over.NoMemory)
  unserved_by =
      let settled = (connection_starts s limits h.0 (output limits) [] fit h.1 sound (λ id. refl)).1 in
      let kept = (no_memory_settled Uses (λ x. output limits) s tt [] 0 trace [] [] [] works [] settled false).leaves [] refl in
      (kept.account, kept.over.serves)

abbrev server_limits : H2Limits
server_limits = record { streams = 100; window = 1048576; list = 65536; window_is_raised = omega arith; window_in_range = omega arith }

pub unserved : (s : Setting) → (a : Account) × Serves s nothing a (Some over.NoMemory)
unserved s = unserved_by s server_limits (record { streams = refl; window = refl; list = refl }) (starts server_limits)
