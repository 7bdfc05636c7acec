-- A new connection, and what is counted of one.
use Rattle.std.proofs.Common.{◌≡◌, ℕ, ◌-◌, ◌^◌, min, Bool, false, List, [], Option, Some, None, refl}
use Rattle.h2_exchange.specs.declared.limits.H2Limits.{H2Limits}
use Rattle.h2_exchange.specs.declared.role.Role.TheVariants.{Server}
use Rattle.http_connection.specs.ConnectionTrace.{IsNew, begun}
use Rattle.grpc_stream.specs.CallTrace.{CallTrace, IsSoundCallTrace, fresh}
use Rattle.call_answers.specs.declared.orders.Setting.{Setting}
use Rattle.session_engine.specs.declared.open_calls.OpenCall.{OpenCall}
use Rattle.session_engine.specs.Queries.{OpenCallsView, call_on, session_in}
use Rattle.server_turns.specs.declared.outcome.Outcome.{Outcome}
use Rattle.server_turns.specs.Past.{Past, nothing}
use Rattle.server_turns.specs.Serving.{Account, IsServerLimits, refused_in}
use Rattle.server_account.specs.Agreeing.{account_of}
use Rattle.server_conn.specs.Standing.{StandsAs}
use Rattle.server_conn.proofs.Accounts.{agreement_serves, connection_starts}
use Rattle.server_conn.proofs.Served.{false_true}

pub none_refused : (s : Setting) → 0 ≡ min (refused_in s []) (2 ^ 64 - 1)
unfolding refused_in
none_refused s = refl

no_session : {A : Type 0} (call : Option OpenCall) (session : ℕ) (is_finished : Bool) → call ≡ None → session_in call ≡ Some (session, is_finished) → A
no_session None session is_finished e f = absurd (cc f)
no_session (Some call) session is_finished e f = absurd (cc e)

module _ {K : Type 0} (uses : K → CallTrace → Type 0) (output : K → List ℕ) (s : Setting) where
  pub new_stands : (calls : K) (open_calls : OpenCallsView) (limits : H2Limits) → ((calls : K) (t : CallTrace) → uses calls t → IsSoundCallTrace t (output calls)) →
      ((id : ℕ) → call_on open_calls id ≡ None) → IsServerLimits limits → IsNew Server limits (λ c. uses calls (fresh c s.numbering)) →
      (a : Account) × StandsAs uses output s calls open_calls 0 false false None nothing a None
  new_stands calls open_calls limits sound none fit h =
      (let t = fresh (begun Server limits h.0) s.numbering in
      let c = connection_starts s limits h.0 (output calls) open_calls fit h.1 (sound calls t h.2) none in (
        account_of t (output calls) [] [],
        (
          record {
            trace = t;
            works = record { used = h.2; alive = refl; agrees = c.0; count = none_refused s };
            account = refl;
            settled = c.1;
            ended = refl;
            whole = λ e. false_true e;
            serves = agreement_serves s t (output calls) [] open_calls nothing [] c.0 c.1 (λ e. false_true e);
          },
          refl,
          λ e id session is_finished at. no_session (call_on open_calls id) session is_finished (none id) at,
        ),
      ))

  pub counts_as : (calls : K) (open_calls : OpenCallsView) (refused : ℕ) (is_ended may_wait : Bool) (kept : Option Outcome) (past : Past) (a : Account)
      (outcome : Option Outcome) → StandsAs uses output s calls open_calls refused is_ended may_wait kept past a outcome → refused ≡ min (refused_in s a.actions) (2 ^ 64 - 1)
  counts_as calls open_calls refused is_ended may_wait kept past a None h = h.0.works.count
  counts_as calls open_calls refused is_ended may_wait kept past a (Some outcome) h = h.0.count
