-- Works goes on where frames are sent, and where a piece is fed.
use Rattle.std.proofs.Common.{◌≡◌, ℕ, List, [], ◌∷◌, ◌++◌}
use Rattle.rig_io.specs.Link as link
use Rattle.rig_io.specs.Link.{Piece}
use Rattle.http_connection.specs.ConnectionTrace.{fed_more}
use Rattle.grpc_stream.specs.CallTrace.{CallTrace, IsSoundCallTrace, changed}
use Rattle.grpc_stream.specs.Sends.{Pumps}
use Rattle.table_model.specs.Event.{Event}
use Rattle.call_answers.specs.declared.orders.Setting.{Setting}
use Rattle.call_orders.specs.Calls.{Action}
use Rattle.session_engine.specs.Queries.{OpenCallsView}
use Rattle.server_account.specs.Agreeing.{IsSettled, none_left}
use Rattle.server_account.proofs.Feeding.{server_reads}
use Rattle.server_account.proofs.Uses.{handled_pumps, handled_reads, server_pumps, settled_pumps, told_pumps, told_reads}
use Rattle.server_conn.specs.Standing.{Works}

module _ {K : Type 0} (uses : K → CallTrace → Type 0) (output : K → List ℕ) (s : Setting) (calls later : K) (open_calls : OpenCallsView) (refused : ℕ)
    (t : CallTrace) (actions : List Action) (pieces : List Piece) (own : List Event) (rest : List ℕ)
    (h : Works uses output s calls open_calls refused t actions pieces own) (settled : IsSettled t rest) where
  pub works_fed : (piece : List ℕ) → uses later (changed (fed_more piece) t) → IsSoundCallTrace (changed (fed_more piece) t) (output later) →
      Works uses output s later open_calls refused (changed (fed_more piece) t) actions (pieces ++ link.received piece ∷ []) own
  works_fed piece used sound = record {
    used = used;
    alive = h.alive;
    agrees = record {
      server = server_reads s t (output calls) rest h.agrees.server settled piece (output later) sound;
      told = told_reads s t (output calls) (output later) piece pieces h.agrees.server h.agrees.told;
      handled = handled_reads s t (output calls) (output later) piece open_calls actions own none_left h.agrees.handled;
    };
    count = h.count;
  }

  pub settled_pumped : (u : CallTrace) → IsSoundCallTrace u (output later) → Pumps t u → IsSettled u rest
  settled_pumped u sound pumps = settled_pumps s t u (output calls) (output later) h.agrees.server pumps sound rest settled

  pub works_pumped : (u : CallTrace) → uses later u → IsSoundCallTrace u (output later) → Pumps t u →
      Works uses output s later open_calls refused u actions pieces own
  works_pumped u used sound pumps = record {
    used = used;
    alive = (settled_pumped u sound pumps).alive;
    agrees = record {
      server = server_pumps s t u (output calls) (output later) h.agrees.server pumps sound settled.alive;
      told = told_pumps s t u (output calls) (output later) h.agrees.server pumps sound pieces h.agrees.told;
      handled = handled_pumps s t u (output calls) (output later) h.agrees.server pumps sound open_calls actions own none_left h.agrees.handled;
    };
    count = h.count;
  }
