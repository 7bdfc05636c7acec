-- What a client did was done in part, and then a call under the lock was Spent.
use Rattle.std.proofs.Common.{◌≡◌, ◌⊎◌, ℕ, Bool, map, List, [], ◌∷◌, ◌++◌, None, inl, refl, sym, ap, ◌∙◌, append-nil}
use Rattle.rig_io.specs.Link.{Piece}
use Rattle.grpc_heads.specs.CallEnd.{CallEnd}
use Rattle.grpc_heads.specs.declared.head.Method.{Method}
use Rattle.h2_exchange.specs.Calls.{Call}
use Rattle.grpc_stream.specs.CallTrace.{CallTrace, Asked}
use Rattle.table_model.specs.Event.{Event}
use Rattle.call_answers.specs.declared.orders.Setting.{Setting}
use Rattle.call_orders.specs.Calls.{Action, standing}
use Rattle.call_orders.specs.Actions.{calls_in, events_in}
use Rattle.call_orders.specs.Orders.{IsSpent}
use Rattle.session_engine.specs.Laws.{AreOpen}
use Rattle.session_engine.specs.Queries.{OpenCallsView}
use Rattle.server_turns.specs.declared.outcome.Outcome.TheVariants as over
use Rattle.server_account.specs.Agreeing.{IsAhead, IsServer, IsTaken, IsTold, account_of, none_left}
use Rattle.server_account.proofs.Ends.{unread_serves}
use Rattle.server_account.proofs.Rests.{alive_rest}
use Rattle.server_conn.specs.Standing.{AreCounted, KeptBy, past_of}
use Rattle.server_conn.proofs.Grown.{grows_to_itself}

-- These entries are the first of an action for the next that clients did, or of a Collect where `next` is empty.
pub spent_kept : (s : Setting) (t : CallTrace) (output : List ℕ) (open_calls : OpenCallsView) (refused : ℕ) (earlier : List Action)
    (next : List (Call Method CallEnd)) (pieces : List Piece) (own did : List Event) (is_ended : Bool) →
    IsServer s t output → IsTold t pieces → t.connection_trace.refusal ≡ None → AreOpen s open_calls earlier →
    t.reported ≡ map Asked (calls_in earlier ++ next) →
    ((id : ℕ) → IsTaken t id (standing s earlier id).items [] ⊎ IsAhead t id (standing s earlier id).items) → own ≡ events_in earlier →
    ((others : List (Call Method CallEnd)) → IsSpent s earlier (next ++ others) did) → AreCounted s earlier refused →
    KeptBy s t output refused (past_of pieces (own ++ did) is_ended) over.Spent
spent_kept s t output open_calls refused earlier next pieces own did is_ended server told alive open_now reported taken did_is spent count = record {
  account = account_of t output [] earlier;
  grows = grows_to_itself t output [] earlier;
  output_is = refl;
  over = record {
    serves = unread_serves s t output pieces [] [] earlier (past_of pieces (own ++ did) is_ended) next did none_left over.Spent server
        (alive_rest t.connection_trace [] alive) told (sym (append-nil pieces)) refl open_now.each open_now.unended reported taken (λ id. inl refl)
        (ap (λ (es : List Event). es ++ did) did_is) spent refl tt;
    count = count;
  };
}
