-- What ends behind a trace that another one goes on to goes on from the first.
use Rattle.std.proofs.Common.{◌≡◌, ℕ, Bool, false, List, [], ◌++◌, refl, sym, ap, ◌∙◌, append_assoc, append-nil}
use Rattle.std.proofs.lemmas.List.{map-append}
use Rattle.rig_io.specs.Link.{Piece}
use Rattle.h2_exchange.specs.Sending.{IsPrefix}
use Rattle.grpc_stream.specs.CallTrace.{CallTrace}
use Rattle.table_lock.specs.Passes.{PassView}
use Rattle.table_lock.specs.Lock.{entry}
use Rattle.table_model.specs.declared.command.Command.{Command}
use Rattle.table_model.specs.declared.command.Config.{Config}
use Rattle.table_model.specs.declared.reply.Reply.{Reply}
use Rattle.table_model.specs.Event.{Event}
use Rattle.call_answers.specs.declared.orders.Setting.{Setting}
use Rattle.call_orders.specs.Calls.{Action}
use Rattle.session_engine.specs.Queries.{OpenCallsView}
use Rattle.session_engine.specs.Stands as engine
use Rattle.server_turns.specs.declared.outcome.Outcome.{Outcome}
use Rattle.server_turns.specs.Making.{MadeLast, Makes}
use Rattle.server_turns.specs.Past.{Past}
use Rattle.server_turns.specs.Serving.{Account}
use Rattle.server_account.specs.Agreeing.{account_of}
use Rattle.server_conn.specs.declared.conn.Cause.{Cause}
use Rattle.server_conn.specs.declared.conn.Cause.TheVariants.{Ends, Spent}
use Rattle.server_conn.specs.Standing.{EndsBy, GrowsTo, KeptBy, MayEnd, past_of}
use Rattle.server_conn.specs.Steps.{Grows, StopsBy}

pub prefix_refl : {A : Type 0} (xs : List A) → IsPrefix xs xs
prefix_refl xs = ([], sym (append-nil xs))

pub prefix_more : {A : Type 0} (xs more : List A) → IsPrefix xs (xs ++ more)
prefix_more xs more = (more, refl)

pub prefix_then : {A : Type 0} (xs ys zs : List A) → IsPrefix xs ys → IsPrefix ys zs → IsPrefix xs zs
prefix_then {A} xs ys zs h k = (h.0 ++ k.0, k.1 ∙ (ap (λ (l : List A). l ++ k.0) h.1 ∙ append_assoc xs h.0 k.0))

pub grows_refl : (t : CallTrace) → Grows t t
grows_refl t = record {
  limits = refl;
  heads = prefix_refl t.connection_trace.heads;
  frames = prefix_refl t.connection_trace.frames;
}

pub grows_then : (t u v : CallTrace) → Grows t u → Grows u v → Grows t v
grows_then t u v h k = record {
  limits = k.limits ∙ h.limits;
  heads = prefix_then t.connection_trace.heads u.connection_trace.heads v.connection_trace.heads h.heads k.heads;
  frames = prefix_then t.connection_trace.frames u.connection_trace.frames v.connection_trace.frames h.frames k.frames;
}

-- an account of a trace goes on from it
pub grows_to_itself : (t : CallTrace) (output rest : List ℕ) (actions : List Action) → GrowsTo t (account_of t output rest actions)
grows_to_itself t output rest actions = record {
  limits = refl;
  heads = prefix_refl t.connection_trace.heads;
  frames = prefix_refl t.connection_trace.frames;
}

pub grows_to_then : (t u : CallTrace) (a : Account) → Grows t u → GrowsTo u a → GrowsTo t a
grows_to_then t u a h k = record {
  limits = k.limits ∙ h.limits;
  heads = prefix_then t.connection_trace.heads u.connection_trace.heads a.heads h.heads k.heads;
  frames = prefix_then t.connection_trace.frames u.connection_trace.frames a.frames h.frames k.frames;
}

module _ (s : Setting) (t u : CallTrace) (grows : Grows t u) where
  pub kept_from : (output : List ℕ) (refused : ℕ) (past : Past) (outcome : Outcome) → KeptBy s u output refused past outcome →
      KeptBy s t output refused past outcome
  kept_from output refused past outcome k = record {
    account = k.account;
    grows = grows_to_then t u k.account grows k.grows;
    output_is = k.output_is;
    over = k.over;
  }

  pub may_end_from : (output : List ℕ) (open_calls : OpenCallsView) (refused : ℕ) (past : Past) (outcome : Outcome) →
      MayEnd s u output open_calls refused past outcome → MayEnd s t output open_calls refused past outcome
  may_end_from output open_calls refused past outcome k = record {
    unspent = k.unspent;
    actions = k.actions;
    open_now = k.open_now;
    did = k.did;
    leaves = λ last left. kept_from output refused _ outcome (k.leaves last left);
    spent = λ last behind e left. kept_from output refused _ _ (k.spent last behind e left);
  }

  pub ends_from : (output : List ℕ) (open_calls : OpenCallsView) (refused : ℕ) (past : Past) (cause : Cause) →
      EndsBy s u output open_calls refused past cause → EndsBy s t output open_calls refused past cause
  ends_from output open_calls refused past (Ends outcome) k = may_end_from output open_calls refused past outcome k
  ends_from output open_calls refused past Spent k = kept_from output refused past _ k

  pub stops_from : {K : Type 0} (uses : K → CallTrace → Type 0) (output : K → List ℕ) (config : Config) (p q : PassView Command Reply Config) (calls : K)
      (open_calls : OpenCallsView) (refused : ℕ) (pieces : List Piece) (own : List Event) (is_ended : Bool) (cause : Cause) →
      StopsBy uses output s config p q calls open_calls refused u pieces own is_ended cause →
      StopsBy uses output s config p q calls open_calls refused t pieces own is_ended cause
  stops_from uses output config p q calls open_calls refused pieces own is_ended cause k = record {
    did = k.did;
    made = k.made;
    ends = ends_from (output calls) open_calls refused (past_of pieces (own ++ k.did) is_ended) cause k.ends;
  }

-- What is made behind the last entries makes more of them.
pub made_more : (config : Config) (p q : PassView Command Reply Config) (own did : List Event) → MadeLast p own → Makes config false p q did →
    MadeLast q (own ++ did)
made_more config p q own did last made = (
  last.0,
  made.mine ∙ (ap (λ l. l ++ engine.own p.number did) last.1
      ∙ (append_assoc last.0 (engine.own p.number own) (engine.own p.number did)
      ∙ (ap (λ l. last.0 ++ l) (sym (map-append (λ (e : Event). entry p.number e.command e.reply) own did))
      ∙ ap (λ (n : ℕ). last.0 ++ engine.own n (own ++ did)) (sym made.same.2)))),
)
