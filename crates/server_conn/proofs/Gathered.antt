-- What a Collect brings is owed to the call that it is for.
use Rattle.std.proofs.Common.{◌≡◌, ℕ, true, false, List, [], ◌∷◌, ◌++◌, inl, refl, sym, ◌∙◌}
use Rattle.std.specs.List.{list_any}
use Rattle.rig_io.specs.Link.{Piece}
use Rattle.grpc_stream.specs.CallTrace.{CallTrace, begins_on}
use Rattle.table_model.specs.Event.{Event}
use Rattle.call_answers.specs.declared.orders.Setting.{Setting}
use Rattle.call_orders.specs.Owed.{has_end}
use Rattle.call_orders.specs.Calls.{Action, Collects, standing}
use Rattle.call_orders.specs.Orders.{is_stopped}
use Rattle.session_engine.specs.declared.step.Step.{Step}
use Rattle.session_engine.specs.Laws.{FollowsBy}
use Rattle.session_engine.specs.Queries.{OpenCallsView, call_on}
use Rattle.session_engine.specs.Stands.{AreSameElsewhere, Stands, TakesFrom, items_in}
use Rattle.session_engine.proofs.Follows.{actions_follow}
use Rattle.server_account.specs.Agreeing.{IsSettled}
use Rattle.server_account.proofs.Hears.{brought_collects, handled_collects}
use Rattle.server_conn.specs.Standing.{Works}
use Rattle.server_conn.specs.Steps.{Owes}

module _ {K : Type 0} (uses : K → CallTrace → Type 0) (output : K → List ℕ) (s : Setting) (calls : K) (old new : OpenCallsView) (refused stream : ℕ)
    (step : Step) (t : CallTrace) (actions : List Action) (pieces : List Piece) (own did : List Event) (rest : List ℕ)
    (h : Works uses output s calls old refused t actions pieces own) (settled : IsSettled t rest)
    (takes : TakesFrom s (Stands s (call_on old stream)) (call_on new stream) (Collects stream did) (λ _. items_in step))
    (others : AreSameElsewhere stream old new) where
  abbrev follows : FollowsBy s new actions stream (Collects stream did) (λ _. items_in step)
  follows = actions_follow s old new actions stream (Collects stream did) (λ _. items_in step) h.agrees.handled.open_now takes others (λ cut. refl)

  -- Whether a reply is Stopped is told by the entries, none of whose Leaves is answered so.
  pub owes_collect : step.halted ≡ list_any is_stopped did → has_end (standing s actions stream).items ≡ false →
      list_any (begins_on stream) t.reported ≡ true →
      Owes uses output s calls new refused stream step t (Collects stream did follows.cut ∷ actions) pieces (own ++ did)
  owes_collect halted unended begun = record {
    used = h.used;
    alive = h.alive;
    server = h.agrees.server;
    told = h.agrees.told;
    brought = brought_collects s t old new actions own h.agrees.handled did stream (items_in step) follows;
    begun = begun;
    rest = rest;
    settled = λ id events cut e. settled;
    action = Collects stream did follows.cut;
    earlier = actions;
    actions_are = refl;
    on = refl;
    going = follows.items_are;
    unended = inl unended;
    running = λ goes. (handled_collects s t old new actions own h.agrees.handled did stream (items_in step) follows (sym halted ∙ goes)).running;
    stopped = λ stops. (sym halted ∙ stops, h.agrees.handled.running);
    count = h.count;
  }
