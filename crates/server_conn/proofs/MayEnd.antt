-- How a connection may end.
use Rattle.std.proofs.Common.{◌≡◌, ◌⊎◌, inl, inr, ℕ, ◌==◌, Bool, true, false, map, List, [], ◌∷◌, ◌++◌, Option, Some, refl, sym, ap, subst, ◌∙◌, append-nil, if◌then◌else◌}
use Rattle.std.proofs.lemmas.Bool.{eqb-true}
use Rattle.std.proofs.lemmas.List.{append_cancel_right}
use Rattle.grpc_heads.specs.CallEnd.{CallEnd}
use Rattle.grpc_heads.specs.declared.head.Method.{Method}
use Rattle.h2_exchange.specs.Calls.{Call}
use Rattle.h2_exchange.specs.Order.{Piece, sent_bytes}
use Rattle.h2_exchange.specs.StreamParts.{Item}
use Rattle.h2_exchange.proofs.Places.{same_self}
use Rattle.grpc_stream.specs.CallTrace.{CallTrace, Asked, IsSoundCallTrace, queued_on}
use Rattle.table_model.specs.Event.{Event}
use Rattle.call_answers.specs.declared.orders.Setting.{Setting}
use Rattle.call_orders.specs.Owed.{has_end}
use Rattle.call_orders.specs.Calls.{Action, Collects, standing}
use Rattle.call_orders.specs.Actions.{calls_in, events_in}
use Rattle.call_orders.specs.Orders.{AllHandled, AllLeave, HasStopped, IsOver, IsRunning, staying}
use Rattle.session_engine.specs.Queries.{OpenCallsView}
use Rattle.server_turns.specs.declared.outcome.Outcome.{Outcome}
use Rattle.server_turns.specs.declared.outcome.Outcome.TheVariants as over
use Rattle.server_turns.specs.Serving.{HasCause, Unbroken, end_of, reads_all}
use Rattle.server_turns.specs.Turning.{is_spent}
use Rattle.server_account.specs.Agreeing.{AreBrought, AreHandled, IsServer, IsSettled, IsTaken, IsTold, MayBeRest, account_of, left_on, none_left}
use Rattle.server_account.proofs.Ends.{settled_serves, unread_serves}
use Rattle.server_account.proofs.Rests.{alive_rest}
use Rattle.server_account.proofs.Serves as serves
use Rattle.server_conn.specs.Standing.{AreCounted, KeptBy, MayEnd, Works, past_of}
use Rattle.server_conn.proofs.Grown.{grows_to_itself}

-- ---- one that leaves something unread

-- What was told before these last pieces was brought to the calls; items may be left to be taken, behind no end.
pub record IsUnread (s : Setting) (t : CallTrace) (output : List ℕ) (open_calls : OpenCallsView) (refused : ℕ) (actions : List Action)
    (before late : List Piece) (own : List Event) (rest : List ℕ) : Type 0 where
  pub left : ℕ → List (Item CallEnd)
  pub server : IsServer s t output
  pub told : IsTold t before
  pub quiet : sent_bytes late ≡ []
  pub may : MayBeRest t.connection_trace rest
  pub brought : AreBrought s t open_calls actions own left
  pub behind : (id : ℕ) → (left id ≡ []) ⊎ (has_end (queued_on t id) ≡ false)
  pub count : AreCounted s actions refused

module _ (s : Setting) (t : CallTrace) (output : List ℕ) (open_calls : OpenCallsView) (refused : ℕ) (actions : List Action)
    (before late : List Piece) (own : List Event) (rest : List ℕ) (is_ended : Bool)
    (h : IsUnread s t output open_calls refused actions before late own rest) where
  unread_kept : (last : List Event) (outcome : Outcome) → ((others : List (Call Method CallEnd)) → IsOver s (end_of (Some outcome)) actions others last) →
      reads_all (Some outcome) ≡ false →
      HasCause s (past_of (before ++ late) (own ++ last) is_ended) (account_of t output rest actions) (Some outcome) →
      KeptBy s t output refused (past_of (before ++ late) (own ++ last) is_ended) outcome
  unread_kept last outcome over unread cause = record {
    account = account_of t output rest actions;
    grows = grows_to_itself t output rest actions;
    output_is = refl;
    over = record {
      serves = unread_serves s t output before late rest actions (past_of (before ++ late) (own ++ last) is_ended) [] last h.left outcome h.server h.may
          h.told refl h.quiet h.brought.open_now.each h.brought.open_now.unended
          (h.brought.reported ∙ ap (λ (cs : List (Call Method CallEnd)). map Asked cs) (sym (append-nil (calls_in actions))))
          (λ id. inl (h.brought.taken id)) h.behind (ap (λ (es : List Event). es ++ last) h.brought.did) over unread cause;
      count = h.count;
    };
  }

  leaves_as : (last : List Event) → AllLeave (staying own) last → AllLeave (staying (events_in actions)) last
  leaves_as last all = subst (λ (es : List Event). AllLeave (staying es) last) h.brought.did all

  -- a Leave was Spent
  unread_spent : IsRunning actions ⊎ HasStopped actions → (last behind : List Event) (e : Event) → AllLeave (staying own) (last ++ e ∷ behind) →
      KeptBy s t output refused (past_of (before ++ late) (own ++ last) is_ended) over.Spent
  unread_spent going last behind e all =
      unread_kept last over.Spent (λ others. inr (going, e, behind, leaves_as (last ++ e ∷ behind) all)) refl tt

  pub unread_no_memory : IsRunning actions → MayEnd s t output open_calls refused (past_of (before ++ late) own is_ended) over.NoMemory
  unread_no_memory running = record {
    unspent = refl;
    actions = actions;
    open_now = h.brought.open_now;
    did = h.brought.did;
    leaves = λ last all. unread_kept last over.NoMemory (λ others. (running, leaves_as last all)) refl tt;
    spent = unread_spent (inl running);
  }

  -- Behind a Collect that was answered Stopped nothing was broken.
  pub unread_halted : HasStopped actions →
      ((id : ℕ) (did : List Event) (cut : Option ℕ) (earlier : List Action) → actions ≡ Collects id did cut ∷ earlier →
      Unbroken s (past_of (before ++ late) own is_ended) (account_of t output rest actions)) →
      MayEnd s t output open_calls refused (past_of (before ++ late) own is_ended) over.Halted
  unread_halted stopped unbroken = record {
    unspent = refl;
    actions = actions;
    open_now = h.brought.open_now;
    did = h.brought.did;
    leaves = λ last all. unread_kept last over.Halted (λ others. (stopped, leaves_as last all)) refl unbroken;
    spent = unread_spent (inr stopped);
  }

-- ---- items that are left on one stream

-- What holds of a stream with these items, and of the others with none, holds of all.
on_each : (P : ℕ → List (Item CallEnd) → Type 0) (stream : ℕ) (items : List (Item CallEnd)) → P stream items →
    ((id : ℕ) → (stream == id) ≡ false → P id []) → (id : ℕ) → P id (left_on stream items id)
on_each P stream items here elsewhere id = by (stream == id) refl
  where
    by : (b : Bool) → (stream == id) ≡ b → P id (if b then items else [])
    by true is = subst (λ (n : ℕ). P n items) (eqb-true stream id is) here
    by false is = elsewhere id is

module _ (s : Setting) (t : CallTrace) (actions : List Action) (stream : ℕ) (items : List (Item CallEnd))
    (taken : (id : ℕ) → IsTaken t id (standing s actions id).items (left_on stream items id)) where
  taken_here : IsTaken t stream (standing s actions stream).items items
  taken_here = subst (λ (b : Bool). IsTaken t stream (standing s actions stream).items (if b then items else [])) (same_self stream) (taken stream)

  taken_elsewhere : (id : ℕ) → (stream == id) ≡ false → IsTaken t id (standing s actions id).items []
  taken_elsewhere id is = subst (λ (b : Bool). IsTaken t id (standing s actions id).items (if b then items else [])) is (taken id)

module _ (s : Setting) (t : CallTrace) (output : List ℕ) (open_calls : OpenCallsView) (refused : ℕ) (actions : List Action)
    (before late : List Piece) (own : List Event) (rest : List ℕ) (stream : ℕ) (items : List (Item CallEnd)) where
  -- Items are left behind no end, or the stream was cut off and none is.
  pub left_unread : IsServer s t output → IsTold t before → sent_bytes late ≡ [] → MayBeRest t.connection_trace rest →
      AreBrought s t open_calls actions own (left_on stream items) → AreCounted s actions refused →
      (queued_on t stream ++ items ≡ (standing s actions stream).items → (items ≡ []) ⊎ (has_end (queued_on t stream) ≡ false)) →
      IsUnread s t output open_calls refused actions before late own rest
  left_unread server told quiet may brought count unended = by (taken_here s t actions stream items brought.taken)
    where
      with_left : (more : List (Item CallEnd)) → IsTaken t stream (standing s actions stream).items more →
          (more ≡ []) ⊎ (has_end (queued_on t stream) ≡ false) → IsUnread s t output open_calls refused actions before late own rest
      with_left more here behind = record {
        left = left_on stream more;
        server = server;
        told = told;
        quiet = quiet;
        may = may;
        brought = record {
          open_now = brought.open_now;
          reported = brought.reported;
          did = brought.did;
          taken = on_each (λ id l. IsTaken t id (standing s actions id).items l) stream more here (taken_elsewhere s t actions stream items brought.taken);
        };
        behind = on_each (λ id l. (l ≡ []) ⊎ (has_end (queued_on t id) ≡ false)) stream more behind (λ id is. inl refl);
        count = count;
      }

      by : IsTaken t stream (standing s actions stream).items items → IsUnread s t output open_calls refused actions before late own rest
      by (inl same) = with_left items (inl same) (unended same)
      by (inr cut) = with_left [] (inr cut) (inl refl)

-- what was taken before these items
pub queued_before : (queued items before : List (Item CallEnd)) → queued ++ items ≡ before ++ items → has_end before ≡ false ⊎ (items ≡ []) →
    (items ≡ []) ⊎ (has_end queued ≡ false)
queued_before queued items before same (inl unended) = inr (ap has_end (append_cancel_right queued before items same) ∙ unended)
queued_before queued items before same (inr none) = inl none

-- ---- between the parts of a turn

module _ {K : Type 0} (uses : K → CallTrace → Type 0) (output : K → List ℕ) (s : Setting) (calls : K) (open_calls : OpenCallsView) (refused : ℕ)
    (t : CallTrace) (actions : List Action) (pieces : List Piece) (own : List Event) (h : Works uses output s calls open_calls refused t actions pieces own) where
  pub brought : AreBrought s t open_calls actions own none_left
  brought = record {
    open_now = h.agrees.handled.open_now;
    reported = h.agrees.handled.reported;
    did = h.agrees.handled.did;
    taken = h.agrees.handled.taken;
  }

  -- calls that keep the trace, as those do that fail
  pub still_works : (now : K) → uses now t → IsSoundCallTrace t (output now) → Works uses output s now open_calls refused t actions pieces own
  still_works now used sound = record {
    used = used;
    alive = h.alive;
    agrees = record {
      server = record {
        sound = sound;
        role = h.agrees.server.role;
        numbers = h.agrees.server.numbers;
        limits = h.agrees.server.limits;
        first = h.agrees.server.first;
        sends = h.agrees.server.sends;
        suited = h.agrees.server.suited;
      };
      told = h.agrees.told;
      handled = h.agrees.handled;
    };
    count = h.count;
  }

  -- The last pieces may not have been fed.
  pub works_unread : (late : List Piece) → sent_bytes late ≡ [] → (rest : List ℕ) → MayBeRest t.connection_trace rest →
      IsUnread s t (output calls) open_calls refused actions pieces late own rest
  works_unread late quiet rest may = record {
    left = none_left;
    server = h.agrees.server;
    told = h.agrees.told;
    quiet = quiet;
    may = may;
    brought = brought;
    behind = λ id. inl refl;
    count = h.count;
  }

  pub no_memory_late : (late : List Piece) → sent_bytes late ≡ [] → (rest : List ℕ) → MayBeRest t.connection_trace rest → (is_ended : Bool) →
      MayEnd s t (output calls) open_calls refused (past_of (pieces ++ late) own is_ended) over.NoMemory
  no_memory_late late quiet rest may is_ended =
      unread_no_memory s t (output calls) open_calls refused actions pieces late own rest is_ended (works_unread late quiet rest may) h.agrees.handled.running

  pub no_memory_may_end : (rest : List ℕ) → MayBeRest t.connection_trace rest → (is_ended : Bool) →
      MayEnd s t (output calls) open_calls refused (past_of pieces own is_ended) over.NoMemory
  no_memory_may_end rest may is_ended =
      subst (λ (ps : List Piece). MayEnd s t (output calls) open_calls refused (past_of ps own is_ended) over.NoMemory) (append-nil pieces)
      (no_memory_late [] refl rest may is_ended)

  -- ---- settled

  module _ (rest : List ℕ) (settled : IsSettled t rest) (is_ended : Bool) where
    pub unbroken : Unbroken s (past_of pieces own is_ended) (account_of t (output calls) rest actions)
    unbroken = serves.unbroken s t (output calls) rest h.agrees.server (past_of pieces own is_ended) h.agrees.told settled actions

    handled_whole : AreHandled s t open_calls actions (events_in actions) none_left
    handled_whole = record {
      open_now = h.agrees.handled.open_now;
      reported = h.agrees.handled.reported;
      did = refl;
      running = h.agrees.handled.running;
      taken = h.agrees.handled.taken;
    }

    settled_kept : (last : List Event) (outcome : Outcome) → AllLeave (staying own) last → end_of (Some outcome) ≡ AllHandled →
        HasCause s (past_of pieces (own ++ last) is_ended) (account_of t (output calls) rest actions) (Some outcome) →
        KeptBy s t (output calls) refused (past_of pieces (own ++ last) is_ended) outcome
    settled_kept last outcome all handled cause = record {
      account = account_of t (output calls) rest actions;
      grows = grows_to_itself t (output calls) rest actions;
      output_is = refl;
      over = record {
        serves = settled_serves s t (output calls) rest open_calls actions (past_of pieces (own ++ last) is_ended) last outcome h.agrees.server h.agrees.told
            handled_whole settled
            (record {
              did = ap (λ (es : List Event). es ++ last) h.agrees.handled.did;
              left = subst (λ (es : List Event). AllLeave (staying es) last) h.agrees.handled.did all;
            })
            handled cause;
        count = h.count;
      };
    }

    settled_spent : (last behind : List Event) (e : Event) → AllLeave (staying own) (last ++ e ∷ behind) →
        KeptBy s t (output calls) refused (past_of pieces (own ++ last) is_ended) over.Spent
    settled_spent last behind e all =
        subst (λ (ps : List Piece). KeptBy s t (output calls) refused (past_of ps (own ++ last) is_ended) over.Spent) (append-nil pieces)
        (unread_spent s t (output calls) open_calls refused actions pieces [] own rest is_ended
        (works_unread [] refl rest (alive_rest t.connection_trace rest settled.alive)) (inl h.agrees.handled.running) last behind e all)

    -- with a cause that speaks of no entry
    pub settled_may_end : (outcome : Outcome) → is_spent (Some outcome) ≡ false → end_of (Some outcome) ≡ AllHandled →
        ((now : List Event) → HasCause s (past_of pieces now is_ended) (account_of t (output calls) rest actions) (Some outcome)) →
        MayEnd s t (output calls) open_calls refused (past_of pieces own is_ended) outcome
    settled_may_end outcome unspent handled cause = record {
      unspent = unspent;
      actions = actions;
      open_now = h.agrees.handled.open_now;
      did = h.agrees.handled.did;
      leaves = λ last all. settled_kept last outcome all handled (cause (own ++ last));
      spent = settled_spent;
    }

    pub read_fault : MayEnd s t (output calls) open_calls refused (past_of pieces own is_ended) over.ReadFault
    read_fault = settled_may_end over.ReadFault refl refl (λ now. unbroken)

    pub write_fault : MayEnd s t (output calls) open_calls refused (past_of pieces own is_ended) over.WriteFault
    write_fault = settled_may_end over.WriteFault refl refl (λ now. unbroken)

    pub served_may_end : HasCause s (past_of pieces own is_ended) (account_of t (output calls) rest actions) (Some over.Served) →
        MayEnd s t (output calls) open_calls refused (past_of pieces own is_ended) over.Served
    served_may_end cause = settled_may_end over.Served refl refl (λ now. cause)

    pub no_memory_settled : MayEnd s t (output calls) open_calls refused (past_of pieces own is_ended) over.NoMemory
    no_memory_settled = no_memory_may_end rest (alive_rest t.connection_trace rest settled.alive) is_ended
