-- What is owed to a call is taken, one item after another, or is not.
use Rattle.std.proofs.Common.{◌≡◌, ◌⊎◌, inl, inr, ℕ, ◌==◌, Bool, ◌||◌, true, false, not, List, [], ◌∷◌, ◌++◌, Err, refl, sym, ap, subst, ◌∙◌, append_assoc, append-nil, is_some, eqb-true, if◌then◌else◌}
use Rattle.std.proofs.lemmas.List.Folds.{list_any-append}
use Rattle.rig_io.specs.Link.{Piece}
use Rattle.grpc_heads.specs.CallEnd.{CallEnd, Status}
use Rattle.grpc_heads.specs.GrpcStatus.{GrpcStatus}
use Rattle.h2_exchange.specs.declared.role.Role.TheVariants.{Server}
use Rattle.h2_exchange.specs.StreamParts.{Item, Message, Finish}
use Rattle.h2_exchange.specs.declared.fault.SendFault.{SendFault}
use Rattle.h2_exchange.specs.declared.fault.SendFault.TheVariants.{NotOpen}
use Rattle.http_connection.specs.ConnectionTrace.{ConnectionTrace}
use Rattle.http_connection.specs.Sends.{SendsWhere}
use Rattle.grpc_stream.specs.CallTrace.{CallTrace, IsSoundCallTrace, is_taking, queued_on, suits, took}
use Rattle.table_model.specs.Event.{Event}
use Rattle.call_answers.specs.declared.orders.Setting.{Setting}
use Rattle.call_orders.specs.Calls.{Action, standing}
use Rattle.call_orders.specs.Owed.{has_end}
use Rattle.session_engine.specs.Queries.{OpenCallsView}
use Rattle.server_turns.specs.declared.outcome.Outcome.TheVariants as over
use Rattle.server_account.specs.Agreeing.{AreBrought, AreHandled, IsServer, IsTaken, left_on}
use Rattle.server_account.proofs.Rests.{alive_rest}
use Rattle.server_account.proofs.Takes.{cut_off, handled_takes, server_takes}
use Rattle.server_conn.specs.Standing.{MayEnd, Works, past_of}
use Rattle.server_conn.specs.Steps.{Grows}
use Rattle.server_conn.specs.Handing.{Hands}
use Rattle.server_conn.proofs.Grown.{may_end_from, prefix_refl}
use Rattle.server_conn.proofs.MayEnd.{left_unread, queued_before, unread_no_memory}

-- the stream takes no more where it isn't open
pub not_taking : (A : Type 0) (taking : Bool) (fault : SendFault) → fault ≡ NotOpen → SendsWhere {A = A} taking (Err fault) → taking ≡ false
not_taking A taking fault is sends = subst (λ (f : SendFault). SendsWhere {A = A} taking (Err f)) is sends

-- over the same connection
pub grows_beside : (t u : CallTrace) → u.connection_trace ≡ t.connection_trace → Grows t u
grows_beside t u same = subst (λ (c : ConnectionTrace). Grows t (record u { connection_trace = c })) (sym same) (record {
  limits = refl;
  heads = prefix_refl t.connection_trace.heads;
  frames = prefix_refl t.connection_trace.frames;
})

-- another output of the same calls
other_output : (s : Setting) (t : CallTrace) (output later : List ℕ) → IsServer s t output → IsSoundCallTrace t later → IsServer s t later
other_output s t output later h sound = record {
  sound = sound;
  role = h.role;
  numbers = h.numbers;
  limits = h.limits;
  first = h.first;
  sends = h.sends;
  suited = h.suited;
}

-- what holds of the handled holds of the brought
brought_of : (s : Setting) (t : CallTrace) (calls : OpenCallsView) (actions : List Action) (own : List Event) (left : ℕ → List (Item CallEnd)) →
    AreHandled s t calls actions own left → AreBrought s t calls actions own left
brought_of s t calls actions own left h = record { open_now = h.open_now; reported = h.reported; did = h.did; taken = h.taken }

-- ---- one item

module _ {K : Type 0} (uses : K → CallTrace → Type 0) (output : K → List ℕ) (s : Setting) (calls now : K) (open_calls : OpenCallsView) (refused stream : ℕ)
    (t : CallTrace) (actions : List Action) (pieces : List Piece) (own : List Event) where
  -- it is taken
  pub hands_take : (what : Item CallEnd) (more : List (Item CallEnd)) →
      (h : Hands uses output s calls open_calls refused stream t actions pieces own (what ∷ more)) →
      uses now (took stream what h.trace) → IsSoundCallTrace (took stream what h.trace) (output now) → is_taking h.trace stream ≡ true →
      suits Server what ≡ true →
      (has_end (what ∷ []) ≡ false) ⊎ (more ≡ []) → Hands uses output s now open_calls refused stream t actions pieces own more
  hands_take what more h used sound taking fits ends = record {
    trace = took stream what h.trace;
    connection = h.connection;
    reported = h.reported;
    used = used;
    alive = h.alive;
    agrees = record {
      server = server_takes s h.trace (output calls) (output now) stream what more h.agrees.server taking sound fits;
      told = record { fed = h.agrees.told.fed; dropped = h.agrees.told.dropped; order = h.agrees.told.order };
      handled = handled_takes s h.trace (output calls) (output now) stream what more h.agrees.server taking open_calls actions own h.agrees.handled;
    };
    begun = h.begun;
    before = h.before ++ what ∷ [];
    items_are = h.items_are ∙ sym (append_assoc h.before (what ∷ []) more);
    unended = still h.unended ends;
    count = h.count;
  }
    where
      still : has_end h.before ≡ false ⊎ (what ∷ more ≡ []) → (has_end (what ∷ []) ≡ false) ⊎ (more ≡ []) →
          has_end (h.before ++ what ∷ []) ≡ false ⊎ (more ≡ [])
      still past (inr none) = inr none
      still (inr none) (inl open_end) = absurd cc
      still (inl past) (inl open_end) =
          inl (list_any-append _ h.before (what ∷ []) ∙ (ap (λ (b : Bool). b || has_end (what ∷ [])) past ∙ open_end))

  -- none is taken, and none that is left will be
  pub hands_refuse : (left : List (Item CallEnd)) → (h : Hands uses output s calls open_calls refused stream t actions pieces own left) →
      uses now h.trace → IsSoundCallTrace h.trace (output now) → is_taking h.trace stream ≡ false →
      Hands uses output s now open_calls refused stream t actions pieces own []
  hands_refuse left h used sound refuses = record {
    trace = h.trace;
    connection = h.connection;
    reported = h.reported;
    used = used;
    alive = h.alive;
    agrees = record {
      server = other_output s h.trace (output calls) (output now) h.agrees.server sound;
      told = h.agrees.told;
      handled = record {
        open_now = h.agrees.handled.open_now;
        reported = h.agrees.handled.reported;
        did = h.agrees.handled.did;
        running = h.agrees.handled.running;
        taken = λ id. by id (stream == id) refl (h.agrees.handled.taken id);
      };
    };
    begun = h.begun;
    before = (standing s actions stream).items;
    items_are = sym (append-nil (standing s actions stream).items);
    unended = inr refl;
    count = h.count;
  }
    where
      here : IsTaken h.trace stream (standing s actions stream).items left → IsTaken h.trace stream (standing s actions stream).items []
      here (inr cut) = inr cut
      here (inl same) = last (queued_before (queued_on h.trace stream) left h.before (same ∙ h.items_are) h.unended)
        where
          last : (left ≡ []) ⊎ (has_end (queued_on h.trace stream) ≡ false) → IsTaken h.trace stream (standing s actions stream).items []
          last (inl none) = inl (ap (λ (l : List (Item CallEnd)). queued_on h.trace stream ++ l) (sym none) ∙ same)
          last (inr unended) =
              cut_off s h.trace (output calls) stream h.agrees.server refuses (ap (λ o. not (is_some o)) h.alive) h.begun unended
              (standing s actions stream).items left (inl same)

      by : (id : ℕ) (b : Bool) → (stream == id) ≡ b → IsTaken h.trace id (standing s actions id).items (if b then left else []) →
          IsTaken h.trace id (standing s actions id).items (if b then [] else [])
      by id true is k = subst (λ (n : ℕ). IsTaken h.trace n (standing s actions n).items left → IsTaken h.trace n (standing s actions n).items [])
          (eqb-true stream id is) here k
      by id false is k = k

  -- for want of memory none is, and the connection may end so
  pub hands_no_memory : (left : List (Item CallEnd)) (is_ended : Bool) →
      (h : Hands uses output s calls open_calls refused stream t actions pieces own left) →
      uses now h.trace → IsSoundCallTrace h.trace (output now) →
      MayEnd s t (output now) open_calls refused (past_of pieces own is_ended) over.NoMemory
  hands_no_memory left is_ended h used sound =
      may_end_from s t h.trace (grows_beside t h.trace h.connection) (output now) open_calls refused (past_of pieces own is_ended) over.NoMemory
      (subst (λ (ps : List Piece). MayEnd s h.trace (output now) open_calls refused (past_of ps own is_ended) over.NoMemory) (append-nil pieces)
      (unread_no_memory s h.trace (output now) open_calls refused actions pieces [] own [] is_ended
      (left_unread s h.trace (output now) open_calls refused actions pieces [] own [] stream left
      (other_output s h.trace (output calls) (output now) h.agrees.server sound) h.agrees.told refl (alive_rest h.trace.connection_trace [] h.alive)
      (brought_of s h.trace open_calls actions own (left_on stream left) h.agrees.handled) h.count
      (λ same. queued_before (queued_on h.trace stream) left h.before (same ∙ h.items_are) h.unended))
      h.agrees.handled.running))

  -- ---- a message

  pub hands_message : (m : List ℕ) (more : List (Item CallEnd)) →
      (h : Hands uses output s calls open_calls refused stream t actions pieces own (Message m ∷ more)) →
      uses now (took stream (Message m) h.trace) → IsSoundCallTrace (took stream (Message m) h.trace) (output now) → is_taking h.trace stream ≡ true →
      Hands uses output s now open_calls refused stream t actions pieces own more
  hands_message m more h used sound taking = hands_take (Message m) more h used sound taking refl (inl refl)

  -- ---- the end

  pub hands_end : (status : GrpcStatus) → (h : Hands uses output s calls open_calls refused stream t actions pieces own (Finish (Status status) ∷ [])) →
      uses now (took stream (Finish (Status status)) h.trace) → IsSoundCallTrace (took stream (Finish (Status status)) h.trace) (output now) →
      is_taking h.trace stream ≡ true → Hands uses output s now open_calls refused stream t actions pieces own []
  hands_end status h used sound taking = hands_take (Finish (Status status)) [] h used sound taking refl (inr refl)

-- ---- nothing is left

module _ {K : Type 0} (uses : K → CallTrace → Type 0) (output : K → List ℕ) (s : Setting) (calls : K) (open_calls : OpenCallsView) (refused stream : ℕ)
    (t : CallTrace) (actions : List Action) (pieces : List Piece) (own : List Event)
    (h : Hands uses output s calls open_calls refused stream t actions pieces own []) where
  pub hands_works : Works uses output s calls open_calls refused h.trace actions pieces own
  hands_works = record {
    used = h.used;
    alive = h.alive;
    agrees = record {
      server = h.agrees.server;
      told = h.agrees.told;
      handled = record {
        open_now = h.agrees.handled.open_now;
        reported = h.agrees.handled.reported;
        did = h.agrees.handled.did;
        running = h.agrees.handled.running;
        taken = λ id. by id (stream == id) (h.agrees.handled.taken id);
      };
    };
    count = h.count;
  }
    where
      by : (id : ℕ) (b : Bool) → IsTaken h.trace id (standing s actions id).items (if b then [] else []) →
          IsTaken h.trace id (standing s actions id).items []
      by id true k = k
      by id false k = k
