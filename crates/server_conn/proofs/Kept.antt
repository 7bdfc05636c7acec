-- A connection that is over keeps the promise.
use Rattle.std.proofs.Common.{◌≡◌, ◌⊎◌, ℕ, ◌+◌, ◌-◌, ◌^◌, ◌<◌, ◌≤◌, ◌||◌, Bool, true, false, List, [], ◌++◌, Some, inl, inr, refl, sym, ap, ◌∙◌, subst, append_assoc, append-nil, arith}
use Rattle.std.specs.List.{flat_map}
use Rattle.rig_io.specs.Fault.{HasCause, HasRisen, StaysUnless}
use Rattle.rig_io.specs.Link as link
use Rattle.rig_io.specs.Link.{Piece}
use Rattle.grpc_stream.specs.CallTrace.{CallTrace}
use Rattle.table_lock.specs.Passes.{PassView}
use Rattle.table_model.specs.declared.command.Command.{Command}
use Rattle.table_model.specs.declared.command.Config.{Config}
use Rattle.table_model.specs.declared.reply.Reply.{Reply}
use Rattle.table_model.specs.Event.{Event}
use Rattle.call_answers.specs.declared.orders.Setting.{Setting}
use Rattle.session_engine.specs.Queries.{OpenCallsView}
use Rattle.server_turns.specs.declared.outcome.Outcome.{Outcome}
use Rattle.server_turns.specs.declared.outcome.Outcome.TheVariants as over
use Rattle.server_turns.specs.declared.outcome.TurnEnd.TheVariants.{Over}
use Rattle.server_turns.specs.Making.{Makes}
use Rattle.server_turns.specs.Past.{Past}
use Rattle.server_turns.specs.Serving.{Account}
use Rattle.server_turns.specs.Turning.{Counts, During, GoesOn, IsFault, MayFail, behind, is_spent}
use Rattle.server_turns.proofs.Runs.{makes_then}
use Rattle.server_conn.specs.declared.conn.Cause.{Cause}
use Rattle.server_conn.specs.declared.conn.Cause.TheVariants.{Ends, Spent}
use Rattle.server_conn.specs.Standing.{EndsBy, Goes, IsOver, KeptBy, MayEnd, past_of}
use Rattle.server_conn.specs.Steps.{is_fault_by}
use Rattle.server_conn.specs.Turns.{TurnsLast, TurnsOver, goes_away}
use Rattle.server_conn.proofs.Served.{false_true}
use Rattle.server_conn.proofs.Turned.{or_known}
use Rattle.server_conn.proofs.Turning.{size_then}

-- ---- the end of a connection

module _ (config : Config) (s : Setting) (t : CallTrace) (out now : List ℕ) (open_calls : OpenCallsView) (refused refused_now : ℕ)
    (q r : PassView Command Reply Config) (pieces : List Piece) (own : List Event) (is_ended : Bool) (result : Outcome) (told : List Piece → Type 0) where
  pub ends_over : (cause : Cause) →
      ((outcome : Outcome) → cause ≡ Ends outcome → MayEnd s t out open_calls refused (past_of pieces own is_ended) outcome → (last : List Event)
      × Makes config (is_spent (Some result)) q r last × KeptBy s t out refused (past_of pieces (own ++ last) is_ended) result) →
      (cause ≡ Spent → (result ≡ over.Spent) × (r ≡ q)) →
      ((did : List Event) → KeptBy s t out refused (past_of pieces (own ++ did) is_ended) result → (put : List Piece) × (flat_map link.received_bytes put ≡ [])
      × told put × KeptBy s t now refused_now (past_of (pieces ++ put) (own ++ did) is_ended) result) →
      EndsBy s t out open_calls refused (past_of pieces own is_ended) cause →
      (put : List Piece) × told put × TurnsOver config s t now refused_now q r pieces own is_ended cause result put
  ends_over (Ends outcome) leaves spent keeps h =
      (let x = leaves outcome refl h in
      let y = keeps x.0 x.2 in (
        y.0,
        y.2,
        record {
          nothing = y.1;
          did = x.0;
          made = λ p earlier made. makes_then config (is_spent (Some result)) p q r earlier x.0 made x.1;
          kept = y.3;
        },
      ))
  ends_over Spent leaves spent keeps h =
      (let e = spent refl in
      let y = keeps [] (subst (λ (o : Outcome). KeptBy s t out refused (past_of pieces (own ++ []) is_ended) o) (sym e.0)
      (subst (λ (l : List Event). KeptBy s t out refused (past_of pieces l is_ended) over.Spent) (sym (append-nil own)) h)) in (
        y.0,
        y.2,
        record {
          nothing = y.1;
          did = [];
          made = λ p earlier made. subst (λ (o : Outcome). Makes config (is_spent (Some o)) p r (earlier ++ [])) (sym e.0)
              (subst (λ (x : PassView Command Reply Config). Makes config true p x (earlier ++ [])) (sym e.1)
              (subst (λ (l : List Event). Makes config true p q l) (sym (append-nil earlier)) made));
          kept = y.3;
        },
      ))

-- ---- faults

fault_of : (outcome : Outcome) → IsFault (Over outcome) → is_fault_by (Ends outcome) ≡ true
fault_of over.ReadFault h = refl
fault_of over.WriteFault h = refl
fault_of other h = absurd h

may_fail : (outcome : Outcome) → is_fault_by (Ends outcome) ≡ true → MayFail (Over outcome)
may_fail over.ReadFault e = tt
may_fail over.WriteFault e = tt
may_fail other e = false_true e

away_fails : (outcome : Outcome) → goes_away outcome ≡ true → MayFail (Over outcome)
away_fails (over.Protocol why place) e = tt
away_fails (over.Calm cause) e = tt
away_fails other e = false_true e

-- the outcome is the one of the cause, or Spent
pub faults_by : (cause : Cause) (result : Outcome) → ((outcome : Outcome) → cause ≡ Ends outcome → (result ≡ outcome) ⊎ (result ≡ over.Spent)) →
    (cause ≡ Spent → result ≡ over.Spent) → IsFault (Over result) → is_fault_by cause ≡ true
faults_by (Ends outcome) result one spent h = by (one outcome refl)
  where
    by : (result ≡ outcome) ⊎ (result ≡ over.Spent) → is_fault_by (Ends outcome) ≡ true
    by (inl e) = fault_of outcome (subst (λ (o : Outcome). IsFault (Over o)) e h)
    by (inr e) = absurd (subst (λ (o : Outcome). IsFault (Over o)) e h)
faults_by Spent result one spent h = absurd (subst (λ (o : Outcome). IsFault (Over o)) (spent refl) h)

-- a count of faults behind the last pieces
pub faults_over : (first mid now : ℕ) (cause : Cause) (result : Outcome) →
    ((outcome : Outcome) → cause ≡ Ends outcome → (result ≡ outcome) ⊎ (result ≡ over.Spent)) → (cause ≡ Spent → result ≡ over.Spent) → mid ≤ now →
    (goes_away result ≡ false → now ≡ mid) → HasCause first mid (is_fault_by cause ≡ true) × StaysUnless first mid (is_fault_by cause ≡ true) →
    HasCause first now (IsFault (Over result)) × StaysUnless first now (MayFail (Over result))
faults_over first mid now cause result one spent later quiet h = (
  record {
    later = (let a = h.0.later in omega arith);
    rose = λ f. (let a = h.0.rose (faults_by cause result one spent f) in omega arith);
  },
  by cause one h.1,
)
  where
    told : (outcome : Outcome) → is_fault_by (Ends outcome) ≡ true → (result ≡ outcome) ⊎ (result ≡ over.Spent) → MayFail (Over result)
    told outcome e (inl f) = subst (λ (o : Outcome). MayFail (Over o)) (sym f) (may_fail outcome e)
    told outcome e (inr f) = subst (λ (o : Outcome). MayFail (Over o)) (sym f) tt

    still : (b : Bool) → goes_away result ≡ b → mid ≡ first → MayFail (Over result) ⊎ (now ≡ first)
    still true e same = inl (away_fails result e)
    still false e same = inr (quiet e ∙ same)

    by : (why : Cause) → ((outcome : Outcome) → why ≡ Ends outcome → (result ≡ outcome) ⊎ (result ≡ over.Spent)) →
        (is_fault_by why ≡ true) ⊎ (mid ≡ first) → MayFail (Over result) ⊎ (now ≡ first)
    by (Ends outcome) each (inl e) = inl (told outcome e (each outcome refl))
    by Spent each (inl e) = false_true e
    by why each (inr same) = still (goes_away result) refl same

-- ---- the last turn

past_same : (a b : List Piece) (c d : List Event) (e f : Bool) → a ≡ b → c ≡ d → e ≡ f → past_of a c e ≡ past_of b d f
past_same a b c d e f p q r = ap (λ (l : List Piece). past_of l c e) p ∙ (ap (λ (l : List Event). past_of b l e) q ∙ ap (λ (x : Bool). past_of b d x) r)

module _ {K : Type 0} (uses : K → CallTrace → Type 0) (output : K → List ℕ) (s : Setting) (config : Config) (past : Past) (before : Account)
    (start : K) (open_start : OpenCallsView) (refused_start : ℕ) (was_ended : Bool)
    (h : Goes uses output s start open_start refused_start was_ended past before)
    (p q r : PassView Command Reply Config) (calls : K) (open_calls : OpenCallsView) (refused : ℕ) (is_ended : Bool) (turn : During) (cause : Cause)
    (from mid to : Counts) (out : List ℕ) (refused_now : ℕ) (ended_now : Bool) (outcome : Outcome) (put : List Piece)
    (last : TurnsLast uses output s config p q h.trace calls open_calls refused is_ended past turn cause from mid)
    (gone : TurnsOver config s h.trace out refused_now q r (past.pieces ++ turn.pieces) (past.own ++ turn.own) ended_now cause outcome put)
    (same : ended_now ≡ is_ended) (ends_same : to.ends ≡ mid.ends) where
  abbrev pub whole_turn : During
  whole_turn = record { pieces = turn.pieces ++ put; own = turn.own ++ gone.did; is_ended = turn.is_ended }

  pub made_over : Makes config (is_spent (Some outcome)) p r (turn.own ++ gone.did)
  made_over = gone.made p turn.own last.made

  ended_is : ended_now ≡ (past.is_ended || turn.is_ended)
  ended_is = same ∙ (last.ended ∙ or_known past.is_ended turn.is_ended (λ e. last.told (inl e)))

  pub over_stands : IsOver s (behind whole_turn past) gone.kept.account refused_now outcome
  over_stands = subst (λ (x : Past). IsOver s x gone.kept.account refused_now outcome)
      (past_same ((past.pieces ++ turn.pieces) ++ put) (past.pieces ++ (turn.pieces ++ put)) ((past.own ++ turn.own) ++ gone.did)
      (past.own ++ (turn.own ++ gone.did)) ended_now (past.is_ended || turn.is_ended) (append_assoc past.pieces turn.pieces put)
      (append_assoc past.own turn.own gone.did) ended_is) gone.kept.over

  pub over_goes_on : GoesOn past before gone.kept.account whole_turn from to
  over_goes_on = subst (λ (a : Account). GoesOn past a gone.kept.account whole_turn from to) (sym h.account) (record {
    limits = gone.kept.grows.limits;
    heads = gone.kept.grows.heads;
    frames = gone.kept.grows.frames;
    size = size_then turn.pieces put last.size gone.nothing;
    given = λ e. subst (λ (n : ℕ). (past.is_ended ≡ true) ⊎ HasRisen from.ends n) (sym ends_same) (last.given e);
    told = λ x. last.told (subst (λ (n : ℕ). (past.is_ended ≡ true) ⊎ (from.ends < n)) ends_same x);
  })
