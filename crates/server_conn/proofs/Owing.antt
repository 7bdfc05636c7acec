-- What a step of the engine has for a call is owed to it: its end is counted, and it may be taken, or halts the connection.
use Rattle.std.proofs.Common.{◌≡◌, ◌⊎◌, inl, inr, ℕ, ◌+◌, ◌-◌, ◌^◌, min, Bool, ◌||◌, ◌&&◌, true, false, not, List, [], ◌∷◌, ◌++◌, Option, Some, None, refl, sym, ap, subst, ◌∙◌, append-nil, arith, if◌then◌else◌}
use Rattle.std.specs.List.{list_any}
use Rattle.std.proofs.lemmas.Bool.Decides.{nat_tests}
use Rattle.std.proofs.lemmas.List.Folds.{list_any-append}
use Rattle.rig_io.specs.Link.{Piece}
use Rattle.grpc_heads.specs.CallEnd.{CallEnd, Status}
use Rattle.grpc_heads.specs.GrpcStatus.{GrpcStatus}
use Rattle.h2_exchange.specs.StreamParts.{Item, Message, Finish}
use Rattle.grpc_stream.specs.CallTrace.{CallTrace, queued_on}
use Rattle.table_model.specs.Event.{Event}
use Rattle.call_answers.specs.declared.orders.Setting.{Setting}
use Rattle.call_orders.specs.Calls.{Action, Collects, standing, stream_of}
use Rattle.call_orders.specs.Owed.{has_end, items_by}
use Rattle.session_engine.specs.declared.step.Step.{Step}
use Rattle.session_engine.specs.Queries.{OpenCallsView}
use Rattle.session_engine.specs.Stands.{items_in}
use Rattle.server_turns.specs.declared.outcome.Outcome.TheVariants as over
use Rattle.server_turns.specs.Serving.{Unbroken, is_want_of_memory, refused_in, wants_memory}
use Rattle.server_account.specs.Agreeing.{account_of}
use Rattle.server_account.proofs.Rests.{alive_rest}
use Rattle.server_account.proofs.Serves as serves
use Rattle.server_conn.specs.Standing.{AreCounted, MayEnd, Works, past_of}
use Rattle.server_conn.specs.Steps.{Owes, has_items}
use Rattle.server_conn.specs.Handing.{Hands, counted, wants}
use Rattle.server_conn.proofs.Handed.{hands_works}
use Rattle.server_conn.proofs.MayEnd.{left_unread, queued_before, unread_halted}

-- ---- its end is counted

no_end_no_want : (items : List (Item CallEnd)) → has_end items ≡ false → list_any is_want_of_memory items ≡ false
no_end_no_want [] e = refl
no_end_no_want (Message m ∷ items) e = no_end_no_want items e
no_end_no_want (Finish end ∷ items) e = absurd cc

or_false : (b : Bool) → (b || false) ≡ b
or_false true = refl
or_false false = refl

wants_items : (messages : List (List ℕ)) (end : Option GrpcStatus) → list_any is_want_of_memory (items_by messages end) ≡ wants end
wants_items [] None = refl
wants_items [] (Some status) = or_false (is_want_of_memory (Finish (Status status)))
wants_items (m ∷ messages) end = wants_items messages end

newly : (before now more : Bool) → before ≡ false → now ≡ (before || more) → (now && not before) ≡ more
newly true now more none is = absurd cc
newly false true more none is = is
newly false false more none is = is

never : (b : Bool) → (b && not b) ≡ false
never true = refl
never false = refl

count_more : (s : Setting) (a : Action) (earlier : List Action) → refused_in s (a ∷ earlier) ≡ refused_in s earlier
    + (if wants_memory (standing s (a ∷ earlier) (stream_of a)) && not (wants_memory (standing s earlier (stream_of a))) then 1 else 0)
unfolding refused_in
count_more s a earlier = refl

more_refused : (s : Setting) (a : Action) (earlier : List Action) (items : List (Item CallEnd)) →
    (standing s (a ∷ earlier) (stream_of a)).items ≡ (standing s earlier (stream_of a)).items ++ items →
    has_end (standing s earlier (stream_of a)).items ≡ false ⊎ (items ≡ []) →
    refused_in s (a ∷ earlier) ≡ refused_in s earlier + (if list_any is_want_of_memory items then 1 else 0)
more_refused s a earlier items more unended =
    count_more s a earlier ∙ ap (λ (b : Bool). refused_in s earlier + (if b then 1 else 0)) (by unended)
  where
    before : List (Item CallEnd)
    before = (standing s earlier (stream_of a)).items

    now_is : wants_memory (standing s (a ∷ earlier) (stream_of a)) ≡ (list_any is_want_of_memory before || list_any is_want_of_memory items)
    now_is = ap (list_any is_want_of_memory) more ∙ list_any-append is_want_of_memory before items

    by : has_end before ≡ false ⊎ (items ≡ []) →
        (wants_memory (standing s (a ∷ earlier) (stream_of a)) && not (list_any is_want_of_memory before)) ≡ list_any is_want_of_memory items
    by (inl none) =
        newly (list_any is_want_of_memory before) (wants_memory (standing s (a ∷ earlier) (stream_of a))) (list_any is_want_of_memory items)
        (no_end_no_want before none) now_is
    by (inr empty) =
        let same : wants_memory (standing s (a ∷ earlier) (stream_of a)) ≡ list_any is_want_of_memory before =
        ap (list_any is_want_of_memory) (more ∙ (ap (λ (l : List (Item CallEnd)). before ++ l) empty ∙ append-nil before)) in
        ap (λ (b : Bool). b && not (list_any is_want_of_memory before)) same ∙ (never (list_any is_want_of_memory before)
        ∙ sym (ap (list_any is_want_of_memory) empty))

clipped_more : (b : Bool) (n refused most : ℕ) → most ≡ 2 ^ 64 - 1 → refused ≡ min n most → counted b refused ≡ min (n + (if b then 1 else 0)) most
clipped_more true n refused most is e = grind (arith, nat_tests)
clipped_more false n refused most is e = grind (arith, nat_tests)

pub owes_counted : (s : Setting) (action : Action) (earlier : List Action) (stream : ℕ) (step : Step) (refused : ℕ) → stream_of action ≡ stream →
    (standing s (action ∷ earlier) stream).items ≡ (standing s earlier stream).items ++ items_in step →
    has_end (standing s earlier stream).items ≡ false ⊎ (items_in step ≡ []) → AreCounted s earlier refused →
    AreCounted s (action ∷ earlier) (counted (wants step.end) refused)
owes_counted s action earlier stream step refused on going unended count =
    ap (λ (b : Bool). counted b refused) (sym (wants_items step.answers step.end))
    ∙ (clipped_more (list_any is_want_of_memory (items_in step)) (refused_in s earlier) refused (2 ^ 64 - 1) refl count
    ∙ ap (λ (n : ℕ). min n (2 ^ 64 - 1)) (sym (at stream on going unended)))
  where
    at : (id : ℕ) → stream_of action ≡ id → (standing s (action ∷ earlier) id).items ≡ (standing s earlier id).items ++ items_in step →
        has_end (standing s earlier id).items ≡ false ⊎ (items_in step ≡ []) →
        refused_in s (action ∷ earlier) ≡ refused_in s earlier + (if list_any is_want_of_memory (items_in step) then 1 else 0)
    at id is = subst (λ (n : ℕ). (standing s (action ∷ earlier) n).items ≡ (standing s earlier n).items ++ items_in step →
        has_end (standing s earlier n).items ≡ false ⊎ (items_in step ≡ []) →
        refused_in s (action ∷ earlier) ≡ refused_in s earlier + (if list_any is_want_of_memory (items_in step) then 1 else 0)) is
        (more_refused s action earlier (items_in step))

-- ---- it may be taken, or halts the connection

abbrev first_or : Action → List Action → Action
first_or a [] = a
first_or a (b ∷ earlier) = b

module _ {K : Type 0} (uses : K → CallTrace → Type 0) (output : K → List ℕ) (s : Setting) (calls : K) (open_calls : OpenCallsView) (refused stream : ℕ)
    (step : Step) (t : CallTrace) (actions : List Action) (pieces : List Piece) (own : List Event)
    (h : Owes uses output s calls open_calls refused stream step t actions pieces own) where
  pub count_now : AreCounted s actions (counted (wants step.end) refused)
  count_now = subst (λ (l : List Action). AreCounted s l (counted (wants step.end) refused)) (sym h.actions_are)
      (owes_counted s h.action h.earlier stream step refused h.on
      (subst (λ (l : List Action). (standing s l stream).items ≡ (standing s h.earlier stream).items ++ items_in step) h.actions_are h.going)
      h.unended h.count)

  pub owes_hands : step.halted ≡ false →
      Hands uses output s calls open_calls (counted (wants step.end) refused) stream t actions pieces own (items_in step)
  owes_hands going = record {
    trace = t;
    connection = refl;
    reported = refl;
    used = h.used;
    alive = h.alive;
    agrees = record {
      server = h.server;
      told = h.told;
      handled = record {
        open_now = h.brought.open_now;
        reported = h.brought.reported;
        did = h.brought.did;
        running = h.running going;
        taken = h.brought.taken;
      };
    };
    begun = h.begun;
    before = (standing s h.earlier stream).items;
    items_are = h.going;
    unended = h.unended;
    count = count_now;
  }

  pub owes_halted : (is_ended : Bool) → step.halted ≡ true →
      MayEnd s t (output calls) open_calls (counted (wants step.end) refused) (past_of pieces own is_ended) over.Halted
  owes_halted is_ended halted =
      subst (λ (ps : List Piece). MayEnd s t (output calls) open_calls (counted (wants step.end) refused) (past_of ps own is_ended) over.Halted)
      (append-nil pieces)
      (unread_halted s t (output calls) open_calls (counted (wants step.end) refused) actions pieces [] own h.rest is_ended
      (left_unread s t (output calls) open_calls (counted (wants step.end) refused) actions pieces [] own h.rest stream (items_in step)
      h.server h.told refl
      (alive_rest t.connection_trace h.rest h.alive) h.brought count_now
      (λ same. queued_before (queued_on t stream) (items_in step) (standing s h.earlier stream).items (same ∙ h.going) h.unended))
      (h.stopped halted) collecting)
    where
      collecting : (id : ℕ) (did : List Event) (cut : Option ℕ) (earlier : List Action) → actions ≡ Collects id did cut ∷ earlier →
          Unbroken s (past_of (pieces ++ []) own is_ended) (account_of t (output calls) h.rest actions)
      collecting id did cut earlier is =
          subst (λ (ps : List Piece). Unbroken s (past_of ps own is_ended) (account_of t (output calls) h.rest actions)) (sym (append-nil pieces))
          (serves.unbroken s t (output calls) h.rest h.server (past_of pieces own is_ended) h.told
          (h.settled id did cut (ap (first_or h.action) (sym h.actions_are ∙ is))) actions)

  -- with what is counted and what was read of the step
  module _ (counted_now : ℕ) (counts : counted_now ≡ counted (wants step.end) refused) where
    pub owes_given : (texts : List (List ℕ)) → texts ≡ step.answers → step.halted ≡ false →
        Hands uses output s calls open_calls counted_now stream t actions pieces own (items_by texts step.end)
    owes_given texts read going =
        subst (λ (n : ℕ). Hands uses output s calls open_calls n stream t actions pieces own (items_by texts step.end)) (sym counts)
        (subst (λ (ms : List (List ℕ)). Hands uses output s calls open_calls (counted (wants step.end) refused) stream t actions pieces own
        (items_by ms step.end)) (sym read) (owes_hands going))

    pub owes_halts : (is_ended : Bool) → step.halted ≡ true →
        MayEnd s t (output calls) open_calls counted_now (past_of pieces own is_ended) over.Halted
    owes_halts is_ended halted =
        subst (λ (n : ℕ). MayEnd s t (output calls) open_calls n (past_of pieces own is_ended) over.Halted) (sym counts) (owes_halted is_ended halted)

-- ---- all was given

module _ {K : Type 0} (uses : K → CallTrace → Type 0) (output : K → List ℕ) (s : Setting) (calls : K) (open_calls : OpenCallsView) (refused stream : ℕ)
    (t : CallTrace) (actions : List Action) (pieces : List Piece) (own : List Event)
    (h : Hands uses output s calls open_calls refused stream t actions pieces own []) (step : Step) where
  pub gave : (texts : List (List ℕ)) → texts ≡ step.answers → (has_any : Bool) → has_any ≡ has_items (items_by texts step.end) → step.halted ≡ false →
      (u : CallTrace) × (u.connection_trace ≡ t.connection_trace) × (u.reported ≡ t.reported)
      × Works uses output s calls open_calls refused u actions pieces own × (has_any ≡ has_items (items_in step)) × (step.halted ≡ false)
  gave texts read has_any is going = (
    h.trace,
    h.connection,
    h.reported,
    hands_works uses output s calls open_calls refused stream t actions pieces own h,
    is ∙ ap (λ (ms : List (List ℕ)). has_items (items_by ms step.end)) read,
    going,
  )
