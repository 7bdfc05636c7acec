-- What a turn reads.
use Rattle.std.proofs.Common.{◌≡◌, ◌⊎◌, inl, inr, ℕ, ◌<◌, ◌≤◌, Bool, true, false, length, List, [], ◌∷◌, ◌++◌, Option, Result, Ok, Err, IfOk, IfErr, refl, sym, ap, subst, ◌∙◌, arith, append-nil, take, length-take}
use Rattle.std.specs.Option.{option_map}
use Rattle.rig_io.specs.Fault.{HasCause, HasRisen, StaysUnless}
use Rattle.rig_io.specs.Link.{Piece, received}
use Rattle.http_connection.specs.ConnectionTrace.{fed_more}
use Rattle.grpc_stream.specs.CallTrace.{CallTrace, changed}
use Rattle.table_model.specs.Event.{Event}
use Rattle.call_answers.specs.declared.orders.Setting.{Setting}
use Rattle.call_orders.specs.Calls.{Action}
use Rattle.session_engine.specs.Queries.{OpenCallsView}
use Rattle.server_turns.specs.declared.outcome.Outcome.TheVariants as over
use Rattle.server_turns.specs.Turning.{Counts}
use Rattle.server_account.specs.Agreeing.{IsSettled}
use Rattle.server_conn.specs.declared.conn.Cause.{Cause}
use Rattle.server_conn.specs.Standing.{EndsBy, MayEnd, Works, past_of}
use Rattle.server_conn.specs.Steps.{Grows, IsFaultBy, MUCH, Reads, got, is_fault_by}
use Rattle.server_conn.proofs.Grown.{grows_refl, prefix_refl}
use Rattle.server_conn.proofs.MayEnd.{read_fault}
use Rattle.server_conn.proofs.Served.{false_true, true_false}

got_some : (bytes : List ℕ) → 0 < length bytes → received bytes ∷ [] ≡ got bytes
got_some [] some = absurd (omega (arith, some))
got_some (byte ∷ bytes) some = refl

pub told_got : (old now : Option (List Piece)) (bytes : List ℕ) → 0 < length bytes → now ≡ option_map (λ told. told ++ received bytes ∷ []) old →
    now ≡ option_map (λ told. told ++ got bytes) old
told_got old now bytes some told_now = told_now ∙ ap (λ (l : List Piece). option_map (λ told. told ++ l) old) (got_some bytes some)

some_bytes : {A : Type 0} (bytes : List ℕ) → 0 < length bytes → bytes ≡ [] → A
some_bytes bytes some none = absurd (omega (arith, some, ap length none))

nothing_moved : (bytes : List ℕ) (is_ended : Bool) → bytes ≡ [] → (0 < length bytes) ⊎ ((is_ended ≡ false) × (is_ended ≡ true)) → false ≡ true
nothing_moved bytes is_ended none (inl some) = some_bytes bytes some none
nothing_moved bytes is_ended none (inr both) = sym both.0 ∙ both.1

-- what was got of a buffer fits into it
pub short_read : (n most : ℕ) (buffer now : List ℕ) → length buffer ≡ most → length now ≡ length buffer → length (take n now) ≤ most
short_read n most buffer now size same = omega (arith, size, same, length-take n now)

grows_fed : (t : CallTrace) (piece : List ℕ) → Grows t (changed (fed_more piece) t)
grows_fed t piece = record {
  limits = refl;
  heads = prefix_refl t.connection_trace.heads;
  frames = prefix_refl t.connection_trace.frames;
}

module _ {K : Type 0} (uses : K → CallTrace → Type 0) (output : K → List ℕ) (s : Setting) (before : K) (open_calls : OpenCallsView) (refused : ℕ)
    (t : CallTrace) (actions : List Action) (pieces : List Piece) (own : List Event) (from to : Counts) where
  abbrev ReadsSo : K → List ℕ → Bool → Bool → Bool → Type 0
  ReadsSo now bytes was_ended is_ended moved =
      Reads uses output s before now open_calls refused t actions pieces own bytes was_ended is_ended moved from to

  works_none : Works uses output s before open_calls refused t actions pieces own →
      Works uses output s before open_calls refused t actions (pieces ++ got []) own
  works_none h = subst (λ (l : List Piece). Works uses output s before open_calls refused t actions l own) (sym (append-nil pieces)) h

  -- nothing came
  pub reads_none : (is_ended : Bool) → Works uses output s before open_calls refused t actions pieces own →
      (is_ended ≡ true) ⊎ HasRisen from.reads to.reads ⊎ (MUCH ≤ length (output before)) → ReadsSo before [] is_ended is_ended false
  reads_none is_ended h why = record {
    trace = t;
    works = works_none h;
    same = λ e. (refl, refl);
    grows = grows_refl t;
    moved = (λ e. false_true e, λ x. nothing_moved [] is_ended refl x);
    why = inr why;
  }

  -- the end came
  pub reads_end : (was_ended : Bool) → was_ended ≡ false → Works uses output s before open_calls refused t actions pieces own →
      ReadsSo before [] was_ended true true
  reads_end was_ended not_yet h = record {
    trace = t;
    works = works_none h;
    same = λ e. (refl, refl);
    grows = grows_refl t;
    moved = (λ e. inr (not_yet, refl), λ x. refl);
    why = inr (inl refl);
  }

  -- a piece came
  pub reads_some : (calls : K) (bytes : List ℕ) (was_ended is_ended : Bool) (result : Result Bool Cause) → 0 < length bytes →
      IfOk result (λ moved. (moved ≡ true)
      × Works uses output s calls open_calls refused (changed (fed_more bytes) t) actions (pieces ++ received bytes ∷ []) own)
      × IfErr result (λ cause. EndsBy s t (output calls) open_calls refused (past_of (pieces ++ received bytes ∷ []) own is_ended) cause) →
      IfOk result (λ moved. ReadsSo calls bytes was_ended is_ended moved)
      × IfErr result (λ cause. EndsBy s t (output calls) open_calls refused (past_of (pieces ++ got bytes) own is_ended) cause)
  reads_some calls bytes was_ended is_ended (Ok moved) some (fed, none) = (
    record {
      trace = changed (fed_more bytes) t;
      works = subst (λ (l : List Piece). Works uses output s calls open_calls refused (changed (fed_more bytes) t) actions (pieces ++ l) own)
          (got_some bytes some) fed.1;
      same = λ e. some_bytes bytes some e;
      grows = grows_fed t bytes;
      moved = (λ e. inl some, λ x. fed.0);
      why = inl some;
    },
    tt,
  )
  reads_some calls bytes was_ended is_ended (Err cause) some (none, ends) = (
    tt,
    subst (λ (l : List Piece). EndsBy s t (output calls) open_calls refused (past_of (pieces ++ l) own is_ended) cause) (got_some bytes some) ends,
  )

module _ {K : Type 0} (uses : K → CallTrace → Type 0) (output : K → List ℕ) (s : Setting) (calls : K) (open_calls : OpenCallsView) (refused : ℕ)
    (t : CallTrace) (actions : List Action) (pieces : List Piece) (own : List Event) where
  pub read_fails : (rest : List ℕ) (is_ended : Bool) → Works uses output s calls open_calls refused t actions pieces own → IsSettled t rest →
      MayEnd s t (output calls) open_calls refused (past_of (pieces ++ got []) own is_ended) over.ReadFault
  read_fails rest is_ended h settled =
      subst (λ (l : List Piece). MayEnd s t (output calls) open_calls refused (past_of l own is_ended) over.ReadFault) (sym (append-nil pieces))
      (read_fault uses output s calls open_calls refused t actions pieces own h rest settled is_ended)

-- ---- faults

-- a piece that is fed is no fault
pub fed_faults : (result : Result Bool Cause) (first now : ℕ) → IfErr result (λ cause. is_fault_by cause ≡ false) → first ≤ now → now ≡ first →
    HasCause first now (IsFaultBy result) × StaysUnless first now (IsFaultBy result)
fed_faults (Ok moved) first now quiet later same = (record { later = later; rose = λ f. absurd f }, inr same)
fed_faults (Err cause) first now quiet later same = (record { later = later; rose = λ f. true_false (sym f ∙ quiet) }, inr same)
