-- What the parts of a turn come to, one behind another.
use Rattle.std.proofs.Common.{◌≡◌, ◌⊎◌, ◌↔◌, ℕ, ◌+◌, ◌-◌, ◌^◌, ◌<◌, ◌≤◌, ◌==◌, ◌||◌, Bool, true, false, length, List, [], ◌∷◌, ◌++◌, Option, Some, None, inl, refl, sym, ap, ◌∙◌, subst, append_assoc, append-nil, arith, map}
use Rattle.std.specs.List.{flat_map}
use Rattle.std.specs.Option.{option_map}
use Rattle.std.proofs.lemmas.Grind.{flat_map-append}
use Rattle.rig_io.specs.Fault.{HasRisen}
use Rattle.rig_io.specs.Link as link
use Rattle.rig_io.specs.Link.{Piece}
use Rattle.h2_exchange.specs.Exchange.{Sent}
use Rattle.h2_exchange.specs.Order.{received_bytes, sent_bytes}
use Rattle.http_connection.specs.ConnectionTrace.{dropped_more, held, wrote}
use Rattle.grpc_stream.specs.CallTrace.{CallTrace, changed}
use Rattle.table_lock.specs.Passes.{IsSound, PassView}
use Rattle.table_lock.proofs.Extends.{extended_none}
use Rattle.rib_core.specs.Recorded.{IsLawful}
use Rattle.table_model.specs.declared.command.Command.{Command}
use Rattle.table_model.specs.declared.command.Config.{Config}
use Rattle.table_model.specs.declared.reply.Reply.{Reply}
use Rattle.table_model.specs.Event.{Event}
use Rattle.call_answers.specs.declared.orders.Setting.{Setting}
use Rattle.call_orders.specs.Calls.{Action}
use Rattle.session_engine.specs.Queries.{OpenCallsView}
use Rattle.server_turns.specs.Making.{Makes}
use Rattle.server_turns.specs.Past.{Past}
use Rattle.server_turns.specs.Turning.{Counts}
use Rattle.server_turns.proofs.Runs.{makes_then}
use Rattle.server_account.specs.Agreeing.{IsSettled}
use Rattle.server_conn.specs.declared.conn.Cause.{Cause}
use Rattle.server_conn.specs.Standing.{EndsBy, Works, is_spent_by, past_of}
use Rattle.server_conn.specs.Steps.{CollectsAll, Grows, HearsAll, Holds, Reads, Responds, StopsBy, Writes, got}
use Rattle.server_conn.specs.Turns.{TakesIn, TurnsLast}
use Rattle.server_conn.proofs.Grown.{ends_from, grows_then, prefix_more, prefix_refl}
use Rattle.server_conn.proofs.NextResponse.{settled_same}

-- ---- what a link told

pub told_none : (first : Option (List Piece)) → first ≡ option_map (λ told. told ++ []) first
told_none None = refl
told_none (Some told) = ap (λ (l : List Piece). (let o : Option (List Piece) = Some l in o)) (sym (append-nil told))

told_two : (first : Option (List Piece)) (xs ys : List Piece) →
    option_map (λ told. told ++ ys) (option_map (λ told. told ++ xs) first) ≡ option_map (λ told. told ++ (xs ++ ys)) first
told_two None xs ys = refl
told_two (Some told) xs ys = ap (λ (l : List Piece). (let o : Option (List Piece) = Some l in o)) (append_assoc told xs ys)

pub told_then : (first mid now : Option (List Piece)) (xs ys : List Piece) → mid ≡ option_map (λ told. told ++ xs) first →
    now ≡ option_map (λ told. told ++ ys) mid → now ≡ option_map (λ told. told ++ (xs ++ ys)) first
told_then first mid now xs ys h k = k ∙ (ap (λ (o : Option (List Piece)). option_map (λ told. told ++ ys) o) h ∙ told_two first xs ys)

pub got_bytes : (bytes : List ℕ) → flat_map link.received_bytes (got bytes) ≡ bytes
got_bytes [] = refl
got_bytes (b ∷ bytes) = append-nil (b ∷ bytes)

pub got_sends_none : (bytes : List ℕ) → flat_map link.sent_bytes (got bytes) ≡ []
got_sends_none [] = refl
got_sends_none (b ∷ bytes) = refl

pub size_got : (bytes : List ℕ) → length bytes ≤ 16384 → length (flat_map link.received_bytes (got bytes)) ≤ 16384
size_got bytes h = subst (λ (l : List ℕ). length l ≤ 16384) (sym (got_bytes bytes)) h

pub received_then : (pieces put : List Piece) → flat_map link.received_bytes put ≡ [] →
    flat_map link.received_bytes (pieces ++ put) ≡ flat_map link.received_bytes pieces
received_then pieces put nothing =
    flat_map-append link.received_bytes pieces put ∙ (ap (λ (l : List ℕ). flat_map link.received_bytes pieces ++ l) nothing ∙ append-nil
    (flat_map link.received_bytes pieces))

pub size_then : (pieces put : List Piece) → length (flat_map link.received_bytes pieces) ≤ 16384 → flat_map link.received_bytes put ≡ [] →
    length (flat_map link.received_bytes (pieces ++ put)) ≤ 16384
size_then pieces put h nothing = subst (λ (l : List ℕ). length l ≤ 16384) (sym (received_then pieces put nothing)) h

-- ---- a connection within a turn

module _ {K : Type 0} (uses : K → CallTrace → Type 0) (output : K → List ℕ) (s : Setting) (config : Config) (past : Past) (first : CallTrace)
    (p : PassView Command Reply Config) where
  -- So far into a turn that began with this trace: what the link told in it, and what entries were made.
  pub record SoFar (q : PassView Command Reply Config) (calls : K) (open_calls : OpenCallsView) (refused : ℕ) (t : CallTrace) (actions : List Action)
      (pieces : List Piece) (own : List Event) (rest : List ℕ) : Type 0 where
    pub grows : Grows first t
    pub made : Makes config false p q own
    pub works : Works uses output s calls open_calls refused t actions (past.pieces ++ pieces) (past.own ++ own)
    pub settled : IsSettled t rest

module _ {K : Type 0} (uses : K → CallTrace → Type 0) (output : K → List ℕ) (s : Setting) (config : Config) (past : Past) (first : CallTrace)
    (p : PassView Command Reply Config) where
  pub begins : (q : PassView Command Reply Config) (before calls : K) (open_calls : OpenCallsView) (refused : ℕ) (bytes : List ℕ)
      (was_ended is_ended moved : Bool)
      (reads now : ℕ) →
      (h : TakesIn uses output s config p q before calls open_calls refused first past.pieces past.own bytes was_ended is_ended moved reads now) →
      SoFar uses output s config past first p q calls open_calls refused h.heard.goes.trace h.heard.goes.actions (got bytes) h.heard.goes.did h.heard.rest
  begins q before calls open_calls refused bytes was_ended is_ended moved reads now h = record {
    grows = h.heard.goes.grows;
    made = h.heard.goes.made;
    works = h.heard.goes.works;
    settled = h.heard.settled;
  }

  module _ (q : PassView Command Reply Config) (calls : K) (open_calls : OpenCallsView) (refused : ℕ) (t : CallTrace) (actions : List Action)
      (pieces : List Piece) (own : List Event) (rest : List ℕ) (so_far : SoFar uses output s config past first p q calls open_calls refused t actions
      pieces own rest) where
    abbrev Works' : K → OpenCallsView → ℕ → CallTrace → List Action → List Piece → List Event → Type 0
    Works' = Works uses output s

    pub gathers : (r : PassView Command Reply Config) (now : K) (open_now : OpenCallsView) (refused_now : ℕ) (moved : Bool) →
        (h : CollectsAll uses output s config q r now open_calls open_now refused_now t (past.pieces ++ pieces) (past.own ++ own) moved) →
        SoFar uses output s config past first p r now open_now refused_now h.goes.trace h.goes.actions pieces (own ++ h.goes.did) rest
    gathers r now open_now refused_now moved h = record {
      grows = grows_then first t h.goes.trace so_far.grows h.goes.grows;
      made = makes_then config false p q r own h.goes.did so_far.made h.goes.made;
      works = subst (λ (l : List Event). Works' now open_now refused_now h.goes.trace h.goes.actions (past.pieces ++ pieces) l)
          (append_assoc past.own own h.goes.did) h.goes.works;
      settled = settled_same t h.goes.trace h.connection rest h.reported (h.goes.works.agrees.server.numbers ∙ sym
          so_far.works.agrees.server.numbers) so_far.settled;
    }

    pub responds : (now : K) (open_now : OpenCallsView) (refused_now waiting : ℕ) →
        (h : Responds uses output s now open_calls open_now refused_now waiting t (past.pieces ++ pieces) (past.own ++ own) rest) →
        SoFar uses output s config past first p q now open_now refused_now h.trace h.actions pieces own rest
    responds now open_now refused_now waiting h = record {
      grows = grows_then first t h.trace so_far.grows h.grows;
      made = so_far.made;
      works = h.works;
      settled = h.settled;
    }

    pub holds : (now : K) (open_now : OpenCallsView) (refused_now : ℕ) (hold : Bool) →
        (h : Holds uses output s now open_now refused_now hold t actions (past.pieces ++ pieces) (past.own ++ own) rest) →
        SoFar uses output s config past first p q now open_now refused_now (changed (λ c. held hold (wrote h.credit [] c)) t) actions pieces own rest
    holds now open_now refused_now hold h = record {
      grows = grows_then first t (changed (λ c. held hold (wrote h.credit [] c)) t) so_far.grows (record {
        limits = refl;
        heads = prefix_refl t.connection_trace.heads;
        frames = prefix_more t.connection_trace.frames (map Sent h.credit);
      });
      made = so_far.made;
      works = h.works;
      settled = h.settled;
    }

    pub puts : (now : K) (open_now : OpenCallsView) (refused_now : ℕ) (put : List Piece) (moved : Bool) (from to : ℕ) →
        (h : Writes uses output s calls now open_now refused_now t actions (past.pieces ++ pieces) put (past.own ++ own) rest moved from to) →
        SoFar uses output s config past first p q now open_now refused_now (changed (dropped_more h.bytes) t) actions (pieces ++ put) own rest
    puts now open_now refused_now put moved from to h = record {
      grows = grows_then first t (changed (dropped_more h.bytes) t) so_far.grows (record {
        limits = refl;
        heads = prefix_refl t.connection_trace.heads;
        frames = prefix_refl t.connection_trace.frames;
      });
      made = so_far.made;
      works = subst (λ (l : List Piece). Works' now open_now refused_now (changed (dropped_more h.bytes) t) actions l (past.own ++ own))
          (append_assoc past.pieces pieces put) h.works;
      settled = h.settled;
    }

    -- ---- the last turn

    module _ (is_ended : Bool) (from to : Counts) (size : length (flat_map link.received_bytes pieces) ≤ 16384)
        (ends : (is_ended ≡ true → (past.is_ended ≡ true) ⊎ HasRisen from.ends to.ends) ×
        ((past.is_ended ≡ true) ⊎ (from.ends < to.ends) → is_ended ≡ true)) where
      pub last_quiet : (now : K) (open_now : OpenCallsView) (refused_now : ℕ) (cause : Cause) → is_spent_by cause ≡ false →
          EndsBy s t (output now) open_now refused_now (past_of (past.pieces ++ pieces) (past.own ++ own) is_ended) cause →
          TurnsLast uses output s config p q first now open_now refused_now is_ended past
          (record { pieces = pieces; own = own; is_ended = is_ended }) cause from to
      last_quiet now open_now refused_now cause quiet h = record {
        made = subst (λ (b : Bool). Makes config b p q own) (sym quiet) so_far.made;
        ends = ends_from s first t so_far.grows (output now) open_now refused_now (past_of (past.pieces ++ pieces) (past.own ++ own) is_ended) cause h;
        ended = refl;
        size = size;
        given = ends.0;
        told = ends.1;
      }

      pub last_made : (r : PassView Command Reply Config) (now : K) (open_now : OpenCallsView) (refused_now : ℕ) (cause : Cause) →
          (h : StopsBy uses output s config q r now open_now refused_now t (past.pieces ++ pieces) (past.own ++ own) is_ended cause) →
          TurnsLast uses output s config p r first now open_now refused_now is_ended past
          (record { pieces = pieces; own = own ++ h.did; is_ended = is_ended }) cause from to
      last_made r now open_now refused_now cause h = record {
        made = makes_then config (is_spent_by cause) p q r own h.did so_far.made h.made;
        ends = subst (λ (l : List Event). EndsBy s first (output now) open_now refused_now (past_of (past.pieces ++ pieces) l is_ended) cause)
            (append_assoc past.own own h.did) (ends_from s first t so_far.grows (output now) open_now refused_now
            (past_of (past.pieces ++ pieces) ((past.own ++ own) ++ h.did) is_ended) cause h.ends);
        ended = refl;
        size = size;
        given = ends.0;
        told = ends.1;
      }

      pub last_written : (now : K) (open_now : OpenCallsView) (refused_now : ℕ) (put : List Piece) (cause : Cause) → is_spent_by cause ≡ false →
          flat_map link.received_bytes put ≡ [] →
          EndsBy s t (output now) open_now refused_now (past_of ((past.pieces ++ pieces) ++ put) (past.own ++ own) is_ended) cause →
          TurnsLast uses output s config p q first now open_now refused_now is_ended past
          (record { pieces = pieces ++ put; own = own; is_ended = is_ended }) cause from to
      last_written now open_now refused_now put cause quiet nothing h = record {
        made = subst (λ (b : Bool). Makes config b p q own) (sym quiet) so_far.made;
        ends = subst (λ (l : List Piece). EndsBy s first (output now) open_now refused_now (past_of l (past.own ++ own) is_ended) cause)
            (append_assoc past.pieces pieces put) (ends_from s first t so_far.grows (output now) open_now refused_now
            (past_of ((past.pieces ++ pieces) ++ put) (past.own ++ own) is_ended) cause h);
        ended = refl;
        size = size_then pieces put size nothing;
        given = ends.0;
        told = ends.1;
      }

  pub last_first : (q : PassView Command Reply Config) (now : K) (open_now : OpenCallsView) (refused_now : ℕ) (bytes : List ℕ) (is_ended : Bool)
      (from to : Counts)
      (cause : Cause) → length bytes ≤ 16384 →
      (is_ended ≡ true → (past.is_ended ≡ true) ⊎ HasRisen from.ends to.ends) × ((past.is_ended ≡ true) ⊎ (from.ends < to.ends) → is_ended ≡ true) →
      (h : StopsBy uses output s config p q now open_now refused_now first (past.pieces ++ got bytes) past.own is_ended cause) →
      TurnsLast uses output s config p q first now open_now refused_now is_ended past
      (record { pieces = got bytes; own = h.did; is_ended = is_ended }) cause from to
  last_first q now open_now refused_now bytes is_ended from to cause size ends h = record {
    made = h.made;
    ends = h.ends;
    ended = refl;
    size = size_got bytes size;
    given = ends.0;
    told = ends.1;
  }

-- ---- reading and hearing

pub none_of : (bytes : List ℕ) (moved : Bool) → moved ≡ false → (0 < length bytes → moved ≡ true) → bytes ≡ []
none_of [] moved e h = refl
none_of (b ∷ bytes) moved e h = absurd (true_not_false (sym (h (omega arith)) ∙ e))
  where
    true_not_false : true ≡ false → ⊥
    true_not_false f = cc

module _ {K : Type 0} (uses : K → CallTrace → Type 0) (output : K → List ℕ) (s : Setting) (config : Config) where
  pub heard_from : (p q : PassView Command Reply Config) (calls : K) (open_calls : OpenCallsView) (refused : ℕ) (t u : CallTrace) (pieces : List Piece)
      (own : List Event) → Grows t u → HearsAll uses output s config p q calls open_calls refused u pieces own →
      HearsAll uses output s config p q calls open_calls refused t pieces own
  heard_from p q calls open_calls refused t u pieces own grows h = record {
    goes = record {
      trace = h.goes.trace;
      grows = grows_then t u h.goes.trace grows h.goes.grows;
      actions = h.goes.actions;
      did = h.goes.did;
      made = h.goes.made;
      works = h.goes.works;
    };
    rest = h.rest;
    settled = h.settled;
  }

  pub stops_none : (p : PassView Command Reply Config) (calls : K) (open_calls : OpenCallsView) (refused : ℕ) (t : CallTrace) (pieces : List Piece)
      (own : List Event) (is_ended : Bool) (cause : Cause) → IsSound IsLawful config p → is_spent_by cause ≡ false →
      EndsBy s t (output calls) open_calls refused (past_of pieces own is_ended) cause →
      StopsBy uses output s config p p calls open_calls refused t pieces own is_ended cause
  stops_none p calls open_calls refused t pieces own is_ended cause sound quiet h = record {
    did = [];
    made = subst (λ (b : Bool). Makes config b p p []) (sym quiet) (extended_none IsLawful config p sound);
    ends = subst (λ (l : List Event). EndsBy s t (output calls) open_calls refused (past_of pieces l is_ended) cause) (sym (append-nil own)) h;
  }

  pub nothing_read : (p : PassView Command Reply Config) (before calls : K) (open_calls : OpenCallsView) (refused : ℕ) (t : CallTrace) (actions : List Action)
      (pieces : List Piece) (own : List Event) (bytes : List ℕ) (was_ended is_ended moved : Bool) (from to : Counts) (rest : List ℕ) → moved ≡ false →
      IsSound IsLawful config p → IsSettled t rest →
      Reads uses output s before calls open_calls refused t actions pieces own bytes was_ended is_ended moved from to →
      TakesIn uses output s config p p before calls open_calls refused t pieces own bytes was_ended is_ended false from.reads to.reads
  nothing_read p before calls open_calls refused t actions pieces own bytes was_ended is_ended moved from to rest still sound settled r = record {
    heard = record {
      goes = record {
        trace = r.trace;
        grows = r.grows;
        actions = actions;
        did = [];
        made = extended_none IsLawful config p sound;
        works = subst (λ (l : List Event). Works uses output s calls open_calls refused r.trace actions (pieces ++ got bytes) l) (sym (append-nil own)) r.works;
      };
      rest = rest;
      settled = subst (λ (u : CallTrace). IsSettled u rest) (sym (r.same (none_of bytes moved still (λ some. r.moved.1 (inl some)))).0) settled;
    };
    moved = subst (λ (b : Bool). (b ≡ true) ↔ ((0 < length bytes) ⊎ ((was_ended ≡ false) × (is_ended ≡ true)))) still r.moved;
    still = λ _. refl;
    why = r.why;
  }

  pub all_heard : (p q : PassView Command Reply Config) (before fed calls : K) (open_fed open_calls : OpenCallsView) (refused_fed refused : ℕ) (t : CallTrace)
      (actions : List Action) (pieces : List Piece) (own : List Event) (bytes : List ℕ) (was_ended fed_ended is_ended moved : Bool) (from to : Counts) →
      moved ≡ true → is_ended ≡ fed_ended →
      (r : Reads uses output s before fed open_fed refused_fed t actions pieces own bytes was_ended fed_ended moved from to) →
      HearsAll uses output s config p q calls open_calls refused r.trace (pieces ++ got bytes) own →
      TakesIn uses output s config p q before calls open_calls refused t pieces own bytes was_ended is_ended true from.reads to.reads
  all_heard p q before fed calls open_fed open_calls refused_fed refused t actions pieces own bytes was_ended fed_ended is_ended moved from to got_on
      same r h = record {
        heard = heard_from p q calls open_calls refused t r.trace (pieces ++ got bytes) own r.grows h;
        moved = subst (λ (b : Bool). (true ≡ true) ↔ ((0 < length bytes) ⊎ ((was_ended ≡ false) × (b ≡ true)))) (sym same)
            (subst (λ (b : Bool). (b ≡ true) ↔ ((0 < length bytes) ⊎ ((was_ended ≡ false) × (fed_ended ≡ true)))) got_on r.moved);
        still = λ f. absurd (cc);
        why = subst (λ (b : Bool). (0 < length bytes) ⊎ (b ≡ true) ⊎ HasRisen from.reads to.reads ⊎ (1048576 ≤ length (output before))) (sym same) r.why;
      }
