-- What a client's link gives and takes is told.
use Rattle.std.proofs.Common.{◌≡◌, ◌⊎◌, ◌↔◌, ℕ, zero, suc, ◌+◌, ◌<◌, Bool, true, false, length, map, List, [], ◌∷◌, ◌++◌, Option, Some, None, refl, sym, ap, subst, ◌∙◌, inl, inr, arith, append_assoc, append-nil}
use Rattle.std.specs.Prelude.{◌||◌}
use Rattle.std.proofs.lemmas.List.Concat.{flat_map-append}
use Rattle.rig_io.specs.Link as link
use Rattle.rig_io.specs.Link.{Piece, sent}
use Rattle.schema_numbers.specs.Numbers.{Numbers}
use Rattle.h2_exchange.specs.declared.role.Role.TheVariants.{Client}
use Rattle.h2_exchange.specs.Order.{received_bytes, sent_bytes}
use Rattle.http_connection.specs.ConnectionTrace.{ConnectionTrace, dropped_more, fed_more}
use Rattle.grpc_stream.specs.CallTrace.{CallTrace, changed}
use Rattle.grpc_stream.specs.Sends.{Pumps}
use Rattle.line_verdicts.specs.declared.tally.Tally.{Tally}
use Rattle.compliance_client.specs.declared.over.ClientOver.{ClientOver}
use Rattle.compliance_client.specs.declared.over.ClientOver.TheVariants as over
use Rattle.compliance_client.specs.Deeds.{CallView}
use Rattle.compliance_client.specs.Standing.{Past, StandsAs, Starves, Works}
use Rattle.compliance_client.specs.Turns.{IsCauseOf, Puts, Turned, got, moved_in}
use Rattle.compliance_client.proofs.NextAnswer.{Quiet}
use Rattle.compliance_client.proofs.Putting.{bytes_of, got_bytes, got_unsent, put_nothing_in}
use Rattle.compliance_client.proofs.Working.{works_quiet}

pub received_more : (ps qs : List Piece) → received_bytes (ps ++ qs) ≡ received_bytes ps ++ received_bytes qs
received_more ps qs = flat_map-append link.received_bytes ps qs

pub sent_more : (ps qs : List Piece) → sent_bytes (ps ++ qs) ≡ sent_bytes ps ++ sent_bytes qs
sent_more ps qs = flat_map-append link.sent_bytes ps qs

none_more : (xs ys all : List ℕ) → all ≡ xs ++ ys → ys ≡ [] → all ≡ xs
none_more xs ys all e none = e ∙ ap (λ l. xs ++ l) none ∙ append-nil xs

module _ {K : Type 0} (uses : K → CallTrace → Type 0) (n : Numbers) where
  abbrev pub behind : Past → CallTrace → List Piece → Past
  behind past u more = record { trace = u; deeds = past.deeds; pieces = past.pieces ++ more }

  abbrev pub turned_of : (why : Option ClientOver) (calls : K) (kept : List CallView) (tally : Tally) (past : Past) (u : CallTrace) (more : List Piece) →
      StandsAs uses n why calls kept tally (behind past u more) → IsCauseOf why u → Turned uses n why calls kept tally past more
  turned_of why calls kept tally past u more stands cause = record { trace = u; heard = []; only = tt; stands = stands; cause = cause }

  -- nothing came of a link that was read
  pub works_still : (calls : K) (kept : List CallView) (tally : Tally) (past : Past) → Works uses n calls kept tally past →
      Works uses n calls kept tally (behind past past.trace [])
  works_still calls kept tally past h =
      subst (λ ps. Works uses n calls kept tally (record { trace = past.trace; deeds = past.deeds; pieces = ps })) (sym (append-nil past.pieces)) h

  -- a piece was read for which there was no memory
  pub starved_got : (calls later : K) (kept : List CallView) (tally : Tally) (past : Past) (more : List Piece) → Works uses n calls kept tally past →
      uses later past.trace → sent_bytes more ≡ [] → Starves uses n later (behind past past.trace more)
  starved_got calls later kept tally past more h used none = record {
    used = used;
    role = h.role;
    numbers = h.numbers;
    taken = ([], sym h.taken ∙ sym (append-nil past.trace.taken));
    begun = h.begun;
    resets = h.resets;
    own = h.own;
    fed = (received_bytes more, received_more past.pieces more ∙ ap (λ l. l ++ received_bytes more) (sym h.fed));
    dropped = h.dropped ∙ sym (none_more (sent_bytes past.pieces) (sent_bytes more) (sent_bytes (past.pieces ++ more)) (sent_more past.pieces more) none);
  }

  pub works_fed : (calls later : K) (kept : List CallView) (tally : Tally) (past : Past) (piece : List ℕ) → Works uses n calls kept tally past →
      uses later (changed (fed_more piece) past.trace) →
      Works uses n later kept tally (behind past (changed (fed_more piece) past.trace) (link.received piece ∷ []))
  works_fed calls later kept tally past piece h used = record {
    used = used;
    role = h.role;
    numbers = h.numbers;
    kept_are = h.kept_are;
    tally_is = h.tally_is;
    told = h.told;
    taken = h.taken;
    begun = h.begun;
    resets = h.resets;
    own = h.own;
    fed = ap (λ l. l ++ piece) h.fed ∙ sym (received_more past.pieces (link.received piece ∷ []) ∙ ap (λ l. received_bytes past.pieces ++ l) (append-nil piece));
    dropped = h.dropped ∙ sym (none_more (sent_bytes past.pieces) [] (sent_bytes (past.pieces ++ link.received piece ∷ []))
        (sent_more past.pieces (link.received piece ∷ [])) refl);
  }

  -- ---- pumping

  pumps_quiet : (t u : CallTrace) → Pumps t u → Quiet t u
  pumps_quiet t u h = record {
    after = h.goes_on ∙ ap (λ (c : ConnectionTrace). record t { connection_trace = c }) (sym (ap (λ (x : CallTrace). x.connection_trace) h.goes_on));
    went = record {
      role = ap (λ (x : CallTrace). x.connection_trace.role) h.goes_on;
      fed = ap (λ (x : CallTrace). x.connection_trace.fed) h.goes_on;
      dropped = ap (λ (x : CallTrace). x.connection_trace.dropped) h.goes_on;
    };
  }

  pub works_pumped : (calls later : K) (kept : List CallView) (tally : Tally) (past : Past) (u : CallTrace) → Works uses n calls kept tally past →
      uses later u → Pumps past.trace u → Works uses n later kept tally (behind past u [])
  works_pumped calls later kept tally past u h used pumps =
      subst (λ ps. Works uses n later kept tally (record { trace = u; deeds = past.deeds; pieces = ps })) (sym (append-nil past.pieces))
      (works_quiet uses n calls later kept tally past u h used (pumps_quiet past.trace u pumps))

  -- ---- writing

  pub works_put : (calls later : K) (kept : List CallView) (tally : Tally) (past : Past) (more : List Piece) → Works uses n calls kept tally past →
      received_bytes more ≡ [] → uses later (changed (dropped_more (sent_bytes more)) past.trace) →
      Works uses n later kept tally (behind past (changed (dropped_more (sent_bytes more)) past.trace) more)
  works_put calls later kept tally past more h none used = record {
    used = used;
    role = h.role;
    numbers = h.numbers;
    kept_are = h.kept_are;
    tally_is = h.tally_is;
    told = h.told;
    taken = h.taken;
    begun = h.begun;
    resets = h.resets;
    own = h.own;
    fed = h.fed ∙ sym (none_more (received_bytes past.pieces) (received_bytes more) (received_bytes (past.pieces ++ more)) (received_more past.pieces more) none);
    dropped = ap (λ l. l ++ sent_bytes more) h.dropped ∙ sym (sent_more past.pieces more);
  }

  starves_put : (calls later : K) (past : Past) (more : List Piece) → Starves uses n calls past → received_bytes more ≡ [] →
      uses later (changed (dropped_more (sent_bytes more)) past.trace) → Starves uses n later (behind past (changed (dropped_more (sent_bytes more)) past.trace) more)
  starves_put calls later past more h none used = record {
    used = used;
    role = h.role;
    numbers = h.numbers;
    taken = h.taken;
    begun = h.begun;
    resets = h.resets;
    own = h.own;
    fed = (h.fed.0, none_more (received_bytes past.pieces) (received_bytes more) (received_bytes (past.pieces ++ more)) (received_more past.pieces more) none ∙ h.fed.1);
    dropped = ap (λ l. l ++ sent_bytes more) h.dropped ∙ sym (sent_more past.pieces more);
  }

  stands_used : (why : Option ClientOver) (calls : K) (kept : List CallView) (tally : Tally) (past : Past) → StandsAs uses n why calls kept tally past →
      uses calls past.trace
  stands_used None calls kept tally past h = h.used
  stands_used (Some over.ReadFault) calls kept tally past h = h.used
  stands_used (Some over.WriteFault) calls kept tally past h = h.used
  stands_used (Some over.Ended) calls kept tally past h = h.used
  stands_used (Some (over.Protocol why place)) calls kept tally past h = h.used
  stands_used (Some (over.Calm cause)) calls kept tally past h = h.used
  stands_used (Some over.NoMemory) calls kept tally past h = h.used

  pub stands_client : (why : Option ClientOver) (calls : K) (kept : List CallView) (tally : Tally) (past : Past) → StandsAs uses n why calls kept tally past →
      (t : CallTrace) × uses calls t × (t.connection_trace.role ≡ Client)
  stands_client None calls kept tally past h = (past.trace, h.used, h.role)
  stands_client (Some over.ReadFault) calls kept tally past h = (past.trace, h.used, h.role)
  stands_client (Some over.WriteFault) calls kept tally past h = (past.trace, h.used, h.role)
  stands_client (Some over.Ended) calls kept tally past h = (past.trace, h.used, h.role)
  stands_client (Some (over.Protocol why place)) calls kept tally past h = (past.trace, h.used, h.role)
  stands_client (Some (over.Calm cause)) calls kept tally past h = (past.trace, h.used, h.role)
  stands_client (Some over.NoMemory) calls kept tally past h = (past.trace, h.used, h.role)

  stands_put : (why : Option ClientOver) (calls later : K) (kept : List CallView) (tally : Tally) (past : Past) (more : List Piece) →
      StandsAs uses n why calls kept tally past → received_bytes more ≡ [] → uses later (changed (dropped_more (sent_bytes more)) past.trace) →
      StandsAs uses n why later kept tally (behind past (changed (dropped_more (sent_bytes more)) past.trace) more)
  stands_put None calls later kept tally past more h none used = works_put calls later kept tally past more h none used
  stands_put (Some over.ReadFault) calls later kept tally past more h none used = works_put calls later kept tally past more h none used
  stands_put (Some over.WriteFault) calls later kept tally past more h none used = works_put calls later kept tally past more h none used
  stands_put (Some over.Ended) calls later kept tally past more h none used = works_put calls later kept tally past more h none used
  stands_put (Some (over.Protocol why place)) calls later kept tally past more h none used = works_put calls later kept tally past more h none used
  stands_put (Some (over.Calm cause)) calls later kept tally past more h none used = works_put calls later kept tally past more h none used
  stands_put (Some over.NoMemory) calls later kept tally past more h none used = starves_put calls later past more h none used

  cause_put : (why : Option ClientOver) (t : CallTrace) (bytes : List ℕ) → IsCauseOf why t → IsCauseOf why (changed (dropped_more bytes) t)
  cause_put None t bytes h = tt
  cause_put (Some over.ReadFault) t bytes h = tt
  cause_put (Some over.WriteFault) t bytes h = tt
  cause_put (Some over.Ended) t bytes h = tt
  cause_put (Some over.NoMemory) t bytes h = tt
  cause_put (Some (over.Protocol why place)) t bytes (inl (c, d, stops, same)) =
      inl (c, d, stops, ap (λ (x : ConnectionTrace). record x { dropped = t.connection_trace.dropped ++ bytes }) same)
  cause_put (Some (over.Protocol why place)) t bytes (inr refused) = inr refused
  cause_put (Some (over.Calm cause)) t bytes (inl (c, d, stops, same)) =
      inl (c, d, stops, ap (λ (x : ConnectionTrace). record x { dropped = t.connection_trace.dropped ++ bytes }) same)
  cause_put (Some (over.Calm cause)) t bytes (inr refused) = inr refused

  -- a failed write changes nothing
  abbrev pub fails : (calls : K) (kept : List CallView) (tally : Tally) (past : Past) (more : List Piece) → Turned uses n None calls kept tally past more →
      Turned uses n (Some over.WriteFault) calls kept tally past more
  fails calls kept tally past more h = record { trace = h.trace; heard = h.heard; only = h.only; stands = h.stands; cause = tt }

  pub turned_put : (why : Option ClientOver) (output : K → List ℕ) (calls later : K) (kept : List CallView) (tally : Tally) (past : Past) (more : List Piece)
      (told now : Option (List Piece)) (texts : List (List ℕ)) → Turned uses n why calls kept tally past more → Puts uses output calls later told now texts →
      Turned uses n why later kept tally past (more ++ map sent texts)
  turned_put why output calls later kept tally past more told now texts h puts = record {
    trace = changed (dropped_more (sent_bytes (map sent texts))) h.trace;
    heard = h.heard;
    only = h.only;
    stands =
        subst (λ ps. StandsAs uses n why later kept tally (record { trace = changed (dropped_more (sent_bytes (map sent texts))) h.trace; deeds = h.heard ++ past.deeds; pieces = ps }))
        (append_assoc past.pieces more (map sent texts))
        (stands_put why calls later kept tally (record { trace = h.trace; deeds = h.heard ++ past.deeds; pieces = past.pieces ++ more }) (map sent texts) h.stands
        (put_nothing_in texts) (puts.carries h.trace (stands_used why calls kept tally (record { trace = h.trace; deeds = h.heard ++ past.deeds; pieces = past.pieces ++ more }) h.stands)));
    cause = cause_put why h.trace (sent_bytes (map sent texts)) h.cause;
  }

-- ---- what moved

pub any_moves : {P : Type 0} (a b r : Bool) → r ≡ (a || b) → (b ≡ true ↔ P) → (r ≡ true ↔ ((a ≡ true) ⊎ P))
any_moves {P = P} true b r e h = (λ f. inl refl, λ f. e)
any_moves {P = P} false b r e h = (λ f. inr (h.0 (sym e ∙ f)), λ f. by_cases f)
  where
    by_cases : ((false ≡ true) ⊎ P) → r ≡ true
    by_cases (inl f) = absurd cc
    by_cases (inr p) = e ∙ h.1 p

pub idle_moves : (b : Bool) (m : ℕ) → b ≡ false → (b ≡ true ↔ 0 < m) → m ≡ 0
idle_moves b zero e h = refl
idle_moves b (suc m) e h = absurd (never b e (h.1 (omega arith)))
  where
    never : (b : Bool) → b ≡ false → b ≡ true → ⊥
    never true e f = cc
    never false e f = cc

pub moved_then : (bytes : List ℕ) (texts : List (List ℕ)) →
    moved_in (got bytes ++ map sent texts) ≡ length bytes + length (bytes_of texts)
moved_then bytes texts =
    let a : received_bytes (got bytes ++ map sent texts) ≡ bytes =
    none_more (received_bytes (got bytes)) (received_bytes (map sent texts)) (received_bytes (got bytes ++ map sent texts))
    (received_more (got bytes) (map sent texts)) (put_nothing_in texts) ∙ got_bytes bytes in
    let b : sent_bytes (got bytes ++ map sent texts) ≡ bytes_of texts =
    sent_more (got bytes) (map sent texts) ∙ ap (λ l. l ++ bytes_of texts) (got_unsent bytes) in
    ap (λ l. length l + length (sent_bytes (got bytes ++ map sent texts))) a ∙ ap (λ l. length bytes + length l) b

pub go_moves : (bytes : List ℕ) (texts : List (List ℕ)) (has_read moved : Bool) → (has_read ≡ true ↔ 0 < length bytes) →
    (moved ≡ true ↔ ((has_read ≡ true) ⊎ (0 < length (bytes_of texts)))) → (moved ≡ true ↔ 0 < moved_in (got bytes ++ map sent texts))
go_moves bytes texts has_read moved h k = (λ e. forth (k.0 e), λ some. k.1 (back some))
  where
    sum : moved_in (got bytes ++ map sent texts) ≡ length bytes + length (bytes_of texts)
    sum = moved_then bytes texts

    forth : ((has_read ≡ true) ⊎ (0 < length (bytes_of texts))) → 0 < moved_in (got bytes ++ map sent texts)
    forth (inl e) = (let a = h.0 e in let b = sum in omega (arith, a, b))
    forth (inr some) = (let b = sum in omega (arith, some, b))

    split : (m : ℕ) → m ≡ length bytes → 0 < m + length (bytes_of texts) → (has_read ≡ true) ⊎ (0 < length (bytes_of texts))
    split zero e some = inr (omega (arith, some))
    split (suc m) e some = inl (h.1 (omega (arith, e)))

    back : 0 < moved_in (got bytes ++ map sent texts) → (has_read ≡ true) ⊎ (0 < length (bytes_of texts))
    back some = (let b = sum in split (length bytes) refl (omega (arith, some, b)))
