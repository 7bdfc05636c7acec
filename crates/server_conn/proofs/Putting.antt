-- What is written of the output, piece by piece.
use Rattle.std.proofs.Common.{◌≡◌, ◌⊎◌, ◌↔◌, inl, inr, ℕ, ◌+◌, ◌<◌, ◌≤◌, Bool, true, false, length, map, take, drop, List, [], ◌∷◌, ◌++◌, Option, refl, sym, ap, subst, ◌∙◌, arith, append_assoc, append-nil, length-append}
use Rattle.std.specs.List.{flat_map}
use Rattle.std.specs.Option.{option_map}
use Rattle.std.proofs.lemmas.List.{map-append, take-append-drop, length-take}
use Rattle.std.proofs.lemmas.List.Concat.{flat_map-append}
use Rattle.std.proofs.lemmas.List.Sums.{sum_by-cons}
use Rattle.rig_io.specs.Fault.{HasCause, HasRisen, StaysUnless}
use Rattle.rig_io.specs.Link.{Piece, received_bytes, sent, sent_bytes}
use Rattle.h2_exchange.specs.declared.role.Role.TheVariants.{Server}
use Rattle.h2_exchange.specs.Exchange.{Step, received}
use Rattle.h2_exchange.specs.Order.{InOrder, end_of, peer_preface}
use Rattle.h2_exchange.proofs.Ordering.{order_told}
use Rattle.http_connection.specs.ConnectionTrace.{dropped_more}
use Rattle.grpc_stream.specs.CallTrace.{CallTrace, Carries, IsSoundCallTrace, changed}
use Rattle.table_model.specs.Event.{Event}
use Rattle.call_answers.specs.declared.orders.Setting.{Setting}
use Rattle.call_orders.specs.Calls.{Action}
use Rattle.session_engine.specs.Queries.{OpenCallsView}
use Rattle.server_turns.specs.declared.outcome.Outcome.{Outcome}
use Rattle.server_turns.specs.declared.outcome.Outcome.TheVariants as over
use Rattle.server_turns.specs.Turning.{written}
use Rattle.server_account.specs.Agreeing.{IsServer, IsSettled, IsTold, none_left}
use Rattle.server_account.proofs.Uses.{given_all, handled_writes, server_writes, settled_writes}
use Rattle.server_account.proofs.Writes.{writes_keep}
use Rattle.server_conn.specs.Standing.{KeptBy, MayEnd, Works, past_of}
use Rattle.server_conn.specs.Steps.{Grows, Puts, Writes}
use Rattle.server_conn.proofs.Grown.{may_end_from, prefix_refl}
use Rattle.server_conn.proofs.MayEnd.{write_fault}
use Rattle.server_conn.proofs.Turning.{received_then, told_none, told_then}

-- ---- counts that stand at first

pub rises_from : (first mid now : ℕ) (was is : Type 0) → mid ≡ first → (is → was) → HasCause mid now was → HasCause first now is
rises_from first mid now was is same back h = record {
  later = (let a = h.later in omega (arith, a, same));
  rose = λ x. subst (λ (n : ℕ). HasRisen n now) same (h.rose (back x));
}

pub stays_from : (first mid now : ℕ) (was is : Type 0) → mid ≡ first → (was → is) → StaysUnless mid now was → StaysUnless first now is
stays_from first mid now was is same on (inl x) = inl (on x)
stays_from first mid now was is same on (inr e) = inr (e ∙ same)

pub stays_still : (first mid now : ℕ) (was : Type 0) → mid ≡ first → (was → ⊥) → StaysUnless mid now was → now ≡ first
stays_still first mid now was same never (inl x) = absurd (never x)
stays_still first mid now was same never (inr e) = e ∙ same

-- ---- bytes

-- the bytes of pieces that were put
abbrev pub bytes_of : List (List ℕ) → List ℕ
bytes_of texts = flat_map sent_bytes (map sent texts)

pub bytes_more : (texts more : List (List ℕ)) → bytes_of (texts ++ more) ≡ bytes_of texts ++ bytes_of more
bytes_more texts more = ap (flat_map sent_bytes) (map-append sent texts more) ∙ flat_map-append sent_bytes (map sent texts) (map sent more)

pub put_nothing_in : (texts : List (List ℕ)) → flat_map received_bytes (map sent texts) ≡ []
put_nothing_in [] = refl
put_nothing_in (text ∷ texts) = put_nothing_in texts

pub size_put : (put : List Piece) → written put ≡ length (flat_map sent_bytes put)
size_put [] = refl
size_put (p ∷ ps) = sum_by-cons (λ (x : Piece). length (sent_bytes x)) p ps ∙ (ap (λ (n : ℕ). length (sent_bytes p) + n) (size_put ps)
    ∙ sym (length-append (sent_bytes p) (flat_map sent_bytes ps)))

-- ---- one piece behind others

module _ {K : Type 0} (uses : K → CallTrace → Type 0) (output : K → List ℕ) where
  drops_as : (calls : K) (t : CallTrace) (a b : List ℕ) → a ≡ b → uses calls (changed (dropped_more a) t) → uses calls (changed (dropped_more b) t)
  drops_as calls t a b e h = subst (λ (l : List ℕ). uses calls (changed (dropped_more l) t)) e h

  drops_none : (calls : K) (t : CallTrace) → uses calls t → uses calls (changed (dropped_more []) t)
  drops_none calls t h =
      subst (λ (l : List ℕ). uses calls (changed (λ c. record c { dropped = l }) t)) (sym (append-nil t.connection_trace.dropped)) h

  drops_two : (calls : K) (t : CallTrace) (a b : List ℕ) → uses calls (changed (dropped_more b) (changed (dropped_more a) t)) →
      uses calls (changed (dropped_more (a ++ b)) t)
  drops_two calls t a b h =
      subst (λ (l : List ℕ). uses calls (changed (λ c. record c { dropped = l }) t)) (append_assoc t.connection_trace.dropped a b) h

  pub puts_none : (calls : K) (told : Option (List Piece)) → Puts uses output calls calls told told []
  puts_none calls told = record {
    output_is = refl;
    carries = λ t h. drops_none calls t h;
    pieces = told_none told;
  }

  pub puts_more : (before mid calls : K) (told heard now : Option (List Piece)) (texts more : List (List ℕ)) → Puts uses output before mid told heard texts →
      Puts uses output mid calls heard now more → Puts uses output before calls told now (texts ++ more)
  puts_more before mid calls told heard now texts more h k = record {
    output_is = h.output_is ∙ (ap (λ (l : List ℕ). bytes_of texts ++ l) k.output_is ∙ (sym (append_assoc (bytes_of texts) (bytes_of more) (output calls))
        ∙ ap (λ (l : List ℕ). l ++ output calls) (sym (bytes_more texts more))));
    carries = λ t u. drops_as calls t (bytes_of texts ++ bytes_of more) (bytes_of (texts ++ more)) (sym (bytes_more texts more))
        (drops_two calls t (bytes_of texts) (bytes_of more) (k.carries (changed (dropped_more (bytes_of texts)) t) (h.carries t u)));
    pieces = told_then told heard now (map sent texts) (map sent more) h.pieces k.pieces
        ∙ ap (λ (l : List Piece). option_map (λ pieces. pieces ++ l) told) (sym (map-append sent texts more));
  }

  pub puts_same : (before mid calls : K) (told heard now : Option (List Piece)) (texts : List (List ℕ)) → calls ≡ mid → now ≡ heard →
      Puts uses output before mid told heard texts → Puts uses output before calls told now texts
  puts_same before mid calls told heard now texts e f h =
      subst (λ (k : K). Puts uses output before k told now texts) (sym e)
      (subst (λ (o : Option (List Piece)). Puts uses output before mid told o texts) (sym f) h)

  -- the first bytes of the output were put and dropped
  pub puts_one : (before calls : K) (told now : Option (List Piece)) (out : List ℕ) (n : ℕ) → out ≡ output before → (1 ≤ n) × (n ≤ length out) →
      Carries (uses before) (uses calls) (changed (dropped_more (take n (output before)))) → output calls ≡ drop n (output before) →
      now ≡ option_map (λ pieces. pieces ++ sent (take n out) ∷ []) told →
      (text : List ℕ) × (0 < length text) × Puts uses output before calls told now (text ∷ [])
  puts_one before calls told now out n same bound carries rest told_now = (
    take n out,
    omega (arith, bound.0, bound.1, length-take n out),
    record {
      output_is = sym (take-append-drop n (output before)) ∙ (ap (λ (l : List ℕ). l ++ drop n (output before)) whole
          ∙ ap (λ (l : List ℕ). (take n out ++ []) ++ l) (sym rest));
      carries = λ t h. drops_as calls t (take n (output before)) (take n out ++ []) whole (carries t h);
      pieces = told_now;
    },
  )
    where
      whole : take n (output before) ≡ take n out ++ []
      whole = ap (take n) (sym same) ∙ sym (append-nil (take n out))

pub put_some : (texts : List (List ℕ)) (text : List ℕ) → 0 < length text → 0 < length (bytes_of (texts ++ text ∷ []))
put_some texts text some =
    (let a : length (bytes_of (texts ++ text ∷ [])) ≡ length (bytes_of texts ++ (text ++ [])) = ap length (bytes_more texts (text ∷ [])) in
    let b = length-append (bytes_of texts) (text ++ []) in
    let c : length (text ++ []) ≡ length text = ap length (append-nil text) in
    omega (arith, some, a, b, c))

pub put_none : 0 < length (bytes_of []) → false ≡ true
put_none some = absurd (omega (arith, some))

-- ---- what the link told

order_puts : (pieces : List Piece) (texts : List (List ℕ)) (x : List Step) →
    (0 < length (received x) → end_of (peer_preface Server) (received x) ≤ length (flat_map received_bytes pieces)) → InOrder Server pieces x →
    InOrder Server (pieces ++ map sent texts) x
order_puts pieces [] x given order = subst (λ (l : List Piece). InOrder Server l x) (sym (append-nil pieces)) order
order_puts pieces (text ∷ texts) x given order =
    subst (λ (l : List Piece). InOrder Server l x) (append_assoc pieces (sent text ∷ []) (map sent texts))
    (order_puts (pieces ++ sent text ∷ []) texts x
    (λ some. subst (λ (l : List ℕ). end_of (peer_preface Server) (received x) ≤ length l) (sym (received_then pieces (sent text ∷ []) refl)) (given some))
    (order_told Server pieces (sent text) x given order))

told_puts : (s : Setting) (t : CallTrace) (out : List ℕ) (pieces : List Piece) (texts : List (List ℕ)) → IsServer s t out → IsTold t pieces →
    IsTold (changed (dropped_more (bytes_of texts)) t) (pieces ++ map sent texts)
told_puts s t out pieces texts h told = record {
  fed = told.fed ∙ sym (received_then pieces (map sent texts) (put_nothing_in texts));
  dropped = ap (λ (l : List ℕ). l ++ bytes_of texts) told.dropped ∙ sym (flat_map-append sent_bytes pieces (map sent texts));
  order = order_puts pieces texts t.connection_trace.frames (given_all s t out [] [] pieces h told) told.order;
}

grows_dropped : (t : CallTrace) (bytes : List ℕ) → Grows t (changed (dropped_more bytes) t)
grows_dropped t bytes = record {
  limits = refl;
  heads = prefix_refl t.connection_trace.heads;
  frames = prefix_refl t.connection_trace.frames;
}

-- ---- a connection that works

module _ {K : Type 0} (uses : K → CallTrace → Type 0) (output : K → List ℕ) (s : Setting) (before calls : K) (open_calls : OpenCallsView) (refused : ℕ)
    (t : CallTrace) (actions : List Action) (pieces : List Piece) (own : List Event) (rest : List ℕ) (told now : Option (List Piece)) (texts : List (List ℕ))
    (sound : (calls : K) (t : CallTrace) → uses calls t → IsSoundCallTrace t (output calls))
    (h : Works uses output s before open_calls refused t actions pieces own) (settled : IsSettled t rest)
    (puts : Puts uses output before calls told now texts) where
  abbrev dropped : CallTrace
  dropped = changed (dropped_more (bytes_of texts)) t

  works_put : Works uses output s calls open_calls refused dropped actions (pieces ++ map sent texts) own
  works_put = record {
    used = puts.carries t h.used;
    alive = h.alive;
    agrees = record {
      server = server_writes s t (output before) (output calls) (bytes_of texts) (sound calls dropped (puts.carries t h.used)) h.agrees.server;
      told = told_puts s t (output before) pieces texts h.agrees.server h.agrees.told;
      handled = handled_writes s t (output before) (output calls) (bytes_of texts) open_calls actions own none_left h.agrees.handled;
    };
    count = h.count;
  }

  settled_put : IsSettled dropped rest
  settled_put = settled_writes s t (output before) (output calls) (bytes_of texts) rest settled

  writes_put : (moved : Bool) (writes_before writes_now : ℕ) → (moved ≡ true ↔ 0 < length (bytes_of texts)) →
      (output calls ≡ []) ⊎ HasRisen writes_before writes_now →
      Writes uses output s before calls open_calls refused t actions pieces (map sent texts) own rest moved writes_before writes_now
  writes_put moved writes_before writes_now some until = record {
    bytes = bytes_of texts;
    sent = refl;
    size = size_put (map sent texts);
    output_is = puts.output_is;
    works = works_put;
    settled = settled_put;
    moved = some;
    until = until;
  }

  write_fails : (is_ended : Bool) → MayEnd s t (output calls) open_calls refused (past_of (pieces ++ map sent texts) own is_ended) over.WriteFault
  write_fails is_ended = may_end_from s t dropped (grows_dropped t (bytes_of texts)) (output calls) open_calls refused
      (past_of (pieces ++ map sent texts) own is_ended) over.WriteFault
      (write_fault uses output s calls open_calls refused dropped actions (pieces ++ map sent texts) own works_put rest settled_put is_ended)

  -- the same of a state that is told to be as it was
  pub writes_so : (open_now : OpenCallsView) (refused_now : ℕ) (moved : Bool) (writes_before writes_now : ℕ) → open_now ≡ open_calls →
      refused_now ≡ refused → (moved ≡ true ↔ 0 < length (bytes_of texts)) → (output calls ≡ []) ⊎ HasRisen writes_before writes_now →
      Writes uses output s before calls open_now refused_now t actions pieces (map sent texts) own rest moved writes_before writes_now
  writes_so open_now refused_now moved writes_before writes_now e f some until =
      subst (λ (o : OpenCallsView). Writes uses output s before calls o refused_now t actions pieces (map sent texts) own rest moved writes_before writes_now)
      (sym e)
      (subst (λ (n : ℕ). Writes uses output s before calls open_calls n t actions pieces (map sent texts) own rest moved writes_before writes_now) (sym f)
      (writes_put moved writes_before writes_now some until))

  pub fails_so : (open_now : OpenCallsView) (refused_now : ℕ) (is_ended : Bool) → open_now ≡ open_calls → refused_now ≡ refused →
      MayEnd s t (output calls) open_now refused_now (past_of (pieces ++ map sent texts) own is_ended) over.WriteFault
  fails_so open_now refused_now is_ended e f =
      subst (λ (o : OpenCallsView). MayEnd s t (output calls) o refused_now (past_of (pieces ++ map sent texts) own is_ended) over.WriteFault) (sym e)
      (subst (λ (n : ℕ). MayEnd s t (output calls) open_calls n (past_of (pieces ++ map sent texts) own is_ended) over.WriteFault) (sym f)
      (write_fails is_ended))

-- ---- a connection that is over

module _ (s : Setting) (t : CallTrace) (refused : ℕ) (own : List Event) (is_ended : Bool) (outcome : Outcome) where
  kept_put : (pieces : List Piece) (text left : List ℕ) → KeptBy s t (text ++ left) refused (past_of pieces own is_ended) outcome →
      KeptBy s t left refused (past_of (pieces ++ sent text ∷ []) own is_ended) outcome
  kept_put pieces text left h = record {
    account = record h.account { output = left };
    grows = record { limits = h.grows.limits; heads = h.grows.heads; frames = h.grows.frames };
    output_is = refl;
    over = record {
      serves = writes_keep s (past_of pieces own is_ended) h.account outcome text left h.over.serves h.output_is;
      count = h.over.count;
    };
  }

  kept_puts : (pieces : List Piece) (texts : List (List ℕ)) (left : List ℕ) →
      KeptBy s t (bytes_of texts ++ left) refused (past_of pieces own is_ended) outcome →
      KeptBy s t left refused (past_of (pieces ++ map sent texts) own is_ended) outcome
  kept_puts pieces [] left h = subst (λ (l : List Piece). KeptBy s t left refused (past_of l own is_ended) outcome) (sym (append-nil pieces)) h
  kept_puts pieces (text ∷ texts) left h =
      subst (λ (l : List Piece). KeptBy s t left refused (past_of l own is_ended) outcome) (append_assoc pieces (sent text ∷ []) (map sent texts))
      (kept_puts (pieces ++ sent text ∷ []) texts left
      (kept_put pieces text (bytes_of texts ++ left)
      (subst (λ (l : List ℕ). KeptBy s t l refused (past_of pieces own is_ended) outcome) (append_assoc text (bytes_of texts) left) h)))

  pub kept_flushed : {K : Type 0} (uses : K → CallTrace → Type 0) (output : K → List ℕ) (before calls : K) (told now : Option (List Piece))
      (pieces : List Piece) (texts : List (List ℕ)) (refused_now : ℕ) → refused_now ≡ refused → Puts uses output before calls told now texts →
      KeptBy s t (output before) refused (past_of pieces own is_ended) outcome →
      (put : List Piece) × (flat_map received_bytes put ≡ []) × (now ≡ option_map (λ told. told ++ put) told)
      × KeptBy s t (output calls) refused_now (past_of (pieces ++ put) own is_ended) outcome
  kept_flushed uses output before calls told now pieces texts refused_now same h k = (
    map sent texts,
    put_nothing_in texts,
    h.pieces,
    subst (λ (n : ℕ). KeptBy s t (output calls) n (past_of (pieces ++ map sent texts) own is_ended) outcome) (sym same)
        (kept_puts pieces texts (output calls)
        (subst (λ (l : List ℕ). KeptBy s t l refused (past_of pieces own is_ended) outcome) h.output_is k)),
  )
