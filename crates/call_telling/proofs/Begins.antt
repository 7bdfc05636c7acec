-- The head of a request that begins a call.
use Rattle.std.proofs.Common.{◌≡◌, ℕ, ◌==◌, Bool, true, false, ◌||◌, List, [], ◌∷◌, ◌++◌, map, Option, Some, None, Ok, refl, sym, ap, subst, ◌∙◌, inl, inr, arith}
use Rattle.std.specs.Prelude.{not, if◌then◌else◌}
use Rattle.std.specs.List.{flat_map, list_any}
use Rattle.std.proofs.lemmas.Bool.{eqb-true}
use Rattle.std.proofs.lemmas.List.{map-append}
use Rattle.std.proofs.lemmas.List.Folds.{list_any-append}
use Rattle.hpack_tables.specs.declared.field.Field.{Field}
use Rattle.grpc_heads.specs.CallEnd.{compressed, method_by, too_long, truncated}
use Rattle.grpc_heads.specs.Heads.{head_of}
use Rattle.grpc_heads.specs.declared.head.Method.{Method}
use Rattle.h2_exchange.specs.declared.role.Role.{Role}
use Rattle.h2_exchange.specs.declared.role.Role.TheVariants.{Client, Server}
use Rattle.h2_exchange.specs.Calls.{Begun, Finished, head_calls}
use Rattle.h2_exchange.specs.Events.{Event, Head}
use Rattle.h2_exchange.specs.Streams.{is_begun}
use Rattle.h2_exchange.proofs.Places.{any_push, clash, neither, not_true, or_parts, same_self, second_true}
use Rattle.http_connection.specs.ConnectionTrace.{events_in}
use Rattle.grpc_stream.specs.CallTrace.{CallTrace, Asked, begins_on, is_end, is_ended, is_told_of, text_of}
use Rattle.kept_calls.specs.declared.call.Receiving.{Receiving}
use Rattle.kept_calls.specs.declared.call.Receiving.TheVariants as was
use Rattle.kept_calls.specs.CallState.{CallState, began, call_on}
use Rattle.call_hearing.specs.declared.pending.Pending.{Pending}
use Rattle.call_hearing.specs.declared.pending.Pending.TheVariants.{Nothing, End}
use Rattle.call_hearing.specs.Laws.{ComesIn, tells}
use Rattle.call_hearing.specs.Listening.{Hears, heads_on, is_cut, still_told}
use Rattle.call_hearing.proofs.Beginning.{heads_begin_calls}
use Rattle.call_hearing.proofs.Lasting.{heads_first, listening_lasts}
use Rattle.call_hearing.proofs.Places.{servers_hear}
use Rattle.call_sending.specs.Spelling.{Prepares, Sends}
use Rattle.call_sending.proofs.Kept.{sends_kept}
use Rattle.call_standing.specs.Standing.{Holds, IsUnheard, IsUnkept, StandsOn, State, is_once}
use Rattle.call_telling.proofs.Begun.{event_begun}
use Rattle.call_telling.proofs.TakesIn.{gone_silent, takes_in, untouched}
use Rattle.call_telling.specs.Giving.{took_in}

-- ---- one call more is kept

abbrev ids : List CallState → List ℕ
ids cs = map (λ (c : CallState). c.stream) cs

pub added_here : (cs : List CallState) (c : CallState) → call_on c.stream cs ≡ None → call_on c.stream (cs ++ c ∷ []) ≡ Some c
added_here [] c none = ap (λ (b : Bool). if b then Some c else None) (same_self c.stream)
added_here (x ∷ xs) c none = by (x.stream == c.stream) none (added_here xs c)
  where
    by : (b : Bool) → (if b then Some x else call_on c.stream xs) ≡ None → (call_on c.stream xs ≡ None → call_on c.stream (xs ++ c ∷ []) ≡ Some c) → (if b then Some x else call_on c.stream (xs ++ c ∷ [])) ≡ Some c
    by true e later = absurd cc
    by false e later = later e

pub added_other : (cs : List CallState) (c : CallState) (k : ℕ) → (c.stream == k) ≡ false → call_on k (cs ++ c ∷ []) ≡ call_on k cs
added_other [] c k off = ap (λ (b : Bool). if b then Some c else None) off
added_other (x ∷ xs) c k off = ap (λ (o : Option CallState). if x.stream == k then Some x else o) (added_other xs c k off)

absent_id : (cs : List CallState) (id : ℕ) → call_on id cs ≡ None → list_any (λ i. i == id) (ids cs) ≡ false
absent_id [] id e = refl
absent_id (x ∷ xs) id e = by (x.stream == id) e (absent_id xs id)
  where
    by : (b : Bool) → (if b then Some x else call_on id xs) ≡ None → (call_on id xs ≡ None → list_any (λ i. i == id) (ids xs) ≡ false) → (b || list_any (λ i. i == id) (ids xs)) ≡ false
    by true e later = absurd cc
    by false e later = later e

once_added : (ks : List ℕ) (id k : ℕ) → is_once k ks ≡ true → list_any (λ i. i == id) ks ≡ false → is_once k (ks ++ id ∷ []) ≡ true
once_added [] id k e none = by (id == k)
  where
    by : (b : Bool) → (if b then not false else true) ≡ true
    by true = refl
    by false = refl
once_added (x ∷ xs) id k e none = by (x == k) refl e (or_parts (x == id) (list_any (λ i. i == id) xs) none) (once_added xs id k)
  where
    by : (b : Bool) → (x == k) ≡ b → (if b then not (list_any (λ i. i == k) xs) else is_once k xs) ≡ true → ((x == id) ≡ false) × (list_any (λ i. i == id) xs ≡ false) →
        (is_once k xs ≡ true → list_any (λ i. i == id) xs ≡ false → is_once k (xs ++ id ∷ []) ≡ true) →
        (if b then not (list_any (λ i. i == k) (xs ++ id ∷ [])) else is_once k (xs ++ id ∷ [])) ≡ true
    by false f e both later = later e both.1
    by true f e both later =
        let same : x ≡ k = eqb-true x k f in
        let off : (id == k) ≡ false = differs (id == k) refl (subst (λ (n : ℕ). (n == id) ≡ false) same both.0) in
        ap not (list_any-append (λ i. i == k) xs (id ∷ []) ∙ neither (list_any (λ i. i == k) xs) ((id == k) || false) (not_true _ e) (neither (id == k) false off refl))
      where
        differs : (b : Bool) → (id == k) ≡ b → (k == id) ≡ false → b ≡ false
        differs true g h = absurd (clash (k == id) (subst (λ (n : ℕ). (n == id) ≡ true) (eqb-true id k g) (same_self id)) h)
        differs false g h = refl

pub once_more : (cs : List CallState) (c : CallState) (k : ℕ) → call_on c.stream cs ≡ None → is_once k (ids cs) ≡ true → is_once k (ids (cs ++ c ∷ [])) ≡ true
once_more cs c k none e = ap (is_once k) (map-append (λ (x : CallState). x.stream) cs (c ∷ [])) ∙ once_added (ids cs) c.stream k e (absent_id cs c.stream none)

-- ---- the head of a stream finds nothing kept of it

module _ (t : CallTrace) (s : State) (id : ℕ) (fields : List Field) (last : Bool) (later : List Event) (server : t.connection_trace.role ≡ Server)
    (split : events_in t.connection_trace ≡ (t.connection_trace.given ++ Head id fields last ∷ []) ++ later) (comes : ComesIn t.connection_trace.role t.connection_trace.given (Head id fields last))
    (quiet : s.pending ≡ Nothing) (h : Holds s t) where
  no_head : list_any (heads_on id) t.connection_trace.given ≡ false
  no_head =
      servers_hear.one_head t.connection_trace.given (Head id fields last) id (subst (λ (r : Role). ComesIn r t.connection_trace.given (Head id fields last)) server comes) (same_self id)

  no_call : (c : CallState) (r : Receiving) → c.stream ≡ id → Hears Server t.connection_trace.given t.reported Nothing c r → ⊥
  no_call c was.Open same hears =
      clash (list_any (heads_on id) t.connection_trace.given) (subst (λ (k : ℕ). list_any (heads_on k) t.connection_trace.given ≡ true) same (heads_first t.connection_trace.given c.stream hears.begun)) no_head
  no_call c was.Closed same hears = clash (list_any (heads_on id) t.connection_trace.given) (subst (λ (k : ℕ). list_any (heads_on k) t.connection_trace.given ≡ true) same hears.0) no_head

  abbrev IsNew : Option CallState → Type 0
  IsNew o = (o ≡ None) × IsUnheard t id

  new_by : (o : Option CallState) → StandsOn t Nothing id o → IsNew o
  new_by None (inl k) = (refl, subst (λ (r : Role). IsUnkept r t id) server k)
  new_by None (inr gone) = absurd (clash (id == id) (same_self id) (gone_silent t (Head id fields last) [] t.taken later split id gone).0)
  new_by (Some c) (same, begun, k) = absurd (no_call c c.receiving same (subst (λ (r : Role). Hears r t.connection_trace.given t.reported Nothing c c.receiving) server k.hears))

  is_new : IsNew (call_on id s.calls)
  is_new = new_by (call_on id s.calls) (subst (λ (p : Pending). StandsOn t p id (call_on id s.calls)) quiet (h.each id))

  pub none_kept : call_on id s.calls ≡ None
  none_kept = is_new.0

  pub unheard_yet : IsUnheard t id
  unheard_yet = is_new.1

  pub begun_by_now : is_begun t.connection_trace.role t.connection_trace.frames id ≡ true
  begun_by_now = event_begun t.connection_trace.role t.connection_trace.limits t.connection_trace.heads id t.connection_trace.frames t.connection_trace.given later (Head id fields last) split (same_self id)

  unended_yet : is_ended t id ≡ false
  unended_yet = ap (list_any is_end) unheard_yet.nothing

  open_prepared : (role : Role) → Prepares role t id (began id was.Open false).ending []
  open_prepared Server = tt
  open_prepared Client = tt

  pub sends_begun : (r : Receiving) → Sends t (began id r false)
  sends_begun r = record {
    speaks = unheard_yet.speaks;
    ended_is = unended_yet;
    sent_is = λ e. absurd cc;
    fits = omega arith;
    message_is = λ e. ap (flat_map text_of) unheard_yet.nothing;
    first_is = λ e. absurd cc;
    ahead = unheard_yet.ahead;
    prepared = λ suited. open_prepared t.connection_trace.role;
  }

  -- ---- it begins a call

  module _ (method : Method) (is : method_by (head_of fields) ≡ Ok method) where
    abbrev pub behind : Pending
    behind = if last then End id else Nothing

    abbrev next : CallTrace
    next = took_in t (Head id fields last) (Asked (Begun id method) ∷ []) t.taken

    not_cut : (k : ℕ) → is_cut behind k ≡ false
    not_cut k = by last
      where
        by : (b : Bool) → is_cut (if b then End id else Nothing) k ≡ false
        by true = refl
        by false = refl

    told_new : is_told_of t.connection_trace.role (t.reported ++ Asked (Begun id method) ∷ []) id ≡ true
    told_new =
        ap (λ (r : Role). is_told_of r (t.reported ++ Asked (Begun id method) ∷ []) id) server
        ∙ any_push (begins_on id) t.reported (Asked (Begun id method)) ∙ second_true (list_any (begins_on id) t.reported) (id == id) (same_self id)

    hears_new : Hears Server (t.connection_trace.given ++ Head id fields last ∷ []) (t.reported ++ Asked (Begun id method) ∷ []) behind (began id was.Open false) was.Open
    hears_new =
        listening_lasts.pending Server (t.connection_trace.given ++ Head id fields last ∷ []) (t.reported ++ Asked (Begun id method) ∷ []) Nothing behind (began id was.Open false) was.Open (λ e. refl)
        (heads_begin_calls.begins t.connection_trace.given t.reported id fields last method is unheard_yet.no_bytes)

    stands_new : StandsOn next behind id (Some (began id was.Open false))
    stands_new = (
      refl,
      begun_by_now,
      record {
        sends = sends_kept t next (began id was.Open false) (untouched t (Head id fields last) (Asked (Begun id method) ∷ []) t.taken id refl) (sends_begun was.Open);
        hears = subst (λ (r : Role). Hears r (t.connection_trace.given ++ Head id fields last ∷ []) (t.reported ++ Asked (Begun id method) ∷ []) behind (began id was.Open false) was.Open) (sym server) hears_new;
        told = λ e. told_new;
      },
    )

    told_is : tells t.connection_trace.role t.numbers t.connection_trace.given (Head id fields last) ≡
        (Asked (Begun id method) ∷ []) ++ still_told t.connection_trace.role (s.calls ++ began id was.Open false ∷ []) behind
    told_is =
        ap (λ (r : Role). tells r t.numbers t.connection_trace.given (Head id fields last)) server
        ∙ ap (λ m. map Asked (head_calls (λ (f : List Field). method_by (head_of f)) compressed too_long truncated id last m)) is ∙ by t.connection_trace.role last
      where
        by : (role : Role) (b : Bool) → map Asked (Begun id method ∷ (if b then Finished id ∷ [] else [])) ≡
            (Asked (Begun id method) ∷ []) ++ still_told role (s.calls ++ began id was.Open false ∷ []) (if b then End id else Nothing)
        by role true = refl
        by role false = refl

    pub begins_holds : Holds (record { role = s.role; calls = s.calls ++ began id was.Open false ∷ []; pending = behind }) next
    begins_holds =
        takes_in t (Head id fields last) (Asked (Begun id method) ∷ []) t.taken later split s (s.calls ++ began id was.Open false ∷ []) behind quiet told_is
        (λ k off. record { same = added_other s.calls (began id was.Open false) k off; none_begins = neither (id == k) false off refl; none_queued = refl })
        (λ k on stood.
        let same : id ≡ k = eqb-true id k on in
        subst (λ (n : ℕ). StandsOn next behind n (call_on n (s.calls ++ began id was.Open false ∷ []))) same
        (subst (StandsOn next behind id) (sym (added_here s.calls (began id was.Open false) none_kept)) stands_new))
        (λ k. once_more s.calls (began id was.Open false) k none_kept (h.once k)) h
