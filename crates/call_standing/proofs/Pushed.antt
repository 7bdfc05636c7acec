-- A frame that is sent beside calls keeps what holds of them.
use Rattle.std.proofs.Common.{◌≡◌, ◌⊎◌, ℕ, ◌==◌, Bool, true, false, ◌&&◌, List, [], ◌∷◌, ◌++◌, length, Option, Some, None, refl, sym, ap, subst, ◌∙◌, inl, inr, arith}
use Rattle.std.specs.List.{Contains}
use Rattle.std.proofs.lemmas.List.{length-append}
use Rattle.h2_frames.specs.declared.frame.Frame.{Frame}
use Rattle.h2_frames.specs.declared.frame.Frame.TheVariants.{Content}
use Rattle.h2_frames.specs.declared.frame.FrameBody.{FrameBody}
use Rattle.h2_exchange.specs.declared.role.Role.{Role}
use Rattle.h2_exchange.specs.declared.role.Role.TheVariants.{Client, Server}
use Rattle.h2_exchange.specs.Blocks.{open_block}
use Rattle.h2_exchange.specs.Exchange.{Step, Sent, sent}
use Rattle.h2_exchange.specs.Frames.{has_padding, is_rst_stream, stream_of}
use Rattle.h2_exchange.specs.Outgoing.{IsErrorReset}
use Rattle.h2_exchange.specs.StreamParts.{parts}
use Rattle.h2_exchange.specs.Streams.{is_begun, is_ended_by, is_open}
use Rattle.h2_exchange.specs.Windows.{spent_on}
use Rattle.h2_exchange.proofs.Places.{clash}
use Rattle.h2_exchange.proofs.Steps.{over_stays, sent_push}
use Rattle.grpc_stream.specs.CallTrace.{CallTrace}
use Rattle.kept_calls.specs.CallState.{CallState, call_on}
use Rattle.call_hearing.specs.declared.pending.Pending.{Pending}
use Rattle.call_sending.specs.Moves.{is_control}
use Rattle.call_sending.specs.Spelling.{parts_on}
use Rattle.call_sending.proofs.Kept.{IsUntouched, sends_kept, speaks_same}
use Rattle.call_sending.proofs.Moved.{open_back}
use Rattle.call_sending.proofs.Sent.{begun_list_same, begun_same, control_is_plain, control_no_reset, ended_same, is_plain, no_headers, parts_same, spent_same}
use Rattle.call_standing.specs.Standing.{Holds, IsUnkept, StandsOn, State}
use Rattle.call_standing.proofs.Sent.{events_kept}

abbrev pub pushed : Frame → List ℕ → CallTrace → CallTrace
pushed f resets t = record t { connection_trace = record t.connection_trace { frames = t.connection_trace.frames ++ Sent f ∷ [] }; resets = resets }

-- an element behind a list is at its end or stands in it
pub last_or : {A : Type 0} (x past behind : List A) (s g : A) → x ++ s ∷ [] ≡ past ++ g ∷ behind → ((past ≡ x) × (g ≡ s)) ⊎ ((more : List A) × (x ≡ past ++ g ∷ more))
last_or [] [] behind s g e = inl (refl, cc)
last_or [] (p ∷ past) behind s g e = let size = ap length e in absurd (omega (arith, size, length-append past (g ∷ behind)))
last_or (y ∷ x) [] behind s g e = let here : y ≡ g = cc in inr (x, ap (λ h. h ∷ x) here)
last_or (y ∷ x) (p ∷ past) behind s g e =
    let here : y ≡ p = cc in
    let later : x ++ s ∷ [] ≡ past ++ g ∷ behind = cc in
    on here (last_or x past behind s g later)
  where
    on : {A : Type 0} {x past : List A} {y p s g : A} → y ≡ p → ((past ≡ x) × (g ≡ s)) ⊎ ((more : List A) × (x ≡ past ++ g ∷ more)) →
        ((p ∷ past ≡ y ∷ x) × (g ≡ s)) ⊎ ((more : List A) × (y ∷ x ≡ p ∷ (past ++ g ∷ more)))
    on e (inl (a, b)) = inl (cc, b)
    on e (inr (more, a)) = inr (more, cc)

not_content : (b : FrameBody) (f : Frame) → Content b ≡ f → is_plain f ≡ true → ⊥
not_content b f e is = clash (is_plain f) is (sym (ap is_plain e))

module _ (t : CallTrace) (f : Frame) (resets : List ℕ) (opened : open_block (sent t.connection_trace.frames) ≡ None) (is : is_plain f ≡ true) where
  abbrev next : CallTrace
  next = pushed f resets t

  begun_next : (id : ℕ) → is_begun t.connection_trace.role next.connection_trace.frames id ≡ is_begun t.connection_trace.role t.connection_trace.frames id
  begun_next id = begun_same t.connection_trace.role t.connection_trace.frames f id (no_headers f is)

  open_before : (id : ℕ) → is_open t.connection_trace.role next.connection_trace.frames id ≡ true → is_open t.connection_trace.role t.connection_trace.frames id ≡ true
  open_before id o = open_back t.connection_trace.role t.connection_trace.frames (f ∷ []) id (begun_next id) o

  spent_next : (id : ℕ) → spent_on id (sent next.connection_trace.frames) ≡ spent_on id (sent t.connection_trace.frames)
  spent_next id = ap (spent_on id) (sent_push t.connection_trace.frames f) ∙ spent_same (sent t.connection_trace.frames) f opened is id

  ended_next : (id : ℕ) → is_ended_by (sent next.connection_trace.frames) id ≡ is_ended_by (sent t.connection_trace.frames) id
  ended_next id = ap (λ (fs : List Frame). is_ended_by fs id) (sent_push t.connection_trace.frames f) ∙ ended_same (sent t.connection_trace.frames) f opened is id

  pub untouched : (id : ℕ) → parts_on next id ≡ parts_on t id → IsUntouched t next id
  untouched id parts = record {
    role_is = refl;
    numbers_are = refl;
    queued_is = refl;
    head_is = refl;
    parts_are = parts;
    spent_is = spent_next id;
    ended_is = ended_next id;
    begun = λ e. sym (begun_next id) ∙ e;
    begun_before = λ role e. sym (begun_same Client t.connection_trace.frames f id (no_headers f is)) ∙ e;
    opened = open_before id;
  }

  unkept_kept : (role : Role) (id : ℕ) → parts_on next id ≡ parts_on t id → IsUnkept role t id → IsUnkept role next id
  unkept_kept Server id p h = record {
    no_head = h.no_head;
    no_bytes = h.no_bytes;
    no_end = h.no_end;
    untold = h.untold;
    nothing = h.nothing;
    speaks = speaks_same t next id (untouched id p) [] h.speaks;
    ahead = λ o. p ∙ h.ahead (open_before id o);
  }
  unkept_kept Client id p h = record {
    unbegun = begun_same Client t.connection_trace.frames f id (no_headers f is) ∙ h.unbegun;
    no_event = h.no_event;
    speaks = speaks_same t next id (untouched id p) [] h.speaks;
  }

  pub on_kept : (pending : Pending) (id : ℕ) (o : Option CallState) → parts_on next id ≡ parts_on t id → StandsOn t pending id o → StandsOn next pending id o
  on_kept pending id None p (inl h) = inl (unkept_kept t.connection_trace.role id p h)
  on_kept pending id None p (inr h) = inr (record {
    begun = begun_next id ∙ h.begun;
    over = over_stays t.connection_trace.frames (Sent f ∷ []) id h.over;
    rest = h.rest;
    speaks = speaks_same t next id (untouched id p) h.rest h.speaks;
    silent = (h.silent.0, events_kept t.connection_trace.role t.connection_trace.limits t.connection_trace.heads t.connection_trace.frames (f ∷ []) ∙ h.silent.1, h.silent.2);
  })
  on_kept pending id (Some c) p (on, begun, h) = (
    on,
    begun_next id ∙ begun,
    record { sends = sends_kept t next c (subst (λ (k : ℕ). IsUntouched t next k) (sym on) (untouched id p)) h.sends; hears = h.hears; told = h.told },
  )

  pub holds_pushed : (s : State) → ((id : ℕ) → StandsOn t s.pending id (call_on id s.calls) → StandsOn next s.pending id (call_on id s.calls)) →
      (is_rst_stream f ≡ true →
      IsErrorReset t.connection_trace.role t.connection_trace.limits t.connection_trace.heads t.connection_trace.frames f ⊎ Contains resets (stream_of f)) →
      ((k : ℕ) → Contains t.resets k → Contains resets k) → Holds s t → Holds s next
  holds_pushed s on reset more h = record {
    role_is = h.role_is;
    told = h.told;
    each = λ id. on id (h.each id);
    once = h.once;
    only = λ past behind g split rst. only_by past behind g rst (last_or t.connection_trace.frames past behind (Sent f) (Sent g) split);
    unpadded = λ past behind b split. unpadded_by past behind b (last_or t.connection_trace.frames past behind (Sent f) (Sent (Content b)) split);
    calls = λ role. h.calls role ∙ sym (begun_list_same Client t.connection_trace.frames f (no_headers f is));
  }
    where
      only_by : (past behind : List Step) (g : Frame) → is_rst_stream g ≡ true →
          ((past ≡ t.connection_trace.frames) × (Sent g ≡ Sent f)) ⊎ ((rest : List Step) × (t.connection_trace.frames ≡ past ++ Sent g ∷ rest)) →
          IsErrorReset t.connection_trace.role t.connection_trace.limits t.connection_trace.heads past g ⊎ Contains resets (stream_of g)
      only_by past behind g rst (inl (at, same)) =
          let is_f : g ≡ f = cc in
          subst (λ (x : List Step). IsErrorReset t.connection_trace.role t.connection_trace.limits t.connection_trace.heads x g ⊎ Contains resets (stream_of g)) (sym at)
          (subst (λ (k : Frame). IsErrorReset t.connection_trace.role t.connection_trace.limits t.connection_trace.heads t.connection_trace.frames k ⊎ Contains resets (stream_of k)) (sym is_f)
          (reset (ap is_rst_stream (sym is_f) ∙ rst)))
      only_by past behind g rst (inr (rest, split)) = weaker (h.only past rest g split rst)
        where
          weaker : IsErrorReset t.connection_trace.role t.connection_trace.limits t.connection_trace.heads past g ⊎ Contains t.resets (stream_of g) →
              IsErrorReset t.connection_trace.role t.connection_trace.limits t.connection_trace.heads past g ⊎ Contains resets (stream_of g)
          weaker (inl e) = inl e
          weaker (inr e) = inr (more (stream_of g) e)

      unpadded_by : (past behind : List Step) (b : FrameBody) →
          ((past ≡ t.connection_trace.frames) × (Sent (Content b) ≡ Sent f)) ⊎ ((rest : List Step) × (t.connection_trace.frames ≡ past ++ Sent (Content b) ∷ rest)) →
          has_padding (Content b) ≡ false
      unpadded_by past behind b (inl (at, same)) = let is_f : Content b ≡ f = cc in absurd (not_content b f is_f is)
      unpadded_by past behind b (inr (rest, split)) = h.unpadded past rest b split

  pub parts_beside : (id : ℕ) → (is_rst_stream f && stream_of f == id) ≡ false → parts_on next id ≡ parts_on t id
  parts_beside id e =
      ap (λ (fs : List Frame). parts id t.connection_trace.written fs) (sent_push t.connection_trace.frames f)
      ∙ parts_same (sent t.connection_trace.frames) f opened is id t.connection_trace.written e

-- a frame that is part of no call
pub control_holds : (t : CallTrace) (f : Frame) (s : State) → open_block (sent t.connection_trace.frames) ≡ None → is_control f ≡ true → Holds s t → Holds s (pushed f t.resets t)
control_holds t f s opened is h =
    let none : is_rst_stream f ≡ false = control_no_reset f is in
    holds_pushed t f t.resets opened (control_is_plain f is) s
    (λ id. on_kept t f t.resets opened (control_is_plain f is) s.pending id (call_on id s.calls) (parts_beside t f t.resets opened (control_is_plain f is) id (ap (λ (b : Bool). b && stream_of f == id) none)))
    (λ rst. absurd (clash (is_rst_stream f) rst none)) (λ k inside. inside) h
