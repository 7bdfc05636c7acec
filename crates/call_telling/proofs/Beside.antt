-- What holds of calls goes on where nothing is sent: frames are received, or more header blocks are known.
use Rattle.std.proofs.Common.{◌≡◌, ℕ, Bool, true, false, ◌&&◌, List, [], Option, Some, None, refl, sym, ap, subst, ◌∙◌, inl, inr, arith}
use Rattle.std.specs.Prelude.{not}
use Rattle.h2_frames.specs.declared.frame.Frame.{Frame}
use Rattle.h2_exchange.specs.declared.role.Role.{Role}
use Rattle.h2_exchange.specs.declared.role.Role.TheVariants.{Client, Server}
use Rattle.h2_exchange.specs.Content.{Outcome}
use Rattle.h2_exchange.specs.Exchange.{Step, sent}
use Rattle.h2_exchange.specs.StreamParts.{Part, IsResponse, has_begun, parts}
use Rattle.h2_exchange.specs.Streams.{begun, is_begun, is_ended_by, is_open, is_over}
use Rattle.h2_exchange.specs.Windows.{spent_on}
use Rattle.h2_exchange.proofs.Places.{and_parts, clash, not_true}
use Rattle.grpc_heads.specs.Written.{response_fields}
use Rattle.grpc_stream.specs.CallTrace.{CallTrace}
use Rattle.kept_calls.specs.CallState.{CallState, call_on}
use Rattle.call_hearing.specs.declared.pending.Pending.{Pending}
use Rattle.call_sending.specs.Spelling.{Speaks, Spells, parts_on}
use Rattle.call_sending.proofs.Kept.{IsUntouched, sends_kept, speaks_same}
use Rattle.call_standing.specs.Standing.{AreUnpadded, Holds, IsGone, IsSilent, IsUnkept, OnlyTheseReset, StandsOn, State}

open_by : (a b c : Bool) → a ≡ true → b ≡ false → c ≡ false → ((a && not b) && not c) ≡ true
open_by a b c p q r = rw (p, q, r) refl

-- a test that is true wherever another one is, is false nowhere else
back : (a b : Bool) → (a ≡ true → b ≡ true) → b ≡ false → a ≡ false
back true b h e = absurd (clash b (h refl) e)
back false b h e = refl

module _ (t : CallTrace) (heads : List Outcome) (frames : List Step) (resets : List ℕ) where
  abbrev pub gone_on : CallTrace
  gone_on = record t { connection_trace = record t.connection_trace { heads = heads; frames = frames }; resets = resets }

  -- the same was sent, and streams that began or are over stay so
  pub record IsBeside : Type 0 where
    pub sent_is : sent frames ≡ sent t.connection_trace.frames
    pub begun_on : (id : ℕ) → is_begun t.connection_trace.role t.connection_trace.frames id ≡ true → is_begun t.connection_trace.role frames id ≡ true
    pub client_is : (id : ℕ) → is_begun Client frames id ≡ is_begun Client t.connection_trace.frames id
    pub list_is : begun Client frames ≡ begun Client t.connection_trace.frames
    pub over_on : (id : ℕ) → is_over t.connection_trace.frames id ≡ true → is_over frames id ≡ true
    pub silent_on : (id : ℕ) → IsGone t id → IsSilent gone_on.connection_trace id
    pub only_these : OnlyTheseReset gone_on
    pub none_padded : AreUnpadded gone_on

  module _ (b : IsBeside) where
    parts_same : (id : ℕ) → parts_on gone_on id ≡ parts_on t id
    parts_same id = ap (λ (fs : List Frame). parts id t.connection_trace.written fs) b.sent_is

    spent_same : (id : ℕ) → spent_on id (sent frames) ≡ spent_on id (sent t.connection_trace.frames)
    spent_same id = ap (spent_on id) b.sent_is

    ended_same : (id : ℕ) → is_ended_by (sent frames) id ≡ is_ended_by (sent t.connection_trace.frames) id
    ended_same id = ap (λ (fs : List Frame). is_ended_by fs id) b.sent_is

    unbegun_before : (id : ℕ) → is_begun t.connection_trace.role frames id ≡ false → is_begun t.connection_trace.role t.connection_trace.frames id ≡ false
    unbegun_before id = back (is_begun t.connection_trace.role t.connection_trace.frames id) (is_begun t.connection_trace.role frames id) (b.begun_on id)

    open_before : (id : ℕ) → (is_begun t.connection_trace.role frames id ≡ true → is_begun t.connection_trace.role t.connection_trace.frames id ≡ true) →
        is_open t.connection_trace.role frames id ≡ true → is_open t.connection_trace.role t.connection_trace.frames id ≡ true
    open_before id before o =
        let one = and_parts _ _ o in
        let two = and_parts _ _ one.0 in
        open_by (is_begun t.connection_trace.role t.connection_trace.frames id) (is_over t.connection_trace.frames id) (is_ended_by (sent t.connection_trace.frames) id) (before two.0)
        (back (is_over t.connection_trace.frames id) (is_over frames id) (b.over_on id) (not_true _ two.1)) (sym (ended_same id) ∙ not_true _ one.1)

    untouched : (id : ℕ) → (is_begun t.connection_trace.role frames id ≡ true → is_begun t.connection_trace.role t.connection_trace.frames id ≡ true) → IsUntouched t gone_on id
    untouched id before = record {
      role_is = refl;
      numbers_are = refl;
      queued_is = refl;
      head_is = refl;
      parts_are = parts_same id;
      spent_is = spent_same id;
      ended_is = ended_same id;
      begun = unbegun_before id;
      begun_before = λ r e. sym (b.client_is id) ∙ e;
      opened = open_before id before;
    }

    -- a server's stream of which nothing is kept, which may just have begun
    spells_unheard : (role : Role) (id : ℕ) → role ≡ Server → Spells role t id [] → Spells role gone_on id []
    spells_unheard Client id e h = absurd cc
    spells_unheard Server id e h = record {
      bytes = h.bytes;
      close = h.close;
      response = subst (λ (ps : List Part). IsResponse response_fields ps h.bytes h.close) (sym (parts_same id)) h.response;
      text = h.text;
      begins = λ u. h.begins (ap has_begun (sym (parts_same id)) ∙ u);
      closes = h.closes;
    }

    speaks_unheard : (id : ℕ) → t.connection_trace.role ≡ Server → Speaks t id [] → Speaks gone_on id []
    speaks_unheard id e h = record {
      taken = h.taken;
      begun_first = λ u. let none = h.begun_first (unbegun_before id u) in (none.0, parts_same id ∙ none.1);
      count = omega (arith, h.count, spent_same id);
      whole = λ u. refl;
      spelled = λ suited. spells_unheard t.connection_trace.role id e (h.spelled suited);
    }

    client_before : (id : ℕ) → t.connection_trace.role ≡ Client → is_begun t.connection_trace.role frames id ≡ true → is_begun t.connection_trace.role t.connection_trace.frames id ≡ true
    client_before id e =
        subst (λ (r : Role). is_begun r frames id ≡ true → is_begun r t.connection_trace.frames id ≡ true) (sym e) (λ u. sym (b.client_is id) ∙ u)

    unkept_on : (role : Role) (id : ℕ) → t.connection_trace.role ≡ role → IsUnkept role t id → IsUnkept role gone_on id
    unkept_on Server id e h = record {
      no_head = h.no_head;
      no_bytes = h.no_bytes;
      no_end = h.no_end;
      untold = h.untold;
      nothing = h.nothing;
      speaks = speaks_unheard id e h.speaks;
      ahead = λ o. parts_same id ∙ by o (is_begun t.connection_trace.role t.connection_trace.frames id) refl;
    }
      where
        by : is_open t.connection_trace.role frames id ≡ true → (was : Bool) → is_begun t.connection_trace.role t.connection_trace.frames id ≡ was → parts_on t id ≡ []
        by o true was = h.ahead (open_before id (λ u. was) o)
        by o false was = (h.speaks.begun_first was).1
    unkept_on Client id e h = record {
      unbegun = b.client_is id ∙ h.unbegun;
      no_event = h.no_event;
      speaks = speaks_same t gone_on id (untouched id (client_before id e)) [] h.speaks;
    }

    on_beside : (pending : Pending) (id : ℕ) (o : Option CallState) → StandsOn t pending id o → StandsOn gone_on pending id o
    on_beside pending id None (inl h) = inl (unkept_on t.connection_trace.role id refl h)
    on_beside pending id None (inr h) = inr (record {
      begun = b.begun_on id h.begun;
      over = b.over_on id h.over;
      rest = h.rest;
      speaks = speaks_same t gone_on id (untouched id (λ u. h.begun)) h.rest h.speaks;
      silent = b.silent_on id h;
    })
    on_beside pending id (Some c) (on, begins, h) = (
      on,
      b.begun_on id begins,
      record {
        sends = sends_kept t gone_on c (untouched c.stream (λ u. subst (λ (k : ℕ). is_begun t.connection_trace.role t.connection_trace.frames k ≡ true) (sym on) begins)) h.sends;
        hears = h.hears;
        told = h.told;
      },
    )

    pub beside_holds : (s : State) → Holds s t → Holds s gone_on
    beside_holds s h = record {
      role_is = h.role_is;
      told = h.told;
      each = λ id. on_beside s.pending id (call_on id s.calls) (h.each id);
      once = h.once;
      only = b.only_these;
      unpadded = b.none_padded;
      calls = λ role. h.calls role ∙ sym b.list_is;
    }
