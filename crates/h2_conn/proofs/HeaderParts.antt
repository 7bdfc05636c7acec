-- A part of a header block that is received: the block, the limits, streams that begin and credit.
use Rattle.std.proofs.Common.{◌≡◌, ℕ, zero, suc, ◌+◌, ◌-◌, ◌<◌, ◌≤◌, min, Bool, true, false, ◌||◌, ◌&&◌, List, [], ◌∷◌, ◌++◌, length, Option, Some, None, Ok, Err, refl, sym, ap, subst, ◌∙◌, arith}
use Rattle.std.specs.Prelude.{not, nat_lt, option_map, slice_get, ◌==◌, if◌then◌else◌}
use Rattle.std.proofs.lemmas.Bool.Decides.{nat_tests}
use Rattle.std.proofs.lemmas.List.Folds.{list_any-append}
use Rattle.h2_frames.specs.declared.frame.Frame.{Frame}
use Rattle.h2_frames.specs.declared.frame.Frame.TheVariants as kind
use Rattle.hpack_tables.specs.Reading as reading
use Rattle.hpack_tables.specs.Reading.{BlockAt}
use Rattle.hpack_tables.specs.declared.fault.HpackFault.{HpackFault}
use Rattle.hpack_tables.specs.declared.field.Field.{Field}
use Rattle.h2_exchange.specs.declared.limits.CalmCause.TheVariants.{HeaderBytes, HeaderFrames}
use Rattle.h2_exchange.specs.declared.limits.H2Limits.{H2Limits}
use Rattle.h2_exchange.specs.declared.role.Role.{Role}
use Rattle.h2_exchange.specs.declared.role.Role.TheVariants.{Client, Server}
use Rattle.h2_exchange.specs.Blocks.{Block, block_with}
use Rattle.h2_exchange.specs.Content.{Outcome}
use Rattle.h2_exchange.specs.Exchange.{Step, Received, received, sent, first_broken}
use Rattle.h2_exchange.specs.Frames.{stream_of, is_data, is_goaway, is_headers, is_continuation, is_ping, is_rst_stream, is_settings, counted}
use Rattle.h2_exchange.specs.Outcomes.{ReadFirst}
use Rattle.h2_exchange.specs.Rules.{breaks_block_on}
use Rattle.h2_exchange.specs.Stops.{Calm, block_stop, cuts_request, ends_call, has_request, request_bytes}
use Rattle.h2_exchange.specs.Streams.{begins, has_head, has_rst_stream, highest, is_begun, is_ended_by, is_live, is_odd, is_over, of_client}
use Rattle.h2_exchange.specs.Windows.{granted_on, spent_on}
use Rattle.h2_exchange.proofs.Steps.{begun_push, over_stays, received_push, sent_received}
use Rattle.h2_streams.specs.declared.live.Stream.{Stream}
use Rattle.h2_streams.specs.Set.{Set}
use Rattle.h2_streams.specs.Stands as streams
use Rattle.h2_streams.proofs.Lists.{eqb_is}
use Rattle.h2_conn.specs.declared.asked.Asked.{Asked}
use Rattle.h2_conn.specs.HeaderParts.{block_in, limit_of}
use Rattle.h2_conn.specs.Standing.{AreAllRead, HasCredit}
use Rattle.h2_conn.specs.Watching.{IsAsked, IsWatched, Watch, asked_on}
use Rattle.h2_conn.proofs.LooseHeard.{granted_behind, spent_behind, spent_on_behind}
use Rattle.h2_conn.proofs.Watched.{count_push, ends, quiet_count, unbegun}

-- ---- its kind

pub record IsPart (f : Frame) : Type 0 where
  pub no_data : is_data f ≡ false
  pub no_reset : is_rst_stream f ≡ false
  pub no_goaway : is_goaway f ≡ false
  pub no_settings : is_settings f ≡ false
  pub no_ping : is_ping f ≡ false
  pub no_count : counted f ≡ 0

pub part_is : (f : Frame) → (is_headers f || is_continuation f) ≡ true → IsPart f
part_is (kind.Content b) e = absurd (let t : false ≡ true = e in cc)
part_is (kind.Headers b) e = record { no_data = refl; no_reset = refl; no_goaway = refl; no_settings = refl; no_ping = refl; no_count = refl }
part_is (kind.Priority b) e = absurd (let t : false ≡ true = e in cc)
part_is (kind.RstStream b) e = absurd (let t : false ≡ true = e in cc)
part_is (kind.Settings b) e = absurd (let t : false ≡ true = e in cc)
part_is (kind.PushPromise b) e = absurd (let t : false ≡ true = e in cc)
part_is (kind.Ping b) e = absurd (let t : false ≡ true = e in cc)
part_is (kind.GoAway b) e = absurd (let t : false ≡ true = e in cc)
part_is (kind.WindowUpdate b) e = absurd (let t : false ≡ true = e in cc)
part_is (kind.Continuation b) e = record { no_data = refl; no_reset = refl; no_goaway = refl; no_settings = refl; no_ping = refl; no_count = refl }
part_is (kind.Unknown other b) e = absurd (let t : false ≡ true = e in cc)

-- ---- the block with it

abbrev pub opened_on : Option Block → Option ℕ
opened_on o = option_map (λ (b : Block). b.stream) o

shape : (a b : Bool) → first_broken ((a, Calm HeaderBytes) ∷ (b, Calm HeaderFrames) ∷ []) ≡ option_map Calm (if a then Some HeaderBytes else if b then Some HeaderFrames else None)
shape true b = refl
shape false true = refl
shape false false = refl

past_limit : (n : ℕ) → nat_lt 64 (n + 1) ≡ nat_lt 64 (min (n + 1) 4294967295)
past_limit n = grind (arith, nat_tests)

in_limit : (n : ℕ) → nat_lt 64 (min (n + 1) 4294967295) ≡ false → n + 1 ≡ min (n + 1) 4294967295
in_limit n e = grind (arith, nat_tests)

not_false_is : (a : Bool) → not a ≡ false → a ≡ true
not_false_is true e = refl
not_false_is false e = absurd cc

-- the limit that it passes stops the exchange
pub stop_with : (o : Option Block) (f : Frame) → (is_headers f || is_continuation f) ≡ true → breaks_block_on (opened_on o) f ≡ false → block_stop (block_with o f) ≡ option_map Calm (limit_of (block_in o f))
stop_with None (kind.Headers b) part e = shape (nat_lt 65536 (length (block_in None (kind.Headers b)).text)) false
stop_with None (kind.Continuation b) part e = absurd (let t : true ≡ false = e in cc)
stop_with (Some k) (kind.Headers b) part e = absurd (let t : true ≡ false = e in cc)
stop_with (Some k) (kind.Continuation b) part e =
    ap (λ (t : Bool). first_broken ((nat_lt 65536 (length (k.text ++ b.payload)), Calm HeaderBytes) ∷ (t, Calm HeaderFrames) ∷ [])) (past_limit k.frames)
    ∙ shape (nat_lt 65536 (length (k.text ++ b.payload))) (nat_lt 64 (min (k.frames + 1) 4294967295))
stop_with o (kind.Content b) part e = absurd (let t : false ≡ true = part in cc)
stop_with o (kind.Priority b) part e = absurd (let t : false ≡ true = part in cc)
stop_with o (kind.RstStream b) part e = absurd (let t : false ≡ true = part in cc)
stop_with o (kind.Settings b) part e = absurd (let t : false ≡ true = part in cc)
stop_with o (kind.PushPromise b) part e = absurd (let t : false ≡ true = part in cc)
stop_with o (kind.Ping b) part e = absurd (let t : false ≡ true = part in cc)
stop_with o (kind.GoAway b) part e = absurd (let t : false ≡ true = part in cc)
stop_with o (kind.WindowUpdate b) part e = absurd (let t : false ≡ true = part in cc)
stop_with o (kind.Unknown other b) part e = absurd (let t : false ≡ true = part in cc)

few_by : (a b : Bool) → (if a then Some HeaderBytes else if b then Some HeaderFrames else None) ≡ None → b ≡ false
few_by true b e = absurd cc
few_by false true e = absurd cc
few_by false false e = refl

abbrev again : Block → List ℕ → ℕ → Block
again k payload n = record { stream = k.stream; last = k.last; text = k.text ++ payload; frames = n }

pub with_is : (o : Option Block) (f : Frame) → (is_headers f || is_continuation f) ≡ true → breaks_block_on (opened_on o) f ≡ false → limit_of (block_in o f) ≡ None → (block_with o f ≡ Some (block_in o f)) × ((block_in o f).stream ≡ stream_of f)
with_is None (kind.Headers b) part e few = (refl, refl)
with_is None (kind.Continuation b) part e few = absurd (let t : true ≡ false = e in cc)
with_is (Some k) (kind.Headers b) part e few = absurd (let t : true ≡ false = e in cc)
with_is (Some k) (kind.Continuation b) part e few = (
  ap (λ (n : ℕ). Some (again k b.payload n)) (in_limit k.frames (few_by (nat_lt 65536 (length (k.text ++ b.payload))) (nat_lt 64 (min (k.frames + 1) 4294967295)) few)),
  sym (eqb_is b.stream k.stream (not_false_is (b.stream == k.stream) e)),
)
with_is o (kind.Content b) part e few = absurd (let t : false ≡ true = part in cc)
with_is o (kind.Priority b) part e few = absurd (let t : false ≡ true = part in cc)
with_is o (kind.RstStream b) part e few = absurd (let t : false ≡ true = part in cc)
with_is o (kind.Settings b) part e few = absurd (let t : false ≡ true = part in cc)
with_is o (kind.PushPromise b) part e few = absurd (let t : false ≡ true = part in cc)
with_is o (kind.Ping b) part e few = absurd (let t : false ≡ true = part in cc)
with_is o (kind.GoAway b) part e few = absurd (let t : false ≡ true = part in cc)
with_is o (kind.WindowUpdate b) part e few = absurd (let t : false ≡ true = part in cc)
with_is o (kind.Unknown other b) part e few = absurd (let t : false ≡ true = part in cc)

-- ---- tables

pub all_read_push : (entries : List Field) (max : ℕ) (bs : List Block) (heads : List Outcome) (last : List Field) (size : ℕ) (b : Block) (after : reading.State) → AreAllRead entries max bs heads last size →
    BlockAt 4096 (record { entries = last; max = size; fields = [] }) b.text (Ok after) → AreAllRead entries max (bs ++ b ∷ []) (heads ++ Ok after.fields ∷ []) after.entries after.max
all_read_push entries max [] [] last size b after h k =
    (after, subst (λ (n : ℕ). BlockAt 4096 (record { entries = entries; max = n; fields = [] }) b.text (Ok after)) h.1 (subst (λ (es : List Field). BlockAt 4096 (record { entries = es; max = size; fields = [] }) b.text (Ok after)) h.0 k), refl, (refl, refl))
all_read_push entries max [] (outcome ∷ heads) last size b after h k = absurd h
all_read_push entries max (c ∷ bs) [] last size b after h k = absurd h
all_read_push entries max (c ∷ bs) (Ok fields ∷ heads) last size b after h k = (h.0, h.1, h.2, all_read_push h.0.entries h.0.max bs heads last size b after h.3 k)
all_read_push entries max (c ∷ bs) (Err fault ∷ heads) last size b after h k = absurd h

pub read_first_fault : (entries : List Field) (max : ℕ) (bs : List Block) (heads : List Outcome) (last : List Field) (size : ℕ) (b : Block) (fault : HpackFault) → AreAllRead entries max bs heads last size →
    BlockAt 4096 (record { entries = last; max = size; fields = [] }) b.text (Err fault) → ReadFirst entries max (bs ++ b ∷ []) (heads ++ Err fault ∷ [])
read_first_fault entries max [] [] last size b fault h k =
    (subst (λ (n : ℕ). BlockAt 4096 (record { entries = entries; max = n; fields = [] }) b.text (Err fault)) h.1 (subst (λ (es : List Field). BlockAt 4096 (record { entries = es; max = size; fields = [] }) b.text (Err fault)) h.0 k), refl)
read_first_fault entries max [] (outcome ∷ heads) last size b fault h k = absurd h
read_first_fault entries max (c ∷ bs) [] last size b fault h k = absurd h
read_first_fault entries max (c ∷ bs) (Ok fields ∷ heads) last size b fault h k = (h.0, h.1, h.2, read_first_fault h.0.entries h.0.max bs heads last size b fault h.3 k)
read_first_fault entries max (c ∷ bs) (Err other ∷ heads) last size b fault h k = absurd h

pub last_outcome : (heads : List Outcome) (o : Outcome) (n : ℕ) → n ≡ length heads → slice_get (heads ++ o ∷ []) n ≡ Some o
last_outcome [] o zero e = refl
last_outcome [] o (suc n) e = absurd (omega (arith, e))
last_outcome (h ∷ heads) o zero e = absurd (omega (arith, e))
last_outcome (h ∷ heads) o (suc n) e = last_outcome heads o n (omega (arith, e))

-- ---- streams that begin

odd_new : (h o lt : Bool) (greatest n id : ℕ) → is_odd n ≡ o → nat_lt greatest n ≡ lt → ((h && o && lt && n == id) || false) ≡ true → (is_odd id ≡ true) × (nat_lt greatest id ≡ true) × (n ≡ id)
odd_new true true true greatest n id p q e =
    let same : n ≡ id = eqb_is n id (sym (or_false (n == id)) ∙ e) in
    (ap is_odd (sym same) ∙ p, ap (nat_lt greatest) (sym same) ∙ q, same)
  where
    or_false : (b : Bool) → (b || false) ≡ b
    or_false true = refl
    or_false false = refl
odd_new true true false greatest n id p q e = absurd cc
odd_new true false lt greatest n id p q e = absurd cc
odd_new false o lt greatest n id p q e = absurd cc

pub begins_above : (role : Role) (x : List Step) (f : Frame) (id : ℕ) → begins role id x (Received f) ≡ true → (is_odd id ≡ true) × (nat_lt (highest (of_client role x)) id ≡ true) × (stream_of f ≡ id)
begins_above Server x f id e = odd_new (is_headers f) (is_odd (stream_of f)) (nat_lt (highest (received x)) (stream_of f)) (highest (received x)) (stream_of f) id refl refl e
begins_above Client x f id e = absurd cc

lt_of : (a b : ℕ) → nat_lt a b ≡ true → a < b
lt_of a b e = grind (arith, nat_tests)

pub untouched_new : (role : Role) (limits : H2Limits) (x : List Step) (f : Frame) (id : ℕ) (set : Set) → streams.StandsFor set x → set.role ≡ role → set.limits ≡ limits → begins role id x (Received f) ≡ true → streams.IsUntouched limits x id
untouched_new role limits x f id set h same_role same e =
    let n = begins_above role x f id e in
    let high : set.highest < id = subst (λ (m : ℕ). m < id) (sym (h.highest_is ∙ ap (λ (r : Role). highest (of_client r x)) same_role)) (lt_of (highest (of_client role x)) id n.1) in
    subst (λ (l : H2Limits). streams.IsUntouched l x id) same (h.untouched id high n.0)

either_begun : (a b : Bool) → (a || b) ≡ true → a ≡ false → b ≡ true
either_begun true b e f = absurd cc
either_begun false b e f = e

both_of : (a b : Bool) → (a && b) ≡ true → (a ≡ true) × (b ≡ true)
both_of true true e = (refl, refl)
both_of true false e = absurd cc
both_of false b e = absurd cc

live_still : (b o q : Bool) → b ≡ true → (o ≡ true → q ≡ true) → not q ≡ true → (b && not o) ≡ true
live_still true true q e stays n = let r : q ≡ true = stays refl in absurd (let t : false ≡ true = sym (ap not r) ∙ n in cc)
live_still true false q e stays n = refl
live_still false o q e stays n = absurd cc

module _ (role : Role) (x : List Step) (f : Frame) where
  abbrev y : List Step
  y = x ++ Received f ∷ []

  pub was_live : (k : ℕ) → is_begun role x k ≡ true → is_live role y k ≡ true → is_live role x k ≡ true
  was_live k begun live =
      live_still (is_begun role x k) (is_over x k) (is_over y k) begun (over_stays x (Received f ∷ []) k) (both_of (is_begun role y k) (not (is_over y k)) live).1

  pub now_begun : (k : ℕ) → is_begun role x k ≡ false → is_live role y k ≡ true → begins role k x (Received f) ≡ true
  now_begun k unborn live =
      either_begun (is_begun role x k) (begins role k x (Received f)) (sym (begun_push role x (Received f) k) ∙ (both_of (is_begun role y k) (not (is_over y k)) live).0) unborn

by_bool : (P : Type 0) (b : Bool) → (b ≡ true → P) → (b ≡ false → P) → P
by_bool P true p q = p refl
by_bool P false p q = q refl

-- ---- what a watch says behind it

module _ (role : Role) (limits : H2Limits) (heads : List Outcome) (x : List Step) (f : Frame) (p : IsPart f) (same : (k : ℕ) → request_bytes limits heads role (x ++ Received f ∷ []) k ≡ request_bytes limits heads role x k) where
  no_cut : cuts_request role limits heads x (Received f) ≡ false
  no_cut = ap (λ (b : Bool). b && is_live role x (stream_of f) && not (has_request role limits heads x (stream_of f))) p.no_reset

  pub says_behind : (w : Watch) (k : ℕ) → IsWatched role limits heads x w → (is_begun role x k ≡ true → is_live role x k ≡ true) → IsAsked (request_bytes limits heads role (x ++ Received f ∷ []) k) (asked_on k w)
  says_behind w k h live =
      by_bool (IsAsked (request_bytes limits heads role (x ++ Received f ∷ []) k) (asked_on k w)) (is_begun role x k)
      (λ begun. subst (λ (b : List ℕ). IsAsked b (asked_on k w)) (sym (same k)) (h.requests k (live begun)))
      (λ unborn. let i = h.idle k unborn in subst (IsAsked (request_bytes limits heads role (x ++ Received f ∷ []) k)) (sym i.1) (same k ∙ i.0))

  pub part_watched : (e : Bool) (w v : Watch) → v.asked ≡ w.asked → v.is_passed ≡ w.is_passed → v.left ≡ w.left + (if e then 1 else 0) → ends_call limits heads role x (Received f) ≡ e → IsWatched role limits heads x w → IsWatched role limits heads (x ++ Received f ∷ []) v
  part_watched e w v asked passed left ending h = record {
    counts = λ z.
        omega (
          arith,
          left,
          h.counts (sym passed ∙ z),
          quiet_count role limits heads (cuts_request role limits heads) x (Received f) no_cut,
          (count_push (ends_call limits heads role) x (Received f) ∙ ap (λ (b : Bool). ends role limits heads x + (if b then 1 else 0)) ending),
        );
    requests = λ k live.
        subst (λ (l : List Asked). IsAsked (request_bytes limits heads role (x ++ Received f ∷ []) k) (asked_on k (record w { asked = l }))) (sym asked)
        (says_behind w k h (λ begun. was_live role x f k begun live));
    idle = λ k none.
        let i = h.idle k (unbegun role x (Received f) k none) in
        (same k ∙ i.0, ap (λ (l : List Asked). asked_on k (record w { asked = l })) asked ∙ i.1);
  }

-- ---- credit

fresh_credit : (w g u : ℕ) → 65536 ≤ w → w + g - u ≡ w → g ≡ u
fresh_credit w g u le e = omega arith

module _ (role : Role) (limits : H2Limits) (x : List Step) (f : Frame) (none : counted f ≡ 0) (set : Set) (h : streams.StandsFor set x) (same_role : set.role ≡ role) (same : set.limits ≡ limits) where
  new_even : (k : ℕ) → begins role k x (Received f) ≡ true → granted_on k (sent x) ≡ spent_on k (received x)
  new_even k e =
      fresh_credit limits.window (granted_on k (sent x)) (spent_on k (received x)) limits.window_is_raised
      (ap (λ (t : Stream). t.receive) (untouched_new role limits x f k set h same_role same e).as_new)

  spent_same : (k : ℕ) → spent_on k (received (x ++ Received f ∷ [])) ≡ spent_on k (received x)
  spent_same k = spent_on_behind x f k ∙ ap (λ (n : ℕ). spent_on k (received x) + (if stream_of f == k then n else 0)) none ∙ plus_none (stream_of f == k) (spent_on k (received x))
    where
      plus_none : (b : Bool) (m : ℕ) → m + (if b then 0 else 0) ≡ m
      plus_none true m = omega arith
      plus_none false m = omega arith

  pub part_credit : (holds : Bool) → HasCredit holds role limits x → HasCredit holds role limits (x ++ Received f ∷ [])
  part_credit true c = record {
    whole = omega (arith, c.whole, granted_behind x f 0, spent_behind x f);
    streams = λ k live.
        by_bool (granted_on k (sent (x ++ Received f ∷ [])) ≤ spent_on k (received (x ++ Received f ∷ []))) (is_begun role x k)
        (λ begun. omega (arith, c.streams k (was_live role x f k begun live), granted_behind x f k, spent_same k))
        (λ unborn. omega (arith, new_even k (now_begun role x f k unborn live), granted_behind x f k, spent_same k));
  }
  part_credit false c = record {
    whole = omega (arith, c.whole, granted_behind x f 0, spent_behind x f, none);
    streams = λ k live.
        by_bool (granted_on k (sent (x ++ Received f ∷ [])) ≡ spent_on k (received (x ++ Received f ∷ []))) (is_begun role x k)
        (λ begun. granted_behind x f k ∙ c.streams k (was_live role x f k begun live) ∙ sym (spent_same k))
        (λ unborn. granted_behind x f k ∙ new_even k (now_begun role x f k unborn live) ∙ sym (spent_same k));
  }

  -- a stream that begins is live, and has no head
  pub new_headless : (k : ℕ) → begins role k x (Received f) ≡ true → has_head (received x) k ≡ false
  new_headless k e = ap (λ (t : Stream). t.has_head) (untouched_new role limits x f k set h same_role same e).as_new

  or_false_of : (a b : Bool) → (a || b) ≡ false → (a ≡ false) × (b ≡ false)
  or_false_of true b e = absurd cc
  or_false_of false true e = absurd cc
  or_false_of false false e = (refl, refl)

  live_shape : (b r q e g : Bool) → b ≡ true → r ≡ false → q ≡ false → g ≡ false → (b && not ((r || q) || e && g)) ≡ true
  live_shape true false false true false a c d f = refl
  live_shape true false false false false a c d f = refl
  live_shape false r q e g a c d f = absurd cc
  live_shape true true q e g a c d f = absurd cc
  live_shape true false true e g a c d f = absurd cc
  live_shape true false false e true a c d f = absurd cc

  or_then : (a b : Bool) → b ≡ true → (a || b) ≡ true
  or_then true b e = refl
  or_then false b e = e

  none_last : (a b d : Bool) → a ≡ false → b ≡ false → (a || (b && d || false)) ≡ false
  none_last true b d e g = absurd cc
  none_last false true d e g = absurd cc
  none_last false false d e g = refl

  pub new_live : (k : ℕ) → is_rst_stream f ≡ false → begins role k x (Received f) ≡ true → is_live role (x ++ Received f ∷ []) k ≡ true
  new_live k no_reset e =
      let u = untouched_new role limits x f k set h same_role same e in
      let resets = or_false_of (has_rst_stream (received x) k) (has_rst_stream (sent x) k) u.no_reset in
      let y = x ++ Received f ∷ [] in
      live_shape (is_begun role y k) (has_rst_stream (received y) k) (has_rst_stream (sent y) k) (is_ended_by (received y) k) (is_ended_by (sent y) k)
      (begun_push role x (Received f) k ∙ or_then (is_begun role x k) (begins role k x (Received f)) e)
      (ap (λ (fs : List Frame). has_rst_stream fs k) (received_push x f) ∙ list_any-append (λ g. is_rst_stream g && stream_of g == k) (received x) (f ∷ []) ∙ none_last (has_rst_stream (received x) k) (is_rst_stream f) (stream_of f == k) resets.0 no_reset)
      (ap (λ (fs : List Frame). has_rst_stream fs k) (sent_received x f) ∙ resets.1)
      (ap (λ (fs : List Frame). is_ended_by fs k) (sent_received x f) ∙ ap (λ (t : Stream). t.is_closed_local) u.as_new)
