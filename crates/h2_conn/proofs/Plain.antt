-- A received frame that is no DATA, no RST_STREAM and no part of a header block, and breaks no rule.
use Rattle.std.proofs.Common.{◌≡◌, ℕ, ◌+◌, Bool, true, false, ◌||◌, ◌&&◌, List, [], ◌∷◌, ◌++◌, Option, Some, None, refl, sym, ap, subst, ◌∙◌, arith}
use Rattle.std.specs.Prelude.{not, nat_lt, option_map, option_to_list, ◌==◌, if◌then◌else◌}
use Rattle.std.specs.Option.{option_or}
use Rattle.std.specs.List.{flat_map}
use Rattle.std.proofs.lemmas.Bool.Decides.{nat_tests}
use Rattle.std.proofs.lemmas.List.{append-nil}
use Rattle.std.proofs.lemmas.List.Concat.{flat_map-append}
use Rattle.h2_frames.specs.declared.code.ErrorCode.{ErrorCode}
use Rattle.h2_frames.specs.declared.frame.Frame.{Frame}
use Rattle.h2_frames.specs.declared.frame.Frame.TheVariants as kind
use Rattle.h2_exchange.specs.declared.limits.CalmCause.TheVariants.{Resets}
use Rattle.h2_exchange.specs.declared.limits.H2Limits.{H2Limits}
use Rattle.h2_exchange.specs.declared.role.Role.{Role}
use Rattle.h2_exchange.specs.declared.role.Role.TheVariants.{Client, Server}
use Rattle.h2_exchange.specs.Blocks.{Block, block_with, blocks, open_block, completed, data_of}
use Rattle.h2_exchange.specs.Content.{Outcome, outcome_at, outcome_for, stream_error}
use Rattle.h2_exchange.specs.Events.{Event, GoneAway, events_of, events_by, sound_events, all_events, bytes_on, bytes_of}
use Rattle.h2_exchange.specs.Exchange.{Step, Received, received}
use Rattle.h2_exchange.specs.Frames.{stream_of, is_data, is_headers, is_rst_stream, is_continuation, is_goaway, has_end_headers, last_stream_of, goaway_code_of, counted}
use Rattle.h2_exchange.specs.Rules.{frame_error, breaks_block_on}
use Rattle.h2_exchange.specs.Stops.{Stop, Calm, Error, stop_at, frame_stop, block_stop, content_stop, place_behind, cuts_request, ends_call, request_bytes, has_request}
use Rattle.h2_exchange.specs.Streams.{begins, is_begun, is_live, is_over}
use Rattle.h2_exchange.specs.Windows.{granted_on, spent_on, spent}
use Rattle.h2_exchange.proofs.Looking.{collect_push}
use Rattle.h2_exchange.proofs.Steps.{received_push, sent_received, begun_push, over_stays, window_sums_grow, header_blocks_grow}
use Rattle.h2_conn.specs.Standing.{HasCredit}
use Rattle.h2_conn.specs.Watching.{Watch, IsWatched, IsAsked, asked_on}
use Rattle.h2_conn.proofs.Watched.{cuts, ends, quiet_count, unbegun}

-- a frame that is no part of a header block
pub record IsLoose (f : Frame) : Type 0 where
  pub headers : is_headers f ≡ false
  pub more : is_continuation f ≡ false

pub record IsPlain (f : Frame) : Type 0 where
  pub loose : IsLoose f
  pub no_data : is_data f ≡ false
  pub reset : is_rst_stream f ≡ false

-- ---- header blocks

plain_part : (f : Frame) → IsLoose f → block_with None f ≡ None
plain_part (kind.Content b) p = refl
plain_part (kind.Headers b) p = let h : is_headers (kind.Headers b) ≡ false = p.headers in absurd cc
plain_part (kind.Priority b) p = refl
plain_part (kind.RstStream b) p = refl
plain_part (kind.Settings b) p = refl
plain_part (kind.PushPromise b) p = refl
plain_part (kind.Ping b) p = refl
plain_part (kind.GoAway b) p = refl
plain_part (kind.WindowUpdate b) p = refl
plain_part (kind.Continuation b) p = refl
plain_part (kind.Unknown other b) p = refl

outside_by : (o : Option Block) (f : Frame) → is_continuation f ≡ false → breaks_block_on (option_map (λ (b : Block). b.stream) o) f ≡ false → o ≡ None
outside_by None f p e = refl
outside_by (Some b) f p e = let t : not (is_continuation f && stream_of f == b.stream) ≡ true = ap (λ (a : Bool). not (a && stream_of f == b.stream)) p in absurd cc

pub none_counted : (f : Frame) → is_data f ≡ false → counted f ≡ 0
none_counted (kind.Content b) p = absurd cc
none_counted (kind.Headers b) p = refl
none_counted (kind.Priority b) p = refl
none_counted (kind.RstStream b) p = refl
none_counted (kind.Settings b) p = refl
none_counted (kind.PushPromise b) p = refl
none_counted (kind.Ping b) p = refl
none_counted (kind.GoAway b) p = refl
none_counted (kind.WindowUpdate b) p = refl
none_counted (kind.Continuation b) p = refl
none_counted (kind.Unknown other b) p = refl

if_none : (b : Bool) (o : Option Block) → o ≡ None → (if b then o else None) ≡ None
if_none true o e = e
if_none false o e = refl

if_open : (b : Bool) (o : Option Block) → o ≡ None → (if b then None else o) ≡ None
if_open true o e = refl
if_open false o e = e

first_none : {A : Type 0} (a b : Option A) → option_or a b ≡ None → a ≡ None
first_none None b e = refl
first_none (Some v) b e = absurd cc

live_or : (b n o q : Bool) → n ≡ false → (o ≡ true → q ≡ true) → ((b || n) && not q) ≡ true → (b && not o) ≡ true
live_or true n true q e stays h = let r : q ≡ true = stays refl in absurd cc
live_or true n false q e stays h = refl
live_or false true o q e stays h = absurd cc
live_or false false o q e stays h = absurd cc

module _ (role : Role) (limits : H2Limits) (heads : List Outcome) (x : List Step) (f : Frame) (p : IsLoose f) (sound : frame_error role x f ≡ None) (opened : open_block (received x) ≡ None) where
  pub no_part : block_with (open_block (received x)) f ≡ None
  no_part = ap (λ (o : Option Block). block_with o f) opened ∙ plain_part f p

  pub none_completed : completed (received x) f ≡ None
  none_completed = if_none (has_end_headers f) (block_with (open_block (received x)) f) no_part

  pub blocks_stay : blocks (received x ++ f ∷ []) ≡ blocks (received x)
  blocks_stay = header_blocks_grow.blocks_push (received x) f ∙ ap (λ (o : Option Block). blocks (received x) ++ option_to_list o) none_completed ∙ append-nil (blocks (received x))

  pub still_closed : open_block (received x ++ f ∷ []) ≡ None
  still_closed = header_blocks_grow.open_push (received x) f ∙ if_open (has_end_headers f) (block_with (open_block (received x)) f) no_part

  -- ---- stops

  pub frame_goes : frame_stop role limits heads x f ≡ None
  frame_goes =
      ap (λ (e : Option ErrorCode). option_or (option_map (λ why. Error why (place_behind role x)) e) (option_or (block_stop (block_with (open_block (received x)) f)) (content_stop limits (place_behind role x) (outcome_at heads x f)))) sound
      ∙ ap (λ (o : Option Block). option_or (block_stop o) (content_stop limits (place_behind role x) (outcome_at heads x f))) no_part
      ∙ ap (λ (o : Option Block). content_stop limits (place_behind role x) (outcome_for heads (received x) o)) none_completed

module _ (role : Role) (limits : H2Limits) (heads : List Outcome) (x : List Step) (f : Frame) (p : IsPlain f) (sound : frame_error role x f ≡ None) (opened : open_block (received x) ≡ None) where
  abbrev after : List Step
  after = x ++ Received f ∷ []

  part : block_with (open_block (received x)) f ≡ None
  part = no_part role limits heads x f p.loose sound opened

  whole : completed (received x) f ≡ None
  whole = none_completed role limits heads x f p.loose sound opened

  goes : frame_stop role limits heads x f ≡ None
  goes = frame_goes role limits heads x f p.loose sound opened

  no_cut : cuts_request role limits heads x (Received f) ≡ false
  no_cut = ap (λ (b : Bool). b && is_live role x (stream_of f) && not (has_request role limits heads x (stream_of f))) p.reset

  no_end : (side : Role) → ends_call limits heads side x (Received f) ≡ false
  no_end Server = rw (whole, p.no_data) refl
  no_end Client = refl

  counts_stay : (left : ℕ) → left + cuts role limits heads x ≡ 1000 + ends role limits heads x → left + cuts role limits heads after ≡ 1000 + ends role limits heads after
  counts_stay left e =
      omega (arith, e, quiet_count role limits heads (cuts_request role limits heads) x (Received f) no_cut, quiet_count role limits heads (ends_call limits heads role) x (Received f) (no_end role))

  few : (left c e : ℕ) → left + c ≡ 1000 + e → nat_lt (1000 + e) c ≡ false
  few left c e q = grind (arith, nat_tests)

  pub stop_none : (left : ℕ) → left + cuts role limits heads x ≡ 1000 + ends role limits heads x → stop_at role limits heads x (Received f) ≡ None
  stop_none left e =
      ap (λ (o : Option Stop). option_or o (if nat_lt (1000 + ends role limits heads after) (cuts role limits heads after) then Some (Calm Resets) else None)) goes
      ∙ ap (λ (b : Bool). if b then Some (Calm Resets) else None) (few left (cuts role limits heads after) (ends role limits heads after) (counts_stay left e))

  -- ---- events

  abbrev told : List Event
  told = if is_goaway f then GoneAway (last_stream_of f) (goaway_code_of f) ∷ [] else []

  pub events_are : stream_error role limits heads x f ≡ None → events_of role limits heads x (Received f) ≡ told
  events_are none =
      ap (events_by (sound_events role heads x f) (stream_of f)) none
      ∙ rw (p.no_data, p.reset, whole) refl

  no_bytes : (id : ℕ) (b : Bool) → bytes_on id (if b then GoneAway (last_stream_of f) (goaway_code_of f) ∷ [] else []) ≡ []
  no_bytes id true = refl
  no_bytes id false = refl

  bytes_stay : (side : Role) (id : ℕ) → (side ≡ role) → stream_error role limits heads x f ≡ None → request_bytes limits heads side after id ≡ request_bytes limits heads side x id
  bytes_stay Server id same none =
      ap (bytes_on id) (collect_push (events_of Server limits heads) x (Received f))
      ∙ flat_map-append (bytes_of id) (all_events Server limits heads x) (events_of Server limits heads x (Received f))
      ∙ ap (λ (b : List ℕ). bytes_on id (all_events Server limits heads x) ++ b)
      (ap (λ (r : Role). bytes_on id (events_of r limits heads x (Received f))) same ∙ ap (bytes_on id) (events_are none) ∙ no_bytes id (is_goaway f))
      ∙ append-nil (bytes_on id (all_events Server limits heads x))
  bytes_stay Client id same none = ap (flat_map (λ g. if is_data g && stream_of g == id then data_of g else [])) (sent_received x f)

  -- ---- streams

  begins_none : (side : Role) (id : ℕ) → begins side id x (Received f) ≡ false
  begins_none Server id = rw (p.loose.headers) refl
  begins_none Client id = refl

  pub live_back : (id : ℕ) → is_live role after id ≡ true → is_live role x id ≡ true
  live_back id live =
      live_or (is_begun role x id) (begins role id x (Received f)) (is_over x id) (is_over after id) (begins_none role id) (over_stays x (Received f ∷ []) id)
      (sym (ap (λ (b : Bool). b && not (is_over after id)) (begun_push role x (Received f) id)) ∙ live)

  pub watched : (w : Watch) → stream_error role limits heads x f ≡ None → IsWatched role limits heads x w → IsWatched role limits heads after w
  watched w none h = record {
    counts = λ q. counts_stay w.left (h.counts q);
    requests = λ id live. subst (λ (b : List ℕ). IsAsked b (asked_on id w)) (sym (bytes_stay role id refl none)) (h.requests id (live_back id live));
    idle = λ id unborn. let i = h.idle id (unbegun role x (Received f) id unborn) in (bytes_stay role id refl none ∙ i.0, i.1);
  }

  pub credited : (holds : Bool) → HasCredit holds role limits x → HasCredit holds role limits after
  credited true h = record {
    whole = omega (arith, h.whole, ap (granted_on 0) (sent_received x f), ap spent (received_push x f), window_sums_grow.spent_push (received x) f);
    streams = λ id live. omega
        (arith, h.streams id (live_back id live), ap (granted_on id) (sent_received x f), ap (spent_on id) (received_push x f), window_sums_grow.spent_on_push id (received x) f);
  }
  credited false h = record {
    whole =
        ap (λ (fs : List Frame). 65535 + granted_on 0 fs) (sent_received x f) ∙ h.whole
        ∙ ap (λ (n : ℕ). limits.window + n) (sym (ap spent (received_push x f) ∙ window_sums_grow.spent_push (received x) f ∙ ap (λ (n : ℕ). spent (received x) + n) (none_counted f p.no_data) ∙ plus_zero (spent (received x))));
    streams = λ id live.
        ap (granted_on id) (sent_received x f) ∙ h.streams id (live_back id live)
        ∙ sym (ap (spent_on id) (received_push x f) ∙ window_sums_grow.spent_on_push id (received x) f
        ∙ ap (λ (n : ℕ). spent_on id (received x) + (if stream_of f == id then n else 0)) (none_counted f p.no_data) ∙ if_zero (stream_of f == id) (spent_on id (received x)));
  }
    where
      plus_zero : (n : ℕ) → n + 0 ≡ n
      plus_zero n = omega arith

      if_zero : (b : Bool) (n : ℕ) → n + (if b then 0 else 0) ≡ n
      if_zero true n = omega arith
      if_zero false n = omega arith
