-- What answers a frame may be sent.
use Rattle.std.proofs.Common.{◌≡◌, ℕ, ◌+◌, ◌<◌, ◌≤◌, ◌^◌, Bool, ◌||◌, ◌&&◌, true, false, List, [], ◌∷◌, ◌++◌, map, length, Option, Some, None, refl, sym, ap, ◌∙◌, subst, arith, append_assoc}
use Rattle.std.specs.Prelude.{not, nat_lt, filter, option_to_list, if◌then◌else◌, ◌==◌}
use Rattle.std.specs.List.{flat_map, list_any}
use Rattle.std.specs.Int.{w32, to_be_bytes}
use Rattle.std.proofs.lemmas.List.{append-nil, map-append, length-append}
use Rattle.std.proofs.lemmas.List.Concat.{flat_map-append}
use Rattle.std.proofs.lemmas.List.Elements.{filter-append}
use Rattle.std.proofs.lemmas.List.Folds.{list_any-append}
use Rattle.std.proofs.lemmas.Bool.Decides.{nat_tests}
use Rattle.std.proofs.lemmas.Nat.{from_be_bytes-to_be_bytes_4}
use Rattle.h2_frames.specs.declared.code.ErrorCode.{ErrorCode}
use Rattle.h2_frames.specs.declared.frame.Frame.{Frame}
use Rattle.h2_frames.specs.declared.frame.Frame.TheVariants.{Content, RstStream, Settings, Ping, WindowUpdate}
use Rattle.h2_frames.specs.declared.frame.FrameBody.{FrameBody}
use Rattle.h2_frames.specs.Layout.{body_of, frame_text}
use Rattle.h2_exchange.specs.declared.limits.H2Limits.{H2Limits}
use Rattle.h2_exchange.specs.declared.role.Role.{Role}
use Rattle.h2_exchange.specs.declared.role.Role.TheVariants.{Client, Server}
use Rattle.h2_exchange.specs.Blocks.{Block, block_with, open_block, blocks}
use Rattle.h2_exchange.specs.Content.{Outcome, stream_error}
use Rattle.h2_exchange.specs.Exchange.{Step, Received, Sent, received, sent}
use Rattle.h2_exchange.specs.Frames.{stream_of, is_data, is_headers, is_settings, is_ping, is_rst_stream, is_window_update, has_ack, has_end_headers, has_end_stream, increment_of, counted}
use Rattle.h2_exchange.specs.Outgoing.{MaySend, SendsOnly, acknowledges, credits, credits_stream, resets_error}
use Rattle.h2_exchange.specs.Sending.{AreAcknowledged, IsPrefix, ack_for, acks_for, acks_in, credit_text, update_text}
use Rattle.h2_exchange.specs.Stops.{stop_of}
use Rattle.h2_exchange.specs.Streams.{begins, is_begun, is_ended_by, is_last_on, is_live, is_over, is_reset, has_rst_stream, highest, is_odd}
use Rattle.h2_exchange.specs.Windows.{granted_on, spent_on, spent}
use Rattle.h2_exchange.proofs.Looking.{or_nothing}
use Rattle.h2_exchange.proofs.Sending.{only_these_are_sent}
use Rattle.h2_exchange.proofs.Steps.{begun_push, over_stays, received_more, received_push, received_sent, sent_more, sent_push, sent_received, header_blocks_grow, window_sums_grow}
use Rattle.http_connection.specs.ConnectionTrace.{ArePlaced}
use Rattle.http_connection.specs.Answers.{AreReplyBy, Receives, credit_for, text_or_none, ends, goes, stops}
use Rattle.grpc_stream.proofs.Granted.{same_frames, one_frame, body, update, zero_small, begun_number, live_number, both_of, granted_by, ungranted}

-- ---- acknowledgements

asks_more : (xs ys : List Frame) → acks_for (xs ++ ys) ≡ acks_for xs ++ acks_for ys
asks_more xs ys = flat_map-append _ xs ys

acked_more : (xs ys : List Frame) → acks_in (xs ++ ys) ≡ acks_in xs ++ acks_in ys
acked_more xs ys =
    ap (map frame_text) (filter-append (λ (f : Frame). (is_settings f || is_ping f) && has_ack f) xs ys)
    ∙ map-append frame_text (filter (λ (f : Frame). (is_settings f || is_ping f) && has_ack f) xs) (filter (λ (f : Frame). (is_settings f || is_ping f) && has_ack f) ys)

module _ {A : Type 0} where
  same_cells : (a b : A) (xs ys : List A) → a ∷ xs ≡ b ∷ ys → (a ≡ b) × (xs ≡ ys)
  same_cells a b xs ys e = (cc, cc)

  both_cells : (a b : A) (xs ys : List A) → a ≡ b → xs ≡ ys → a ∷ xs ≡ b ∷ ys
  both_cells a b xs ys p q = cc

  -- of two first parts of one list the shorter one begins the longer one
  shorter : (xs ys more rest : List A) → xs ++ more ≡ ys ++ rest → length xs ≤ length ys → IsPrefix xs ys
  shorter [] ys more rest e le = (ys, refl)
  shorter (x ∷ xs) [] more rest e le = absurd (omega (arith, le))
  shorter (x ∷ xs) (y ∷ ys) more rest e le =
      let cells = same_cells x y (xs ++ more) (ys ++ rest) e in
      let later = shorter xs ys more rest cells.1 (omega (arith, le)) in (later.0, both_cells y x ys (xs ++ later.0) (sym cells.0) later.1)

-- acknowledgements that are in their turn in the whole are so at each front where they are no more than were asked for
front_acknowledged : (w x behind : List Step) → w ≡ x ++ behind → AreAcknowledged w → length (acks_in (sent x)) ≤ length (acks_for (received x)) → AreAcknowledged x
front_acknowledged w x behind e (more, whole) le =
    let told : acks_in (sent w) ≡ acks_in (sent x) ++ acks_in (sent behind) = ap (λ (y : List Step). acks_in (sent y)) e ∙ ap acks_in (sent_more x behind) ∙ acked_more (sent x) (sent behind) in
    let asked : acks_for (received w) ≡ acks_for (received x) ++ acks_for (received behind) = ap (λ (y : List Step). acks_for (received y)) e ∙ ap acks_for (received_more x behind) ∙ asks_more (received x) (received behind) in
    shorter (acks_in (sent x)) (acks_for (received x)) (acks_in (sent behind) ++ more) (acks_for (received behind))
    (sym (append_assoc (acks_in (sent x)) (acks_in (sent behind)) more) ∙ ap (λ (l : List (List ℕ)). l ++ more) (sym told) ∙ sym whole ∙ asked) le

-- ---- streams behind a sent frame that begins none

or_false : (a b : Bool) → b ≡ false → (a || b) ≡ a
or_false a b e = ap (λ (x : Bool). a || x) e ∙ or_nothing a

none_begins : (role : Role) (x : List Step) (f : Frame) (id : ℕ) → is_headers f ≡ false → begins role id x (Sent f) ≡ false
none_begins Server x f id e = refl
none_begins Client x f id e = ap (λ (h : Bool). (h && is_odd (stream_of f) && nat_lt (highest (sent x)) (stream_of f)) && stream_of f == id || false) e

begun_same : (role : Role) (x : List Step) (f : Frame) (id : ℕ) → is_headers f ≡ false → is_begun role (x ++ Sent f ∷ []) id ≡ is_begun role x id
begun_same role x f id e = begun_push role x (Sent f) id ∙ or_false (is_begun role x id) (begins role id x (Sent f)) (none_begins role x f id e)

live_of : (a b c d : Bool) → a ≡ c → (d ≡ true → b ≡ true) → (a && not b) ≡ true → (c && not d) ≡ true
live_of true false true false e k h = refl
live_of true false true true e k h = let n : false ≡ true = k refl in absurd cc
live_of true true c d e k h = absurd cc
live_of false b c d e k h = absurd cc
live_of true false false d e k h = absurd cc

-- what is live behind a sent frame was so before it
live_before : (role : Role) (x : List Step) (f : Frame) (id : ℕ) → is_headers f ≡ false → is_live role (x ++ Sent f ∷ []) id ≡ true → is_live role x id ≡ true
live_before role x f id e lives =
    live_of (is_begun role (x ++ Sent f ∷ []) id) (is_over (x ++ Sent f ∷ []) id) (is_begun role x id) (is_over x id) (begun_same role x f id e) (over_stays x (Sent f ∷ []) id) lives

-- ---- a WINDOW_UPDATE ends no stream

no_part : (o : Option Block) (b : FrameBody) → block_with o (WindowUpdate b) ≡ None
no_part None b = refl
no_part (Some block) b = refl

if_none : {A : Type 0} (c : Bool) (o : Option A) → o ≡ None → (if c then o else None) ≡ None
if_none true o e = e
if_none false o e = refl

ended_same : (fs : List Frame) (b : FrameBody) (id : ℕ) → is_ended_by (fs ++ WindowUpdate b ∷ []) id ≡ is_ended_by fs id
ended_same fs b id =
    let blocks_are : blocks (fs ++ WindowUpdate b ∷ []) ≡ blocks fs =
    header_blocks_grow.blocks_push fs (WindowUpdate b)
    ∙ ap (λ (o : Option Block). blocks fs ++ option_to_list o) (if_none (has_end_headers (WindowUpdate b)) (block_with (open_block fs) (WindowUpdate b)) (no_part (open_block fs) b))
    ∙ append-nil (blocks fs) in
    ap (λ (bs : List Block). list_any (λ g. is_data g && has_end_stream g && stream_of g == id) (fs ++ WindowUpdate b ∷ []) || list_any (is_last_on id) bs) blocks_are
    ∙ ap (λ (a : Bool). a || list_any (is_last_on id) (blocks fs))
    (list_any-append (λ g. is_data g && has_end_stream g && stream_of g == id) fs (WindowUpdate b ∷ []) ∙ or_nothing (list_any (λ g. is_data g && has_end_stream g && stream_of g == id) fs))

reset_same : (fs : List Frame) (b : FrameBody) (id : ℕ) → has_rst_stream (fs ++ WindowUpdate b ∷ []) id ≡ has_rst_stream fs id
reset_same fs b id = list_any-append (λ g. is_rst_stream g && stream_of g == id) fs (WindowUpdate b ∷ []) ∙ or_nothing (has_rst_stream fs id)

over_same : (x : List Step) (b : FrameBody) (id : ℕ) → is_over (x ++ Sent (WindowUpdate b) ∷ []) id ≡ is_over x id
over_same x b id =
    ap (λ (fs : List Frame). (has_rst_stream fs id || has_rst_stream (sent (x ++ Sent (WindowUpdate b) ∷ [])) id) || is_ended_by fs id && is_ended_by (sent (x ++ Sent (WindowUpdate b) ∷ [])) id) (received_sent x (WindowUpdate b))
    ∙ ap (λ (fs : List Frame). (has_rst_stream (received x) id || has_rst_stream fs id) || is_ended_by (received x) id && is_ended_by fs id) (sent_push x (WindowUpdate b))
    ∙ ap (λ (r : Bool). (has_rst_stream (received x) id || r) || is_ended_by (received x) id && is_ended_by (sent x ++ WindowUpdate b ∷ []) id) (reset_same (sent x) b id)
    ∙ ap (λ (r : Bool). is_reset x id || is_ended_by (received x) id && r) (ended_same (sent x) b id)

live_same : (role : Role) (x : List Step) (b : FrameBody) (id : ℕ) → is_live role (x ++ Sent (WindowUpdate b) ∷ []) id ≡ is_live role x id
live_same role x b id =
    ap (λ (c : Bool). c && not (is_over (x ++ Sent (WindowUpdate b) ∷ []) id)) (begun_same role x (WindowUpdate b) id refl) ∙ ap (λ (c : Bool). is_begun role x id && not c) (over_same x b id)

-- ---- what is owed at each step

abbrev pub nothing : ℕ → ℕ
nothing id = 0

abbrev on : ℕ → ℕ → ℕ → ℕ
on stream n id = if stream == id then n else 0

granted_says : (id n : ℕ) (small : id < 2 ^ 31) → n < 2 ^ 31 → increment_of (update id n small) ≡ n
granted_says id n small fits = omega (arith, fits, from_be_bytes-to_be_bytes_4 n (omega (arith, fits)))

module _ (role : Role) (limits : H2Limits) (heads : List Outcome) (is_asked : List Step → ℕ → ErrorCode → Bool) (bytes rest : List ℕ) (is_holding : Bool) where
  -- So much is owed to the connection and to each live stream at least, unless credit is held, and so many acknowledgements.
  pub record Owes (all : ℕ) (each : ℕ → ℕ) (acks : ℕ) (x : List Step) : Type 0 where
    pub sends : SendsOnly role limits heads is_asked bytes rest x
    pub asked : length (acks_in (sent x)) + acks ≤ length (acks_for (received x))
    pub whole : is_holding ≡ false → 65535 + granted_on 0 (sent x) + all ≤ limits.window + spent (received x)
    pub streams : is_holding ≡ false → (id : ℕ) → is_live role x id ≡ true → granted_on id (sent x) + each id ≤ spent_on id (received x)

  less : (all acks : ℕ) (each : ℕ → ℕ) (x : List Step) → Owes all each acks x → Owes 0 nothing 0 x
  less all acks each x h = record {
    sends = h.sends;
    asked = omega (arith, h.asked);
    whole = λ free. omega (arith, h.whole free);
    streams = λ free id lives. omega (arith, h.streams free id lives);
  }

  begun_or : (x : List Step) (f : Frame) (id : ℕ) → SendsOnly role limits heads is_asked bytes rest x → ((id : ℕ) → is_live role x id ≡ true → granted_on id (sent x) ≤ spent_on id (received x)) →
      is_live role (x ++ Received f ∷ []) id ≡ true → granted_on id (sent x) ≤ spent_on id (received x)
  begun_or x f id sends each lives = by (is_begun role x id) refl
    where
      now : (is_begun role (x ++ Received f ∷ []) id ≡ true) × (not (is_over (x ++ Received f ∷ []) id) ≡ true)
      now = both_of (is_begun role (x ++ Received f ∷ []) id) (not (is_over (x ++ Received f ∷ []) id)) lives

      by : (b : Bool) → is_begun role x id ≡ b → granted_on id (sent x) ≤ spent_on id (received x)
      by true e = each id (live_of (is_begun role (x ++ Received f ∷ []) id) (is_over (x ++ Received f ∷ []) id) (is_begun role x id) (is_over x id) (now.0 ∙ sym e) (over_stays x (Received f ∷ []) id) lives)
      by false e = let none = ungranted role limits heads is_asked bytes rest id (begun_number role (x ++ Received f ∷ []) id now.0).0 x sends e in omega (arith, none)

  hear : (x : List Step) (f : Frame) → Owes 0 nothing 0 x → Owes (counted f) (on (stream_of f) (counted f)) (length (acks_for (f ∷ []))) (x ++ Received f ∷ [])
  hear x f h = record {
    sends = (only_these_are_sent role limits heads is_asked bytes rest x).received f h.sends;
    asked = omega (
      arith,
      h.asked,
      ap (λ (fs : List Frame). length (acks_in fs)) (sent_received x f),
      ap (λ (fs : List Frame). length (acks_for fs)) (received_push x f),
      ap length (asks_more (received x) (f ∷ [])),
      length-append (acks_for (received x)) (acks_for (f ∷ [])),
    );
    whole = λ free. omega (arith, h.whole free, ap (granted_on 0) (sent_received x f), ap spent (received_push x f), window_sums_grow.spent_push (received x) f);
    streams = λ free id lives. omega (
      arith,
      begun_or x f id h.sends (λ k live. omega (arith, h.streams free k live)) lives,
      ap (granted_on id) (sent_received x f),
      ap (spent_on id) (received_push x f),
      window_sums_grow.spent_on_push id (received x) f,
    );
  }

  module _ (w : List Step) (placed : ArePlaced w) (acknowledged : AreAcknowledged w) where
    -- one more frame, which begins no stream
    say : (all acks more : ℕ) (each later : ℕ → ℕ) (x behind : List Step) (f : Frame) → w ≡ x ++ Sent f ∷ behind → is_headers f ≡ false → MaySend role limits heads is_asked bytes rest x f →
        length (acks_in (f ∷ [])) + more ≤ acks → (rest_of : ℕ) → (is_holding ≡ false → granted_by 0 f + rest_of ≤ all) → (is_holding ≡ false → (id : ℕ) → is_live role x id ≡ true → granted_by id f + later id ≤ each id) →
        Owes all each acks x → Owes rest_of later more (x ++ Sent f ∷ [])
    say all acks more each later x behind f e plain allowed told rest_of fits fit h = record {
      sends = (only_these_are_sent role limits heads is_asked bytes rest x).sent f allowed (placed x behind f e) h.sends;
      asked = omega (
        arith,
        h.asked,
        told,
        ap (λ (fs : List Frame). length (acks_for fs)) (received_sent x f),
        ap (λ (fs : List Frame). length (acks_in fs)) (sent_push x f),
        ap length (acked_more (sent x) (f ∷ [])),
        length-append (acks_in (sent x)) (acks_in (f ∷ [])),
      );
      whole = λ free. omega (arith, h.whole free, fits free, ap (granted_on 0) (sent_push x f), ap spent (received_sent x f), window_sums_grow.granted_push 0 (sent x) f);
      streams = λ free id lives.
          let before = live_before role x f id plain lives in
          omega (arith, h.streams free id before, fit free id before, ap (granted_on id) (sent_push x f), ap (spent_on id) (received_sent x f), window_sums_grow.granted_push id (sent x) f);
    }

    say_ack : (all : ℕ) (each : ℕ → ℕ) (x behind : List Step) (f : Frame) → w ≡ x ++ Sent f ∷ behind → is_headers f ≡ false → is_window_update f ≡ false → ((is_settings f || is_ping f) && has_ack f) ≡ true →
        length (acks_in (f ∷ [])) ≡ 1 → Owes all each 1 x → Owes 0 nothing 0 (x ++ Sent f ∷ [])
    say_ack all each x behind f e plain quiet is one h =
        say all 1 0 each nothing x behind f e plain
        (acknowledges is
        (front_acknowledged w (x ++ Sent f ∷ []) behind (e ∙ sym (append_assoc x (Sent f ∷ []) behind)) acknowledged
        (omega (
          arith,
          h.asked,
          one,
          ap (λ (fs : List Frame). length (acks_for fs)) (received_sent x f),
          ap (λ (fs : List Frame). length (acks_in fs)) (sent_push x f),
          ap length (acked_more (sent x) (f ∷ [])),
          length-append (acks_in (sent x)) (acks_in (f ∷ [])),
        ))))
        (omega (arith, one)) 0 (λ free. omega (arith, none 0)) (λ free id lives. omega (arith, none id)) h
      where
        none : (id : ℕ) → granted_by id f ≡ 0
        none id = ap (λ (b : Bool). if b && stream_of f == id then increment_of f else 0) quiet

    say_reset : (all acks : ℕ) (each : ℕ → ℕ) (x behind : List Step) (b : FrameBody) → w ≡ x ++ Sent (RstStream b) ∷ behind → MaySend role limits heads is_asked bytes rest x (RstStream b) → Owes all each acks x →
        Owes all each acks (x ++ Sent (RstStream b) ∷ [])
    say_reset all acks each x behind b e allowed h = say all acks acks each each x behind (RstStream b) e refl allowed (omega arith) all (λ free. omega arith) (λ free id lives. omega arith) h

    -- the credit of the connection
    say_all : (k n : ℕ) (x behind : List Step) → (0 < n) → (n < 2 ^ 31) → w ≡ x ++ Sent (update 0 n zero_small) ∷ behind → is_holding ≡ false → Owes n (on k n) 0 x → Owes 0 (on k n) 0 (x ++ Sent (update 0 n zero_small) ∷ [])
    say_all k n x behind some small e free h =
        say n 0 0 (on k n) (on k n) x behind (update 0 n zero_small) e refl (credits n refl some (h.whole free)) (omega arith) 0 (λ f. omega (arith, granted_says 0 n zero_small small))
        (λ f id lives. let apart = zero_apart id (increment_of (update 0 n zero_small)) (live_number role x id lives).0 in omega (arith, apart)) h
      where
        zero_apart : (id m : ℕ) → 0 < id → (if 0 == id then m else 0) ≡ 0
        zero_apart id m above = by (0 == id) refl
          where
            by : (b : Bool) → (0 == id) ≡ b → (if b then m else 0) ≡ 0
            by true same = absurd (grind (arith, nat_tests))
            by false same = refl

    -- and of a live stream
    say_one : (id n : ℕ) (x behind : List Step) (small : id < 2 ^ 31) → (0 < n) → (n < 2 ^ 31) → w ≡ x ++ Sent (update id n small) ∷ behind → is_holding ≡ false → is_live role x id ≡ true → Owes 0 (on id n) 0 x →
        Owes 0 nothing 0 (x ++ Sent (update id n small) ∷ [])
    say_one id n x behind small some fits e free lives h =
        say 0 0 0 (on id n) nothing x behind (update id n small) e refl (credits_stream id n refl some lives (omega (arith, h.streams free id lives, self_on id n))) (omega arith) 0
        (λ f. let apart = above_apart id (increment_of (update id n small)) (live_number role x id lives).0 in omega (arith, apart))
        (λ f k live. let same = ap (λ (m : ℕ). on id m k) (granted_says id n small fits) in omega (arith, same)) h
      where
        self_on : (id n : ℕ) → on id n id ≡ n
        self_on id n = by (id == id) refl
          where
            by : (b : Bool) → (id == id) ≡ b → (if b then n else 0) ≡ n
            by true same = refl
            by false same = absurd (grind (arith, nat_tests))

        above_apart : (id m : ℕ) → 0 < id → (if id == 0 then m else 0) ≡ 0
        above_apart id m above = by (id == 0) refl
          where
            by : (b : Bool) → (id == 0) ≡ b → (if b then m else 0) ≡ 0
            by true same = absurd (grind (arith, nat_tests))
            by false same = refl

    -- ---- the frames that answer one

    abbrev Answered : List Step → List Frame → Type 0
    Answered y fs = Owes 0 nothing 0 (y ++ map Sent fs)

    none_answer : (all acks : ℕ) (each : ℕ → ℕ) (y : List Step) (fs : List Frame) → flat_map frame_text fs ≡ [] → Owes all each acks y → Answered y fs
    none_answer all acks each y fs text h =
        subst (λ (gs : List Frame). Answered y gs) (sym (same_frames fs [] text)) (subst (Owes 0 nothing 0) (sym (append-nil y)) (less all acks each y h))

    one_answers : (y more : List Step) (fs : List Frame) (f : Frame) → w ≡ y ++ (map Sent fs ++ more) → flat_map frame_text fs ≡ frame_text f ++ [] → (w ≡ y ++ Sent f ∷ more → Owes 0 nothing 0 (y ++ Sent f ∷ [])) → Answered y fs
    one_answers y more fs f e text k =
        let same : fs ≡ f ∷ [] = same_frames fs (f ∷ []) text in
        subst (λ (gs : List Frame). Answered y gs) (sym same) (k (e ∙ ap (λ (gs : List Frame). y ++ (map Sent gs ++ more)) same))

    credit : (id n : ℕ) (y more : List Step) (fs : List Frame) → id < 2 ^ 31 → n ≤ 16384 → w ≡ y ++ (map Sent fs ++ more) → is_holding ≡ false → flat_map frame_text fs ≡ credit_text role y id n → Owes n (on id n) 0 y → Answered y fs
    credit id n y more fs small fits e free text h = by (n == 0) refl
      where
        lives_by : (0 < n) → (l : Bool) → is_live role y id ≡ l → flat_map frame_text fs ≡ update_text 0 n ++ (if l then update_text id n else []) → Answered y fs
        lives_by some false dead both = one_answers y more fs (update 0 n zero_small) e both (λ at. less 0 0 (on id n) _ (say_all id n y more some (omega (arith, fits)) at free h))
        lives_by some true lives both =
            let first : Frame = update 0 n zero_small in
            let second : Frame = update id n small in
            let same : fs ≡ first ∷ second ∷ [] = same_frames fs (first ∷ second ∷ []) (both ∙ ap (λ (l : List ℕ). update_text 0 n ++ l) (sym (append-nil (update_text id n)))) in
            let at : w ≡ y ++ Sent first ∷ Sent second ∷ more = e ∙ ap (λ (gs : List Frame). y ++ (map Sent gs ++ more)) same in
            let split : (y ++ Sent first ∷ []) ++ Sent second ∷ [] ≡ y ++ Sent first ∷ Sent second ∷ [] = append_assoc y (Sent first ∷ []) (Sent second ∷ []) in
            subst (λ (gs : List Frame). Answered y gs) (sym same)
            (subst (Owes 0 nothing 0) split
            (say_one id n (y ++ Sent first ∷ []) more small some (omega (arith, fits)) (at ∙ sym (append_assoc y (Sent first ∷ []) (Sent second ∷ more))) free
            (live_same role y _ id ∙ lives) (say_all id n y (Sent second ∷ more) some (omega (arith, fits)) at free h)))

        by : (b : Bool) → (n == 0) ≡ b → Answered y fs
        by true none = none_answer n 0 (on id n) y fs (text ∙ ap (λ (b : Bool). if b then [] else update_text 0 n ++ (if is_live role y id then update_text id n else [])) none) h
        by false some =
            lives_by (grind (arith, nat_tests)) (is_live role y id) refl
            (text ∙ ap (λ (b : Bool). if b then [] else update_text 0 n ++ (if is_live role y id then update_text id n else [])) some)

    credit_if : (held : Bool) (acks id n : ℕ) (y more : List Step) (fs : List Frame) → is_holding ≡ held → id < 2 ^ 31 → n ≤ 16384 → w ≡ y ++ (map Sent fs ++ more) → flat_map frame_text fs ≡ (if held then [] else credit_text role y id n) →
        Owes n (on id n) acks y → Answered y fs
    credit_if true acks id n y more fs is small fits e text h = none_answer n acks (on id n) y fs text h
    credit_if false acks id n y more fs is small fits e text h =
        credit id n y more fs small fits e is text (record { sends = h.sends; asked = omega (arith, h.asked); whole = h.whole; streams = h.streams })

    counts_few : (f : Frame) → counted f ≤ 16384
    counts_few (Content b) = b.payload_in_range
    counts_few other = omega arith

    -- the credit of a frame
    credited : (f : Frame) (acks : ℕ) (y more : List Step) (fs : List Frame) → w ≡ y ++ (map Sent fs ++ more) → flat_map frame_text fs ≡ credit_for role is_holding y f → Owes (counted f) (on (stream_of f) (counted f)) acks y → Answered y fs
    credited f acks y more fs e text h = credit_if is_holding acks (stream_of f) (counted f) y more fs refl (body_of f).stream_in_range (counts_few f) e text h

    no_credit : (held : Bool) → ◌≡◌ {A = List ℕ} (if held then [] else []) []
    no_credit true = refl
    no_credit false = refl

    abbrev Heard : Frame → List Step → Type 0
    Heard f y = Owes (counted f) (on (stream_of f) (counted f)) (length (acks_for (f ∷ []))) y

    ping : (b : FrameBody) (h : Bool) (y more : List Step) (fs : List Frame) → has_ack (Ping b) ≡ h → w ≡ y ++ (map Sent fs ++ more) → flat_map frame_text fs ≡ text_or_none (ack_for (Ping b)) ++ (if is_holding then [] else []) → Heard (Ping b) y → Answered y fs
    ping b true y more fs is e text owes = none_answer _ _ _ y fs (text ∙ rw (is, no_credit is_holding) refl) owes
    ping b false y more fs is e text owes =
        one_answers y more fs (Ping (body 1 0 b.payload (omega arith) b.payload_in_range)) e (text ∙ rw (is, no_credit is_holding) refl)
        (λ at. say_ack 0 (on b.stream 0) y more (Ping (body 1 0 b.payload (omega arith) b.payload_in_range)) at refl refl refl refl (subst (λ (n : ℕ). Owes 0 (on b.stream 0) n y) (rw is refl) owes))

    settings : (b : FrameBody) (h : Bool) (y more : List Step) (fs : List Frame) → has_ack (Settings b) ≡ h → w ≡ y ++ (map Sent fs ++ more) → flat_map frame_text fs ≡ text_or_none (ack_for (Settings b)) ++ (if is_holding then [] else []) → Heard (Settings b) y → Answered y fs
    settings b true y more fs is e text owes = none_answer _ _ _ y fs (text ∙ rw (is, no_credit is_holding) refl) owes
    settings b false y more fs is e text owes =
        one_answers y more fs (Settings (body 1 0 [] (omega arith) (omega arith))) e (text ∙ rw (is, no_credit is_holding) refl)
        (λ at. say_ack 0 (on b.stream 0) y more (Settings (body 1 0 [] (omega arith) (omega arith))) at refl refl refl refl (subst (λ (n : ℕ). Owes 0 (on b.stream 0) n y) (rw is refl) owes))

    plain_answer : (f : Frame) (y more : List Step) (fs : List Frame) → w ≡ y ++ (map Sent fs ++ more) → flat_map frame_text fs ≡ text_or_none (ack_for f) ++ credit_for role is_holding y f → Heard f y → Answered y fs
    plain_answer (Ping b) y more fs e text owes = ping b (has_ack (Ping b)) y more fs refl e text owes
    plain_answer (Settings b) y more fs e text owes = settings b (has_ack (Settings b)) y more fs refl e text owes
    plain_answer other y more fs e text owes = credited other _ y more fs e text owes

    -- behind a frame that stops nothing
    answered : (why : Option ErrorCode) (past more : List Step) (f : Frame) (fs : List Frame) → stream_error role limits heads past f ≡ why → stop_of role limits heads (past ++ Received f ∷ []) ≡ None → AreReplyBy why role is_holding past f fs →
        w ≡ (past ++ Received f ∷ []) ++ (map Sent fs ++ more) → Heard f (past ++ Received f ∷ []) → Answered (past ++ Received f ∷ []) fs
    answered None past more f fs error clear reply e owes = plain_answer f (past ++ Received f ∷ []) more fs e reply owes
    answered (Some why) past more f fs error clear (reset, later, are, text, credit_is) e owes =
        let y = past ++ Received f ∷ [] in
        let word : Frame = RstStream (body 0 (stream_of f) (to_be_bytes w32 why.0) (body_of f).stream_in_range (omega arith)) in
        let is : reset ≡ word = one_frame reset word text in
        let at : w ≡ y ++ Sent word ∷ (map Sent later ++ more) = e ∙ ap (λ (gs : List Frame). y ++ (map Sent gs ++ more)) (are ∙ ap (λ (g : Frame). g ∷ later) is) in
        let behind : Heard f (y ++ Sent word ∷ []) =
        say_reset _ _ _ y (map Sent later ++ more) (body 0 (stream_of f) (to_be_bytes w32 why.0) (body_of f).stream_in_range (omega arith)) at
        (resets_error (past, f, why, refl, clear, error, refl)) owes in
        let split : (y ++ Sent word ∷ []) ++ map Sent later ≡ y ++ map Sent fs =
        append_assoc y (Sent word ∷ []) (map Sent later) ∙ ap (λ (gs : List Frame). y ++ map Sent gs) (sym (are ∙ ap (λ (g : Frame). g ∷ later) is)) in
        let now : credit_for role is_holding (past ++ Received f ∷ Sent reset ∷ []) f ≡ credit_for role is_holding (y ++ Sent word ∷ []) f =
        ap (λ (g : Frame). credit_for role is_holding (past ++ Received f ∷ Sent g ∷ []) f) is ∙ ap (λ (x : List Step). credit_for role is_holding x f) (sym (append_assoc past (Received f ∷ []) (Sent word ∷ []))) in
        subst (Owes 0 nothing 0) split
        (credited f _ (y ++ Sent word ∷ []) more later (at ∙ sym (append_assoc y (Sent word ∷ []) (map Sent later ++ more))) (credit_is ∙ now) behind)

    -- all that is received, and what answers it, up to a front of the whole
    pub all_answered : (x more behind : List Step) → Receives role limits is_holding heads x more → w ≡ x ++ (more ++ behind) → Owes 0 nothing 0 x → SendsOnly role limits heads is_asked bytes rest (x ++ more)
    all_answered x more behind (ends past) e h = subst (SendsOnly role limits heads is_asked bytes rest) (sym (append-nil x)) h.sends
    all_answered x more behind (goes past later f fs clear reply others) e h =
        let y = x ++ Received f ∷ [] in
        let tail : (map Sent fs ++ later) ++ behind ≡ map Sent fs ++ (later ++ behind) = append_assoc (map Sent fs) later behind in
        let at : w ≡ y ++ (map Sent fs ++ (later ++ behind)) = e ∙ sym (append_assoc x (Received f ∷ []) ((map Sent fs ++ later) ++ behind)) ∙ ap (λ (l : List Step). y ++ l) tail in
        let split : y ++ map Sent fs ≡ x ++ Received f ∷ map Sent fs = append_assoc x (Received f ∷ []) (map Sent fs) in
        let now : Owes 0 nothing 0 (x ++ Received f ∷ map Sent fs) = subst (Owes 0 nothing 0) split (answered (stream_error role limits heads x f) x (later ++ behind) f fs refl clear reply at (hear x f h)) in
        let there : w ≡ (x ++ Received f ∷ map Sent fs) ++ (later ++ behind) = at ∙ sym (append_assoc y (map Sent fs) (later ++ behind)) ∙ ap (λ (l : List Step). l ++ (later ++ behind)) split in
        subst (SendsOnly role limits heads is_asked bytes rest) (append_assoc x (Received f ∷ map Sent fs) later)
        (all_answered (x ++ Received f ∷ map Sent fs) later behind others there now)
    all_answered x more behind (stops past f stop clear stopped) e h = (only_these_are_sent role limits heads is_asked bytes rest x).received f h.sends
