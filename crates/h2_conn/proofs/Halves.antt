-- A connection that sends one frame of a header block.
use Rattle.std.proofs.Common.{◌≡◌, ℕ, ◌+◌, ◌<◌, ◌≤◌, Bool, true, false, ◌||◌, ◌&&◌, List, [], ◌∷◌, ◌++◌, length, Option, None, refl, sym, ap, subst, ◌∙◌, arith, All}
use Rattle.std.specs.Prelude.{not, option_map, if◌then◌else◌}
use Rattle.std.proofs.lemmas.List.{append_assoc}
use Rattle.h2_frames.specs.declared.frame.Frame.{Frame}
use Rattle.h2_frames.specs.declared.frame.Frame.TheVariants.{Headers, Continuation}
use Rattle.h2_frames.specs.declared.frame.FrameBody.{FrameBody}
use Rattle.h2_frames.specs.Layout.{frame_text}
use Rattle.hpack_tables.specs.declared.field.Field.{Field}
use Rattle.hpack_tables.specs.Writing.{Encoder, fresh}
use Rattle.h2_exchange.specs.declared.limits.H2Limits.{H2Limits}
use Rattle.h2_exchange.specs.declared.limits.CalmCause.TheVariants.{Resets}
use Rattle.h2_exchange.specs.declared.role.Role.{Role}
use Rattle.h2_exchange.specs.Blocks.{Block, blocks, open_block, left_open}
use Rattle.h2_exchange.specs.Compression.{AreWritten, IsWritable}
use Rattle.h2_exchange.specs.Content.{Outcome}
use Rattle.h2_exchange.specs.Events.{Event}
use Rattle.h2_exchange.specs.Exchange.{Step, Sent, received, sent, sent_text}
use Rattle.h2_exchange.specs.Frames.{is_data, is_rst_stream, is_window_update, is_goaway, stream_of}
use Rattle.h2_exchange.specs.Order.{peer_preface, own_preface, end_of}
use Rattle.h2_exchange.specs.Outcomes.{AreKnown, BeginWithFrames, ReadFirst}
use Rattle.h2_exchange.specs.Rules.{breaks_block_on}
use Rattle.h2_exchange.specs.Sending.{acks_in, acks_for, AreAcknowledged, IsPrefix, IsCredited, ResetsErrors}
use Rattle.h2_exchange.specs.Stops.{Calm, stop_of, ends_call, cuts_request, request_bytes, has_request, events}
use Rattle.h2_exchange.specs.Streams.{begins, is_begun, is_live, is_over}
use Rattle.h2_exchange.specs.Windows.{IsWithinWindows, granted_on, spent_on, spent}
use Rattle.h2_exchange.proofs.Staying.{events_stay, stop_stays}
use Rattle.h2_exchange.proofs.Steps.{received_sent, sent_push, header_blocks_grow, begun_push, over_stays}
use Rattle.h2_streams.specs.Set.{Set}
use Rattle.h2_streams.specs.Stands as streams
use Rattle.http_connection.specs.ConnectionTrace.{ConnectionTrace, ArePlaced, style_of, events_in}
use Rattle.h2_conn.specs.State.{State}
use Rattle.h2_conn.specs.Standing.{Going, Stands, HasCredit, ends_of}
use Rattle.h2_conn.specs.Watching.{Watch, IsWatched, IsAsked, asked_on, ended_if, stop_by}
use Rattle.h2_conn.proofs.Lives.{going_push, grants_none}
use Rattle.h2_conn.proofs.Sounds.{is_ack, no_ack, one_more, enough_push, text_push}
use Rattle.h2_conn.proofs.Splits.{placed_push, windows_push, resets_push}
use Rattle.h2_conn.proofs.Watched.{unbegun, count_push, quiet_count, stop_sent, by_counts, bytes_sent, cuts, ends}

-- ---- a frame of a header block

pub record IsBlockPart (f : Frame) : Type 0 where
  pub no_data : is_data f ≡ false
  pub no_reset : is_rst_stream f ≡ false
  pub no_update : is_window_update f ≡ false
  pub no_ack : is_ack f ≡ false
  pub no_goaway : is_goaway f ≡ false

pub headers_part : (b : FrameBody) → IsBlockPart (Headers b)
headers_part b = record { no_data = refl; no_reset = refl; no_update = refl; no_ack = refl; no_goaway = refl }

pub more_part : (b : FrameBody) → IsBlockPart (Continuation b)
more_part b = record { no_data = refl; no_reset = refl; no_update = refl; no_ack = refl; no_goaway = refl }

-- ---- streams

live_known : (before after over stays : Bool) → before ≡ true → (over ≡ true → stays ≡ true) → (after && not stays) ≡ true → (before && not over) ≡ true
live_known true true true stays e s h = let t : stays ≡ true = s refl in absurd cc
live_known true false true stays e s h = absurd cc
live_known true after false stays e s h = refl
live_known false after over stays e s h = absurd cc

pub live_before : (role : Role) (x : List Step) (f : Frame) (id : ℕ) → is_begun role x id ≡ true → is_live role (x ++ Sent f ∷ []) id ≡ true → is_live role x id ≡ true
live_before role x f id e live = live_known (is_begun role x id) (is_begun role (x ++ Sent f ∷ []) id) (is_over x id) (is_over (x ++ Sent f ∷ []) id) e (over_stays x (Sent f ∷ []) id) live

-- ---- what a watch says

same_asked : (e : Bool) (id : ℕ) (w : Watch) → asked_on id (ended_if e w) ≡ asked_on id w
same_asked true id w = refl
same_asked false id w = refl

same_passed : (e : Bool) (w : Watch) → (ended_if e w).is_passed ≡ w.is_passed
same_passed true w = refl
same_passed false w = refl

more_left : (e : Bool) (w : Watch) → (ended_if e w).left ≡ w.left + (if e then 1 else 0)
more_left true w = refl
more_left false w = omega arith

module _ (role : Role) (limits : H2Limits) (heads : List Outcome) (x : List Step) (f : Frame) (e : Bool) (no_reset : is_rst_stream f ≡ false) (no_data : is_data f ≡ false) (ended : ends_call limits heads role x (Sent f) ≡ e) where
  abbrev behind : List Step
  behind = x ++ Sent f ∷ []

  cuts_same : cuts role limits heads behind ≡ cuts role limits heads x
  cuts_same = quiet_count role limits heads (cuts_request role limits heads) x (Sent f)
      (ap (λ (b : Bool). b && is_begun role x (stream_of f) && not (has_request role limits heads x (stream_of f))) no_reset)

  ends_more : ends role limits heads behind ≡ ends role limits heads x + (if e then 1 else 0)
  ends_more = count_push (ends_call limits heads role) x (Sent f) ∙ ap (λ (b : Bool). ends role limits heads x + (if b then 1 else 0)) ended

  asked_by : (w : Watch) → IsWatched role limits heads x w → (id : ℕ) (b : Bool) → is_begun role x id ≡ b → is_live role behind id ≡ true → IsAsked (request_bytes limits heads role x id) (asked_on id w)
  asked_by w h id true p live = h.requests id (live_before role x f id p live)
  asked_by w h id false p live =
      let i = h.idle id p in
      subst (λ (o : Option _). IsAsked (request_bytes limits heads role x id) o) (sym i.1) i.0

  stop_by_passed : (w : Watch) (passed : Bool) → w.is_passed ≡ passed → stop_of role limits heads x ≡ stop_by passed → IsWatched role limits heads x w → stop_of role limits heads behind ≡ stop_by passed
  stop_by_passed w true p stop h = stop_stays role limits heads x (Sent f ∷ []) (Calm Resets) stop
  stop_by_passed w false p stop h =
      stop_sent role limits heads x f stop ∙ by_counts role limits heads (w.left + (if e then 1 else 0)) 0 behind (omega (arith, cuts_same, ends_more, h.counts p))

  pub block_watched : (w : Watch) → stop_of role limits heads x ≡ stop_by w.is_passed → IsWatched role limits heads x w →
      IsWatched role limits heads behind (ended_if e w) × (stop_of role limits heads behind ≡ stop_by (ended_if e w).is_passed)
  block_watched w stop h = (
    record {
      counts = λ p. omega (arith, cuts_same, ends_more, more_left e w, h.counts (sym (same_passed e w) ∙ p));
      requests = λ id live. subst (λ (o : Option _). IsAsked (request_bytes limits heads role behind id) o) (sym (same_asked e id w))
          (subst (λ (b : List ℕ). IsAsked b (asked_on id w)) (sym (bytes_sent role limits heads x f id no_data)) (asked_by w h id (is_begun role x id) refl live));
      idle = λ id none.
          let i = h.idle id (unbegun role x (Sent f) id none) in
          (bytes_sent role limits heads x f id no_data ∙ i.0, same_asked e id w ∙ i.1);
    },
    stop_by_passed w w.is_passed refl stop h ∙ ap stop_by (sym (same_passed e w)),
  )

-- ---- credit

-- a frame that begins at most one stream, on which nothing was granted or received
module _ (role : Role) (limits : H2Limits) (x : List Step) (f : Frame) (k : ℕ) (no_update : is_window_update f ≡ false) (only : (id : ℕ) → begins role id x (Sent f) ≡ true → id ≡ k)
    (fresh_there : granted_on k (sent x) ≡ spent_on k (received x)) where
  new_or : (a b c : Bool) → a ≡ (b || c) → b ≡ false → (d : Bool) → (a && not d) ≡ true → c ≡ true
  new_or a b true e p d h = refl
  new_or true true false e p d h = absurd cc
  new_or true false false e p d h = absurd cc
  new_or false b false e p d h = absurd cc

  new_id : (id : ℕ) → is_begun role x id ≡ false → is_live role (x ++ Sent f ∷ []) id ≡ true → id ≡ k
  new_id id none live = only id (new_or (is_begun role (x ++ Sent f ∷ []) id) (is_begun role x id) (begins role id x (Sent f)) (begun_push role x (Sent f) id) none (is_over (x ++ Sent f ∷ []) id) live)

  equal_by : (h : IsCredited role limits x) (id : ℕ) (b : Bool) → is_begun role x id ≡ b → is_live role (x ++ Sent f ∷ []) id ≡ true → granted_on id (sent x) ≡ spent_on id (received x)
  equal_by h id true e live = h.streams id (live_before role x f id e live)
  equal_by h id false e live = subst (λ (i : ℕ). granted_on i (sent x) ≡ spent_on i (received x)) (sym (new_id id e live)) fresh_there

  within_by : (h : HasCredit true role limits x) (id : ℕ) (b : Bool) → is_begun role x id ≡ b → is_live role (x ++ Sent f ∷ []) id ≡ true → granted_on id (sent x) ≤ spent_on id (received x)
  within_by h id true e live = h.streams id (live_before role x f id e live)
  within_by h id false e live = subst (λ (i : ℕ). granted_on i (sent x) ≤ spent_on i (received x)) (sym (new_id id e live)) (omega (arith, fresh_there))

  pub credited_new : (holds : Bool) → HasCredit holds role limits x → HasCredit holds role limits (x ++ Sent f ∷ [])
  credited_new true h = record {
    whole = omega (arith, h.whole, grants_none x f 0 no_update, ap spent (received_sent x f));
    streams = λ id live. omega (arith, within_by h id (is_begun role x id) refl live, grants_none x f id no_update, ap (spent_on id) (received_sent x f));
  }
  credited_new false h = record {
    whole = ap (λ (n : ℕ). 65535 + n) (grants_none x f 0 no_update) ∙ h.whole ∙ ap (λ (fs : List Frame). limits.window + spent fs) (sym (received_sent x f));
    streams = λ id live. grants_none x f id no_update ∙ equal_by h id (is_begun role x id) refl live ∙ ap (spent_on id) (sym (received_sent x f));
  }

-- ---- what holds while a block is open

pub record Half (c : ConnectionTrace) (output : List ℕ) (enc : Encoder) (o : Option Block) : Type 0 where
  pub front : BeginWithFrames (peer_preface c.role) c.fed (received c.frames)
  pub within : 0 < length (received c.frames) → end_of (peer_preface c.role) (received c.frames) ≤ length c.fed
  pub text : own_preface c.role ++ sent_text c.frames ≡ c.dropped ++ output
  pub read : AreKnown c.role c.limits c.heads c.frames
  pub spelled : AreWritten (fresh (style_of c.role)) [] c.frames c.written enc
  pub writable : All IsWritable c.written
  pub opened : open_block (sent c.frames) ≡ o
  pub given : IsPrefix c.given (events_in c)
  pub placed : ArePlaced c.frames
  pub acknowledged : AreAcknowledged c.frames
  pub windows : IsWithinWindows c.frames

pub record Mid (s : State) (c : ConnectionTrace) (enc : Encoder) (o : Option Block) : Type 0 where
  pub role_is : c.role ≡ s.role
  pub limits_are : c.limits ≡ s.limits
  pub alive : s.refusal ≡ None
  pub unrefused : c.refusal ≡ None
  pub holding_is : c.is_holding ≡ s.is_holding
  pub half : Half c s.output enc o
  pub goes : Going s c (ends_of s.ended) []
  pub resets : ResetsErrors c.role c.limits c.heads c.frames
  pub credited : HasCredit s.is_holding c.role c.limits c.frames

-- the encoder and the written fields are no part of it
same_going : (s : State) (c : ConnectionTrace) (es : List Event) (owed : List (List ℕ)) (enc : Encoder) (written : List (List Field)) → Going s c es owed → Going (record s { encoder = enc }) (record c { written = written }) es owed
same_going s c es owed enc written a = record {
  reader_goes = a.reader_goes;
  reads = a.reads;
  place_is = a.place_is;
  set_is = a.set_is;
  set_role = a.set_role;
  set_limits = a.set_limits;
  decodes = a.decodes;
  block_is = a.block_is;
  given_is = a.given_is;
  acknowledged = a.acknowledged;
  stays = a.stays;
  watched = a.watched;
  stop_is = a.stop_is;
  last_is = a.last_is;
}

pub begins_mid : (s : State) (c : ConnectionTrace) → Stands s c → s.refusal ≡ None → Mid s c s.encoder None
begins_mid s c h alive = record {
  role_is = h.role_is;
  limits_are = h.limits_are;
  alive = alive;
  unrefused = h.refusal_is ∙ alive;
  holding_is = h.holding_is;
  half = record {
    front = h.kept.front;
    within = h.kept.within;
    text = h.kept.text;
    read = h.kept.read;
    spelled = subst (λ (e : Encoder). AreWritten (fresh (style_of c.role)) [] c.frames c.written e) (sym (h.encoder_is alive)) h.kept.spelled;
    writable = h.kept.writable;
    opened = h.kept.closed;
    given = h.kept.given;
    placed = h.kept.placed;
    acknowledged = h.kept.acknowledged;
    windows = h.kept.windows;
  };
  goes = h.goes alive;
  resets = h.resets;
  credited = h.credited alive;
}

pub ends_mid : (s : State) (c : ConnectionTrace) (enc : Encoder) → Mid s c enc None → Stands (record s { encoder = enc }) c
ends_mid s c enc h = record {
  role_is = h.role_is;
  limits_are = h.limits_are;
  refusal_is = h.unrefused ∙ sym h.alive;
  holding_is = h.holding_is;
  last = enc;
  encoder_is = λ e. refl;
  kept = record {
    front = h.half.front;
    within = h.half.within;
    text = h.half.text;
    read = h.half.read;
    spelled = h.half.spelled;
    writable = h.half.writable;
    closed = h.half.opened;
    given = h.half.given;
    placed = h.half.placed;
    acknowledged = h.half.acknowledged;
    windows = h.half.windows;
  };
  resets = h.resets;
  credited = λ e. h.credited;
  goes = λ e. same_going s c (ends_of s.ended) [] enc c.written h.goes;
}

front_more : {A : Type 0} (xs ys zs : List A) → IsPrefix xs ys → IsPrefix ys zs → IsPrefix xs zs
front_more xs ys zs h k = (h.0 ++ k.0, k.1 ∙ ap (λ (l : List _). l ++ k.0) h.1 ∙ append_assoc xs h.0 k.0)

opened_push : (x : List Step) (f : Frame) (o : Option Block) → open_block (sent x) ≡ o → open_block (sent (x ++ Sent f ∷ [])) ≡ left_open o f
opened_push x f o e = ap open_block (sent_push x f) ∙ header_blocks_grow.open_push (sent x) f ∙ ap (λ (p : Option Block). left_open p f) e

module _ (s : State) (c : ConnectionTrace) (enc : Encoder) (o : Option Block) (h : Mid s c enc o) (f : Frame) (part : IsBlockPart f) (outside : breaks_block_on (option_map (λ (b : Block). b.stream) o) f ≡ false)
    (next : Encoder) (written : List (List Field)) (spelled : AreWritten (fresh (style_of c.role)) [] (c.frames ++ Sent f ∷ []) written next) (writable : All IsWritable written) where
  abbrev on : ConnectionTrace
  on = record c { frames = c.frames ++ Sent f ∷ []; written = written }

  acks : acks_in (sent (c.frames ++ Sent f ∷ [])) ≡ acks_in (sent c.frames)
  acks = no_ack c.frames f part.no_ack

  half_push : Half on (s.output ++ frame_text f) next (left_open o f)
  half_push = record {
    front = subst (λ (fs : List Frame). BeginWithFrames (peer_preface c.role) c.fed fs) (sym (received_sent c.frames f)) h.half.front;
    within = subst (λ (fs : List Frame). 0 < length fs → end_of (peer_preface c.role) fs ≤ length c.fed) (sym (received_sent c.frames f)) h.half.within;
    text =
        ap (λ (t : List ℕ). own_preface c.role ++ t) (text_push c.frames f) ∙ sym (append_assoc (own_preface c.role) (sent_text c.frames) (frame_text f))
        ∙ ap (λ (t : List ℕ). t ++ frame_text f) h.half.text ∙ append_assoc c.dropped s.output (frame_text f);
    read = record {
      read = subst (λ (fs : List Frame). ReadFirst [] 4096 (blocks fs) c.heads) (sym (received_sent c.frames f)) h.half.read.read;
      enough = enough_push c.role c.limits c.heads c.frames f h.half.read.enough;
    };
    spelled = spelled;
    writable = writable;
    opened = opened_push c.frames f o h.half.opened;
    given = front_more c.given (events c.role c.limits c.heads c.frames) (events c.role c.limits c.heads (c.frames ++ Sent f ∷ [])) h.half.given (events_stay c.role c.limits c.heads c.frames (Sent f ∷ []));
    placed = placed_push c.frames f h.half.placed (record { block = ap (λ (p : Option Block). breaks_block_on (option_map (λ (b : Block). b.stream) p) f) h.half.opened ∙ outside; alive = h.goes.stays });
    acknowledged = (h.half.acknowledged.0, ap acks_for (received_sent c.frames f) ∙ h.half.acknowledged.1 ∙ ap (λ (l : List (List ℕ)). l ++ h.half.acknowledged.0) (sym acks));
    windows = windows_push c.frames f h.half.windows (λ b e. absurd (let t : true ≡ false = sym (ap is_data e) ∙ part.no_data in cc));
  }

  pub mid_push : (set : Set) (e : Bool) → streams.StandsFor set (c.frames ++ Sent f ∷ []) → set.role ≡ c.role → set.limits ≡ c.limits → HasCredit s.is_holding c.role c.limits (c.frames ++ Sent f ∷ []) →
      ends_call c.limits c.heads c.role c.frames (Sent f) ≡ e → Mid (record s { output = s.output ++ frame_text f; set = set; watch = ended_if e s.watch }) on next (left_open o f)
  mid_push set e stands role limits credit ended =
      let watch = block_watched c.role c.limits c.heads c.frames f e part.no_reset part.no_data ended s.watch h.goes.stop_is h.goes.watched in
      record {
        role_is = h.role_is;
        limits_are = h.limits_are;
        alive = h.alive;
        unrefused = h.unrefused;
        holding_is = h.holding_is;
        half = half_push;
        goes = same_going (record s { output = s.output ++ frame_text f; set = set; watch = ended_if e s.watch }) (one_more f c) (ends_of s.ended) [] s.encoder written
            (going_push s c f (frame_text f) set (ended_if e s.watch) (ends_of s.ended) [] [] h.goes stands role limits (ap (λ (l : List (List ℕ)). l ++ []) acks) part.no_goaway watch.0 watch.1);
        resets = resets_push c.role c.limits c.heads c.frames f h.resets;
        credited = credit;
      }
