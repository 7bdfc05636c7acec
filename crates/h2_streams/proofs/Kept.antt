-- A server keeps its place for a new stream behind a received frame.
use Rattle.std.proofs.Common.{◌≡◌, ℕ, ◌+◌, ◌-◌, ◌<◌, ◌≤◌, Bool, true, false, ◌&&◌, ◌||◌, List, [], ◌∷◌, ◌++◌, length, Option, Some, None, refl, sym, ap, ◌∙◌, arith, subst}
use Rattle.std.specs.Prelude.{not, nat_lt, find, is_some, option_map, ◌==◌, if◌then◌else◌}
use Rattle.std.specs.Option.{option_or}
use Rattle.std.proofs.lemmas.Bool.Decides.{nat_tests}
use Rattle.std.proofs.lemmas.List.{length-append}
use Rattle.h2_frames.specs.declared.code.ErrorCode.{ErrorCode}
use Rattle.h2_frames.specs.declared.code.TheConstants.ErrorCode as code
use Rattle.h2_frames.specs.declared.frame.Frame.{Frame}
use Rattle.h2_frames.specs.declared.frame.Frame.TheVariants.{Content, Headers, Priority, RstStream, Settings, PushPromise, Ping, GoAway, WindowUpdate, Continuation, Unknown}
use Rattle.h2_exchange.specs.declared.role.Role.{Role}
use Rattle.h2_exchange.specs.declared.role.Role.TheVariants.{Client, Server}
use Rattle.h2_exchange.specs.Exchange.{first_broken}
use Rattle.h2_exchange.specs.Frames.{stream_of, is_headers, is_rst_stream, has_end_stream, has_end_headers}
use Rattle.h2_exchange.specs.Rules.{is_client, breaks_block_on}
use Rattle.h2_exchange.specs.Streams.{is_odd}
use Rattle.h2_streams.specs.declared.live.StreamOutcome.{StreamOutcome}
use Rattle.h2_streams.specs.declared.live.StreamOutcome.TheVariants.{NoStream, Over, Alive}
use Rattle.h2_streams.specs.declared.live.Stream.{Stream}
use Rattle.h2_streams.specs.Live.{is_stream, replaced, without, with_outcome, is_headless, is_waiting, HasPlace}
use Rattle.h2_streams.specs.ConnectionErrors.{frame_error_in, live_error_in}
use Rattle.h2_streams.specs.Receiving.{block_with, completed_by, left_open, is_new_in, seen_in, is_full_in, block_error_in, fault_on, fault_in, changed_in, left_as, outcome_on, live_behind}
use Rattle.h2_streams.specs.Set.{Set, at, new_stream}
use Rattle.h2_streams.proofs.Lists.{eqb_is, self_eq}
use Rattle.h2_streams.proofs.Places.{replaced_length, without_fewer, without_found, found_id, waits_replaced}
use Rattle.h2_streams.proofs.Sound.{IsSound, is_sound}

no_truth : true ≡ false → ⊥
no_truth e = cc

settled_fewer : (k : ℕ) (outcome : StreamOutcome) (xs : List Stream) → length (with_outcome false k outcome xs) ≤ length xs
settled_fewer k NoStream xs = omega arith
settled_fewer k Over xs = without_fewer k xs
settled_fewer k (Alive t) xs = omega (arith, replaced_length k t xs)

pub found_last : (k : ℕ) (t : Stream) (xs : List Stream) → find (is_stream k) xs ≡ None → is_stream k t ≡ true → find (is_stream k) (xs ++ t ∷ []) ≡ Some t
found_last k t [] e f = ap (λ (b : Bool). if b then Some t else None) f
found_last k t (s ∷ xs) e f = by (is_stream k s) (find (is_stream k) xs) (λ g. found_last k t xs g f) e
  where
    by : (b : Bool) (later : Option Stream) → (later ≡ None → find (is_stream k) (xs ++ t ∷ []) ≡ Some t) → (if b then Some s else later) ≡ None → (if b then Some s else find (is_stream k) (xs ++ t ∷ [])) ≡ Some t
    by true later r e = absurd cc
    by false later r e = r e

or_none : (a b : Option ErrorCode) → option_or a b ≡ None → b ≡ None
or_none None b e = e
or_none (Some v) b e = absurd cc

-- ---- a header block whose stream is no error has room for it

has_room : (h l full : Bool) (p q r : ErrorCode) (t : Bool) → first_broken ((t, p) ∷ (h && not l, q) ∷ (not h && full, r) ∷ []) ≡ None → h ≡ false → full ≡ false
has_room true l full p q r t e f = absurd cc
has_room false l full p q r true e f = absurd cc
has_room false l true p q r false e f = absurd cc
has_room false l false p q r false e f = refl

few_others : (r : Role) (n : ℕ) (streams : ℕ) → r ≡ Server → (not (is_client r) && not (nat_lt n streams)) ≡ false → n < streams
few_others r n streams e f = by (nat_lt n streams) refl (ap (λ (q : Role). not (is_client q) && not (nat_lt n streams)) (sym e) ∙ f)
  where
    by : (t : Bool) → nat_lt n streams ≡ t → not (nat_lt n streams) ≡ false → n < streams
    by true g h = grind (arith, nat_tests)
    by false g h = absurd (no_truth (sym (ap not g) ∙ h))

new_facts : (c h o l n : Bool) → (not c && (h && o && l) && n) ≡ true → (h ≡ true) × (n ≡ true)
new_facts true h o l n e = absurd cc
new_facts false true true true true e = (refl, refl)
new_facts false true true true false e = absurd cc
new_facts false true true false n e = absurd cc
new_facts false true false l n e = absurd cc
new_facts false false o l n e = absurd cc

not_new : (c h o l n : Bool) → h ≡ false → (not c && (h && o && l) && n) ≡ false
not_new true h o l n e = refl
not_new false true o l n e = absurd cc
not_new false false o l n e = refl

is_none : (o : Option Stream) → not (is_some o) ≡ true → o ≡ None
is_none None e = refl
is_none (Some t) e = absurd cc

-- HEADERS alone begin a block, and CONTINUATION alone goes on with one
pub begins_block : (f : Frame) → is_headers f ≡ true → block_with None f ≡ Some (stream_of f, has_end_stream f)
begins_block (Headers b) e = refl
begins_block (Content b) e = absurd cc
begins_block (Priority b) e = absurd cc
begins_block (RstStream b) e = absurd cc
begins_block (Settings b) e = absurd cc
begins_block (PushPromise b) e = absurd cc
begins_block (Ping b) e = absurd cc
begins_block (GoAway b) e = absurd cc
begins_block (WindowUpdate b) e = absurd cc
begins_block (Continuation b) e = absurd cc
begins_block (Unknown other b) e = absurd cc

pub goes_on : (block : ℕ × Bool) (f : Frame) → breaks_block_on (Some block.0) f ≡ false → (is_headers f ≡ false) × ((stream_of f ≡ block.0) × (block_with (Some block) f ≡ Some block))
goes_on block (Continuation b) e = (refl, (by (b.stream == block.0) refl e, refl))
  where
    by : (t : Bool) → (b.stream == block.0) ≡ t → not t ≡ false → b.stream ≡ block.0
    by true g h = eqb_is b.stream block.0 g
    by false g h = absurd cc
goes_on block (Headers b) e = absurd cc
goes_on block (Content b) e = absurd cc
goes_on block (Priority b) e = absurd cc
goes_on block (RstStream b) e = absurd cc
goes_on block (Settings b) e = absurd cc
goes_on block (PushPromise b) e = absurd cc
goes_on block (Ping b) e = absurd cc
goes_on block (GoAway b) e = absurd cc
goes_on block (WindowUpdate b) e = absurd cc
goes_on block (Unknown other b) e = absurd cc

-- ---- the place

module _ (s : Set) (f : Frame) (places : ℕ) (server : s.role ≡ Server) (streams_fit : s.limits.streams < places) (le : length s.live ≤ places) where
  abbrev k : ℕ
  k = stream_of f

  abbrev Kept : Type 0
  Kept = is_waiting (left_open s.block f) (live_behind s f) ≡ false → length (live_behind s f) < places

  -- a stream that was live before
  abbrev Old : Type 0
  Old = live_behind s f ≡ with_outcome false k (outcome_on s f (fault_on s f (at k s)) (at k s)) s.live

  old_is : is_new_in s f ≡ false → Old
  old_is e = ap (λ (n : Bool). with_outcome n k (outcome_on s f (fault_on s f (if n then Some (new_stream s.limits k) else at k s)) (if n then Some (new_stream s.limits k) else at k s)) s.live) e

  new_is : is_new_in s f ≡ true → live_behind s f ≡ with_outcome true k (outcome_on s f (fault_on s f (Some (new_stream s.limits k))) (Some (new_stream s.limits k))) s.live
  new_is e = ap (λ (n : Bool). with_outcome n k (outcome_on s f (fault_on s f (if n then Some (new_stream s.limits k) else at k s)) (if n then Some (new_stream s.limits k) else at k s)) s.live) e

  has_room_here : (t : Stream) (block : ℕ × Bool) → fault_on s f (Some t) ≡ None → completed_by s.block f ≡ Some block → t.has_head ≡ false → is_full_in s f ≡ false
  has_room_here t block e c g =
      has_room t.has_head block.1 (is_full_in s f) code.STREAM_CLOSED code.PROTOCOL_ERROR code.REFUSED_STREAM t.is_closed_remote
      (ap (block_error_in s f t) (sym c) ∙ or_none (live_error_in s f t) (block_error_in s f t (completed_by s.block f)) e) g

  same_head : (t : Stream) → completed_by s.block f ≡ None → (changed_in s f t).has_head ≡ t.has_head
  same_head t c = ap (λ (o : Option (ℕ × Bool)). t.has_head || is_some o) c ∙ or_nothing t.has_head
    where
      or_nothing : (a : Bool) → (a || false) ≡ a
      or_nothing true = refl
      or_nothing false = refl

  -- a new stream
  module _ (block_none : s.block ≡ None) (is_new : is_new_in s f ≡ true) (lt : length s.live < places) where
    abbrev t : Stream
    t = new_stream s.limits k

    facts : (is_headers f ≡ true) × (not (is_some (at k s)) ≡ true)
    facts = new_facts (is_client s.role) (is_headers f) (is_odd k) (nat_lt s.highest k) (not (is_some (at k s))) is_new

    opened : block_with s.block f ≡ Some (k, has_end_stream f)
    opened = ap (λ (o : Option (ℕ × Bool)). block_with o f) block_none ∙ begins_block f facts.0

    push : (u : Stream) → live_behind s f ≡ with_outcome true k (Alive u) s.live → u.id ≡ k → u.has_head ≡ (t.has_head || is_some (completed_by s.block f)) → fault_on s f (Some t) ≡ None → Kept
    push u is id_is head_is sound = by (has_end_headers f) refl
      where
        long : length (live_behind s f) ≡ length s.live + 1
        long = ap length is ∙ length-append s.live (u ∷ [])

        by : (c : Bool) → has_end_headers f ≡ c → Kept
        by true e = λ w.
            let completed : completed_by s.block f ≡ Some (k, has_end_stream f) = ap (λ (b : Bool). if b then block_with s.block f else None) e ∙ opened in
            let few : length s.live < s.limits.streams = few_others s.role (length s.live) s.limits.streams server (ap (λ (n : Bool). not (is_client s.role) && not (nat_lt (if n then length s.live else length s.live - 1) s.limits.streams)) (sym is_new) ∙ has_room_here t (k, has_end_stream f) sound completed refl) in
            omega (arith, long, few, streams_fit)
        by false e = λ w.
            let completed : completed_by s.block f ≡ None = ap (λ (b : Bool). if b then block_with s.block f else None) e in
            let open_is : left_open s.block f ≡ Some (k, has_end_stream f) = ap (λ (b : Bool). if b then None else block_with s.block f) e ∙ opened in
            let headless : u.has_head ≡ false = head_is ∙ ap (λ (o : Option (ℕ × Bool)). is_some o) completed in
            let found : find (is_stream k) (live_behind s f) ≡ Some u = ap (find (is_stream k)) is ∙ found_last k u s.live (is_none (at k s) facts.1) (ap (λ (n : ℕ). n == k) id_is ∙ self_eq k) in
            absurd (no_truth (sym (ap (λ (o : Option (ℕ × Bool)). is_waiting o (live_behind s f)) open_is ∙ ap is_headless found ∙ ap not headless) ∙ w))

    new_kept : Kept
    new_kept = by (fault_on s f (Some t)) refl
      where
        by : (fault : Option ErrorCode) → fault_on s f (Some t) ≡ fault → Kept
        by (Some why) e = λ w. omega (arith, lt, ap length (new_is is_new ∙ ap (λ (o : Option ErrorCode). with_outcome true k (outcome_on s f o (Some t)) s.live) e))
        by None e = by_end (is_rst_stream f || (changed_in s f t).is_closed_remote && (changed_in s f t).is_closed_local) refl
          where
            is : live_behind s f ≡ with_outcome true k (left_as f (changed_in s f t)) s.live
            is = new_is is_new ∙ ap (λ (o : Option ErrorCode). with_outcome true k (outcome_on s f o (Some t)) s.live) e

            by_end : (b : Bool) → (is_rst_stream f || (changed_in s f t).is_closed_remote && (changed_in s f t).is_closed_local) ≡ b → Kept
            by_end true g = λ w. omega (arith, lt, ap length (is ∙ ap (λ (b : Bool). with_outcome true k (if b then Over else Alive (changed_in s f t)) s.live) g))
            by_end false g = push (changed_in s f t) (is ∙ ap (λ (b : Bool). with_outcome true k (if b then Over else Alive (changed_in s f t)) s.live) g) refl refl e

  -- a stream that was live, where the frame goes on with a header block
  module _ (block : ℕ × Bool) (block_some : s.block ≡ Some block) (before_stop : breaks_block_on (Some block.0) f ≡ false) (h : is_headless (find (is_stream block.0) s.live) ≡ false → length s.live < places) where
    going_facts : (is_headers f ≡ false) × ((k ≡ block.0) × (block_with (Some block) f ≡ Some block))
    going_facts = goes_on block f before_stop

    h_k : is_headless (at k s) ≡ false → length s.live < places
    h_k e = h (ap (λ (n : ℕ). is_headless (find (is_stream n) s.live)) (sym going_facts.1.0) ∙ e)

    old : Old
    old = old_is (not_new (is_client s.role) (is_headers f) (is_odd k) (nat_lt s.highest k) (not (is_some (at k s))) going_facts.0)

    same_block : block_with s.block f ≡ Some block
    same_block = ap (λ (o : Option (ℕ × Bool)). block_with o f) block_some ∙ going_facts.1.1

    fewer : length s.live < places → Kept
    fewer lt = λ w. omega (arith, lt, ap length old, settled_fewer k (outcome_on s f (fault_on s f (at k s)) (at k s)) s.live)

    over : (t : Stream) → at k s ≡ Some t → live_behind s f ≡ without k s.live → Kept
    over t found is = λ w. omega (arith, le, ap length is, without_found k t s.live found)

    module _ (t : Stream) (found : at k s ≡ Some t) where
      is : live_behind s f ≡ with_outcome false k (outcome_on s f (fault_on s f (Some t)) (Some t)) s.live
      is = old ∙ ap (λ (o : Option Stream). with_outcome false k (outcome_on s f (fault_on s f o) o) s.live) found

      -- the block goes on: the stream waits as before
      waits : has_end_headers f ≡ false → (u : Stream) → u.id ≡ k → u.has_head ≡ t.has_head → live_behind s f ≡ replaced k u s.live → Kept
      waits e u id_is head_is same = λ w.
          let open_is : left_open s.block f ≡ Some block = ap (λ (b : Bool). if b then None else block_with s.block f) e ∙ same_block in
          let quiet : is_waiting (Some block) s.live ≡ false = sym (waits_replaced (Some block) k t u s.live id_is found head_is) ∙ ap (is_waiting (Some block)) (sym same) ∙ ap (λ (o : Option (ℕ × Bool)). is_waiting o (live_behind s f)) (sym open_is) ∙ w in
          omega (arith, h quiet, ap length same, replaced_length k u s.live)

      -- the block is whole
      whole : has_end_headers f ≡ true → fault_on s f (Some t) ≡ None → Kept
      whole e sound = by t.has_head refl
        where
          completed : completed_by s.block f ≡ Some block
          completed = ap (λ (b : Bool). if b then block_with s.block f else None) e ∙ same_block

          few : t.has_head ≡ false → length s.live - 1 < s.limits.streams
          few g = few_others s.role (length s.live - 1) s.limits.streams server (ap (λ (n : Bool). not (is_client s.role) && not (nat_lt (if n then length s.live else length s.live - 1) s.limits.streams)) (sym (not_new (is_client s.role) (is_headers f) (is_odd k) (nat_lt s.highest k) (not (is_some (at k s))) going_facts.0)) ∙ has_room_here t block sound completed g)

          by : (b : Bool) → t.has_head ≡ b → Kept
          by true g = fewer (h_k (ap is_headless found ∙ ap not g))
          by false g = fewer (omega (arith, few g, streams_fit))

      found_kept : Kept
      found_kept = by (fault_on s f (Some t)) refl (has_end_headers f) refl
        where
          by : (fault : Option ErrorCode) → fault_on s f (Some t) ≡ fault → (c : Bool) → has_end_headers f ≡ c → Kept
          by (Some why) e c g = over t found (is ∙ ap (λ (o : Option ErrorCode). with_outcome false k (outcome_on s f o (Some t)) s.live) e)
          by None e true g = whole g e
          by None e false g = by_end (is_rst_stream f || (changed_in s f t).is_closed_remote && (changed_in s f t).is_closed_local) refl
            where
              is_left : live_behind s f ≡ with_outcome false k (left_as f (changed_in s f t)) s.live
              is_left = is ∙ ap (λ (o : Option ErrorCode). with_outcome false k (outcome_on s f o (Some t)) s.live) e

              by_end : (b : Bool) → (is_rst_stream f || (changed_in s f t).is_closed_remote && (changed_in s f t).is_closed_local) ≡ b → Kept
              by_end true q = over t found (is_left ∙ ap (λ (b : Bool). with_outcome false k (if b then Over else Alive (changed_in s f t)) s.live) q)
              by_end false q =
                  waits g (changed_in s f t) (found_id k t s.live found) (same_head t (ap (λ (b : Bool). if b then block_with s.block f else None) g))
                  (is_left ∙ ap (λ (b : Bool). with_outcome false k (if b then Over else Alive (changed_in s f t)) s.live) q)

    goes_kept : Kept
    goes_kept = by (at k s) refl
      where
        by : (o : Option Stream) → at k s ≡ o → Kept
        by None e = fewer (h_k (ap is_headless e))
        by (Some t) e = found_kept t e

  kept : breaks_block_on (option_map (λ (b : ℕ × Bool). b.0) s.block) f ≡ false → (is_waiting s.block s.live ≡ false → length s.live < places) → Kept
  kept sound h = by s.block refl
    where
      by : (o : Option (ℕ × Bool)) → s.block ≡ o → Kept
      by None e = by_new (is_new_in s f) refl
        where
          lt : length s.live < places
          lt = h (ap (λ (o : Option (ℕ × Bool)). is_waiting o s.live) e)

          by_new : (n : Bool) → is_new_in s f ≡ n → Kept
          by_new true n = new_kept e n lt
          by_new false n = λ w. omega (arith, lt, ap length (old_is n), settled_fewer k (outcome_on s f (fault_on s f (at k s)) (at k s)) s.live)
      by (Some block) e = goes_kept block e (ap (λ (o : Option (ℕ × Bool)). breaks_block_on (option_map (λ (b : ℕ × Bool). b.0) o) f) (sym e) ∙ sound) (λ w. h (ap (λ (o : Option (ℕ × Bool)). is_waiting o s.live) e ∙ w))

pub keeps_place : (s : Set) (f : Frame) (places : ℕ) → IsSound s f → length s.live ≤ places → HasPlace s.role s.limits.streams places s.block s.live → HasPlace s.role s.limits.streams places (left_open s.block f) (live_behind s f)
keeps_place s f places sound le h = by s.role refl h
  where
    by : (r : Role) → s.role ≡ r → HasPlace r s.limits.streams places s.block s.live → HasPlace r s.limits.streams places (left_open s.block f) (live_behind s f)
    by Client e h = tt
    by Server e h = (h.0, kept s f places e h.0 le sound.block h.1)

-- HEADERS begin a stream where no block is open: there is a place for it
pub has_place : (s : Set) (f : Frame) (places : ℕ) → IsSound s f → HasPlace s.role s.limits.streams places s.block s.live → is_new_in s f ≡ true → length s.live < places
has_place s f places sound h new = by s.role refl h
  where
    facts : (is_headers f ≡ true) × (not (is_some (at (stream_of f) s)) ≡ true)
    facts = new_facts (is_client s.role) (is_headers f) (is_odd (stream_of f)) (nat_lt s.highest (stream_of f)) (not (is_some (at (stream_of f) s))) new

    clash : (t : Bool) → t ≡ true → t ≡ false → ⊥
    clash t e g = cc

    by : (r : Role) → s.role ≡ r → HasPlace r s.limits.streams places s.block s.live → length s.live < places
    by Client e h = absurd (no_truth (sym new ∙ ap (λ (r : Role). not (is_client r) && (is_headers f && is_odd (stream_of f) && nat_lt s.highest (stream_of f)) && not (is_some (at (stream_of f) s))) e))
    by Server e h = by_block s.block refl
      where
        by_block : (o : Option (ℕ × Bool)) → s.block ≡ o → length s.live < places
        by_block None g = h.1 (ap (λ (o : Option (ℕ × Bool)). is_waiting o s.live) g)
        by_block (Some block) g = absurd (clash (is_headers f) facts.0 (goes_on block f (ap (λ (o : Option (ℕ × Bool)). breaks_block_on (option_map (λ (b : ℕ × Bool). b.0) o) f) (sym g) ∙ sound.block)).0)

-- the same, of what a call computed
pub keeps_here : (s t : Set) (f : Frame) (places id : ℕ) (new : Bool) (outcome : StreamOutcome) (fault : Option ErrorCode) (seen : Option Stream) (block : Option (ℕ × Bool)) (live : List Stream) →
    s ≡ t → frame_error_in t f ≡ None → id ≡ stream_of f → new ≡ is_new_in t f → seen ≡ seen_in t f → fault ≡ fault_on t f seen → outcome ≡ outcome_on t f fault seen → block ≡ left_open s.block f → live ≡ with_outcome new id outcome s.live →
    length s.live ≤ places → HasPlace s.role s.limits.streams places s.block s.live → HasPlace s.role s.limits.streams places block live
keeps_here s t f places id new outcome fault seen block live same sound i n g e a b l le h =
    subst (λ (o : Option (ℕ × Bool)). HasPlace s.role s.limits.streams places o live) (sym b) (
    subst (λ (ls : List Stream). HasPlace s.role s.limits.streams places (left_open s.block f) ls) (sym live_is) (keeps_place s f places (is_sound s f (ap (λ (u : Set). frame_error_in u f) same ∙ sound)) le h)
    )
  where
    fault_is : fault ≡ fault_in t f
    fault_is = e ∙ ap (fault_on t f) g

    fate_is : outcome ≡ outcome_on t f (fault_in t f) (seen_in t f)
    fate_is = a ∙ ap (λ (o : Option ErrorCode). outcome_on t f o seen) fault_is ∙ ap (outcome_on t f (fault_in t f)) g

    live_is : live ≡ live_behind s f
    live_is =
        l ∙ ap (λ (m : ℕ). with_outcome new m outcome s.live) i ∙ ap (λ (b : Bool). with_outcome b (stream_of f) outcome s.live) n ∙ ap (λ (q : StreamOutcome). with_outcome (is_new_in t f) (stream_of f) q s.live) fate_is
        ∙ ap (λ (u : Set). with_outcome (is_new_in u f) (stream_of f) (outcome_on u f (fault_in u f) (seen_in u f)) s.live) (sym same)
