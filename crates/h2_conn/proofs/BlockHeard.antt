-- A header block that was read, on a stream or none.
use Rattle.std.proofs.Common.{◌≡◌, ℕ, ◌+◌, Bool, true, false, ◌||◌, ◌&&◌, List, [], ◌∷◌, ◌++◌, Option, Some, None, Ok, refl, sym, ap, subst, ◌∙◌, arith}
use Rattle.std.specs.Prelude.{not, is_some, if◌then◌else◌}
use Rattle.std.specs.Option.{option_or}
use Rattle.std.proofs.lemmas.List.{append-nil}
use Rattle.h2_frames.specs.declared.code.ErrorCode.{ErrorCode}
use Rattle.h2_frames.specs.declared.code.TheConstants.ErrorCode as code
use Rattle.h2_frames.specs.declared.frame.Frame.{Frame}
use Rattle.h2_frames.specs.declared.frame.Frame.TheVariants.{RstStream}
use Rattle.h2_frames.specs.Layout.{size_of as frame_size}
use Rattle.h2_frames.specs.Stream.{place_at}
use Rattle.hpack_tables.specs.declared.field.Field.{Field}
use Rattle.h2_exchange.specs.declared.limits.CalmCause.TheVariants.{HeaderList}
use Rattle.h2_exchange.specs.declared.limits.H2Limits.{H2Limits}
use Rattle.h2_exchange.specs.declared.role.Role.{Role}
use Rattle.h2_exchange.specs.declared.role.Role.TheVariants.{Client, Server}
use Rattle.h2_exchange.specs.Blocks.{Block, completed, open_block}
use Rattle.h2_exchange.specs.Content.{Outcome, is_malformed, outcome_at, outcome_for, stream_error}
use Rattle.h2_exchange.specs.Events.{Event, Head, Reset, bytes_on, events_by, events_of, read_events, sound_events, trailers_events}
use Rattle.h2_exchange.specs.Exchange.{Step, Received, Sent, received}
use Rattle.h2_exchange.specs.Frames.{stream_of}
use Rattle.h2_exchange.specs.Sending.{ResetsErrors}
use Rattle.h2_exchange.specs.StreamErrors.{block_error, completed_error, live_error, stream_error_of}
use Rattle.h2_exchange.specs.Stops.{Calm, ends_call, frame_stop, is_end, request_bytes, stop_at}
use Rattle.h2_exchange.specs.Streams.{begins, has_head, is_begun, is_live, is_live_at}
use Rattle.h2_exchange.proofs.Steps.{begins_once, begun_push}
use Rattle.h2_streams.specs.declared.set.receive.SeenStream.{SeenStream}
use Rattle.h2_streams.specs.Laws.{with_malformed}
use Rattle.h2_streams.specs.Set.{Set, dropped}
use Rattle.h2_streams.specs.Stands as streams
use Rattle.h2_streams.proofs.Malformed.{malformed_blocks}
use Rattle.h2_streams.proofs.Resets.{resets}
use Rattle.std.proofs.lemmas.List.{append_assoc}
use Rattle.http_connection.specs.Answers.{AreReply, AreReplyBy}
use Rattle.http_connection.specs.ConnectionTrace.{ConnectionTrace}
use Rattle.h2_conn.specs.declared.heard.End.TheVariants as by
use Rattle.h2_conn.specs.BlocksRead.{Completes, ReadFaulty, ReadSo}
use Rattle.h2_conn.specs.HeaderParts.{block_tells, call_ended, is_long, is_malformed_by, with_block}
use Rattle.h2_conn.specs.Hears.{Ending, Faulty, Quiet, Sound, Starved, Taken, TookSo}
use Rattle.h2_conn.specs.Receiving.{over_unless, passed, with_reset_of}
use Rattle.h2_conn.specs.State.{State}
use Rattle.h2_conn.specs.Standing.{Going, HasCredit, ends_of}
use Rattle.h2_conn.specs.Steps.{Waiting}
use Rattle.h2_conn.specs.Watching.{IsWatched, Watch}
use Rattle.h2_conn.proofs.BlockRead.{content_goes, long_ends, outcome_is}
use Rattle.h2_conn.proofs.DataHeard.{over_passed, over_said}
use Rattle.h2_conn.proofs.ErrorHeard.{error_goes}
use Rattle.h2_conn.proofs.Further.{resets_known}
use Rattle.h2_conn.proofs.Halting.{starves}
use Rattle.h2_conn.proofs.HeaderParts.{IsPart, begins_above, new_headless, new_live, now_begun, part_credit, part_is, part_watched, says_behind, was_live}
use Rattle.h2_conn.proofs.Hearing.{heard}
use Rattle.h2_conn.proofs.Loose.{bytes_same, live_begun, stop_goes}
use Rattle.h2_conn.proofs.LooseHeard.{no_credit}
use Rattle.h2_conn.proofs.Midway.{Mid, going_of, mid_as}
use Rattle.h2_conn.proofs.Received.{IsQuiet, before, clear_behind, kept, mid, quiet_is, takes, unrefused, watched_before}
use Rattle.h2_conn.proofs.Splits.{resets_heard}

-- ---- what stands behind any completed block

by_bool : (P : Type 0) (b : Bool) → (b ≡ true → P) → (b ≡ false → P) → P
by_bool P true p q = p refl
by_bool P false p q = q refl

or_either : (a b : Bool) → (a || b) ≡ true → a ≡ false → b ≡ true
or_either true b e f = absurd cc
or_either false b e f = e

-- a stream that is live at the frame and was begun was live
pub live_if_begun : (role : Role) (x : List Step) (f : Frame) (k : ℕ) → is_live_at role x f k ≡ true → is_begun role x k ≡ true → is_live role x k ≡ true
live_if_begun role x f k at begun =
    by_bool (is_live role x k ≡ true) (is_live role x k) (λ e. e)
    (λ e. let new : begins role k x (Received f) ≡ true = or_either (is_live role x k) (begins role k x (Received f)) at e in
    let unborn : is_begun role x k ≡ false = begins_once role x (Received f) k new in absurd (let t : true ≡ false = sym begun ∙ unborn in cc))

or_right_is : (a b : Bool) → b ≡ true → (a || b) ≡ true
or_right_is true b e = refl
or_right_is false b e = e

or_left_is : (a b : Bool) → a ≡ true → (a || b) ≡ true
or_left_is true b e = refl
or_left_is false b e = absurd cc

pub begun_at : (role : Role) (x : List Step) (f : Frame) (k : ℕ) → is_live_at role x f k ≡ true → is_begun role (x ++ Received f ∷ []) k ≡ true
begun_at role x f k at =
    begun_push role x (Received f) k
    ∙ by_bool ((is_begun role x k || begins role k x (Received f)) ≡ true) (is_live role x k)
    (λ e. or_left_is (is_begun role x k) (begins role k x (Received f)) (live_begun role x k e))
    (λ e. or_right_is (is_begun role x k) (begins role k x (Received f)) (or_either (is_live role x k) (begins role k x (Received f)) at e))

-- without a stream there is no stream error
dead_by : (live : Bool) (e g h : Option ErrorCode) → option_or (if live then e else None) g ≡ None → h ≡ None → option_or (if live then e else None) h ≡ None
dead_by true None g h p q = q
dead_by true (Some why) g h p q = absurd cc
dead_by false e g h p q = q

-- a stream error of a part stands on a stream that is live at it
fault_live : (live at : Bool) (e : Option ErrorCode) (g : Option ErrorCode) (why : ErrorCode) → (live ≡ true → at ≡ true) → option_or (if live then e else None) (if at then g else None) ≡ Some why → at ≡ true
fault_live true at e g why up p = up refl
fault_live false true e g why up p = refl
fault_live false false e g why up p = absurd cc

module _ (s s0 : State) (c : ConnectionTrace) (f : Frame) (fields : List Field) (ends : Bool) (before_set : Set) (w : Waiting (record s0 { set = before_set }) c f) (k : Completes c f fields ends s.decoder) where
  abbrev pub hs : List Outcome
  hs = c.heads ++ Ok fields ∷ []

  abbrev pub n : ℕ
  n = stream_of f

  pub p : IsPart f
  p = part_is f k.part

  abbrev pub at : Bool
  at = is_live_at c.role c.frames f n

  pub at_is : is_live_at c.role c.frames f k.block.stream ≡ at
  at_is = ap (is_live_at c.role c.frames f) k.on

  abbrev pub malformed : Bool
  malformed = is_malformed_by c.role (has_head (received c.frames) n) fields

  pub error_by : outcome_at hs c.frames f ≡ Some (Ok fields) → stream_error c.role c.limits hs c.frames f ≡ stream_error_of c.role c.limits c.frames f malformed
  error_by o = ap (λ (u : Option Outcome). stream_error_of c.role c.limits c.frames f (is_malformed c.role c.frames f u)) o

  -- the set before the frame
  pub stands_before : streams.StandsFor before_set c.frames
  stands_before = (before (record s0 { set = before_set }) c f [] w).set_is

  role_before : before_set.role ≡ c.role
  role_before = (before (record s0 { set = before_set }) c f [] w).set_role

  limits_before : before_set.limits ≡ c.limits
  limits_before = (before (record s0 { set = before_set }) c f [] w).set_limits

  pub credit_part : HasCredit s0.is_holding c.role c.limits (c.frames ++ Received f ∷ [])
  credit_part = part_credit c.role c.limits c.frames f p.no_count before_set stands_before role_before limits_before s0.is_holding (w.stands.credited w.alive)

  -- what was seen of the head of its stream
  pub head_is : (had : Bool) → had ≡ (is_live c.role c.frames n && has_head (received c.frames) n) → at ≡ true → had ≡ has_head (received c.frames) n
  head_is had e live =
      by_bool (had ≡ has_head (received c.frames) n) (is_live c.role c.frames n)
      (λ was. e ∙ ap (λ (b : Bool). b && has_head (received c.frames) n) was)
      (λ wasnt.
      let new : begins c.role n c.frames (Received f) ≡ true = or_either (is_live c.role c.frames n) (begins c.role n c.frames (Received f)) live wasnt in
      e ∙ ap (λ (b : Bool). b && has_head (received c.frames) n) wasnt ∙ sym (new_headless c.role c.limits c.frames f p.no_count before_set stands_before role_before limits_before n new))

  -- it is live at the frame where it was so, or is so behind it
  pub at_seen : is_live c.role c.frames n ≡ false → is_live c.role (c.frames ++ Received f ∷ []) n ≡ at
  at_seen wasnt =
      by_bool (is_live c.role (c.frames ++ Received f ∷ []) n ≡ at) (begins c.role n c.frames (Received f))
      (λ new. new_live c.role c.limits c.frames f p.no_count before_set stands_before role_before limits_before n p.no_reset new
      ∙ sym (or_right_is (is_live c.role c.frames n) (begins c.role n c.frames (Received f)) new))
      (λ old.
      by_bool (is_live c.role (c.frames ++ Received f ∷ []) n ≡ at) (is_live c.role (c.frames ++ Received f ∷ []) n)
      (λ live.
      let begun : is_begun c.role c.frames n ≡ true =
      left_of (is_begun c.role c.frames n) (begins c.role n c.frames (Received f)) (sym (begun_push c.role c.frames (Received f) n) ∙ live_begun c.role (c.frames ++ Received f ∷ []) n live) old in
      let was : is_live c.role c.frames n ≡ true = was_live c.role c.frames f n begun live in absurd (let t : true ≡ false = sym was ∙ wasnt in cc))
      (λ dead. dead ∙ sym (both_false (is_live c.role c.frames n) (begins c.role n c.frames (Received f)) wasnt old)))
    where
      left_of : (a b : Bool) → (a || b) ≡ true → b ≡ false → a ≡ true
      left_of true b e g = refl
      left_of false b e g = absurd (let t : true ≡ false = sym e ∙ g in cc)

      both_false : (a b : Bool) → a ≡ false → b ≡ false → (a || b) ≡ false
      both_false true b e g = absurd cc
      both_false false b e g = g

  -- nothing else than its own stream begins
  pub back : (j : ℕ) → (j ≡ n → ⊥) → is_live c.role (c.frames ++ Received f ∷ []) j ≡ true → is_live c.role c.frames j ≡ true
  back j other live =
      by_bool (is_live c.role c.frames j ≡ true) (is_begun c.role c.frames j)
      (λ begun. was_live c.role c.frames f j begun live)
      (λ unborn. absurd (other (sym (begins_above c.role c.frames f j (now_begun c.role c.frames f j unborn live)).2)))

-- ---- a block that is no stream error by itself

-- what it tells as events
abbrev pub told_by : Role → Bool → ℕ → List Field → Bool → List Event
told_by role had id fields last = if had then trailers_events role id fields else Head id fields last ∷ []

tells_so : (role : Role) (had : Bool) (c : ConnectionTrace) (f : Frame) (id : ℕ) (fields : List Field) (last : Bool) (t : State) → Taken t c (told_by role had id fields last) → TookSo c f (block_tells role had id fields last) t
tells_so Server true c f id fields last t h = h
tells_so Server false c f id fields last t h = h
tells_so Client true c f id fields last t h = h
tells_so Client false c f id fields last t h = h

no_bytes : (role : Role) (had : Bool) (id : ℕ) (fields : List Field) (last : Bool) (j : ℕ) → bytes_on j (told_by role had id fields last) ≡ []
no_bytes Server true id fields last j = refl
no_bytes Server false id fields last j = refl
no_bytes Client true id fields last j = refl
no_bytes Client false id fields last j = refl

-- the call that ends with it
abbrev ending_by : Role → Bool → Bool
ending_by Server last = last
ending_by Client last = false

ended_asked : (role : Role) (last : Bool) (v : Watch) → (call_ended role last v).asked ≡ v.asked
ended_asked Server true v = refl
ended_asked Server false v = refl
ended_asked Client last v = refl

ended_passed : (role : Role) (last : Bool) (v : Watch) → (call_ended role last v).is_passed ≡ v.is_passed
ended_passed Server true v = refl
ended_passed Server false v = refl
ended_passed Client last v = refl

ended_left : (role : Role) (last : Bool) (v : Watch) → (call_ended role last v).left ≡ v.left + (if ending_by role last then 1 else 0)
ended_left Server true v = refl
ended_left Server false v = omega arith
ended_left Client last v = omega arith

module _ (s : State) (c : ConnectionTrace) (f : Frame) (fields : List Field) (ends : Bool) (seen : SeenStream) (greatest : ℕ) (r : ReadSo s c f fields ends seen greatest) where
  abbrev s0 : State
  s0 = record s { decoder = r.decoder; block = r.opened }

  h : Sound s0 c f seen greatest
  h = r.sound_so

  abbrev old : State
  old = record s0 { set = h.before }

  w : Waiting old c f
  w = h.waits

  k : Completes c f fields ends s.decoder
  k = r.completes

  abbrev hs3 : List Outcome
  hs3 = c.heads ++ Ok fields ∷ []

  abbrev behind : List Step
  behind = c.frames ++ Received f ∷ []

  abbrev m : ℕ
  m = stream_of f

  part : IsPart f
  part = p s s0 c f fields ends h.before w k

  outcome : outcome_at hs3 c.frames f ≡ Some (Ok fields)
  outcome = outcome_is s s0 c f fields ends h.before w h.sound k

  quiet : IsQuiet f
  quiet = quiet_is f part.no_settings part.no_ping

  was : is_live c.role c.frames m ≡ seen.was_live
  was = sym h.seen_so.was_live

  -- whether it is live at the frame
  pub seen_at : (seen.was_live || seen.is_live) ≡ is_live_at c.role c.frames f m
  seen_at =
      by_bool ((seen.was_live || seen.is_live) ≡ is_live_at c.role c.frames f m) seen.was_live
      (λ e. or_left_is seen.was_live seen.is_live e ∙ sym (or_left_is (is_live c.role c.frames m) (begins c.role m c.frames (Received f)) (was ∙ e)))
      (λ e. ap (λ (b : Bool). b || seen.is_live) e ∙ h.is_live ∙ at_seen s s0 c f fields ends h.before w k (was ∙ e))

  pub long : (t : State) → t ≡ s → is_long s.limits.list fields ≡ true → Ending t c (by.Calm HeaderList) greatest
  long t e long_list =
      subst (λ (q : State). Ending q c (by.Calm HeaderList) greatest) (sym e)
      (long_ends s s0 c f fields ends h.before w h.sound k s greatest (ap (λ (l : H2Limits). is_long l.list fields) w.stands.limits_are ∙ long_list) w.stands.role_is w.stands.limits_are w.stands.holding_is refl h.seen_so.last_is)

  pub starves_here : (t : State) → t ≡ s → Starved t c
  starves_here t e = subst (λ (q : State). Starved q c) (sym e) (starves old s c f w w.stands.role_is w.stands.limits_are w.stands.holding_is refl)

  module _ (short : is_long s.limits.list fields ≡ false) where
    goes : frame_stop c.role c.limits hs3 c.frames f ≡ None
    goes =
        content_goes s s0 c f fields ends h.before w h.sound k
        ∙ ap (λ (b : Bool). if b then Some (Calm HeaderList) else None) (ap (λ (l : H2Limits). is_long l.list fields) w.stands.limits_are ∙ short)

    no_reset_needed : stream_error c.role c.limits hs3 c.frames f ≡ None → ResetsErrors c.role c.limits hs3 behind
    no_reset_needed none =
        resets_heard c.role c.limits hs3 c.frames f (resets_known c.role c.limits c.heads (Ok fields ∷ []) c.frames w.stands.kept.read.enough w.stands.resets)
        (λ why e q. absurd (let z : None ≡ Some why = sym none ∙ q in cc))

    reply : stream_error c.role c.limits hs3 c.frames f ≡ None → AreReply c.role c.limits c.is_holding hs3 c.frames f []
    reply none =
        subst (λ (e : Option ErrorCode). AreReplyBy e c.role c.is_holding c.frames f []) (sym none)
        (rw quiet.no_ack (sym (no_credit c.role behind f c.is_holding part.no_count)))

    module _ (es : List Event) (watch : Watch) (none : stream_error c.role c.limits hs3 c.frames f ≡ None) (events_are : events_of c.role c.limits hs3 c.frames (Received f) ≡ es) (watched : IsWatched c.role c.limits hs3 behind watch) (not_passed : watch.is_passed ≡ false) where
      clear : stop_at c.role c.limits hs3 c.frames (Received f) ≡ None
      clear = stop_goes c.role c.limits hs3 c.frames f watch.left goes (watched.counts not_passed)

      closed_now : s.block ≡ open_block (received c.frames ++ f ∷ [])
      closed_now = r.none_open ∙ sym k.closed

      abbrev t : State
      t = record (passed f s) { watch = watch }

      going : Going t (heard f (Ok fields ∷ []) c) es []
      going =
          going_of t (heard f (Ok fields ∷ []) c) es []
          (mid_as (record old { place = place_at (s.place + frame_size f); decoder = s.decoder; block = s.block; watch = watch }) (heard f (Ok fields ∷ []) c) es [] s.output s.set s.ended s.encoder
          (subst (λ (l : List Event). Mid (record old { place = place_at (s.place + frame_size f); decoder = s.decoder; block = s.block; watch = watch }) (heard f (Ok fields ∷ []) c) l []) events_are
          (mid old c f (Ok fields ∷ []) w s.decoder s.block watch quiet k.decodes closed_now clear watched not_passed)))
          h.set_is h.set_role h.set_limits

      takes_block : Taken t c es
      takes_block =
          takes t c f (Ok fields ∷ []) [] es (unrefused old c f (Ok fields ∷ []) w) w.stands.role_is w.stands.limits_are w.alive w.stands.holding_is
          (kept old c f (Ok fields ∷ []) w s.decoder s.block watch quiet k.decodes closed_now clear watched not_passed)
          (subst (λ (l : List Event). Going t (heard f (Ok fields ∷ []) c) l []) (sym (append-nil es) ∙ ap (λ (o : Option ℕ). es ++ ends_of o) (sym w.none_ended)) going)
          (no_reset_needed none) (credit_part s s0 c f fields ends h.before w k)
          (clear_behind old c f (Ok fields ∷ []) w s.decoder s.block watch quiet k.decodes closed_now clear watched not_passed) (reply none)

    -- ---- on no live stream

    dead_error : is_live_at c.role c.frames f m ≡ false → stream_error c.role c.limits hs3 c.frames f ≡ None
    dead_error dead =
        error_by s s0 c f fields ends h.before w k outcome
        ∙ dead_by (is_live c.role c.frames m) (live_error c.limits c.frames f) (completed_error c.role c.limits c.frames f false (completed (received c.frames) f)) (completed_error c.role c.limits c.frames f (malformed s s0 c f fields ends h.before w k) (completed (received c.frames) f)) h.faultless
        (ap (completed_error c.role c.limits c.frames f (malformed s s0 c f fields ends h.before w k)) k.whole
        ∙ ap (λ (b : Bool). if b then block_error c.role c.limits c.frames k.block (malformed s s0 c f fields ends h.before w k) else None) (at_is s s0 c f fields ends h.before w k ∙ dead))

    block_events_are : events_of c.role c.limits hs3 c.frames (Received f) ≡ events_by (if is_live_at c.role c.frames f m then told_by c.role (has_head (received c.frames) m) m fields ends else []) m (stream_error c.role c.limits hs3 c.frames f)
    block_events_are =
        ap (λ (l : List Event). events_by l m (stream_error c.role c.limits hs3 c.frames f))
        (rw (part.no_data, part.no_reset, part.no_goaway, k.whole) (
        ap (λ (b : Bool). if b then read_events c.role c.frames k.block (outcome_for hs3 (received c.frames) (Some k.block)) else []) (at_is s s0 c f fields ends h.before w k)
        ∙ ap (λ (o : Option Outcome). if is_live_at c.role c.frames f m then read_events c.role c.frames k.block o else []) (sym (ap (outcome_for hs3 (received c.frames)) k.whole) ∙ outcome)
        ∙ ap (λ (j : ℕ). if is_live_at c.role c.frames f m then (if has_head (received c.frames) j then trailers_events c.role j fields else Head j fields k.block.last ∷ []) else []) k.on
        ∙ ap (λ (b : Bool). if is_live_at c.role c.frames f m then told_by c.role (has_head (received c.frames) m) m fields b else []) k.last_is))

    dead_end : (side : Role) → is_live_at c.role c.frames f m ≡ false → side ≡ c.role → ends_call c.limits hs3 side c.frames (Received f) ≡ false
    dead_end Server dead same =
        ap (λ (b : Bool). is_end (received c.frames) f && b && not (is_some (stream_error Server c.limits hs3 c.frames f))) (ap (λ (q : Role). is_live_at q c.frames f m) same ∙ dead)
        ∙ middle (is_end (received c.frames) f) (not (is_some (stream_error Server c.limits hs3 c.frames f)))
      where
        middle : (a b : Bool) → (a && false && b) ≡ false
        middle true b = refl
        middle false b = refl
    dead_end Client dead same = refl

    pub dead_block : is_live_at c.role c.frames f m ≡ false → (t : State) → t ≡ passed f s → Quiet t c
    dead_block dead t e =
        let none = dead_error dead in
        let es : events_of c.role c.limits hs3 c.frames (Received f) ≡ [] =
        block_events_are ∙ ap (events_by (if is_live_at c.role c.frames f m then told_by c.role (has_head (received c.frames) m) m fields ends else []) m) none
        ∙ ap (λ (b : Bool). if b then told_by c.role (has_head (received c.frames) m) m fields ends else []) dead in
        let watched : IsWatched c.role c.limits hs3 behind s.watch =
        part_watched c.role c.limits hs3 c.frames f part (λ j. bytes_same c.role c.limits hs3 c.frames f [] j es refl) false s.watch s.watch refl refl (omega arith) (dead_end c.role dead refl) (watched_before old c f (Ok fields ∷ []) w) in
        record { taken = subst (λ (q : State). Taken q c []) (sym e) (takes_block [] s.watch none es watched w.unpassed); none_ended = ap (λ (q : State). q.ended) e ∙ w.none_ended }

    -- ---- on a live stream

    module _ (alive : is_live_at c.role c.frames f m ≡ true) where
      sound_error : malformed s s0 c f fields ends h.before w k ≡ false → stream_error c.role c.limits hs3 c.frames f ≡ None
      sound_error well = error_by s s0 c f fields ends h.before w k outcome ∙ ap (stream_error_of c.role c.limits c.frames f) well ∙ h.faultless

      live_end : (side : Role) → side ≡ c.role → stream_error c.role c.limits hs3 c.frames f ≡ None → ends_call c.limits hs3 side c.frames (Received f) ≡ ending_by side ends
      live_end Server same none =
          ap (λ (o : Option ErrorCode). is_end (received c.frames) f && is_live_at Server c.frames f m && not (is_some o)) (ap (λ (q : Role). stream_error q c.limits hs3 c.frames f) same ∙ none)
          ∙ ap (λ (b : Bool). is_end (received c.frames) f && b && true) (ap (λ (q : Role). is_live_at q c.frames f m) same ∙ alive)
          ∙ and_true (is_end (received c.frames) f)
          ∙ rw (part.no_data, k.whole) k.last_is
        where
          and_true : (b : Bool) → (b && true && true) ≡ b
          and_true true = refl
          and_true false = refl
      live_end Client same none = refl

      abbrev had : Bool
      had = has_head (received c.frames) m

      live_events : stream_error c.role c.limits hs3 c.frames f ≡ None → events_of c.role c.limits hs3 c.frames (Received f) ≡ told_by c.role had m fields ends
      live_events none =
          block_events_are ∙ ap (events_by (if is_live_at c.role c.frames f m then told_by c.role had m fields ends else []) m) none
          ∙ ap (λ (b : Bool). if b then told_by c.role had m fields ends else []) alive

      head_same : seen.had_head ≡ had
      head_same = head_is s s0 c f fields ends h.before w k seen.had_head h.seen_so.had_head alive

      malformed_same : is_malformed_by s.role seen.had_head fields ≡ malformed s s0 c f fields ends h.before w k
      malformed_same = ap (λ (q : Role). is_malformed_by q seen.had_head fields) (sym w.stands.role_is) ∙ ap (λ (b : Bool). is_malformed_by c.role b fields) head_same

      abbrev ended_watch : Watch
      ended_watch = call_ended c.role ends s.watch

      pub live_block : is_malformed_by s.role seen.had_head fields ≡ false → (t : State) → t ≡ with_block ends seen.is_live f s → TookSo c f (block_tells s.role seen.had_head m fields ends) t
      live_block well t e =
          let none = sound_error (sym malformed_same ∙ well) in
          let es = live_events none in
          let watched : IsWatched c.role c.limits hs3 behind ended_watch =
          part_watched c.role c.limits hs3 c.frames f part (λ j. bytes_same c.role c.limits hs3 c.frames f (told_by c.role had m fields ends) j es (no_bytes c.role had m fields ends j)) (ending_by c.role ends) s.watch ended_watch
          (ended_asked c.role ends s.watch) (ended_passed c.role ends s.watch) (ended_left c.role ends s.watch) (live_end c.role refl none) (watched_before old c f (Ok fields ∷ []) w) in
          let over : IsWatched c.role c.limits hs3 behind (over_unless seen.is_live m ended_watch) = over_said c.role c.limits hs3 behind m seen.is_live ended_watch (sym h.is_live) (begun_at c.role c.frames f m alive) watched in
          let passed_none : (over_unless seen.is_live m ended_watch).is_passed ≡ false = over_passed seen.is_live m ended_watch ∙ ended_passed c.role ends s.watch ∙ w.unpassed in
          let got : Taken (record (passed f s) { watch = over_unless seen.is_live m ended_watch }) c (told_by c.role had m fields ends) =
          takes_block (told_by c.role had m fields ends) (over_unless seen.is_live m ended_watch) none es over passed_none in
          let role_same : Taken (with_block ends seen.is_live f s) c (told_by c.role had m fields ends) =
          subst (λ (q : Role). Taken (record (passed f s) { watch = over_unless seen.is_live m (call_ended q ends s.watch) }) c (told_by c.role had m fields ends)) w.stands.role_is got in
          subst (λ (q : Role). TookSo c f (block_tells q seen.had_head m fields ends) t) w.stands.role_is
          (subst (λ (b : Bool). TookSo c f (block_tells c.role b m fields ends) t) (sym head_same)
          (subst (λ (q : State). TookSo c f (block_tells c.role had m fields ends) q) (sym e) (tells_so c.role had c f m fields ends (with_block ends seen.is_live f s) role_same)))

      -- ---- malformed

      malformed_error : malformed s s0 c f fields ends h.before w k ≡ true → stream_error c.role c.limits hs3 c.frames f ≡ Some code.PROTOCOL_ERROR
      malformed_error bad =
          error_by s s0 c f fields ends h.before w k outcome ∙ ap (stream_error_of c.role c.limits c.frames f) bad
          ∙ malformed_blocks c.role c.limits c.frames f k.block k.whole (at_is s s0 c f fields ends h.before w k ∙ alive) ∙ ap (λ (o : Option ErrorCode). Some (with_malformed o)) h.faultless

      no_end_error : (side : Role) → side ≡ c.role → stream_error c.role c.limits hs3 c.frames f ≡ Some code.PROTOCOL_ERROR → ends_call c.limits hs3 side c.frames (Received f) ≡ false
      no_end_error Server same some =
          ap (λ (o : Option ErrorCode). is_end (received c.frames) f && is_live_at Server c.frames f m && not (is_some o)) (ap (λ (q : Role). stream_error q c.limits hs3 c.frames f) same ∙ some)
          ∙ and_false (is_end (received c.frames) f && is_live_at Server c.frames f m)
        where
          and_false : (b : Bool) → (b && false) ≡ false
          and_false true = refl
          and_false false = refl
      no_end_error Client same some = refl

      pub malformed_taken : is_malformed_by s.role seen.had_head fields ≡ true → (t : State) → t ≡ with_reset_of m code.PROTOCOL_ERROR (passed f (record s { set = dropped m s.set })) → Taken t c (Reset m code.PROTOCOL_ERROR ∷ [])
      malformed_taken bad t e =
          let some = malformed_error (sym malformed_same ∙ bad) in
          let bytes : (j : ℕ) → request_bytes c.limits hs3 c.role behind j ≡ request_bytes c.limits hs3 c.role c.frames j =
          λ j. bytes_same c.role c.limits hs3 c.frames f (Reset m code.PROTOCOL_ERROR ∷ []) j (ap (events_by (sound_events c.role hs3 c.frames f) m) some) refl in
          let watched : IsWatched c.role c.limits hs3 behind s.watch =
          part_watched c.role c.limits hs3 c.frames f part bytes false s.watch s.watch refl refl (omega arith) (no_end_error c.role refl some) (watched_before old c f (Ok fields ∷ []) w) in
          subst (λ (q : State). Taken q c (Reset m code.PROTOCOL_ERROR ∷ [])) (sym e)
          (error_goes (record s0 { set = dropped m s.set }) c f code.PROTOCOL_ERROR (Ok fields ∷ []) h.before w s.decoder s.block quiet k.decodes (r.none_open ∙ sym k.closed)
          (stop_goes c.role c.limits hs3 c.frames f s.watch.left goes (watched.counts w.unpassed)) some watched
          (says_behind c.role c.limits hs3 c.frames f part bytes s.watch m (watched_before old c f (Ok fields ∷ []) w) (live_if_begun c.role c.frames f m alive))
          (begun_at c.role c.frames f m alive)
          (λ b on. subst (streams.StandsFor (dropped m s.set)) (append_assoc c.frames (Received f ∷ []) (Sent (RstStream b) ∷ []))
          (resets s.set behind m b h.set_is (ap (λ (q : Role). is_begun q behind m) h.set_role ∙ begun_at c.role c.frames f m alive) on))
          h.set_role h.set_limits (back s s0 c f fields ends h.before w k) part.no_count)

-- ---- a block that is a stream error by itself

module _ (s : State) (c : ConnectionTrace) (f : Frame) (fields : List Field) (why : ErrorCode) (seen : SeenStream) (greatest : ℕ) (r : ReadFaulty s c f fields why seen greatest) where
  abbrev t0 : State
  t0 = record s { decoder = r.decoder; block = r.opened }

  hf : Faulty t0 c f why seen greatest
  hf = r.faulty_so

  abbrev oldf : State
  oldf = record t0 { set = hf.before }

  wf : Waiting oldf c f
  wf = hf.waits

  kf : Completes c f fields r.ends s.decoder
  kf = r.completes

  abbrev hs4 : List Outcome
  hs4 = c.heads ++ Ok fields ∷ []

  abbrev here : List Step
  here = c.frames ++ Received f ∷ []

  abbrev mf : ℕ
  mf = stream_of f

  partf : IsPart f
  partf = p s t0 c f fields r.ends hf.before wf kf

  outcomef : outcome_at hs4 c.frames f ≡ Some (Ok fields)
  outcomef = outcome_is s t0 c f fields r.ends hf.before wf hf.sound kf

  alivef : is_live_at c.role c.frames f mf ≡ true
  alivef =
      fault_live (is_live c.role c.frames mf) (is_live_at c.role c.frames f mf) (live_error c.limits c.frames f) (block_error c.role c.limits c.frames kf.block false) why
      (λ e. or_left_is (is_live c.role c.frames mf) (begins c.role mf c.frames (Received f)) e)
      (sym (ap (λ (o : Option Block). option_or (if is_live c.role c.frames mf then live_error c.limits c.frames f else None) (completed_error c.role c.limits c.frames f false o)) kf.whole
      ∙ ap (λ (b : Bool). option_or (if is_live c.role c.frames mf then live_error c.limits c.frames f else None) (if b then block_error c.role c.limits c.frames kf.block false else None)) (at_is s t0 c f fields r.ends hf.before wf kf))
      ∙ hf.fault)

  headf : seen.had_head ≡ has_head (received c.frames) mf
  headf = head_is s t0 c f fields r.ends hf.before wf kf seen.had_head hf.seen_so.had_head alivef

  malformedf : is_malformed_by s.role seen.had_head fields ≡ malformed s t0 c f fields r.ends hf.before wf kf
  malformedf = ap (λ (q : Role). is_malformed_by q seen.had_head fields) (sym wf.stands.role_is) ∙ ap (λ (b : Bool). is_malformed_by c.role b fields) headf

  pub longf : (t : State) → t ≡ s → is_long s.limits.list fields ≡ true → Ending t c (by.Calm HeaderList) greatest
  longf t e long_list =
      subst (λ (q : State). Ending q c (by.Calm HeaderList) greatest) (sym e)
      (long_ends s t0 c f fields r.ends hf.before wf hf.sound kf s greatest (ap (λ (l : H2Limits). is_long l.list fields) wf.stands.limits_are ∙ long_list) wf.stands.role_is wf.stands.limits_are wf.stands.holding_is refl hf.seen_so.last_is)

  errorf : (cause : ErrorCode) → cause ≡ (if is_malformed_by s.role seen.had_head fields then with_malformed (Some why) else why) → stream_error c.role c.limits hs4 c.frames f ≡ Some cause
  errorf cause e =
      error_by s t0 c f fields r.ends hf.before wf kf outcomef
      ∙ ap (stream_error_of c.role c.limits c.frames f) (sym malformedf)
      ∙ by_bool (stream_error_of c.role c.limits c.frames f (is_malformed_by s.role seen.had_head fields) ≡ Some cause) (is_malformed_by s.role seen.had_head fields)
      (λ bad. ap (stream_error_of c.role c.limits c.frames f) bad ∙ malformed_blocks c.role c.limits c.frames f kf.block kf.whole (at_is s t0 c f fields r.ends hf.before wf kf ∙ alivef)
      ∙ ap (λ (o : Option ErrorCode). Some (with_malformed o)) hf.fault ∙ sym (ap (λ (x : ErrorCode). Some x) (e ∙ ap (λ (b : Bool). if b then with_malformed (Some why) else why) bad)))
      (λ well. ap (stream_error_of c.role c.limits c.frames f) well ∙ hf.fault ∙ sym (ap (λ (x : ErrorCode). Some x) (e ∙ ap (λ (b : Bool). if b then with_malformed (Some why) else why) well)))

  no_endf : (side : Role) (cause : ErrorCode) → side ≡ c.role → stream_error c.role c.limits hs4 c.frames f ≡ Some cause → ends_call c.limits hs4 side c.frames (Received f) ≡ false
  no_endf Server cause same some =
      ap (λ (o : Option ErrorCode). is_end (received c.frames) f && is_live_at Server c.frames f mf && not (is_some o)) (ap (λ (q : Role). stream_error q c.limits hs4 c.frames f) same ∙ some)
      ∙ and_false (is_end (received c.frames) f && is_live_at Server c.frames f mf)
    where
      and_false : (b : Bool) → (b && false) ≡ false
      and_false true = refl
      and_false false = refl
  no_endf Client cause same some = refl

  pub faulty_taken : is_long s.limits.list fields ≡ false → (cause : ErrorCode) → cause ≡ (if is_malformed_by s.role seen.had_head fields then with_malformed (Some why) else why) → (t : State) → t ≡ with_reset_of mf cause (passed f s) → Taken t c (Reset mf cause ∷ [])
  faulty_taken short cause is t e =
      let some = errorf cause is in
      let bytes : (j : ℕ) → request_bytes c.limits hs4 c.role here j ≡ request_bytes c.limits hs4 c.role c.frames j =
      λ j. bytes_same c.role c.limits hs4 c.frames f (Reset mf cause ∷ []) j (ap (events_by (sound_events c.role hs4 c.frames f) mf) some) refl in
      let watched : IsWatched c.role c.limits hs4 here s.watch =
      part_watched c.role c.limits hs4 c.frames f partf bytes false s.watch s.watch refl refl (omega arith) (no_endf c.role cause refl some) (watched_before oldf c f (Ok fields ∷ []) wf) in
      let stops : frame_stop c.role c.limits hs4 c.frames f ≡ None =
      content_goes s t0 c f fields r.ends hf.before wf hf.sound kf ∙ ap (λ (b : Bool). if b then Some (Calm HeaderList) else None) (ap (λ (l : H2Limits). is_long l.list fields) wf.stands.limits_are ∙ short) in
      subst (λ (q : State). Taken q c (Reset mf cause ∷ [])) (sym e)
      (error_goes t0 c f cause (Ok fields ∷ []) hf.before wf s.decoder s.block (quiet_is f partf.no_settings partf.no_ping) kf.decodes (r.none_open ∙ sym kf.closed)
      (stop_goes c.role c.limits hs4 c.frames f s.watch.left stops (watched.counts wf.unpassed)) some watched
      (says_behind c.role c.limits hs4 c.frames f partf bytes s.watch mf (watched_before oldf c f (Ok fields ∷ []) wf) (live_if_begun c.role c.frames f mf alivef))
      (begun_at c.role c.frames f mf alivef) hf.set_is hf.set_role hf.set_limits (back s t0 c f fields r.ends hf.before wf kf) partf.no_count)
