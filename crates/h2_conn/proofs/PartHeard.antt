-- HEADERS or CONTINUATION that pass a limit, or that do not complete their block.
use Rattle.std.proofs.Common.{◌≡◌, ℕ, ◌+◌, Bool, true, false, ◌||◌, ◌&&◌, List, [], ◌∷◌, ◌++◌, Option, Some, None, refl, sym, ap, subst, ◌∙◌, arith}
use Rattle.std.specs.Prelude.{not, is_some, option_map, option_to_list, if◌then◌else◌}
use Rattle.std.specs.Option.{option_or}
use Rattle.std.proofs.lemmas.List.{append-nil}
use Rattle.h2_frames.specs.declared.code.ErrorCode.{ErrorCode}
use Rattle.h2_frames.specs.declared.code.TheConstants.ErrorCode as code
use Rattle.h2_frames.specs.declared.frame.Frame.{Frame}
use Rattle.h2_frames.specs.Layout.{size_of}
use Rattle.h2_frames.specs.Stream.{place_at}
use Rattle.h2_exchange.specs.declared.limits.CalmCause.{CalmCause}
use Rattle.h2_exchange.specs.declared.limits.H2Limits.{H2Limits}
use Rattle.h2_exchange.specs.declared.role.Role.{Role}
use Rattle.h2_exchange.specs.declared.role.Role.TheVariants.{Client, Server}
use Rattle.h2_exchange.specs.Blocks.{Block, block_with, blocks, completed, open_block}
use Rattle.h2_exchange.specs.Content.{Outcome, is_malformed, outcome_at, outcome_for, stream_error}
use Rattle.h2_exchange.specs.Events.{Event, events_by, events_of, sound_events}
use Rattle.h2_exchange.specs.Exchange.{Step, Received, received}
use Rattle.h2_exchange.specs.Frames.{stream_of, has_end_headers, is_continuation, is_headers, is_push_promise}
use Rattle.h2_exchange.specs.Outcomes.{AreKnown}
use Rattle.h2_exchange.specs.Rules.{breaks_block_on, breaks_length, breaks_number, breaks_padding, breaks_start, frame_error, shape_error}
use Rattle.h2_exchange.specs.Sending.{ResetsErrors, last_begun}
use Rattle.h2_exchange.specs.StreamErrors.{stream_error_of}
use Rattle.h2_exchange.specs.Stops.{Calm, Error, Stop, block_stop, content_stop, ends_call, frame_stop, place_behind, request_bytes, stop_at, stop_of}
use Rattle.h2_exchange.specs.Streams.{highest, of_client}
use Rattle.h2_exchange.proofs.Steps.{header_blocks_grow}
use Rattle.h2_streams.specs.declared.set.receive.SeenStream.{SeenStream}
use Rattle.h2_streams.specs.Set.{Set}
use Rattle.http_connection.specs.Answers.{AreReply, AreReplyBy}
use Rattle.http_connection.specs.ConnectionTrace.{ConnectionTrace}
use Rattle.h2_conn.specs.declared.heard.End.TheVariants as by
use Rattle.h2_conn.specs.HeaderParts.{block_in, limit_of, with_part_of}
use Rattle.h2_conn.specs.Hears.{Ending, Quiet, Sound, Taken}
use Rattle.h2_conn.specs.State.{State}
use Rattle.h2_conn.specs.Standing.{Decodes, Going, ends_of}
use Rattle.h2_conn.specs.Steps.{Waiting}
use Rattle.h2_conn.specs.Watching.{IsWatched}
use Rattle.h2_conn.proofs.Controls.{first_none, third}
use Rattle.h2_conn.proofs.Further.{resets_known}
use Rattle.h2_conn.proofs.Halting.{ending}
use Rattle.h2_conn.proofs.HeaderParts.{IsPart, opened_on, part_credit, part_is, part_watched, stop_with, with_is}
use Rattle.h2_conn.proofs.Hearing.{heard}
use Rattle.h2_conn.proofs.Loose.{bytes_same, stop_goes}
use Rattle.h2_conn.proofs.LooseHeard.{no_credit}
use Rattle.h2_conn.proofs.Midway.{Mid, going_of, mid_as}
use Rattle.h2_conn.proofs.Received.{IsQuiet, before, clear_behind, kept, mid, quiet_is, takes, unrefused, watched_before}
use Rattle.h2_conn.proofs.Splits.{resets_heard}
use Rattle.h2_conn.proofs.Taking.{known_still}

-- ---- it goes on with the block that is open, or begins one

pub follows : (role : Role) (x : List Step) (f : Frame) → frame_error role x f ≡ None → breaks_block_on (opened_on (open_block (received x))) f ≡ false
follows role x f e =
    let opened : Option ℕ = option_map (λ (b : Block). b.stream) (open_block (received x)) in
    let greatest = highest (of_client role x) in
    third (breaks_start x f) (is_push_promise f) (breaks_block_on opened f) (breaks_number role greatest f) (breaks_length greatest f) (breaks_padding f) code.PROTOCOL_ERROR code.FRAME_SIZE_ERROR
    (first_none (shape_error role (breaks_start x f) opened greatest f) _ e)

-- what stops at the frame, where it breaks no rule itself
pub frame_stop_is : (role : Role) (limits : H2Limits) (heads : List Outcome) (x : List Step) (f : Frame) → frame_error role x f ≡ None →
    frame_stop role limits heads x f ≡ option_or (block_stop (block_with (open_block (received x)) f)) (content_stop limits (place_behind role x) (outcome_at heads x f))
frame_stop_is role limits heads x f sound =
    ap (λ (e : Option ErrorCode). option_or (option_map (λ why. Error why (place_behind role x)) e) (option_or (block_stop (block_with (open_block (received x)) f)) (content_stop limits (place_behind role x) (outcome_at heads x f)))) sound

or_some : {A : Type 0} (a b : Option A) (v : A) → a ≡ Some v → option_or a b ≡ Some v
or_some None b v e = absurd cc
or_some (Some w) b v e = e

-- ---- a limit is passed

unlooked : (a b : Bool) (o : Option Stop) (stop : Stop) → o ≡ Some stop → (a && b && not (is_some o)) ≡ false
unlooked a b None stop e = absurd cc
unlooked a b (Some v) stop e = and_false (a && b)
  where
    and_false : (t : Bool) → (t && false) ≡ false
    and_false true = refl
    and_false false = refl

module _ (s : State) (c : ConnectionTrace) (f : Frame) (before_set : Set) (w : Waiting (record s { set = before_set }) c f) (part : (is_headers f || is_continuation f) ≡ true) (sound : frame_error c.role c.frames f ≡ None) where
  abbrev old : State
  old = record s { set = before_set }

  open_is : s.block ≡ open_block (received c.frames)
  open_is = (before old c f [] w).block_is

  pub block_limit : block_stop (block_with (open_block (received c.frames)) f) ≡ option_map Calm (limit_of (block_in s.block f))
  block_limit =
      stop_with (open_block (received c.frames)) f part (follows c.role c.frames f sound)
      ∙ ap (λ (o : Option Block). option_map Calm (limit_of (block_in o f))) (sym open_is)

  pub block_is : limit_of (block_in s.block f) ≡ None → (block_with (open_block (received c.frames)) f ≡ Some (block_in s.block f)) × ((block_in s.block f).stream ≡ stream_of f)
  block_is few =
      subst (λ (o : Option Block). (block_with o f ≡ Some (block_in s.block f)) × ((block_in s.block f).stream ≡ stream_of f)) open_is
      (with_is s.block f part (ap (λ (o : Option Block). breaks_block_on (opened_on o) f) open_is ∙ follows c.role c.frames f sound) few)

  pub limit_ends : (cause : CalmCause) (greatest : ℕ) → limit_of (block_in s.block f) ≡ Some cause → last_begun c.role c.frames ≡ greatest → Ending s c (by.Calm cause) greatest
  limit_ends cause greatest passed begun =
      let hs = c.heads ++ [] in
      let stop : block_stop (block_with (open_block (received c.frames)) f) ≡ Some (Calm cause) = block_limit ∙ ap (option_map Calm) passed in
      let at : stop_at c.role c.limits hs c.frames (Received f) ≡ Some (Calm cause) =
      or_some (frame_stop c.role c.limits hs c.frames f) _ (Calm cause)
      (frame_stop_is c.role c.limits hs c.frames f sound ∙ or_some (block_stop (block_with (open_block (received c.frames)) f)) _ (Calm cause) stop) in
      let known : AreKnown c.role c.limits hs c.frames = subst (λ (l : List Outcome). AreKnown c.role c.limits l c.frames) (sym (append-nil c.heads)) w.stands.kept.read in
      ending old s c f [] w w.stands.role_is w.stands.limits_are w.stands.holding_is refl (by.Calm cause) greatest at
      (known_still c.role c.limits hs c.frames f known
      (unlooked (not (is_some (stop_of c.role c.limits hs c.frames))) (not (is_some (frame_error c.role c.frames f))) (block_stop (block_with (open_block (received c.frames)) f)) (Calm cause) stop)) begun

-- ---- a block goes on

module _ (s : State) (c : ConnectionTrace) (f : Frame) (seen : SeenStream) (greatest : ℕ) (h : Sound s c f seen greatest) (part : (is_headers f || is_continuation f) ≡ true) (open_still : has_end_headers f ≡ false) (few : limit_of (block_in s.block f) ≡ None) where
  w : Waiting (record s { set = h.before }) c f
  w = h.waits

  abbrev prior : State
  prior = record s { set = h.before }

  abbrev hs : List Outcome
  hs = c.heads ++ []

  abbrev behind : List Step
  behind = c.frames ++ Received f ∷ []

  p : IsPart f
  p = part_is f part

  whole : completed (received c.frames) f ≡ None
  whole = ap (λ (b : Bool). if b then block_with (open_block (received c.frames)) f else None) open_still

  decodes : Decodes s.decoder (blocks (received c.frames ++ f ∷ [])) hs
  decodes =
      subst (λ (bs : List Block). Decodes s.decoder bs hs) (sym (header_blocks_grow.blocks_push (received c.frames) f ∙ ap (λ (o : Option Block). blocks (received c.frames) ++ option_to_list o) whole ∙ append-nil (blocks (received c.frames))))
      (subst (λ (l : List Outcome). Decodes s.decoder (blocks (received c.frames)) l) (sym (append-nil c.heads)) (before prior c f [] w).decodes)

  block_now : Some (block_in s.block f) ≡ open_block (received c.frames ++ f ∷ [])
  block_now =
      sym (header_blocks_grow.open_push (received c.frames) f ∙ ap (λ (b : Bool). if b then None else block_with (open_block (received c.frames)) f) open_still ∙ (block_is s c f h.before w part h.sound few).0)

  no_error : stream_error c.role c.limits hs c.frames f ≡ None
  no_error = ap (λ (o : Option Block). stream_error_of c.role c.limits c.frames f (is_malformed c.role c.frames f (outcome_for hs (received c.frames) o))) whole ∙ h.faultless

  goes : frame_stop c.role c.limits hs c.frames f ≡ None
  goes =
      frame_stop_is c.role c.limits hs c.frames f h.sound
      ∙ ap (λ (o : Option Stop). option_or o (content_stop c.limits (place_behind c.role c.frames) (outcome_at hs c.frames f))) (block_limit s c f h.before w part h.sound ∙ ap (option_map Calm) few)
      ∙ ap (λ (o : Option Block). content_stop c.limits (place_behind c.role c.frames) (outcome_for hs (received c.frames) o)) whole

  events_are : events_of c.role c.limits hs c.frames (Received f) ≡ []
  events_are = ap (events_by (sound_events c.role hs c.frames f) (stream_of f)) no_error ∙ rw (p.no_data, p.no_reset, p.no_goaway, whole) refl

  no_end : (side : Role) → ends_call c.limits hs side c.frames (Received f) ≡ false
  no_end Server = rw (whole, p.no_data) refl
  no_end Client = refl

  same_bytes : (k : ℕ) → request_bytes c.limits hs c.role behind k ≡ request_bytes c.limits hs c.role c.frames k
  same_bytes k = bytes_same c.role c.limits hs c.frames f [] k events_are refl

  watched : IsWatched c.role c.limits hs behind s.watch
  watched = part_watched c.role c.limits hs c.frames f p same_bytes false s.watch s.watch refl refl (omega arith) (no_end c.role) (watched_before prior c f [] w)

  clear : stop_at c.role c.limits hs c.frames (Received f) ≡ None
  clear = stop_goes c.role c.limits hs c.frames f s.watch.left goes (watched.counts w.unpassed)

  quiet : IsQuiet f
  quiet = quiet_is f p.no_settings p.no_ping

  abbrev t : State
  t = with_part_of f s

  going : Going t (heard f [] c) [] []
  going =
      going_of t (heard f [] c) [] []
      (mid_as (record prior { place = place_at (s.place + size_of f); block = Some (block_in s.block f) }) (heard f [] c) [] [] s.output s.set s.ended s.encoder
      (subst (λ (es : List Event). Mid (record prior { place = place_at (s.place + size_of f); block = Some (block_in s.block f) }) (heard f [] c) es []) events_are
      (mid prior c f [] w s.decoder (Some (block_in s.block f)) s.watch quiet decodes block_now clear watched w.unpassed)))
      h.set_is h.set_role h.set_limits

  resets : ResetsErrors c.role c.limits hs behind
  resets =
      resets_heard c.role c.limits hs c.frames f (resets_known c.role c.limits c.heads [] c.frames w.stands.kept.read.enough w.stands.resets)
      (λ why e q. absurd (let z : None ≡ Some why = sym no_error ∙ q in cc))

  reply : AreReply c.role c.limits c.is_holding hs c.frames f []
  reply =
      subst (λ (e : Option ErrorCode). AreReplyBy e c.role c.is_holding c.frames f []) (sym no_error)
      (rw quiet.no_ack (sym (no_credit c.role behind f c.is_holding p.no_count)))

  pub part_quiet : (u : State) → u ≡ with_part_of f s → Quiet u c
  part_quiet u e = record {
    taken = subst (λ (q : State). Taken q c []) (sym e)
        (takes t c f [] [] [] (unrefused prior c f [] w) w.stands.role_is w.stands.limits_are w.alive w.stands.holding_is
        (kept prior c f [] w s.decoder (Some (block_in s.block f)) s.watch quiet decodes block_now clear watched w.unpassed)
        (subst (λ (o : Option ℕ). Going t (heard f [] c) (ends_of o) []) (sym w.none_ended) going)
        resets (part_credit c.role c.limits c.frames f p.no_count h.before (before prior c f [] w).set_is (before prior c f [] w).set_role (before prior c f [] w).set_limits s.is_holding (w.stands.credited w.alive))
        (clear_behind prior c f [] w s.decoder (Some (block_in s.block f)) s.watch quiet decodes block_now clear watched w.unpassed) reply);
    none_ended = ap (λ (q : State). q.ended) e ∙ w.none_ended;
  }
