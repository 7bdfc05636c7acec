-- RST_STREAM.
use Rattle.std.proofs.Common.{◌≡◌, ℕ, ◌+◌, ◌-◌, Bool, true, false, ◌||◌, ◌&&◌, List, [], ◌∷◌, ◌++◌, Option, Some, None, refl, sym, ap, subst, ◌∙◌, arith}
use Rattle.std.specs.Prelude.{not, nat_lt, ◌==◌, if◌then◌else◌}
use Rattle.std.specs.Option.{option_or}
use Rattle.std.proofs.lemmas.Bool.Decides.{nat_tests}
use Rattle.std.proofs.lemmas.List.{append-nil}
use Rattle.std.proofs.lemmas.List.Folds.{list_any-append}
use Rattle.h2_frames.specs.declared.code.ErrorCode.{ErrorCode}
use Rattle.h2_frames.specs.declared.frame.Frame.{Frame}
use Rattle.h2_frames.specs.Layout.{size_of}
use Rattle.h2_frames.specs.Stream.{place_at}
use Rattle.h2_exchange.specs.declared.limits.CalmCause.TheVariants.{Resets}
use Rattle.h2_exchange.specs.declared.limits.H2Limits.{H2Limits}
use Rattle.h2_exchange.specs.declared.role.Role.{Role}
use Rattle.h2_exchange.specs.declared.role.Role.TheVariants.{Client, Server}
use Rattle.h2_exchange.specs.Blocks.{blocks, completed}
use Rattle.h2_exchange.specs.Content.{Outcome, stream_error}
use Rattle.h2_exchange.specs.Events.{Event, Reset, bytes_on, events_of, events_by, sound_events}
use Rattle.h2_exchange.specs.Exchange.{Step, Received, received, sent}
use Rattle.h2_exchange.specs.Frames.{stream_of, is_rst_stream, code_of, counted}
use Rattle.h2_exchange.specs.Outcomes.{AreKnown}
use Rattle.h2_exchange.specs.Sending.{ResetsErrors}
use Rattle.h2_exchange.specs.Stops.{Calm, Stop, cuts_request, ends_call, frame_stop, has_request, request_bytes, stop_at}
use Rattle.h2_exchange.specs.Streams.{has_rst_stream, is_begun, is_ended_by, is_live}
use Rattle.h2_exchange.proofs.Steps.{received_push}
use Rattle.h2_streams.specs.declared.set.receive.SeenStream.{SeenStream}
use Rattle.h2_streams.proofs.Lists.{self_eq}
use Rattle.http_connection.specs.Answers.{AreReply, AreReplyBy}
use Rattle.http_connection.specs.ConnectionTrace.{ConnectionTrace}
use Rattle.h2_conn.specs.declared.asked.Asked.{Asked}
use Rattle.h2_conn.specs.declared.heard.End.TheVariants as by
use Rattle.h2_conn.specs.Hears.{Ending, Quiet, Sound, Taken}
use Rattle.h2_conn.specs.Receiving.{passed}
use Rattle.h2_conn.specs.State.{State}
use Rattle.h2_conn.specs.Standing.{Decodes, Going, ends_of}
use Rattle.h2_conn.specs.Steps.{Waiting}
use Rattle.h2_conn.specs.Watching.{Watch, IsAsked, IsWatched, asked_on, cut_if, cut_on, is_whole, stop_by, without}
use Rattle.h2_conn.proofs.Further.{resets_known}
use Rattle.h2_conn.proofs.Halting.{ending}
use Rattle.h2_conn.proofs.Hearing.{heard, known_by}
use Rattle.h2_conn.proofs.Loose.{IsReset, bytes_same, live_back, live_begun, quiet_heard, stop_goes}
use Rattle.h2_conn.proofs.LooseHeard.{block_is, credit_stays, decodes, error_is, goes, heads, no_credit, opened}
use Rattle.h2_conn.proofs.Midway.{Mid, going_of, mid_as}
use Rattle.h2_conn.proofs.NextMessage.{asked_apart}
use Rattle.h2_conn.proofs.Plain.{none_completed, none_counted}
use Rattle.h2_conn.proofs.Received.{IsQuiet, clear_behind, kept, mid, quiet_is, takes, unrefused, watched_before}
use Rattle.h2_conn.proofs.Splits.{resets_heard}
use Rattle.h2_conn.proofs.Watched.{by_counts, count_push, cuts, ends, quiet_count, unbegun}
use Rattle.h2_conn.proofs.Wholes.{whole_says}

-- ---- the stream is over

or_last : (a b : Bool) → b ≡ true → (a || (b || false)) ≡ true
or_last true b e = refl
or_last false true e = refl
or_last false false e = absurd cc

dead_by : (b r q o : Bool) → r ≡ true → (b && not ((r || q) || o)) ≡ false
dead_by true true q o e = refl
dead_by true false q o e = absurd cc
dead_by false r q o e = refl

now_dead : (role : Role) (x : List Step) (f : Frame) → is_rst_stream f ≡ true → is_live role (x ++ Received f ∷ []) (stream_of f) ≡ false
now_dead role x f e =
    let y = x ++ Received f ∷ [] in
    let id = stream_of f in
    dead_by (is_begun role y id) (has_rst_stream (received y) id) (has_rst_stream (sent y) id) (is_ended_by (received y) id && is_ended_by (sent y) id)
    (ap (λ (fs : List Frame). has_rst_stream fs id) (received_push x f) ∙ list_any-append (λ g. is_rst_stream g && stream_of g == id) (received x) (f ∷ [])
    ∙ or_last (has_rst_stream (received x) id) (is_rst_stream f && id == id) (ap (λ (b : Bool). b && id == id) e ∙ self_eq id))

-- ---- what a watch says behind it

module _ (role : Role) (limits : H2Limits) (heads : List Outcome) (x : List Step) (f : Frame) (is_it : is_rst_stream f ≡ true) (p : IsReset f) (whole : completed (received x) f ≡ None) (goes_on : frame_stop role limits heads x f ≡ None)
    (same_bytes : (k : ℕ) → request_bytes limits heads role (x ++ Received f ∷ []) k ≡ request_bytes limits heads role x k) where
  abbrev y : List Step
  y = x ++ Received f ∷ []

  abbrev id : ℕ
  id = stream_of f

  ends_none : (side : Role) → ends_call limits heads side x (Received f) ≡ false
  ends_none Server = rw (whole, p.no_data) refl
  ends_none Client = refl

  pub dead_watched : (w : Watch) → is_live role x id ≡ false → IsWatched role limits heads x w → IsWatched role limits heads y w
  dead_watched w dead h =
      quiet_heard role limits heads x f w (ap (λ (b : Bool). b && is_live role x id && not (has_request role limits heads x id)) is_it ∙ ap (λ (b : Bool). b && not (has_request role limits heads x id)) dead)
      (ends_none role) same_bytes (λ k live. live_back role x f k p.loose.headers live) h

  cuts_one : (w : Watch) → is_live role x id ≡ true → IsWatched role limits heads x w → cuts_request role limits heads x (Received f) ≡ not (is_whole (asked_on id w))
  cuts_one w live h =
      ap (λ (b : Bool). b && is_live role x id && not (has_request role limits heads x id)) is_it
      ∙ ap (λ (b : Bool). b && not (has_request role limits heads x id)) live
      ∙ ap not (whole_says (request_bytes limits heads role x id) (asked_on id w) (h.requests id live))

  stop_by_counts : stop_at role limits heads x (Received f) ≡ (if nat_lt (1000 + ends role limits heads y) (cuts role limits heads y) then Some (Calm Resets) else None)
  stop_by_counts = ap (λ (o : Option Stop). option_or o (if nat_lt (1000 + ends role limits heads y) (cuts role limits heads y) then Some (Calm Resets) else None)) goes_on

  counts_by : (t : Bool) (w : Watch) → w.left + cuts role limits heads x ≡ 1000 + ends role limits heads x → cuts_request role limits heads x (Received f) ≡ not t → w.is_passed ≡ false →
      (stop_at role limits heads x (Received f) ≡ stop_by (cut_if t w).is_passed) × ((cut_if t w).is_passed ≡ false → (cut_if t w).left + cuts role limits heads y ≡ 1000 + ends role limits heads y)
  counts_by true w count cut q =
      let n : cuts role limits heads y ≡ cuts role limits heads x = quiet_count role limits heads (cuts_request role limits heads) x (Received f) cut in
      let e : ends role limits heads y ≡ ends role limits heads x = quiet_count role limits heads (ends_call limits heads role) x (Received f) (ends_none role) in
      let k : w.left + cuts role limits heads y ≡ 1000 + ends role limits heads y = omega (arith, n, e, count) in
      (stop_by_counts ∙ by_counts role limits heads w.left 0 y k ∙ sym (ap stop_by q), λ z. k)
  counts_by false w count cut q =
      let n : cuts role limits heads y ≡ cuts role limits heads x + 1 = count_push (cuts_request role limits heads) x (Received f) ∙ ap (λ (t : Bool). cuts role limits heads x + (if t then 1 else 0)) cut in
      let e : ends role limits heads y ≡ ends role limits heads x = quiet_count role limits heads (ends_call limits heads role) x (Received f) (ends_none role) in
      let test : nat_lt (1000 + ends role limits heads y) (cuts role limits heads y) ≡ (w.left == 0) = tests w.left (cuts role limits heads x) (ends role limits heads x) (cuts role limits heads y) (ends role limits heads y) n e count in (
        stop_by_counts ∙ ap (λ (t : Bool). if t then Some (Calm Resets) else None) test ∙ shape (w.left == 0) ∙ ap (λ (t : Bool). stop_by (t || w.left == 0)) (sym q),
        λ z. grown w.left (cuts role limits heads x) (ends role limits heads x) (cuts role limits heads y) (ends role limits heads y) n e count (second w.is_passed (w.left == 0) z),
      )
    where
      shape : (t : Bool) → (if t then Some (Calm Resets) else None) ≡ stop_by (false || t)
      shape true = refl
      shape false = refl

      second : (a d : Bool) → (a || d) ≡ false → d ≡ false
      second true d e = absurd cc
      second false d e = e

      tests : (n c e c2 e2 : ℕ) → c2 ≡ c + 1 → e2 ≡ e → n + c ≡ 1000 + e → nat_lt (1000 + e2) c2 ≡ (n == 0)
      tests n c e c2 e2 p q r = grind (arith, nat_tests)

      grown : (n c e c2 e2 : ℕ) → c2 ≡ c + 1 → e2 ≡ e → n + c ≡ 1000 + e → (n == 0) ≡ false → n - 1 + c2 ≡ 1000 + e2
      grown n c e c2 e2 p q r t = grind (arith, nat_tests)

  same_asked : (t : Bool) (v : Watch) → without id (cut_if t v).asked ≡ without id v.asked
  same_asked true v = refl
  same_asked false v = refl

  pub live_watched : (w : Watch) → is_live role x id ≡ true → w.is_passed ≡ false → IsWatched role limits heads x w →
      (stop_at role limits heads x (Received f) ≡ stop_by (cut_on id w).is_passed) × ((cut_on id w).is_passed ≡ false → IsWatched role limits heads y (cut_on id w))
  live_watched w live q h =
      let r = counts_by (is_whole (asked_on id w)) w (h.counts q) (cuts_one w live h) q in
      let begun : is_begun role x id ≡ true = live_begun role x id live in (
        r.0,
        λ z. record {
          counts = r.1;
          requests = λ k alive.
              let other : k ≡ id → ⊥ = λ e. let dead : is_live role y k ≡ false = ap (is_live role y) e ∙ now_dead role x f is_it in let u : true ≡ false = sym alive ∙ dead in absurd cc in
              subst (λ (b : List ℕ). IsAsked b (asked_on k (cut_on id w))) (sym (same_bytes k))
              (subst (IsAsked (request_bytes limits heads role x k)) (sym (ap (λ (l : List Asked). asked_on k (record w { asked = l })) (same_asked (is_whole (asked_on id w)) w) ∙ asked_apart id k w other)) (h.requests k (live_back role x f k p.loose.headers alive)));
          idle = λ k none.
              let unborn : is_begun role x k ≡ false = unbegun role x (Received f) k none in
              let other : k ≡ id → ⊥ = λ e. let t : is_begun role x k ≡ true = ap (is_begun role x) e ∙ begun in let u : true ≡ false = sym t ∙ unborn in absurd cc in
              let i = h.idle k unborn in
              (same_bytes k ∙ i.0, ap (λ (l : List Asked). asked_on k (record w { asked = l })) (same_asked (is_whole (asked_on id w)) w) ∙ asked_apart id k w other ∙ i.1);
        },
      )

-- ---- the state behind it

module _ (s : State) (c : ConnectionTrace) (f : Frame) (seen : SeenStream) (last : ℕ) (h : Sound s c f seen last) (is_it : is_rst_stream f ≡ true) (p : IsReset f) where
  abbrev old : State
  old = record s { set = h.before }

  w : Waiting old c f
  w = h.waits

  abbrev hs : List Outcome
  hs = heads old c f w p.loose h.sound

  abbrev behind : List Step
  behind = c.frames ++ Received f ∷ []

  abbrev k : ℕ
  k = stream_of f

  opened_none : completed (received c.frames) f ≡ None
  opened_none = none_completed c.role c.limits hs c.frames f p.loose h.sound (opened old c f w p.loose h.sound)

  no_error : stream_error c.role c.limits hs c.frames f ≡ None
  no_error = error_is old c f w p.loose h.sound ∙ h.faultless

  was : is_live c.role c.frames k ≡ seen.was_live
  was = sym h.seen_so.was_live

  abbrev events : List Event
  events = if seen.was_live then Reset k (code_of f) ∷ [] else []

  events_are : events_of c.role c.limits hs c.frames (Received f) ≡ events
  events_are =
      ap (events_by (sound_events c.role hs c.frames f) k) no_error
      ∙ rw (p.no_data, is_it) (ap (λ (b : Bool). if b then Reset k (code_of f) ∷ [] else []) was)

  no_bytes : (live : Bool) (j : ℕ) → bytes_on j (if live then Reset k (code_of f) ∷ [] else []) ≡ []
  no_bytes true j = refl
  no_bytes false j = refl

  same_bytes_here : (j : ℕ) → request_bytes c.limits hs c.role behind j ≡ request_bytes c.limits hs c.role c.frames j
  same_bytes_here j = bytes_same c.role c.limits hs c.frames f events j events_are (no_bytes seen.was_live j)

  quiet : IsQuiet f
  quiet = quiet_is f p.no_settings p.no_ping

  none_count : counted f ≡ 0
  none_count = none_counted f p.no_data

  known : AreKnown c.role c.limits hs behind
  known = known_by c.role c.limits hs behind s.decoder (subst (λ (fs : List Frame). Decodes s.decoder (blocks fs) hs) (sym (received_push c.frames f)) (decodes old c f w p.loose h.sound))

  resets : ResetsErrors c.role c.limits hs behind
  resets =
      resets_heard c.role c.limits hs c.frames f (resets_known c.role c.limits c.heads [] c.frames w.stands.kept.read.enough w.stands.resets)
      (λ why e q. absurd (let t : None ≡ Some why = sym no_error ∙ q in cc))

  reply : AreReply c.role c.limits c.is_holding hs c.frames f []
  reply =
      subst (λ (e : Option ErrorCode). AreReplyBy e c.role c.is_holding c.frames f []) (sym no_error)
      (rw quiet.no_ack (sym (no_credit c.role behind f c.is_holding none_count)))

  module _ (watch : Watch) (clear : stop_at c.role c.limits hs c.frames (Received f) ≡ None) (watched : IsWatched c.role c.limits hs behind watch) (not_passed : watch.is_passed ≡ false) where
    abbrev t : State
    t = record (passed f s) { watch = watch }

    going : Going t (heard f [] c) events []
    going =
        going_of t (heard f [] c) events []
        (mid_as (record old { place = place_at (s.place + size_of f); watch = watch }) (heard f [] c) events [] s.output s.set s.ended s.encoder
        (subst (λ (es : List Event). Mid (record old { place = place_at (s.place + size_of f); watch = watch }) (heard f [] c) es []) events_are
        (mid old c f [] w s.decoder s.block watch quiet (decodes old c f w p.loose h.sound) (block_is old c f w p.loose h.sound) clear watched not_passed)))
        h.set_is h.set_role h.set_limits

    takes_reset : Taken t c events
    takes_reset =
        takes t c f [] [] events (unrefused old c f [] w) w.stands.role_is w.stands.limits_are w.alive w.stands.holding_is
        (kept old c f [] w s.decoder s.block watch quiet (decodes old c f w p.loose h.sound) (block_is old c f w p.loose h.sound) clear watched not_passed)
        (subst (λ (es : List Event). Going t (heard f [] c) es []) (sym (append-nil events) ∙ ap (λ (o : Option ℕ). events ++ ends_of o) (sym w.none_ended)) going)
        resets (credit_stays s.is_holding c.role c.limits c.frames f (w.stands.credited w.alive) p.loose.headers none_count)
        (clear_behind old c f [] w s.decoder s.block watch quiet (decodes old c f w p.loose h.sound) (block_is old c f w p.loose h.sound) clear watched not_passed) reply

  -- ---- on a stream that isn't live

  pub dead_quiet : seen.was_live ≡ false → (t : State) → t ≡ passed f s → Quiet t c
  dead_quiet dead t e =
      let watched : IsWatched c.role c.limits hs behind s.watch =
      dead_watched c.role c.limits hs c.frames f is_it p opened_none (goes old c f w p.loose h.sound) same_bytes_here s.watch (was ∙ dead) (watched_before old c f [] w) in
      let clear : stop_at c.role c.limits hs c.frames (Received f) ≡ None = stop_goes c.role c.limits hs c.frames f s.watch.left (goes old c f w p.loose h.sound) (watched.counts w.unpassed) in
      record {
        taken = subst (λ (q : State). Taken q c []) (sym e)
            (subst (λ (es : List Event). Taken (passed f s) c es) (ap (λ (b : Bool). if b then Reset k (code_of f) ∷ [] else []) dead) (takes_reset s.watch clear watched w.unpassed));
        none_ended = ap (λ (q : State). q.ended) e ∙ w.none_ended;
      }

  -- ---- on a live stream

  module _ (live : seen.was_live ≡ true) where
    cut : (stop_at c.role c.limits hs c.frames (Received f) ≡ stop_by (cut_on k s.watch).is_passed) × ((cut_on k s.watch).is_passed ≡ false → IsWatched c.role c.limits hs behind (cut_on k s.watch))
    cut = live_watched c.role c.limits hs c.frames f is_it p opened_none (goes old c f w p.loose h.sound) same_bytes_here s.watch (was ∙ live) w.unpassed (watched_before old c f [] w)

    pub reset_taken : (t : State) → t ≡ record (passed f s) { watch = cut_on k s.watch } → (cut_on k s.watch).is_passed ≡ false → Taken t c (Reset k (code_of f) ∷ [])
    reset_taken t e none =
        subst (λ (q : State). Taken q c (Reset k (code_of f) ∷ [])) (sym e)
        (subst (λ (es : List Event). Taken (record (passed f s) { watch = cut_on k s.watch }) c es) (ap (λ (b : Bool). if b then Reset k (code_of f) ∷ [] else []) live)
        (takes_reset (cut_on k s.watch) (cut.0 ∙ ap stop_by none) (cut.1 none) none))

    pub reset_ends : (t : State) → t ≡ record (passed f s) { watch = cut_on k s.watch } → (cut_on k s.watch).is_passed ≡ true → Ending t c (by.Calm Resets) last
    reset_ends t e some =
        subst (λ (q : State). Ending q c (by.Calm Resets) last) (sym e)
        (ending old (record (passed f s) { watch = cut_on k s.watch }) c f [] w w.stands.role_is w.stands.limits_are w.stands.holding_is refl (by.Calm Resets) last (cut.0 ∙ ap stop_by some) known h.seen_so.last_is)
