-- DATA that break no rule.
use Rattle.std.proofs.Common.{◌≡◌, ℕ, ◌+◌, Bool, true, false, ◌||◌, ◌&&◌, List, [], ◌∷◌, ◌++◌, map, Option, Some, None, refl, sym, ap, subst, ◌∙◌, arith}
use Rattle.std.specs.Prelude.{not, is_some, if◌then◌else◌}
use Rattle.std.proofs.lemmas.List.{append-nil, append_assoc}
use Rattle.h2_frames.specs.declared.code.ErrorCode.{ErrorCode}
use Rattle.h2_frames.specs.declared.frame.Frame.{Frame}
use Rattle.h2_frames.specs.Layout.{body_of, size_of}
use Rattle.h2_frames.specs.Stream.{place_at}
use Rattle.h2_exchange.specs.declared.limits.H2Limits.{H2Limits}
use Rattle.h2_exchange.specs.declared.role.Role.{Role}
use Rattle.h2_exchange.specs.declared.role.Role.TheVariants.{Client, Server}
use Rattle.h2_exchange.specs.Blocks.{data_of, completed}
use Rattle.h2_exchange.specs.Content.{Outcome, stream_error}
use Rattle.h2_exchange.specs.Events.{Event, Data, Ended, data_events, events_of, events_by, sound_events, bytes_on}
use Rattle.h2_exchange.specs.Exchange.{Step, Received, Sent, received}
use Rattle.h2_exchange.specs.Frames.{stream_of, is_data, has_end_stream, counted}
use Rattle.h2_exchange.specs.Sending.{IsCredited, ResetsErrors}
use Rattle.h2_exchange.specs.Stops.{cuts_request, ends_call, has_request, is_end, request_bytes, stop_at}
use Rattle.h2_exchange.specs.Streams.{is_begun, is_live, is_live_at}
use Rattle.h2_streams.specs.declared.set.receive.SeenStream.{SeenStream}
use Rattle.h2_streams.proofs.Lists.{self_eq, isnt}
use Rattle.http_connection.specs.Answers.{AreReply, AreReplyBy}
use Rattle.http_connection.specs.ConnectionTrace.{ConnectionTrace}
use Rattle.h2_conn.specs.Credit.{with_credit}
use Rattle.h2_conn.specs.Hears.{Quiet, Sound, Starved, Taken}
use Rattle.h2_conn.specs.Receiving.{ended_by, heard_on, over_unless, passed, with_data_of, with_heard, with_told}
use Rattle.h2_conn.specs.State.{State}
use Rattle.h2_conn.specs.Standing.{Going, HasCredit, Kept, ends_of}
use Rattle.h2_conn.specs.Steps.{Waiting}
use Rattle.h2_conn.specs.Watching.{Watch, IsWatched}
use Rattle.h2_conn.proofs.Further.{resets_known}
use Rattle.h2_conn.proofs.Granting.{Sends, credit_sends, credit_sides, sent_on}
use Rattle.h2_conn.proofs.Halting.{starves}
use Rattle.h2_conn.proofs.Hearing.{heard}
use Rattle.h2_conn.proofs.Loose.{IsData, begun_stays, bytes_same, client_same, data_bytes, live_back, live_begun, over_watched, quiet_heard, resets_sent, server_more, small_count, stop_goes}
use Rattle.h2_conn.proofs.LooseHeard.{block_is, credit_again, decodes, error_is, goes, heads, opened, owed_all, owed_stream}
use Rattle.h2_conn.proofs.Midway.{Mid, going_of, mid_as, mid_of, mid_watch}
use Rattle.h2_conn.proofs.Plain.{none_completed}
use Rattle.h2_conn.proofs.Received.{IsQuiet, answered, clear_behind, kept, mid, quiet_is, takes, unrefused, watched_before}
use Rattle.h2_conn.proofs.Splits.{resets_heard}
use Rattle.h2_conn.proofs.Watched.{count_push, ends, quiet_count, unbegun}
use Rattle.h2_conn.proofs.Watching.{more_watched, same_passed}

-- ---- what a watch says behind DATA

module _ (limits : H2Limits) (heads : List Outcome) (x : List Step) (f : Frame) (is_it : is_data f ≡ true) (p : IsData f) where
  abbrev behind : List Step
  behind = x ++ Received f ∷ []

  abbrev id : ℕ
  id = stream_of f

  abbrev told : Bool → List Event
  told live = if live then data_events f else []

  no_cut : (role : Role) → cuts_request role limits heads x (Received f) ≡ false
  no_cut role = ap (λ (b : Bool). b && is_live role x id && not (has_request role limits heads x id)) p.no_reset

  ends_server : completed (received x) f ≡ None → stream_error Server limits heads x f ≡ None → ends_call limits heads Server x (Received f) ≡ (has_end_stream f && is_live Server x id)
  ends_server whole none =
      ap (λ (o : Option ErrorCode). is_end (received x) f && is_live_at Server x f id && not (is_some o)) none
      ∙ rw (whole, is_it, p.loose.headers) (shape (has_end_stream f) (is_live Server x id))
    where
      shape : (a b : Bool) → ((a || false) && (b || false) && true) ≡ (a && b)
      shape true true = refl
      shape true false = refl
      shape false b = refl

  front : (side : Role) (id : ℕ) → is_live side behind id ≡ true → is_live side x id ≡ true
  front side id live = live_back side x f id p.loose.headers live

  server_bytes : (live : Bool) (k : ℕ) → events_of Server limits heads x (Received f) ≡ told live → request_bytes limits heads Server behind k ≡ request_bytes limits heads Server x k ++ bytes_on k (told live)
  server_bytes live k e = server_more limits heads x f (told live) k e

  -- a live stream of a server
  live_watched : (w : Watch) → completed (received x) f ≡ None → stream_error Server limits heads x f ≡ None → is_live Server x id ≡ true → events_of Server limits heads x (Received f) ≡ data_events f → IsWatched Server limits heads x w →
      IsWatched Server limits heads behind (heard_on Server true f w)
  live_watched w whole none live e h =
      more_watched Server limits heads x behind id (data_of f) (has_end_stream f) w
      (quiet_count Server limits heads (cuts_request Server limits heads) x (Received f) (no_cut Server))
      (count_push (ends_call limits heads Server) x (Received f)
      ∙ ap (λ (b : Bool). ends Server limits heads x + (if b then 1 else 0)) (ends_server whole none ∙ ap (λ (b : Bool). has_end_stream f && b) live ∙ and_true (has_end_stream f)))
      (server_bytes true id e ∙ ap (λ (b : List ℕ). request_bytes limits heads Server x id ++ b) (data_bytes f id (has_end_stream f) ∙ ap (λ (b : Bool). if b then data_of f else []) (self_eq id)))
      (λ k other. server_bytes true k e ∙ ap (λ (b : List ℕ). request_bytes limits heads Server x k ++ b) (data_bytes f k (has_end_stream f) ∙ ap (λ (b : Bool). if b then data_of f else []) (isnt k id (λ q. other (sym q))))
      ∙ append-nil (request_bytes limits heads Server x k))
      (front Server) (begun_stays Server x (Received f ∷ []) id (live_begun Server x id live)) (λ k. unbegun Server x (Received f) k) h
    where
      and_true : (b : Bool) → (b && true) ≡ b
      and_true true = refl
      and_true false = refl

  -- nothing is taken of any other
  same_watched : (role : Role) (w : Watch) → ends_call limits heads role x (Received f) ≡ false → ((k : ℕ) → request_bytes limits heads role behind k ≡ request_bytes limits heads role x k) → IsWatched role limits heads x w → IsWatched role limits heads behind w
  same_watched role w none same h = quiet_heard role limits heads x f w (no_cut role) none same (front role) h

  pub data_watched : (role : Role) (live : Bool) (w : Watch) → completed (received x) f ≡ None → stream_error role limits heads x f ≡ None → is_live role x id ≡ live → events_of role limits heads x (Received f) ≡ told live → IsWatched role limits heads x w →
      IsWatched role limits heads behind (heard_on role live f w)
  data_watched Client live w whole none l e h = same_watched Client w refl (λ k. client_same limits heads x f k) h
  data_watched Server true w whole none l e h = live_watched w whole none l e h
  data_watched Server false w whole none l e h =
      same_watched Server w (ends_server whole none ∙ ap (λ (b : Bool). has_end_stream f && b) l ∙ and_false (has_end_stream f)) (λ k. bytes_same Server limits heads x f [] k e refl) h
    where
      and_false : (b : Bool) → (b && false) ≡ false
      and_false true = refl
      and_false false = refl

pub heard_passed : (role : Role) (live : Bool) (f : Frame) (w : Watch) → (heard_on role live f w).is_passed ≡ w.is_passed
heard_passed Client live f w = refl
heard_passed Server false f w = refl
heard_passed Server true f w = same_passed (has_end_stream f) (stream_of f) (data_of f) w

-- ---- the state behind them

ended_is : (e : Bool) (f : Frame) (o : Option ℕ) → o ≡ None → (Data (stream_of f) (data_of f) ∷ (if e then Ended (stream_of f) ∷ [] else [])) ≡ (Data (stream_of f) (data_of f) ∷ []) ++ ends_of (ended_by e (stream_of f) o)
ended_is true f o none = refl
ended_is false f o none = ap (λ (m : Option ℕ). (Data (stream_of f) (data_of f) ∷ []) ++ ends_of m) (sym none)

pub over_passed : (live : Bool) (k : ℕ) (w : Watch) → (over_unless live k w).is_passed ≡ w.is_passed
over_passed true k w = refl
over_passed false k w = refl

pub over_said : (role : Role) (limits : H2Limits) (heads : List Outcome) (y : List Step) (k : ℕ) (live : Bool) (w : Watch) → is_live role y k ≡ live → is_begun role y k ≡ true → IsWatched role limits heads y w → IsWatched role limits heads y (over_unless live k w)
over_said role limits heads y k true w e begun h = h
over_said role limits heads y k false w e begun h = over_watched role limits heads y k w e begun h

module _ (s : State) (c : ConnectionTrace) (f : Frame) (seen : SeenStream) (last : ℕ) (h : Sound s c f seen last) (is_it : is_data f ≡ true) (p : IsData f) where
  abbrev old : State
  old = record s { set = h.before }

  w : Waiting old c f
  w = h.waits

  abbrev hs : List Outcome
  hs = heads old c f w p.loose h.sound

  abbrev y : List Step
  y = c.frames ++ Received f ∷ []

  abbrev k : ℕ
  k = stream_of f

  whole : completed (received c.frames) f ≡ None
  whole = none_completed c.role c.limits hs c.frames f p.loose h.sound (opened old c f w p.loose h.sound)

  no_error : stream_error c.role c.limits hs c.frames f ≡ None
  no_error = error_is old c f w p.loose h.sound ∙ h.faultless

  abbrev live : Bool
  live = seen.was_live

  was : is_live c.role c.frames k ≡ live
  was = sym h.seen_so.was_live

  abbrev events : List Event
  events = if live then data_events f else []

  events_are : events_of c.role c.limits hs c.frames (Received f) ≡ events
  events_are =
      ap (events_by (sound_events c.role hs c.frames f) k) no_error
      ∙ rw is_it (ap (λ (b : Bool). if b then data_events f else []) was)

  abbrev watch : Watch
  watch = heard_on s.role live f s.watch

  watched : IsWatched c.role c.limits hs y watch
  watched =
      subst (λ (r : Role). IsWatched c.role c.limits hs y (heard_on r live f s.watch)) w.stands.role_is
      (data_watched c.limits hs c.frames f is_it p c.role live s.watch whole no_error was events_are (watched_before old c f [] w))

  not_passed : watch.is_passed ≡ false
  not_passed = heard_passed s.role live f s.watch ∙ w.unpassed

  clear : stop_at c.role c.limits hs c.frames (Received f) ≡ None
  clear = stop_goes c.role c.limits hs c.frames f watch.left (goes old c f w p.loose h.sound) (watched.counts not_passed)

  quiet : IsQuiet f
  quiet = quiet_is f p.no_settings p.no_ping

  abbrev first : State
  first = passed f (with_heard live f s)

  going : Going first (heard f [] c) events []
  going =
      going_of first (heard f [] c) events []
      (mid_as (record old { place = place_at (s.place + size_of f); watch = watch }) (heard f [] c) events [] s.output s.set s.ended s.encoder
      (subst (λ (es : List Event). Mid (record old { place = place_at (s.place + size_of f); watch = watch }) (heard f [] c) es []) events_are
      (mid old c f [] w s.decoder s.block watch quiet (decodes old c f w p.loose h.sound) (block_is old c f w p.loose h.sound) clear watched not_passed)))
      h.set_is h.set_role h.set_limits

  kept_first : Kept (heard f [] c) s.output s.encoder
  kept_first = kept old c f [] w s.decoder s.block watch quiet (decodes old c f w p.loose h.sound) (block_is old c f w p.loose h.sound) clear watched not_passed

  credit : (fs : List Frame) × Sends first (heard f [] c) k (counted f) fs (with_credit k first) events s.encoder
  credit =
      credit_sends first (heard f [] c) k (counted f) (omega arith) (body_of f).stream_in_range (let small = small_count f in omega (arith, small)) events s.encoder kept_first going
      (λ free.
      let credited : IsCredited c.role c.limits c.frames = subst (λ (b : Bool). HasCredit b c.role c.limits c.frames) free (w.stands.credited w.alive) in
      (owed_all c.role c.limits c.frames f s.set credited h.set_is h.set_limits, owed_stream c.role c.limits c.frames f s.set credited h.set_is h.set_role h.set_limits p.loose.headers (small_count f)))

  abbrev fs : List Frame
  fs = credit.0

  abbrev sends : Sends first (heard f [] c) k (counted f) fs (with_credit k first) events s.encoder
  sends = credit.1

  abbrev after_all : List Step
  after_all = c.frames ++ (Received f ∷ map Sent fs)

  joined : y ++ map Sent fs ≡ after_all
  joined = append_assoc c.frames (Received f ∷ []) (map Sent fs)

  abbrev second : State
  second = record first { output = (with_credit k first).output; set = (with_credit k first).set }

  same : with_credit k first ≡ second
  same = credit_sides k first

  kept_second : Kept (answered f [] fs c) second.output s.encoder
  kept_second = subst (λ (x : List Step). Kept (record c { frames = x; heads = hs }) second.output s.encoder) joined sends.kept

  going_second : Going second (answered f [] fs c) events []
  going_second =
      subst (λ (x : List Step). Going second (record c { frames = x; heads = hs }) events []) joined
      (subst (λ (t : State). Going t (sent_on fs (heard f [] c)) events []) same sends.goes)

  resets : ResetsErrors c.role c.limits hs after_all
  resets =
      subst (ResetsErrors c.role c.limits hs) joined (resets_sent c.role c.limits hs y fs
      (resets_heard c.role c.limits hs c.frames f (resets_known c.role c.limits c.heads [] c.frames w.stands.kept.read.enough w.stands.resets)
      (λ why e q. absurd (let t : None ≡ Some why = sym no_error ∙ q in cc))))

  credited : HasCredit s.is_holding c.role c.limits after_all
  credited =
      subst (HasCredit s.is_holding c.role c.limits) joined
      (credit_again s.is_holding c.role c.limits c.frames f fs (w.stands.credited w.alive) p.loose.headers sends.grants sends.held sends.live_is)

  reply : AreReply c.role c.limits c.is_holding hs c.frames f fs
  reply =
      subst (λ (e : Option ErrorCode). AreReplyBy e c.role c.is_holding c.frames f fs) (sym no_error)
      (subst (λ (b : Bool). AreReplyBy None c.role b c.frames f fs) (sym w.stands.holding_is)
      (rw quiet.no_ack sends.text))

  -- ---- on a stream that isn't live

  pub dead_goes : seen.was_live ≡ false → Taken (with_data_of false f s) c []
  dead_goes dead =
      let none : events ≡ [] = ap (λ (b : Bool). if b then data_events f else []) dead in
      let g : Going second (answered f [] fs c) ([] ++ ends_of second.ended) [] =
      subst (λ (es : List Event). Going second (answered f [] fs c) es []) (none ∙ sym (ap ends_of w.none_ended)) going_second in
      let all : Taken (with_data_of live f s) c [] =
      subst (λ (t : State). Taken t c []) (sym same)
      (takes second c f [] fs [] (unrefused old c f [] w) w.stands.role_is w.stands.limits_are w.alive w.stands.holding_is kept_second g resets credited
      (clear_behind old c f [] w s.decoder s.block watch quiet (decodes old c f w p.loose h.sound) (block_is old c f w p.loose h.sound) clear watched not_passed) reply) in
      subst (λ (b : Bool). Taken (with_data_of b f s) c []) dead all

  -- ---- on a live stream

  abbrev third : State
  third = record second { ended = ended_by (has_end_stream f) k s.ended; watch = over_unless seen.is_live k watch }

  live_last : is_live c.role after_all k ≡ seen.is_live
  live_last = sym (ap (λ (x : List Step). is_live c.role x k) joined) ∙ sends.live_is k ∙ sym h.is_live

  begun_last : is_live c.role c.frames k ≡ true → is_begun c.role after_all k ≡ true
  begun_last l = begun_stays c.role c.frames (Received f ∷ map Sent fs) k (live_begun c.role c.frames k l)

  going_third : seen.was_live ≡ true → Going third (answered f [] fs c) ((Data k (data_of f) ∷ []) ++ ends_of third.ended) []
  going_third l =
      let es : events ≡ (Data k (data_of f) ∷ []) ++ ends_of third.ended = ap (λ (b : Bool). if b then data_events f else []) l ∙ ended_is (has_end_stream f) f s.ended w.none_ended in
      subst (λ (e : List Event). Going third (answered f [] fs c) e []) es
      (going_of third (answered f [] fs c) events []
      (mid_as (record second { watch = over_unless seen.is_live k watch }) (answered f [] fs c) events [] second.output second.set third.ended second.encoder
      (mid_watch second (answered f [] fs c) events [] (over_unless seen.is_live k watch) (mid_of second (answered f [] fs c) events [] going_second)
      (over_said c.role c.limits hs after_all k seen.is_live watch live_last (begun_last (was ∙ l)) going_second.watched) (over_passed seen.is_live k watch)))
      going_second.set_is going_second.set_role going_second.set_limits)

  pub live_goes : seen.was_live ≡ true → Taken (with_told seen.is_live f (with_data_of true f s)) c (Data k (data_of f) ∷ [])
  live_goes l =
      let all : Taken (with_told seen.is_live f (with_data_of live f s)) c (Data k (data_of f) ∷ []) =
      subst (λ (t : State). Taken (with_told seen.is_live f t) c (Data k (data_of f) ∷ [])) (sym same)
      (takes third c f [] fs (Data k (data_of f) ∷ []) (unrefused old c f [] w) w.stands.role_is w.stands.limits_are w.alive w.stands.holding_is kept_second (going_third l) resets credited
      (clear_behind old c f [] w s.decoder s.block watch quiet (decodes old c f w p.loose h.sound) (block_is old c f w p.loose h.sound) clear watched not_passed) reply) in
      subst (λ (b : Bool). Taken (with_told seen.is_live f (with_data_of b f s)) c (Data k (data_of f) ∷ [])) l all

  sides : (live : Bool) (t : State) → t ≡ with_data_of live f s → t.ended ≡ s.ended
  sides live t e = ap (λ (q : State). q.ended) (e ∙ credit_sides k (passed f (with_heard live f s)))

  pub dead_quiet : seen.was_live ≡ false → (t : State) → t ≡ with_data_of seen.was_live f s → Quiet t c
  dead_quiet dead t e =
      let at : t ≡ with_data_of false f s = e ∙ ap (λ (b : Bool). with_data_of b f s) dead in
      record { taken = subst (λ (q : State). Taken q c []) (sym at) (dead_goes dead); none_ended = sides seen.was_live t e ∙ w.none_ended }

  pub live_taken : seen.was_live ≡ true → (t : State) → t ≡ with_told seen.is_live f (with_data_of seen.was_live f s) → Taken t c (Data k (data_of f) ∷ [])
  live_taken l t e =
      subst (λ (q : State). Taken q c (Data k (data_of f) ∷ [])) (sym (e ∙ ap (λ (b : Bool). with_told seen.is_live f (with_data_of b f s)) l)) (live_goes l)

  pub data_starves : (t : State) → t ≡ s → Starved t c
  data_starves t e = subst (λ (q : State). Starved q c) (sym e) (starves old s c f w w.stands.role_is w.stands.limits_are w.stands.holding_is refl)
