-- A frame that is no part of a header block, and a stream error.
use Rattle.std.proofs.Common.{◌≡◌, ℕ, Bool, true, false, ◌||◌, ◌&&◌, List, [], ◌∷◌, ◌++◌, Option, Some, None, refl, sym, ap, subst, ◌∙◌}
use Rattle.std.specs.Prelude.{not, is_some, if◌then◌else◌}
use Rattle.std.specs.Option.{option_or}
use Rattle.h2_frames.specs.declared.code.ErrorCode.{ErrorCode}
use Rattle.h2_frames.specs.declared.frame.Frame.{Frame}
use Rattle.h2_frames.specs.declared.frame.Frame.TheVariants as kind
use Rattle.h2_exchange.specs.declared.limits.H2Limits.{H2Limits}
use Rattle.h2_exchange.specs.declared.role.Role.{Role}
use Rattle.h2_exchange.specs.declared.role.Role.TheVariants.{Client, Server}
use Rattle.h2_exchange.specs.Blocks.{Block, completed}
use Rattle.h2_exchange.specs.Content.{Outcome, stream_error}
use Rattle.h2_exchange.specs.Events.{Reset, events_by, sound_events}
use Rattle.h2_exchange.specs.Exchange.{Step, Received, received}
use Rattle.h2_exchange.specs.Frames.{stream_of, is_headers, is_continuation, is_rst_stream, is_settings, is_ping}
use Rattle.h2_exchange.specs.StreamErrors.{completed_error, live_error}
use Rattle.h2_exchange.specs.Stops.{ends_call, has_request, is_end, request_bytes}
use Rattle.h2_exchange.specs.Streams.{is_live, is_live_at}
use Rattle.h2_streams.specs.declared.set.receive.SeenStream.{SeenStream}
use Rattle.http_connection.specs.ConnectionTrace.{ConnectionTrace}
use Rattle.h2_conn.specs.Credit.{with_credit}
use Rattle.h2_conn.specs.Hears.{Faulty, Taken}
use Rattle.h2_conn.specs.Receiving.{passed, with_reset_of}
use Rattle.h2_conn.specs.State.{State}
use Rattle.h2_conn.specs.Steps.{Waiting}
use Rattle.h2_conn.specs.Watching.{IsAsked, IsWatched, asked_on}
use Rattle.h2_conn.proofs.ErrorHeard.{error_credited}
use Rattle.h2_conn.proofs.Loose.{begun_stays, bytes_same, live_back, live_begun, quiet_heard, stop_goes}
use Rattle.h2_conn.proofs.LooseHeard.{block_is, decodes, error_is, goes, heads, opened}
use Rattle.h2_conn.proofs.Plain.{IsLoose, none_completed}
use Rattle.h2_conn.proofs.Received.{quiet_is, watched_before}

-- DATA, PRIORITY or WINDOW_UPDATE
pub record IsErring (f : Frame) : Type 0 where
  pub loose : IsLoose f
  pub no_reset : is_rst_stream f ≡ false
  pub no_settings : is_settings f ≡ false
  pub no_ping : is_ping f ≡ false

erring : (limits : H2Limits) (x : List Step) (f : Frame) (why : ErrorCode) → (is_headers f || is_continuation f) ≡ false → live_error limits x f ≡ Some why → IsErring f
erring limits x (kind.Content b) why p e = record { loose = record { headers = refl; more = refl }; no_reset = refl; no_settings = refl; no_ping = refl }
erring limits x (kind.Headers b) why p e = absurd (let t : true ≡ false = p in cc)
erring limits x (kind.Priority b) why p e = record { loose = record { headers = refl; more = refl }; no_reset = refl; no_settings = refl; no_ping = refl }
erring limits x (kind.RstStream b) why p e = absurd (let t : None ≡ Some why = e in cc)
erring limits x (kind.Settings b) why p e = absurd (let t : None ≡ Some why = e in cc)
erring limits x (kind.PushPromise b) why p e = absurd (let t : None ≡ Some why = e in cc)
erring limits x (kind.Ping b) why p e = absurd (let t : None ≡ Some why = e in cc)
erring limits x (kind.GoAway b) why p e = absurd (let t : None ≡ Some why = e in cc)
erring limits x (kind.WindowUpdate b) why p e = record { loose = record { headers = refl; more = refl }; no_reset = refl; no_settings = refl; no_ping = refl }
erring limits x (kind.Continuation b) why p e = absurd (let t : true ≡ false = p in cc)
erring limits x (kind.Unknown other b) why p e = absurd (let t : None ≡ Some why = e in cc)

loose_by : (f : Frame) → (is_headers f || is_continuation f) ≡ false → IsLoose f
loose_by f e = record { headers = left (is_headers f) (is_continuation f) e; more = right (is_headers f) (is_continuation f) e }
  where
    left : (a b : Bool) → (a || b) ≡ false → a ≡ false
    left true b e = absurd cc
    left false b e = refl

    right : (a b : Bool) → (a || b) ≡ false → b ≡ false
    right true b e = absurd cc
    right false b e = e

-- its stream was live
live_fault : (live : Bool) (error : Option ErrorCode) (why : ErrorCode) → option_or (if live then error else None) None ≡ Some why → (live ≡ true) × (error ≡ Some why)
live_fault true None why e = absurd cc
live_fault true (Some cause) why e = (refl, e)
live_fault false error why e = absurd cc

module _ (s : State) (c : ConnectionTrace) (f : Frame) (why : ErrorCode) (seen : SeenStream) (greatest : ℕ) (h : Faulty s c f why seen greatest) (part : (is_headers f || is_continuation f) ≡ false) where
  abbrev old : State
  old = record s { set = h.before }

  w : Waiting old c f
  w = h.waits

  loose : IsLoose f
  loose = loose_by f part

  abbrev hs : List Outcome
  hs = heads old c f w loose h.sound

  abbrev behind : List Step
  behind = c.frames ++ Received f ∷ []

  abbrev k : ℕ
  k = stream_of f

  whole : completed (received c.frames) f ≡ None
  whole = none_completed c.role c.limits hs c.frames f loose h.sound (opened old c f w loose h.sound)

  fault_is : (is_live c.role c.frames k ≡ true) × (live_error c.limits c.frames f ≡ Some why)
  fault_is =
      live_fault (is_live c.role c.frames k) (live_error c.limits c.frames f) why
      (ap (λ (o : Option Block). option_or (if is_live c.role c.frames k then live_error c.limits c.frames f else None) (completed_error c.role c.limits c.frames f false o)) (sym whole) ∙ h.fault)

  p : IsErring f
  p = erring c.limits c.frames f why part fault_is.1

  error : stream_error c.role c.limits hs c.frames f ≡ Some why
  error = error_is old c f w loose h.sound ∙ h.fault

  same_bytes : (j : ℕ) → request_bytes c.limits hs c.role behind j ≡ request_bytes c.limits hs c.role c.frames j
  same_bytes j = bytes_same c.role c.limits hs c.frames f (Reset k why ∷ []) j (ap (events_by (sound_events c.role hs c.frames f) k) error) refl

  no_end : (side : Role) → side ≡ c.role → ends_call c.limits hs side c.frames (Received f) ≡ false
  no_end Server same =
      ap (λ (o : Option ErrorCode). is_end (received c.frames) f && is_live_at Server c.frames f k && not (is_some o)) (ap (λ (r : Role). stream_error r c.limits hs c.frames f) same ∙ error)
      ∙ and_false (is_end (received c.frames) f && is_live_at Server c.frames f k)
    where
      and_false : (b : Bool) → (b && false) ≡ false
      and_false true = refl
      and_false false = refl
  no_end Client same = refl

  watched : IsWatched c.role c.limits hs behind s.watch
  watched =
      quiet_heard c.role c.limits hs c.frames f s.watch (ap (λ (b : Bool). b && is_live c.role c.frames k && not (has_request c.role c.limits hs c.frames k)) p.no_reset) (no_end c.role refl) same_bytes
      (λ j live. live_back c.role c.frames f j loose.headers live) (watched_before old c f [] w)

  pub error_taken : (t : State) → t ≡ with_credit k (with_reset_of k why (passed f s)) → Taken t c (Reset k why ∷ [])
  error_taken t e =
      subst (λ (q : State). Taken q c (Reset k why ∷ [])) (sym e)
      (error_credited s c f why [] h.before w s.decoder s.block (quiet_is f p.no_settings p.no_ping) (decodes old c f w loose h.sound) (block_is old c f w loose h.sound)
      (stop_goes c.role c.limits hs c.frames f s.watch.left (goes old c f w loose h.sound) (watched.counts w.unpassed)) error watched
      (subst (λ (b : List ℕ). IsAsked b (asked_on k s.watch)) (sym (same_bytes k)) ((watched_before old c f [] w).requests k fault_is.0))
      (begun_stays c.role c.frames (Received f ∷ []) k (live_begun c.role c.frames k fault_is.0)) h.set_is h.set_role h.set_limits (λ j other live. live_back c.role c.frames f j loose.headers live))
