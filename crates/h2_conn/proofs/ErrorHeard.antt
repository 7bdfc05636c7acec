-- The joint step of a stream error: its frame is received, and the reset of its stream is sent.
use Rattle.std.proofs.Common.{◌≡◌, ℕ, ◌+◌, Bool, true, false, List, [], ◌∷◌, ◌++◌, map, Option, Some, None, refl, sym, ap, subst, ◌∙◌, arith}
use Rattle.std.specs.Prelude.{◌==◌, if◌then◌else◌}
use Rattle.std.specs.List.{flat_map}
use Rattle.std.proofs.lemmas.List.{append-nil, append_assoc}
use Rattle.h2_frames.specs.declared.code.ErrorCode.{ErrorCode}
use Rattle.h2_frames.specs.declared.frame.Frame.{Frame}
use Rattle.h2_frames.specs.declared.frame.Frame.TheVariants.{RstStream}
use Rattle.h2_frames.specs.declared.frame.FrameBody.{FrameBody}
use Rattle.h2_frames.specs.Layout.{body_of, frame_text, size_of}
use Rattle.h2_frames.specs.Stream.{place_at}
use Rattle.hpack_tables.specs.Decoder.{Decoder}
use Rattle.h2_exchange.specs.declared.limits.H2Limits.{H2Limits}
use Rattle.h2_exchange.specs.declared.role.Role.{Role}
use Rattle.h2_exchange.specs.Blocks.{Block, blocks, open_block}
use Rattle.h2_exchange.specs.Content.{Outcome, stream_error}
use Rattle.h2_exchange.specs.Events.{Event, Reset, events_by, events_of, sound_events}
use Rattle.h2_exchange.specs.Exchange.{Step, Received, Sent, received, sent}
use Rattle.h2_exchange.specs.Frames.{stream_of, counted}
use Rattle.h2_exchange.specs.Sending.{acks_in, credit_text, IsCredited, reset_text, ResetsErrors}
use Rattle.h2_exchange.specs.Stops.{request_bytes, stop_at, stop_of}
use Rattle.h2_exchange.specs.Streams.{is_begun, is_live}
use Rattle.h2_exchange.specs.Windows.{granted_on, spent, spent_on}
use Rattle.h2_exchange.proofs.Steps.{received_sent, sent_push, window_sums_grow}
use Rattle.h2_streams.specs.Set.{Set, at, owed_in}
use Rattle.h2_streams.specs.Stands as streams
use Rattle.h2_streams.specs.Stands.{stream_at}
use Rattle.h2_streams.proofs.Lists.{isnt}
use Rattle.h2_streams.proofs.Resets.{live_same, now_dead}
use Rattle.h2_streams.proofs.Standing.{at_is}
use Rattle.http_connection.specs.Answers.{AreReply, AreReplyBy}
use Rattle.http_connection.specs.ConnectionTrace.{ConnectionTrace}
use Rattle.h2_conn.specs.Credit.{owed_by, with_credit}
use Rattle.h2_conn.specs.Hears.{Taken}
use Rattle.h2_conn.specs.Receiving.{passed, with_reset_of}
use Rattle.h2_conn.specs.State.{State}
use Rattle.h2_conn.specs.Standing.{Decodes, Going, HasCredit, IsWithinCredit, Kept, ends_of}
use Rattle.h2_conn.specs.Steps.{Waiting}
use Rattle.h2_conn.specs.Watching.{IsAsked, IsWatched, asked_on, cut_on, stop_by}
use Rattle.h2_conn.proofs.Further.{resets_known}
use Rattle.h2_conn.proofs.Granting.{Grants, credit_sends, credit_sides, sent_on}
use Rattle.h2_conn.proofs.Hearing.{heard}
use Rattle.h2_conn.proofs.Loose.{resets_sent, small_count}
use Rattle.h2_conn.proofs.LooseHeard.{granted_behind, spent_behind, spent_on_behind}
use Rattle.h2_conn.proofs.Midway.{Mid, going_of, mid_as, mid_push}
use Rattle.h2_conn.proofs.NextMessage.{cut_watched}
use Rattle.h2_conn.proofs.Received.{IsQuiet, clear_behind, kept, mid, takes, unrefused}
use Rattle.h2_conn.proofs.Resetting.{reset_body}
use Rattle.h2_conn.proofs.Sounds.{no_ack, one_more, sends_kept}
use Rattle.h2_conn.proofs.Splits.{Cut, cut_push, frame_or, is_sent, last, within}

-- ---- each stream error has its reset

abbrev some_of : ErrorCode → Option ErrorCode → ErrorCode
some_of other None = other
some_of other (Some why) = why

module _ (role : Role) (limits : H2Limits) (heads : List Outcome) where
  abbrev HasReset : List Step → Frame → ErrorCode → Type 0
  HasReset behind f why = (reset : Frame) × (more : List Step) × (behind ≡ Sent reset ∷ more) × (frame_text reset ≡ reset_text (stream_of f) why)

  inner : (x : List Step) (f g : Frame) (why : ErrorCode) → ResetsErrors role limits heads x → stream_error role limits heads x f ≡ Some why → frame_text g ≡ reset_text (stream_of f) why →
      (past behind more : List Step) (k : Frame) (cause : ErrorCode) → behind ≡ more ++ Sent g ∷ [] → Cut x (Received f) past (Received k) more → stop_of role limits heads (past ++ Received k ∷ []) ≡ None → stream_error role limits heads past k ≡ Some cause → HasReset behind k cause
  inner x f g why h error text past behind more k cause e (last a b d) p q =
      let same : k ≡ f = ap (frame_or f) b in
      let known : stream_error role limits heads x f ≡ Some cause = sym (ap (λ (y : List Step). stream_error role limits heads y f) a) ∙ sym (ap (λ (m : Frame). stream_error role limits heads past m) same) ∙ q in
      let causes : why ≡ cause = ap (some_of why) (sym error ∙ known) in
      (g, [], e ∙ ap (λ (y : List Step). y ++ Sent g ∷ []) d, text ∙ ap (λ (m : Frame). reset_text (stream_of m) why) (sym same) ∙ ap (reset_text (stream_of k)) causes)
  inner x f g why h error text past behind more k cause e (within rest a b) p q =
      let r = h past rest k cause b p q in
      (r.0, (r.1 ++ Received f ∷ []) ++ Sent g ∷ [], e ∙ ap (λ (y : List Step). y ++ Sent g ∷ []) (a ∙ ap (λ (y : List Step). y ++ Received f ∷ []) r.2), r.3)

  outer : (x : List Step) (f g : Frame) (why : ErrorCode) → ResetsErrors role limits heads x → stream_error role limits heads x f ≡ Some why → frame_text g ≡ reset_text (stream_of f) why →
      (past behind : List Step) (k : Frame) (cause : ErrorCode) → Cut (x ++ Received f ∷ []) (Sent g) past (Received k) behind → stop_of role limits heads (past ++ Received k ∷ []) ≡ None → stream_error role limits heads past k ≡ Some cause → HasReset behind k cause
  outer x f g why h error text past behind k cause (last a b d) p q = let no : false ≡ true = ap is_sent b in absurd cc
  outer x f g why h error text past behind k cause (within more a b) p q = inner x f g why h error text past behind more k cause a (cut_push x (Received f) past (Received k) more b) p q

  pub resets_error : (x : List Step) (f g : Frame) (why : ErrorCode) → ResetsErrors role limits heads x → stream_error role limits heads x f ≡ Some why → frame_text g ≡ reset_text (stream_of f) why → ResetsErrors role limits heads ((x ++ Received f ∷ []) ++ Sent g ∷ [])
  resets_error x f g why h error text past behind k cause e p q = outer x f g why h error text past behind k cause (cut_push (x ++ Received f ∷ []) (Sent g) past (Received k) behind e) p q

-- ---- the sums

module _ (role : Role) (limits : H2Limits) (x : List Step) (f : Frame) (b : FrameBody) (on : b.stream ≡ stream_of f) where
  abbrev y : List Step
  y = x ++ Received f ∷ []

  abbrev z : List Step
  z = y ++ Sent (RstStream b) ∷ []

  abbrev id : ℕ
  id = stream_of f

  spent_here : spent (received z) ≡ spent (received x) + counted f
  spent_here = ap spent (received_sent y (RstStream b)) ∙ spent_behind x f

  spent_on_here : (k : ℕ) → (k ≡ id → ⊥) → spent_on k (received z) ≡ spent_on k (received x)
  spent_on_here k other = ap (spent_on k) (received_sent y (RstStream b)) ∙ spent_on_behind x f k ∙ ap (λ (t : Bool). spent_on k (received x) + (if t then counted f else 0)) (isnt k id (λ e. other (sym e))) ∙ plus_zero (spent_on k (received x))
    where
      plus_zero : (n : ℕ) → n + 0 ≡ n
      plus_zero n = omega arith

  granted_here : (k : ℕ) → granted_on k (sent z) ≡ granted_on k (sent x)
  granted_here k = ap (granted_on k) (sent_push y (RstStream b)) ∙ window_sums_grow.granted_push k (sent y) (RstStream b) ∙ plus_zero (granted_on k (sent y)) ∙ granted_behind x f k
    where
      plus_zero : (n : ℕ) → n + 0 ≡ n
      plus_zero n = omega arith

  dead : is_live role z id ≡ false
  dead = now_dead role limits y b id on

  pub owed_all_here : (set : Set) → IsCredited role limits x → streams.StandsFor set z → set.limits ≡ limits → owed_by set ≡ counted f
  owed_all_here set h stands same = omega (arith, stands.receive_is, h.whole, spent_here, granted_here 0, ap (λ (l : H2Limits). l.window) same)

  pub owed_none_here : (set : Set) → streams.StandsFor set z → set.role ≡ role → owed_in set.limits (at id set) ≡ (if is_live role z id then counted f else 0)
  owed_none_here set stands same =
      ap (owed_in set.limits) (at_is set z stands id ∙ ap (λ (r : Role). if is_live r z id then Some (stream_at set.limits z id) else None) same ∙ ap (λ (t : Bool). if t then Some (stream_at set.limits z id) else None) dead)
      ∙ sym (ap (λ (t : Bool). if t then counted f else 0) dead)

  -- what else is live was so before
  live_before : ((k : ℕ) → (k ≡ id → ⊥) → is_live role y k ≡ true → is_live role x k ≡ true) → (k : ℕ) → is_live role z k ≡ true → (k ≡ id → ⊥) × (is_live role x k ≡ true)
  live_before back k live =
      let other : k ≡ id → ⊥ = λ e. let t : is_live role z k ≡ false = ap (is_live role z) e ∙ dead in let u : true ≡ false = sym live ∙ t in absurd cc in
      (other, back k other (sym (live_same role limits y b id k on other) ∙ live))

  pub credit_here : (holds : Bool) (fs : List Frame) → HasCredit holds role limits x → ((k : ℕ) → (k ≡ id → ⊥) → is_live role y k ≡ true → is_live role x k ≡ true) → (holds ≡ false → Grants role z id (counted f) fs) → (holds ≡ true → fs ≡ []) →
      ((k : ℕ) → is_live role (z ++ map Sent fs) k ≡ is_live role z k) → HasCredit holds role limits (z ++ map Sent fs)
  credit_here true fs h back g none same =
      subst (λ (gs : List Frame). IsWithinCredit role limits (z ++ map Sent gs)) (sym (none refl)) (subst (IsWithinCredit role limits) (sym (append-nil z)) (record {
        whole = omega (arith, h.whole, granted_here 0, spent_here);
        streams = λ k live. let l = live_before back k live in omega (arith, h.streams k l.1, granted_here k, spent_on_here k l.0);
      }))
  credit_here false fs h back g none same =
      let grants = g refl in
      record {
        whole = omega (arith, grants.all, h.whole, granted_here 0, spent_here, ap spent (still z fs));
        streams = λ k live.
            let alive : is_live role z k ≡ true = sym (same k) ∙ live in
            let l = live_before back k alive in
            grants.on k alive ∙ ap (λ (t : Bool). granted_on k (sent z) + (if t then counted f else 0)) (isnt id k l.0) ∙ plus_zero (granted_on k (sent z)) ∙ granted_here k ∙ h.streams k l.1
            ∙ sym (ap (spent_on k) (still z fs) ∙ spent_on_here k l.0);
      }
    where
      still : (u : List Step) (gs : List Frame) → received (u ++ map Sent gs) ≡ received u
      still u [] = ap received (append-nil u)
      still u (g ∷ gs) = ap received (sym (append_assoc u (Sent g ∷ []) (map Sent gs))) ∙ still (u ++ Sent g ∷ []) gs ∙ received_sent u g

      plus_zero : (n : ℕ) → n + 0 ≡ n
      plus_zero n = omega arith

-- ---- the joint step

module _ (s : State) (c : ConnectionTrace) (f : Frame) (why : ErrorCode) (outcomes : List Outcome) (before : Set) (w : Waiting (record s { set = before }) c f) (decoder : Decoder) (block : Option Block) (quiet : IsQuiet f)
    (decodes : Decodes decoder (blocks (received c.frames ++ f ∷ [])) (c.heads ++ outcomes)) (block_is : block ≡ open_block (received c.frames ++ f ∷ [])) (goes : stop_at c.role c.limits (c.heads ++ outcomes) c.frames (Received f) ≡ None)
    (error : stream_error c.role c.limits (c.heads ++ outcomes) c.frames f ≡ Some why) (watched : IsWatched c.role c.limits (c.heads ++ outcomes) (c.frames ++ Received f ∷ []) s.watch)
    (says : IsAsked (request_bytes c.limits (c.heads ++ outcomes) c.role (c.frames ++ Received f ∷ []) (stream_of f)) (asked_on (stream_of f) s.watch)) (begun : is_begun c.role (c.frames ++ Received f ∷ []) (stream_of f) ≡ true)
    (set_is : (b : FrameBody) → b.stream ≡ stream_of f → streams.StandsFor s.set (c.frames ++ Received f ∷ Sent (RstStream b) ∷ [])) (set_role : s.set.role ≡ c.role) (set_limits : s.set.limits ≡ c.limits)
    (back : (k : ℕ) → (k ≡ stream_of f → ⊥) → is_live c.role (c.frames ++ Received f ∷ []) k ≡ true → is_live c.role c.frames k ≡ true) where
  abbrev old : State
  old = record s { set = before }

  abbrev hs : List Outcome
  hs = c.heads ++ outcomes

  abbrev behind : List Step
  behind = c.frames ++ Received f ∷ []

  abbrev n : ℕ
  n = stream_of f

  abbrev rb : FrameBody
  rb = reset_body n why (body_of f).stream_in_range

  abbrev g : Frame
  g = RstStream rb

  abbrev events : List Event
  events = Reset n why ∷ []

  events_are : events_of c.role c.limits hs c.frames (Received f) ≡ events
  events_are = ap (events_by (sound_events c.role hs c.frames f) n) error

  mid_at : Mid (record old { place = place_at (s.place + size_of f); decoder = decoder; block = block; watch = s.watch }) (heard f outcomes c) events []
  mid_at =
      subst (λ (es : List Event). Mid (record old { place = place_at (s.place + size_of f); decoder = decoder; block = block; watch = s.watch }) (heard f outcomes c) es []) events_are
      (mid old c f outcomes w decoder block s.watch quiet decodes block_is goes watched w.unpassed)

  kept_at : Kept (heard f outcomes c) s.output s.encoder
  kept_at = kept old c f outcomes w decoder block s.watch quiet decodes block_is goes watched w.unpassed

  cut : IsWatched c.role c.limits hs (behind ++ Sent g ∷ []) (cut_on n s.watch) × (stop_of c.role c.limits hs (behind ++ Sent g ∷ []) ≡ stop_by (cut_on n s.watch).is_passed)
  cut = cut_watched c.role c.limits hs behind n rb refl kept_at.closed begun s.watch says mid_at.stop_is watched

  acks : acks_in (sent (behind ++ Sent g ∷ [])) ++ [] ≡ acks_in (sent behind) ++ []
  acks = ap (λ (t : List (List ℕ)). t ++ []) (no_ack behind g refl)

  abbrev first : State
  first = with_reset_of n why (record (passed f s) { decoder = decoder; block = block })

  abbrev two : List Step
  two = behind ++ Sent g ∷ []

  kept_two : Kept (one_more g (heard f outcomes c)) first.output s.encoder
  kept_two = sends_kept (heard f outcomes c) s.output s.encoder g kept_at refl refl mid_at.stays ([], sym mid_at.acknowledged ∙ sym acks) (λ b e. absurd cc)

  set_two : streams.StandsFor s.set two
  set_two = subst (streams.StandsFor s.set) (sym (append_assoc c.frames (Received f ∷ []) (Sent g ∷ []))) (set_is rb refl)

  going_two : Going first (one_more g (heard f outcomes c)) events []
  going_two =
      going_of first (one_more g (heard f outcomes c)) events []
      (mid_as (record old { place = place_at (s.place + size_of f); decoder = decoder; block = block; watch = cut_on n s.watch }) (one_more g (heard f outcomes c)) events [] first.output s.set s.ended s.encoder
      (mid_push (record old { place = place_at (s.place + size_of f); decoder = decoder; block = block; watch = s.watch }) (heard f outcomes c) g (cut_on n s.watch) events [] [] mid_at acks refl cut.0 cut.1))
      set_two set_role set_limits

  resets_two : ResetsErrors c.role c.limits hs two
  resets_two = resets_error c.role c.limits hs c.frames f g why (resets_known c.role c.limits c.heads outcomes c.frames w.stands.kept.read.enough w.stands.resets) error refl

  stops_none : stop_of c.role c.limits hs behind ≡ None
  stops_none = clear_behind old c f outcomes w decoder block s.watch quiet decodes block_is goes watched w.unpassed

  joined : (us : List Frame) → two ++ map Sent us ≡ c.frames ++ (Received f ∷ map Sent (g ∷ us))
  joined us = append_assoc behind (Sent g ∷ []) (map Sent us) ∙ append_assoc c.frames (Received f ∷ []) (map Sent (g ∷ us))

  reply_with : (us : List Frame) → flat_map frame_text us ≡ (if c.is_holding then [] else credit_text c.role two n (counted f)) → AreReply c.role c.limits c.is_holding hs c.frames f (g ∷ us)
  reply_with us text =
      subst (λ (e : Option ErrorCode). AreReplyBy e c.role c.is_holding c.frames f (g ∷ us)) (sym error)
      (g, us, refl, refl, text ∙ ap (λ (x : List Step). if c.is_holding then [] else credit_text c.role x n (counted f)) (append_assoc c.frames (Received f ∷ []) (Sent g ∷ [])))

  -- with its reset alone, where it counts nothing
  pub error_goes : counted f ≡ 0 → Taken first c (Reset n why ∷ [])
  error_goes none =
      let here : two ++ [] ≡ c.frames ++ (Received f ∷ Sent g ∷ []) = joined [] in
      let flat : two ≡ c.frames ++ (Received f ∷ Sent g ∷ []) = append_assoc c.frames (Received f ∷ []) (Sent g ∷ []) in
      takes first c f outcomes (g ∷ []) events (unrefused old c f outcomes w) w.stands.role_is w.stands.limits_are w.alive w.stands.holding_is
      (subst (λ (x : List Step). Kept (record c { frames = x; heads = hs }) first.output s.encoder) flat kept_two)
      (subst (λ (x : List Step). Going first (record c { frames = x; heads = hs }) (events ++ ends_of s.ended) []) flat
      (subst (λ (o : Option ℕ). Going first (one_more g (heard f outcomes c)) (events ++ ends_of o) []) (sym w.none_ended) going_two))
      (subst (ResetsErrors c.role c.limits hs) flat resets_two)
      (subst (HasCredit s.is_holding c.role c.limits) here
      (credit_here c.role c.limits c.frames f rb refl s.is_holding [] (w.stands.credited w.alive) back
      (λ free. record { all = ap (λ (x : List Step). granted_on 0 (sent x)) (append-nil two) ∙ omega (arith, none); on = λ k live. ap (λ (x : List Step). granted_on k (sent x)) (append-nil two) ∙ plus_none (k == n) (granted_on k (sent two)) (counted f) none })
      (λ held. refl) (λ k. ap (λ (x : List Step). is_live c.role x k) (append-nil two))))
      stops_none
      (reply_with [] (sym (none_text c.is_holding)))
    where
      plus_none : (b : Bool) (m q : ℕ) → q ≡ 0 → m ≡ m + (if b then q else 0)
      plus_none true m q e = omega (arith, e)
      plus_none false m q e = omega arith

      none_text : (b : Bool) → (if b then [] else credit_text c.role two n (counted f)) ≡ []
      none_text true = refl
      none_text false = ap (credit_text c.role two n) none

  -- and with credit
  pub error_credited : Taken (with_credit n first) c (Reset n why ∷ [])
  error_credited =
      let got =
      credit_sends first (one_more g (heard f outcomes c)) n (counted f) (omega arith) (body_of f).stream_in_range (let small = small_count f in omega (arith, small)) events s.encoder kept_two going_two
      (λ free.
      let credited : IsCredited c.role c.limits c.frames = subst (λ (b : Bool). HasCredit b c.role c.limits c.frames) free (w.stands.credited w.alive) in
      (owed_all_here c.role c.limits c.frames f rb refl s.set credited set_two set_limits, owed_none_here c.role c.limits c.frames f rb refl s.set set_two set_role)) in
      let us = got.0 in
      let sends = got.1 in
      let second : State = record first { output = (with_credit n first).output; set = (with_credit n first).set } in
      let same : with_credit n first ≡ second = credit_sides n first in
      subst (λ (t : State). Taken t c events) (sym same)
      (takes second c f outcomes (g ∷ us) events (unrefused old c f outcomes w) w.stands.role_is w.stands.limits_are w.alive w.stands.holding_is
      (subst (λ (x : List Step). Kept (record c { frames = x; heads = hs }) second.output s.encoder) (joined us) sends.kept)
      (subst (λ (x : List Step). Going second (record c { frames = x; heads = hs }) (events ++ ends_of s.ended) []) (joined us)
      (subst (λ (o : Option ℕ). Going second (sent_on us (one_more g (heard f outcomes c))) (events ++ ends_of o) []) (sym w.none_ended)
      (subst (λ (t : State). Going t (sent_on us (one_more g (heard f outcomes c))) events []) same sends.goes)))
      (subst (ResetsErrors c.role c.limits hs) (joined us) (resets_sent c.role c.limits hs two us resets_two))
      (subst (HasCredit s.is_holding c.role c.limits) (joined us)
      (credit_here c.role c.limits c.frames f rb refl s.is_holding us (w.stands.credited w.alive) back sends.grants sends.held sends.live_is))
      stops_none
      (reply_with us (sends.text ∙ ap (λ (b : Bool). if b then [] else credit_text c.role two n (counted f)) (sym w.stands.holding_is))))
